use Rattle.std.proofs.Common.{◌≡◌, ◌∙◌, Err, refl, subst, sym, rules}
use Rattle.model.specs.Files.{Files}
use Rattle.names.specs.Inside.{files_seen, form_seen, Goes, Proceeds, StaysOn}
use Rattle.directories.specs.Trees.{directory_in, IsDirectory, IsDown}
use Rattle.names.proofs.Blocked.{answers_err, rises_no, unlinked_no}
use Rattle.names.proofs.Entering.{found_fits}
use Rattle.names.proofs.Going.{ends_on, goes_on, stays_on}
use Rattle.names.proofs.Moved.{not_root, own_directory, own_is, own_there, plan_inside, plan_is, source_counts, target_in}
use Rattle.names.proofs.Renamed.{lookup_used}
use Rattle.names.proofs.tree.Tree.planned.Given.{Over}
use Rattle.names.proofs.tree.Tree.planned.Goals.{After-from-file}
use Rattle.names.proofs.tree.Tree.planned.Goals as goal

pub unlink-requires : goal.unlink-requires
unlink-requires g c =
    found_fits (form_seen g.D.Disk.image c.args.self.now.kernel) (files_seen g.D.Disk.image c.args.self.now.kernel) c.args.from c.in_ok-bytes.field-0 c.in-Some.bytes
    c.as_slice-2.result.now c.requires.way.sized
    c.in-Some.is c.as_slice-2.ensures c.in_ok-bytes.ensures.found

pub link-requires-clause-used : goal.link-requires-clause-used
link-requires-clause-used g c = lookup_used c.as_slice.result.now c.args.old.now c.in-Some-lookup.number (sym c.in-Some-lookup.ensures)

pub link-requires-clause-size : goal.link-requires-clause-size
link-requires-clause-size g c =
    found_fits (form_seen g.D.Disk.image c.directory.new.self.kernel) (files_seen g.D.Disk.image c.directory.new.self.kernel) c.args.to c.in_ok-bytes-2.field-0
    c.in-Some-2.bytes c.as_slice-3.result.now c.in_ok-bytes.ensures.goes.on.way.sized c.in-Some-2.is c.as_slice-3.ensures c.in_ok-bytes-2.ensures.found

pub unreachable-requires-in_default-lookup-2 : goal.unreachable-requires-in_default-lookup-2
unreachable-requires-in_default-lookup-2 g c =
    let fs : Files = files_seen g.D.Disk.image c.args.self.now.kernel in
    let target = target_in fs (files_seen g.D.Disk.image c.directory.new.self.kernel) c.args.to c.in_ok-bytes-2.field-0 c.in-Some-2.bytes c.in_ok-bytes.ensures.same
    c.in-Some-2.is c.in_ok-bytes-2.ensures.found in
    own_there fs c.args.to c.as_slice-4.result.now c.in-Some-2.bytes c.own.result c.lookup-2.result c.requires.tree target.0 target.1 c.as_slice-4.ensures c.own.ensures
    c.lookup-2.ensures c.in_default-lookup-2.not-Some

-- the file whose name moves, and the directory that it moves to
module _ (g : Over) (c : After-from-file g) where
  abbrev fs : Files
  fs = files_seen g.D.Disk.image c.args.self.now.kernel

  target : IsDirectory fs c.args.to × (c.in-Some-2.bytes ≡ directory_in fs c.args.to)
  target = target_in fs (files_seen g.D.Disk.image c.directory.new.self.kernel) c.args.to c.in_ok-bytes-2.field-0 c.in-Some-2.bytes c.in_ok-bytes.ensures.same
      c.in-Some-2.is c.in_ok-bytes-2.ensures.found

  down : IsDown c.args.old.now
  down = search rules

  own : c.in-Some-lookup-2.own ≡ c.args.to
  own = own_is fs c.args.to c.as_slice-4.result.now c.in-Some-2.bytes c.own.result c.lookup-2.result c.requires.tree target.0 target.1 c.as_slice-4.ensures c.own.ensures
      c.lookup-2.ensures c.in-Some-lookup-2.own c.in-Some-lookup-2.is

-- the transaction goes on behind both directories
module _ (g : Over) (c : After-from-file g) where
  both_go : Goes g.D.Disk c.args.self.now.kernel c.directory-2.new.self.kernel c.directory-2.new.self.calls_left
  both_go = goes_on g.D.Disk c.args.self.now.kernel c.directory.new.self.kernel c.directory-2.new.self.kernel c.directory.new.self.calls_left c.directory-2.new.self.calls_left c.in_ok-bytes.ensures.goes.on c.in_ok-bytes-2.ensures.goes.on

  both_stay : StaysOn g.D.Disk c.args.self.now.kernel c.directory-2.new.self.kernel
  both_stay = stays_on g.D.Disk c.args.self.now.kernel c.directory.new.self.kernel c.directory-2.new.self.kernel c.directory.new.self.calls_left c.in_ok-bytes.ensures.goes.on c.directory.ensures.goes.stays c.directory-2.ensures.goes.stays

pub returns-in_err-rise-clause-goes : goal.returns-in_err-rise-clause-goes
returns-in_err-rise-clause-goes g c =
    let a = (goal.at.returns-in_err-rise-clause-goes g c).After-from-file in
    let is : c.from_residual-in_err-rise.result ≡ Err c.in_err-rise.field-0.0 = search rules in
    subst (λ r. Proceeds g.D.Disk r c.args.self.now.kernel c.rise.new.self.kernel c.rise.new.self.calls_left) (sym is) (record {
      on = tt;
      stays = stays_on g.D.Disk c.args.self.now.kernel c.directory-2.new.self.kernel c.rise.new.self.kernel c.directory-2.new.self.calls_left (both_go g a) (both_stay g a) c.rise.ensures.goes.stays;
      ends = ends_on g.D.Disk c.args.self.now.kernel c.directory-2.new.self.kernel c.rise.new.self.kernel c.args.self.now.calls_left c.directory-2.new.self.calls_left c.rise.new.self.calls_left c.in_err-rise.field-0.0 c.requires.way (both_go g a) c.in_err-rise.ensures.goes.ends;
    })

pub returns-in-Ok-2-clause-goes : goal.returns-in-Ok-2-clause-goes
returns-in-Ok-2-clause-goes g c =
    let a = (goal.at.returns-in-Ok-2-clause-goes g c).After-from-file in
    record {
      on = goes_on g.D.Disk c.args.self.now.kernel c.directory-2.new.self.kernel c.rise.new.self.kernel c.directory-2.new.self.calls_left c.rise.new.self.calls_left (both_go g a) c.in_ok-rise.ensures.goes.on;
      stays = stays_on g.D.Disk c.args.self.now.kernel c.directory-2.new.self.kernel c.rise.new.self.kernel c.directory-2.new.self.calls_left (both_go g a) (both_stay g a) c.rise.ensures.goes.stays;
      ends = tt;
    }

pub returns-clause-goes : goal.returns-clause-goes
returns-clause-goes g c =
    let a = (goal.at.returns-clause-goes g c).After-from-file in
    record {
      on = goes_on g.D.Disk c.args.self.now.kernel c.directory-2.new.self.kernel c.rise.new.self.kernel c.directory-2.new.self.calls_left c.rise.new.self.calls_left (both_go g a) c.in_ok-rise.ensures.goes.on;
      stays = stays_on g.D.Disk c.args.self.now.kernel c.directory-2.new.self.kernel c.rise.new.self.kernel c.directory-2.new.self.calls_left (both_go g a) (both_stay g a) c.rise.ensures.goes.stays;
      ends = tt;
    }

pub rise-requires-clause-there : goal.rise-requires-clause-there
rise-requires-clause-there g c =
    let a = (goal.at.rise-requires-clause-there g c).After-from-file in
    own_directory (fs g a) (files_seen g.D.Disk.image c.directory.new.self.kernel) (files_seen g.D.Disk.image c.directory-2.new.self.kernel) c.args.from c.args.to c.in-Some-lookup.number
    c.from-file.result c.in-Some-lookup-2.own c.args.old.now c.args.name.now c.in-Some.bytes c.as_slice.result.now c.as_slice-2.result.now c.in-Some-2.bytes
    c.as_slice-3.result.now c.in_ok-bytes.field-0 c.in_ok-bytes-2.field-0 c.requires.tree c.requires.apart (down g a) c.in_ok-bytes.ensures.same c.in_ok-bytes-2.ensures.same
    c.in_ok-bytes.ensures.found c.in-Some.is c.as_slice.ensures c.as_slice-2.ensures (sym c.in-Some-lookup.ensures) c.from-file.ensures (own g a) (target g a) c.as_slice-3.ensures

pub rise-requires-clause-below : goal.rise-requires-clause-below
rise-requires-clause-below g c =
    let a = (goal.at.rise-requires-clause-below g c).After-from-file in
    not_root (fs g a) (files_seen g.D.Disk.image c.directory.new.self.kernel) (files_seen g.D.Disk.image c.directory-2.new.self.kernel) c.args.from c.args.to c.in-Some-lookup.number
    c.from-file.result c.in-Some-lookup-2.own c.args.old.now c.args.name.now c.in-Some.bytes c.as_slice.result.now c.as_slice-2.result.now c.in-Some-2.bytes
    c.as_slice-3.result.now c.in_ok-bytes.field-0 c.in_ok-bytes-2.field-0 c.requires.tree c.requires.apart (down g a) c.in_ok-bytes.ensures.same c.in_ok-bytes-2.ensures.same
    c.in_ok-bytes.ensures.found c.in-Some.is c.as_slice.ensures c.as_slice-2.ensures (sym c.in-Some-lookup.ensures) c.from-file.ensures (own g a) (target g a) c.as_slice-3.ensures

pub rise-requires-clause-parent : goal.rise-requires-clause-parent
rise-requires-clause-parent g c =
    let a = (goal.at.rise-requires-clause-parent g c).After-from-file in
    source_counts (fs g a) (files_seen g.D.Disk.image c.directory.new.self.kernel) (files_seen g.D.Disk.image c.directory-2.new.self.kernel) c.args.from c.args.to c.in-Some-lookup.number
    c.from-file.result c.in-Some-lookup-2.own c.args.old.now c.args.name.now c.in-Some.bytes c.as_slice.result.now c.as_slice-2.result.now c.in-Some-2.bytes
    c.as_slice-3.result.now c.in_ok-bytes.field-0 c.in_ok-bytes-2.field-0 c.requires.tree c.requires.apart (down g a) c.in_ok-bytes.ensures.same c.in_ok-bytes-2.ensures.same
    c.in_ok-bytes.ensures.found c.in-Some.is c.as_slice.ensures c.as_slice-2.ensures (sym c.in-Some-lookup.ensures) c.from-file.ensures (own g a) (target g a) c.as_slice-3.ensures c.requires.counted

pub returns-in-Ok-2-clause-planned : goal.returns-in-Ok-2-clause-planned
returns-in-Ok-2-clause-planned g c =
    let a = (goal.at.returns-in-Ok-2-clause-planned g c).After-from-file in
    plan_is (fs g a) (files_seen g.D.Disk.image c.directory.new.self.kernel) (files_seen g.D.Disk.image c.directory-2.new.self.kernel) c.args.from c.args.to c.in-Some-lookup.number
    c.from-file.result c.in-Some-lookup-2.own c.args.old.now c.args.name.now c.in-Some.bytes c.as_slice.result.now c.as_slice-2.result.now c.in-Some-2.bytes
    c.as_slice-3.result.now c.in_ok-bytes.field-0 c.in_ok-bytes-2.field-0 c.requires.tree c.requires.apart (down g a) c.in_ok-bytes.ensures.same c.in_ok-bytes-2.ensures.same
    c.in_ok-bytes.ensures.found c.in-Some.is c.as_slice.ensures c.as_slice-2.ensures (sym c.in-Some-lookup.ensures) c.from-file.ensures (own g a) (target g a) c.as_slice-3.ensures
    c.in_ok-rise.field-0 c.in_ok-rise.ensures.rises c.in-Ok-2.rise c.in-Ok.write c.in-Some-unlink.freeing c.in-Ok-2.is c.in-Ok.ensures.links c.in-Ok.ensures.room c.in-Ok.ensures.within
    c.in-Some-unlink.ensures.unlinks c.in-Some-unlink.ensures.within

pub returns-clause-planned : goal.returns-clause-planned
returns-clause-planned g c =
    let a = (goal.at.returns-clause-planned g c).After-from-file in
    plan_inside (fs g a) (files_seen g.D.Disk.image c.directory.new.self.kernel) (files_seen g.D.Disk.image c.directory-2.new.self.kernel) c.args.from c.args.to c.in-Some-lookup.number
    c.from-file.result c.in-Some-lookup-2.own c.args.old.now c.args.name.now c.in-Some.bytes c.as_slice.result.now c.as_slice-2.result.now c.in-Some-2.bytes
    c.as_slice-3.result.now c.in_ok-bytes.field-0 c.in_ok-bytes-2.field-0 c.requires.tree c.requires.apart (down g a) c.in_ok-bytes.ensures.same c.in_ok-bytes-2.ensures.same
    c.in_ok-bytes.ensures.found c.in-Some.is c.as_slice.ensures c.as_slice-2.ensures (sym c.in-Some-lookup.ensures) c.from-file.ensures (own g a) (target g a) c.as_slice-3.ensures
    c.in_ok-rise.field-0 c.in_ok-rise.ensures.rises c.in-Err-2.refusal c.in-Err-2.is

pub returns-in-Err-clause-no_block : goal.returns-in-Err-clause-no_block
returns-in-Err-clause-no_block g c =
    answers_err g.D.Disk c.args.self.now.kernel c.directory-2.new.self.kernel c.unlinked.result (λ is. unlinked_no c.in-Err.fault (sym c.unlinked.ensures ∙ is))

pub returns-clause-no_block : goal.returns-clause-no_block
returns-clause-no_block g c =
    answers_err g.D.Disk c.args.self.now.kernel c.rise.new.self.kernel c.in-Err-2.refusal
    (rises_no (files_seen g.D.Disk.image c.directory-2.new.self.kernel) c.from-file.result c.args.from c.in-Some-lookup-2.own c.in_ok-rise.field-0 c.in-Err-2.refusal c.in-Err-2.is c.in_ok-rise.ensures.rises)
