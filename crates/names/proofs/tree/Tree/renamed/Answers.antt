use Rattle.std.proofs.Common.{◌≡◌, ◌∙◌, Err, sym, subst, rules}
use Rattle.directories.specs.Counts.{StaysCounted}
use Rattle.names.specs.Inside.{files_seen, form_seen, Proceeds}
use Rattle.names.proofs.Going.{ends_on, goes_on, stays_on}
use Rattle.directories.specs.Trees.{IsDown}
use Rattle.names.proofs.Entering.{found_fits}
use Rattle.names.proofs.Renamed.{freed_directory, freed_fits, freed_links, lookup_used, renamed_whole}
use Rattle.names.specs.Renaming.{Renames}
use Rattle.names.proofs.tree.Tree.renamed.Given.{Over}
use Rattle.names.proofs.tree.Tree.renamed.Goals as goal

pub unlink-requires : goal.unlink-requires
unlink-requires g c =
    found_fits (form_seen g.D.Disk.image c.args.self.now.kernel) (files_seen g.D.Disk.image c.args.self.now.kernel) c.args.from c.in_ok-bytes.field-0 c.in-Some.bytes
    c.as_slice-3.result.now c.requires.way.sized
    c.in-Some.is c.as_slice-3.ensures c.in_ok-bytes.ensures.found

pub tidy_directory-requires-clause-there : goal.tidy_directory-requires-clause-there
tidy_directory-requires-clause-there g c =
    freed_directory g.D.Disk c.args.self.now.kernel c.directory.new.self.kernel c.entered.new.self.kernel c.args.from c.in-Some-lookup.number c.args.old.now c.in-Some.bytes
    c.as_slice.result.now c.as_slice-3.result.now c.in_ok-bytes.field-0 c.in-Some-unlink.free c.in_ok-_whole._whole c.requires.tree c.in_ok-bytes.ensures.same
    c.in_ok-bytes.ensures.found c.in-Some.is c.as_slice.ensures (sym c.in-Some-lookup.ensures) c.as_slice-3.ensures c.in-Some-unlink.ensures.unlinks
    c.in_ok-_whole.ensures.entered

pub link-requires-clause-used : goal.link-requires-clause-used
link-requires-clause-used g c = lookup_used c.as_slice.result.now c.args.old.now c.in-Some-lookup.number (sym c.in-Some-lookup.ensures)

pub link-requires-clause-size : goal.link-requires-clause-size
link-requires-clause-size g c =
    freed_fits g.D.Disk c.args.self.now.kernel c.directory.new.self.kernel c.entered.new.self.kernel c.args.from c.in-Some-lookup.number c.args.old.now c.in-Some.bytes
    c.as_slice.result.now c.as_slice-3.result.now c.in_ok-bytes.field-0 c.in-Some-unlink.free c.in_ok-_whole._whole c.requires.tree c.in_ok-bytes.ensures.same
    c.in_ok-bytes.ensures.found c.in-Some.is c.as_slice.ensures (sym c.in-Some-lookup.ensures) c.as_slice-3.ensures c.in-Some-unlink.ensures.unlinks
    c.in_ok-_whole.ensures.entered c.args.name.now c.as_slice-2.result.now c.as_slice-2.ensures (sym c.in_default-lookup-2.ensures) c.tidy_directory.new.self.kernel
    c.in_ok-bytes-2.bytes c.as_slice-4.result.now c.in_ok-bytes-2.ensures.same c.in_ok-bytes-2.ensures.bytes c.as_slice-4.ensures

pub unreachable-requires-in_default-link : goal.unreachable-requires-in_default-link
unreachable-requires-in_default-link g c =
    freed_links g.D.Disk c.args.self.now.kernel c.directory.new.self.kernel c.entered.new.self.kernel c.args.from c.in-Some-lookup.number c.args.old.now c.in-Some.bytes
    c.as_slice.result.now c.as_slice-3.result.now c.in_ok-bytes.field-0 c.in-Some-unlink.free c.in_ok-_whole._whole c.requires.tree c.in_ok-bytes.ensures.same
    c.in_ok-bytes.ensures.found c.in-Some.is c.as_slice.ensures (sym c.in-Some-lookup.ensures) c.as_slice-3.ensures c.in-Some-unlink.ensures.unlinks
    c.in_ok-_whole.ensures.entered c.args.name.now c.as_slice-2.result.now c.as_slice-2.ensures (sym c.in_default-lookup-2.ensures) c.tidy_directory.new.self.kernel
    c.in_ok-bytes-2.bytes c.as_slice-4.result.now c.in_ok-bytes-2.ensures.same c.in_ok-bytes-2.ensures.bytes c.as_slice-4.ensures
    c.link.result c.link.ensures.refused c.in_default-link.not-Ok

module _ (g : Over) (c : goal.After-drop-bytes-inside-3 g) where
  whole : Renames c.args.from c.args.old.now c.args.from c.args.name.now tt (files_seen g.D.Disk.image c.args.self.now.kernel)
      (files_seen g.D.Disk.image c.entered-2.new.self.kernel) × StaysCounted (files_seen g.D.Disk.image c.args.self.now.kernel) (files_seen g.D.Disk.image c.entered-2.new.self.kernel)
  whole =
      let down : IsDown c.args.old.now = search rules in
      renamed_whole g.D.Disk c.args.self.now.kernel c.directory.new.self.kernel c.entered.new.self.kernel c.args.from c.in-Some-lookup.number c.args.old.now c.in-Some.bytes
      c.as_slice.result.now c.as_slice-3.result.now c.in_ok-bytes.field-0 c.in-Some-unlink.free c.in_ok-_whole._whole c.requires.tree c.in_ok-bytes.ensures.same
      c.in_ok-bytes.ensures.found c.in-Some.is c.as_slice.ensures (sym c.in-Some-lookup.ensures) c.as_slice-3.ensures c.in-Some-unlink.ensures.unlinks
      c.in_ok-_whole.ensures.entered c.args.name.now c.as_slice-2.result.now c.as_slice-2.ensures (sym c.in_default-lookup-2.ensures) c.tidy_directory.new.self.kernel
      c.in_ok-bytes-2.bytes c.as_slice-4.result.now c.in_ok-bytes-2.ensures.same c.in_ok-bytes-2.ensures.bytes c.as_slice-4.ensures c.entered-2.new.self.kernel down
      c.in-Ok.write c.in_ok-_whole-2._whole c.in-Ok.ensures.links c.in_ok-_whole-2.ensures.entered
      (c.in_ok-bytes-2.ensures.goes.on.opening ∙ c.in_ok-_whole.ensures.goes.on.opening)

pub returns-clause-tree : goal.returns-clause-tree
returns-clause-tree g c = (whole g c).1

pub returns-clause-renamed : goal.returns-clause-renamed
returns-clause-renamed g c = (whole g c).0

pub returns-clause-goes : goal.returns-clause-goes
returns-clause-goes g c =
    let d = g.D.Disk in
    let k = c.args.self.now.kernel in
    let a = c.directory.new.self.kernel in
    let b = c.entered.new.self.kernel in
    let t = c.tidy_directory.new.self.kernel in
    let m = c.entered-2.new.self.kernel in
    let one = goes_on d k a b c.directory.new.self.calls_left c.entered.new.self.calls_left c.in_ok-bytes.ensures.goes.on c.in_ok-_whole.ensures.goes.on in
    let two = goes_on d k b t c.entered.new.self.calls_left c.tidy_directory.new.self.calls_left one c.in_ok-bytes-2.ensures.goes.on in
    let first = stays_on d k a b c.directory.new.self.calls_left c.in_ok-bytes.ensures.goes.on c.directory.ensures.goes.stays c.entered.ensures.goes.stays in
    let second = stays_on d k b t c.entered.new.self.calls_left one first c.tidy_directory.ensures.goes.stays in
    record {
      on = goes_on d k t m c.tidy_directory.new.self.calls_left c.entered-2.new.self.calls_left two c.in_ok-_whole-2.ensures.goes.on;
      stays = stays_on d k t m c.tidy_directory.new.self.calls_left two second c.entered-2.ensures.goes.stays;
      ends = tt;
    }

pub returns-in_err-_whole-2-clause-goes : goal.returns-in_err-_whole-2-clause-goes
returns-in_err-_whole-2-clause-goes g c =
    let d = g.D.Disk in
    let k = c.args.self.now.kernel in
    let a = c.directory.new.self.kernel in
    let b = c.entered.new.self.kernel in
    let t = c.tidy_directory.new.self.kernel in
    let m = c.entered-2.new.self.kernel in
    let one = goes_on d k a b c.directory.new.self.calls_left c.entered.new.self.calls_left c.in_ok-bytes.ensures.goes.on c.in_ok-_whole.ensures.goes.on in
    let two = goes_on d k b t c.entered.new.self.calls_left c.tidy_directory.new.self.calls_left one c.in_ok-bytes-2.ensures.goes.on in
    let first = stays_on d k a b c.directory.new.self.calls_left c.in_ok-bytes.ensures.goes.on c.directory.ensures.goes.stays c.entered.ensures.goes.stays in
    let second = stays_on d k b t c.entered.new.self.calls_left one first c.tidy_directory.ensures.goes.stays in
    let is : c.from_residual-in_err-_whole-2.result ≡ Err c.in_err-_whole-2.field-0.0 = search rules in
    subst (λ r. Proceeds d r k m c.entered-2.new.self.calls_left) (sym is) (record {
      on = tt;
      stays = stays_on d k t m c.tidy_directory.new.self.calls_left two second c.entered-2.ensures.goes.stays;
      ends = ends_on d k t m c.args.self.now.calls_left c.tidy_directory.new.self.calls_left c.entered-2.new.self.calls_left c.in_err-_whole-2.field-0.0
          c.requires.way two c.in_err-_whole-2.ensures.goes.ends;
    })
