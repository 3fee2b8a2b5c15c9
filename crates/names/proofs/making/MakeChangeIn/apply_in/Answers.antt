use Rattle.std.proofs.Common.{◌≡◌, ◌∙◌, ℕ, ◌<◌, Option, Result, Err, refl, sym, subst}
use Rattle.model.specs.Files.{Files}
use Rattle.names.specs.Inside.{files_seen, form_seen, Goes, StaysOn}
use Rattle.names.specs.Making.{HasParentCount}
use Rattle.directories.specs.TreeChanges.{IsUnnamed}
use Rattle.directories.specs.TreeLaws.{IsNew}
use Rattle.directories.specs.Trees.{directory_in, IsDirectory}
use Rattle.directories.specs.declared.refusal.Refusal.{Refusal}
use Rattle.names.proofs.Going.{goes_on, stays_on}
use Rattle.names.proofs.Blocked.{answers_err, refused_on, unlinked_no, was_short, was_then}
use Rattle.names.proofs.Entering.{created_new, found_bytes, found_fits, made_needs, made_short, made_there, made_undone, settled_adds, settled_stays}
use Rattle.names.proofs.Moved.{own_is, own_there}
use Rattle.names.proofs.Renamed.{lookup_used}
use Rattle.names.proofs.Staying.{stays_same}
use Rattle.names.proofs.making.MakeChangeIn.apply_in.Given.{Over}
use Rattle.names.proofs.making.MakeChangeIn.apply_in.Goals.{In-Ok-2}
use Rattle.names.proofs.making.MakeChangeIn.apply_in.Goals as goal

pub link-requires-clause-size : goal.link-requires-clause-size
link-requires-clause-size g c =
    found_fits (form_seen g.D.Disk.image c.args.tree.now.kernel) (files_seen g.D.Disk.image c.args.tree.now.kernel) c.args.from c.in_ok-bytes.field-0 c.in-Some.bytes
    c.as_slice.result.now c.requires.way.sized
    c.in-Some.is c.as_slice.ensures c.in_ok-bytes.ensures.found

pub link-requires-2-clause-size : goal.link-requires-2-clause-size
link-requires-2-clause-size g c =
    found_fits (form_seen g.D.Disk.image c.args.tree.now.kernel) (files_seen g.D.Disk.image c.args.tree.now.kernel) c.args.from c.in_ok-bytes.field-0 c.in-Some.bytes
    c.as_slice-3.result.now c.requires.way.sized
    c.in-Some.is c.as_slice-3.ensures c.in_ok-bytes.ensures.found

pub unreachable-requires : goal.unreachable-requires
unreachable-requires g c =
    let fs : Files = files_seen g.D.Disk.image c.args.tree.now.kernel in
    let there = found_bytes fs c.args.from c.in_ok-bytes.field-0 c.in-Some.bytes c.in-Some.is c.in_ok-bytes.ensures.found in
    own_there fs c.args.from c.as_slice-2.result.now c.in-Some.bytes c.own.result c.lookup.result c.requires.tree there.0 there.1 c.as_slice-2.ensures c.own.ensures
    c.lookup.ensures c.in_default-lookup.not-Some

pub create-requires-clause-used : goal.create-requires-clause-used
create-requires-clause-used g c = lookup_used c.as_slice-2.result.now c.own.result c.in-Some-lookup.own (sym c.lookup.ensures ∙ c.in-Some-lookup.is)

-- the transaction goes on up to the file that was made
module _ (g : Over) (c : In-Ok-2 g) where
  looks_go : Goes g.D.Disk c.args.tree.now.kernel c.parent_count.new.self.kernel c.parent_count.new.self.calls_left
  looks_go =
      goes_on g.D.Disk c.args.tree.now.kernel c.directory.new.self.kernel c.parent_count.new.self.kernel c.directory.new.self.calls_left c.parent_count.new.self.calls_left
      c.in_ok-bytes.ensures.goes.on c.in_ok-count.ensures.goes.on

  looks_stay : StaysOn g.D.Disk c.args.tree.now.kernel c.parent_count.new.self.kernel
  looks_stay =
      stays_on g.D.Disk c.args.tree.now.kernel c.directory.new.self.kernel c.parent_count.new.self.kernel c.directory.new.self.calls_left c.in_ok-bytes.ensures.goes.on
      c.directory.ensures.goes.stays c.parent_count.ensures.goes.stays

  creates_goes : Goes g.D.Disk c.args.tree.now.kernel c.create.new.tree.kernel c.create.new.tree.calls_left
  creates_goes =
      goes_on g.D.Disk c.args.tree.now.kernel c.parent_count.new.self.kernel c.create.new.tree.kernel c.parent_count.new.self.calls_left c.create.new.tree.calls_left looks_go
      c.in_ok-number.ensures.goes.on

  creates_stays : StaysOn g.D.Disk c.args.tree.now.kernel c.create.new.tree.kernel
  creates_stays =
      stays_on g.D.Disk c.args.tree.now.kernel c.parent_count.new.self.kernel c.create.new.tree.kernel c.parent_count.new.self.calls_left looks_go looks_stay
      c.create.ensures.goes.stays

-- the directory's own number, and the file that was made
module _ (g : Over) (c : In-Ok-2 g) where
  abbrev fs : Files
  fs = files_seen g.D.Disk.image c.args.tree.now.kernel

  there : IsDirectory fs c.args.from × (c.in-Some.bytes ≡ directory_in fs c.args.from)
  there = found_bytes fs c.args.from c.in_ok-bytes.field-0 c.in-Some.bytes c.in-Some.is c.in_ok-bytes.ensures.found

  own : c.in-Some-lookup.own ≡ c.args.from
  own = own_is fs c.args.from c.as_slice-2.result.now c.in-Some.bytes c.own.result c.lookup.result c.requires.tree there.0 there.1 c.as_slice-2.ensures c.own.ensures
      c.lookup.ensures c.in-Some-lookup.own c.in-Some-lookup.is

  made : IsUnnamed (files_seen g.D.Disk.image c.parent_count.new.self.kernel) (files_seen g.D.Disk.image c.create.new.tree.kernel) c.in-Ok-2.number
      (g.N.New.file c.args.self.now.kind c.in-Ok-2.number c.args.from)
      × IsNew (g.N.New.file c.args.self.now.kind c.in-Ok-2.number c.args.from) c.in-Ok-2.number c.args.from × (0 < c.in-Ok-2.number)
  made =
      created_new (g.N.New.blocks c.args.self.now.kind) (g.N.New.file c.args.self.now.kind) c.in-Some-lookup.own c.args.from
      (files_seen g.D.Disk.image c.parent_count.new.self.kernel) (files_seen g.D.Disk.image c.create.new.tree.kernel) c.in_ok-number.field-0 c.in-Ok-2.number own
      c.in-Ok-2.is c.in_ok-number.ensures.made

pub returns-then-branch-clause-tree : goal.returns-then-branch-clause-tree
returns-then-branch-clause-tree g c =
    let made_it = made g (goal.at.returns-then-branch-clause-tree g c).In-Ok-2 in
    settled_stays g.D.Disk c.args.tree.now.kernel c.parent_count.new.self.kernel c.create.new.tree.kernel c.entered.new.self.kernel c.args.from c.in-Ok-2.number c.args.name.now
    c.in-Some.bytes c.as_slice-3.result.now ((g.N.New.file c.args.self.now.kind) c.in-Ok-2.number c.args.from) c.in_ok-bytes.field-0 c.in-Ok-link.write c.in_ok-entered.field-0 c.requires.tree
    (c.in_ok-count.ensures.same ∙ c.in_ok-bytes.ensures.same) c.in_ok-bytes.ensures.found c.in-Some.is made_it.1
    made_it.0 c.as_slice-3.ensures
    c.in-Ok-link.ensures.links c.in-Ok-link.ensures.room c.in_ok-entered.ensures.entered
    c.settled.new.self.kernel c.is_directory.result c.in-Ok.count c.in_ok-count.field-0 c.in-Ok.is
    (subst (λ (f : Files). HasParentCount c.is_directory.result f c.args.from c.in_ok-count.field-0) c.in_ok-bytes.ensures.same c.in_ok-count.ensures.told) (c.is_directory.ensures.new c.in-Ok-2.number c.args.from) c.in_ok-settled.ensures.settles c.if-branch.true

pub returns-then-branch-clause-made : goal.returns-then-branch-clause-made
returns-then-branch-clause-made g c =
    let made_it = made g (goal.at.returns-then-branch-clause-made g c).In-Ok-2 in
    settled_adds g.D.Disk c.args.tree.now.kernel c.parent_count.new.self.kernel c.create.new.tree.kernel c.entered.new.self.kernel c.args.from c.in-Ok-2.number c.args.name.now
    c.in-Some.bytes c.as_slice-3.result.now ((g.N.New.file c.args.self.now.kind) c.in-Ok-2.number c.args.from) c.in_ok-bytes.field-0 c.in-Ok-link.write c.in_ok-entered.field-0 c.requires.tree
    (c.in_ok-count.ensures.same ∙ c.in_ok-bytes.ensures.same) c.in_ok-bytes.ensures.found c.in-Some.is made_it.1
    made_it.0 c.as_slice-3.ensures
    c.in-Ok-link.ensures.links c.in-Ok-link.ensures.room c.in_ok-entered.ensures.entered
    c.settled.new.self.kernel c.is_directory.result c.in-Ok.count c.in_ok-count.field-0 c.in-Ok.is
    (subst (λ (f : Files). HasParentCount c.is_directory.result f c.args.from c.in_ok-count.field-0) c.in_ok-bytes.ensures.same c.in_ok-count.ensures.told) (c.is_directory.ensures.new c.in-Ok-2.number c.args.from) c.in_ok-settled.ensures.settles c.if-branch.true

pub returns-clause-tree : goal.returns-clause-tree
returns-clause-tree g c =
    let made_it = made g (goal.at.returns-clause-tree g c).In-Ok-2 in
    let same : files_seen g.D.Disk.image c.uncreated.new.self.kernel ≡ files_seen g.D.Disk.image c.args.tree.now.kernel =
    made_undone g.D.Disk c.args.tree.now.kernel c.parent_count.new.self.kernel c.create.new.tree.kernel c.entered.new.self.kernel c.args.from c.in-Ok-2.number c.args.name.now
    c.in-Some.bytes c.as_slice-3.result.now ((g.N.New.file c.args.self.now.kind) c.in-Ok-2.number c.args.from) c.in_ok-bytes.field-0 c.in-Ok-link.write c.in_ok-entered.field-0 c.requires.tree
    (c.in_ok-count.ensures.same ∙ c.in_ok-bytes.ensures.same) c.in_ok-bytes.ensures.found c.in-Some.is made_it.1
    made_it.0 c.as_slice-3.ensures
    c.in-Ok-link.ensures.links c.in-Ok-link.ensures.room c.in_ok-entered.ensures.entered
    c.uncreated.new.self.kernel c.from.result c.from.ensures c.if-branch.false c.in_ok-uncreated.ensures.undoes in
    stays_same (files_seen g.D.Disk.image c.args.tree.now.kernel) (files_seen g.D.Disk.image c.uncreated.new.self.kernel) same c.requires.tree

pub returns-clause-made : goal.returns-clause-made
returns-clause-made g c =
    let made_it = made g (goal.at.returns-clause-made g c).In-Ok-2 in (
      made_undone g.D.Disk c.args.tree.now.kernel c.parent_count.new.self.kernel c.create.new.tree.kernel c.entered.new.self.kernel c.args.from c.in-Ok-2.number c.args.name.now
          c.in-Some.bytes c.as_slice-3.result.now ((g.N.New.file c.args.self.now.kind) c.in-Ok-2.number c.args.from) c.in_ok-bytes.field-0 c.in-Ok-link.write c.in_ok-entered.field-0 c.requires.tree
          (c.in_ok-count.ensures.same ∙ c.in_ok-bytes.ensures.same) c.in_ok-bytes.ensures.found c.in-Some.is made_it.1
          made_it.0 c.as_slice-3.ensures
          c.in-Ok-link.ensures.links c.in-Ok-link.ensures.room c.in_ok-entered.ensures.entered
          c.uncreated.new.self.kernel c.from.result c.from.ensures c.if-branch.false c.in_ok-uncreated.ensures.undoes,
      made_needs g.D.Disk c.args.tree.now.kernel c.parent_count.new.self.kernel c.create.new.tree.kernel c.entered.new.self.kernel c.args.from c.in-Ok-2.number c.args.name.now
          c.in-Some.bytes c.as_slice-3.result.now ((g.N.New.file c.args.self.now.kind) c.in-Ok-2.number c.args.from) c.in_ok-bytes.field-0 c.in-Ok-link.write c.in_ok-entered.field-0 c.requires.tree
          (c.in_ok-count.ensures.same ∙ c.in_ok-bytes.ensures.same) c.in_ok-bytes.ensures.found c.in-Some.is made_it.1
          made_it.0 c.as_slice-3.ensures
          c.in-Ok-link.ensures.links c.in-Ok-link.ensures.room c.in_ok-entered.ensures.entered (g.N.New.blocks c.args.self.now.kind) c.if-branch.false,
    )

pub settled-requires-clause-there : goal.settled-requires-clause-there
settled-requires-clause-there g c =
    let made_it = made g (goal.at.settled-requires-clause-there g c).In-Ok-2 in
    made_there g.D.Disk c.args.tree.now.kernel c.parent_count.new.self.kernel c.create.new.tree.kernel c.entered.new.self.kernel c.args.from c.in-Ok-2.number c.args.name.now
    c.in-Some.bytes c.as_slice-3.result.now ((g.N.New.file c.args.self.now.kind) c.in-Ok-2.number c.args.from) c.in_ok-bytes.field-0 c.in-Ok-link.write c.in_ok-entered.field-0 c.requires.tree
    (c.in_ok-count.ensures.same ∙ c.in_ok-bytes.ensures.same) c.in_ok-bytes.ensures.found c.in-Some.is made_it.1
    made_it.0 c.as_slice-3.ensures
    c.in-Ok-link.ensures.links c.in-Ok-link.ensures.room c.in_ok-entered.ensures.entered c.if-branch.true

pub returns-in-Err-clause-no_block : goal.returns-in-Err-clause-no_block
returns-in-Err-clause-no_block g c = λ tells.
    answers_err g.D.Disk c.args.tree.now.kernel c.directory.new.self.kernel c.unlinked.result (λ is. unlinked_no c.in-Err.fault (sym c.unlinked.ensures ∙ is))

pub returns-in-Err-2-clause-no_block : goal.returns-in-Err-2-clause-no_block
returns-in-Err-2-clause-no_block g c = λ tells.
    let why = subst (λ (r : Result (Option ℕ) Refusal). HasParentCount c.is_directory.result (files_seen g.D.Disk.image c.directory.new.self.kernel) c.args.from r) c.in-Err-2.is c.in_ok-count.ensures.told in
    answers_err g.D.Disk c.args.tree.now.kernel c.parent_count.new.self.kernel c.in-Err-2.refusal (λ is. let both = sym why.1 ∙ is in cc both)

pub returns-in-Err-3-clause-no_block : goal.returns-in-Err-3-clause-no_block
returns-in-Err-3-clause-no_block g c = λ tells.
    let looks =
    goes_on g.D.Disk c.args.tree.now.kernel c.directory.new.self.kernel c.parent_count.new.self.kernel c.directory.new.self.calls_left c.parent_count.new.self.calls_left
    c.in_ok-bytes.ensures.goes.on c.in_ok-count.ensures.goes.on in
    refused_on g.D.Disk c.args.tree.now.kernel c.parent_count.new.self.kernel c.create.new.tree.kernel c.parent_count.new.self.calls_left c.in_ok-number.field-0 c.in-Err-3.refusal
    looks c.in-Err-3.is (c.in_ok-number.ensures.no_block tells)

pub returns-clause-no_block : goal.returns-clause-no_block
returns-clause-no_block g c = λ tells.
    let made_it = made g (goal.at.returns-clause-no_block g c).In-Ok-2 in
    let creates = creates_goes g (goal.at.returns-clause-no_block g c).In-Ok-2 in
    was_then g.D.Disk c.args.tree.now.kernel c.entered.new.self.kernel c.uncreated.new.self.kernel c.in_ok-uncreated.ensures.goes.on.reached
    (was_short g.D.Disk c.args.tree.now.kernel c.create.new.tree.kernel c.entered.new.self.kernel c.create.new.tree.calls_left c.entered.new.self.calls_left creates c.in_ok-entered.ensures.goes.on
    (made_short g.D.Disk c.args.tree.now.kernel c.parent_count.new.self.kernel c.create.new.tree.kernel c.entered.new.self.kernel c.args.from c.in-Ok-2.number c.args.name.now
    c.in-Some.bytes c.as_slice-3.result.now ((g.N.New.file c.args.self.now.kind) c.in-Ok-2.number c.args.from) c.in_ok-bytes.field-0 c.in-Ok-link.write c.in_ok-entered.field-0 c.requires.tree
    (c.in_ok-count.ensures.same ∙ c.in_ok-bytes.ensures.same) c.in_ok-bytes.ensures.found c.in-Some.is made_it.1
    made_it.0 c.as_slice-3.ensures
    c.in-Ok-link.ensures.links c.in-Ok-link.ensures.room c.in_ok-entered.ensures.entered c.if-branch.false))

pub returns-then-branch-clause-goes : goal.returns-then-branch-clause-goes
returns-then-branch-clause-goes g c =
    let d = g.D.Disk in
    let k = c.args.tree.now.kernel in
    let creates = creates_goes g (goal.at.returns-then-branch-clause-goes g c).In-Ok-2 in
    let stays = creates_stays g (goal.at.returns-then-branch-clause-goes g c).In-Ok-2 in
    let enters = goes_on d k c.create.new.tree.kernel c.entered.new.self.kernel c.create.new.tree.calls_left c.entered.new.self.calls_left creates c.in_ok-entered.ensures.goes.on in
    record {
      on = goes_on d k c.entered.new.self.kernel c.settled.new.self.kernel c.entered.new.self.calls_left c.settled.new.self.calls_left enters c.in_ok-settled.ensures.goes.on;
      stays = stays_on d k c.entered.new.self.kernel c.settled.new.self.kernel c.entered.new.self.calls_left enters
          (stays_on d k c.create.new.tree.kernel c.entered.new.self.kernel c.create.new.tree.calls_left creates stays c.entered.ensures.goes.stays) c.settled.ensures.goes.stays;
      ends = tt;
    }

pub returns-clause-goes : goal.returns-clause-goes
returns-clause-goes g c =
    let d = g.D.Disk in
    let k = c.args.tree.now.kernel in
    let creates = creates_goes g (goal.at.returns-clause-goes g c).In-Ok-2 in
    let stays = creates_stays g (goal.at.returns-clause-goes g c).In-Ok-2 in
    let enters = goes_on d k c.create.new.tree.kernel c.entered.new.self.kernel c.create.new.tree.calls_left c.entered.new.self.calls_left creates c.in_ok-entered.ensures.goes.on in
    record {
      on = goes_on d k c.entered.new.self.kernel c.uncreated.new.self.kernel c.entered.new.self.calls_left c.uncreated.new.self.calls_left enters c.in_ok-uncreated.ensures.goes.on;
      stays = stays_on d k c.entered.new.self.kernel c.uncreated.new.self.kernel c.entered.new.self.calls_left enters
          (stays_on d k c.create.new.tree.kernel c.entered.new.self.kernel c.create.new.tree.calls_left creates stays c.entered.ensures.goes.stays) c.uncreated.ensures.goes.stays;
      ends = tt;
    }
