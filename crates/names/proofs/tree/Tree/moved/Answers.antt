use Rattle.std.proofs.Common.{◌≡◌, ◌∙◌, Result, Err, true, sym, subst, rules}
use Rattle.names.specs.declared.planning.Plan.{Plan}
use Rattle.directories.specs.declared.refusal.Refusal.{Refusal}
use Rattle.directories.specs.Counts.{StaysCounted}
use Rattle.names.specs.Inside.{files_seen, Proceeds}
use Rattle.names.proofs.Blocked.{answered_err, was_short}
use Rattle.names.proofs.Going.{ends_on, goes_on, stays_on}
use Rattle.names.specs.Renaming.{IsPlan, IsPlanned, Renames}
use Rattle.directories.specs.Trees.{directory_in, number_of, IsDirectory}
use Rattle.directories.specs.Writes.{NeedsBlock}
use Rattle.std.specs.Prelude.{None}
use Rattle.names.proofs.Moved.{moved_directory, moved_file, source_there, target_there, unlinked_needs, unlinked_same, unlinked_short}
use Rattle.names.proofs.Staying.{stays_same}
use Rattle.names.proofs.tree.Tree.moved.Given.{Over}
use Rattle.names.proofs.tree.Tree.moved.Goals as goal

module _ (g : Over) (c : goal.Then-not-branch g) where
  plan_of : IsPlan (files_seen g.D.Disk.image c.args.self.now.kernel) c.args.from c.args.old.now c.args.to c.args.name.now c.in-Ok.plan
  plan_of =
      subst (λ (r : Result Plan Refusal). IsPlanned (files_seen g.D.Disk.image c.args.self.now.kernel) c.args.from c.args.old.now c.args.to c.args.name.now r)
      c.in-Ok.is c.in_ok-plan.ensures.planned

  same_files : files_seen g.D.Disk.image c.entered.new.self.kernel ≡ files_seen g.D.Disk.image c.args.self.now.kernel
  same_files =
      unlinked_same g.D.Disk c.args.self.now.kernel c.planned.new.self.kernel c.entered.new.self.kernel c.args.from c.args.to c.args.old.now c.args.name.now c.in-Ok.plan
      c.in_ok-entered.field-0 c.requires.tree c.requires.apart c.in_ok-plan.ensures.same plan_of c.in_ok-entered.ensures.entered
      c.if-not-branch.true

  needs_there : IsDirectory (files_seen g.D.Disk.image c.args.self.now.kernel) c.args.to
      × (number_of (files_seen g.D.Disk.image c.args.self.now.kernel) c.args.to c.args.name.now ≡ None)
      × NeedsBlock (directory_in (files_seen g.D.Disk.image c.args.self.now.kernel) c.args.to)
  needs_there =
      unlinked_needs g.D.Disk c.args.self.now.kernel c.planned.new.self.kernel c.entered.new.self.kernel c.args.from c.args.to c.args.old.now c.args.name.now c.in-Ok.plan
      c.in_ok-entered.field-0 c.requires.tree c.requires.apart c.in_ok-plan.ensures.same plan_of c.in_ok-entered.ensures.entered
      c.if-not-branch.true

pub returns-then-not-branch-clause-tree : goal.returns-then-not-branch-clause-tree
returns-then-not-branch-clause-tree g c = stays_same (files_seen g.D.Disk.image c.args.self.now.kernel) (files_seen g.D.Disk.image c.entered.new.self.kernel) (same_files g c) c.requires.tree

pub returns-then-not-branch-clause-moved : goal.returns-then-not-branch-clause-moved
returns-then-not-branch-clause-moved g c = let needs = needs_there g c in (same_files g c, (c.requires.apart, needs.0, needs.1, needs.2))

module _ (g : Over) (c : goal.In_default g) where
  file_plan : IsPlan (files_seen g.D.Disk.image c.args.self.now.kernel) c.args.from c.args.old.now c.args.to c.args.name.now c.in-Ok.plan
  file_plan =
      subst (λ (r : Result Plan Refusal). IsPlanned (files_seen g.D.Disk.image c.args.self.now.kernel) c.args.from c.args.old.now c.args.to c.args.name.now r)
      c.in-Ok.is c.in_ok-plan.ensures.planned

  file_moved : Renames c.args.from c.args.old.now c.args.to c.args.name.now tt (files_seen g.D.Disk.image c.args.self.now.kernel)
      (files_seen g.D.Disk.image c.entered-2.new.self.kernel) × StaysCounted (files_seen g.D.Disk.image c.args.self.now.kernel) (files_seen g.D.Disk.image c.entered-2.new.self.kernel)
  file_moved =
      let holds : c.in_ok-entered.field-0 ≡ true = search rules in
      moved_file g.D.Disk c.args.self.now.kernel c.planned.new.self.kernel c.entered.new.self.kernel c.args.from c.args.to c.args.old.now c.args.name.now c.in-Ok.plan
      c.in_ok-entered.field-0 c.requires.tree c.requires.apart c.in_ok-plan.ensures.same file_plan c.in_ok-entered.ensures.entered
      c.entered-2.new.self.kernel c.in_ok-_freed._freed holds c.in_ok-_freed.ensures.entered c.in_ok-entered.ensures.goes.on.opening c.in_default.is

pub returns-in_default-clause-tree : goal.returns-in_default-clause-tree
returns-in_default-clause-tree g c = (file_moved g c).1

pub returns-in_default-clause-moved : goal.returns-in_default-clause-moved
returns-in_default-clause-moved g c = (file_moved g c).0

module _ (g : Over) (c : goal.In_ok-_turned g) where
  directory_plan : IsPlan (files_seen g.D.Disk.image c.args.self.now.kernel) c.args.from c.args.old.now c.args.to c.args.name.now c.in-Ok.plan
  directory_plan =
      subst (λ (r : Result Plan Refusal). IsPlanned (files_seen g.D.Disk.image c.args.self.now.kernel) c.args.from c.args.old.now c.args.to c.args.name.now r)
      c.in-Ok.is c.in_ok-plan.ensures.planned

  directory_moved : Renames c.args.from c.args.old.now c.args.to c.args.name.now tt (files_seen g.D.Disk.image c.args.self.now.kernel)
      (files_seen g.D.Disk.image c.entered-3.new.self.kernel) × StaysCounted (files_seen g.D.Disk.image c.args.self.now.kernel) (files_seen g.D.Disk.image c.entered-3.new.self.kernel)
  directory_moved =
      let holds : c.in_ok-entered.field-0 ≡ true = search rules in
      moved_directory g.D.Disk c.args.self.now.kernel c.planned.new.self.kernel c.entered.new.self.kernel c.args.from c.args.to c.args.old.now c.args.name.now c.in-Ok.plan
      c.in_ok-entered.field-0 c.requires.tree c.requires.apart c.in_ok-plan.ensures.same directory_plan c.in_ok-entered.ensures.entered
      c.entered-2.new.self.kernel c.in_ok-_freed._freed holds c.in_ok-_freed.ensures.entered c.in_ok-entered.ensures.goes.on.opening
      c.relinked.new.self.kernel c.relinked-2.new.self.kernel c.entered-3.new.self.kernel c.in-Some.rise c.in_ok-_turned._turned c.in-Some.is
      c.in_ok-relinked.ensures.relinks c.in_ok-relinked-2.ensures.relinks c.in_ok-_turned.ensures.entered
      (c.in_ok-relinked-2.ensures.goes.on.opening ∙ c.in_ok-relinked.ensures.goes.on.opening ∙ c.in_ok-_freed.ensures.goes.on.opening)

pub returns-clause-tree : goal.returns-clause-tree
returns-clause-tree g c = (directory_moved g c).1

pub returns-clause-moved : goal.returns-clause-moved
returns-clause-moved g c = (directory_moved g c).0

pub relinked-requires-clause-there : goal.relinked-requires-clause-there
relinked-requires-clause-there g c =
    let holds : c.in_ok-entered.field-0 ≡ true = search rules in
    let plan : IsPlan (files_seen g.D.Disk.image c.args.self.now.kernel) c.args.from c.args.old.now c.args.to c.args.name.now c.in-Ok.plan =
    subst (λ (r : Result Plan Refusal). IsPlanned (files_seen g.D.Disk.image c.args.self.now.kernel) c.args.from c.args.old.now c.args.to c.args.name.now r)
    c.in-Ok.is c.in_ok-plan.ensures.planned in
    source_there g.D.Disk c.args.self.now.kernel c.planned.new.self.kernel c.entered.new.self.kernel c.args.from c.args.to c.args.old.now c.args.name.now c.in-Ok.plan
    c.in_ok-entered.field-0 c.requires.tree c.requires.apart c.in_ok-plan.ensures.same plan c.in_ok-entered.ensures.entered
    c.entered-2.new.self.kernel c.in_ok-_freed._freed holds c.in_ok-_freed.ensures.entered c.in_ok-entered.ensures.goes.on.opening

pub relinked-requires-2-clause-there : goal.relinked-requires-2-clause-there
relinked-requires-2-clause-there g c =
    let holds : c.in_ok-entered.field-0 ≡ true = search rules in
    let plan : IsPlan (files_seen g.D.Disk.image c.args.self.now.kernel) c.args.from c.args.old.now c.args.to c.args.name.now c.in-Ok.plan =
    subst (λ (r : Result Plan Refusal). IsPlanned (files_seen g.D.Disk.image c.args.self.now.kernel) c.args.from c.args.old.now c.args.to c.args.name.now r)
    c.in-Ok.is c.in_ok-plan.ensures.planned in
    target_there g.D.Disk c.args.self.now.kernel c.planned.new.self.kernel c.entered.new.self.kernel c.args.from c.args.to c.args.old.now c.args.name.now c.in-Ok.plan
    c.in_ok-entered.field-0 c.requires.tree c.requires.apart c.in_ok-plan.ensures.same plan c.in_ok-entered.ensures.entered
    c.entered-2.new.self.kernel c.in_ok-_freed._freed holds c.in_ok-_freed.ensures.entered c.in_ok-entered.ensures.goes.on.opening c.relinked.new.self.kernel c.in-Some.rise.left
    c.in_ok-relinked.ensures.relinks

pub returns-in_err-_turned-clause-goes : goal.returns-in_err-_turned-clause-goes
returns-in_err-_turned-clause-goes g c =
    let d = g.D.Disk in
    let k = c.args.self.now.kernel in
    let a = c.planned.new.self.kernel in
    let b = c.entered.new.self.kernel in
    let e = c.entered-2.new.self.kernel in
    let r = c.relinked.new.self.kernel in
    let t = c.relinked-2.new.self.kernel in
    let m = c.entered-3.new.self.kernel in
    let one = goes_on d k a b c.planned.new.self.calls_left c.entered.new.self.calls_left c.in_ok-plan.ensures.goes.on c.in_ok-entered.ensures.goes.on in
    let two = goes_on d k b e c.entered.new.self.calls_left c.entered-2.new.self.calls_left one c.in_ok-_freed.ensures.goes.on in
    let three = goes_on d k e r c.entered-2.new.self.calls_left c.relinked.new.self.calls_left two c.in_ok-relinked.ensures.goes.on in
    let four = goes_on d k r t c.relinked.new.self.calls_left c.relinked-2.new.self.calls_left three c.in_ok-relinked-2.ensures.goes.on in
    let first = stays_on d k a b c.planned.new.self.calls_left c.in_ok-plan.ensures.goes.on c.planned.ensures.goes.stays c.entered.ensures.goes.stays in
    let second = stays_on d k b e c.entered.new.self.calls_left one first c.entered-2.ensures.goes.stays in
    let third = stays_on d k e r c.entered-2.new.self.calls_left two second c.relinked.ensures.goes.stays in
    let fourth = stays_on d k r t c.relinked.new.self.calls_left three third c.relinked-2.ensures.goes.stays in
    let is : c.from_residual-in_err-_turned.result ≡ Err c.in_err-_turned.field-0.0 = search rules in
    subst (λ x. Proceeds d x k m c.entered-3.new.self.calls_left) (sym is) (record {
      on = tt;
      stays = stays_on d k t m c.relinked-2.new.self.calls_left four fourth c.entered-3.ensures.goes.stays;
      ends = ends_on d k t m c.args.self.now.calls_left c.relinked-2.new.self.calls_left c.entered-3.new.self.calls_left c.in_err-_turned.field-0.0
          c.requires.way four c.in_err-_turned.ensures.goes.ends;
    })

pub returns-clause-goes : goal.returns-clause-goes
returns-clause-goes g c =
    let d = g.D.Disk in
    let k = c.args.self.now.kernel in
    let a = c.planned.new.self.kernel in
    let b = c.entered.new.self.kernel in
    let e = c.entered-2.new.self.kernel in
    let r = c.relinked.new.self.kernel in
    let t = c.relinked-2.new.self.kernel in
    let m = c.entered-3.new.self.kernel in
    let one = goes_on d k a b c.planned.new.self.calls_left c.entered.new.self.calls_left c.in_ok-plan.ensures.goes.on c.in_ok-entered.ensures.goes.on in
    let two = goes_on d k b e c.entered.new.self.calls_left c.entered-2.new.self.calls_left one c.in_ok-_freed.ensures.goes.on in
    let three = goes_on d k e r c.entered-2.new.self.calls_left c.relinked.new.self.calls_left two c.in_ok-relinked.ensures.goes.on in
    let four = goes_on d k r t c.relinked.new.self.calls_left c.relinked-2.new.self.calls_left three c.in_ok-relinked-2.ensures.goes.on in
    let first = stays_on d k a b c.planned.new.self.calls_left c.in_ok-plan.ensures.goes.on c.planned.ensures.goes.stays c.entered.ensures.goes.stays in
    let second = stays_on d k b e c.entered.new.self.calls_left one first c.entered-2.ensures.goes.stays in
    let third = stays_on d k e r c.entered-2.new.self.calls_left two second c.relinked.ensures.goes.stays in
    let fourth = stays_on d k r t c.relinked.new.self.calls_left three third c.relinked-2.ensures.goes.stays in
    record {
      on = goes_on d k t m c.relinked-2.new.self.calls_left c.entered-3.new.self.calls_left four c.in_ok-_turned.ensures.goes.on;
      stays = stays_on d k t m c.relinked-2.new.self.calls_left four fourth c.entered-3.ensures.goes.stays;
      ends = tt;
    }

pub returns-in-Err-clause-no_block : goal.returns-in-Err-clause-no_block
returns-in-Err-clause-no_block g c =
    answered_err g.D.Disk c.args.self.now.kernel c.planned.new.self.kernel c.in_ok-plan.field-0 c.in-Err.refusal c.in-Err.is c.in_ok-plan.ensures.no_block

pub returns-then-not-branch-clause-no_block : goal.returns-then-not-branch-clause-no_block
returns-then-not-branch-clause-no_block g c =
    was_short g.D.Disk c.args.self.now.kernel c.planned.new.self.kernel c.entered.new.self.kernel c.planned.new.self.calls_left c.entered.new.self.calls_left c.in_ok-plan.ensures.goes.on
    c.in_ok-entered.ensures.goes.on
    (unlinked_short g.D.Disk c.args.self.now.kernel c.planned.new.self.kernel c.entered.new.self.kernel c.args.from c.args.to c.args.old.now c.args.name.now c.in-Ok.plan
    c.in_ok-entered.field-0 c.requires.tree c.requires.apart c.in_ok-plan.ensures.same (plan_of g c) c.in_ok-entered.ensures.entered c.if-not-branch.true)
