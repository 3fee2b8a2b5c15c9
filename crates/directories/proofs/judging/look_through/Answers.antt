use Rattle.std.proofs.Common.{◌≡◌, ◌∙◌, ◌+◌, ◌<◌, ◌≤◌, ℕ, Bool, true, false, get_or, length, sym, subst, arith}
use Rattle.blocks.specs.Disk.{Image}
use Rattle.blocks.specs.Common.{get_or_read}
use Rattle.blocks.specs.Lemmas.Reads.{reads_then}
use Rattle.model.specs.Files.{files_of, Files}
use Rattle.model.specs.Log.{recovered}
use Rattle.directories.specs.Checks.{HasFound}
use Rattle.directories.specs.Judging.{IsSeen, TakesIn}
use Rattle.directories.proofs.Judged.{few_looked, next_found, no_tree}
use Rattle.directories.proofs.Looked.{number_inside}
use Rattle.directories.proofs.judging.look_through.Given.{Over}
use Rattle.directories.proofs.judging.look_through.Goals as goal
use Rattle.directories.proofs.judging.look_through.Goals.{In_ok-take_in}

module _ (g : Over) (c : In_ok-take_in g) where
  abbrev fs : Files
  fs = files_of (recovered (g.D.Disk.image c.args.disk.now))

  inside : c.loop-looked.looked < length c.loop-looked.numbers.items
  inside = omega (arith, c.loop-looked-test.true, c.len.ensures)

  few_parents : length c.loop-looked.parents.items ≡ length c.loop-looked.numbers.items
  few_parents = c.loop-looked.invariant.found.few

  number : get_or c.loop-looked.numbers.items c.loop-looked.looked 0 ≡ c.index-number.result.now
  number = sym (get_or_read c.loop-looked.numbers.items c.loop-looked.looked c.index-number.result.now inside c.index-number.ensures 0)

  parent : get_or c.loop-looked.parents.items c.loop-looked.looked 0 ≡ c.index-parent.result.now
  parent = sym (get_or_read c.loop-looked.parents.items c.loop-looked.looked c.index-parent.result.now (omega (arith, inside, few_parents)) c.index-parent.ensures 0)

  seen : IsSeen fs c.index-number.result.now c.in_ok-seen.seen
  seen = subst (λ (n : ℕ). IsSeen fs n c.in_ok-seen.seen) c.from.ensures
      (subst (λ (y : Image). IsSeen (files_of (recovered y)) c.from.result c.in_ok-seen.seen) c.loop-looked.invariant.reads.image c.in_ok-seen.ensures.seen)

  takes : (may : Bool) → c.in_ok-take_in.field-0 ≡ may →
      TakesIn c.in_ok-seen.seen c.index-number.result.now c.index-parent.result.now c.loop-looked.numbers.items c.loop-looked.parents.items c.loop-looked.again.items c.take_in.new.numbers.items c.take_in.new.parents.items c.take_in.new.again.items may
  takes may is =
      subst (λ (b : Bool). TakesIn c.in_ok-seen.seen c.index-number.result.now c.index-parent.result.now c.loop-looked.numbers.items c.loop-looked.parents.items c.loop-looked.again.items c.take_in.new.numbers.items c.take_in.new.parents.items c.take_in.new.again.items b)
      is c.in_ok-take_in.ensures

  next : c.in_ok-take_in.field-0 ≡ true → HasFound fs (c.loop-looked.looked + 1) c.take_in.new.numbers.items c.take_in.new.parents.items c.take_in.new.again.items
  next is =
      next_found fs c.loop-looked.looked c.index-number.result.now c.index-parent.result.now c.loop-looked.numbers.items c.loop-looked.parents.items c.loop-looked.again.items c.take_in.new.numbers.items c.take_in.new.parents.items c.take_in.new.again.items
      c.loop-looked.invariant.found inside number parent c.in_ok-seen.seen seen (takes true is)

pub returns-then-not-branch-clause-looked : goal.returns-then-not-branch-clause-looked
returns-then-not-branch-clause-looked g c =
    let at = (goal.at.returns-then-not-branch-clause-looked g c).In_ok-take_in in
    no_tree (fs g at) c.loop-looked.looked c.index-number.result.now c.index-parent.result.now c.loop-looked.numbers.items c.loop-looked.parents.items c.loop-looked.again.items c.take_in.new.numbers.items c.take_in.new.parents.items c.take_in.new.again.items
    c.loop-looked.invariant.found (inside g at) (number g at) (parent g at) c.in_ok-seen.seen (seen g at) (takes g at false c.if-not-branch.true)

pub loop-looked-smaller : goal.loop-looked-smaller
loop-looked-smaller g c =
    let at = (goal.at.loop-looked-smaller g c).In_ok-take_in in
    let most = c.args.image.now.sup.ninodes in
    let few : c.loop-looked.looked + 1 ≤ most =
    few_looked (fs g at) (c.loop-looked.looked + 1) most c.take_in.new.numbers.items c.take_in.new.parents.items c.take_in.new.again.items (next g at c.if-not-branch.false)
    (λ i there. (number_inside (g.D.Disk.image c.args.disk.now) c.args.image.now c.requires.reader.recovered i there).1) in
    omega (arith, few)

pub loop-looked-preserved : goal.loop-looked-preserved
loop-looked-preserved g c =
    let at = (goal.at.loop-looked-preserved g c).In_ok-take_in in
    let before = c.loop-looked.invariant in
    record {
      reads = reads_then g.D.Disk c.args.disk.now c.loop-looked.disk c.look.new.disk before.reads c.look.ensures.reads;
      faults = c.in_ok-seen.ensures.faults ∙ before.faults;
      found = next g at c.if-not-branch.false;
    }
