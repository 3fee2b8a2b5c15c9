use Rattle.std.proofs.Common.{◌≡◌, ◌∙◌, ◌+◌, arith, refl, subst, sym}
use Rattle.blocks.specs.Disk.{Image}
use Rattle.blocks.specs.Lemmas.Reads.{reads_none, reads_then}
use Rattle.model.specs.Files.{file_in}
use Rattle.model.specs.Layout.{inode_of}
use Rattle.model.specs.Log.{recovered}
use Rattle.transfer.specs.Fitting.{blocks_below, blocks_of}
use Rattle.transfer.specs.Source.{chosen_files}
use Rattle.transfer.proofs.FillingLemmas.{none_chosen}
use Rattle.transfer.proofs.FittingLemmas.{below_first, below_more}
use Rattle.transfer.proofs.fitting.first_unfit.Given.{Over}
use Rattle.transfer.proofs.fitting.first_unfit.Goals.{In_ok-needed}
use Rattle.transfer.proofs.fitting.first_unfit.Goals as goal

pub loop-k-init : goal.loop-k-init
loop-k-init g c =
    let x = g.D.Disk.image c.args.old.now in
    let y = recovered x in
    record {
      reads = reads_none g.D.Disk c.args.old.now;
      faults = refl;
      few = omega arith;
      is = sym (below_first c.args.source.now.form y (chosen_files y c.args.source.now.kinds.items) (none_chosen x c.args.source.now c.requires.source));
    }

module _ (g : Over) (c : In_ok-needed g) where
  -- with one number more
  next : c.loop-k.needed + c.in_ok-needed.field-0 ≡ blocks_below c.args.source.now.form (recovered (g.D.Disk.image c.args.old.now)) (chosen_files (recovered (g.D.Disk.image c.args.old.now)) c.args.source.now.kinds.items) (c.loop-k.k + 1 + 1)
  next =
      let y = recovered (g.D.Disk.image c.args.old.now) in
      let source = c.args.source.now in
      let n = c.loop-k.k + 1 in
      below_more source.form y (chosen_files y source.kinds.items) n c.loop-k.needed c.in_ok-needed.field-0 c.loop-k.invariant.is
      (subst (λ (z : Image). c.in_ok-needed.field-0 ≡ blocks_of source.form (inode_of (recovered z) n).size (file_in (chosen_files (recovered z) source.kinds.items) n)) c.loop-k.invariant.reads.image c.in_ok-needed.ensures.count)

pub returns-then-needed-room-clause-found : goal.returns-then-needed-room-clause-found
returns-then-needed-room-clause-found g c =
    let is = c.loop-k.invariant.is in
    let few = c.loop-k.invariant.few in
    let more = c.if-needed-room.true in
    let all = next g (goal.at.returns-then-needed-room-clause-found g c).In_ok-needed in
    record { before = omega (arith, is, few); more = omega (arith, more, all) }

pub loop-k-preserved : goal.loop-k-preserved
loop-k-preserved g c =
    record {
      reads = reads_then g.D.Disk c.args.old.now c.loop-k.old c.blocks_at.new.old c.loop-k.invariant.reads c.blocks_at.ensures.reads;
      faults = c.in_ok-needed.ensures.faults ∙ c.loop-k.invariant.faults;
      few = c.if-needed-room.false;
      is = next g (goal.at.loop-k-preserved g c).In_ok-needed;
    }
