use Rattle.std.proofs.Common.{◌∙◌, ◌++◌, ap, subst, sym, arith}
use Rattle.blocks.specs.Disk.{Image}
use Rattle.blocks.specs.Lemmas.Reads.{reads_then}
use Rattle.model.specs.Layout.{inode_count_of}
use Rattle.model.specs.Log.{recovered}
use Rattle.second_lines.specs.Beginnings.{beginning_at}
use Rattle.offline.specs.Checked.{IsCheckedOf}
use Rattle.inspect.specs.Lemmas.Gathered.{all_done, next_done, range_end, range_step}
use Rattle.offline.specs.Lemmas.Checked.{count_recovered}
use Rattle.second_lines.proofs.standing.gather_beginnings.Goals as goal

pub add_beginning-requires-clause-checked : goal.add_beginning-requires-clause-checked
add_beginning-requires-clause-checked g c =
    subst (λ (z : Image). IsCheckedOf z c.in_ok-image.image) (sym c.loop-i.invariant.reads.image) c.in_ok-image.ensures.ok

pub loop-i-preserved : goal.loop-i-preserved
loop-i-preserved g c =
    let x = g.D.Disk.image c.args.disk.now in
    let before = c.loop-i.invariant in
    record {
      reads = reads_then g.D.Disk _ _ _ before.reads c.add_beginning.ensures.reads;
      added = next_done _ _ _ _ _ _ before.added
          (range_step (beginning_at (recovered x) c.args.bytes.now) c.loop-i.i (inode_count_of (recovered x)) (omega (arith, c.loop-i-test.true, c.loop-i.auto.i-end, count_recovered x c.in_ok-image.image c.in_ok-image.ensures.ok.recovered)))
          (c.in_ok-add_beginning.ensures.added ∙ ap (λ (z : Image). c.loop-i.found.items ++ beginning_at (recovered z) c.args.bytes.now c.loop-i.i) before.reads.image);
    }

pub returns : goal.returns
returns g c =
    let x = g.D.Disk.image c.args.disk.now in
    all_done _ _ _ c.loop-i.invariant.added
    (range_end (beginning_at (recovered x) c.args.bytes.now) c.loop-i.i (inode_count_of (recovered x)) (omega (arith, c.loop-i-test.false, c.loop-i.auto.i-end, count_recovered x c.in_ok-image.image c.in_ok-image.ensures.ok.recovered)))
