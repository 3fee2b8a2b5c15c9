use Rattle.std.proofs.Common.{◌∙◌, ◌++◌, ap, subst, sym, arith}
use Rattle.blocks.specs.Disk.{Image}
use Rattle.blocks.specs.Lemmas.Reads.{reads_then}
use Rattle.model.specs.Log.{recovered}
use Rattle.offline.specs.Lemmas.Checked.{count_recovered}
use Rattle.offline.specs.Recovered.{IsRecoveredOf}
use Rattle.commands_runs.specs.FileLines.{lines_at}
use Rattle.commands_runs.proofs.Lines.{so_far_all, so_far_more}
use Rattle.commands_runs.proofs.file_lines.gather_lines.Goals as goal

pub add_line-requires-clause-recovered : goal.add_line-requires-clause-recovered
add_line-requires-clause-recovered g c =
    subst (λ (z : Image). IsRecoveredOf z c.in_ok-image.image) (sym c.loop-i.invariant.reads.image) c.in_ok-image.ensures.ok.recovered

pub loop-i-preserved : goal.loop-i-preserved
loop-i-preserved g c =
    let x = g.D.Disk.image c.args.disk.now in
    let before = c.loop-i.invariant in
    record {
      reads = reads_then g.D.Disk _ _ _ before.reads c.add_line.ensures.reads;
      added = so_far_more (recovered x) c.loop-i.i c.loop-i.lines.items c.add_line.new.lines.items
          (omega (arith, c.loop-i-test.true, c.loop-i.auto.i-end, count_recovered x c.in_ok-image.image c.in_ok-image.ensures.ok.recovered))
          before.added
          (c.in_ok-add_line.ensures.added ∙ ap (λ (z : Image). c.loop-i.lines.items ++ lines_at (recovered z) c.loop-i.i) before.reads.image);
    }

pub returns : goal.returns
returns g c =
    let x = g.D.Disk.image c.args.disk.now in
    so_far_all (recovered x) c.loop-i.i c.loop-i.lines.items
    (omega (arith, c.loop-i-test.false, c.loop-i.auto.i-end, count_recovered x c.in_ok-image.image c.in_ok-image.ensures.ok.recovered))
    c.loop-i.invariant.added
