use Rattle.std.proofs.Common.{◌∙◌, ◌++◌, ap, subst, sym, arith}
use Rattle.blocks.specs.Disk.{Image}
use Rattle.blocks.specs.Lemmas.Reads.{reads_then}
use Rattle.model.specs.Layout.{inode_count_of}
use Rattle.model.specs.Log.{recovered}
use Rattle.offline.specs.Checked.{IsCheckedOf}
use Rattle.inspect.specs.Listing.{rows_at}
use Rattle.inspect.proofs.CauseLemmas.{passed_on}
use Rattle.inspect.specs.Lemmas.Gathered.{all_done, next_done, range_end, range_step}
use Rattle.offline.specs.Lemmas.Checked.{count_recovered}
use Rattle.inspect.proofs.listing.gather_rows.Goals as goal

pub add_row-requires-clause-checked : goal.add_row-requires-clause-checked
add_row-requires-clause-checked g c =
    subst (λ (z : Image). IsCheckedOf z c.in_ok-image.image) (sym c.loop-i.invariant.reads.image) c.in_ok-image.ensures.ok

pub returns-in_err-add_row-clause-faults : goal.returns-in_err-add_row-clause-faults
returns-in_err-add_row-clause-faults g c =
    let count = g.D.Disk.fault_count in
    passed_on c.from_residual-in_err-add_row.result c.in_err-add_row.field-0.0 (count c.args.disk.now) (count c.loop-i.disk) (count c.add_row.new.disk) c.from_residual-in_err-add_row.ensures.1 c.loop-i.invariant.faults c.in_err-add_row.ensures.faults

pub loop-i-preserved : goal.loop-i-preserved
loop-i-preserved g c =
    let x = g.D.Disk.image c.args.disk.now in
    let before = c.loop-i.invariant in
    record {
      reads = reads_then g.D.Disk _ _ _ before.reads c.add_row.ensures.reads;
      faults = c.in_ok-add_row.ensures.faults ∙ before.faults;
      added = next_done _ _ _ _ _ _ before.added
          (range_step (rows_at (recovered x)) c.loop-i.i (inode_count_of (recovered x)) (omega (arith, c.loop-i-test.true, c.loop-i.auto.i-end, count_recovered x c.in_ok-image.image c.in_ok-image.ensures.ok.recovered)))
          (c.in_ok-add_row.ensures.added ∙ ap (λ (z : Image). c.loop-i.rows.items ++ rows_at (recovered z) c.loop-i.i) before.reads.image);
    }

pub returns-clause-rows : goal.returns-clause-rows
returns-clause-rows g c =
    let x = g.D.Disk.image c.args.disk.now in
    all_done _ _ _ c.loop-i.invariant.added
    (range_end (rows_at (recovered x)) c.loop-i.i (inode_count_of (recovered x)) (omega (arith, c.loop-i-test.false, c.loop-i.auto.i-end, count_recovered x c.in_ok-image.image c.in_ok-image.ensures.ok.recovered)))
