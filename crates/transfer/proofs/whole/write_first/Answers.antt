use Rattle.std.proofs.Common.{refl}
use Rattle.calls.specs.Lemmas.Reaching.{reached_none}
use Rattle.transfer.proofs.MidstLemmas.{writes_so, wrote}
use Rattle.transfer.proofs.whole.write_first.Goals as goal

-- no copy was made
pub returns-in_default-clause-stays : goal.returns-in_default-clause-stays
returns-in_default-clause-stays g c = record {
  leaves = c.still.ensures;
  over = record { opening = refl; name = refl };
  reached = reached_none g.D.Disk c.args.kernel.now;
}

pub unreachable-requires : goal.unreachable-requires
unreachable-requires g c =
    let call = c.in_ok-count.ensures in
    let (count, so, few, files) = wrote g.D.Disk c.args.kernel.now c.call.new.kernel c.in_ok-count.field-0 call.inside call.opening c.args.i c.in-Ok.content c.args.bytes.now c.in-Ok.ensures c.requires.midst c.requires.below c.requires.few c.requires.short call.adds in
    c.in_default-2.not-Wrote count so

pub returns-clause-writes : goal.returns-clause-writes
returns-clause-writes g c =
    let call = c.in_ok-count.ensures in
    writes_so g.D.Disk c.args.kernel.now c.call.new.kernel c.in_ok-count.field-0 call.inside call.opening c.args.i c.in-Ok.content c.args.bytes.now c.in-Ok.ensures c.requires.midst c.requires.below c.requires.few c.requires.short call.adds
    c.in-Wrote.count c.in-Wrote.is
