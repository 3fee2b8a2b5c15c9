use Rattle.std.proofs.Common.{◌≡◌, ℕ, length, refl, ap, arith}
use Rattle.calls.specs.Files.{files_on}
use Rattle.transfer.specs.Stages.{listed, made_at}
use Rattle.transfer.proofs.FillingLemmas.{holds_as, never_full, one_made}
use Rattle.transfer.proofs.StageLemmas.{made_start}
use Rattle.transfer.proofs.filling.create_numbers.Goals as goal

pub loop-kind-init : goal.loop-kind-init
loop-kind-init g c =
    let count = length (files_on g.E.Disk.image c.args.kernel.now) in
    record {
      holds = holds_as g.E.Disk 0 0 c.args.kernel.now c.requires.none (omega arith) (made_start c.args.kinds.now count);
      opening = refl;
      name = refl;
    }

pub unreachable-requires : goal.unreachable-requires
unreachable-requires g c =
    let count = length (files_on g.E.Disk.image c.args.kernel.now) in
    never_full g.E.Disk c.args.kinds.now count c.loop-kind.kind-index (omega arith) c.loop-kind.kernel c.create.new.kernel c.loop-kind.invariant.holds
    _ c.in_ok-_number.field-0 c.in_default.is c.in_ok-_number.ensures.creates

pub loop-kind-preserved : goal.loop-kind-preserved
loop-kind-preserved g c =
    let count = length (files_on g.E.Disk.image c.args.kernel.now) in
    record {
      holds = one_made g.E.Disk c.args.kinds.now count c.loop-kind.kind-index (omega arith) c.loop-kind.kernel c.create.new.kernel c.loop-kind.invariant.holds
          _ c.in-Some._number c.in_ok-_number.field-0 c.kind_or_plain.ensures c.in-Some.is c.in_ok-_number.ensures.creates c.in_ok-_number.ensures.answered c.create.ensures.stays.opening;
      opening = cc;
      name = cc;
    }

pub returns-clause-made : goal.returns-clause-made
returns-clause-made g c =
    let count = length (files_on g.E.Disk.image c.args.kernel.now) in
    let end : c.loop-kind.kind-index ≡ length c.args.kinds.now = omega arith in
    holds_as g.E.Disk c.loop-kind.kind-index (length c.args.kinds.now) c.loop-kind.kernel c.loop-kind.invariant.holds (omega arith)
    (ap (λ (n : ℕ). listed count (made_at c.args.kinds.now n)) end)
