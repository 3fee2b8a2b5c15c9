use Rattle.std.proofs.Common.{◌≡◌, ℕ, subst, arith}
use Rattle.std.specs.Io.KnownBytes.{Appends}
use Rattle.std.specs.List.{flat_map, range_with_len}
use Rattle.messages.specs.Lemmas.Texts.{numbered_more}
use Rattle.pictures.specs.Page.{lane_name}
use Rattle.pictures.proofs.page.print_lane_names.Goals as goal

pub loop-process-preserved : goal.loop-process-preserved
loop-process-preserved g c =
    numbered_more lane_name c.loop-process.process _ _ _ c.loop-process.invariant c.in_ok-print_lane_name.ensures.ok

pub returns : goal.returns
returns g c =
    let all : c.loop-process.process ≡ c.args.processes = omega (arith, c.loop-process-test.false, c.loop-process.auto.process-end) in
    record { ok = subst (λ (n : ℕ). Appends (g.O.Write.contents c.args.out.now) (g.O.Write.contents c.loop-process.out) (flat_map lane_name (range_with_len 0 n))) all c.loop-process.invariant }
