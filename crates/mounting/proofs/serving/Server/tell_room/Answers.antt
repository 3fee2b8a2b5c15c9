use Rattle.std.proofs.Common.{◌∙◌}
use Rattle.mounting.proofs.serving.Server.tell_room.Goals as goal

pub returns-in_err-count-clause-looks : goal.returns-in_err-count-clause-looks
returns-in_err-count-clause-looks g c =
    λ task o first before. c.blocks_at.ensures.looks task o first (c.loop-number.invariant.looks task o first before)

pub loop-number-preserved : goal.loop-number-preserved
loop-number-preserved g c =
    record { ready = c.blocks_at.ensures.ready; same = c.in_ok-count.ensures.same ∙ c.loop-number.invariant.same; looks = λ task o first before. c.blocks_at.ensures.looks task o first (c.loop-number.invariant.looks task o first before) }
