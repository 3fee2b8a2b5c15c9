use Rattle.std.proofs.Common.{◌∙◌, ℕ, List, ◌++◌, ap}
use Rattle.mounting.proofs.serving.Server.write.Goals as goal

pub returns-clause-does : goal.returns-clause-does
returns-clause-does g c = λ empty. (
  c.in_ok-count.count,
  (
    c.in_ok-extend_from_slice.ensures.items ∙ ap (λ (old : List ℕ). old ++ c.wrote_answer.result) empty ∙ c.wrote_answer.ensures.value,
    c.in_ok-count.ensures.stands,
    c.in_ok-count.ensures.short,
  ),
)
