use Rattle.std.proofs.Common.{◌∙◌, List, ℕ, ap, rules}
use Rattle.tree_looks.specs.Copies.{path_of_copy, IsUncopied}
use Rattle.tree_looks.proofs.CopyPlans.{no_target_so}
use Rattle.tree_looks.proofs.copying.plan.Goals as goal

pub returns-in_err-judge_target-clause-refused : goal.returns-in_err-judge_target-clause-refused
returns-in_err-judge_target-clause-refused c =
    let files = c.args.files.now in
    let from = c.args.from.now in
    let to = c.args.to.now in
    let names = c.as_slice.ensures.value ∙ c.in_ok-source.ensures.names in
    let is = c.as_slice-2.ensures.value ∙ c.in-Ok.ensures.path ∙ ap (λ (ns : List (List ℕ)). path_of_copy files ns to) names in
    let why : IsUncopied files from to c.in_err-judge_target.field-0.0
    = no_target_so files from to c.as_slice-2.result.now c.in_ok-source.source.number c.in_ok-source.ensures.led is c.in_err-judge_target.field-0.0 c.in_err-judge_target.ensures.refused in
    search rules
