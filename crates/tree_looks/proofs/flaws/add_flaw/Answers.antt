use Rattle.std.proofs.Common.{◌∙◌, ◌++◌, ℕ, List, ap}
use Rattle.std.proofs.lemmas.Result.{on_ok_weaker}
use Rattle.tree_looks.proofs.FlawTexts.{told_by_words}
use Rattle.tree_looks.proofs.flaws.add_flaw.Goals as goal

pub returns-in_default : goal.returns-in_default
returns-in_default c =
    on_ok_weaker c.add_words.result
    (λ is. is ∙ ap (λ (l : List ℕ). c.args.text.now.items ++ l) (told_by_words c.args.json c.args.files.now c.args.homes.now c.args.flaw c.in_default.not-Nameless c.in_default.not-Miscounted))
    c.add_words.ensures
