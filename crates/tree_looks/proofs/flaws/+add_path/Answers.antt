use Rattle.std.proofs.Common.{◌∙◌, ◌++◌, ◌-◌, ℕ, List, append_assoc, ap, sym}
use Rattle.std.proofs.lemmas.Result.{on_ok_weaker}
use Rattle.tree_looks.specs.Flaws.{last_part, path_by}
use Rattle.tree_looks.proofs.FlawTexts.{path_on}
use Rattle.tree_looks.proofs.flaws.+add_path.Goals as goal

pub returns-in_ok-add_path-in-Some : goal.returns-in_ok-add_path-in-Some
returns-in_ok-add_path-in-Some t c =
    let files = c.args.files.now in
    let homes = c.args.homes.now in
    let old = c.args.path.now.items in
    let part = last_part files c.in-Some.from c.args.number in
    on_ok_weaker c.add_last_part.result
    (λ is.
    is ∙ ap (λ (l : List ℕ). l ++ part) c.in_ok-add_path-in-Some.ensures
    ∙ append_assoc old (path_by (c.args.more - 1) files homes c.in-Some.from) part
    ∙ ap (λ (l : List ℕ). old ++ l)
    (sym (path_on c.args.more files homes c.args.number c.in-Some.from c.if-more-eq0.false c.if-number-eq-ROOT.false (sym c.home_in.ensures ∙ c.in-Some.is))))
    c.add_last_part.ensures
