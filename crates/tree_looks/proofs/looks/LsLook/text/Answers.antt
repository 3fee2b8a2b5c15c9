use Rattle.std.proofs.Common.{◌≡◌, ◌∙◌, List, ℕ, ap, subst}
use Rattle.std.specs.Prelude.{Ok}
use Rattle.std.proofs.lemmas.Result.{IfOk-weaker}
use Rattle.directories.specs.Paths.{names_of}
use Rattle.directories.specs.Trees.{root}
use Rattle.directories.specs.Walks.{walked}
use Rattle.tree_looks.specs.Listing.{listed}
use Rattle.tree_looks.proofs.Looking.{kept_told}
use Rattle.tree_looks.proofs.looks.LsLook.text.Goals as goal

pub returns-in-Ok-clause-tells : goal.returns-in-Ok-clause-tells
returns-in-Ok-clause-tells c =
    let files = c.args.files.now in
    let found = c.in-Ok.found in
    let led = subst (λ (path : List ℕ). walked files root (names_of path) ≡ Ok found.number) c.as_bytes.ensures.value c.in-Ok.ensures.led in
    let names = c.as_slice.ensures.value ∙ c.in-Ok.ensures.names ∙ ap names_of c.as_bytes.ensures.value in
    kept_told c.list.result c.told.result _ c.told.ensures.text
    (IfOk-weaker c.list.result _ _ (λ text is. (found.number, led, is ∙ ap (λ (names : List (List ℕ)). listed c.args.self.now.json files names found.number) names)) c.list.ensures)
