-- A file that was made is there.
use Rattle.std.proofs.Common.{◌≡◌, ◌≢◌, ◌∙◌, ℕ, None, sym, ap}
use Rattle.std.specs.Prelude.{Option, Some}
use Rattle.std.proofs.lemmas.List.{get_or-set_same}
use Rattle.model.specs.Files.{Files, file_in}
use Rattle.calls.specs.Files.{Creates, MakesFile, empty_file}

is_there : (kind i : ℕ) (old new : Files) → MakesFile kind i old new → file_in new i ≢ None
is_there kind i old new made none =
    let there : file_in new i ≡ empty_file kind = ap (λ (l : Files). file_in l i) made.files ∙ get_or-set_same old i (empty_file kind) None made.below in
    let no = sym there ∙ none in cc no

pub made_there : (kind i : ℕ) (made : Option ℕ) (old new : Files) → made ≡ Some i → Creates kind made old new → file_in new i ≢ None
made_there kind i (Some j) old new is creates none =
    let same : j ≡ i = cc is in is_there kind j old new creates (ap (file_in new) same ∙ none)
made_there kind i None old new is creates none = cc is
