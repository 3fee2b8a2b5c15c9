-- A path that may be left out.
use Rattle.std.proofs.Common.{◌≡◌, ◌∙◌, ℕ, List, ap}
use Rattle.std.specs.Prelude.{codes, unwrap_or}
use Rattle.clap.specs.Words.{first_value, rows_of}
use Rattle.clap.specs.declared.parser.matches.Found.{Found}
use Rattle.clap.proofs.WalkLemmas.{first_value-rows}
use Rattle.names_words.specs.CommandLine.{HasPath}

pub path_read : (f : Found) (path : List ℕ) → path ≡ unwrap_or (first_value f (codes "PATH")) (codes "/") → HasPath (rows_of f) path
path_read f path is = is ∙ ap (λ o. unwrap_or o (codes "/")) (first_value-rows f (codes "PATH"))
