-- The line of a refusal.
use Rattle.std.specs.Prelude.{ℕ, List, ◌++◌, codes}
use Rattle.messages.specs.Telling.{Telling, telling_text}

-- that of a program of that name
abbrev pub refusal_line : List ℕ → Telling → List ℕ
refusal_line program t = program ++ codes ": " ++ telling_text t ++ codes "\n"
