-- Lines of texts.
use Rattle.std.specs.Prelude.{ℕ, ◌==◌, ◌+◌, if◌then◌else◌, List, [], ◌∷◌}

-- how many bytes the first line of a text has, with its line feed
abbrev pub line_length : List ℕ → ℕ
line_length [] = 0
line_length (b ∷ rest) = if b == 10 then 1 else 1 + line_length rest
