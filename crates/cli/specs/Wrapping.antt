-- Texts in lines.
use Rattle.std.specs.Prelude.{ℕ, Bool, not, ◌==◌, ◌||◌, List}
use Rattle.std.specs.List.{filter}

-- a blank, or a line feed
abbrev pub is_blank : ℕ → Bool
is_blank byte = (byte == 32) || (byte == 10)

-- a text without its blanks and line feeds
abbrev pub marks_of : List ℕ → List ℕ
marks_of = filter (λ byte. not (is_blank byte))
