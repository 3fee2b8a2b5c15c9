-- Whether colours are wanted.
use Rattle.std.specs.Prelude.{ℕ, Bool, false, not, ◌&&◌, List, [], ◌∷◌, codes}
use Rattle.std.specs.Str.{bytes_eq}

-- a terminal of this name is to have colours, where this is said against them
abbrev pub are_wanted : List ℕ → List ℕ → Bool
are_wanted [] no_color = false
are_wanted term [] = not (bytes_eq term (codes "dumb"))
are_wanted term no_color = false
