-- What of a command's output has colours.
use Rattle.std.specs.Prelude.{ℕ, ◌==◌, ◌&&◌, ◌||◌, not, Bool, false, List, [], ◌∷◌, codes, slice_index}
use Rattle.std.specs.List.{list_all}
use Rattle.std.specs.Str.{bytes_eq}

-- an option that changes nothing of what `show` prints
abbrev pub is_silent : List ℕ → Bool
is_silent word = bytes_eq word (codes "--wait") || (bytes_eq word (codes "--explain")
    || bytes_eq word (codes "--no-lock"))

-- the words ask `show` for an image, and with such options alone: for all of it, by signs
abbrev pub draws : List (List ℕ) → Bool
draws [] = false
draws (name ∷ []) = false
draws (name ∷ image ∷ rest) = bytes_eq name (codes "show")
    && (not (slice_index image 0 == 45) && list_all is_silent rest)
