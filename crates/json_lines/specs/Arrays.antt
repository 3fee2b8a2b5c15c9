-- Arrays of values.
use Rattle.std.specs.Prelude.{ℕ, ◌+◌, ◌==◌, if◌then◌else◌, List, [], ◌∷◌, ◌++◌, codes}

-- what stands before an element that is behind so many others
abbrev pub comma_behind : ℕ → List ℕ
comma_behind others = if others == 0 then [] else codes ","

-- such an element
abbrev pub element_behind : {A : Type 0} → (A → List ℕ) → ℕ → A → List ℕ
element_behind value others x = comma_behind others ++ value x

-- elements, one after the other, behind so many others
abbrev pub elements_behind : {A : Type 0} → (A → List ℕ) → ℕ → List A → List ℕ
elements_behind value others [] = []
elements_behind value others (x ∷ xs) =
    element_behind value others x ++ elements_behind value (others + 1) xs

-- THE ARRAY of the values of these, with its line feed
abbrev pub array_text : {A : Type 0} → (A → List ℕ) → List A → List ℕ
array_text value xs = codes "[" ++ elements_behind value 0 xs ++ codes "]\n"
