-- The names that files have aside.
use Rattle.std.specs.Prelude.{◌≡◌, ℕ, ◌+◌, ◌%◌, ◌/◌, ◌==◌, ◌&&◌, eqb, nat_le, Bool, IsTrue, List, [], ◌∷◌, length, drop}
use Rattle.std.specs.List.{list_all, starts_with}
use Rattle.directories.specs.Trees.{root}

-- a digit
abbrev pub digit : ℕ → ℕ
digit n = 48 + n % 10

-- the name that the file of a number has in the root once its last one was removed while it was
-- open: `.xvgone` and seven digits
unfoldable pub aside_of : ℕ → List ℕ
aside_of n = 46 ∷ 120 ∷ 118 ∷ 103 ∷ 111 ∷ 110 ∷ 101 ∷ digit (n / 1000000) ∷ digit (n / 100000)
    ∷ digit (n / 10000) ∷ digit (n / 1000) ∷ digit (n / 100) ∷ digit (n / 10) ∷ digit n ∷ []

abbrev pub is_digit : ℕ → Bool
is_digit byte = nat_le 48 byte && nat_le byte 57

-- a name like that
abbrev pub is_aside : List ℕ → Bool
is_aside name = length name == 14
    && (starts_with eqb name (46 ∷ 120 ∷ 118 ∷ 103 ∷ 111 ∷ 110 ∷ 101 ∷ [])
    && list_all is_digit (drop 7 name))

abbrev pub IsAside : List ℕ → Type 0
IsAside name = IsTrue (is_aside name)

-- a name aside in the directory of a number, which no program sees
abbrev pub IsHidden : ℕ → List ℕ → Type 0
IsHidden node name = (node ≡ root) × IsAside name
