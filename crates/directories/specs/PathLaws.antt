-- Where paths lead in a tree.
use Rattle.std.specs.Prelude.{◌≡◌, ℕ, List, [], ◌∷◌, Ok}
use Rattle.model.specs.Files.{Files}
use Rattle.directories.specs.Trees.{root, IsDirectory, IsDown, IsFile, IsNamedOnce, IsTree}
use Rattle.directories.specs.Walks.{walked}

-- each of these names leads down
abbrev pub AreDown : List (List ℕ) → Type 0
AreDown [] = Unit {0}
AreDown (name ∷ names) = IsDown name × AreDown names

-- Where names lead there is a file, those for a directory and for its parent among them.
abbrev pub NamesLead : Type 0
NamesLead = (files : Files) (names : List (List ℕ)) (number : ℕ) → IsTree files
    → walked files root names ≡ Ok number → IsFile files number

-- Each file is led to from the root,
abbrev pub FilesAreReached : Type 0
FilesAreReached = (files : Files) (number : ℕ) → IsTree files → IsFile files number
    → (names : List (List ℕ)) × AreDown names × (walked files root names ≡ Ok number)

-- where it has one name by one list of names that lead down,
abbrev pub NamesAreOne : Type 0
NamesAreOne = (files : Files) (a b : List (List ℕ)) (number : ℕ) → IsTree files
    → IsNamedOnce files number → AreDown a → AreDown b
    → walked files root a ≡ Ok number → walked files root b ≡ Ok number → a ≡ b

-- as each directory has.
abbrev pub DirectoriesAreNamedOnce : Type 0
DirectoriesAreNamedOnce = (files : Files) (number : ℕ) → IsTree files → IsDirectory files number
    → IsNamedOnce files number
