-- The names of a path.
use Rattle.std.specs.Prelude.{◌≢◌, ℕ, ◌<◌, ◌==◌, if◌then◌else◌, List, [], ◌∷◌, ◌++◌, length, map, Contains}
use Rattle.directories.specs.declared.path.PathFault.{PathFault}
use Rattle.directories.specs.declared.path.PathFault.TheVariants.{NameTooLong, ZeroByte, NoMemory}
use Rattle.directories.specs.Entries.{name_size, padded, slash}

-- a part of a path; none where it has no bytes
abbrev pub one_part : List ℕ → List (List ℕ)
one_part [] = []
one_part (b ∷ bs) = (b ∷ bs) ∷ []

-- the parts of the bytes behind those that a part began with
abbrev pub parts_behind : List ℕ → List ℕ → List (List ℕ)
parts_behind part [] = one_part part
parts_behind part (b ∷ bs) =
    if b == slash then one_part part ++ parts_behind [] bs else parts_behind (part ++ b ∷ []) bs

-- the parts of a path: what stands between its slashes, where that is anything
abbrev pub parts_of : List ℕ → List (List ℕ)
parts_of path = parts_behind [] path

-- the names of a path, each with zeroes behind it
abbrev pub names_of : List ℕ → List (List ℕ)
names_of path = map padded (parts_of path)

-- why a part is no name
abbrev pub IsPartCause : List ℕ → PathFault → Type 0
IsPartCause part NameTooLong = name_size < length part
IsPartCause part ZeroByte = Contains part 0
IsPartCause part NoMemory = part ≢ []

-- why bytes are no path: so is one of its parts
abbrev pub IsPathCause : List ℕ → PathFault → Type 0
IsPathCause path cause = (part : List ℕ) × Contains (parts_of path) part × IsPartCause part cause
