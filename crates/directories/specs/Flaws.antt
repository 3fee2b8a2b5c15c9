-- What keeps files from being a tree whose counts are right: each flaw, with the numbers at which it is.
use Rattle.std.specs.Prelude.{ℕ, zero, suc, ◌%◌, ◌==◌, ◌&&◌, ◌||◌, not, if◌then◌else◌, Bool, true, false, List, [], ◌∷◌, ◌++◌, length, map, position, slice_index, slice_index_or, is_none, Option, Some, None}
use Rattle.std.specs.List.{flat_map, list_any, range_with_len}
use Rattle.model.specs.Files.{Files, file_in}
use Rattle.model.specs.declared.types.image.File.{File}
use Rattle.directories.specs.Entries.{entries_of, entry_size, is_for, is_free, lookup, name_in, number_in, slash}
use Rattle.directories.specs.Tallying.{names_to}
use Rattle.directories.specs.Trees.{bytes_of, directory_in, directory_kind, kind_of, leads_down, links_of, parent_name, root, self_name}
use Rattle.directories.specs.declared.flaws.Flaw.{Flaw}
use Rattle.directories.specs.declared.flaws.Flaw.TheVariants.{NoRoot, Torn, Own, Parent, Misnamed, Twice, Nothing, Again, Nameless, Circle, Miscounted}

-- ---- where a file has its name

-- an entry leads down to a number
abbrev pub leads_down_to : ℕ → List ℕ → Bool
leads_down_to number entry = leads_down entry && (number_in entry == number)

-- an entry of a directory does
abbrev pub has_name_of : ℕ → Option File → Bool
has_name_of number file = (kind_of file == directory_kind)
    && list_any (leads_down_to number) (entries_of (bytes_of file))

-- A FILE'S HOME: the first directory of which an entry leads down to it
abbrev pub home_of : Files → ℕ → Option ℕ
home_of files number = position (has_name_of number) files

-- those of all numbers
abbrev pub homes_of : Files → List (Option ℕ)
homes_of files = map (home_of files) (range_with_len 0 (length files))

-- that of a number, by these
abbrev pub home_in : List (Option ℕ) → ℕ → Option ℕ
home_in homes number = slice_index_or homes number None

-- it is that of a home, if there is one
abbrev pub at_home : {X : Type 0} → Option ℕ → X → (ℕ → X) → X
at_home None none f = none
at_home (Some from) none f = f from

-- From home to home so many steps lead to the root, or to a file without a home.
abbrev pub climbs : ℕ → List (Option ℕ) → ℕ → Bool
climbs zero homes number = false
climbs (suc more) homes number =
    (number == root) || at_home (home_in homes number) true (climbs more homes)

-- ---- a flaw, where a test says so

abbrev pub flaw_if : Bool → Flaw → List Flaw
flaw_if wrong flaw = if wrong then flaw ∷ [] else []

-- a name leads nowhere, or elsewhere than to a number
abbrev pub is_other : Option ℕ → ℕ → Bool
is_other None number = true
is_other (Some found) number = not (found == number)

-- ---- a directory's own entries

-- the number that a directory's name for its parent should lead to, if the directory has a name itself
abbrev pub parent_in : List (Option ℕ) → ℕ → Option ℕ
parent_in homes number = if number == root then Some root else home_in homes number

-- the bytes end within an entry
abbrev pub is_torn : List ℕ → Bool
is_torn bytes = not (length bytes % entry_size == 0)

-- its name for its parent leads elsewhere
abbrev pub misses_parent : List (Option ℕ) → ℕ → List ℕ → Bool
misses_parent homes number bytes =
    at_home (parent_in homes number) false (is_other (lookup bytes parent_name))

-- what is wrong with a directory's size and its own two entries
abbrev pub own_flaws : List (Option ℕ) → ℕ → List ℕ → List Flaw
own_flaws homes number bytes = flaw_if (is_torn bytes) (Torn number)
    ++ (flaw_if (is_other (lookup bytes self_name) number) (Own number)
    ++ flaw_if (misses_parent homes number bytes) (Parent number))

-- ---- each of its entries

abbrev pub entry_in : List (List ℕ) → ℕ → List ℕ
entry_in entries place = slice_index_or entries place []

-- a name has a byte, and no slash
abbrev pub is_proper : List ℕ → Bool
is_proper name = not (slice_index name 0 == 0) && not (list_any (λ byte. byte == slash) name)

-- a used entry has another name
abbrev pub is_misnamed : List ℕ → Bool
is_misnamed entry = not (is_free entry) && not (is_proper (name_in entry))

-- a used entry has the name of one before it
abbrev pub is_second : List (List ℕ) → ℕ → Bool
is_second entries place = not (is_free (entry_in entries place))
    && is_other (position (is_for (name_in (entry_in entries place))) entries) place

-- an entry leads down to no file
abbrev pub leads_to_nothing : Files → List ℕ → Bool
leads_to_nothing files entry = leads_down entry && is_none (file_in files (number_in entry))

-- an entry is not the first that leads down to a number
abbrev pub is_later : List (Option ℕ) → ℕ → List (List ℕ) → ℕ → ℕ → Bool
is_later homes from entries place number = is_other (home_in homes number) from
    || is_other (position (leads_down_to number) entries) place

-- the root has no name, and a directory one alone
abbrev pub may_not_have : Files → List (Option ℕ) → ℕ → List (List ℕ) → ℕ → ℕ → Bool
may_not_have files homes from entries place number = (number == root)
    || ((kind_of (file_in files number) == directory_kind)
    && is_later homes from entries place number)

-- an entry leads down to the root, or to a directory that has a name before it
abbrev pub leads_again : Files → List (Option ℕ) → ℕ → List (List ℕ) → ℕ → Bool
leads_again files homes from entries place = leads_down (entry_in entries place)
    && may_not_have files homes from entries place (number_in (entry_in entries place))

-- what is wrong with the entry at a place
abbrev pub entry_flaws : Files → List (Option ℕ) → ℕ → List (List ℕ) → ℕ → List Flaw
entry_flaws files homes from entries place =
    flaw_if (is_misnamed (entry_in entries place)) (Misnamed from place)
    ++ (flaw_if (is_second entries place) (Twice from place)
    ++ (flaw_if (leads_to_nothing files (entry_in entries place)) (Nothing from place)
    ++ flaw_if (leads_again files homes from entries place) (Again from place)))

-- with those of the first so many places
abbrev pub entries_flaws : Files → List (Option ℕ) → ℕ → List (List ℕ) → ℕ → List Flaw
entries_flaws files homes from entries count =
    flat_map (entry_flaws files homes from entries) (range_with_len 0 count)

-- what is wrong with a directory of these bytes
abbrev pub directory_flaws : Files → List (Option ℕ) → ℕ → List ℕ → List Flaw
directory_flaws files homes number bytes = own_flaws homes number bytes
    ++ entries_flaws files homes number (entries_of bytes) (length (entries_of bytes))

abbrev pub flaws_within : Files → List (Option ℕ) → ℕ → List Flaw
flaws_within files homes number = if kind_of (file_in files number) == directory_kind
    then directory_flaws files homes number (directory_in files number) else []

-- ---- where a file stands

-- a file but the root has no home
abbrev pub is_nameless : Files → List (Option ℕ) → ℕ → Bool
is_nameless files homes number = not (number == root)
    && not (is_none (file_in files number)) && is_none (home_in homes number)

-- a directory is in a circle of directories, or below one
abbrev pub is_in_circle : Files → List (Option ℕ) → ℕ → Bool
is_in_circle files homes number = (kind_of (file_in files number) == directory_kind)
    && not (climbs (length homes) homes number)

-- a file that is not nameless has another count of links than names
abbrev pub is_miscounted : Files → List (Option ℕ) → ℕ → Bool
is_miscounted files homes number = not (is_none (file_in files number))
    && not (is_nameless files homes number)
    && not (links_of (file_in files number) == names_to files number)

abbrev pub place_flaws : Files → List (Option ℕ) → ℕ → List Flaw
place_flaws files homes number =
    flaw_if (is_nameless files homes number) (Nameless number)
    ++ (flaw_if (is_in_circle files homes number) (Circle number)
    ++ flaw_if (is_miscounted files homes number) (Miscounted number))

-- ---- all

-- WHAT IS WRONG at a number: within its file, where that is a directory, and where it stands
abbrev pub flaws_at : Files → List (Option ℕ) → ℕ → List Flaw
flaws_at files homes number = flaws_within files homes number ++ place_flaws files homes number

-- the root is no directory
abbrev pub root_flaws : Files → List Flaw
root_flaws files = flaw_if (not (kind_of (file_in files root) == directory_kind)) NoRoot

-- those of the first so many numbers
abbrev pub first_flaws : Files → List (Option ℕ) → ℕ → List Flaw
first_flaws files homes count =
    root_flaws files ++ flat_map (flaws_at files homes) (range_with_len 0 count)

-- THE FLAWS of files: of the root, and then of each number, the lowest first
abbrev pub flaws_of : Files → List Flaw
flaws_of files = first_flaws files (homes_of files) (length files)
