-- What is printed of the flaws of files that are no tree.
use Rattle.std.specs.Prelude.{ℕ, zero, suc, ◌-◌, ◌^◌, ◌==◌, min, if◌then◌else◌, Bool, true, false, List, [], ◌++◌, codes, decimal, length, position, replicate, slice_index_or, unwrap_or, Option}
use Rattle.std.specs.List.{flat_map}
use Rattle.json_lines.specs.Fields.{number_field, word_field}
use Rattle.model.specs.Files.{Files, file_in}
use Rattle.directories.specs.Entries.{entries_of, entry_size, lookup, number_in, text_in}
use Rattle.directories.specs.Flaws.{at_home, climbs, entry_in, flaws_of, home_in, homes_of, leads_down_to}
use Rattle.directories.specs.Tallying.{names_to}
use Rattle.directories.specs.Trees.{directory_in, directory_kind, kind_of, links_of, parent_name, root, self_name}
use Rattle.directories.specs.declared.flaws.Flaw.{Flaw}
use Rattle.directories.specs.declared.flaws.Flaw.TheVariants.{NoRoot, Torn, Own, Parent, Misnamed, Twice, Nothing, Again, Nameless, Circle, Miscounted}
use Rattle.tree_looks.specs.Listing.{count_told, stat_line}
use Rattle.tree_looks.specs.Objects.{element, first_string, stat_object, told_in}

-- ---- paths, from home to home

-- a directory's path ends with a slash
abbrev pub end_of : Files → ℕ → List ℕ
end_of files number = if kind_of (file_in files number) == directory_kind then codes "/" else []

-- a path that doesn't begin at the root begins with a number
abbrev pub begin_of : Files → ℕ → List ℕ
begin_of files number = codes "#" ++ (decimal number ++ end_of files number)

-- the name by which a directory first leads down to a number
abbrev pub first_name : List (List ℕ) → ℕ → List ℕ
first_name entries number = at_home (position (leads_down_to number) entries) []
    (λ place. text_in (entry_in entries place))

-- the last part of a path
abbrev pub last_part : Files → ℕ → ℕ → List ℕ
last_part files from number =
    first_name (entries_of (directory_in files from)) number ++ end_of files number

-- THE PATH of a number, by so many steps from home to home
abbrev pub path_by : ℕ → Files → List (Option ℕ) → ℕ → List ℕ
path_by zero files homes number = begin_of files number
path_by (suc more) files homes number = if number == root then codes "/"
    else at_home (home_in homes number) (begin_of files number)
    (λ from. path_by more files homes from ++ last_part files from number)

-- all of it, where they end
abbrev pub file_path : Files → List (Option ℕ) → ℕ → List ℕ
file_path files homes number = if climbs (length homes) homes number
    then path_by (length homes) files homes number else begin_of files number

-- the entry at a place of a directory; a free one behind the last
abbrev pub entry_of : Files → ℕ → ℕ → List ℕ
entry_of files from place =
    slice_index_or (entries_of (directory_in files from)) place (replicate entry_size 0)

-- the path of an entry of a directory
abbrev pub entry_part : Files → List ℕ → List ℕ
entry_part files entry = text_in entry ++ end_of files (number_in entry)

abbrev pub entry_path : Files → List (Option ℕ) → ℕ → ℕ → List ℕ
entry_path files homes from place =
    file_path files homes from ++ entry_part files (entry_of files from place)

-- ---- a flaw

-- the path at which it is
abbrev pub flaw_path : Files → List (Option ℕ) → Flaw → List ℕ
flaw_path files homes NoRoot = codes "/"
flaw_path files homes (Torn number) = file_path files homes number
flaw_path files homes (Own number) = file_path files homes number ++ codes "."
flaw_path files homes (Parent number) = file_path files homes number ++ codes ".."
flaw_path files homes (Misnamed from place) = entry_path files homes from place
flaw_path files homes (Twice from place) = entry_path files homes from place
flaw_path files homes (Nothing from place) = entry_path files homes from place
flaw_path files homes (Again from place) = entry_path files homes from place
flaw_path files homes (Nameless number) = file_path files homes number
flaw_path files homes (Circle number) = file_path files homes number
flaw_path files homes (Miscounted number) = file_path files homes number

-- the number that a name leads to from a directory, and 0 where it leads nowhere
abbrev pub number_by : Files → ℕ → List ℕ → ℕ
number_by files from name = unwrap_or (lookup (directory_in files from) name) 0

-- the number to which that path leads
abbrev pub flaw_number : Files → Flaw → ℕ
flaw_number files NoRoot = root
flaw_number files (Torn number) = number
flaw_number files (Own number) = number_by files number self_name
flaw_number files (Parent number) = number_by files number parent_name
flaw_number files (Misnamed from place) = number_in (entry_of files from place)
flaw_number files (Twice from place) = number_in (entry_of files from place)
flaw_number files (Nothing from place) = number_in (entry_of files from place)
flaw_number files (Again from place) = number_in (entry_of files from place)
flaw_number files (Nameless number) = number
flaw_number files (Circle number) = number
flaw_number files (Miscounted number) = number

-- the words for it
abbrev pub flaw_words : Flaw → List ℕ
flaw_words NoRoot = codes "no directory"
flaw_words (Torn number) = codes "torn"
flaw_words (Own number) = codes "not itself"
flaw_words (Parent number) = codes "not its parent"
flaw_words (Misnamed from place) = codes "bad name"
flaw_words (Twice from place) = codes "name twice"
flaw_words (Nothing from place) = codes "no file"
flaw_words (Again from place) = codes "second name"
flaw_words (Nameless number) = codes "no name"
flaw_words (Circle number) = codes "in a circle"
flaw_words (Miscounted number) = codes "miscounted"

-- the line of a flaw
abbrev pub words_line : List ℕ → ℕ → List ℕ → List ℕ
words_line path number words =
    path ++ codes " " ++ decimal number ++ codes " " ++ words ++ codes "\n"

-- and its object
unfoldable pub words_object : List ℕ → ℕ → List ℕ → List ℕ
words_object path number words = first_string (codes "path") path
    ++ number_field (codes "number") number ++ word_field (codes "fault") words ++ codes "}"

abbrev pub words_told : Bool → List ℕ → ℕ → List ℕ → List ℕ
words_told true path number words = element (words_object path number words)
words_told false path number words = words_line path number words

-- a file without a name as an element of JSON, or its line
abbrev pub lone_told : Bool → Files → ℕ → List ℕ
lone_told true files number = element (stat_object (file_in files number) number)
lone_told false files number = codes "no name " ++ stat_line files number

-- what is told of a flaw: of a file without a name its line, of a count that of counts
abbrev pub flaw_told : Bool → Files → List (Option ℕ) → Flaw → List ℕ
flaw_told json files homes (Nameless number) = lone_told json files number
flaw_told json files homes (Miscounted number) = count_told json (file_path files homes number)
    number (links_of (file_in files number)) (min (names_to files number) (2 ^ 32 - 1))
flaw_told json files homes flaw =
    words_told json (flaw_path files homes flaw) (flaw_number files flaw) (flaw_words flaw)

-- WHAT IS TOLD of files that are no tree: each flaw, in their order, as JSON or as text
unfoldable pub flaws_told : Bool → Files → List ℕ
flaws_told json files = told_in json (flat_map (flaw_told json files (homes_of files)) (flaws_of files))
