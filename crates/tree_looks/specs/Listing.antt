-- What is printed of the files of directories.
use Rattle.std.specs.Prelude.{ℕ, zero, suc, ◌-◌, ◌==◌, if◌then◌else◌, Bool, true, false, List, [], ◌++◌, length, slice_index_or, codes, decimal, Option}
use Rattle.std.specs.List.{flat_map}
use Rattle.model.specs.Files.{Files, file_in}
use Rattle.model.specs.declared.types.image.File.{File}
use Rattle.directories.specs.Entries.{entries_of, number_in, text_in, text_of}
use Rattle.directories.specs.Trees.{bytes_of, directory_in, directory_kind, kind_of, leads_down, links_of, root}
use Rattle.tree_looks.specs.Objects.{count_object, element, named_object, stat_object, told_in}

-- the line of a file with that name and number: its type, and how many bytes it has
abbrev pub line_of : Files → List ℕ → ℕ → List ℕ
line_of files name number =
    name ++ codes " " ++ decimal number ++ codes " type " ++ decimal (kind_of (file_in files number))
    ++ codes " size " ++ decimal (length (bytes_of (file_in files number))) ++ codes "\n"

-- such a file as an element of JSON, or its line
abbrev pub file_told : Bool → Files → List ℕ → ℕ → List ℕ
file_told true files name number =
    element (named_object (codes "name") name (file_in files number) number)
file_told false files name number = line_of files name number

-- that of an entry which leads down; a free one has none, nor have a directory's own two
abbrev pub entry_told : Bool → Files → List ℕ → List ℕ
entry_told json files entry =
    if leads_down entry then file_told json files (text_in entry) (number_in entry) else []

-- those of a directory, in the order of its entries
abbrev pub listing_of : Bool → Files → ℕ → List ℕ
listing_of json files number =
    flat_map (entry_told json files) (entries_of (directory_in files number))

-- the last of these names
abbrev pub last_of : List (List ℕ) → List ℕ
last_of names = slice_index_or names (length names - 1) []

-- those of the file that names lead to: of the entries of a directory, or its own
abbrev pub list_of : Bool → Files → List (List ℕ) → ℕ → List ℕ
list_of json files names number =
    if kind_of (file_in files number) == directory_kind then listing_of json files number
    else file_told json files (text_of (last_of names)) number

-- what is listed of it, as JSON or as text
abbrev pub listed : Bool → Files → List (List ℕ) → ℕ → List ℕ
listed json files names number = told_in json (list_of json files names number)

-- the line of a file itself: its number, its type, how many bytes it has, and its count of links
abbrev pub stat_text : Option File → ℕ → List ℕ
stat_text file number =
    decimal number ++ codes " type " ++ decimal (kind_of file) ++ codes " size "
    ++ decimal (length (bytes_of file)) ++ codes " links " ++ decimal (links_of file) ++ codes "\n"

abbrev pub stat_line : Files → ℕ → List ℕ
stat_line files number = stat_text (file_in files number) number

-- what is told of a file itself, as JSON or as text
abbrev pub stat_told : Bool → Files → ℕ → List ℕ
stat_told true files number = stat_object (file_in files number) number ++ codes "\n"
stat_told false files number = stat_line files number

-- the path of an entry behind that of its directory; one of a directory ends with a slash
abbrev pub path_of : Files → List ℕ → List ℕ → List ℕ
path_of files front entry =
    if kind_of (file_in files (number_in entry)) == directory_kind
    then front ++ text_in entry ++ codes "/" else front ++ text_in entry

-- What is told of the files below a file, of each by its path, which stands behind `front`, and its
-- number, down to a depth: of those below a directory behind the directory itself.
abbrev pub told_below : (List ℕ → ℕ → List ℕ) → ℕ → Files → List ℕ → ℕ → List ℕ
told_below tell zero files front number = []
told_below tell (suc depth) files front number =
    if kind_of (file_in files number) == directory_kind
    then flat_map (λ entry. if leads_down entry
    then tell (path_of files front entry) (number_in entry)
    ++ told_below tell depth files (path_of files front entry) (number_in entry) else [])
    (entries_of (directory_in files number)) else []

-- of an entry that leads down, and of those below it
abbrev pub told_entry : (List ℕ → ℕ → List ℕ) → ℕ → Files → List ℕ → List ℕ → List ℕ
told_entry tell depth files front entry = if leads_down entry
    then tell (path_of files front entry) (number_in entry)
    ++ told_below tell depth files (path_of files front entry) (number_in entry) else []

-- the file at a path as an element of JSON, or the path as a line
abbrev pub path_told : Bool → Files → List ℕ → ℕ → List ℕ
path_told true files path number =
    element (named_object (codes "path") path (file_in files number) number)
path_told false files path number = path ++ codes "\n"

-- the files below a file, as JSON, or their paths
abbrev pub paths_below : Bool → Files → ℕ → List ℕ
paths_below json files number =
    told_in json (told_below (path_told json files) (length files) files [] number)

-- the line of a file of that number: its count of links, and how many names lead to it
abbrev pub count_line : List ℕ → ℕ → ℕ → ℕ → List ℕ
count_line path number links names = path ++ codes " " ++ decimal number ++ codes " links "
    ++ decimal links ++ codes " names " ++ decimal names ++ codes "\n"

-- both as an element of JSON, or that line
abbrev pub count_told : Bool → List ℕ → ℕ → ℕ → ℕ → List ℕ
count_told true path number links names = element (count_object path number links names)
count_told false path number links names = count_line path number links names

-- those of a file whose count is not that of its number in the list
abbrev pub wrong_told : Bool → Files → List ℕ → List ℕ → ℕ → List ℕ
wrong_told json files counts path number =
    if links_of (file_in files number) == slice_index_or counts number 0 then []
    else count_told json path number (links_of (file_in files number))
    (slice_index_or counts number 0)

-- those of the root and of all files below it, by their paths from it
abbrev pub all_wrong : Bool → Files → List ℕ → List ℕ
all_wrong json files counts = wrong_told json files counts (codes "/") root
    ++ told_below (wrong_told json files counts) (length files) files (codes "/") root

-- what is told of them, as JSON or as text
abbrev pub wrong_counts : Bool → Files → List ℕ → List ℕ
wrong_counts json files counts = told_in json (all_wrong json files counts)
