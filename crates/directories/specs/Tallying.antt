-- How many names lead to each file, as they are told without a kernel: one is taken off what is left of
-- a number for each name that leads to it.
use Rattle.std.specs.Prelude.{◌≡◌, ℕ, ◌+◌, ◌-◌, ◌<◌, ◌==◌, ◌&&◌, ◌||◌, not, if◌then◌else◌, Bool, true, false, List, length, count_by, slice_index, slice_set, Option, Some, None}
use Rattle.std.specs.List.{sum_by}
use Rattle.std.specs.Str.{bytes_eq}
use Rattle.model.specs.Files.{Files, file_in}
use Rattle.model.specs.declared.types.image.File.{File}
use Rattle.directories.specs.Counts.{most_links, AreCounted, HasNames}
use Rattle.directories.specs.Entries.{entries_of, is_free, name_in, number_in}
use Rattle.directories.specs.Trees.{bytes_of, directory_kind, kind_of, links_of, self_name}

-- ---- the names of a number

-- the entry is used, and its name is not a directory's for itself
abbrev pub is_counted : List ℕ → Bool
is_counted entry = not (is_free entry || bytes_eq (name_in entry) self_name)

-- and it leads to the number
abbrev pub leads_to : ℕ → List ℕ → Bool
leads_to number entry = is_counted entry && (number_in entry == number)

-- how many entries do
abbrev pub names_among : List (List ℕ) → ℕ → ℕ
names_among entries number = count_by (leads_to number) entries

-- how many of a file, which is none where it is no directory
unfoldable pub names_in : ℕ → Option File → ℕ
names_in number file =
    if kind_of file == directory_kind then names_among (entries_of (bytes_of file)) number
    else 0

-- how many of the file of a number
abbrev pub names_at : Files → ℕ → ℕ → ℕ
names_at files from number = names_in number (file_in files from)

-- how many of all files
abbrev pub names_to : Files → ℕ → ℕ
names_to files number = sum_by (names_in number) files

-- ---- what is left

-- one was taken off what was left of a number, if there was one
abbrev pub TakesOne : List ℕ → List ℕ → ℕ → Bool → Type 0
TakesOne old new number true = (number < length old) × (0 < slice_index old number)
    × (new ≡ slice_set old number (slice_index old number - 1))
TakesOne old new number false = slice_index old number ≡ 0

-- So many were taken off what was left of each number.
pub record AreTaken (names : ℕ → ℕ) (old new : List ℕ) : Type 0 where
  pub long : length new ≡ length old
  pub taken : (number : ℕ) → slice_index new number + names number ≡ slice_index old number

-- So many are taken off what is left of each number, or less is left of one.
abbrev pub Takes : (ℕ → ℕ) → List ℕ → List ℕ → Option ℕ → Type 0
Takes names old new None = AreTaken names old new
Takes names old new (Some number) = slice_index old number < names number

-- the counts of links of all files
pub record AreLinks (files : Files) (counts : List ℕ) : Type 0 where
  pub long : length counts ≡ length files
  pub links : (number : ℕ) → slice_index counts number ≡ links_of (file_in files number)

-- ---- what is told

-- That many names lead to each number.
pub record AreNameCounts (files : Files) (counts : List ℕ) : Type 0 where
  pub long : length counts ≡ length files
  pub names : (number : ℕ) → number < length files
      → HasNames files number (slice_index counts number)

-- To one number more names lead than a count of links may say.
pub record HasTooMany (files : Files) : Type 0 where
  pub number : ℕ
  pub count : ℕ
  pub names : HasNames files number count
  pub many : most_links < count

-- each count is right, or that of a number isn't
abbrev pub IsMiscounted : Files → Option ℕ → Type 0
IsMiscounted files None = AreCounted files
IsMiscounted files (Some number) =
    HasNames files number (links_of (file_in files number)) → ⊥
