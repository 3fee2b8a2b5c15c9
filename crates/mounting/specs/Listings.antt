-- What is told of a directory's entries.
use Rattle.std.specs.Prelude.{◌≡◌, ◌⊎◌, ℕ, ◌+◌, ◌*◌, ◌/◌, ◌%◌, ◌<◌, ◌≤◌, ◌==◌, ◌&&◌, ◌||◌, if◌then◌else◌, Bool, true, false, List, [], ◌∷◌, ◌++◌, length, replicate, None}
use Rattle.directories.specs.Entries.{number_in, text_in}
use Rattle.directories.specs.Trees.{leads_down, root}
use Rattle.fuse.specs.Answers.{directory_entry_bytes, entry_answer_bytes}
use Rattle.fuse.specs.declared.answers.Attributes.{Attributes}
use Rattle.model.specs.Files.{Files, file_in}
use Rattle.mounting.specs.Asides.{is_aside}
use Rattle.mounting.specs.Tells.{IsTold}
use Rattle.names.specs.declared.asking.Found.{Found}
use Rattle.names.specs.Looks.{IsFound}

-- an entry of the directory of a number is free, or has a name aside in the root
abbrev pub is_hidden : ℕ → List ℕ → Bool
is_hidden number entry = number_in entry == 0 || (number == root && is_aside (text_in entry))

-- how many bytes what is told of an entry takes, with what is told of its file or without
abbrev pub told_size : Bool → List ℕ → ℕ
told_size plus entry =
    ((length (text_in entry) + 7) / 8) * 8 + (if plus then 152 else 24)

-- nothing is told of the file of an entry that doesn't lead down, or whose file is not there
abbrev pub IsUntold : Files → List ℕ → Type 0
IsUntold files entry =
    (leads_down entry ≡ false) ⊎ (file_in files (number_in entry) ≡ None)

-- a file that was found is told, and its type
abbrev pub TellsFound : Found → List ℕ → List ℕ → ℕ → Type 0
TellsFound found old new kind = (a : Attributes) × ((generation : ℕ) × ((valid : ℕ)
    × ((new ≡ old ++ entry_answer_bytes a generation valid) × IsTold found a
    × (kind ≡ a.mode / 4096))))

-- What is told of the file of an entry, and its type: nothing, where that isn't asked for.
abbrev pub TellsFile : Files → List ℕ → Bool → ℕ → List ℕ → List ℕ → Type 0
TellsFile files entry false kind old new = (new ≡ old) × (kind ≡ 0)
TellsFile files entry true kind old new =
    ((kind ≡ 4) × (new ≡ old ++ replicate 128 0) × IsUntold files entry)
    ⊎ ((found : Found) × (IsFound files (number_in entry) found × TellsFound found old new kind))

-- The entry is told: its file's number, the place of the next entry, its type and its name, with
-- zeroes up to a multiple of eight bytes.
pub record TellsName (entry : List ℕ) (next kind : ℕ) (old new : List ℕ) : Type 0 where
  pub zeroes : ℕ
  pub few : zeroes < 8
  pub whole : (length (text_in entry) + zeroes) % 8 ≡ 0
  pub is : new ≡ old ++ (directory_entry_bytes (number_in entry) next (length (text_in entry)) kind
      ++ (text_in entry ++ replicate zeroes 0))

-- before it what is told of its file
abbrev pub TellsOf : Files → Bool → ℕ → List ℕ → List ℕ → List ℕ → Type 0
TellsOf files plus next entry old new = (kind : ℕ) × ((mid : List ℕ)
    × (TellsFile files entry plus kind old mid × TellsName entry next kind mid new))

-- Of the entries of the directory of a number those from a place on are told, in their order,
-- without the hidden ones, as many as have room.
pub data Lists (files : Files) (number offset size : ℕ) (plus : Bool)
    : ℕ → List (List ℕ) → List ℕ → List ℕ → Type 0 where
  Ends : (place : ℕ) (old : List ℕ) → Lists files number offset size plus place [] old old
  Skips : (place : ℕ) (entry : List ℕ) (rest : List (List ℕ)) (old new : List ℕ)
      → (place < offset) ⊎ (is_hidden number entry ≡ true)
      → Lists files number offset size plus (place + 1) rest old new
      → Lists files number offset size plus place (entry ∷ rest) old new
  Fills : (place : ℕ) (entry : List ℕ) (rest : List (List ℕ)) (old : List ℕ)
      → offset ≤ place → is_hidden number entry ≡ false → size < length old + told_size plus entry
      → Lists files number offset size plus place (entry ∷ rest) old old
  Tells : (place : ℕ) (entry : List ℕ) (rest : List (List ℕ)) (old mid new : List ℕ)
      → offset ≤ place → is_hidden number entry ≡ false
      → TellsOf files plus (place + 1) entry old mid
      → Lists files number offset size plus (place + 1) rest mid new
      → Lists files number offset size plus place (entry ∷ rest) old new

-- So with one entry: what is listed behind it is listed with it, or it has no room, and nothing is.
abbrev pub ListsOn : Files → ℕ → ℕ → ℕ → Bool → ℕ → List ℕ → List ℕ → List ℕ → Bool → Type 0
ListsOn files number offset size plus place entry old mid true = (rest : List (List ℕ))
    → (new : List ℕ) → Lists files number offset size plus (place + 1) rest mid new
    → Lists files number offset size plus place (entry ∷ rest) old new
ListsOn files number offset size plus place entry old mid false = (rest : List (List ℕ))
    → Lists files number offset size plus place (entry ∷ rest) old mid
