-- A file of a tree that gets the name of another one.
use Rattle.std.specs.Prelude.{◌≡◌, ◌≢◌, ◌⊎◌, Bool, true, false, ℕ, List, Result, Ok, Err}
use Rattle.model.specs.Files.{Files}
use Rattle.directories.specs.declared.refusal.Refusal.{Refusal}
use Rattle.directories.specs.declared.refusal.Refusal.TheVariants.{IsADirectory, NotDown}
use Rattle.names.specs.Removing.{IsUnremovedIn, RemovesIn}
use Rattle.names.specs.Renaming.{IsUnrenamed, Renames}
use Rattle.names.specs.declared.refusal.TreeFault.{TreeFault}
use Rattle.names.specs.declared.refusal.TreeFault.TheVariants.{NoCall}
use Rattle.directories.specs.Trees.{root, IsDirectory, IsDown}
use Rattle.directories.specs.Walks.{stepped}

-- a name of a directory is taken from its file, which is removed, or gets a name aside in the root
abbrev pub Clears : ℕ → List ℕ → List ℕ → Bool → Unit {0} → Files → Files → Type 0
Clears to name aside true done files new = Renames to name root aside done files new
Clears to name aside false done files new = RemovesIn to name done files new

-- why it isn't
abbrev pub IsUncleared : ℕ → List ℕ → List ℕ → Bool → Files → Refusal → Type 0
IsUncleared to name aside true files cause = IsUnrenamed files to name root aside cause
IsUncleared to name aside false files cause = IsUnremovedIn files to name cause

-- The name was taken from its file, but the other file is not to get it, for this reason: what was done
-- is never committed.
pub record IsHalfDone (from : ℕ) (old : List ℕ) (to : ℕ) (name aside : List ℕ) (keeps : Bool)
    (files : Files) : Type 0 where
  pub between : Files
  pub clears : Clears to name aside keeps tt files between
  pub cause : Refusal
  pub why : IsUnrenamed between from old to name cause

abbrev pub HindersHalf : ℕ → List ℕ → ℕ → List ℕ → List ℕ → Bool → Files → TreeFault → Type 0
HindersHalf from old to name aside keeps files NoCall =
    IsHalfDone from old to name aside keeps files
HindersHalf from old to name aside keeps files cause = ⊥

-- two names lead to one file
pub record LeadToOne (from : ℕ) (old : List ℕ) (to : ℕ) (name : List ℕ) (files : Files)
    : Type 0 where
  pub number : ℕ
  pub led : stepped files from old ≡ Ok number
  pub led_to : stepped files to name ≡ Ok number

-- they lead to two files, of which none is a directory
pub record LeadToTwo (from : ℕ) (old : List ℕ) (to : ℕ) (name : List ℕ) (files : Files)
    : Type 0 where
  pub number : ℕ
  pub led : stepped files from old ≡ Ok number
  pub other : ℕ
  pub led_to : stepped files to name ≡ Ok other
  pub apart : number ≢ other
  pub plain : IsDirectory files number → ⊥
  pub other_plain : IsDirectory files other → ⊥

-- one of them leads to a directory
pub record LeadToDirectory (from : ℕ) (old : List ℕ) (to : ℕ) (name : List ℕ) (files : Files)
    : Type 0 where
  pub number : ℕ
  pub led : (stepped files from old ≡ Ok number) ⊎ (stepped files to name ≡ Ok number)
  pub directory : IsDirectory files number

-- why neither is so: a name doesn't lead down, leads nowhere, or leads to a directory
abbrev pub IsUnpaired : ℕ → List ℕ → ℕ → List ℕ → Files → Refusal → Type 0
IsUnpaired from old to name files cause =
    ((cause ≡ NotDown) × ((IsDown old → ⊥) ⊎ (IsDown name → ⊥)))
    ⊎ (((stepped files from old ≡ Err cause) ⊎ (stepped files to name ≡ Err cause))
    ⊎ ((cause ≡ IsADirectory) × LeadToDirectory from old to name files))

-- which of them is so: that they lead to one file is true
abbrev pub IsReplaceable : ℕ → List ℕ → ℕ → List ℕ → Files → Result Bool Refusal → Type 0
IsReplaceable from old to name files (Ok true) = LeadToOne from old to name files
IsReplaceable from old to name files (Ok false) = LeadToTwo from old to name files
IsReplaceable from old to name files (Err cause) = IsUnpaired from old to name files cause

-- the file of the second name is cleared, and that of the first one gets the name
pub record ClearsAndRenames (from : ℕ) (old : List ℕ) (to : ℕ) (name aside : List ℕ)
    (keeps : Bool) (files new : Files) : Type 0 where
  pub two : LeadToTwo from old to name files
  pub between : Files
  pub clears : Clears to name aside keeps tt files between
  pub renames : Renames from old to name tt between new

-- a file has the name of another one; or both names lead to one file, and no file changes
abbrev pub Replaces : ℕ → List ℕ → ℕ → List ℕ → List ℕ → Bool → Unit {0} → Files → Files → Type 0
Replaces from old to name aside keeps done files new =
    ((new ≡ files) × LeadToOne from old to name files)
    ⊎ ClearsAndRenames from old to name aside keeps files new

-- why none has
abbrev pub IsUnreplaced : ℕ → List ℕ → ℕ → List ℕ → List ℕ → Bool → Files → Refusal → Type 0
IsUnreplaced from old to name aside keeps files cause =
    IsUnpaired from old to name files cause ⊎ IsUncleared to name aside keeps files cause
