-- A file of a tree that gets another name.
use Rattle.std.specs.Prelude.{◌≡◌, ◌≢◌, ◌⊎◌, ℕ, ◌*◌, ◌^◌, ◌<◌, List, Option, Some, None, Result, Ok, Err, ◌+◌}
use Rattle.blocks.specs.declared.disk.Disk.{Ghosts}
use Rattle.model.specs.Files.{Files, file_in}
use Rattle.calls.specs.Stepping.{Plain}
use Rattle.directories.specs.declared.entries.LinkFault.TheVariants as link_fault
use Rattle.directories.specs.Entries.{entry_size}
use Rattle.directories.specs.Counts.{HasMostLinks}
use Rattle.directories.specs.declared.refusal.Refusal.{Refusal}
use Rattle.directories.specs.declared.refusal.Refusal.TheVariants.{NotFound, NotADirectory, IsRoot, Exists, Full, NoNumber, NoBlock, IsADirectory, NotEmpty, IsInside, NotDown, TooManyLinks}
use Rattle.names.specs.declared.planning.Plan.{Plan}
use Rattle.names.specs.declared.planning.Rise.{Rise}
use Rattle.names.specs.declared.refusal.TreeFault.{TreeFault}
use Rattle.names.specs.declared.refusal.TreeFault.TheVariants.{Path, Refused, Call, NoSpace, NoCall}
use Rattle.directories.specs.Paths.{IsPathCause}
use Rattle.names.specs.Ready.{HasNoCall, IsUnanswered}
use Rattle.directories.specs.TreeChanges.{MovesDirectory, MovesName}
use Rattle.directories.specs.Trees.{directory_in, links_of, number_of, parent_name, IsDirectory, IsDown, IsOutside}
use Rattle.directories.specs.Walks.{IsUnled, LeadsIn}
use Rattle.directories.specs.Writes.{IsLinkCause, Links, MayHold, NeedsBlock, Repoints, Unlinks}

-- A file has a name of a directory in place of its name of the same or of another one. A directory that
-- comes to another one, outside it, has this as its parent.
abbrev pub Moves : Files → Files → ℕ → List ℕ → ℕ → List ℕ → ℕ → Type 0
Moves files new from old to name number =
    (MovesName files new from old to name number × (IsDirectory files number → from ≡ to))
    ⊎ (MovesDirectory files new from old to name number × IsDirectory files number
    × (from ≢ to) × IsOutside files number to)

abbrev pub Renames : ℕ → List ℕ → ℕ → List ℕ → Unit {0} → Files → Files → Type 0
Renames from old to name done files new = (number : ℕ) × Moves files new from old to name number

-- the write that gives a directory another parent, which is outside it, and the counts of both then
pub record IsRise (files : Files) (number from to : ℕ) (rise : Rise) : Type 0 where
  pub directory : IsDirectory files number
  pub outside : IsOutside files number to
  pub repoints : Repoints (directory_in files number) parent_name to rise.up
  pub within : entry_size * rise.up.place < 2 ^ 32
  pub less : rise.left + 1 ≡ links_of (file_in files from)
  pub more : rise.more ≡ links_of (file_in files to) + 1

-- a file that is no directory has no parent
abbrev pub IsUp : Files → ℕ → ℕ → ℕ → Option Rise → Type 0
IsUp files number from to None = IsDirectory files number → ⊥
IsUp files number from to (Some rise) = IsRise files number from to rise

-- or the new parent is inside the directory, or has the greatest count
abbrev pub Rises : Files → ℕ → ℕ → ℕ → Result (Option Rise) Refusal → Type 0
Rises files number from to (Ok rise) = IsUp files number from to rise
Rises files number from to (Err cause) = IsDirectory files number
    × (((cause ≡ IsInside) × (IsOutside files number to → ⊥))
    ⊎ ((cause ≡ TooManyLinks) × HasMostLinks files to))

-- the writes that move a file to another directory
pub record IsPlan (files : Files) (from : ℕ) (old : List ℕ) (to : ℕ) (name : List ℕ) (plan : Plan)
    : Type 0 where
  pub source : IsDirectory files from
  pub down : IsDown old
  pub led : number_of files from old ≡ Some plan.file
  pub target : IsDirectory files to
  pub links : Links (directory_in files to) name plan.file plan.link
  pub unlinks : Unlinks (directory_in files from) old plan.unlink
  pub up : IsUp files plan.file from to plan.rise
  pub link_room : MayHold (directory_in files to) plan.link.place
  pub link_within : entry_size * plan.link.place < 2 ^ 32
  pub unlink_within : entry_size * plan.unlink.place < 2 ^ 32

-- why none has
abbrev pub IsUnrenamed : Files → ℕ → List ℕ → ℕ → List ℕ → Refusal → Type 0
IsUnrenamed files from old to name NotADirectory =
    (IsDirectory files from → ⊥) ⊎ (IsDirectory files to → ⊥)
IsUnrenamed files from old to name NotFound =
    IsDirectory files from × (number_of files from old ≡ None)
IsUnrenamed files from old to name NotDown = IsDirectory files from × (IsDown old → ⊥)
IsUnrenamed files from old to name IsInside = (from ≢ to)
    × ((number : ℕ) × (number_of files from old ≡ Some number) × IsDirectory files number
    × (IsOutside files number to → ⊥))
IsUnrenamed files from old to name Exists = IsDirectory files to
    × IsLinkCause (directory_in files to) name link_fault.Exists
IsUnrenamed files from old to name Full = (from ≢ to) × IsDirectory files to
    × IsLinkCause (directory_in files to) name link_fault.Full
IsUnrenamed files from old to name NoBlock = (from ≢ to) × IsDirectory files to
    × (number_of files to name ≡ None) × NeedsBlock (directory_in files to)
IsUnrenamed files from old to name IsRoot = ⊥
IsUnrenamed files from old to name NoNumber = ⊥
IsUnrenamed files from old to name IsADirectory = ⊥
IsUnrenamed files from old to name NotEmpty = ⊥
IsUnrenamed files from old to name TooManyLinks = (from ≢ to) × IsDirectory files to
    × HasMostLinks files to

-- they are found, or the move is refused
abbrev pub IsPlanned : Files → ℕ → List ℕ → ℕ → List ℕ → Result Plan Refusal → Type 0
IsPlanned files from old to name (Ok plan) = IsPlan files from old to name plan
IsPlanned files from old to name (Err cause) = IsUnrenamed files from old to name cause

-- the last of the first names and the last of the second ones, in the directories that the others
-- lead to
pub record LeadBoth (names into : List (List ℕ)) (files : Files) : Type 0 where
  pub from : ℕ
  pub old : List ℕ
  pub led : LeadsIn names files from old
  pub to : ℕ
  pub name : List ℕ
  pub led_to : LeadsIn into files to name

-- the same there
pub record RenamesAt (names into : List (List ℕ)) (done : Unit {0}) (files new : Files)
    : Type 0 where
  pub lead : LeadBoth names into files
  pub renames : Renames lead.from lead.old lead.to lead.name done files new

-- why it is refused there
pub record IsUnrenamedAt (names into : List (List ℕ)) (files : Files) (cause : Refusal)
    : Type 0 where
  pub lead : LeadBoth names into files
  pub why : IsUnrenamed files lead.from lead.old lead.to lead.name cause

-- or all the first names but the last lead nowhere, or all the second ones
abbrev pub IsUndoneAt : List (List ℕ) → List (List ℕ) → Files → Refusal → Type 0
IsUndoneAt names into files cause =
    IsUnled names files cause ⊎ (IsUnled into files cause ⊎ IsUnrenamedAt names into files cause)

-- why a call at two paths is not done: one of them is none, and nothing was done; or it was refused
abbrev pub IsUndoneAtBoth : {D N : Type 0} → Ghosts D N → List ℕ → List ℕ
    → (Files → Refusal → Type 0) → Plain D → Plain D → TreeFault → Type 0
IsUndoneAtBoth disk path into why k m (Path cause) =
    (m ≡ k) × (IsPathCause path cause ⊎ IsPathCause into cause)
IsUndoneAtBoth disk path into why k m (Refused cause) = IsUnanswered disk why k m (Refused cause)
IsUndoneAtBoth disk path into why k m (Call cause) = IsUnanswered disk why k m (Call cause)
IsUndoneAtBoth disk path into why k m NoSpace = IsUnanswered disk why k m NoSpace
IsUndoneAtBoth disk path into why k m NoCall = IsUnanswered disk why k m NoCall

-- no call was left, as for one at a path
abbrev pub HasNoCallAtBoth : {S T : Type 0} → List ℕ → List ℕ → S → S → Result T TreeFault → Type 0
HasNoCallAtBoth path into t u (Err (Path cause)) =
    (u ≡ t) × (IsPathCause path cause ⊎ IsPathCause into cause)
HasNoCallAtBoth path into t u result = HasNoCall t u result
