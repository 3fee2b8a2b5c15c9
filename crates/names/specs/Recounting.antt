-- Counts of links that are put right.
use Rattle.std.specs.Prelude.{◌≡◌, ◌≢◌, ◌⊎◌, ℕ, ◌<◌, ◌≤◌, ◌^◌, IsTrue, List, [], ◌∷◌, ◌++◌, length, slice_index, All, None}
use Rattle.blocks.specs.Calls.{OnlyReads}
use Rattle.blocks.specs.Disk.{Image, LeavesOnly}
use Rattle.blocks.specs.declared.disk.Disk.{Ghosts}
use Rattle.calls.specs.Calls.{image_on}
use Rattle.calls.specs.Files.{with_count}
use Rattle.calls.specs.Opening.{IsOpenedPair}
use Rattle.calls.specs.Pairing.{IsUnmade}
use Rattle.calls.specs.Stepping.{Plain}
use Rattle.calls.specs.declared.transactions.fault.TransactionFault.{TransactionFault}
use Rattle.model.specs.Files.{Files, file_in, files_of}
use Rattle.model.specs.Log.{is_lawful_log, recovered}
use Rattle.model.specs.Soundness.{IsSound}
use Rattle.model.specs.Verdict.{verdict}
use Rattle.wal.specs.Recovery.{LeavesIfSynced}
use Rattle.directories.specs.Counts.{AreCounted, HasNames, HasRightCount}
use Rattle.names.specs.Opening.{IsUnopened}
use Rattle.directories.specs.Tallying.{HasTooMany}
use Rattle.directories.specs.Trees.{links_of, IsFile, IsTree}
use Rattle.names.specs.declared.recounting.Counted.{Counted}
use Rattle.names.specs.declared.recounting.RecountFault.{RecountFault}
use Rattle.names.specs.declared.recounting.RecountFault.TheVariants.{Unopened, Call, TooMany}

-- The same files are there, each with the type and the bytes that it had. Their counts may differ.
abbrev pub AgreeButCounts : Files → Files → Type 0
AgreeButCounts files new = (i : ℕ) → with_count (file_in new i) 0 ≡ with_count (file_in files i) 0

-- ---- what is wrong

-- so many names lead to a file, and its count says something else
pub record IsWrong (files : Files) (one : Counted) : Type 0 where
  pub there : IsFile files one.number
  pub names : HasNames files one.number one.count
  pub differs : links_of (file_in files one.number) ≢ one.count

-- one of these is that of the number
abbrev pub IsOneOf : List Counted → ℕ → Type 0
IsOneOf [] i = ⊥
IsOneOf (one ∷ more) i = (one.number ≡ i) ⊎ IsOneOf more i

-- no number stands there twice
abbrev pub IsOnce : List Counted → Type 0
IsOnce [] = Unit {0}
IsOnce (one ∷ more) = (IsOneOf more one.number → ⊥) × IsOnce more

-- these are wrong, and no others
pub record AreWrong (files : Files) (wrong : List Counted) : Type 0 where
  pub once : IsOnce wrong
  pub each : All (IsWrong files) wrong
  pub rest : (i : ℕ) → IsOneOf wrong i ⊎ HasRightCount files i
  pub few : length wrong < 2 ^ 32

-- ---- by two lists of counts

-- a number stands among the others with its count, where that is not the other one
abbrev pub AddsIf : ℕ → ℕ → ℕ → List Counted → List Counted → Type 0
AddsIf number count links old new = ((count ≡ links) × (new ≡ old))
    ⊎ ((count ≢ links) × (new ≡ old ++ record { number = number; count = count } ∷ []))

-- the count of a number is another one in the two lists, the first one's
pub record Differs (counts links : List ℕ) (one : Counted) : Type 0 where
  pub inside : one.number < length counts
  pub is : one.count ≡ slice_index counts one.number
  pub other : slice_index links one.number ≢ one.count

-- these are all such numbers
pub record AreDiffering (counts links : List ℕ) (wrong : List Counted) : Type 0 where
  pub once : IsOnce wrong
  pub each : All (Differs counts links) wrong
  pub rest : (i : ℕ) → i < length counts
      → IsOneOf wrong i ⊎ (slice_index links i ≡ slice_index counts i)
  pub few : length wrong ≤ length counts

-- ---- over a kernel

-- what a stop leaves of image x: recovery gives a sound image with its files, but for their counts
pub record KeepsButCounts (x z : Image) : Type 0 where
  pub log : IsTrue (is_lawful_log z)
  pub sound : IsSound (recovered z)
  pub files : AgreeButCounts (files_of x) (files_of (recovered z))

-- each count is right
pub record AreSet {D : Type 0} (image : D → Image) (k m : Plain D) : Type 0 where
  pub sound : IsSound (image_on image m)
  pub files : AgreeButCounts (files_of (image_on image k)) (files_of (image_on image m))
  pub counted : AreCounted (files_of (image_on image m))

-- one was not set behind others, which leave names and bytes
pub record FailsToSet {D N : Type 0} (disk : Ghosts D N) (k m : Plain D) (fault : TransactionFault)
    : Type 0 where
  pub mid : Plain D
  pub files : AgreeButCounts (files_of (image_on disk.image k)) (files_of (image_on disk.image mid))
  pub why : IsUnmade disk mid m fault

-- ---- over a disk

-- A kernel was opened over the disk d, now e. Whatever a stop leaves since then: recovery gives a sound
-- image with the files of d, but for their counts.
pub record HasRun {D N : Type 0} (disk : Ghosts D N) (d e : D) : Type 0 where
  pub first : Plain D
  pub opened : IsOpenedPair disk d first
  pub leaves : LeavesOnly disk.moment disk.leaves first.opening e
      (KeepsButCounts (recovered (disk.image d)))

-- The disk d, now e, has no fault, and its files, as recovery leaves them, are a tree. So many of their
-- counts were wrong, and none is, nor has the image a fault; where none was, the disk was only read.
pub record IsRecounted {D N : Type 0} (disk : Ghosts D N) (d e : D) (wrong : ℕ) : Type 0 where
  pub sound : verdict (disk.image d) ≡ None
  pub tree : IsTree (files_of (recovered (disk.image d)))
  pub which : List Counted
  pub are : AreWrong (files_of (recovered (disk.image d))) which
  pub many : wrong ≡ length which
  pub files : AgreeButCounts (files_of (recovered (disk.image d)))
      (files_of (recovered (disk.image e)))
  pub counted : AreCounted (files_of (recovered (disk.image e)))
  pub opens : verdict (disk.image e) ≡ None
  pub way : ((wrong ≡ 0) × OnlyReads disk d e) ⊎ ((wrong ≢ 0) × HasRun disk d e)

-- more names lead to a file than a count may say, and the disk was only read
pub record IsTooMany {D N : Type 0} (disk : Ghosts D N) (d e : D) : Type 0 where
  pub sound : verdict (disk.image d) ≡ None
  pub tree : IsTree (files_of (recovered (disk.image d)))
  pub names : HasTooMany (files_of (recovered (disk.image d)))
  pub reads : OnlyReads disk d e

-- a kernel was opened over the disk, and a count was not set
pub record FailsToRecount {D N : Type 0} (disk : Ghosts D N) (d e : D) (fault : TransactionFault)
    : Type 0 where
  pub first : Plain D
  pub opened : IsOpenedPair disk d first
  pub last : Plain D
  pub fails : FailsToSet disk first last fault
  pub device : last.store.volume.device ≡ e

-- why counts are not put right
abbrev pub IsUnrecounted : {D N : Type 0} → Ghosts D N → D → D → RecountFault → Type 0
IsUnrecounted disk d e (Unopened cause) = IsUnopened disk d e cause
IsUnrecounted disk d e TooMany = IsTooMany disk d e
IsUnrecounted disk d e (Call fault) = FailsToRecount disk d e fault

-- Whatever a stop leaves of it, since the first sync of the recovery, or at any moment where nothing was
-- held back on d: recovery gives a sound image with the files of d, but for their counts.
abbrev pub StopsRecount : {D N : Type 0} → Ghosts D N → D → D → Type 0
StopsRecount disk d e = verdict (disk.image d) ≡ None
    → LeavesIfSynced disk d e (KeepsButCounts (recovered (disk.image d)))
