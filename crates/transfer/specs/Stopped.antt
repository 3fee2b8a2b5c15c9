-- What a stop leaves of an image into which bytes are put.
use Rattle.std.specs.Prelude.{◌≡◌, ◌≢◌, ◌⊎◌, ◌<◌, ◌≤◌, ℕ, Bool, IsTrue, List, length, take, Option, Some, None}
use Rattle.blocks.specs.Disk.{Image, LeavesOnly}
use Rattle.blocks.specs.declared.disk.Disk.{Ghosts}
use Rattle.model.specs.Files.{Files, file_in, files_of}
use Rattle.model.specs.Log.{is_lawful_log, recovered}
use Rattle.model.specs.Operations.{transfer_limit}
use Rattle.model.specs.Soundness.{IsSound}
use Rattle.calls.specs.Stepping.{IsReached, Plain}
use Rattle.calls.specs.Unshown.{KeepsUnshown}
use Rattle.wal.specs.Recovery.{LeavesIfSynced}
use Rattle.transfer.specs.Needs.{has_room_twice}
use Rattle.transfer.specs.Places.{PutsAll, put_at}
use Rattle.transfer.specs.Rounds.{Goes, IsNeverNeither}

-- where a put that is stopped may leave bytes: at the number of the old file, or at a free one
abbrev pub IsSpot : Files → Option ℕ → ℕ → Type 0
IsSpot files (Some inum) i = (i ≡ inum) × (file_in files inum ≢ None)
IsSpot files None i = (1 ≤ i) × (i < length files) × (file_in files i ≡ None)

-- that many of the first bytes are there
pub record LeavesFirst (old : Files) (inum : Option ℕ) (bytes : List ℕ) (new : Files)
    : Type 0 where
  pub number : ℕ
  pub spot : IsSpot old inum number
  pub count : ℕ
  pub files : new ≡ put_at old number (take count bytes)

-- the files are as before, or with the old file, or a new one, in which the first of the bytes stand
abbrev pub MayLeave : Files → Option ℕ → List ℕ → Files → Type 0
MayLeave old inum bytes new = (new ≡ old) ⊎ LeavesFirst old inum bytes new

-- Recovery of z gives a sound image with such files, where bytes are put at one place: whole
-- operations were made, and no part of one.
pub record KeepsPlace (x : Image) (inum : Option ℕ) (bytes : List ℕ) (z : Image) : Type 0 where
  pub log : IsTrue (is_lawful_log z)
  pub sound : IsSound (recovered z)
  pub files : MayLeave (files_of x) inum bytes (files_of (recovered z))
  pub unshown : KeepsUnshown x (recovered z)

-- However a put at one place that begins over k ends, with m: a stop at any moment of it leaves
-- nothing else, and the disk is the same one. `x` is the image into which the bytes are put.
pub record StaysPlace {D N : Type 0} (disk : Ghosts D N) (x : Image) (inum : Option ℕ)
    (bytes : List ℕ) (k m : Plain D) : Type 0 where
  pub leaves : LeavesOnly disk.moment disk.leaves k.store.volume.device m.store.volume.device
      (KeepsPlace x inum bytes)
  pub name : disk.name m.store.volume.device ≡ disk.name k.store.volume.device
  pub reached : IsReached disk k m

-- how far a put that is stopped came, `twice` where there is room twice; or it was done
abbrev pub MayStop : Bool → Image → Option ℕ → List ℕ → Image → Type 0
MayStop twice x inum bytes y =
    Goes inum twice (λ w place. MayLeave (files_of w) place bytes (files_of y)) x bytes
    ⊎ ((i : ℕ) × PutsAll (files_of x) inum bytes (files_of y) i)

-- Recovery of z gives a sound image that a put into image x may leave: the files as before, or with
-- the first of the bytes in a file. Over a file, where there is room twice and a number is free,
-- the old bytes are there, or the new ones, all of them. What no file shows stays.
pub record KeepsPut (twice : Bool) (x : Image) (inum : Option ℕ) (bytes : List ℕ) (z : Image)
    : Type 0 where
  pub log : IsTrue (is_lawful_log z)
  pub sound : IsSound (recovered z)
  pub files : MayStop twice x inum bytes (recovered z)
  pub either : IsNeverNeither inum twice (files_of x) bytes (files_of (recovered z))
  pub unshown : KeepsUnshown x (recovered z)

-- the files are as before, or all of the bytes were put
abbrev pub IsNoneOrAll : Image → Option ℕ → List ℕ → Image → Type 0
IsNoneOrAll x inum bytes y =
    (files_of y ≡ files_of x) ⊎ ((i : ℕ) × PutsAll (files_of x) inum bytes (files_of y) i)

-- That is left of bytes put into the image of a disk without a fault. As few as one write moves are
-- put whole or not at all.
pub record KeepsPutOf (x : Image) (inum : Option ℕ) (bytes : List ℕ) (z : Image) : Type 0 where
  pub put : KeepsPut (has_room_twice x inum (length bytes)) x inum bytes z
  pub whole : length bytes ≤ transfer_limit → IsNoneOrAll x inum bytes (recovered z)

-- whatever a stop leaves of a put over the disk d, now e: one since the first sync of its recovery,
-- or at any moment where nothing was held back on d
abbrev pub StopsPut : {D N : Type 0} → Ghosts D N → Option ℕ → List ℕ → D → D → Type 0
StopsPut disk inum bytes d e =
    LeavesIfSynced disk d e (KeepsPutOf (recovered (disk.image d)) inum bytes)

-- however a put that begins over k ends, with m, as above
pub record StaysPut {D N : Type 0} (disk : Ghosts D N) (twice : Bool) (x : Image)
    (inum : Option ℕ) (bytes : List ℕ) (k m : Plain D) : Type 0 where
  pub leaves : LeavesOnly disk.moment disk.leaves k.store.volume.device m.store.volume.device
      (KeepsPut twice x inum bytes)
  pub name : disk.name m.store.volume.device ≡ disk.name k.store.volume.device
  pub reached : IsReached disk k m
