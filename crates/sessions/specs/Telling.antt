-- What a step tells its user, and what he then knows of his own disk.
use Rattle.std.specs.Prelude.{◌≡◌, ◌∷◌, ◌++◌, [], ℕ, List, Some}
use Rattle.blocks.specs.Disk.{Image, block_at, one_more}
use Rattle.blocks.specs.Held.{HeldImages, Write, applied}
use Rattle.blocks.specs.Told.{TellsWrite}
use Rattle.blocks.specs.declared.disk.Disk.{Ghosts}
use Rattle.sessions.specs.declared.disk.HostDisk.{HostDisk}
use Rattle.sessions.specs.declared.session.Session.{Session}
use Rattle.sessions.specs.declared.session.Told.{Told}
use Rattle.sessions.specs.declared.session.Told.TheVariants.{Nothing, Wrote, Synced}
use Rattle.sessions.specs.Session.{disk_of, image_of, syncs_of, writes_of}

-- a step from s to t did this to the disk, and nothing else
abbrev pub TellsUse : Told → Session → Session → Type 0
TellsUse Nothing s t =
    (writes_of t ≡ writes_of s) × (syncs_of t ≡ syncs_of s) × (image_of t ≡ image_of s)
TellsUse (Wrote b) s t =
    (writes_of t ≡ one_more (writes_of s)) × (syncs_of t ≡ syncs_of s)
    × TellsWrite (Some b) (image_of s) (image_of t)
TellsUse Synced s t =
    (writes_of t ≡ writes_of s) × (syncs_of t ≡ one_more (syncs_of s))
    × (image_of t ≡ image_of s)

-- The user's own disk: the image that it had at the last sync that was told, and the writes that were
-- told since. What is held of these it may have lost, any of it.
pub record Ledger : Type 0 where
  pub synced : Image
  pub held : List Write

-- the same once this was told, of a write with these bytes
abbrev pub after_told : Ledger → Told → List ℕ → Ledger
after_told l Nothing bytes = l
after_told l (Wrote b) bytes = record l { held = l.held ++ (b, bytes) ∷ [] }
after_told l Synced bytes = record { synced = applied l.synced l.held; held = [] }

-- it may hold this image
abbrev pub MayHold : Ledger → Image → Type 0
MayHold l x = HeldImages l.synced l.held x

-- the bytes of the block that is told of an image
abbrev pub told_bytes : Told → Image → List ℕ
told_bytes Nothing x = []
told_bytes (Wrote b) x = block_at x b
told_bytes Synced x = []

-- with all that was told made it has the session's image, and whatever it lost, a stop of the
-- session's disk may leave what it then holds
pub record Covers {N : Type 0} (disk : Ghosts HostDisk N) (s : Session) (l : Ledger) : Type 0 where
  pub shows : image_of s ≡ applied l.synced l.held
  pub leaves : (x : Image) → MayHold l x → disk.leaves (disk_of s) (disk.moment (disk_of s)) x

-- of a disk that has the session's image, and to which no write was told since
abbrev pub fresh_ledger : Session → Ledger
fresh_ledger s = record { synced = image_of s; held = [] }

-- that stays so where what a step from s to t tells is carried to it
abbrev pub CarriesOn : {N : Type 0} → Ghosts HostDisk N → Told → Session → Session → Type 0
CarriesOn disk told s t =
    (l : Ledger) → Covers disk s l → Covers disk t (after_told l told (told_bytes told (image_of t)))
