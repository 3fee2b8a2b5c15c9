-- What the calls over an image in C's memory promise.
use Rattle.std.specs.Prelude.{◌≡◌, ◌≢◌, ◌⊎◌, ◌<◌, ◌≤◌, ◌==◌, ℕ, Bool, List, false, IsTrue, Some, None}
use Rattle.std.specs.Simd.{first_chunks}
use Rattle.blocks.specs.Disk.{Image}
use Rattle.blocks.specs.declared.disk.Disk.{Ghosts}
use Rattle.model.specs.Codec.{made_image}
use Rattle.model.specs.Files.{file_count, files_of}
use Rattle.model.specs.Layout.{form_of, is_inode_count, is_size, super_of}
use Rattle.model.specs.Log.{logged_count, recovered}
use Rattle.model.specs.Verdict.{verdict}
use Rattle.model.specs.declared.types.fault.CheckFault.{CheckFault}
use Rattle.model.specs.declared.types.fault.CheckFault.TheVariants as check
use Rattle.layout.specs.declared.geometry.MkfsFault.{MkfsFault}
use Rattle.layout.specs.declared.geometry.MkfsFault.TheVariants as making
use Rattle.sessions.specs.Refusal.{HasBlocks, IsRefusal}
use Rattle.sessions.specs.Session.{OpensOver, image_of, writes_of}
use Rattle.sessions.specs.Telling.{Covers, fresh_ledger}
use Rattle.sessions.specs.declared.disk.HostDisk.{HostDisk}
use Rattle.sessions.specs.declared.refusal.OpenRefusal.{OpenRefusal}
use Rattle.sessions.specs.declared.session.Session.{Session}
use Rattle.xvfs_c.specs.Numbers.{check_number, form_meant, form_number, mkfs_number, open_number}
use Rattle.xvfs_c.specs.declared.report.XvfsReport.{XvfsReport}

-- these bytes are the blocks of that image, of which there are 1 to 8191
pub record HasImage (bytes : List ℕ) (x : Image) : Type 0 where
  pub count : ℕ
  pub blocks : HasBlocks bytes count
  pub is : x ≡ first_chunks 1024 count bytes

-- these bytes are no image
abbrev pub IsNoImage : List ℕ → Type 0
IsNoImage bytes = (count : ℕ) → HasBlocks bytes count → ⊥

-- the image's first fault, or memory was refused
abbrev pub IsFaultOf : Image → CheckFault → Type 0
IsFaultOf x fault = (verdict x ≡ Some fault) ⊎ (fault ≡ check.NoMemory)

-- of an image without a fault
pub record TellsReport (bytes : List ℕ) (out : XvfsReport) : Type 0 where
  pub image : Image
  pub has : HasImage bytes image
  pub sound : verdict image ≡ None
  pub fault : out.fault ≡ 0
  pub at : out.at ≡ 0
  pub form : out.form ≡ form_number (form_of image)
  pub size : out.size ≡ (super_of image).size
  pub nblocks : out.nblocks ≡ (super_of image).nblocks
  pub ninodes : out.ninodes ≡ (super_of image).ninodes
  pub logged : out.logged ≡ logged_count image
  pub files : out.files ≡ file_count (files_of (recovered image))

-- the number of a fault of an image, or of memory, and where it is; nothing else is told
pub record TellsFault (bytes : List ℕ) (number : ℕ) (old new : XvfsReport) : Type 0 where
  pub image : Image
  pub has : HasImage bytes image
  pub fault : CheckFault
  pub is : IsFaultOf image fault
  pub named : (number, new.at) ≡ check_number fault
  pub told : new ≡ record old { fault = number; at = new.at }

-- a new image of the meant form was laid over bytes
pub record Makes (old : List ℕ) (inode_count form : ℕ) (new : List ℕ) : Type 0 where
  pub count : ℕ
  pub blocks : HasBlocks old count
  pub inodes : IsTrue (is_inode_count inode_count)
  pub size : IsTrue (is_size count inode_count)
  pub made : HasImage new (made_image (form_meant form) count inode_count)

-- why no image of so many blocks and inode numbers is made
abbrev pub IsMakingCause : ℕ → ℕ → MkfsFault → Type 0
IsMakingCause count inode_count making.InodeRange = is_inode_count inode_count ≡ false
IsMakingCause count inode_count making.SizeRange =
    IsTrue (is_inode_count inode_count) × (is_size count inode_count ≡ false)
IsMakingCause count inode_count making.NoMemory = Unit {0}
IsMakingCause count inode_count making.Disk = ⊥

-- that number says why
pub record RefusesToMake (bytes : List ℕ) (inode_count number : ℕ) : Type 0 where
  pub count : ℕ
  pub blocks : HasBlocks bytes count
  pub fault : MkfsFault
  pub cause : IsMakingCause count inode_count fault
  pub named : number ≡ mkfs_number fault

-- so many logged blocks of an image without a fault were copied home
pub record Recovers (old : List ℕ) (n : ℕ) (new : List ℕ) : Type 0 where
  pub image : Image
  pub has : HasImage old image
  pub sound : verdict image ≡ None
  pub count : n ≡ logged_count image
  pub recovered : HasImage new (recovered image)

-- the number of a fault of the image or of memory for the check, or that of memory behind it
abbrev pub IsUnrecovered : Image → ℕ → Type 0
IsUnrecovered x number =
    ((fault : CheckFault) × IsFaultOf x fault × (number ≡ (check_number fault).0))
    ⊎ ((number ≡ 1027) × (verdict x ≡ None))

-- that number says why these bytes are not recovered
abbrev pub RefusesToRecover : List ℕ → ℕ → Type 0
RefusesToRecover bytes number = (x : Image) × HasImage bytes x × IsUnrecovered x number

-- A session was opened over these bytes, with nothing to recover: its disk has them. A device that has
-- them, and holds nothing back, holds what a stop of that disk may leave; from then on each step says how
-- that goes on.
pub record OpensUnlogged {N : Type 0} (disk : Ghosts HostDisk N) (bytes : List ℕ) (processes : ℕ)
    (holds : Bool) (s : Session) : Type 0 where
  pub opens : OpensOver disk bytes processes holds s
  pub unwritten : writes_of s ≡ 0
  pub shows : image_of s ≡ first_chunks 1024 opens.count bytes
  pub covers : Covers disk s (fresh_ledger s)

-- A session over these bytes would begin with writes of its recovery, which nobody was told.
abbrev pub IsLogged : {N : Type 0} → Ghosts HostDisk N → List ℕ → ℕ → Bool → Type 0
IsLogged disk bytes processes holds =
    (s : Session) × OpensOver disk bytes processes holds s × (writes_of s ≢ 0)

-- that number says why no session is opened over these bytes; 1285 is that of an unknown flag, 1286 that
-- of a log that isn't empty, and 1283 that of memory
abbrev pub RefusesToOpen : {N : Type 0} → Ghosts HostDisk N → List ℕ → ℕ → ℕ → ℕ → Type 0
RefusesToOpen disk bytes processes flags number = ((number ≡ 1285) × (1 < flags))
    ⊎ ((flags ≤ 1) × ((number ≡ 1283)
    ⊎ ((number ≡ 1286) × IsLogged disk bytes processes (flags == 1))
    ⊎ ((refusal : OpenRefusal) × IsRefusal bytes processes refusal × (number ≡ open_number refusal))))
