-- Laws over loose images.
use Rattle.std.specs.Prelude.{◌≡◌, ℕ, ◌≤◌, IsTrue, length, replicate, Some, None}
use Rattle.blocks.specs.Disk.{Image, IsImage, block_at}
use Rattle.blocks.specs.Block.{block_size}
use Rattle.model.specs.declared.types.image.Form.{Form}
use Rattle.model.specs.declared.types.operations.Op.TheVariants.{Create}
use Rattle.model.specs.declared.types.operations.Reply.TheVariants.{Made}
use Rattle.model.specs.Agreement.{IsSameOutsideLog}
use Rattle.model.specs.Codec.{made_image, with_inode, new_inode}
use Rattle.model.specs.Files.{Files, files_of}
use Rattle.model.specs.Journal.{is_number}
use Rattle.model.specs.Layout.{form_of, inode_of, inode_count_of, inode_block, is_inode_count, is_size}
use Rattle.model.specs.Log.{logged_count, cleared}
use Rattle.model.specs.Operations.{after, is_kind}
use Rattle.model.specs.Soundness.{IsSound, IsLawfulGeometry}
use Rattle.in_flight.specs.Claims.{HasClaimed, with_new_file}
use Rattle.in_flight.specs.Loose.{Fits}

-- a sound image of whole blocks stands for its own files
abbrev pub SoundFits : Type 0
SoundFits = (x : Image) → IsImage x → IsSound x → Fits (files_of x) x

-- with an empty log, an image that stands for files is sound, and these are its files
abbrev pub FitsSoundly : Type 0
FitsSoundly = (m : Files) (x : Image) → Fits m x → logged_count x ≡ 0 → IsSound x × (files_of x ≡ m)

-- so it is once the log's header is cleared
abbrev pub FitsWhenCleared : Type 0
FitsWhenCleared = (m : Files) (x : Image) → Fits m x →
    IsSound (cleared x) × (files_of (cleared x) ≡ m)

-- the log has no part in it
abbrev pub FitsOutsideLog : Type 0
FitsOutsideLog = (m : Files) (x y : Image) → IsSameOutsideLog x y → Fits m x → Fits m y

-- the new inode at a number changes no other number, and no block but its own
abbrev pub ClaimsOne : Type 0
ClaimsOne = (x : Image) (i kind : ℕ) → IsLawfulGeometry x →
    IsTrue (is_number (inode_count_of x) i) → kind ≤ 3 →
    length (block_at x (inode_block i)) ≡ block_size →
    HasClaimed x i kind (with_inode x i (new_inode kind))

-- a free number is claimed: the image then stands for the files that the creation leaves
abbrev pub ClaimMakesFile : Type 0
ClaimMakesFile = (m : Files) (x : Image) (i kind : ℕ) → Fits m x →
    IsTrue (is_number (inode_count_of x) i) → (inode_of x i).kind ≡ 0 → IsTrue (is_kind kind) →
    Fits (with_new_file m i kind) (with_inode x i (new_inode kind))
    × (after (form_of x) m (Create kind) (Made i) ≡ Some (with_new_file m i kind))

-- a new image stands for no file
abbrev pub MadeFits : Type 0
MadeFits = (form : Form) (size inode_count : ℕ) → IsTrue (is_inode_count inode_count) →
    IsTrue (is_size size inode_count) →
    Fits (replicate inode_count None) (made_image form size inode_count)
