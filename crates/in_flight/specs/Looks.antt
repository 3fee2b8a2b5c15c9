-- What looks at a file answer, where an image stands for files.
use Rattle.std.specs.Prelude.{◌≡◌, ◌≢◌, ℕ, ◌*◌, ◌<◌, ◌≤◌, IsTrue, List, length, slice_index, Some}
use Rattle.blocks.specs.Disk.{Image}
use Rattle.blocks.specs.Block.{block_size}
use Rattle.model.specs.declared.types.image.Dinode.{Dinode}
use Rattle.model.specs.declared.types.image.Form.{Form}
use Rattle.model.specs.declared.types.operations.Attribute.{Attribute}
use Rattle.model.specs.declared.types.operations.Op.TheVariants.{Write, Read, Trunc, Remove, Stat, SetAttribute}
use Rattle.model.specs.declared.types.operations.Reply.TheVariants.{Bytes, StatOf, NoFile}
use Rattle.model.specs.Files.{Files, file_in, bytes_in}
use Rattle.model.specs.Journal.{is_number}
use Rattle.model.specs.Layout.{form_of, inode_of, inode_count_of}
use Rattle.model.specs.Operations.{after, part_of, transfer_limit}
use Rattle.model.specs.Places.{address_in}
use Rattle.in_flight.specs.Loose.{LiesInData, IsFit, Fits}

-- a number that operations may name, with an inode that a file has
abbrev pub IsUsed : Image → ℕ → Type 0
IsUsed x i = IsTrue (is_number (inode_count_of x) i) × ((inode_of x i).kind ≢ 0)

-- one with a free inode
abbrev pub IsUnused : Image → ℕ → Type 0
IsUnused x i = IsTrue (is_number (inode_count_of x) i) × ((inode_of x i).kind ≡ 0)

-- the number's inode is fit, and says its file
pub record HasItsFile (m : Files) (x : Image) (i : ℕ) : Type 0 where
  pub fit : IsFit x (inode_of x i)
  pub file : file_in m i
      ≡ Some (record {
        kind = (inode_of x i).kind;
        links = (inode_of x i).nlink;
        bytes = bytes_in x (inode_of x i);
      })
  pub length : length (bytes_in x (inode_of x i)) ≡ (inode_of x i).size

-- each operation on the number's file that is not too long answers that there is none
pub record AnswersNoFile (form : Form) (m : Files) (i : ℕ) : Type 0 where
  pub write : (off : ℕ) (bytes : List ℕ) → length bytes ≤ transfer_limit →
      after form m (Write i off bytes) NoFile ≡ Some m
  pub read : (off n : ℕ) → n ≤ transfer_limit → after form m (Read i off n) NoFile ≡ Some m
  pub trunc : after form m (Trunc i) NoFile ≡ Some m
  pub remove : after form m (Remove i) NoFile ≡ Some m
  pub stat : after form m (Stat i) NoFile ≡ Some m
  pub attribute : (a : Attribute) → after form m (SetAttribute i a) NoFile ≡ Some m

-- what leads to an inode's bytes are data blocks: those that its size needs, and those that its
-- addresses name
pub record HasDataBlocks (x : Image) (d : Dinode) : Type 0 where
  pub needed : (k : ℕ) → k * block_size < d.size → LiesInData x (address_in x d k)
  pub named : (e : ℕ) → e < 13 → slice_index d.addrs e ≢ 0 → LiesInData x (slice_index d.addrs e)

-- a used number has its file
abbrev pub UsedIsFit : Type 0
UsedIsFit = (m : Files) (x : Image) (i : ℕ) → Fits m x → IsUsed x i → HasItsFile m x i

-- its inode leads to data blocks
abbrev pub UsedHasBlocks : Type 0
UsedHasBlocks = (m : Files) (x : Image) (i : ℕ) → Fits m x → IsUsed x i →
    HasDataBlocks x (inode_of x i)

-- the question after type and length is answered by what its inode says
abbrev pub StatTells : Type 0
StatTells = (m : Files) (x : Image) (i : ℕ) → Fits m x → IsUsed x i →
    after (form_of x) m (Stat i) (StatOf (inode_of x i).kind (inode_of x i).nlink (inode_of x i).size) ≡ Some m

-- a reading is answered by the bytes that its blocks hold
abbrev pub ReadTells : Type 0
ReadTells = (m : Files) (x : Image) (i off n : ℕ) → Fits m x → IsUsed x i → n ≤ transfer_limit →
    after (form_of x) m (Read i off n) (Bytes (part_of (bytes_in x (inode_of x i)) off n)) ≡ Some m

-- a free number has no file
abbrev pub NoFileTells : Type 0
NoFileTells = (m : Files) (x : Image) (i : ℕ) → Fits m x → IsUnused x i →
    AnswersNoFile (form_of x) m i
