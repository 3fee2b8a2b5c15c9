-- Images that are alike at some of their blocks.
use Rattle.std.specs.Prelude.{◌≡◌, ◌≢◌, ℕ, ◌||◌, ◌+◌, nat_lt, IsTrue, Bool, List, length}
use Rattle.std.specs.List.{list_all}
use Rattle.blocks.specs.Disk.{Image, block_at}
use Rattle.model.specs.Format.{log_start, log_capacity}
use Rattle.model.specs.declared.types.image.Dinode.{Dinode}
use Rattle.model.specs.declared.types.image.Pointer.{Pointer}
use Rattle.model.specs.Places.{pointers_in, address_in, addresses_in}
use Rattle.model.specs.Names.{names_of}
use Rattle.model.specs.Files.{joined, bytes_in, file_of}

-- each address that is there passes a test
abbrev pub all_pass : (ℕ → Bool) → List Pointer → Bool
all_pass test pointers = list_all test (addresses_in pointers)

-- the blocks that pass are the same in both images
abbrev pub Agrees : (ℕ → Bool) → Image → Image → Type 0
Agrees test x y = (b : ℕ) → IsTrue (test b) → block_at y b ≡ block_at x b

-- the images agree at the superblock and at each block that the inode names in x
pub record AgreesFor (test : ℕ → Bool) (x y : Image) (d : Dinode) : Type 0 where
  pub agree : Agrees test x y
  pub one : IsTrue (test 1)
  pub names : IsTrue (all_pass test (pointers_in x d))

-- an inode has in y what it has in x. A free one has no pointers, names and file; its addresses are
-- nobody's
pub record HasSameContents (x y : Image) (d : Dinode) : Type 0 where
  pub pointers : pointers_in y d ≡ pointers_in x d
  pub names : names_of y d ≡ names_of x d
  pub file : file_of y d ≡ file_of x d
  pub addresses : d.kind ≢ 0 → (k : ℕ) → address_in y d k ≡ address_in x d k
  pub joined : d.kind ≢ 0 → (count : ℕ) → joined y d count ≡ joined x d count
  pub bytes : d.kind ≢ 0 → bytes_in y d ≡ bytes_in x d

-- the blocks but for the log's header and the blocks that it has room for
abbrev pub is_outside_log : ℕ → Bool
is_outside_log b = nat_lt b log_start || nat_lt (log_start + log_capacity) b

-- one size, and the same blocks outside the log
pub record IsSameOutsideLog (x y : Image) : Type 0 where
  pub size : length y ≡ length x
  pub agree : Agrees is_outside_log x y
