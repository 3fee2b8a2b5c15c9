-- What a reader knows of the image that recovery would leave, and what reading its files needs.
use Rattle.std.specs.Prelude.{◌≡◌, ◌≢◌, ◌<◌, ◌≤◌, ◌-◌, ◌*◌, ◌/◌, ◌%◌, ℕ, zero, suc, nat_lt, true, ⊤, MatchBool, List, [], ◌∷◌, length, slice_index, None}
use Rattle.blocks.specs.Block.{block_size}
use Rattle.blocks.specs.Disk.{Image, block_at}
use Rattle.model.specs.declared.types.image.Dinode.{Dinode}
use Rattle.model.specs.Fields.{words_of}
use Rattle.model.specs.Format.{log_capacity, inode_start}
use Rattle.model.specs.Layout.{super_of, form_of, depths, reach}
use Rattle.model.specs.Log.{logged_count, homes_of, is_lawful_log}
use Rattle.model.specs.Places.{address_in}
use Rattle.model.specs.Verdict.{geometry_fault}
use Rattle.layout.specs.declared.header.Header.{Header}
use Rattle.offline.specs.declared.recovered.Recovered.{Recovered}

-- the header of an image's log, which is lawful
pub record IsHeaderOf (x : Image) (header : Header) : Type 0 where
  pub count : header.n ≡ logged_count x
  pub homes : header.homes.items ≡ homes_of x
  pub few : length header.homes.items ≤ log_capacity
  pub lawful : is_lawful_log x ≡ true

-- the superblock, the form and the log's header of an image, none of which has a fault
pub record IsRecoveredOf (x : Image) (image : Recovered) : Type 0 where
  pub geometry : geometry_fault x ≡ None
  pub sup : image.sup ≡ super_of x
  pub form : image.form ≡ form_of x
  pub header : IsHeaderOf x image.header

-- ---- the blocks of files

-- a block of the image behind the log
abbrev pub LiesBehindLog : Image → ℕ → Type 0
LiesBehindLog x b = (inode_start ≤ b) × (b < length x)

-- each block of addresses on the way from an address to block k behind it lies behind the log
abbrev pub LeadsUnder : Image → ℕ → ℕ → ℕ → Type 0
LeadsUnder x zero k address = ⊤
LeadsUnder x (suc depth) k address = address ≢ 0 →
    LiesBehindLog x address
    × LeadsUnder x depth (k % reach depth)
    (slice_index (words_of (block_at x address)) (k / reach depth))

-- the same of addresses of those depths
abbrev pub LeadsAlong : Image → ℕ → List ℕ → List ℕ → Type 0
LeadsAlong x k [] addresses = ⊤
LeadsAlong x k (depth ∷ depths) [] = ⊤
LeadsAlong x k (depth ∷ depths) (address ∷ addresses) =
    MatchBool (nat_lt k (reach depth)) (LeadsUnder x depth k address)
    (LeadsAlong x (k - reach depth) depths addresses)

-- the way to block k of an inode's file: each block of addresses on it lies behind the log
pub record HasWay (x : Image) (d : Dinode) (k : ℕ) : Type 0 where
  pub count : length d.addrs ≡ 13
  pub leads : LeadsAlong x k (depths (form_of x)) d.addrs

-- an inode's file may be read: it has the way to each block, and each block that its size needs
-- lies behind the log
pub record MayReadFile (x : Image) (d : Dinode) : Type 0 where
  pub ways : (k : ℕ) → HasWay x d k
  pub blocks : (k : ℕ) → k * block_size < d.size → LiesBehindLog x (address_in x d k)
