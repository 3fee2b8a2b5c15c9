-- Laws over images in which tasks hold files.
use Rattle.std.specs.Prelude.{◌≡◌, ◌≢◌, ◌↔◌, ◌⊎◌, ℕ, ◌+◌, ◌<◌, ◌≤◌, IsTrue, true, List, [], ◌∷◌, length, replicate, slice_index, slice_set, Some, None}
use Rattle.blocks.specs.Disk.{Image, block_at}
use Rattle.model.specs.declared.types.operations.Op.TheVariants.{Create, Read, Trunc, Remove, Stat}
use Rattle.model.specs.declared.types.operations.Reply.TheVariants.{Done, Made, Bytes, StatOf}
use Rattle.model.specs.Agreement.{IsSameOutsideLog}
use Rattle.model.specs.Codec.{with_inode, new_inode}
use Rattle.model.specs.Files.{Files, files_of, bytes_in}
use Rattle.model.specs.Journal.{is_number}
use Rattle.model.specs.Layout.{form_of, inode_of, inode_count_of, is_marked, direct_count}
use Rattle.model.specs.Log.{logged_count}
use Rattle.model.specs.Operations.{after, is_kind, part_of, transfer_limit}
use Rattle.model.specs.Places.{address_in, addresses_in, pointers_of}
use Rattle.model.specs.Soundness.{IsSound, count_of}
use Rattle.model.specs.Tasks.{Marks}
use Rattle.in_flight.specs.Claims.{with_new_file}
use Rattle.in_flight.specs.Held.{Held, Claim, frees, grows, Claims, FitsHeld, AreAtRest, IsClaimedNow, unmarked, without_address, blocks_left, most_left, last_inode, file_left, names_held}
use Rattle.in_flight.specs.Loose.{LiesInData, Fits}
use Rattle.in_flight.specs.Looks.{IsUsed, IsUnused, HasItsFile, HasDataBlocks, AnswersNoFile}
use Rattle.in_flight.specs.Trees.{left_under, LeavesAlike, depth_of, IsFirstTree, Gives}

-- ---- with no number held

-- an image stands for files with each number at rest exactly where it does so without claims
abbrev pub FitsAtRest : Type 0
FitsAtRest = (m : Files) (x : Image) (claims : Claims) → AreAtRest x claims →
    Fits m x ↔ FitsHeld m x claims

-- so it is sound with an empty log, and these are its files
abbrev pub RestsSoundly : Type 0
RestsSoundly = (m : Files) (x : Image) (claims : Claims) → AreAtRest x claims →
    FitsHeld m x claims → logged_count x ≡ 0 → IsSound x × (files_of x ≡ m)

-- ---- what a change leaves to readers

-- the inode of a number is the same, and so are the blocks that it names, where it leads and its
-- bytes
pub record HasSameFile (x y : Image) (i : ℕ) : Type 0 where
  pub inode : inode_of y i ≡ inode_of x i
  pub blocks : (b : ℕ) → count_of b (addresses_in (pointers_of x i)) ≢ 0 →
      block_at y b ≡ block_at x b
  pub addresses : (k : ℕ) → address_in y (inode_of x i) k ≡ address_in x (inode_of x i) k
  pub bytes : bytes_in y (inode_of x i) ≡ bytes_in x (inode_of x i)

-- the file of a task that writes is the same
abbrev pub KeepsGrown : Image → Image → Claim → Type 0
KeepsGrown x y (frees h) = Unit {0}
KeepsGrown x y (grows g) =
    ((k : ℕ) → address_in y g.copy k ≡ address_in x g.copy k)
    × (bytes_in y g.copy ≡ bytes_in x g.copy)

-- what a task holds is the same: its blocks and what is in them, and where its copy leads
pub record StaysHeld (x y : Image) (c : Claim) : Type 0 where
  pub names : names_held y c ≡ names_held x c
  pub blocks : (b : ℕ) → count_of b (names_held x c) ≢ 0 → block_at y b ≡ block_at x b
  pub grown : KeepsGrown x y c

-- y stands for the files m with the new claims. Each used number at rest but i has its file, and
-- each task that holds another number what it held
pub record FitsThen (m : Files) (x : Image) (claims : Claims) (i : ℕ) (y : Image) (new : Claims) :
    Type 0 where
  pub fits : FitsHeld m y new
  pub others : (j : ℕ) → j ≢ i → claims j ≡ None → IsUsed x j → HasSameFile x y j
  pub held : (j : ℕ) (c : Claim) → j ≢ i → IsTrue (is_number (inode_count_of x) j) →
      claims j ≡ Some c → StaysHeld x y c

-- ---- the block that a task gives up: its bit is cleared

-- the image stands for files, and a task holds number i so
pub record IsHeldIn (m : Files) (x : Image) (claims : Claims) (i : ℕ) (c : Claim) : Type 0 where
  pub fits : FitsHeld m x claims
  pub number : IsTrue (is_number (inode_count_of x) i)
  pub holds : claims i ≡ Some c

-- The task that held number i as h gave block b up and holds it as t: the bit is cleared, and the
-- task has one block less to give up
pub record IsGivenUp (m : Files) (x : Image) (claims : Claims) (i b : ℕ) (h t : Held)
    (new : Claims) : Type 0 where
  pub then : FitsThen m x claims i (unmarked x b) new
  pub fewer : blocks_left x h ≡ blocks_left (unmarked x b) t + 1

-- a data block that the copy names is given up: the address in the copy becomes 0
abbrev pub DirectGivenUp : Type 0
DirectGivenUp = (m : Files) (x : Image) (claims new : Claims) (i k : ℕ) (h : Held) →
    IsHeldIn m x claims i (frees h) → k < direct_count (form_of x) →
    slice_index h.copy.addrs k ≢ 0 →
    IsClaimedNow claims i (Some (frees (without_address h k))) new →
    IsGivenUp m x claims i (slice_index h.copy.addrs k) h (without_address h k) new

-- a block under the first block of addresses that is there, at any depth, the next in order; the
-- cursor then leaves what is left behind it
abbrev pub BlockGivenUp : Type 0
BlockGivenUp = (m : Files) (x : Image) (claims new : Claims) (i slot b : ℕ)
    (behind cursor : List ℕ) (h : Held) → IsHeldIn m x claims i (frees h) →
    IsFirstTree x h.copy slot →
    Gives x (depth_of x slot) h.cursor (slice_index h.copy.addrs slot) b behind →
    LeavesAlike x h.copy cursor behind →
    IsClaimedNow claims i (Some (frees (record h { cursor = cursor }))) new →
    IsGivenUp m x claims i b h (record h { cursor = cursor }) new

-- entries under which nothing is left are passed over: the cursor is another one, the same is left,
-- and the image stays
abbrev pub EntryPassed : Type 0
EntryPassed = (m : Files) (x : Image) (claims new : Claims) (i : ℕ) (cursor : List ℕ) (h : Held) →
    IsHeldIn m x claims i (frees h) → LeavesAlike x h.copy cursor h.cursor →
    IsClaimedNow claims i (Some (frees (record h { cursor = cursor }))) new →
    FitsHeld m x new

-- so many are left as before
abbrev pub LeavesAsMany : Type 0
LeavesAsMany = (x : Image) (cursor : List ℕ) (h : Held) → LeavesAlike x h.copy cursor h.cursor →
    blocks_left x (record h { cursor = cursor }) ≡ blocks_left x h

-- the block of addresses itself, once it is left alone: the address in the copy becomes 0, and the
-- cursor leaves all of the others
abbrev pub TreeGivenUp : Type 0
TreeGivenUp = (m : Files) (x : Image) (claims new : Claims) (i slot : ℕ) (cursor : List ℕ)
    (h : Held) → IsHeldIn m x claims i (frees h) → IsFirstTree x h.copy slot →
    left_under x (depth_of x slot) h.cursor (slice_index h.copy.addrs slot)
    ≡ slice_index h.copy.addrs slot ∷ [] →
    LeavesAlike x (without_address h slot).copy cursor [] →
    IsClaimedNow claims i (Some (frees (record (without_address h slot) { cursor = cursor }))) new →
    IsGivenUp m x claims i (slice_index h.copy.addrs slot) h
    (record (without_address h slot) { cursor = cursor }) new

-- ---- the turn, and the end

-- A used number at rest is held by the task whose turn it is, with the image's inode as its copy
-- and a cursor that leaves all
abbrev pub TurnHolds : Type 0
TurnHolds = (m : Files) (x : Image) (claims new : Claims) (i last_kind : ℕ) (cursor : List ℕ) →
    FitsHeld m x claims → IsUsed x i → claims i ≡ None →
    (last_kind ≡ 0) ⊎ (last_kind ≡ (inode_of x i).kind) → LeavesAlike x (inode_of x i) cursor [] →
    IsClaimedNow claims i
    (Some (frees (record { copy = inode_of x i; cursor = cursor; last_kind = last_kind }))) new →
    FitsThen (slice_set m i (file_left last_kind (inode_of x i).nlink)) x claims i x new

-- these are the files after that operation
abbrev pub TurnAnswers : Type 0
TurnAnswers = (m : Files) (x : Image) (claims : Claims) (i : ℕ) → FitsHeld m x claims → IsUsed x i →
    claims i ≡ None →
    (after (form_of x) m (Trunc i) Done
    ≡ Some (slice_set m i (file_left (inode_of x i).kind (inode_of x i).nlink)))
    × (after (form_of x) m (Remove i) Done ≡ Some (slice_set m i None))

-- a copy without addresses is written back: the number is at rest, with the same files
abbrev pub WriteBackRests : Type 0
WriteBackRests = (m : Files) (x : Image) (claims new : Claims) (i : ℕ) (h : Held) →
    IsHeldIn m x claims i (frees h) → h.copy.addrs ≡ replicate 13 0 →
    IsClaimedNow claims i None new →
    FitsThen m x claims i (with_inode x i (last_inode h)) new

-- ---- while others hold their numbers

-- a free number is claimed for a new file
abbrev pub ClaimFits : Type 0
ClaimFits = (m : Files) (x : Image) (claims : Claims) (i kind : ℕ) → FitsHeld m x claims →
    IsTrue (is_number (inode_count_of x) i) → claims i ≡ None → (inode_of x i).kind ≡ 0 →
    IsTrue (is_kind kind) →
    FitsThen (with_new_file m i kind) x claims i (with_inode x i (new_inode kind)) claims
    × (after (form_of x) m (Create kind) (Made i) ≡ Some (with_new_file m i kind))

-- the log has no part in it
abbrev pub HeldOutsideLog : Type 0
HeldOutsideLog = (m : Files) (x y : Image) (claims : Claims) → IsSameOutsideLog x y →
    FitsHeld m x claims → FitsThen m x claims 0 y claims

-- a used number at rest has its file, leads to data blocks, and answers looks
pub record TellsItsFile (m : Files) (x : Image) (i : ℕ) : Type 0 where
  pub its : HasItsFile m x i
  pub blocks : HasDataBlocks x (inode_of x i)
  pub stat : after (form_of x) m (Stat i) (StatOf (inode_of x i).kind (inode_of x i).nlink (inode_of x i).size) ≡ Some m
  pub read : (off n : ℕ) → n ≤ transfer_limit →
      after (form_of x) m (Read i off n) (Bytes (part_of (bytes_in x (inode_of x i)) off n))
      ≡ Some m

abbrev pub RestingTells : Type 0
RestingTells = (m : Files) (x : Image) (claims : Claims) (i : ℕ) → FitsHeld m x claims →
    IsUsed x i → claims i ≡ None → TellsItsFile m x i

-- a free number is at rest, and has no file
abbrev pub FreeTells : Type 0
FreeTells = (m : Files) (x : Image) (claims : Claims) (i : ℕ) → FitsHeld m x claims →
    IsUnused x i → (claims i ≡ None) × AnswersNoFile (form_of x) m i

-- ---- what a task holds

-- a data block whose bit is set
abbrev pub IsMarkedData : Image → ℕ → Type 0
IsMarkedData x b = LiesInData x b × (is_marked x b ≡ true)

-- what a task holds are data blocks whose bits are set, no two of them one
pub record HasMarkedBlocks (x : Image) (c : Claim) : Type 0 where
  pub marked : (b : ℕ) → count_of b (names_held x c) ≢ 0 → IsMarkedData x b
  pub once : (b : ℕ) → count_of b (names_held x c) ≤ 1

abbrev pub HeldHasBlocks : Type 0
HeldHasBlocks = (m : Files) (x : Image) (claims : Claims) (i : ℕ) (c : Claim) →
    IsHeldIn m x claims i c → HasMarkedBlocks x c

-- and a task that gives up its file's blocks has so few of them left
abbrev pub FewLeft : Type 0
FewLeft = (m : Files) (x : Image) (claims : Claims) (i : ℕ) (h : Held) →
    IsHeldIn m x claims i (frees h) → blocks_left x h ≤ most_left (form_of x)

-- ---- what no file shows

-- where a bit is cleared
abbrev pub ClearedBitKeeps : Type 0
ClearedBitKeeps = (m : Files) (x : Image) (claims : Claims) (b : ℕ) → FitsHeld m x claims →
    b < length x → Marks None x (unmarked x b)

-- where a copy is written back: the labels stay
abbrev pub WriteBackKeeps : Type 0
WriteBackKeeps = (m : Files) (x : Image) (claims : Claims) (i : ℕ) (h : Held) →
    IsHeldIn m x claims i (frees h) → Marks None x (with_inode x i (last_inode h))
