-- How many steps a task has left at most, by its stage.
use Rattle.std.proofs.Common.{◌≡◌, ℕ, ◌+◌, ◌-◌, ◌*◌, ◌/◌, ◌<◌, ◌≤◌, false, refl, Option, Some, None, ap, sym, arith}
use Rattle.inodes.specs.Common.{alloc_left, AllocAt, block_limit, blocks_behind, Branch, branch_of, branch_shallow, copy_at, deepest, Dinode, Extent, false≢true, few_at, Form, form_of, Freeing, greatest_size, HasComeTo, held_of, Image, is_branch, is_over, IsAtRead, IsOnWay, lies_short, LockAt, locks_left, looks_left, LooksAt, MapAt, most_behind, most_left, next_block, next_byte, One, reads_left, ReadState, Stage, steps_left, steps_most, TableState, TaskState, truncs_left, Two, uses_left, way_left, within_limit, WriteAt, writes_for, writes_left_at, WriteState}
use Rattle.in_flight.specs.Held.{blocks_left}

few_looks : (o : Option ℕ) → looks_left o ≤ 2
few_looks None = omega arith
few_looks (Some slot) = omega arith

one_look : (o : Option ℕ) → 1 ≤ looks_left o
one_look None = omega arith
one_look (Some slot) = omega arith

few_locks : (a : LockAt) → locks_left a ≤ 4
few_locks LockAt.Reference = omega arith
few_locks (LockAt.Lock k) = omega arith
few_locks (LockAt.Read k None) = omega arith
few_locks (LockAt.Read k (Some slot)) = omega arith

-- a reading's bytes lie in four blocks
few_reads : (cur : Image) (n : ℕ) (inode : Option Dinode) (t : TaskState) (m : ReadState) →
    IsAtRead cur n inode t m → reads_left m + 1 ≤ 25
few_reads cur n inode t m is =
    let shallow = branch_shallow (form_of cur) (m.next / 1024) in
    let ahead = steps_most m.form ((m.end - 1) / 1024 - m.next / 1024) in
    omega (arith, is.op.may.1, is.read.begun, is.read.some, is.read.end, (few_at cur m.inode (m.next / 1024) m.target is.read.leads), shallow, ahead)

few_uses : (o : Option ℕ) → uses_left o ≤ 2
few_uses None = omega arith
few_uses (Some slot) = omega arith

pub some_uses : (o : Option ℕ) → 1 ≤ uses_left o
some_uses None = omega arith
some_uses (Some slot) = omega arith

-- who frees a file's blocks has so few steps left
pub few_frees : (cur : Image) (m : Freeing) → blocks_left cur (held_of m.machine) ≤ most_left (form_of cur) →
    truncs_left cur m ≤ most_behind (form_of cur)
few_frees cur m few = omega (arith, few)

-- and no other stage behind the turn has more
pub most_elsewhere : (form : Form) → 1080 ≤ most_behind form
most_elsewhere One = omega arith
most_elsewhere Two = omega arith

few_allocs : (a : AllocAt) → alloc_left a ≤ 4
few_allocs (AllocAt.Looking slot) = let most = few_uses slot in omega (arith, most)
few_allocs (AllocAt.Zeroing b slot) = let most = few_uses slot in omega (arith, most)

-- the blocks of addresses that a way goes through, from where it stands
few_on_way : (cur : Image) (d : Dinode) (e : Extent) (b : Branch) (a : MapAt) → IsOnWay cur d e b a → way_left b a ≤ 7 * b.depth + 4
few_on_way cur d e b (MapAt.Address t) on = let most = few_allocs t.at in omega (arith, most)
few_on_way cur d e b (MapAt.Entry n slot) on = let most = few_uses slot in let low = lies_short cur d b n on in omega (arith, most, low)
few_on_way cur d e b (MapAt.Behind n i t) on = let most = few_allocs t.at in let low = lies_short cur d b n on.0.0 in omega (arith, most, low)
few_on_way cur d e b (MapAt.Setting n i found) on = let low = lies_short cur d b n on.0.0 in omega (arith, low)

-- the writing has come to a block that files can have
pub next_low : (m : WriteState) → m.done < m.count → m.offset + m.count ≤ greatest_size m.extent.form → next_block m < block_limit m.extent.form
next_low m left fits = within_limit m.extent.form (next_byte m) (omega (arith, left, fits))

-- the steps for several blocks
pub writes_more : (form : Form) (n : ℕ) → writes_for form (n + 1) ≡ writes_for form n + writes_for form 1
writes_more One n = omega arith
writes_more Two n = omega arith

pub writes_grow : (form : Form) (m n : ℕ) → m ≤ n → writes_for form m ≤ writes_for form n
writes_grow One m n le = omega (arith, le)
writes_grow Two m n le = omega (arith, le)

pub writes_most : (form : Form) (n : ℕ) → writes_for form n ≤ 20 * n
writes_most One n = omega arith
writes_most Two n = omega arith

-- those on the way to a block and the two at it
pub writes_enough : (form : Form) (k : ℕ) → k < block_limit form → 7 * (branch_of form k).depth + 6 ≤ writes_for form 1
writes_enough form k low = by_form form (branch_of form k).depth (is_branch k form low).shallow
  where
    by_form : (f : Form) (depth : ℕ) → depth ≤ deepest f → 7 * depth + 6 ≤ writes_for f 1
    by_form One depth few = omega (arith, few)
    by_form Two depth few = omega (arith, few)

-- who writes a file's bytes has so few steps left: those for four blocks, and two for the inode
pub few_writes : (cur : Image) (m : WriteState) (a : WriteAt) → m.count ≤ 3072 → m.offset + m.count ≤ greatest_size m.extent.form → HasComeTo cur m a → writes_left_at m a ≤ writes_for m.extent.form 4 + 2
few_writes cur m (WriteAt.Mapping way) few fits come =
    let enough = writes_enough m.extent.form (next_block m) (next_low m come.0 fits) in
    let one_more = writes_more m.extent.form (blocks_behind m) in
    let four = writes_grow m.extent.form (blocks_behind m + 1) 4 (omega (arith, few)) in
    omega (arith, (few_on_way cur m.inode m.extent way.branch way.at come.1.at), (ap (λ (b : Branch). b.depth) come.1.branch), enough, one_more, four)
few_writes cur m (WriteAt.Block b slot) few fits come =
    let four = writes_grow m.extent.form (blocks_behind m + 1) 4 (omega (arith, few)) in
    omega (arith, (few_uses slot), (writes_enough m.extent.form (next_block m) (next_low m come.0 fits)), (writes_more m.extent.form (blocks_behind m)), four)
few_writes cur m (WriteAt.Updating u) few fits come = let most = few_uses u.slot in omega (arith, most)

-- a task that frees a file's blocks has no more of them left than a file may have
abbrev pub HasFewBlocks : Image → Stage → Type 0
HasFewBlocks cur a = (k : ℕ) (m : Freeing) → a ≡ Stage.Truncating k m →
    blocks_left cur (held_of m.machine) ≤ most_left (form_of cur)

-- there are 64 inode blocks at most, each of which takes two steps
pub few_steps : (cur : Image) (table : TableState) (t : TaskState) (a : Stage) →
    table.inode_count ≤ 1024 → LooksAt cur table t a → HasFewBlocks cur a →
    steps_left cur a table.inode_count ≤ most_behind (form_of cur) + 5
few_steps cur table t Stage.Nowhere few looks blocks = omega arith
few_steps cur table t (Stage.Creating m) few looks blocks =
    omega (arith, few, (few_looks m.slot), (most_elsewhere (form_of cur)))
few_steps cur table t (Stage.Taking m) few looks blocks = let most = few_locks m.at in omega (arith, most)
few_steps cur table t (Stage.Reading k m) few looks blocks =
    omega (arith, (few_reads cur table.inode_count (copy_at table.places k) t m looks), (most_elsewhere (form_of cur)))
few_steps cur table t (Stage.Delivering k) few looks blocks = omega arith
few_steps cur table t (Stage.Truncating k m) few looks blocks =
    omega (arith, (few_frees cur m (blocks k m refl)))
few_steps cur table t (Stage.Writing k m) few looks blocks =
    omega (arith, (few_writes cur m m.at looks.few looks.fits looks.come), (writes_most m.extent.form 4), (most_elsewhere (form_of cur)))
few_steps cur table t (Stage.Setting k d u) few looks blocks = let most = few_uses u.slot in omega (arith, most)
few_steps cur table t (Stage.Leaving k) few looks blocks = omega arith

-- a task that is not over has a step left at least
pub some_step : (x : Image) (a : Stage) (n : ℕ) → is_over a ≡ false → 1 ≤ steps_left x a n
some_step x Stage.Nowhere n unfinished = absurd (false≢true (sym unfinished))
some_step x (Stage.Creating m) n unfinished = let one = one_look m.slot in omega (arith, one)
some_step x (Stage.Taking m) n unfinished = omega arith
some_step x (Stage.Reading k m) n unfinished = omega arith
some_step x (Stage.Delivering k) n unfinished = omega arith
some_step x (Stage.Truncating k m) n unfinished = omega arith
some_step x (Stage.Writing k m) n unfinished = omega arith
some_step x (Stage.Setting k d u) n unfinished = omega arith
some_step x (Stage.Leaving k) n unfinished = omega arith
