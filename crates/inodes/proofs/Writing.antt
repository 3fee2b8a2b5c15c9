-- What is true of a process that writes a file's bytes: what it holds, and that it may make its next step.
use Rattle.std.proofs.Common.{◌≡◌, ◌≢◌, ℕ, ◌<◌, ◌≤◌, List, length, refl, sym, ◌∙◌, ap, subst, arith, Some, Option}
use Rattle.std.specs.Prelude.{IsTrue, slice_index, IsSome}
use Rattle.inodes.specs.Common.{address_in, addresses_in, Agrees, AllocAt, AllocState, apart, AreLooking, at_hand, between, bitmap_block, block_at, block_limit, block_of_alloc, block_of_write, block_on_way, blocks_left, Branch, branch_of, branch_shallow, bytes_by, Claims, claims_of, copy_marked, count_of, counted, current_of, data_apart, data_marked, depth_of, depths, entry_at, Extent, facts_of, File, file_in, Files, FitsHeld, Form, form_of, Ghosts, grip, grip_of, grips_of, growing_of, grows, Growth, growth_of, hand_on_way, HasComeTo, HasLoggedWrite, HasSlot, HoldsForWriting, HoldsWhereGot, Image, inode_block, inode_count_of, is_branch, is_number, IsApart, IsGrowing, IsHeldIn, IsMapped, IsMarkedData, IsNode, IsOnWay, IsWriting, kept_by_write, kept_on_way, led_to, length-current, lies_short, LiesInData, LiesOnWay, locked_grip, LoggedAt, LogState, MapAt, mapped, MapState, MayAlloc, MayAllocAt, MayMapAt, MayWrite, MayWriteAt, next_block, Node, node_of_write, node_on_way, pointers_in, SameInside, slot_of_alloc, Stage, Stands, StoreState, super_of, taken_apart, taken_at, taken_by, taken_marked, taken_on_way, TakesIn, task, used_by, used_by_write, used_on_way, WriteAt, WriteState, asked_by, Op}
use Rattle.wal.specs.Machine.{HasRoom}
use Rattle.inodes.specs.WriteRuns.{LogsFew}
use Rattle.inodes.specs.Lemmas.Faults.{where_none}
use Rattle.inodes.specs.Lemmas.Looks.{enough_bytes, write_asks, write_locks, writing_is}
use Rattle.inodes.proofs.Standing.{StandsAt}
use Rattle.inodes.proofs.Gripping.{grip_is}
use Rattle.inodes.proofs.Searching.{where_got}
use Rattle.inodes.proofs.TruncSlots.{Slots}
use Rattle.inodes.proofs.Truncating.{has_inode}
use Rattle.inodes.specs.Lemmas.Unclaimed.{LocksAlone, locks_alone, own_growth}
use Rattle.inodes.specs.Lemmas.Bounds.{next_low as low}
use Rattle.inodes.proofs.WriteLogged.{ways_keep as keeps, KeepsWays, LogsOn, beside_few, counted_most, four_beside}
use Rattle.inodes.proofs.WriteNodes.{depth_there, lies_named, same_inside}

-- a block at hand is one that is left
hand_left : (l : LogState) (m : WriteState) (a : WriteAt) → counted l (at_hand a) ≤ blocks_left m a
hand_left l m (WriteAt.Mapping way) = let most = counted_most l (hand_on_way way.at) in omega (arith, most)
hand_left l m (WriteAt.Block b slot) = let most = counted_most l b in omega (arith, most)
hand_left l m (WriteAt.Updating u) = omega arith

-- what it logged is little
pub logs_few : LogsFew
logs_few cur n t m l p homes is had used =
    omega (arith, (had homes used), (beside_few cur l m is.fits), (hand_left l m m.at))

-- in a store whose process p writes a file's bytes
module _ {D N : Type 0} {disk : Ghosts D N} {s : StoreState D} {p k : ℕ} {m : WriteState} (h : StandsAt disk s p (Stage.Writing k m)) where
  abbrev pub cur : Image
  cur = current_of disk.image s.volume

  abbrev pub claims : Claims
  claims = claims_of s.tasks

  -- the block of addresses at hand
  abbrev pub own : ℕ
  own = node_of_write m.at

  abbrev pub op : Option Op
  op = (task s.tasks p).op

  abbrev pub bytes : List ℕ
  bytes = bytes_by op

  abbrev pub grown : Growth
  grown = growth_of m op

  pub agrees : Agrees s.volume.buffers s.volume.log s.table.inode_count s.tasks
  agrees = where_none s.volume.fault h.well h.is.agrees

  pub looking : AreLooking cur s.table s.tasks
  looking = where_none s.volume.fault h.well h.is.looks

  pub work : IsWriting cur s.table.inode_count (task s.tasks p) m
  work = writing_is cur s.table s.tasks looking p k m h.stood

  pub enough : m.count ≤ length bytes
  enough = subst (λ (o : Option Op). m.count ≤ length (bytes_by o)) (sym work.is) (enough_bytes work.op m work.writes work.few)

  pub asks : asked_by (task s.tasks p).op ≡ m.number
  asks = write_asks work.op m work.is work.writes

  pub gripped : grip_of (task s.tasks p) ≡ Some (locked_grip k m.number)
  gripped = write_locks cur s.table s.tasks looking p k m h.stood

  pub has : grip (grips_of s.tasks) p ≡ Some (locked_grip k m.number)
  has = grip_is s.tasks p ∙ gripped

  -- it alone has locked its number, and holds it
  pub alone : LocksAlone s.tasks p m.number
  alone = locks_alone cur s.table s.tasks looking p k m.number gripped

  pub claimed : claims_of s.tasks m.number ≡ Some (grows grown)
  claimed = own_growth cur s.table s.tasks looking p k m h.stood

  pub holds : HoldsForWriting s.volume.buffers s.volume.log p m
  holds = subst (λ (a : Stage). Stands s.volume.buffers s.volume.log s.table.inode_count p (task s.tasks p).op a) h.stood (agrees.stands p)

  pub logged : LogsOn cur s.volume.log p m
  logged =
      let few : HasLoggedWrite cur s.volume.log p m = subst (LoggedAt cur s.volume.log p) h.stood (where_none s.volume.fault h.well h.is.logged p) in
      record { homes = holds.logged.homes; used = holds.logged.used; few = few holds.logged.homes holds.logged.used }

  pub slots : Slots s.volume.buffers p own (kept_by_write m.at) (block_of_write m.at) (used_by_write m.at)
  slots = record { holds_kept = holds.kept; holds_used = holds.used; locks = λ e i lock. subst (λ (a : Stage). HasSlot a i) h.stood (agrees.holders p e i lock) }

  pub number : IsTrue (is_number (inode_count_of cur) m.number)
  number = subst (λ (n : ℕ). IsTrue (is_number n m.number)) h.is.numbers work.number

  pub held_in : (files : Files) → FitsHeld files cur claims → IsHeldIn files cur claims m.number (grows grown)
  held_in files fits = record { fits = fits; number = number; holds = claimed }

  pub held : IsHeldIn looking.files.0 cur claims m.number (grows grown)
  held = held_in looking.files.0 looking.files.1

  pub growing : IsGrowing cur m.number grown (file_in looking.files.0 m.number)
  growing = growing_of looking.files.0 cur claims m.number grown held

  abbrev pub old : File
  old = growing.old

  pub long : length m.inode.addrs ≡ 13
  long = growing.fit.fields.count

  pub form : m.extent.form ≡ form_of cur
  form = ap (λ (e : Extent). e.form) work.extent

  -- the blocks that it has
  abbrev pub Named : ℕ → Type 0
  Named b = 1 ≤ count_of b (addresses_in (pointers_in cur m.inode))

  pub named_marked : (b : ℕ) → Named b → IsMarkedData cur b
  named_marked b some = copy_marked looking.files.0 cur claims m.number grown held b some

  pub node_named : (b : Branch) (n : Node) → b ≡ branch_of m.extent.form (next_block m) → LiesOnWay cur m.inode b n → Named n.block
  node_named b n here lies = lies_named looking.files.0 cur claims m.number grown held m.extent.form form (next_block m) n (subst (λ (c : Branch). LiesOnWay cur m.inode c n) here lies)

  -- where these stay, so do the ways
  pub ways_same : (y : Image) → ((b : ℕ) → Named b → block_at y b ≡ block_at cur b) → (j : ℕ) → SameInside cur y (branch_of m.extent.form j).depth (slice_index m.inode.addrs (branch_of m.extent.form j).index)
  ways_same y same j = same_inside looking.files.0 cur claims m.number grown held y same m.extent.form form j

  pub ways_keep : (y : Image) → ((b : ℕ) → Named b → block_at y b ≡ block_at cur b) → KeepsWays cur y m m.inode
  ways_keep y same = keeps cur y m m.inode refl (ways_same y same)

  pub reached_marked : (j : ℕ) → address_in cur m.inode j ≢ 0 → IsMarkedData cur (address_in cur m.inode j)
  reached_marked j some = data_marked looking.files.0 cur claims m.number grown held j some

  pub taken_lies : (b : ℕ) → taken_by m.at ≡ Some b → LiesInData cur b
  taken_lies b taken = (taken_marked looking.files.0 cur claims m.number grown held b taken).0

  pub apart_from : (b c : ℕ) → taken_by m.at ≡ Some b → Named c → c ≢ b
  apart_from b c taken some = taken_apart looking.files.0 cur claims m.number grown held b c taken some

  -- a data block of the file is none of its blocks of addresses
  pub data_apart_from : (j : ℕ) (n : ℕ) (way : List ℕ) → length way < (branch_of m.extent.form j).depth → led_to cur way (slice_index m.inode.addrs (branch_of m.extent.form j).index) ≡ n → n ≢ 0 → address_in cur m.inode (next_block m) ≢ n
  data_apart_from j n way short led some =
      let deep = depth_there looking.files.0 cur claims m.number grown held m.extent.form form j way n led some in
      data_apart looking.files.0 cur claims m.number grown held (branch_of m.extent.form j).index way n (next_block m) (omega (arith, short, deep)) led some

  pub map : IsMapped cur
  map = mapped cur h.is.geometry looking.files.1.full

  pub bitmap : m.extent.bitmap ≡ (super_of cur).bmapstart
  bitmap = ap (λ e. e.bitmap) work.extent ∙ ap bitmap_block h.is.numbers ∙ sym (facts_of cur h.is.geometry).map

  pub size : m.extent.size ≡ length cur
  size = ap (λ e. e.size) work.extent

  pub inode_apart : IsApart cur m.number
  inode_apart = apart cur m.number h.is.geometry (between cur m.number number).high

  -- a block of data is not the bitmap's
  pub not_bitmap : (b : ℕ) → LiesInData cur b → b ≢ m.extent.bitmap
  not_bitmap b lies same =
      omega (arith, same, lies.0, map.before_data, bitmap)

  -- its place in the table
  pub in_table : k < 50
  in_table = (looking.table.places p (locked_grip k m.number) has).0

  pub inode_there : IsSome (entry_at s.table.places k)
  inode_there = has_inode (entry_at s.table.places k) m.number (looking.table.places p (locked_grip k m.number) has).1

  -- the numbers of its blocks are small, and each has all its bytes
  pub full_block : (b : ℕ) → LiesInData cur b → length (block_at cur b) ≡ 1024
  full_block b lies =
      looking.files.1.full b (omega (arith, lies.0, map.behind, map.before_data)) lies.1

  pub few_blocks : (b : ℕ) → LiesInData cur b → b < 8192
  few_blocks b lies = let low = lies.1 in let most = map.room in omega (arith, low, most)

  -- the addresses that ways begin with
  pub branch_deep : (j : ℕ) → j < block_limit m.extent.form → depth_of cur (branch_of m.extent.form j).index ≡ (branch_of m.extent.form j).depth
  branch_deep j low = ap (λ (f : Form). slice_index (depths f) (branch_of m.extent.form j).index) (sym form) ∙ (is_branch j m.extent.form low).depth

  -- it may add a home to the log
  pub room : HasRoom (used_by s.volume.log p)
  room =
      subst HasRoom (sym logged.used) (omega (arith, logged.few, (beside_few cur s.volume.log m work.fits), (four_beside m.extent.form), (hand_left s.volume.log m m.at)))

  -- the next block is one that a file can have
  pub next_low : m.done < m.count → next_block m < block_limit m.extent.form
  next_low left = low m left work.fits

  -- ---- its next step

  log_size : s.volume.log.size ≡ length cur
  log_size = let same = length-current (disk.image s.volume.device) s.volume.buffers in sym (same ∙ h.joint.size)

  -- a data block lies behind the log, and in the image
  data_within : (b : ℕ) → LiesInData cur b → (33 ≤ b) × (b < s.volume.log.size)
  data_within b lies =
      (omega (arith, lies.0, map.behind, map.before_data), omega (arith, lies.1, log_size))

  may_alloc : (t : AllocState) → TakesIn m.extent t → ((b : ℕ) → taken_at t.at ≡ Some b → LiesInData cur b) → HoldsWhereGot cur s.volume.buffers p (block_of_alloc t t.at) (slot_of_alloc t.at) → MayAlloc disk.image s.volume p t
  may_alloc t takes taken used =
      let at = takes.bitmap ∙ bitmap in
      let behind = map.behind in
      record {
        behind = omega (arith, at, behind);
        within = omega (arith, at, map.within, log_size);
        size = omega (arith, (takes.size ∙ size), map.room);
        at = by_place t.at taken used;
      }
    where
      by_place : (a : AllocAt) → ((b : ℕ) → taken_at a ≡ Some b → LiesInData cur b) → HoldsWhereGot cur s.volume.buffers p (block_of_alloc t a) (slot_of_alloc a) → MayAllocAt disk.image s.volume p t a
      by_place (AllocAt.Looking slot) taken used = used
      by_place (AllocAt.Zeroing b slot) taken used = let within = data_within b (taken b refl) in (within.0, within.1, used)

  is_node : (b : Branch) (n : Node) → b ≡ branch_of m.extent.form (next_block m) → LiesOnWay cur m.inode b n → IsNode s.volume n
  is_node b n here lies =
      let within = data_within n.block (named_marked n.block (node_named b n here lies)).0 in
      let deep : b.depth ≤ 2 = subst (λ (c : Branch). c.depth ≤ 2) (sym here) (branch_shallow m.extent.form (next_block m)) in
      record { behind = within.0; within = within.1; shallow = omega (arith, (lies_short cur m.inode b n lies), deep); reached = lies.reached }

  may_map : (way : MapState) (a : MapAt) → way.branch ≡ branch_of m.extent.form (next_block m) → IsOnWay cur m.inode m.extent way.branch a → ((b : ℕ) → taken_on_way a ≡ Some b → LiesInData cur b)
      → HoldsWhereGot cur s.volume.buffers p (node_on_way a) (kept_on_way a) → HoldsWhereGot cur s.volume.buffers p (block_on_way a) (used_on_way a) → MayMapAt disk.image s.volume p a
  may_map way (MapAt.Address t) here on taken kept used = may_alloc t on.1 taken used
  may_map way (MapAt.Entry n slot) here on taken kept used = (is_node way.branch n here on, kept)
  may_map way (MapAt.Behind n i t) here on taken kept used = (is_node way.branch n here on.0.0, may_alloc t on.1 taken used, kept)
  may_map way (MapAt.Setting n i found) here on taken kept used = (is_node way.branch n here on.0.0, kept)

  may_at : (a : WriteAt) → m.at ≡ a → HasComeTo cur m a → HoldsWhereGot cur s.volume.buffers p (node_of_write a) (kept_by_write a) → HoldsWhereGot cur s.volume.buffers p (block_of_write a) (used_by_write a) → MayWriteAt disk.image s.volume p m a
  may_at (WriteAt.Mapping way) at come kept used = record {
    index = subst (λ (b : Branch). b.index < 13) (sym come.1.branch) (is_branch (next_block m) m.extent.form (next_low come.0)).index;
    addrs = long;
    at = may_map way way.at come.1.branch come.1.at (λ b taken. taken_lies b (ap taken_by at ∙ taken)) kept used;
  }
  may_at (WriteAt.Block b slot) at come kept used =
      let within = data_within b (subst (LiesInData cur) come.1 (reached_marked (next_block m) (λ none. come.2 (sym come.1 ∙ none))).0) in
      (come.0, within.0, within.1, used)
  may_at (WriteAt.Updating u) at come kept used = record {
    within = subst (λ (i : ℕ). inode_block i < s.volume.log.size) (sym come.0) (omega (arith, inode_apart.within, log_size));
    holds = used;
  }

  pub may : MayWrite disk.image s.volume p m
  may = record {
    addrs = long;
    done = work.done;
    fits = work.fits;
    at = may_at m.at refl work.come (where_got (disk.image s.volume.device) s.volume.buffers s.volume.log p own (kept_by_write m.at) h.joint holds.kept)
        (where_got (disk.image s.volume.device) s.volume.buffers s.volume.log p (block_of_write m.at) (used_by_write m.at) h.joint holds.used);
  }
