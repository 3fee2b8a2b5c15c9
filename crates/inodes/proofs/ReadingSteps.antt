-- Each step of a reading keeps what is true of every store, and does what a step promises.
use Rattle.std.proofs.Common.{◌≡◌, ⊎_elim, ℕ, ◌<◌, ◌≤◌, ◌+◌, ◌-◌, ◌/◌, ◌++◌, true, min, List, set, refl, sym, ◌∙◌, ap, subst, arith, Option, Some, None}
use Rattle.inodes.specs.Common.{Agrees, asked_by, block_at_stage, block_of, bytes_in, claim_by, claim_of, copy_at, current_of, Dinode, Ends, EntryState, eqb-true, fault_of_task, Files, FilesThen, first_slot, form_of, GatheredBytes, Get, get_or-set_same, GetsFor, Ghosts, Goes, GoesBelow, Grip, grip, grip_by, grip_of, grips_of, HasAllRead, HasSlot, HoldsAt, Image, is_done, is_made, is_making, IsAtRead, IsHeldByAnother, IsMade, IsRead, IsReading, IsStore, KeepsTable, LeadsToBlock, LeavesNumber, length-bytes, locked_grip, LoggedAt, LogState, LooksAt, LooksUp, LooksUpFor, named_by, no_task, one_more, OnMore, Op, part_cut, part_in_two, part_of, stage_of_reading, Progress, progress_of, progress_of_read, Read, Reads, reads_left, ReadState, ReadSteps, Releases, Reply, reply_at_turn, set-get_or, Shown, ShowsSame, slot_in, Stage, Stands, StaysForOthers, Steps, steps_at, steps_left, StoreState, TableIs, Target, target_behind, target_for, task, TaskProgress, TaskState, VolumeState, Waits, Why, with_grip, with_slot, Works}
use Rattle.inodes.specs.Store.{FitsFiles}
use Rattle.wal.specs.Get as get
use Rattle.inodes.proofs.TruncSlots.{never_inode, never_over}
use Rattle.inodes.proofs.MoreGets.{gets_more}
use Rattle.inodes.proofs.Standing.{StandsAt}
use Rattle.inodes.proofs.Getting.{HasOne, has_left, reads_none, reads_got, shows_got, sleeps_got, held_got, has_then, fault_of}
use Rattle.inodes.proofs.Looking.{Looked, Stepped, files_same, stepped_looked, store_stepped, steps_stepped}
use Rattle.inodes.proofs.Taking.{none_of_zero}
use Rattle.inodes.proofs.Reading.{agrees, looking, at_read, has, slot_is, may, room}

-- it seeks the entry still
entry_still : (r : Progress (Option ℕ)) (e : EntryState) (a : Get) → r ≡ progress_of a → target_behind r e ≡ Target.Entry e
entry_still r e (get.Got i) gives = ap (λ (q : Progress (Option ℕ)). target_behind q e) gives
entry_still r e (get.Sleeping cause) gives = ap (λ (q : Progress (Option ℕ)). target_behind q e) gives
entry_still r e (get.Fault fault) gives = ap (λ (q : Progress (Option ℕ)). target_behind q e) gives

some_steps : (t : Target) → 1 ≤ steps_at t
some_steps (Target.Entry e) = by_slot e.slot
  where
    by_slot : (o : Option ℕ) → 1 ≤ steps_at (Target.Entry (with_slot e o))
    by_slot None = omega arith
    by_slot (Some i) = omega arith
some_steps (Target.Block b None) = omega arith
some_steps (Target.Block b (Some i)) = omega arith

-- the slot that it has got where it goes
abbrev slot_there : ReadState → ReadState → Progress (Unit {0}) → Option ℕ
slot_there m n Progress.Moved = slot_in n.target
slot_there m n (Progress.Sleeping cause) = slot_in m.target
slot_there m n (Progress.Over out) = None
slot_there m n (Progress.Fault fault) = slot_in m.target

-- what is true of where its step goes
record GoesTo (k : ℕ) (m n : ReadState) (q : Progress (Unit {0})) : Type 0 where
  fault : fault_of_task (progress_of_read q) ≡ fault_of q
  reply : reply_at_turn (progress_of_read q) ≡ None
  has : (i : ℕ) → slot_there m n q ≡ Some i → HasSlot (stage_of_reading k m n q) i
  claim : (o : Option Op) (j : ℕ) → claim_by o (stage_of_reading k m n q) j ≡ None
  grip : (i : ℕ) → grip_by (stage_of_reading k m n q) i ≡ Some (locked_grip k i)
  logged : (x : Image) (l : LogState) (p : ℕ) → LoggedAt x l p (stage_of_reading k m n q)

goes_to : (k : ℕ) (m n : ReadState) (q : Progress (Unit {0})) → GoesTo k m n q
goes_to k m n Progress.Moved = record { fault = refl; reply = refl; has = λ i got. got; claim = λ o j. refl; grip = λ i. refl; logged = λ x l p. tt }
goes_to k m n (Progress.Sleeping cause) = record { fault = refl; reply = refl; has = λ i got. got; claim = λ o j. refl; grip = λ i. refl; logged = λ x l p. tt }
goes_to k m n (Progress.Over out) = record { fault = refl; reply = refl; has = λ i got. got; claim = λ o j. refl; grip = λ i. refl; logged = λ x l p. tt }
goes_to k m n (Progress.Fault fault) = record { fault = refl; reply = refl; has = λ i got. got; claim = λ o j. refl; grip = λ i. refl; logged = λ x l p. tt }

-- in a store whose process p reads
module _ {D N : Type 0} {disk : Ghosts D N} {s : StoreState D} {p k : ℕ} {m : ReadState} {g : GatheredBytes} (h : StandsAt disk s p (Stage.Reading k m)) (had : (task s.tasks p).gathered ≡ Some g) where
  abbrev cur : Image
  cur = current_of disk.image s.volume

  abbrev file : List ℕ
  file = bytes_in cur m.inode

  -- its task then
  abbrev pub task_then : ReadState → Progress (Unit {0}) → GatheredBytes → TaskState
  task_then n q got_bytes = record (task s.tasks p) { stage = stage_of_reading k m n q; gathered = Some got_bytes }

  abbrev pub store_then : VolumeState D → List TaskState → StoreState D
  store_then w ts = record { volume = w; tasks = ts; table = s.table }

  reading : IsAtRead cur s.table.inode_count (copy_at s.table.places k) (task s.tasks p) m
  reading = at_read h

  same_bytes : reading.op.gathered ≡ g
  same_bytes = let both = sym reading.op.has ∙ had in cc both

  grip_now : grip (grips_of s.tasks) p ≡ Some (locked_grip k (asked_by (task s.tasks p).op))
  grip_now = has h

  -- the table and what the process has of it are the same
  same_table : (u : TaskState) → grip_of u ≡ Some (locked_grip k (asked_by (task s.tasks p).op)) → KeepsTable s.table s.table p (grips_of s.tasks) (with_grip (grips_of s.tasks) p (grip_of u)) cur
  same_table u same = record {
    table = subst (λ (gs : List (Option Grip)). TableIs s.table gs cur) (sym (ap (with_grip (grips_of s.tasks) p) (same ∙ sym grip_now) ∙ set-get_or (grips_of s.tasks) p None)) (looking h).table;
    others = λ q j i other locks. record { number = λ i. refl; holder = refl; copy = refl };
  }

  module _ (q : Progress (Unit {0})) (n : ReadState) (w : VolumeState D) (got_bytes : GatheredBytes) (steps : ReadSteps disk s.volume p m g q w n got_bytes) (ts : List TaskState) where
    abbrev next : Stage
    next = stage_of_reading k m n q

    abbrev then_at : StoreState D
    then_at = store_then w ts

    there : GoesTo k m n q
    there = goes_to k m n q

    -- What a step makes of buffers and device, where the reading goes on, and for whom it waits.
    record Does : Type 0 where
      pub one : fault_of q ≡ None → HasOne s.volume.buffers w.buffers s.volume.log p (block_at_stage next) (slot_there m n q)
      pub reads : Reads disk s (progress_of_read q) then_at
      pub shown : ShowsSame disk.image s then_at
      pub held : q ≡ Progress.Sleeping Why.BufferHeld → IsHeldByAnother s p (block_of m.target)
      pub inode : q ≡ Progress.Sleeping Why.InodeHeld → ⊥

    -- ---- it seeks a block

    module _ (b : ℕ) (slot : Option ℕ) (gets : GetsFor disk s.volume p b q slot w) (none : slot_in m.target ≡ None) (at : block_of m.target ≡ b) where
      are : Agrees s.volume.buffers s.volume.log s.table.inode_count s.tasks
      are = agrees h

      no_slot : (i : ℕ) → HasSlot (task s.tasks p).stage i → None ≡ Some i
      no_slot i has_it = sym none ∙ slot_is h i has_it

      one_got : fault_of q ≡ None → HasOne s.volume.buffers w.buffers s.volume.log p b slot
      one_got fine = has_then disk s then_at p b q slot gets are no_slot fine

      one_by : (r : Progress (Unit {0})) → q ≡ r → (block_of n.target ≡ b) × (slot_in n.target ≡ slot) → fault_of r ≡ None
          → HasOne s.volume.buffers w.buffers s.volume.log p (block_at_stage (stage_of_reading k m n r)) (slot_there m n r)
      one_by Progress.Moved same now fine = subst (λ (a : ℕ). HasOne s.volume.buffers w.buffers s.volume.log p a (slot_in n.target)) (sym now.0)
          (subst (λ (o : Option ℕ). HasOne s.volume.buffers w.buffers s.volume.log p b o) (sym now.1) (one_got (ap fault_of same)))
      one_by (Progress.Sleeping cause) same now fine =
          let slept = sleeps_got disk s then_at p b q slot gets are no_slot cause same in
          subst (λ (a : ℕ). HasOne s.volume.buffers w.buffers s.volume.log p a (slot_in m.target)) (sym at)
          (subst (λ (o : Option ℕ). HasOne s.volume.buffers w.buffers s.volume.log p b o) (slept.1 ∙ sym none) (one_got (ap fault_of same)))
      one_by (Progress.Over out) same now fine = absurd (never_over disk s then_at p b q slot gets out same)
      one_by (Progress.Fault fault) same now fine = absurd (cc fine)

      seeks : (block_of n.target ≡ b) × (slot_in n.target ≡ slot) → Does
      seeks now = record {
        one = one_by q refl now;
        reads = reads_got disk s then_at p b q slot gets are no_slot (progress_of_read q) there.fault;
        shown = shows_got disk s then_at p b q slot gets are no_slot;
        held = λ waits. subst (λ (a : ℕ). IsHeldByAnother s p a) (sym at) (held_got disk s then_at p b q slot gets are no_slot waits);
        inode = never_inode disk s then_at p b q slot gets;
      }

    -- ---- it is done with a block

    module _ (i : ℕ) (got : slot_in m.target ≡ Some i) (leaves : Releases disk.image s.volume p i w) where
      device : w.device ≡ s.volume.device
      device = ap (λ (v : VolumeState D). v.device) leaves.volume

      log : w.log ≡ s.volume.log
      log = ap (λ (v : VolumeState D). v.log) leaves.volume

      well_then : w.fault ≡ None
      well_then = ap (λ (v : VolumeState D). v.fault) leaves.volume ∙ h.well

      uses : fault_of q ≡ None → ((cause : Why) → q ≡ Progress.Sleeping cause → ⊥) → slot_there m n q ≡ None → Does
      uses fine awake free = record {
        one = λ well_still. subst (λ (o : Option ℕ). HasOne s.volume.buffers w.buffers s.volume.log p (block_at_stage next) o) (sym free)
            (has_left s.volume.buffers s.volume.log s.table.inode_count p s.tasks (agrees h) w.buffers (block_at_stage next) i (λ j has_it. sym got ∙ slot_is h j has_it) leaves.locks);
        reads = reads_none disk s then_at device well_then (progress_of_read q) (there.fault ∙ fine);
        shown = ap (λ (x : Image). record { current = x; log = w.log }) leaves.current ∙ ap (λ (l : LogState). record { current = cur; log = l }) log;
        held = λ waits. absurd (awake Why.BufferHeld waits);
        inode = λ waits. awake Why.InodeHeld waits;
      }

    -- ---- by its target

    -- the entry's block is got
    seeks_entry : (e : EntryState) → m.target ≡ Target.Entry e → e.slot ≡ None → (f : LooksUpFor disk s.volume p e q n.target w) → LooksUp disk None s.volume p e f.answer f.entry w → Does
    seeks_entry e at none f looks =
        let now : n.target ≡ Target.Entry f.entry = f.target ∙ entry_still f.answer f.entry looks.1.answer looks.1.gives in
        seeks e.node.block f.entry.slot (gets_more f.gives looks.1) (ap slot_in at ∙ none) (ap block_of at) (ap block_of now ∙ ap (λ (o : EntryState). o.node.block) looks.0, ap slot_in now)

    -- the entry is read in it, and no block is got then
    uses_entry : (e : EntryState) (i : ℕ) → m.target ≡ Target.Entry e → e.slot ≡ Some i → (f : LooksUpFor disk s.volume p e q n.target w) → LooksUp disk (Some i) s.volume p e f.answer f.entry w → Does
    uses_entry e i at got f looks =
        ⊎_elim
        (λ (over : Ends (named_by cur e.node) e f.answer f.entry). frees (f.gives ∙ ap one_more over.over)
        (ap slot_in (f.target ∙ ap (λ (r : Progress (Option ℕ)). target_behind r f.entry) over.over)))
        (λ (on : GoesBelow (named_by cur e.node) e f.answer f.entry). frees (f.gives ∙ ap one_more on.moved)
        (ap slot_in (f.target ∙ ap (λ (r : Progress (Option ℕ)). target_behind r f.entry) on.moved) ∙ ap (λ (o : EntryState). o.slot) on.now))
        looks.0
      where
        frees : q ≡ Progress.Moved → slot_in n.target ≡ None → Does
        frees moved none =
            uses i (ap slot_in at ∙ got) looks.1 (ap fault_of moved) (λ cause waits. absurd (cc (sym moved ∙ waits)))
            (ap (slot_there m n) moved ∙ none)

    does_by : (t : Target) → m.target ≡ t → Works disk t s.volume p m q w n → Does
    does_by (Target.Entry e) at works = by_slot e.slot refl works.1.looks
      where
        by_slot : (o : Option ℕ) → e.slot ≡ o → LooksUp disk o s.volume p e works.1.answer works.1.entry w → Does
        by_slot None none looks = seeks_entry e at none works.1 looks
        by_slot (Some i) got looks = uses_entry e i at got works.1 looks
    does_by (Target.Block b None) at works =
        let gets = works.1 in
        let now : n.target ≡ Target.Block b gets.0 = gets.1 in
        seeks b gets.0 gets.2 (ap slot_in at) (ap block_of at) (ap block_of now, ap slot_in now)
    does_by (Target.Block b (Some i)) at works = uses_block q refl works.1 works.3
      where
        uses_block : (r : Progress (Unit {0})) → q ≡ r → IsMade r → OnMore r (n.target ≡ target_for m.form m.inode (n.next / 1024)) → Does
        uses_block Progress.Moved same made more =
            uses i (ap slot_in at) works.2 (ap fault_of same) (λ cause waits. absurd (cc (sym same ∙ waits)))
            (ap (slot_there m n) same ∙ ap slot_in more ∙ first_slot m.form m.inode (n.next / 1024))
        uses_block (Progress.Sleeping cause) same made more = absurd made
        uses_block (Progress.Over out) same made more =
            uses i (ap slot_in at) works.2 (ap fault_of same) (λ cause waits. absurd (cc (sym same ∙ waits)))
            (ap (slot_there m n) same)
        uses_block (Progress.Fault fault) same made more = absurd made

    does : Does
    does = does_by m.target refl steps.works

    -- ---- what it makes of the task

    same_place : (r : Progress (Unit {0})) → q ≡ r → next ≡ stage_of_reading k m n r
    same_place r same = ap (stage_of_reading k m n) same

    -- it is still that of its reading
    abbrev still_read : IsRead s.table.inode_count (task_then n q got_bytes)
    still_read = let op = reading.op in record { number = op.number; offset = op.offset; count = op.count; is = op.is; may = op.may; gathered = got_bytes; has = refl }

    abbrev op_read : Op
    op_read = Read reading.op.number reading.op.offset reading.op.count

    abbrev off : ℕ
    off = reading.op.offset

    -- it has the bytes before its place
    bytes_now : got_bytes.bytes ≡ part_of file off (n.next - off)
    bytes_now =
        let begun = reading.read.begun in
        let here : off + (m.next - off) ≡ m.next = omega (arith, begun) in
        steps.gathers.bytes
        ∙ ap (λ (l : List ℕ). l ++ part_of file m.next (n.next - m.next)) (sym (ap (λ (o : GatheredBytes). o.bytes) same_bytes) ∙ reading.read.bytes)
        ∙ ap (λ (at : ℕ). part_of file off (m.next - off) ++ part_of file at (n.next - m.next)) (sym here)
        ∙ sym (part_in_two file off (m.next - off) (n.next - m.next))
        ∙ ap (part_of file off) (omega (arith, begun, steps.gathers.later))

    room_now : n.end - n.next ≤ got_bytes.room
    room_now =
        omega (arith, (room h g had), steps.gathers.room, steps.end, steps.gathers.later)

    -- it goes on
    reads_on : n.next < n.end → LeadsToBlock cur n.inode (n.next / 1024) n.target → IsAtRead cur s.table.inode_count (copy_at s.table.places k) (task_then n q got_bytes) n
    reads_on some leads = record {
      op = still_read;
      copy = reading.copy ∙ ap Some (sym steps.inode);
      read = record {
        form = steps.form ∙ reading.read.form;
        begun = let begun = reading.read.begun in let later = steps.gathers.later in omega (arith, begun, later);
        some = some;
        end = steps.end ∙ reading.read.end ∙ ap (λ (d : Dinode). min d.size (off + reading.op.count)) (sym steps.inode);
        bytes = bytes_now ∙ ap (λ (d : Dinode). part_of (bytes_in cur d) off (n.next - off)) (sym steps.inode);
        room = room_now;
        leads = leads;
      };
    }

    -- it waits where it stood
    reads_still : (cause : Why) → q ≡ Progress.Sleeping cause → IsAtRead cur s.table.inode_count (copy_at s.table.places k) (task_then n q got_bytes) m
    reads_still cause waits =
        let same : n ≡ m = (steps.asleep cause waits).reading in
        let some = reading.read.some in
        subst (λ (o : ReadState). IsAtRead cur s.table.inode_count (copy_at s.table.places k) (task_then n q got_bytes) o) same
        (reads_on (subst (λ (o : ReadState). o.next < o.end) (sym same) some)
        (subst (λ (o : ReadState). LeadsToBlock cur o.inode (o.next / 1024) o.target) (sym same) reading.read.leads))

    -- it has all bytes
    has_read : n.next ≡ n.end → HasAllRead cur s.table.inode_count (copy_at s.table.places k) (task_then n q got_bytes)
    has_read over =
        let last = reading.read.end in
        let long = length-bytes cur m.inode (may h) in
        record {
          op = still_read;
          dinode = m.inode;
          copy = reading.copy;
          bytes = bytes_now ∙ ap (part_of file off) (omega (arith, over, steps.end, last, long)) ∙ sym (part_cut file off reading.op.count (omega (arith, reading.read.begun, reading.read.some, last, long)));
        }

    same_log : w.log ≡ s.volume.log
    same_log = ap (λ (v : Shown). v.log) does.shown

    same_image : current_of disk.image w ≡ cur
    same_image = ap (λ (v : Shown). v.current) does.shown

    looks_by : (r : Progress (Unit {0})) → q ≡ r → fault_of r ≡ None → LooksAt cur s.table (task_then n q got_bytes) (stage_of_reading k m n r)
    looks_by Progress.Moved same fine =
        let sure : IsReading disk.image w p n = subst (λ (a : Progress (Unit {0})). OnMore a (IsReading disk.image w p n)) same steps.more in
        reads_on sure.some (subst (λ (x : Image). LeadsToBlock x n.inode (n.next / 1024) n.target) same_image sure.leads.block)
    looks_by (Progress.Sleeping cause) same fine = reads_still cause same
    looks_by (Progress.Over out) same fine = has_read (eqb-true n.next n.end (sym steps.over ∙ ap is_done same))
    looks_by (Progress.Fault fault) same fine = absurd (cc fine)

    stands_by : (r : Progress (Unit {0})) → HoldsAt w.buffers p (block_at_stage (stage_of_reading k m n r)) (slot_there m n r) → Stands w.buffers w.log s.table.inode_count p (task s.tasks p).op (stage_of_reading k m n r)
    stands_by Progress.Moved holds = holds
    stands_by (Progress.Sleeping cause) holds = holds
    stands_by (Progress.Over out) holds = tt
    stands_by (Progress.Fault fault) holds = holds

    module _ (tasks : ts ≡ set s.tasks p (task_then n q got_bytes)) where
      holds_still : (j : ℕ) → claim_of (task_then n q got_bytes) j ≡ claim_of (task s.tasks p) j
      holds_still j = there.claim (task s.tasks p).op j ∙ sym (ap (λ (a : Stage). claim_by (task s.tasks p).op a j) h.stood)

      looked : Looked disk s p 0 (progress_of_read q) then_at (task_then n q got_bytes)
      looked = record {
        tasks = tasks;
        op = refl;
        count = refl;
        form = refl;
        reads = does.reads;
        shown = does.shown;
        alone = λ other j apart locks. none_of_zero cur s.table s.tasks (looking h) other j locks;
        claims = λ j other. holds_still j;
        now = λ fine.
            let well_then : fault_of q ≡ None = sym there.fault ∙ fine in
            let one = does.one well_then in
            record {
              others = subst (λ (l : LogState). StaysForOthers s.volume.buffers w.buffers s.volume.log l p) (sym same_log) one.others;
              locks = λ b i lock. there.has i (one.locks b i lock);
              stands = stands_by q one.holds;
              table = subst (λ (x : Image). KeepsTable s.table s.table p (grips_of s.tasks) (with_grip (grips_of s.tasks) p (grip_of (task_then n q got_bytes))) x) (sym same_image) (same_table (task_then n q got_bytes) (there.grip (asked_by (task s.tasks p).op)));
              looks = subst (λ (x : Image). LooksAt x s.table (task_then n q got_bytes) (stage_of_reading k m n q)) (sym same_image) (looks_by q refl well_then);
              logged = there.logged (current_of disk.image w) w.log p;
            };
      }

      -- who sleeps changed nothing
      slept : (cause : Why) → q ≡ Progress.Sleeping cause → then_at ≡ s
      slept cause waits =
          let same = steps.asleep cause waits in
          let stays : task_then n q got_bytes ≡ task s.tasks p = ap (λ (a : Stage). record (task s.tasks p) { stage = a; gathered = Some got_bytes }) (same_place (Progress.Sleeping cause) waits ∙ sym h.stood)
          ∙ ap (λ (o : Option GatheredBytes). record (task s.tasks p) { gathered = o }) (ap Some same.gathered ∙ sym had) in
          ap (λ (v : VolumeState D). store_then v ts) same.volume
          ∙ ap (λ (l : List TaskState). record s { tasks = l }) (tasks ∙ ap (set s.tasks p) stays ∙ set-get_or s.tasks p no_task)

      asleep_as : (cause : Why) (r : Progress (Unit {0})) → progress_of_read r ≡ TaskProgress.Sleeping cause → r ≡ Progress.Sleeping cause
      asleep_as cause Progress.Moved waits = absurd (cc waits)
      asleep_as cause (Progress.Sleeping other) waits = let same : other ≡ cause = cc waits in ap Progress.Sleeping same
      asleep_as cause (Progress.Over out) waits = absurd (cc waits)
      asleep_as cause (Progress.Fault fault) waits = absurd (cc waits)

      waits_so : Waits s p (progress_of_read q) then_at
      waits_so = record {
        sleeping = λ cause waits. slept cause (asleep_as cause q waits);
        held = λ waits. subst (λ (b : ℕ). IsHeldByAnother s p b) (sym (ap block_at_stage h.stood)) (does.held (asleep_as Why.BufferHeld q waits));
        inode = λ waits. absurd (does.inode (asleep_as Why.InodeHeld q waits));
      }

      falls_by : (r : Progress (Unit {0})) → q ≡ r → is_made (progress_of_read r) ≡ true → steps_left (current_of disk.image w) (stage_of_reading k m n r) s.table.inode_count < reads_left m + 1
      falls_by Progress.Moved same made = let less = steps.left same in omega (arith, less)
      falls_by (Progress.Sleeping cause) same made = absurd (cc made)
      falls_by (Progress.Over out) same made = let some = some_steps m.target in omega (arith, some)
      falls_by (Progress.Fault fault) same made = absurd (cc made)

      files_by : (o : Op) (r : Progress (Unit {0})) (files : Files) → FitsFiles disk.image then_at files → FilesThen (form_of cur) o (progress_of_read r) files (FitsFiles disk.image then_at)
      files_by o Progress.Moved files fits = fits
      files_by o (Progress.Sleeping cause) files fits = fits
      files_by o (Progress.Over out) files fits = fits
      files_by o (Progress.Fault fault) files fits = fits

      makes_none : (i : ℕ) (r : Option Reply) → r ≡ None → is_making i r ≡ true → ⊥
      makes_none i None none makes = absurd (cc makes)
      makes_none i (Some reply) none makes = absurd (cc none)

      stepped : (op : Op) → Stepped disk s p 0 op (progress_of_read q) then_at (task_then n q got_bytes)
      stepped op = stepped_looked disk s p 0 op (progress_of_read q) then_at (task_then n q got_bytes) h.is h.well h.inside looked
          (λ files fits. files_by op q files (files_same disk s p 0 op (progress_of_read q) then_at (task_then n q got_bytes) h.is h.well h.inside looked (holds_still 0) files fits))
          (λ i makes. makes_none i (reply_at_turn (progress_of_read q)) there.reply makes)

      -- what is true of every store
      pub store_read : IsStore disk.image then_at
      store_read = store_stepped disk s p 0 op_read (progress_of_read q) then_at (task_then n q got_bytes) h.is h.well h.inside (stepped op_read)

      -- and what a step promises
      pub steps_read : (op : Op) → Steps disk s p op (progress_of_read q) then_at
      steps_read op = steps_stepped disk s p 0 op (progress_of_read q) then_at (task_then n q got_bytes) h.is h.well h.inside (stepped op)
          (subst (λ (a : Stage). Goes disk a s p op (progress_of_read q) then_at) (sym h.stood) (
            record {
              answer = q;
              now = n;
              before = g;
              bytes = got_bytes;
              had = had;
              reads = steps;
              gives = refl;
              next = ap (λ (t : TaskState). t.stage) now_is;
              has = ap (λ (t : TaskState). t.gathered) now_is;
              table = refl;
            },
            does.shown,
          ))
          waits_so
          (λ other apart reads. subst (λ (o : Option Reply). LeavesNumber op o (asked_by (task s.tasks other).op)) (sym there.reply) tt)
          (λ made going. subst (λ (a : Stage). steps_left (current_of disk.image w) next s.table.inode_count < steps_left cur a s.table.inode_count) (sym h.stood) (falls_by q refl made))
        where
          now_is : task ts p ≡ task_then n q got_bytes
          now_is = ap (λ (l : List TaskState). task l p) tasks ∙ get_or-set_same s.tasks p (task_then n q got_bytes) no_task h.inside
