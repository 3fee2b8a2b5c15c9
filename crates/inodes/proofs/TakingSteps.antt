-- Each step of taking an inode keeps what is true of every store, and does what a step promises.
use Rattle.std.proofs.Common.{◌≡◌, ◌≢◌, ℕ, ◌<◌, ◌≤◌, ◌+◌, Bool, true, false, cond, not, eqb, List, length, set, refl, sym, ◌∙◌, ap, subst, arith, Option, Some, None}
use Rattle.inodes.specs.Common.{asked, asked_by, at_lock, block_at_stage, claim_by, claim_of, copy_at, copy_in, current_of, Dinode, entry_at, eqb-false, eqb-true, extent_of, facts_of, false≢true, fault_of_task, Files, FilesThen, form_of, Get, get_or-set_other, get_or-set_same, GetsFor, Ghosts, Goes, Grip, grip, grip_at, grip_by, grip_of, grips_of, HasLock, HasSlot, holder_at, HoldsAt, Image, InMemory, inode_block, is_made, is_making, is_of, IsHeldByAnother, IsOpenFor, IsStore, IsTaking, KeepsTable, kept, LeavesLate, LeavesNumber, length-map, LockAt, locked, locked_grip, Locks, locks_left, LockState, LockSteps, LoggedAt, LogState, LooksAt, most_behind, no_task, Op, owes_reply, place_for, place_of, stage_of_lock, Progress, progress_of, progress_of_lock, Reads, ReadsInode, referred, Reply, reply_at_turn, set-get_or, Shown, ShowsSame, slot_of, Stage, Stands, StaysForOthers, Steps, steps_left, StoreState, TableIs, TableState, task, TaskProgress, TaskState, unlocked_grip, VolumeState, Waits, Why, with_copy, with_grip, with_holder}
use Rattle.inodes.specs.Store.{FitsFiles}
use Rattle.wal.specs.Volume.{slot_of as got_slot_of}
use Rattle.model.specs.Layout.{inode_of}
use Rattle.wal.specs.Get as get
use Rattle.inodes.specs.Lemmas.Grips.{kept_by_refer, kept_by_lock, kept_by_renew, locks_exclude, holder_is_another}
use Rattle.inodes.specs.Turning.{IsReadable, if_used, reply_when_taken, stage_when_taken}
use Rattle.inodes.specs.Lemmas.Looks.{late_locks}
use Rattle.inodes.proofs.TruncSlots.{never_inode, never_over}
use Rattle.inodes.proofs.Standing.{StandsAt}
use Rattle.inodes.proofs.Getting.{HasOne, has_same, has_left, reads_none, reads_got, shows_got, sleeps_got, held_got, has_then}
use Rattle.inodes.proofs.Gripping.{grip_is}
use Rattle.inodes.proofs.Looking.{IsNow, Looked, Stepped, files_same, stepped_looked, store_stepped, steps_stepped}
use Rattle.inodes.proofs.Taking.{agrees, looking, taking, can_take, number, has, slot_is, is_open, may_name, none_of_zero}
use Rattle.inodes.proofs.Turning.{readable, few_at_turn, logged_at_turn, makes_none, grip_at_turn, claims_at_turn, left_at_turn, stands_at_turn, files_at_turn, looks_at_turn}

module _ {D N : Type 0} {disk : Ghosts D N} {s : StoreState D} {p : ℕ} {op : Op} {m : LockState} (h : StandsAt disk s p (Stage.Taking m)) (is_op : (task s.tasks p).op ≡ Some op) where
  abbrev cur : Image
  cur = current_of disk.image s.volume

  abbrev inode : Dinode
  inode = inode_of cur m.number

  -- the most that it has left behind its turn
  abbrev behind : ℕ
  behind = most_behind (form_of cur) + 1

  -- its task then
  abbrev pub task_then : LockState → Progress Bool → TaskState
  task_then n q = record (task s.tasks p) { stage = stage_of_lock (extent_of s.table.form s.table.inode_count s.volume.log.size) inode op m n q }

  abbrev pub store_then : VolumeState D → List TaskState → TableState → StoreState D
  store_then w ts tab = record { volume = w; tasks = ts; table = tab }

  -- what a step makes of the store, beside where it goes
  pub record Made (q : Progress Bool) (n : LockState) (w : VolumeState D) (tab : TableState) (ts : List TaskState) : Type 0 where
    pub about : ℕ
    pub stepped : Stepped disk s p about op (progress_of_lock s.table.form inode op q) (store_then w ts tab) (task_then n q)
    pub shown : ShowsSame disk.image s (store_then w ts tab)
    pub waits : Waits s p (progress_of_lock s.table.form inode op q) (store_then w ts tab)
    pub apart : LeavesLate s p op (progress_of_lock s.table.form inode op q)
    pub falls : is_made (progress_of_lock s.table.form inode op q) ≡ true → steps_left cur (stage_of_lock (extent_of s.table.form s.table.inode_count s.volume.log.size) inode op m n q) s.table.inode_count < locks_left m.at + behind

  abbrev pub Makes : Progress Bool → LockState → VolumeState D → TableState → Type 0
  Makes q n w tab = (ts : List TaskState) → ts ≡ set s.tasks p (task_then n q) → Made q n w tab ts

  -- nothing is said of others where no reply is
  no_reply : (q : Progress Bool) → reply_at_turn (progress_of_lock s.table.form inode op q) ≡ None → LeavesLate s p op (progress_of_lock s.table.form inode op q)
  no_reply q none other apart reads = subst (λ (o : Option Reply). LeavesNumber op o (asked_by (task s.tasks other).op)) (sym none) tt

  -- nobody waits where a step is made
  no_wait : (q : Progress Bool) (t : StoreState D) → is_made (progress_of_lock s.table.form inode op q) ≡ true → Waits s p (progress_of_lock s.table.form inode op q) t
  no_wait q t made = record {
    sleeping = λ cause waits. absurd (asleep cause waits);
    held = λ waits. absurd (asleep Why.BufferHeld waits);
    inode = λ waits. absurd (asleep Why.InodeHeld waits);
  }
    where
      asleep : (cause : Why) → progress_of_lock s.table.form inode op q ≡ TaskProgress.Sleeping cause → ⊥
      asleep cause waits = false≢true (sym (ap is_made waits) ∙ made)

  own_slot : (o : Option ℕ) → slot_of m.at ≡ o → (i : ℕ) → HasSlot (task s.tasks p).stage i → o ≡ Some i
  own_slot o at i got = sym at ∙ slot_is h is_op i got

  -- the operation is open in the log as before
  still_open : (l : LogState) → l ≡ s.volume.log → IsOpenFor l p (task s.tasks p).op
  still_open l same = subst (λ (k : LogState). IsOpenFor k p (task s.tasks p).op) (sym same) (is_open h is_op)

  -- nobody has locked number 0
  nobody : (q k : ℕ) → q ≢ p → grip_of (task s.tasks q) ≡ Some (locked_grip k 0) → ⊥
  nobody q k apart locks = none_of_zero cur s.table s.tasks (looking h is_op) q k locks

  -- who takes its inode holds nothing
  holds_nothing : (j : ℕ) → None ≡ claim_of (task s.tasks p) j
  holds_nothing j = sym (ap (λ (a : Stage). claim_by (task s.tasks p).op a j) h.stood)

  grip_now : (a : LockAt) → m.at ≡ a → grip (grips_of s.tasks) p ≡ grip_at a m.number
  grip_now a at = has h is_op ∙ ap (λ (b : LockAt). grip_at b m.number) at

  -- it takes its inode still
  still_taking : (n : LockState) → n.number ≡ m.number → IsTaking s.table.inode_count (record (task s.tasks p) { stage = Stage.Taking n }) n
  still_taking n same = let t = taking h is_op in record { op = t.op; is = t.is; can = t.can; number = same ∙ t.number; room = t.room }

  few : p < length (grips_of s.tasks)
  few = subst (λ (n : ℕ). p < n) (sym (length-map s.tasks grip_of)) h.inside

  table_now : TableIs s.table (grips_of s.tasks) cur
  table_now = (looking h is_op).table

  -- no buffer is touched by who has none
  has_none : slot_of m.at ≡ None → HasOne s.volume.buffers s.volume.buffers s.volume.log p (inode_block m.number) None
  has_none none = has_same s.volume.buffers s.volume.log s.table.inode_count p s.tasks (agrees h is_op) (inode_block m.number) None (own_slot None none) tt

  -- a step makes no number
  makes_never : (q : Progress Bool) (i : ℕ) → is_making i (reply_at_turn (progress_of_lock s.table.form inode op q)) ≡ true → ⊥
  makes_never Progress.Moved i makes = absurd (cc makes)
  makes_never (Progress.Sleeping cause) i makes = absurd (cc makes)
  makes_never (Progress.Over used) i makes = makes_none s.table.form inode op used i makes
  makes_never (Progress.Fault fault) i makes = absurd (cc makes)

  -- where it has no turn, the files stay, and it holds nothing still
  files_by : (q : Progress Bool) → ((used : Bool) → q ≡ Progress.Over used → ⊥) → (files : Files) (t : StoreState D) → FitsFiles disk.image t files → FilesThen (form_of cur) op (progress_of_lock s.table.form inode op q) files (FitsFiles disk.image t)
  files_by Progress.Moved never files t fits = fits
  files_by (Progress.Sleeping cause) never files t fits = fits
  files_by (Progress.Over used) never files t fits = absurd (never used refl)
  files_by (Progress.Fault fault) never files t fits = fits

  holds_still : (q : Progress Bool) (n : LockState) → ((used : Bool) → q ≡ Progress.Over used → ⊥) → (j : ℕ) → claim_of (task_then n q) j ≡ claim_of (task s.tasks p) j
  holds_still Progress.Moved n never j = holds_nothing j
  holds_still (Progress.Sleeping cause) n never j = holds_nothing j
  holds_still (Progress.Over used) n never j = absurd (never used refl)
  holds_still (Progress.Fault fault) n never j = holds_nothing j

  abbrev LookedNow : Progress Bool → LockState → VolumeState D → TableState → List TaskState → Type 0
  LookedNow q n w tab ts = Looked disk s p 0 (progress_of_lock s.table.form inode op q) (store_then w ts tab) (task_then n q)

  stepped_on : (q : Progress Bool) (n : LockState) (w : VolumeState D) (tab : TableState) (ts : List TaskState) → ((used : Bool) → q ≡ Progress.Over used → ⊥) → LookedNow q n w tab ts
      → Stepped disk s p 0 op (progress_of_lock s.table.form inode op q) (store_then w ts tab) (task_then n q)
  stepped_on q n w tab ts never looked = stepped_looked disk s p 0 op (progress_of_lock s.table.form inode op q) (store_then w ts tab) (task_then n q) h.is h.well h.inside looked
      (λ files fits. files_by q never files (store_then w ts tab) (files_same disk s p 0 op (progress_of_lock s.table.form inode op q) (store_then w ts tab) (task_then n q) h.is h.well h.inside looked (holds_still q n never 0) files fits))
      (makes_never q)

  -- so it does where it has no turn, whose table is another one with as many inodes
  looks_now : (q : Progress Bool) (n : LockState) (w : VolumeState D) (tab : TableState) (ts : List TaskState) → ((used : Bool) → q ≡ Progress.Over used → ⊥) → ts ≡ set s.tasks p (task_then n q)
      → (tab.inode_count ≡ s.table.inode_count) × (tab.form ≡ s.table.form) → Reads disk s (progress_of_lock s.table.form inode op q) (store_then w ts tab) → ShowsSame disk.image s (store_then w ts tab)
      → (fault_of_task (progress_of_lock s.table.form inode op q) ≡ None → IsNow disk.image s (store_then w ts tab) p (task_then n q)) → LookedNow q n w tab ts
  looks_now q n w tab ts never tasks same reads shown now = record {
    tasks = tasks;
    op = refl;
    count = same.0;
    form = same.1;
    reads = reads;
    shown = shown;
    alone = nobody;
    claims = λ j other. holds_still q n never j;
    now = now;
  }

  -- a step that is made, and has no turn
  moves : (n : LockState) (w : VolumeState D) (tab : TableState) (ts : List TaskState) → LookedNow Progress.Moved n w tab ts → steps_left cur (Stage.Taking n) s.table.inode_count < locks_left m.at + behind → Made Progress.Moved n w tab ts
  moves n w tab ts looked falls = record {
    about = 0;
    stepped = stepped_on Progress.Moved n w tab ts (λ used over. absurd (cc over)) looked;
    shown = looked.shown;
    waits = no_wait Progress.Moved (store_then w ts tab) refl;
    apart = no_reply Progress.Moved refl;
    falls = λ made. falls;
  }

  some_left : (a : LockAt) → 1 ≤ locks_left a
  some_left LockAt.Reference = omega arith
  some_left (LockAt.Lock k) = omega arith
  some_left (LockAt.Read k None) = omega arith
  some_left (LockAt.Read k (Some i)) = omega arith

  -- a reference is taken, or the lock of an inode that was not read yet: it goes on at a
  takes_on : (a : LockAt) (tab : TableState) → slot_of m.at ≡ None → slot_of a ≡ None → (tab.inode_count ≡ s.table.inode_count) × (tab.form ≡ s.table.form)
      → KeepsTable s.table tab p (grips_of s.tasks) (with_grip (grips_of s.tasks) p (grip_at a m.number)) cur → locks_left a < locks_left m.at → Makes Progress.Moved (at_lock m a) s.volume tab
  takes_on a tab none then_none same table less ts tasks =
      let one = has_none none in
      moves (at_lock m a) s.volume tab ts
      (looks_now Progress.Moved (at_lock m a) s.volume tab ts (λ used over. absurd (cc over)) tasks same (reads_none disk s (store_then s.volume ts tab) refl h.well TaskProgress.Moved refl) refl (λ fine. record {
        others = one.others;
        locks = subst (λ (o : Option ℕ). (b i : ℕ) → HasLock s.volume.buffers p b i → o ≡ Some i) (sym then_none) one.locks;
        stands = (subst (λ (o : Option ℕ). HoldsAt s.volume.buffers p (inode_block m.number) o) (sym then_none) tt, still_open s.volume.log refl);
        table = table;
        looks = subst (λ (c : ℕ). IsTaking c (task_then (at_lock m a) Progress.Moved) (at_lock m a)) (sym same.0) (still_taking (at_lock m a) refl);
        logged = tt;
      })) (omega (arith, less))

  refers : m.at ≡ LockAt.Reference → (k : ℕ) → place_for s.table.places m.number ≡ Some k → Makes Progress.Moved (at_lock m (LockAt.Lock k)) s.volume (referred s.table m.number k)
  refers at k found = takes_on (LockAt.Lock k) (referred s.table m.number k) (ap slot_of at) refl (refl, refl)
      (kept_by_refer s.table (grips_of s.tasks) cur p m.number k table_now few (grip_now LockAt.Reference at) (may_name h is_op) found) (subst (λ (a : LockAt). 3 < locks_left a) (sym at) (omega arith))

  locks_it : (k : ℕ) → m.at ≡ LockAt.Lock k → holder_at s.table.places k ≡ None → Makes Progress.Moved (at_lock m (LockAt.Read k None)) s.volume (locked s.table k p)
  locks_it k at free = takes_on (LockAt.Read k None) (locked s.table k p) (ap slot_of at) refl (refl, refl)
      (kept_by_lock s.table (grips_of s.tasks) cur p k m.number table_now (grip_now (LockAt.Lock k) at) free) (subst (λ (a : LockAt). 2 < locks_left a) (sym at) (omega arith))

  -- who had to wait, or failed, stands where it stood
  stands_still : (q : Progress Bool) (n : LockState) → stage_of_lock (extent_of s.table.form s.table.inode_count s.volume.log.size) inode op m n q ≡ Stage.Taking m → task_then n q ≡ task s.tasks p
  stands_still q n same = ap (λ (a : Stage). record (task s.tasks p) { stage = a }) (same ∙ sym h.stood)

  same_grips : (g : Option Grip) → grip (grips_of s.tasks) p ≡ g → with_grip (grips_of s.tasks) p g ≡ grips_of s.tasks
  same_grips g same = ap (with_grip (grips_of s.tasks) p) (sym same) ∙ set-get_or (grips_of s.tasks) p None

  same_table : (g : Option Grip) → grip (grips_of s.tasks) p ≡ g → KeepsTable s.table s.table p (grips_of s.tasks) (with_grip (grips_of s.tasks) p g) cur
  same_table g same = record {
    table = subst (λ (gs : List (Option Grip)). TableIs s.table gs cur) (sym (same_grips g same)) table_now;
    others = λ q k i other locks. record { number = λ j. refl; holder = refl; copy = refl };
  }

  -- nothing is changed
  stays : (q : Progress Bool) (n : LockState) (ts : List TaskState) → stage_of_lock (extent_of s.table.form s.table.inode_count s.volume.log.size) inode op m n q ≡ Stage.Taking m → ts ≡ set s.tasks p (task_then n q) → store_then s.volume ts s.table ≡ s
  stays q n ts same tasks = ap (λ (l : List TaskState). record s { tasks = l }) (tasks ∙ ap (set s.tasks p) (stands_still q n same) ∙ set-get_or s.tasks p no_task)

  -- another has the lock
  sleeps : (k q : ℕ) → m.at ≡ LockAt.Lock k → holder_at s.table.places k ≡ Some q → Makes (Progress.Sleeping Why.InodeHeld) m s.volume s.table
  sleeps k q at holder ts tasks =
      let one = has_none (ap slot_of at) in
      let another = holder_is_another s.table (grips_of s.tasks) cur p q m.number k table_now (grip_now (LockAt.Lock k) at) holder in
      let same : store_then s.volume ts s.table ≡ s = stays (Progress.Sleeping Why.InodeHeld) m ts refl tasks in
      let looked = looks_now (Progress.Sleeping Why.InodeHeld) m s.volume s.table ts (λ used over. absurd (cc over)) tasks (refl, refl) (reads_none disk s (store_then s.volume ts s.table) refl h.well (TaskProgress.Sleeping Why.InodeHeld) refl) refl (λ fine. record {
        others = one.others;
        locks = subst (λ (o : Option ℕ). (a i : ℕ) → HasLock s.volume.buffers p a i → o ≡ Some i) (sym (ap slot_of at)) one.locks;
        stands = (subst (λ (o : Option ℕ). HoldsAt s.volume.buffers p (inode_block m.number) o) (sym (ap slot_of at)) tt, still_open s.volume.log refl);
        table = same_table (grip_by (Stage.Taking m) (asked_by (task s.tasks p).op)) (grip_now m.at refl);
        looks = still_taking m refl;
        logged = tt;
      }) in
      record {
        about = 0;
        stepped = stepped_on (Progress.Sleeping Why.InodeHeld) m s.volume s.table ts (λ used over. absurd (cc over)) looked;
        shown = looked.shown;
        waits = record {
          sleeping = λ cause waits. same;
          held = λ waits. absurd (cc waits);
          inode = λ waits. record {
            other = q;
            place = k;
            number = m.number;
            apart = another.0;
            wanted = sym (grip_is s.tasks p) ∙ grip_now (LockAt.Lock k) at;
            locked = sym (grip_is s.tasks q) ∙ another.1;
          };
        };
        apart = no_reply (Progress.Sleeping Why.InodeHeld) refl;
        falls = λ made. absurd (cc made);
      }

  -- THE TURN, with the inode locked at place k of the table
  pub record IsTaken (n : LockState) (k : ℕ) (w : VolumeState D) (tab : TableState) (used : Bool) : Type 0 where
    pub place : place_of n.at ≡ k
    pub alone : (q j : ℕ) → q ≢ p → grip_of (task s.tasks q) ≡ Some (locked_grip j m.number) → ⊥
    pub is_used : used ≡ true → inode.kind ≢ 0
    pub is_free : used ≡ false → inode.kind ≡ 0
    pub copy : used ≡ true → copy_at tab.places k ≡ Some inode
    pub count : tab.inode_count ≡ s.table.inode_count
    pub form : tab.form ≡ s.table.form
    pub table : KeepsTable s.table tab p (grips_of s.tasks) (with_grip (grips_of s.tasks) p (Some (locked_grip k m.number))) cur
    pub device : w.device ≡ s.volume.device
    pub well_then : w.fault ≡ None
    pub log : w.log ≡ s.volume.log
    pub current : current_of disk.image w ≡ cur
    pub one : HasOne s.volume.buffers w.buffers s.volume.log p (inode_block m.number) None

  asks : m.number ≡ asked op
  asks = number h is_op

  own_number : asked_by (task s.tasks p).op ≡ m.number
  own_number = ap asked_by is_op ∙ sym asks

  -- the inode of another's reading is another one
  turn_apart : (tab : TableState) (k : ℕ) (r : Option Reply) → TableIs tab (with_grip (grips_of s.tasks) p (Some (locked_grip k m.number))) cur → ((i : ℕ) → is_making i r ≡ true → ⊥)
      → (q : ℕ) → q ≢ p → owes_reply (task s.tasks q).stage ≡ true → LeavesNumber op r (asked_by (task s.tasks q).op)
  turn_apart tab k None table makes q other reads = tt
  turn_apart tab k (Some reply) table makes q other reads = (λ same. other (sym (alone same)), not_true (is_making (asked_by (task s.tasks q).op) (Some reply)) (makes (asked_by (task s.tasks q).op)))
    where
      not_true : (b : Bool) → (b ≡ true → ⊥) → b ≡ false
      not_true true never = absurd (never refl)
      not_true false never = refl

      alone : asked op ≡ asked_by (task s.tasks q).op → p ≡ q
      alone same =
          let theirs = late_locks cur s.table s.tasks (looking h is_op) q reads in
          let gs = grips_of s.tasks in
          let then_theirs : grip (with_grip gs p (Some (locked_grip k m.number))) q ≡ Some (locked_grip theirs.0 m.number) =
          get_or-set_other gs p q (Some (locked_grip k m.number)) None other ∙ theirs.1 ∙ ap (λ (i : ℕ). Some (locked_grip theirs.0 i)) (sym same ∙ sym asks) in
          locks_exclude tab (with_grip gs p (Some (locked_grip k m.number))) cur p q m.number k theirs.0 table (get_or-set_same gs p (Some (locked_grip k m.number)) None few) then_theirs

  turns : (n : LockState) (k : ℕ) (w : VolumeState D) (tab : TableState) (used : Bool) → IsTaken n k w tab used → Makes (Progress.Over used) n w tab
  turns n k w tab used t ts tasks =
      let r = reply_when_taken s.table.form (if_used used inode) op in
      let c = s.table.inode_count in
      let u : TaskState = task_then n (Progress.Over used) in
      let there : stage_of_lock (extent_of s.table.form c s.volume.log.size) inode op m n (Progress.Over used) ≡ stage_when_taken (extent_of s.table.form c s.volume.log.size) (if_used used inode) k op = ap (λ (j : ℕ). stage_when_taken (extent_of s.table.form c s.volume.log.size) (if_used used inode) j op) t.place in
      let gripped : grip_of u ≡ Some (locked_grip k m.number) =
      ap (λ (a : Stage). grip_by a (asked_by (task s.tasks p).op)) there ∙ ap (grip_by (stage_when_taken (extent_of s.table.form c s.volume.log.size) (if_used used inode) k op)) own_number ∙ grip_at_turn (extent_of s.table.form c s.volume.log.size) inode k m.number op used in
      let looked : Looked disk s p m.number (TaskProgress.Turned r) (store_then w ts tab) u = record {
        tasks = tasks;
        op = refl;
        count = t.count;
        form = t.form;
        reads = reads_none disk s (store_then w ts tab) t.device t.well_then (TaskProgress.Turned r) refl;
        shown = ap (λ (x : Image). record { current = x; log = w.log }) t.current ∙ ap (λ (l : LogState). record { current = cur; log = l }) t.log;
        alone = t.alone;
        claims = λ j other. ap (λ (a : Stage). claim_by u.op a j) there ∙ claims_at_turn u.op (extent_of s.table.form c s.volume.log.size) inode k op used j (λ same. other (same ∙ sym asks)) ∙ holds_nothing j;
        now = λ fine. record {
          others = subst (λ (l : LogState). StaysForOthers s.volume.buffers w.buffers s.volume.log l p) (sym t.log) t.one.others;
          locks = λ b i has. let no : None ≡ Some i = t.one.locks b i has in absurd (cc no);
          stands = subst (λ (a : Stage). Stands w.buffers w.log c p (task s.tasks p).op a) (sym there)
              (stands_at_turn w.buffers w.log c p (task s.tasks p).op (extent_of s.table.form c s.volume.log.size) inode k op used (can_take h is_op) (subst (λ (o : Option Op). IsOpenFor w.log p o) is_op (still_open w.log t.log)));
          table = subst (λ (x : Image). KeepsTable s.table tab p (grips_of s.tasks) (with_grip (grips_of s.tasks) p (grip_of u)) x) (sym t.current)
              (subst (λ (g : Option Grip). KeepsTable s.table tab p (grips_of s.tasks) (with_grip (grips_of s.tasks) p g) cur) (sym gripped) t.table);
          looks = subst (λ (x : Image). LooksAt x tab u (stage_of_lock (extent_of s.table.form c s.volume.log.size) inode op m n (Progress.Over used))) (sym t.current)
              (subst (λ (a : Stage). LooksAt cur tab u a) (sym there) (looks_at_turn h is_op t.alone tab k t.count used t.is_used t.copy u is_op refl));
          logged = subst (LoggedAt (current_of disk.image w) w.log p) (sym there)
              (logged_at_turn (current_of disk.image w) w.log s.table.inode_count p (extent_of s.table.form c s.volume.log.size) inode k op used (can_take h is_op) (subst (λ (o : Option Op). IsOpenFor w.log p o) is_op (still_open w.log t.log)));
        };
      } in
      record {
        about = m.number;
        stepped = stepped_looked disk s p m.number op (TaskProgress.Turned r) (store_then w ts tab) u h.is h.well h.inside looked
            (files_at_turn h is_op t.alone (store_then w ts tab) u k tasks t.current
            (λ none files fits. files_same disk s p m.number op (TaskProgress.Turned r) (store_then w ts tab) u h.is h.well h.inside looked (none ∙ holds_nothing m.number) files fits) used t.is_used t.is_free is_op there)
            (makes_never (Progress.Over used));
        shown = looked.shown;
        waits = no_wait (Progress.Over used) (store_then w ts tab) refl;
        apart = turn_apart tab k r t.table.table (makes_none s.table.form inode op used);
        falls = λ made. subst (λ (a : Stage). steps_left cur a s.table.inode_count < locks_left m.at + behind) (sym there)
            (let most = left_at_turn cur inode k s.table.inode_count s.table.inode_count (extent_of s.table.form s.table.inode_count s.volume.log.size) op used (can_take h is_op) (λ yes. few_at_turn h is_op t.alone (t.is_used yes)) in let some = some_left m.at in omega (arith, most, some));
      }

  entry_inside : (k : ℕ) (g : Grip) → grip (grips_of s.tasks) p ≡ Some g → g.place ≡ k → (k < length s.table.places) × (is_of g.number (entry_at s.table.places k) ≡ true)
  entry_inside k g gripped same =
      let at = table_now.places p g gripped in
      (omega (arith, table_now.size, at.0, same), subst (λ (j : ℕ). is_of g.number (entry_at s.table.places j) ≡ true) same at.1)

  -- the inode was read before, and only its lock is taken
  locks_known : (k : ℕ) (d : Dinode) → m.at ≡ LockAt.Lock k → holder_at s.table.places k ≡ None → copy_at s.table.places k ≡ Some d → IsTaken m k s.volume (locked s.table k p) true
  locks_known k d at free copy =
      let gripped = grip_now (LockAt.Lock k) at in
      let entry = entry_inside k (unlocked_grip k m.number) gripped refl in
      let known = table_now.copies m.number k d entry.1 copy in
      record {
        place = ap place_of at;
        alone = λ q j apart locks.
            let theirs : grip (grips_of s.tasks) q ≡ Some (locked_grip j m.number) = grip_is s.tasks q ∙ locks in
            let same : j ≡ k = table_now.once m.number j k (table_now.places q (locked_grip j m.number) theirs).1 entry.1 in
            absurd (cc (sym free ∙ ap (holder_at s.table.places) (sym same) ∙ (table_now.locks q j m.number theirs)));
        is_used = λ used none. known.1 (ap (λ (e : Dinode). e.kind) (sym known.0) ∙ none);
        is_free = λ used. absurd (cc used);
        copy = λ used. ap copy_in (get_or-set_same s.table.places k (with_holder (entry_at s.table.places k) p) None entry.0) ∙ same_copy (entry_at s.table.places k) ∙ copy ∙ ap Some (sym known.0);
        count = refl;
        form = refl;
        table = kept_by_lock s.table (grips_of s.tasks) cur p k m.number table_now gripped free;
        device = refl;
        well_then = h.well;
        log = refl;
        current = refl;
        one = has_none (ap slot_of at);
      }
    where
      same_copy : (e : Option InMemory) → copy_in (with_holder e p) ≡ copy_in e
      same_copy None = refl
      same_copy (Some e) = refl

  -- the inode is read in its block, which is released
  reads_it : (k i : ℕ) (q : Progress Bool) (tab : TableState) (w : VolumeState D) → m.at ≡ LockAt.Read k (Some i) → ReadsInode disk.image s.volume p k i inode s.table q tab w
      → (used : Bool) → not (eqb inode.kind 0) ≡ used → (q ≡ Progress.Over used) × IsTaken m k w tab used
  reads_it k i q tab w at reads used is_used = (
    reads.answer ∙ ap Progress.Over is_used,
    record {
      place = ap place_of at;
      alone = λ q j apart locks. apart (sym (locks_exclude s.table (grips_of s.tasks) cur p q m.number k j table_now gripped (grip_is s.tasks q ∙ locks)));
      is_used = λ yes. eqb-false inode.kind 0 (not_then (eqb inode.kind 0) true (is_used ∙ yes));
      is_free = λ free. eqb-true inode.kind 0 (not_then (eqb inode.kind 0) false (is_used ∙ free));
      copy = λ yes. ap (λ (t : TableState). copy_at t.places k) (kept_table true (is_used ∙ yes)) ∙ ap copy_in (get_or-set_same s.table.places k (with_copy (entry_at s.table.places k) (Some inode)) None entry.0)
          ∙ new_copy (entry_at s.table.places k) entry.1;
      count = ap (λ (t : TableState). t.inode_count) (kept_table used is_used) ∙ count_of_kept used;
      form = ap (λ (t : TableState). t.form) (kept_table used is_used) ∙ form_of_kept used;
      table = subst (λ (t : TableState). KeepsTable s.table t p (grips_of s.tasks) (with_grip (grips_of s.tasks) p (Some (locked_grip k m.number))) cur) (sym (kept_table used is_used)) (keeps used is_used);
      device = ap (λ (v : VolumeState D). v.device) reads.block.volume;
      well_then = ap (λ (v : VolumeState D). v.fault) reads.block.volume ∙ h.well;
      log = ap (λ (v : VolumeState D). v.log) reads.block.volume;
      current = reads.block.current;
      one = has_left s.volume.buffers s.volume.log s.table.inode_count p s.tasks (agrees h is_op) w.buffers (inode_block m.number) i (own_slot (Some i) (ap slot_of at)) reads.block.locks;
    },
  )
    where
      gripped : grip (grips_of s.tasks) p ≡ Some (locked_grip k m.number)
      gripped = grip_now (LockAt.Read k (Some i)) at

      entry : (k < length s.table.places) × (is_of m.number (entry_at s.table.places k) ≡ true)
      entry = entry_inside k (locked_grip k m.number) gripped refl

      not_then : (b c : Bool) → not b ≡ c → b ≡ not c
      not_then true c same = ap not same
      not_then false c same = ap not same

      table_by : Bool → TableState
      table_by true = kept s.table k inode
      table_by false = s.table

      count_of_kept : (b : Bool) → (table_by b).inode_count ≡ s.table.inode_count
      count_of_kept true = refl
      count_of_kept false = refl

      form_of_kept : (b : Bool) → (table_by b).form ≡ s.table.form
      form_of_kept true = refl
      form_of_kept false = refl

      kept_by : (b : Bool) → cond b s.table (kept s.table k inode) ≡ table_by (not b)
      kept_by true = refl
      kept_by false = refl

      kept_table : (b : Bool) → not (eqb inode.kind 0) ≡ b → tab ≡ table_by b
      kept_table b same = reads.table ∙ kept_by (eqb inode.kind 0) ∙ ap table_by same

      new_copy : (e : Option InMemory) → is_of m.number e ≡ true → copy_in (with_copy e (Some inode)) ≡ Some inode
      new_copy None same = absurd (cc same)
      new_copy (Some e) same = refl

      keeps : (b : Bool) → not (eqb inode.kind 0) ≡ b → KeepsTable s.table (table_by b) p (grips_of s.tasks) (with_grip (grips_of s.tasks) p (Some (locked_grip k m.number))) cur
      keeps true same = subst (λ (gs : List (Option Grip)). KeepsTable s.table (kept s.table k inode) p (grips_of s.tasks) gs cur) (sym (same_grips (Some (locked_grip k m.number)) gripped))
          (kept_by_renew s.table (grips_of s.tasks) cur cur p k m.number (Some inode) table_now gripped (λ j number apart used. refl)
          (λ d is_d. let its : inode ≡ d = cc is_d in (its, λ none. eqb-false inode.kind 0 (not_then (eqb inode.kind 0) true same) (ap (λ (e : Dinode). e.kind) its ∙ none))))
      keeps false same = same_table (Some (locked_grip k m.number)) gripped

  -- the inode's block is got, or has to be waited for, or can't be read
  module _ (k : ℕ) (at : m.at ≡ LockAt.Read k None) (slot : Option ℕ) (w : VolumeState D) (ts : List TaskState) where
    abbrev next : LockState
    next = at_lock m (LockAt.Read k slot)

    abbrev then_at : StoreState D
    then_at = store_then w ts s.table

    no_slot : (i : ℕ) → HasSlot (task s.tasks p).stage i → None ≡ Some i
    no_slot = own_slot None (ap slot_of at)

    gets : (q : Progress Bool) → GetsFor disk s.volume p (inode_block m.number) q slot w → ts ≡ set s.tasks p (task_then next q) → Made q next w s.table ts
    gets Progress.Moved got tasks =
        let are = agrees h is_op in
        let one = has_then disk s then_at p (inode_block m.number) Progress.Moved slot got are no_slot refl in
        let log = got.reads.log in
        moves next w s.table ts (looks_now Progress.Moved next w s.table ts (λ used over. absurd (cc over)) tasks (refl, refl)
        (reads_got disk s then_at p (inode_block m.number) Progress.Moved slot got are no_slot TaskProgress.Moved refl) (shows_got disk s then_at p (inode_block m.number) Progress.Moved slot got are no_slot) (λ fine. record {
          others = subst (λ (l : LogState). StaysForOthers s.volume.buffers w.buffers s.volume.log l p) (sym log) one.others;
          locks = one.locks;
          stands = (one.holds, still_open w.log log);
          table = subst (λ (x : Image). KeepsTable s.table s.table p (grips_of s.tasks) (with_grip (grips_of s.tasks) p (Some (locked_grip k m.number))) x) (sym got.reads.current) (same_table (Some (locked_grip k m.number)) (grip_now (LockAt.Read k None) at));
          looks = still_taking next refl;
          logged = tt;
        })) (subst (λ (a : LockAt). locks_left (LockAt.Read k slot) + behind < locks_left a + behind) (sym at) (got_fewer got.answer got.gives got.slot))
      where
        got_fewer : (a : Get) → Progress.Moved ≡ (let made : Progress Bool = progress_of a in made) → slot ≡ got_slot_of a → locks_left (LockAt.Read k slot) + behind < 2 + behind
        got_fewer (get.Got i) moved is_slot = subst (λ (o : Option ℕ). locks_left (LockAt.Read k o) + behind < 2 + behind) (sym is_slot) (omega arith)
        got_fewer (get.Sleeping cause) moved is_slot = absurd (cc moved)
        got_fewer (get.Fault fault) moved is_slot = absurd (cc moved)
    gets (Progress.Sleeping cause) got tasks =
        let are = agrees h is_op in
        let slept = sleeps_got disk s then_at p (inode_block m.number) (Progress.Sleeping cause) slot got are no_slot cause refl in
        let one = has_none (ap slot_of at) in
        let looked = looks_now (Progress.Sleeping cause) next w s.table ts (λ used over. absurd (cc over)) tasks (refl, refl) (reads_got disk s then_at p (inode_block m.number) (Progress.Sleeping cause) slot got are no_slot (TaskProgress.Sleeping cause) refl)
        (shows_got disk s then_at p (inode_block m.number) (Progress.Sleeping cause) slot got are no_slot) (λ fine. record {
          others = subst (λ (v : VolumeState D). StaysForOthers s.volume.buffers v.buffers s.volume.log v.log p) (sym slept.0) one.others;
          locks = subst (λ (v : VolumeState D). (a i : ℕ) → HasLock v.buffers p a i → slot_of m.at ≡ Some i) (sym slept.0)
              (subst (λ (o : Option ℕ). (a i : ℕ) → HasLock s.volume.buffers p a i → o ≡ Some i) (sym (ap slot_of at)) one.locks);
          stands = (subst (λ (o : Option ℕ). HoldsAt w.buffers p (inode_block m.number) o) (sym (ap slot_of at)) tt, still_open w.log got.reads.log);
          table = subst (λ (x : Image). KeepsTable s.table s.table p (grips_of s.tasks) (with_grip (grips_of s.tasks) p (grip_by (Stage.Taking m) (asked_by (task s.tasks p).op))) x) (sym got.reads.current)
              (same_table (grip_by (Stage.Taking m) (asked_by (task s.tasks p).op)) (grip_now m.at refl));
          looks = still_taking m refl;
          logged = tt;
        }) in
        record {
          about = 0;
          stepped = stepped_on (Progress.Sleeping cause) next w s.table ts (λ used over. absurd (cc over)) looked;
          shown = looked.shown;
          waits = record {
            sleeping = λ other waits. ap (λ (v : VolumeState D). store_then v ts s.table) slept.0 ∙ stays (Progress.Sleeping cause) next ts refl tasks;
            held = λ waits.
                let same : cause ≡ Why.BufferHeld = cc waits in
                subst (λ (b : ℕ). IsHeldByAnother s p b) (sym (ap block_at_stage h.stood)) (held_got disk s then_at p (inode_block m.number) (Progress.Sleeping cause) slot got are no_slot (ap Progress.Sleeping same));
            inode = λ waits. let same : cause ≡ Why.InodeHeld = cc waits in absurd (never_inode disk s then_at p (inode_block m.number) (Progress.Sleeping cause) slot got (ap Progress.Sleeping same));
          };
          apart = no_reply (Progress.Sleeping cause) refl;
          falls = λ made. absurd (cc made);
        }
    gets (Progress.Over used) got tasks = absurd (never_over disk s then_at p (inode_block m.number) (Progress.Over used) slot got used refl)
    gets (Progress.Fault fault) got tasks =
        let are = agrees h is_op in
        let looked = looks_now (Progress.Fault fault) next w s.table ts (λ used over. absurd (cc over)) tasks (refl, refl) (reads_got disk s then_at p (inode_block m.number) (Progress.Fault fault) slot got are no_slot (TaskProgress.Fault fault) refl)
        (shows_got disk s then_at p (inode_block m.number) (Progress.Fault fault) slot got are no_slot) (λ fine. absurd (cc fine)) in
        record {
          about = 0;
          stepped = stepped_on (Progress.Fault fault) next w s.table ts (λ used over. absurd (cc over)) looked;
          shown = looked.shown;
          waits = record { sleeping = λ cause waits. absurd (cc waits); held = λ waits. absurd (cc waits); inode = λ waits. absurd (cc waits) };
          apart = no_reply (Progress.Fault fault) refl;
          falls = λ made. absurd (cc made);
        }

  -- the last step, with the place of the inode
  taken_by : (a : LockAt) → m.at ≡ a → (used : Bool) (n : LockState) (w : VolumeState D) (tab : TableState) → LockSteps disk a s.table s.volume p m (Progress.Over used) tab w n
      → (k : ℕ) × IsTaken n k w tab used
  taken_by LockAt.Reference at used n w tab steps = absurd (cc (steps.0.2))
  taken_by (LockAt.Lock k) at used n w tab steps = by_holder (holder_at s.table.places k) (copy_at s.table.places k) refl refl steps.0
    where
      by_holder : (o : Option ℕ) (copy : Option Dinode) → holder_at s.table.places k ≡ o → copy_at s.table.places k ≡ copy → Locks o copy s.table p k m (Progress.Over used) tab n → (j : ℕ) × IsTaken n j w tab used
      by_holder (Some other) copy held is_copy locks = absurd (cc (locks.0))
      by_holder None (Some d) held is_copy locks =
          let same : used ≡ true = (let e = locks.0 in cc e) in (
            k,
            subst (λ (v : VolumeState D). IsTaken n k v tab used) (sym steps.1)
                (subst (λ (b : Bool). IsTaken n k s.volume tab b) (sym same)
                (subst (λ (t : TableState). IsTaken n k s.volume t true) (sym locks.1)
                (subst (λ (l : LockState). IsTaken l k s.volume (locked s.table k p) true) (sym locks.2) (locks_known k d at held is_copy)))),
          )
      by_holder None None held is_copy locks = absurd (cc (locks.0))
  taken_by (LockAt.Read k None) at used n w tab steps = absurd (never_over disk s (record s { volume = w }) p (inode_block m.number) (Progress.Over used) steps.0.0 steps.0.1 used refl)
  taken_by (LockAt.Read k (Some i)) at used n w tab steps =
      let is_used = not (eqb inode.kind 0) in
      let made = reads_it k i (Progress.Over used) tab w at steps.0 is_used refl in
      let same : used ≡ is_used = (let e = made.0 in cc e) in
      (k, subst (λ (l : LockState). IsTaken l k w tab used) (sym steps.1) (subst (λ (b : Bool). IsTaken m k w tab b) (sym same) made.1))

  module _ (used : Bool) (n : LockState) (w : VolumeState D) (tab : TableState) (steps : LockSteps disk m.at s.table s.volume p m (Progress.Over used) tab w n) where
    pub taken : (k : ℕ) × IsTaken n k w tab used
    taken = taken_by m.at refl used n w tab steps

    pub place_taken : place_of n.at < 50
    place_taken =
        let hs = with_grip (grips_of s.tasks) p (Some (locked_grip taken.0 m.number)) in
        let low = taken.1.table.table.places p (locked_grip taken.0 m.number) (get_or-set_same (grips_of s.tasks) p (Some (locked_grip taken.0 m.number)) None few) in
        subst (λ (k : ℕ). k < 50) (sym taken.1.place) low.0

    pub inode_taken : cond used (copy_at tab.places (place_of n.at)) None ≡ if_used used inode
    inode_taken = ap (λ (k : ℕ). cond used (copy_at tab.places k) None) taken.1.place ∙ by_use used taken.1.copy
      where
        by_use : (b : Bool) → (b ≡ true → copy_at tab.places taken.0 ≡ Some inode) → cond b (copy_at tab.places taken.0) None ≡ if_used b inode
        by_use true copy = copy refl
        by_use false copy = refl

    -- an image has few numbers
    pub few_numbers : tab.inode_count ≤ 1024
    few_numbers = let few = (facts_of cur h.is.geometry).few in let same = taken.1.count in let numbers = h.is.numbers in omega (arith, few, same, numbers)

    pub readable_taken : IsReadable s.table.form (if_used used inode)
    readable_taken = readable h is_op taken.1.alone used taken.1.is_used

  -- ANY STEP
  makes_as : (q r : Progress Bool) (n l : LockState) (w v : VolumeState D) (tab t : TableState) → (q ≡ r) × ((tab ≡ t) × (n ≡ l)) → w ≡ v → Makes r l v t → Makes q n w tab
  makes_as q r n l w v tab t same volume makes =
      subst (λ (x : VolumeState D). Makes q n x tab) (sym volume) (subst (λ (x : Progress Bool). Makes x n v tab) (sym same.0)
      (subst (λ (x : TableState). Makes r n v x) (sym same.1.0) (subst (λ (x : LockState). Makes r x v t) (sym same.1.1) makes)))

  takes_by : (a : LockAt) → m.at ≡ a → (q : Progress Bool) (n : LockState) (w : VolumeState D) (tab : TableState) → LockSteps disk a s.table s.volume p m q tab w n → Makes q n w tab
  takes_by LockAt.Reference at q n w tab steps =
      let k = steps.0.0 in
      makes_as q Progress.Moved n (at_lock m (LockAt.Lock k)) w s.volume tab (referred s.table m.number k) (steps.0.2, (steps.0.3, steps.0.4)) steps.1 (refers at k steps.0.1)
  takes_by (LockAt.Lock k) at q n w tab steps = by_holder (holder_at s.table.places k) (copy_at s.table.places k) refl refl steps.0
    where
      by_holder : (o : Option ℕ) (copy : Option Dinode) → holder_at s.table.places k ≡ o → copy_at s.table.places k ≡ copy → Locks o copy s.table p k m q tab n → Makes q n w tab
      by_holder (Some other) copy held is_copy locks = makes_as q (Progress.Sleeping Why.InodeHeld) n m w s.volume tab s.table (locks.0, (locks.1, locks.2)) steps.1 (sleeps k other at held)
      by_holder None (Some d) held is_copy locks =
          makes_as q (Progress.Over true) n m w s.volume tab (locked s.table k p) (locks.0, (locks.1, locks.2)) steps.1 (turns m k s.volume (locked s.table k p) true (locks_known k d at held is_copy))
      by_holder None None held is_copy locks = makes_as q Progress.Moved n (at_lock m (LockAt.Read k None)) w s.volume tab (locked s.table k p) (locks.0, (locks.1, locks.2)) steps.1 (locks_it k at held)
  takes_by (LockAt.Read k None) at q n w tab steps =
      makes_as q q n (at_lock m (LockAt.Read k steps.0.0)) w w tab s.table (refl, (steps.1, steps.0.2)) refl (λ ts tasks. gets k at steps.0.0 w ts q steps.0.1 tasks)
  takes_by (LockAt.Read k (Some i)) at q n w tab steps =
      let used = not (eqb inode.kind 0) in
      let made = reads_it k i q tab w at steps.0 used refl in
      makes_as q (Progress.Over used) n m w w tab tab (made.0, (refl, steps.1)) refl (turns m k w tab used made.1)

  module _ (q : Progress Bool) (n : LockState) (w : VolumeState D) (tab : TableState) (ts : List TaskState) (steps : LockSteps disk m.at s.table s.volume p m q tab w n) (tasks : ts ≡ set s.tasks p (task_then n q)) where
    made : Made q n w tab ts
    made = takes_by m.at refl q n w tab steps ts tasks

    -- what is true of every store
    pub store_taken : IsStore disk.image (store_then w ts tab)
    store_taken = store_stepped disk s p made.about op (progress_of_lock s.table.form inode op q) (store_then w ts tab) (task_then n q) h.is h.well h.inside made.stepped

    -- and what a step promises
    pub steps_taken : Steps disk s p op (progress_of_lock s.table.form inode op q) (store_then w ts tab)
    steps_taken = steps_stepped disk s p made.about op (progress_of_lock s.table.form inode op q) (store_then w ts tab) (task_then n q) h.is h.well h.inside made.stepped
        (subst (λ (a : Stage). Goes disk a s p op (progress_of_lock s.table.form inode op q) (store_then w ts tab)) (sym h.stood) (
          record {
            answer = q;
            now = n;
            locks = steps;
            gives = refl;
            next = ap (λ (t : TaskState). t.stage) now_is;
            bytes = ap (λ (t : TaskState). t.gathered) now_is;
          },
          made.shown,
        ))
        made.waits made.apart
        (λ is_step going. subst (λ (x : Image). steps_left x (task_then n q).stage s.table.inode_count < steps_left cur (task s.tasks p).stage s.table.inode_count) (sym (ap (λ (v : Shown). v.current) made.shown))
        (subst (λ (a : Stage). steps_left cur (task_then n q).stage s.table.inode_count < steps_left cur a s.table.inode_count) (sym h.stood) (made.falls is_step)))
      where
        now_is : task ts p ≡ task_then n q
        now_is = ap (λ (l : List TaskState). task l p) tasks ∙ get_or-set_same s.tasks p (task_then n q) no_task h.inside
