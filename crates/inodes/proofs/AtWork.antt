-- A step of a process that works on its inode behind its turn: what it does, and that it promises so.
use Rattle.std.proofs.Common.{◌≡◌, ◌≢◌, ℕ, ◌<◌, true, List, length, set, refl, sym, ◌∙◌, ap, subst, Option, Some, None}
use Rattle.inodes.specs.Common.{AreLooking, asked_by, block_at_stage, claim_by, claim_of, Claims, claims_of, current_of, fault_of_task, Files, FilesThen, FitsHeld, form_of, Ghosts, Goes, Grip, grip_by, grip_of, grips_of, HasLock, HasSlot, Image, is_made, IsClaimedNow, IsHeldByAnother, IsStore, KeepsTable, LeavesNumber, locked_grip, LoggedAt, LooksAt, Marks, no_task, Op, Reads, Reply, reply_at_turn, SameGroups, set-get_or, Stage, Stands, StaysForOthers, Steps, steps_left, StoreState, super_in, TableState, task, TaskProgress, TaskState, VolumeState, Waits, Why, with_grip, LogsAtMost, most_logged}
use Rattle.inodes.specs.Store.{FitsFiles}
use Rattle.inodes.specs.Lemmas.Holding.{claimed_now}
use Rattle.inodes.proofs.Looking.{Stepped, store_stepped, steps_stepped}
use Rattle.inodes.proofs.LooksKept.{KeepsUsed}
use Rattle.inodes.specs.Lemmas.Unclaimed.{LocksAlone, holds_alone_of}
use Rattle.inodes.proofs.Gripping.{grip_is}

-- process p, whose task stands at `here`, works on number i, at place k of the table
module _ {D N : Type 0} (disk : Ghosts D N) (s : StoreState D) (p k i : ℕ) (here : Stage) where
  abbrev cur : Image
  cur = current_of disk.image s.volume

  abbrev claims : Claims
  claims = claims_of s.tasks

  abbrev op : Option Op
  op = (task s.tasks p).op

  abbrev count : ℕ
  count = s.table.inode_count

  -- it alone has locked the number, and holds no other
  pub record Works : Type 0 where
    pub is : IsStore disk.image s
    pub well : s.volume.fault ≡ None
    pub inside : p < length s.tasks
    pub stood : (task s.tasks p).stage ≡ here
    pub looking : AreLooking cur s.table s.tasks
    pub gripped : grip_of (task s.tasks p) ≡ Some (locked_grip k i)
    pub alone : LocksAlone s.tasks p i
    pub apart : (j : ℕ) → j ≢ i → claim_by op here j ≡ None

  -- what a step makes of log, image and table
  pub record MakesOf (its : Op) (w : VolumeState D) (tab : TableState) : Type 0 where
    pub numbers : tab.inode_count ≡ count
    pub form : tab.form ≡ s.table.form
    pub groups : SameGroups s.volume.log w.log
    pub logs : LogsAtMost (most_logged s.table.form its) s.volume.log p w.log
    pub marks : Marks None cur (current_of disk.image w)
    pub keeps : KeepsUsed count i claims cur (current_of disk.image w)
    pub table : KeepsTable s.table tab p (grips_of s.tasks) (grips_of s.tasks) (current_of disk.image w)

  -- the step answers r, and the task stands at `next` then
  module _ (r : TaskProgress) (next : Stage) (w : VolumeState D) (tab : TableState) (ts : List TaskState) where
    abbrev now : Image
    now = current_of disk.image w

    abbrev pub task_then : TaskState
    task_then = record (task s.tasks p) { stage = next }

    abbrev pub store_then : StoreState D
    store_then = record { volume = w; tasks = ts; table = tab }

    -- where the disk has not failed
    pub record StandsSo : Type 0 where
      pub others : StaysForOthers s.volume.buffers w.buffers s.volume.log w.log p
      pub locks : (b j : ℕ) → HasLock w.buffers p b j → HasSlot next j
      pub stands : Stands w.buffers w.log count p op next
      pub looks : LooksAt now tab task_then next
      pub logged : LoggedAt now w.log p next

    -- What the step makes of disk, buffers, log, image and table, and for whom it waits.
    pub record Does (its : Op) : Type 0 where
      pub reads : Reads disk s r store_then
      pub makes : MakesOf its w tab
      pub files : (new : Claims) → IsClaimedNow claims i (claim_by op next i) new → (files : Files) → FitsHeld files cur claims
          → FilesThen (form_of cur) its r files (λ m. FitsHeld m now new)
      pub apart_then : (j : ℕ) → j ≢ i → claim_by op next j ≡ None
      pub grip : grip_by next (asked_by op) ≡ Some (locked_grip k i)
      pub stands : fault_of_task r ≡ None → StandsSo
      pub late : reply_at_turn r ≡ None
      pub asleep : (cause : Why) → r ≡ TaskProgress.Sleeping cause → (w ≡ s.volume) × (tab ≡ s.table) × (next ≡ here)
      pub held : r ≡ TaskProgress.Sleeping Why.BufferHeld → IsHeldByAnother s p (block_at_stage here)
      pub inode : r ≡ TaskProgress.Sleeping Why.InodeHeld → ⊥
      pub less : is_made r ≡ true → steps_left now next count < steps_left cur here count

    module _ (its : Op) (works : Works) (does : Does its) (tasks : ts ≡ set s.tasks p task_then) where
      abbrev t : StoreState D
      t = store_then

      abbrev u : TaskState
      u = task_then

      same_grips : with_grip (grips_of s.tasks) p (grip_of u) ≡ grips_of s.tasks
      same_grips = ap (with_grip (grips_of s.tasks) p) (does.grip ∙ sym (grip_is s.tasks p ∙ works.gripped)) ∙ set-get_or (grips_of s.tasks) p None

      same_claim : (j : ℕ) → j ≢ i → claim_of u j ≡ claim_of (task s.tasks p) j
      same_claim j apart = does.apart_then j apart ∙ sym (ap (λ (a : Stage). claim_by op a j) works.stood ∙ works.apart j apart)

      claimed_then : IsClaimedNow claims i (claim_of u i) (claims_of ts)
      claimed_then = subst (λ (l : List TaskState). IsClaimedNow claims i (claim_of u i) (claims_of l)) (sym tasks)
          (claimed_now s.tasks p i u works.inside (holds_alone_of cur s.table s.tasks works.looking p i works.alone) same_claim)

      files_then : (files : Files) → FitsFiles disk.image s files → FilesThen (form_of cur) its r files (FitsFiles disk.image t)
      unfolding FitsFiles
      files_then files fits = does.files (claims_of ts) claimed_then files fits

      stepped : Stepped disk s p i its r t u
      stepped = record {
        tasks = tasks;
        op = refl;
        count = does.makes.numbers;
        form = does.makes.form;
        numbers = ap (λ (b : List ℕ). (super_in b).ninodes) does.makes.marks.untouched.super;
        reads = does.reads;
        groups = does.makes.groups;
        logs = does.makes.logs;
        marks = subst (λ (o : Option Reply). Marks o cur now) (sym does.late) does.makes.marks;
        files = files_then;
        alone = works.alone;
        claims = same_claim;
        keeps = does.makes.keeps;
        now = λ fine.
            let on = does.stands fine in
            record {
              others = on.others;
              locks = on.locks;
              stands = on.stands;
              table = subst (λ (gs : List (Option Grip)). KeepsTable s.table tab p (grips_of s.tasks) gs now) (sym same_grips) does.makes.table;
              looks = on.looks;
              logged = on.logged;
            };
      }

      -- what is true of every store
      pub store_worked : IsStore disk.image t
      store_worked = store_stepped disk s p i its r t u works.is works.well works.inside stepped

      -- who sleeps changed nothing
      slept : (cause : Why) → r ≡ TaskProgress.Sleeping cause → t ≡ s
      slept cause waits =
          let same = does.asleep cause waits in
          let stays : u ≡ task s.tasks p = ap (λ (a : Stage). record (task s.tasks p) { stage = a }) (same.2 ∙ sym works.stood) in
          ap (λ (v : VolumeState D). record { volume = v; tasks = ts; table = tab }) same.0
          ∙ ap (λ (b : TableState). record { volume = s.volume; tasks = ts; table = b }) same.1
          ∙ ap (λ (l : List TaskState). record s { tasks = l }) (tasks ∙ ap (set s.tasks p) stays ∙ set-get_or s.tasks p no_task)

      waits_so : Waits s p r t
      waits_so = record {
        sleeping = slept;
        held = λ waits. subst (λ (a : Stage). IsHeldByAnother s p (block_at_stage a)) (sym works.stood) (does.held waits);
        inode = λ waits. absurd (does.inode waits);
      }

      -- THE STEP
      pub steps_worked : Goes disk here s p its r t → Steps disk s p its r t
      steps_worked goes = steps_stepped disk s p i its r t u works.is works.well works.inside stepped
          (subst (λ (a : Stage). Goes disk a s p its r t) (sym works.stood) goes)
          waits_so
          (λ other apart reads. subst (λ (o : Option Reply). LeavesNumber its o (asked_by (task s.tasks other).op)) (sym does.late) tt)
          (λ made going. subst (λ (a : Stage). steps_left now next count < steps_left cur a count) (sym works.stood) (does.less made))
