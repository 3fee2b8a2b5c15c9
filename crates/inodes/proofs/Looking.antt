-- What a step of a task makes of a store.
use Rattle.std.proofs.Common.{◌≡◌, ◌≢◌, ℕ, ◌<◌, true, false, List, length, length-set, set, refl, sym, ◌∙◌, ap, subst, arith, ⊎_elim, Option, Some, None, inl}
use Rattle.inodes.specs.Store.{FitsFiles}
use Rattle.std.specs.Prelude.{IfNone}
use Rattle.inodes.specs.Common.{Agrees, AreLooking, asked_by, cases_eq, claim_of, claims_of, copy_at, current_of, DeviceFault, Dinode, fault_of_task, Files, FilesThen, FitsHeld, Form, form_of, form_same, get_or-set_other, get_or-set_same, Ghosts, Goes, Grip, grip_by, grip_of, grips_of, groups_same, HasAllRead, HasFiles, HasLock, HasSlot, HaveLogged, held_alike, Image, inode_count_of, is_made, is_making, is_over, IsAtRead, IsStore, IsTaking, IsTruncating, IsWriting, KeepsTable, LeavesLate, locked_grip, LoggedAt, LogState, LooksAt, Marks, no_task, Op, Reads, reply_at_turn, SameGroups, Shown, ShowsSame, Stage, Stands, StaysForOthers, Steps, steps_left, StoreState, TableIs, task, TaskProgress, TaskState, Waits, WasAnswered, with_grip, LogsAtMost, most_logged, IsSetting}
use Rattle.inodes.specs.Lemmas.Holding.{claim_stays}
use Rattle.inodes.specs.Lemmas.Faults.{where_none, if_none, if_some}
use Rattle.inodes.proofs.Agreeing.{agrees_now}
use Rattle.inodes.proofs.Gripping.{grip_is, grips_set}
use Rattle.inodes.proofs.Frames.{marks_same}
use Rattle.inodes.proofs.LooksKept.{KeepsUsed, keeps_same, logged_still, stands_still}
use Rattle.inodes.proofs.Shares.{shares}

-- Process p's task is u now, where the disk has not failed.
pub record IsNow {D : Type 0} (image : D → Image) (s t : StoreState D) (p : ℕ) (u : TaskState) : Type 0 where
  pub others : StaysForOthers s.volume.buffers t.volume.buffers s.volume.log t.volume.log p
  pub locks : (b i : ℕ) → HasLock t.volume.buffers p b i → HasSlot u.stage i
  pub stands : Stands t.volume.buffers t.volume.log s.table.inode_count p u.op u.stage
  pub table : KeepsTable s.table t.table p (grips_of s.tasks) (with_grip (grips_of s.tasks) p (grip_of u)) (current_of image t.volume)
  pub looks : LooksAt (current_of image t.volume) t.table u u.stage
  pub logged : LoggedAt (current_of image t.volume) t.volume.log p u.stage

-- A step of process p, which has to do with number i, left its task as u.
pub record Stepped {D N : Type 0} (disk : Ghosts D N) (s : StoreState D) (p i : ℕ) (its : Op) (r : TaskProgress) (t : StoreState D) (u : TaskState) : Type 0 where
  pub tasks : t.tasks ≡ set s.tasks p u
  pub op : u.op ≡ (task s.tasks p).op
  pub count : t.table.inode_count ≡ s.table.inode_count
  pub form : t.table.form ≡ s.table.form
  pub numbers : inode_count_of (current_of disk.image t.volume) ≡ inode_count_of (current_of disk.image s.volume)
  pub reads : Reads disk s r t
  pub groups : SameGroups s.volume.log t.volume.log
  pub logs : LogsAtMost (most_logged s.table.form its) s.volume.log p t.volume.log
  pub marks : Marks (reply_at_turn r) (current_of disk.image s.volume) (current_of disk.image t.volume)
  pub files : (files : Files) → FitsFiles disk.image s files → FilesThen (form_of (current_of disk.image s.volume)) its r files (FitsFiles disk.image t)
  -- no other process has that number's lock, and the task holds no other number
  pub alone : (q k : ℕ) → q ≢ p → grip_of (task s.tasks q) ≡ Some (locked_grip k i) → ⊥
  pub claims : (j : ℕ) → j ≢ i → claim_of u j ≡ claim_of (task s.tasks p) j
  pub keeps : KeepsUsed s.table.inode_count i (claims_of s.tasks) (current_of disk.image s.volume) (current_of disk.image t.volume)
  pub now : fault_of_task r ≡ None → IsNow disk.image s t p u

-- A step of process p, after which image and log show the same, left its task as u.
pub record Looked {D N : Type 0} (disk : Ghosts D N) (s : StoreState D) (p i : ℕ) (r : TaskProgress) (t : StoreState D) (u : TaskState) : Type 0 where
  pub tasks : t.tasks ≡ set s.tasks p u
  pub op : u.op ≡ (task s.tasks p).op
  pub count : t.table.inode_count ≡ s.table.inode_count
  pub form : t.table.form ≡ s.table.form
  pub reads : Reads disk s r t
  pub shown : ShowsSame disk.image s t
  pub alone : (q k : ℕ) → q ≢ p → grip_of (task s.tasks q) ≡ Some (locked_grip k i) → ⊥
  pub claims : (j : ℕ) → j ≢ i → claim_of u j ≡ claim_of (task s.tasks p) j
  pub now : fault_of_task r ≡ None → IsNow disk.image s t p u

-- a store that stands for files stands for them in its current image, by the claims of its tasks
fits_of : {D : Type 0} (image : D → Image) (s : StoreState D) (files : Files) → FitsFiles image s files → FitsHeld files (current_of image s.volume) (claims_of s.tasks)
unfolding FitsFiles
fits_of image s files fits = fits

of_fits : {D : Type 0} (image : D → Image) (s : StoreState D) (files : Files) → FitsHeld files (current_of image s.volume) (claims_of s.tasks) → FitsFiles image s files
unfolding FitsFiles
of_fits image s files fits = fits

-- there are files after a step
files_then : (P : Files → Type 0) (form : Form) (op : Op) (r : TaskProgress) (files : Files) → FilesThen form op r files P → (then : Files) × P then
files_then P form op TaskProgress.Moved files then = (files, then)
files_then P form op (TaskProgress.Turned None) files then = (files, then)
files_then P form op (TaskProgress.Turned (Some reply)) files then = (then.0, then.2)
files_then P form op (TaskProgress.Decided reply) files then = (then.0, then.2)
files_then P form op TaskProgress.Over files then = (files, then)
files_then P form op (TaskProgress.Sleeping why) files then = (files, then)
files_then P form op (TaskProgress.Fault fault) files then = (files, then)

module _ {D N : Type 0} (disk : Ghosts D N) (s : StoreState D) (p i : ℕ) (op : Op) (r : TaskProgress) (t : StoreState D) (u : TaskState)
    (is : IsStore disk.image s) (well : s.volume.fault ≡ None) (inside : p < length s.tasks) where
  abbrev cur : Image
  cur = current_of disk.image s.volume

  abbrev new : Image
  new = current_of disk.image t.volume

  mine : task (set s.tasks p u) p ≡ u
  mine = get_or-set_same s.tasks p u no_task inside

  theirs : (q : ℕ) → q ≢ p → task (set s.tasks p u) q ≡ task s.tasks q
  theirs q apart = get_or-set_other s.tasks p q u no_task apart

  were : AreLooking cur s.table s.tasks
  were = where_none s.volume.fault well is.looks

  agrees_then : IsNow disk.image s t p u → Agrees t.volume.buffers t.volume.log s.table.inode_count (set s.tasks p u)
  agrees_then now = agrees_now s.volume.buffers t.volume.buffers s.volume.log t.volume.log s.table.inode_count p s.tasks u (record {
    agrees = where_none s.volume.fault well is.agrees;
    inside = inside;
    others = now.others;
    stands = now.stands;
    locks = now.locks;
  })

  -- a place that another has locked keeps its copy
  copy_stays : (now : IsNow disk.image s t p u) (q k j : ℕ) → q ≢ p → grip_of (task s.tasks q) ≡ Some (locked_grip k j) → copy_at t.table.places k ≡ copy_at s.table.places k
  copy_stays now q k j apart has = (now.table.others q k j apart (grip_is s.tasks q ∙ has)).copy

  -- what another has read stays so, with the table as it is now
  looks_other : (now : IsNow disk.image s t p u) → t.table.inode_count ≡ s.table.inode_count → (q : ℕ) (v : TaskState) (a : Stage) → q ≢ p → task s.tasks q ≡ v → v.stage ≡ a → LooksAt new s.table v a → LooksAt new t.table v a
  looks_other now count q v Stage.Nowhere apart is_task at looks = tt
  looks_other now count q v (Stage.Creating m) apart is_task at looks = tt
  looks_other now count q v (Stage.Taking m) apart is_task at looks = subst (λ (n : ℕ). IsTaking n v m) (sym count) looks
  looks_other now count q v (Stage.Reading k m) apart is_task at looks =
      let has : grip_of (task s.tasks q) ≡ Some (locked_grip k (asked_by v.op)) = ap grip_of is_task ∙ ap (λ (a : Stage). grip_by a (asked_by v.op)) at in
      subst (λ (n : ℕ). IsAtRead new n (copy_at t.table.places k) v m) (sym count)
      (subst (λ (c : Option Dinode). IsAtRead new s.table.inode_count c v m) (sym (copy_stays now q k (asked_by v.op) apart has)) looks)
  looks_other now count q v (Stage.Delivering k) apart is_task at looks =
      let has : grip_of (task s.tasks q) ≡ Some (locked_grip k (asked_by v.op)) = ap grip_of is_task ∙ ap (λ (a : Stage). grip_by a (asked_by v.op)) at in
      subst (λ (n : ℕ). HasAllRead new n (copy_at t.table.places k) v) (sym count)
      (subst (λ (c : Option Dinode). HasAllRead new s.table.inode_count c v) (sym (copy_stays now q k (asked_by v.op) apart has)) looks)
  looks_other now count q v (Stage.Truncating k m) apart is_task at looks = subst (λ (n : ℕ). IsTruncating new n v m) (sym count) looks
  looks_other now count q v (Stage.Writing k m) apart is_task at looks = subst (λ (n : ℕ). IsWriting new n v m) (sym count) looks
  looks_other now count q v (Stage.Setting k d m) apart is_task at looks = subst (λ (n : ℕ). IsSetting n v m) (sym count) looks
  looks_other now count q v (Stage.Leaving k) apart is_task at looks = subst (λ (n : ℕ). WasAnswered n v) (sym count) looks

  module _ (stepped : Stepped disk s p i op r t u) where
    -- the files that it stands for then
    held_then : HasFiles new (claims_of t.tasks)
    held_then =
        let then = files_then (FitsFiles disk.image t) (form_of cur) op r were.files.0 (stepped.files were.files.0 (of_fits disk.image s were.files.0 were.files.1)) in
        (then.0, fits_of disk.image t then.0 then.1)

    same_form : form_of new ≡ form_of cur
    same_form = form_same cur new stepped.marks.untouched.super

    -- what they logged counts still
    logged_other : IsNow disk.image s t p u → (q : ℕ) (a : Stage) → q ≢ p → (task s.tasks q).stage ≡ a → LooksAt cur s.table (task s.tasks q) a
        → LoggedAt cur s.volume.log q a → LoggedAt new t.volume.log q a
    logged_other now q Stage.Nowhere apart at looks had = tt
    logged_other now q (Stage.Creating m) apart at looks had = tt
    logged_other now q (Stage.Taking m) apart at looks had = tt
    logged_other now q (Stage.Reading k m) apart at looks had = tt
    logged_other now q (Stage.Delivering k) apart at looks had = tt
    logged_other now q (Stage.Truncating k m) apart at looks had = tt
    logged_other now q (Stage.Writing k m) apart at looks had =
        logged_still cur new s.table s.tasks i were is.numbers stepped.keeps q k m (λ j. stepped.alone q j apart) at looks
        s.volume.log t.volume.log now.others.among (now.others.used q apart) had
    logged_other now q (Stage.Setting k d m) apart at looks had = tt
    logged_other now q (Stage.Leaving k) apart at looks had = tt

    logged_then : IsNow disk.image s t p u → HaveLogged new t.volume.log (set s.tasks p u)
    logged_then now = λ q. ⊎_elim
        (λ (same : q ≡ p). subst (λ (r : ℕ). LoggedAt new t.volume.log r (task (set s.tasks p u) r).stage) (sym same)
        (subst (λ (v : TaskState). LoggedAt new t.volume.log p v.stage) (sym mine) now.logged))
        (λ (apart : q ≢ p). subst (λ (v : TaskState). LoggedAt new t.volume.log q v.stage) (sym (theirs q apart))
        (logged_other now q (task s.tasks q).stage apart refl (were.stand q) (where_none s.volume.fault well is.logged q)))
        (cases_eq q p)

    looking_then : IsNow disk.image s t p u → AreLooking new t.table (set s.tasks p u)
    looking_then now = record {
      files = subst (λ (ts : List TaskState). HasFiles new (claims_of ts)) stepped.tasks held_then;
      table = subst (λ (gs : List (Option Grip)). TableIs t.table gs new) (sym (grips_set s.tasks p u)) now.table.table;
      stand = λ q. ⊎_elim
          (λ (same : q ≡ p). subst (λ (v : TaskState). LooksAt new t.table v v.stage) (sym (ap (task (set s.tasks p u)) same ∙ mine)) now.looks)
          (λ (apart : q ≢ p). subst (λ (v : TaskState). LooksAt new t.table v v.stage) (sym (theirs q apart))
          (looks_other now stepped.count q (task s.tasks q) (task s.tasks q).stage apart refl refl
          (stands_still cur new s.table s.tasks i were is.numbers stepped.keeps q (task s.tasks q).stage (λ k. stepped.alone q k apart) refl (were.stand q))))
          (cases_eq q p);
    }

    -- all that is true of every store
    pub store_stepped : IsStore disk.image t
    store_stepped = record {
      few = let size = ap length stepped.tasks ∙ length-set s.tasks p u in let few = is.few in omega (arith, size, few);
      geometry = held_then.1.geometry;
      numbers = stepped.count ∙ is.numbers ∙ sym stepped.numbers;
      form = stepped.form ∙ is.form ∙ sym same_form;
      agrees = by_fault (fault_of_task r) refl;
      looks = looks_by (fault_of_task r) refl;
      logged = logged_by (fault_of_task r) refl;
    }
      where
        by_fault : (o : Option DeviceFault) → fault_of_task r ≡ o → IfNone t.volume.fault (Agrees t.volume.buffers t.volume.log t.table.inode_count t.tasks)
        by_fault None e = if_none t.volume.fault (subst (λ (ts : List TaskState). Agrees t.volume.buffers t.volume.log t.table.inode_count ts) (sym stepped.tasks)
            (subst (λ (n : ℕ). Agrees t.volume.buffers t.volume.log n (set s.tasks p u)) (sym stepped.count) (agrees_then (stepped.now e))))
        by_fault (Some f) e = if_some (Agrees t.volume.buffers t.volume.log t.table.inode_count t.tasks) t.volume.fault f (stepped.reads.fault ∙ e)

        looks_by : (o : Option DeviceFault) → fault_of_task r ≡ o → IfNone t.volume.fault (AreLooking new t.table t.tasks)
        looks_by None e = if_none t.volume.fault (subst (λ (ts : List TaskState). AreLooking new t.table ts) (sym stepped.tasks) (looking_then (stepped.now e)))
        looks_by (Some f) e = if_some (AreLooking new t.table t.tasks) t.volume.fault f (stepped.reads.fault ∙ e)

        logged_by : (o : Option DeviceFault) → fault_of_task r ≡ o → IfNone t.volume.fault (HaveLogged new t.volume.log t.tasks)
        logged_by None e = if_none t.volume.fault (subst (λ (ts : List TaskState). HaveLogged new t.volume.log ts) (sym stepped.tasks) (logged_then (stepped.now e)))
        logged_by (Some f) e = if_some (HaveLogged new t.volume.log t.tasks) t.volume.fault f (stepped.reads.fault ∙ e)

    -- THE STEP
    pub steps_stepped : Goes disk (task s.tasks p).stage s p op r t → Waits s p r t → LeavesLate s p op r
        → (is_made r ≡ true → is_over (task s.tasks p).stage ≡ false → steps_left new u.stage s.table.inode_count < steps_left cur (task s.tasks p).stage s.table.inode_count)
        → Steps disk s p op r t
    steps_stepped goes waits apart falls = record {
      files = stepped.files;
      goes = goes;
      tasks = record {
        op_stays = ap (λ (v : TaskState). v.op) (ap (λ (ts : List TaskState). task ts p) stepped.tasks ∙ mine) ∙ stepped.op;
        others = λ q other. ap (λ (ts : List TaskState). task ts q) stepped.tasks ∙ theirs q other;
        many = ap length stepped.tasks ∙ length-set s.tasks p u;
        numbers = stepped.count;
        form = stepped.form;
      };
      groups = stepped.groups;
      logs = stepped.logs;
      marks = stepped.marks;
      waits = waits;
      reads = stepped.reads;
      apart = apart;
      shares = shares disk.image s t p i u were is.numbers stepped.tasks stepped.alone stepped.claims stepped.keeps;
      falls = λ made going. subst (λ (v : TaskState). steps_left new v.stage s.table.inode_count < steps_left cur (task s.tasks p).stage s.table.inode_count)
          (sym (ap (λ (ts : List TaskState). task ts p) stepped.tasks ∙ mine)) (falls made going);
    }

  module _ (looked : Looked disk s p i r t u) where
    same_current : new ≡ cur
    same_current = ap (λ (w : Shown). w.current) looked.shown

    same_log : t.volume.log ≡ s.volume.log
    same_log = ap (λ (w : Shown). w.log) looked.shown

    -- what it stood for, it stands for, where of that number too the task holds what it held
    pub files_same : claim_of u i ≡ claim_of (task s.tasks p) i → (files : Files) → FitsFiles disk.image s files → FitsFiles disk.image t files
    files_same same files fits =
        let each : (j : ℕ) → claims_of t.tasks j ≡ claims_of s.tasks j = λ j. ap (λ (ts : List TaskState). claims_of ts j) looked.tasks ∙ claim_stays s.tasks p j u
        (⊎_elim
        (λ (own : j ≡ i). subst (λ (k : ℕ). claim_of u k ≡ claim_of (task s.tasks p) k) (sym own) same)
        (λ (other : j ≢ i). looked.claims j other)
        (cases_eq j i)) in
        of_fits disk.image t files (held_alike files new (claims_of s.tasks) (claims_of t.tasks) each
        (subst (λ (x : Image). FitsHeld files x (claims_of s.tasks)) (sym same_current) (fits_of disk.image s files fits)))

    -- such a step makes no number
    pub stepped_looked : ((files : Files) → FitsFiles disk.image s files → FilesThen (form_of (current_of disk.image s.volume)) op r files (FitsFiles disk.image t))
        → ((j : ℕ) → is_making j (reply_at_turn r) ≡ true → ⊥) → Stepped disk s p i op r t u
    stepped_looked files makes = record {
      tasks = looked.tasks;
      op = looked.op;
      count = looked.count;
      form = looked.form;
      numbers = ap inode_count_of same_current;
      reads = looked.reads;
      groups = subst (λ (l : LogState). SameGroups s.volume.log l) (sym same_log) (groups_same s.volume.log);
      logs = inl same_log;
      marks = subst (λ (x : Image). Marks (reply_at_turn r) cur x) (sym same_current) (marks_same (reply_at_turn r) cur makes);
      files = files;
      alone = looked.alone;
      claims = looked.claims;
      keeps = subst (λ (x : Image). KeepsUsed s.table.inode_count i (claims_of s.tasks) cur x) (sym same_current) (keeps_same s.table.inode_count i (claims_of s.tasks) cur);
      now = looked.now;
    }
