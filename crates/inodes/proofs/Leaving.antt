-- An operation gives up its inode, and is over.
use Rattle.std.proofs.Common.{◌≡◌, ℕ, ◌<◌, true, List, length, set, refl, sym, ◌∙◌, ap, subst, arith, Some, None}
use Rattle.std.specs.Prelude.{IsTrue}
use Rattle.inodes.specs.Common.{after, Answers, AreLooking, asked_by, Bytes, bytes_in, claim_by, claim_of, claims_of, copy_at, current_of, Dinode, false≢true, fault_of_task, Files, FitsHeld, form_of, GatheredBytes, get_or-set_same, Ghosts, GivesUp, Goes, grip, grip_by, grips_of, HasAllRead, HasSlot, Image, inode_count_of, is_made, is_number, IsStore, left, locked_grip, LooksAt, no_task, Op, part_of, Read, resting_tells, set-set, Stage, Steps, steps_left, StoreState, task, TaskProgress, TaskState, Waits}
use Rattle.inodes.specs.Store.{FitsFiles}
use Rattle.model.specs.Layout.{inode_of}
use Rattle.inodes.specs.Lemmas.Faults.{where_none}
use Rattle.inodes.specs.Lemmas.Grips.{kept_by_leave}
use Rattle.inodes.specs.Lemmas.Looks.{copy_is}
use Rattle.inodes.proofs.Getting.{HasOne, has_same, reads_none}
use Rattle.inodes.proofs.Gripping.{grip_is}
use Rattle.inodes.proofs.Looking.{Looked, Stepped, files_same, stepped_looked, store_stepped, steps_stepped}
use Rattle.inodes.proofs.Taking.{none_of_zero}
use Rattle.inodes.specs.Lemmas.Unclaimed.{unclaimed}

-- a task that is over, without bytes
abbrev pub finished : TaskState → TaskState
finished t = record t { stage = Stage.Nowhere; gathered = None }

-- its bytes are taken from it first
pub tasks_finished : (ts : List TaskState) (p : ℕ) → p < length ts
    → (let us : List TaskState = set ts p (record (task ts p) { gathered = None }) in set us p (finished (task us p))) ≡ set ts p (finished (task ts p))
tasks_finished ts p lt =
    let t : TaskState = record (task ts p) { gathered = None } in
    let same : task (set ts p t) p ≡ t = get_or-set_same ts p t no_task lt in
    ap (λ (u : TaskState). set (set ts p t) p (finished u)) same ∙ set-set ts p t (finished t)

module _ {D N : Type 0} (disk : Ghosts D N) (s : StoreState D) (p k : ℕ) (is : IsStore disk.image s) (well : s.volume.fault ≡ None) (inside : p < length s.tasks) where
  abbrev cur : Image
  cur = current_of disk.image s.volume

  abbrev pub store_left : List TaskState → StoreState D
  store_left ts = record { volume = s.volume; tasks = ts; table = left s.table k }

  looking : AreLooking cur s.table s.tasks
  looking = where_none s.volume.fault well is.looks

  module _ (r : TaskProgress) (ts : List TaskState) (tasks : ts ≡ set s.tasks p (finished (task s.tasks p))) (fine : fault_of_task r ≡ None)
      (free : (i : ℕ) → HasSlot (task s.tasks p).stage i → None ≡ Some i) (holds : (j : ℕ) → claim_of (task s.tasks p) j ≡ None) (has : grip (grips_of s.tasks) p ≡ Some (locked_grip k (asked_by (task s.tasks p).op))) where
    one : HasOne s.volume.buffers s.volume.buffers s.volume.log p 0 None
    one = has_same s.volume.buffers s.volume.log s.table.inode_count p s.tasks (where_none s.volume.fault well is.agrees) 0 None free tt

    pub looked : Looked disk s p 0 r (store_left ts) (finished (task s.tasks p))
    looked = record {
      tasks = tasks;
      op = refl;
      count = refl;
      form = refl;
      reads = reads_none disk s (store_left ts) refl well r fine;
      shown = refl;
      alone = λ q j apart locks. none_of_zero cur s.table s.tasks looking q j locks;
      claims = λ j other. sym (holds j);
      now = λ none. record {
        others = one.others;
        locks = one.locks;
        stands = tt;
        table = kept_by_leave s.table (grips_of s.tasks) cur p k (asked_by (task s.tasks p).op) looking.table has;
        looks = tt;
        logged = tt;
      };
    }

    -- the files stay
    files_left : (op : Op) (files : Files) → FitsFiles disk.image s files → FitsFiles disk.image (store_left ts) files
    files_left op files fits = files_same disk s p 0 op r (store_left ts) (finished (task s.tasks p)) is well inside looked (sym (holds 0)) files fits

    over_now : task ts p ≡ finished (task s.tasks p)
    over_now = ap (λ (l : List TaskState). task l p) tasks ∙ get_or-set_same s.tasks p (finished (task s.tasks p)) no_task inside

    gives_up : GivesUp s p k (store_left ts)
    gives_up = record {
      next = ap (λ (t : TaskState). t.stage) over_now;
      gathered = ap (λ (t : TaskState). t.gathered) over_now;
      table = refl;
      volume = refl;
    }

    no_wait : is_made r ≡ true → Waits s p r (store_left ts)
    no_wait made = record {
      sleeping = λ cause waits. absurd (false≢true (sym (ap is_made waits) ∙ made));
      held = λ waits. absurd (false≢true (sym (ap is_made waits) ∙ made));
      inode = λ waits. absurd (false≢true (sym (ap is_made waits) ∙ made));
    }

  -- a reading gives out its bytes
  module _ (stood : (task s.tasks p).stage ≡ Stage.Delivering k) where
    pub all_read : HasAllRead cur s.table.inode_count (copy_at s.table.places k) (task s.tasks p)
    all_read = subst (λ (a : Stage). LooksAt cur s.table (task s.tasks p) a) stood (looking.stand p)

    has_delivering : grip (grips_of s.tasks) p ≡ Some (locked_grip k (asked_by (task s.tasks p).op))
    has_delivering = grip_is s.tasks p ∙ ap (λ (a : Stage). grip_by a (asked_by (task s.tasks p).op)) stood

    free_delivering : (i : ℕ) → HasSlot (task s.tasks p).stage i → None ≡ Some i
    free_delivering i got = subst (λ (a : Stage). HasSlot a i) stood got

    holds_delivering : (j : ℕ) → claim_of (task s.tasks p) j ≡ None
    holds_delivering j = ap (λ (a : Stage). claim_by (task s.tasks p).op a j) stood

    module _ (bytes : GatheredBytes) (had : (task s.tasks p).gathered ≡ Some bytes) (ts : List TaskState) (tasks : ts ≡ set s.tasks p (finished (task s.tasks p))) where
      abbrev answer : TaskProgress
      answer = TaskProgress.Decided (Bytes bytes.bytes)

      same_bytes : bytes.bytes ≡ part_of (bytes_in cur all_read.dinode) all_read.op.offset all_read.op.count
      same_bytes = let same : bytes ≡ all_read.op.gathered = (let e = sym had ∙ all_read.op.has in cc e) in ap (λ (g : GatheredBytes). g.bytes) same ∙ all_read.bytes

      fits_before : (files : Files) → FitsFiles disk.image s files → FitsHeld files cur (claims_of s.tasks)
      unfolding FitsFiles
      fits_before files fits = fits

      files_read : (op : Op) → (task s.tasks p).op ≡ Some op → (files : Files) → FitsFiles disk.image s files → Answers (form_of cur) op (Bytes bytes.bytes) files (FitsFiles disk.image (store_left ts))
      files_read op is_op files fits =
          let i = all_read.op.number in
          let off = all_read.op.offset in
          let n = all_read.op.count in
          let same_op : op ≡ Read i off n = (let e = sym is_op ∙ all_read.op.is in cc e) in
          let number : asked_by (task s.tasks p).op ≡ i = ap asked_by all_read.op.is in
          let known = copy_is cur s.table s.tasks looking p (asked_by (task s.tasks p).op) k all_read.dinode has_delivering all_read.copy in
          let its : inode_of cur i ≡ all_read.dinode = ap (inode_of cur) (sym number) ∙ known.0 in
          let may : IsTrue (is_number (inode_count_of cur) i) = subst (λ (c : ℕ). IsTrue (is_number c i)) is.numbers all_read.op.may.0 in
          let none : claims_of s.tasks i ≡ None = ap (claims_of s.tasks) (sym number) ∙ unclaimed cur s.table s.tasks looking p k (asked_by (task s.tasks p).op) (sym (grip_is s.tasks p) ∙ has_delivering) (holds_delivering (asked_by (task s.tasks p).op)) in
          let tells = (resting_tells files cur (claims_of s.tasks) i (fits_before files fits) (may, λ free. known.1 (ap (λ (d : Dinode). d.kind) (sym its) ∙ free)) none).read off n all_read.op.may.1 in
          let here : bytes.bytes ≡ part_of (bytes_in cur (inode_of cur i)) off n = same_bytes ∙ ap (λ (d : Dinode). part_of (bytes_in cur d) off n) (sym its) in
          (files, ap (λ (q : Op). after (form_of cur) files q (Bytes bytes.bytes)) same_op ∙ ap (λ (l : List ℕ). after (form_of cur) files (Read i off n) (Bytes l)) here ∙ tells, files_left answer ts tasks refl free_delivering holds_delivering has_delivering op files fits)

      delivered : (op : Op) → (task s.tasks p).op ≡ Some op → Stepped disk s p 0 op answer (store_left ts) (finished (task s.tasks p))
      delivered op is_op = stepped_looked disk s p 0 op answer (store_left ts) (finished (task s.tasks p)) is well inside (looked answer ts tasks refl free_delivering holds_delivering has_delivering) (files_read op is_op) (λ i makes. absurd (cc makes))

      pub store_delivered : IsStore disk.image (store_left ts)
      store_delivered =
          let op = Read all_read.op.number all_read.op.offset all_read.op.count in
          store_stepped disk s p 0 op answer (store_left ts) (finished (task s.tasks p)) is well inside (delivered op all_read.op.is)

      pub steps_delivered : (op : Op) → (task s.tasks p).op ≡ Some op → Steps disk s p op answer (store_left ts)
      steps_delivered op is_op = steps_stepped disk s p 0 op answer (store_left ts) (finished (task s.tasks p)) is well inside (delivered op is_op)
          (subst (λ (a : Stage). Goes disk a s p op answer (store_left ts)) (sym stood) (record { bytes = bytes; had = had; gives = refl; up = gives_up answer ts tasks refl free_delivering holds_delivering has_delivering }))
          (no_wait answer ts tasks refl free_delivering holds_delivering has_delivering refl) (λ q other reads. tt)
          (λ made going. subst (λ (a : Stage). 0 < steps_left cur a s.table.inode_count) (sym stood) (omega arith))

  -- an operation that was answered is over
  module _ (stood : (task s.tasks p).stage ≡ Stage.Leaving k) where
    has_leaving : grip (grips_of s.tasks) p ≡ Some (locked_grip k (asked_by (task s.tasks p).op))
    has_leaving = grip_is s.tasks p ∙ ap (λ (a : Stage). grip_by a (asked_by (task s.tasks p).op)) stood

    free_leaving : (i : ℕ) → HasSlot (task s.tasks p).stage i → None ≡ Some i
    free_leaving i got = subst (λ (a : Stage). HasSlot a i) stood got

    holds_leaving : (j : ℕ) → claim_of (task s.tasks p) j ≡ None
    holds_leaving j = ap (λ (a : Stage). claim_by (task s.tasks p).op a j) stood

    pub low_leaving : k < 50
    low_leaving = (looking.table.places p (locked_grip k (asked_by (task s.tasks p).op)) has_leaving).0

    module _ (ts : List TaskState) (tasks : ts ≡ set s.tasks p (finished (task s.tasks p))) where
      over : (op : Op) → Stepped disk s p 0 op TaskProgress.Over (store_left ts) (finished (task s.tasks p))
      over op = stepped_looked disk s p 0 op TaskProgress.Over (store_left ts) (finished (task s.tasks p)) is well inside (looked TaskProgress.Over ts tasks refl free_leaving holds_leaving has_leaving)
          (files_left TaskProgress.Over ts tasks refl free_leaving holds_leaving has_leaving op) (λ i makes. absurd (cc makes))

      pub store_over : IsStore disk.image (store_left ts)
      store_over = store_stepped disk s p 0 (Read 0 0 0) TaskProgress.Over (store_left ts) (finished (task s.tasks p)) is well inside (over (Read 0 0 0))

      pub steps_over : (op : Op) → Steps disk s p op TaskProgress.Over (store_left ts)
      steps_over op = steps_stepped disk s p 0 op TaskProgress.Over (store_left ts) (finished (task s.tasks p)) is well inside (over op)
          (subst (λ (a : Stage). Goes disk a s p op TaskProgress.Over (store_left ts)) (sym stood) (refl, gives_up TaskProgress.Over ts tasks refl free_leaving holds_leaving has_leaving))
          (no_wait TaskProgress.Over ts tasks refl free_leaving holds_leaving has_leaving refl) (λ q other reads. tt)
          (λ made going. subst (λ (a : Stage). 0 < steps_left cur a s.table.inode_count) (sym stood) (omega arith))
