-- An operation in a transaction: it closes no group, for the anchor's operation is open beside it, or,
-- where it looks at a file, it is of no group and ends in none. The disk is only read, and the log
-- gets few homes more.
use Rattle.std.proofs.Common.{◌≡◌, ◌∙◌, ◌⊎◌, ◌+◌, ◌-◌, inl, inr, ℕ, zero, Bool, true, false, List, length, set, Option, Some, None, refl, sym, ap, subst, ⊎_elim, arith, length-set, ◌≤◌}
use Rattle.std.specs.Prelude.{◌==◌, if◌then◌else◌}
use Rattle.std.proofs.lemmas.Bool.{cases_lt}
use Rattle.std.proofs.lemmas.List.{get_or-set_same, get_or_past}
use Rattle.blocks.specs.Calls.{OnlyReads}
use Rattle.blocks.specs.Lemmas.Reads.{reads_none, reads_then}
use Rattle.blocks.specs.declared.disk.Disk.{Ghosts}
use Rattle.model.specs.declared.types.progress.Progress.{Progress}
use Rattle.model.specs.declared.types.progress.Progress.TheVariants as machine
use Rattle.model.specs.declared.types.image.Dinode.{Dinode}
use Rattle.model.specs.declared.types.operations.Op.{Op}
use Rattle.model.specs.declared.types.operations.Op.TheVariants.{Create, Write, Read, Trunc, Remove, Stat, SetAttribute}
use Rattle.model.specs.declared.types.operations.Reply.{Reply}
use Rattle.model.specs.declared.types.operations.TaskProgress.{TaskProgress}
use Rattle.model.specs.declared.types.operations.TaskProgress.TheVariants as progress
use Rattle.model.specs.Journal.{is_at_once}
use Rattle.model.specs.Layout.{inode_of}
use Rattle.wal.specs.Machine.{LogState, SameGroups, begun, closed, end_answer, ended, left_by}
use Rattle.wal.specs.declared.types.Commit.TheVariants as commit
use Rattle.wal.specs.declared.types.Ended.TheVariants as ended_as
use Rattle.inodes.specs.declared.tasks.Stage.{Stage}
use Rattle.inodes.specs.declared.tasks.Stage.TheVariants as stage
use Rattle.inodes.specs.declared.writei.Extent.{Extent}
use Rattle.inodes.specs.Goes.{Goes, TakesInode, stage_of_lock, progress_of_lock}
use Rattle.inodes.specs.LockState.{LockState, place_of}
use Rattle.inodes.specs.Readi.{ReadState, first_read}
use Rattle.inodes.specs.Stages.{is_over}
use Rattle.inodes.specs.Steps.{Steps, LogsAtMost}
use Rattle.inodes.specs.Store.{StoreState, current_of}
use Rattle.inodes.specs.Tasks.{TaskState, no_task, task}
use Rattle.inodes.specs.Turning.{if_used, stage_of_read, stage_when_taken, reply_when_taken}
use Rattle.inodes.specs.Writing.{extent_of, most_logged}
use Rattle.kernel.specs.State.{kind_of}
use Rattle.kernel.specs.declared.class.OpClass.TheVariants as waiting_as
use Rattle.calls.specs.Calls.{is_look}
use Rattle.calls.proofs.Sole.{looks_only}
use Rattle.calls.proofs.Stages.{AfterTurn, Answered, BeforeTurn, Committing, IsKept, IsUnturned, Over, Waits, Where, kind_then}
use Rattle.calls.proofs.Logging.{Grown, grown_begun, grown_ended, grown_on, look_leaves}
use Rattle.model.specs.declared.types.image.Form.{Form}

-- ---- the log

-- so many operations are open in the log's group, and no commit is under way
pub record LogIs (n c o : ℕ) (l : LogState) : Type 0 where
  pub outstanding : l.outstanding ≡ n
  pub quiet : l.commit ≡ commit.Quiet
  pub committed : l.committed ≡ c
  pub opened : l.opened ≡ o

same_groups : (n c o : ℕ) (l m : LogState) → SameGroups l m → LogIs n c o l → LogIs n c o m
same_groups n c o l m same is = record {
  outstanding = same.outstanding ∙ is.outstanding;
  quiet = same.commit ∙ is.quiet;
  committed = same.committed ∙ is.committed;
  opened = same.opened ∙ is.opened;
}

-- a changing operation is none that looks
pub changes_only : (op : Op) (count : Option ℕ) → is_look op ≡ false → kind_of op ≡ waiting_as.Look count → ⊥
changes_only (Create kind) count change is = cc is
changes_only (Write i off bytes) count change is = cc is
changes_only (Read i off m) count change is = cc change
changes_only (Trunc i) count change is = cc is
changes_only (Remove i) count change is = cc is
changes_only (Stat i) count change is = cc change
changes_only (SetAttribute i a) count change is = cc is

-- where two operations are open, the end of one leaves the group open
two_left : (c o : ℕ) (l : LogState) → LogIs 2 c o l → end_answer l ≡ ended_as.Left
two_left c o l is = ap (λ (n : ℕ). if n == 1 then (if length l.homes == 0 then ended_as.Left else ended_as.Commit) else ended_as.Left) is.outstanding

two_ended : (c o p : ℕ) (l : LogState) → LogIs 2 c o l → LogIs 1 c o (ended l p)
two_ended c o p l is =
    let same : ended l p ≡ left_by l p = ap (λ (n : ℕ). if n == 1 then closed (left_by l p) else left_by l p) is.outstanding in
    subst (LogIs 1 c o) (sym same) (record {
      outstanding = ap (λ (n : ℕ). n - 1) is.outstanding;
      quiet = is.quiet;
      committed = is.committed;
      opened = is.opened;
    })

one_begun : (c o p : ℕ) (l : LogState) → LogIs 1 c o l → LogIs 2 c o (begun l p)
one_begun c o p l is = record {
  outstanding = ap (λ (n : ℕ). n + 1) is.outstanding;
  quiet = is.quiet;
  committed = is.committed;
  opened = ap (λ (n : ℕ). if n == 0 then l.opened + 1 else l.opened) is.outstanding ∙ is.opened;
}

-- ---- a task that takes its inode

-- the task takes its inode, or there is none
abbrev IsTaking : Stage → Type 0
IsTaking a = ((m : LockState) × (a ≡ stage.Taking m)) ⊎ (a ≡ stage.Nowhere)

read_on : (k : ℕ) (m : Option ReadState) → is_over (stage_of_read k m) ≡ false
read_on k None = refl
read_on k (Some m) = refl

-- behind the turn of a look its task is not over
goes_on : (e : Extent) (d : Option Dinode) (k : ℕ) (op : Op) → is_look op ≡ true → is_over (stage_when_taken e d k op) ≡ false
goes_on e None k op look = refl
goes_on e (Some d) k (Create kind) look = absurd (cc look)
goes_on e (Some d) k (Write i off bytes) look = absurd (cc look)
goes_on e (Some d) k (Read i off n) look = read_on k (first_read e.form d off n)
goes_on e (Some d) k (Trunc i) look = absurd (cc look)
goes_on e (Some d) k (Remove i) look = absurd (cc look)
goes_on e (Some d) k (Stat i) look = refl
goes_on e (Some d) k (SetAttribute i a) look = absurd (cc look)

taking_first : (m : LockState) (u : TaskState) → u.stage ≡ stage.Taking m → (p : ℕ) (tasks : List TaskState) → IsTaking (task (set tasks p u) p).stage
taking_first m u takes p tasks = ⊎_elim
    (λ within. inl (m, ap (λ (v : TaskState). v.stage) (get_or-set_same tasks p u no_task within) ∙ takes))
    (λ past. inr (ap (λ (v : TaskState). v.stage) (get_or_past (set tasks p u) p no_task (omega (arith, past, length-set tasks p u)))))
    (cases_lt p (length tasks))

module _ {D N : Type 0} (disk : Ghosts D N) (p : ℕ) (op : Op) (look : is_look op ≡ true) (s t : StoreState D) (x : TaskProgress) where
  -- it goes on taking its inode, or has its turn, and is not over then
  abbrev TakesOn : Type 0
  TakesOn = (IsUnturned x × IsTaking (task t.tasks p).stage) ⊎ ((reply : Option Reply) × (x ≡ progress.Turned reply) × (is_over (task t.tasks p).stage ≡ false))

  by_answer : (m : LockState) (takes : TakesInode disk s p op m x t) (answer : Progress Bool) → takes.answer ≡ answer → TakesOn
  by_answer m takes machine.Moved is =
      let moved : x ≡ progress.Moved = takes.gives ∙ ap (progress_of_lock s.table.form (inode_of (current_of disk.image s.volume) m.number) op) is in
      inl ((λ r e. cc (moved, e)), inl (takes.now, takes.next ∙ ap (stage_of_lock (extent_of s.table.form s.table.inode_count s.volume.log.size) (inode_of (current_of disk.image s.volume) m.number) op m takes.now) is))
  by_answer m takes (machine.Sleeping cause) is =
      let asleep : x ≡ progress.Sleeping cause = takes.gives ∙ ap (progress_of_lock s.table.form (inode_of (current_of disk.image s.volume) m.number) op) is in
      inl ((λ r e. cc (asleep, e)), inl (m, takes.next ∙ ap (stage_of_lock (extent_of s.table.form s.table.inode_count s.volume.log.size) (inode_of (current_of disk.image s.volume) m.number) op m takes.now) is))
  by_answer m takes (machine.Fault fault) is =
      let failed : x ≡ progress.Fault fault = takes.gives ∙ ap (progress_of_lock s.table.form (inode_of (current_of disk.image s.volume) m.number) op) is in
      inl ((λ r e. cc (failed, e)), inl (m, takes.next ∙ ap (stage_of_lock (extent_of s.table.form s.table.inode_count s.volume.log.size) (inode_of (current_of disk.image s.volume) m.number) op m takes.now) is))
  by_answer m takes (machine.Over used) is =
      let e = extent_of s.table.form s.table.inode_count s.volume.log.size in
      let d = inode_of (current_of disk.image s.volume) m.number in
      let there : (task t.tasks p).stage ≡ stage_when_taken e (if_used used d) (place_of takes.now.at) op = takes.next ∙ ap (stage_of_lock e d op m takes.now) is in
      inr (reply_when_taken s.table.form (if_used used d) op, takes.gives ∙ ap (progress_of_lock s.table.form d op) is, ap is_over there ∙ goes_on e (if_used used d) (place_of takes.now.at) op look)

  takes_on : Steps disk s p op x t → IsTaking (task s.tasks p).stage → TakesOn
  takes_on steps (inl (m, there)) =
      let goes : Goes disk (stage.Taking m) s p op x t = subst (λ (a : Stage). Goes disk a s p op x t) there steps.goes in
      by_answer m goes.0 goes.0.answer refl
  takes_on steps (inr nowhere) =
      let goes : Goes disk stage.Nowhere s p op x t = subst (λ (a : Stage). Goes disk a s p op x t) nowhere steps.goes in
      inl ((λ r e. cc (goes.0, e)), inr (ap (λ (y : StoreState D). (task y.tasks p).stage) goes.1 ∙ nowhere))

-- ---- the operation

module _ {D N : Type 0} (disk : Ghosts D N) (p : ℕ) (op : Op) (old : StoreState D) (c o : ℕ) (positive : o ≡ c + 1) (open_one : LogIs 1 c o old.volume.log) where
  -- so many operations are open in the group of before, and the disk was only read
  pub record HasOpen (n : ℕ) (s : StoreState D) : Type 0 where
    pub log : LogIs n c o s.volume.log
    pub reads : OnlyReads disk old.volume.device s.volume.device
    pub form : s.table.form ≡ old.table.form

  -- the log's homes of before, and what the operation may log
  abbrev had : ℕ
  had = length old.volume.log.homes

  abbrev most : ℕ
  most = most_logged old.table.form op

  abbrev Grows : StoreState D → Type 0
  Grows s = Grown most had p s.volume.log

  abbrev HasFew : ℕ → StoreState D → Type 0
  HasFew n s = length s.volume.log.homes ≤ had + n

  -- nothing is done while the operation waits; its own is open beside the anchor's, unless it looks
  abbrev pub Inside : Bool → Where → StoreState D → Type 0
  Inside look Waits s = s ≡ old
  Inside true (BeforeTurn g) s = (g ≡ 0) × HasOpen 1 s × HasFew 0 s × IsTaking (task s.tasks p).stage
  Inside true (AfterTurn g r) s = (g ≡ 0) × HasOpen 1 s × HasFew 0 s
  Inside true (Over g r) s = ⊥
  Inside false (BeforeTurn g) s = (g ≡ o) × HasOpen 2 s × Grows s
  Inside false (AfterTurn g r) s = (g ≡ o) × HasOpen 2 s × Grows s
  Inside false (Over g r) s = (g ≡ o) × HasOpen 2 s × Grows s
  Inside look (Committing r) s = ⊥
  Inside look (Answered r) s = HasOpen 1 s × HasFew most s

  first : (s : StoreState D) → s ≡ old → HasOpen 1 s
  first s same = subst (HasOpen 1) (sym same) (record { log = open_one; reads = reads_none disk old.volume.device; form = refl })

  few_first : (n : ℕ) (s : StoreState D) → s ≡ old → HasFew n s
  few_first n s same = let homes = ap (λ (y : StoreState D). length y.volume.log.homes) same in omega (arith, homes)

  on : (n : ℕ) (s t : StoreState D) (x : TaskProgress) → Steps disk s p op x t → HasOpen n s → HasOpen n t
  on n s t x steps was = record {
    log = same_groups n c o s.volume.log t.volume.log steps.groups was.log;
    reads = reads_then disk old.volume.device s.volume.device t.volume.device was.reads steps.reads.device;
    form = steps.tasks.form ∙ was.form;
  }

  logs_few : (n : ℕ) (s t : StoreState D) (x : TaskProgress) → Steps disk s p op x t → HasOpen n s → LogsAtMost most s.volume.log p t.volume.log
  logs_few n s t x steps was = subst (λ (f : Form). LogsAtMost (most_logged f op) s.volume.log p t.volume.log) was.form steps.logs

  grows : (n : ℕ) (s t : StoreState D) (x : TaskProgress) → Steps disk s p op x t → HasOpen n s → Grows s → Grows t
  grows n s t x steps was grown = grown_on most had p s.volume.log t.volume.log (logs_few n s t x steps was) grown

  none_zero : zero ≡ o → ⊥
  none_zero is = absurd (omega (arith, is, positive))

  changing_kept : is_look op ≡ false → IsKept disk p op (Inside false)
  changing_kept change = record {
    begins = λ s kind same.
        let was = first s same in
        let two = one_begun c o p s.volume.log was.log in
        (two.opened, record { log = two; reads = was.reads; form = was.form }, grown_begun most had p s.volume.log (let few = few_first 0 s same in omega (arith, few)));
    looks = λ s count kind same. absurd (changes_only op count change (kind_then (is_at_once s.table.inode_count op) (kind_of op) (waiting_as.Look count) (λ e. cc e) kind).1);
    refused = λ s same. (first s same, few_first most s same);
    works = λ g s t x unturned steps was. (was.0, on 2 s t x steps was.1, grows 2 s t x steps was.1 was.2);
    turns = λ g s t r steps was. (was.0, on 2 s t (progress.Turned r) steps was.1, grows 2 s t (progress.Turned r) steps was.1 was.2);
    turns_over = λ g s t r over steps was. (was.0, on 2 s t (progress.Turned r) steps was.1, grows 2 s t (progress.Turned r) steps was.1 was.2);
    goes = λ g s t r x going steps was. (was.0, on 2 s t x steps was.1, grows 2 s t x steps was.1 was.2);
    decides = λ g s t r reply untold steps was. (was.0, on 2 s t (progress.Decided reply) steps was.1, grows 2 s t (progress.Decided reply) steps was.1 was.2);
    ends = λ g s t r steps was. (was.0, on 2 s t progress.Over steps was.1, grows 2 s t progress.Over steps was.1 was.2);
    decides_alone = λ s t r reply untold steps was. absurd (none_zero was.0);
    ends_alone = λ s t r steps was. absurd (none_zero was.0);
    leaves = λ g s r was. (record { log = two_ended c o p s.volume.log was.1.log; reads = was.1.reads; form = was.1.form }, grown_ended most had p s.volume.log was.2);
    closes = λ g s r commits was. (let both = sym commits ∙ two_left c o s.volume.log was.1.log in cc both);
    commits = λ s t r x commits none. none;
    committed = λ s r none. absurd none;
  }

  module _ (look : is_look op ≡ true) where
    takes_still : (s t : StoreState D) (x : TaskProgress) → IsUnturned x → Steps disk s p op x t → IsTaking (task s.tasks p).stage → IsTaking (task t.tasks p).stage
    takes_still s t x unturned steps taking = ⊎_elim (λ still. still.1) (λ turned. absurd (unturned turned.0 turned.1)) (takes_on disk p op look s t x steps taking)

    stays : (n : ℕ) (s t : StoreState D) (x : TaskProgress) → Steps disk s p op x t → HasOpen n s → HasFew 0 s → HasFew 0 t
    stays n s t x steps was few =
        let less = look_leaves old.table.form op had p s.volume.log t.volume.log look (logs_few n s t x steps was) (omega (arith, few)) in
        omega (arith, less)

    fewer : (s : StoreState D) → HasFew 0 s → HasFew most s
    fewer s few = omega (arith, few)

    never_over : (s t : StoreState D) (r : Option Reply) → is_over (task t.tasks p).stage ≡ true → Steps disk s p op (progress.Turned r) t → IsTaking (task s.tasks p).stage → ⊥
    never_over s t r over steps taking = ⊎_elim (λ still. still.0 r refl) (λ turned. (let both = sym turned.2 ∙ over in cc both)) (takes_on disk p op look s t (progress.Turned r) steps taking)

    looking_kept : IsKept disk p op (Inside true)
    looking_kept = record {
      begins = λ s kind same. absurd (looks_only op look (kind_then (is_at_once s.table.inode_count op) (kind_of op) waiting_as.Change (λ e. cc e) kind).1);
      looks = λ s count kind same. let was = first s same in (refl, record { log = was.log; reads = was.reads; form = was.form }, few_first 0 s same, taking_first _ _ refl p s.tasks);
      refused = λ s same. (first s same, few_first most s same);
      works = λ g s t x unturned steps was. (was.0, on 1 s t x steps was.1, stays 1 s t x steps was.1 was.2, takes_still s t x unturned steps was.3);
      turns = λ g s t r steps was. (was.0, on 1 s t (progress.Turned r) steps was.1, stays 1 s t (progress.Turned r) steps was.1 was.2);
      turns_over = λ g s t r over steps was. never_over s t r over steps was.3;
      goes = λ g s t r x going steps was. (was.0, on 1 s t x steps was.1, stays 1 s t x steps was.1 was.2);
      decides = λ g s t r reply untold steps was. (was.0, on 1 s t (progress.Decided reply) steps was.1, stays 1 s t (progress.Decided reply) steps was.1 was.2);
      ends = λ g s t r steps was. (let no = was.0 in cc no);
      decides_alone = λ s t r reply untold steps was. (on 1 s t (progress.Decided reply) steps was.1, fewer t (stays 1 s t (progress.Decided reply) steps was.1 was.2));
      ends_alone = λ s t r steps was. (on 1 s t progress.Over steps was.1, fewer t (stays 1 s t progress.Over steps was.1 was.2));
      leaves = λ g s r none. absurd none;
      closes = λ g s r commits none. none;
      commits = λ s t r x commits none. none;
      committed = λ s r none. absurd none;
    }

  pub inside_kept : (look : Bool) → is_look op ≡ look → IsKept disk p op (Inside look)
  inside_kept true is = looking_kept is
  inside_kept false is = changing_kept is

  -- the group stays open, and no commit is under way
  pub still_open : (look : Bool) (stand : Where) (s : StoreState D) → Inside look stand s → (n : ℕ) × HasOpen n s
  still_open look Waits s same = (1, first s same)
  still_open true (BeforeTurn g) s was = (1, was.1)
  still_open true (AfterTurn g r) s was = (1, was.1)
  still_open true (Over g r) s none = absurd none
  still_open false (BeforeTurn g) s was = (2, was.1)
  still_open false (AfterTurn g r) s was = (2, was.1)
  still_open false (Over g r) s was = (2, was.1)
  still_open look (Committing r) s none = absurd none
  still_open look (Answered r) s was = (1, was.0)
