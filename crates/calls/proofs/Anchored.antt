-- What the anchor's operation leaves of the image that all see: it is refused at its turn, so none of its
-- steps changes it, and its commit changes the log alone.
use Rattle.std.proofs.Common.{◌≡◌, ◌∙◌, ◌⊎◌, ◌+◌, inl, inr, ℕ, Bool, true, false, Option, Some, None, refl, ap, subst, ⊎_elim}
use Rattle.std.specs.Prelude.{nat_lt, if◌then◌else◌}
use Rattle.blocks.specs.Disk.{Image, block_at}
use Rattle.blocks.specs.declared.disk.Disk.{Ghosts}
use Rattle.model.specs.Agreement.{is_outside_log}
use Rattle.model.specs.Layout.{greatest_size, inode_of}
use Rattle.model.specs.declared.types.image.Dinode.{Dinode}
use Rattle.model.specs.declared.types.image.Form.{Form}
use Rattle.model.specs.declared.types.image.Form.TheVariants.{One, Two}
use Rattle.model.specs.declared.types.operations.Reply.{Reply}
use Rattle.model.specs.declared.types.operations.Reply.TheVariants.{BadOffset, TooBig}
use Rattle.model.specs.declared.types.operations.TaskProgress.{TaskProgress}
use Rattle.model.specs.declared.types.operations.TaskProgress.TheVariants as progress
use Rattle.model.specs.declared.types.progress.Progress.{Progress}
use Rattle.model.specs.declared.types.progress.Progress.TheVariants as machine
use Rattle.inodes.specs.Goes.{Goes, Shown, TakesInode, progress_of_lock, stage_of_lock}
use Rattle.inodes.specs.LockState.{LockState, place_of}
use Rattle.inodes.specs.Steps.{Steps}
use Rattle.inodes.specs.Store.{StoreState, current_of}
use Rattle.inodes.specs.Tasks.{task}
use Rattle.inodes.specs.Turning.{if_used, reply_when_taken, stage_by_refusal, stage_when_taken}
use Rattle.inodes.specs.Writei.{first_write}
use Rattle.inodes.specs.Writing.{extent_of}
use Rattle.inodes.specs.declared.tasks.Stage.{Stage}
use Rattle.inodes.specs.declared.tasks.Stage.TheVariants as stage
use Rattle.inodes.specs.declared.writei.Extent.{Extent}
use Rattle.calls.specs.Transactions.{anchor}
use Rattle.calls.proofs.Stages.{AfterTurn, Answered, BeforeTurn, Committing, IsKept, IsUnturned, Over, Waits, Where}

-- its task takes its inode, or there is none
abbrev IsTaking : Stage → Type 0
IsTaking a = ((m : LockState) × (a ≡ stage.Taking m)) ⊎ (a ≡ stage.Nowhere)

-- or it gives it up
abbrev IsLeaving : Stage → Type 0
IsLeaving a = ((k : ℕ) × (a ≡ stage.Leaving k)) ⊎ (a ≡ stage.Nowhere)

-- a write that is too far behind goes nowhere but back
refused_stage : (e : Extent) (d : Option Dinode) (k : ℕ) → stage_when_taken e d k anchor ≡ stage.Leaving k
refused_stage e None k = refl
refused_stage e (Some d) k = by_size (nat_lt d.size 4294967295) e.form
  where
    by_size : (b : Bool) (form : Form) → stage_by_refusal k (first_write 1 d 4294967295 0 e) (if b then Some BadOffset else if nat_lt (greatest_size form) (4294967295 + 0) then Some TooBig else None) ≡ stage.Leaving k
    by_size true form = refl
    by_size false One = refl
    by_size false Two = refl

module _ {D N : Type 0} (disk : Ghosts D N) (cur : Image) where
  -- outside the log all see image `cur`
  abbrev pub IsSameSeen : StoreState D → Type 0
  IsSameSeen s = (b : ℕ) → is_outside_log b ≡ true → block_at (current_of disk.image s.volume) b ≡ block_at cur b

  abbrev pub Anchored : Where → StoreState D → Type 0
  Anchored Waits s = ⊥
  Anchored (BeforeTurn g) s = IsSameSeen s × IsTaking (task s.tasks 1).stage
  Anchored (AfterTurn g r) s = IsSameSeen s × IsLeaving (task s.tasks 1).stage
  Anchored (Over g r) s = IsSameSeen s
  Anchored (Committing r) s = IsSameSeen s
  Anchored (Answered r) s = IsSameSeen s

  seen_still : (s t : StoreState D) → current_of disk.image t.volume ≡ current_of disk.image s.volume → IsSameSeen s → IsSameSeen t
  seen_still s t same was b out = ap (λ (y : Image). block_at y b) same ∙ was b out

  module _ (s t : StoreState D) (x : TaskProgress) (steps : Steps disk s 1 anchor x t) where
    -- it goes on taking its inode, or has its turn, and then gives it up
    abbrev TakesOn : Type 0
    TakesOn = (IsUnturned x × IsTaking (task t.tasks 1).stage) ⊎ (((reply : Option Reply) × (x ≡ progress.Turned reply)) × IsLeaving (task t.tasks 1).stage)

    takes_on : IsSameSeen s → IsTaking (task s.tasks 1).stage → IsSameSeen t × TakesOn
    takes_on was (inl (m, there)) =
        let goes : Goes disk (stage.Taking m) s 1 anchor x t = subst (λ (a : Stage). Goes disk a s 1 anchor x t) there steps.goes in
        (seen_still s t (ap (λ (v : Shown). v.current) goes.1) was, by_answer m goes.0 goes.0.answer refl)
      where
        by_answer : (m : LockState) (takes : TakesInode disk s 1 anchor m x t) (answer : Progress Bool) → takes.answer ≡ answer → TakesOn
        by_answer m takes machine.Moved is =
            let e = extent_of s.table.form s.table.inode_count s.volume.log.size in
            let d = inode_of (current_of disk.image s.volume) m.number in
            let moved : x ≡ progress.Moved = takes.gives ∙ ap (progress_of_lock s.table.form d anchor) is in
            inl ((λ r e. cc (moved, e)), inl (takes.now, takes.next ∙ ap (stage_of_lock e d anchor m takes.now) is))
        by_answer m takes (machine.Sleeping cause) is =
            let e = extent_of s.table.form s.table.inode_count s.volume.log.size in
            let d = inode_of (current_of disk.image s.volume) m.number in
            let asleep : x ≡ progress.Sleeping cause = takes.gives ∙ ap (progress_of_lock s.table.form d anchor) is in
            inl ((λ r e. cc (asleep, e)), inl (m, takes.next ∙ ap (stage_of_lock e d anchor m takes.now) is))
        by_answer m takes (machine.Fault fault) is =
            let e = extent_of s.table.form s.table.inode_count s.volume.log.size in
            let d = inode_of (current_of disk.image s.volume) m.number in
            let failed : x ≡ progress.Fault fault = takes.gives ∙ ap (progress_of_lock s.table.form d anchor) is in
            inl ((λ r e. cc (failed, e)), inl (m, takes.next ∙ ap (stage_of_lock e d anchor m takes.now) is))
        by_answer m takes (machine.Over used) is =
            let e = extent_of s.table.form s.table.inode_count s.volume.log.size in
            let d = inode_of (current_of disk.image s.volume) m.number in
            inr ((reply_when_taken s.table.form (if_used used d) anchor, takes.gives ∙ ap (progress_of_lock s.table.form d anchor) is), inl (place_of takes.now.at, takes.next ∙ ap (stage_of_lock e d anchor m takes.now) is ∙ refused_stage e (if_used used d) (place_of takes.now.at)))
    takes_on was (inr nowhere) =
        let goes : Goes disk stage.Nowhere s 1 anchor x t = subst (λ (a : Stage). Goes disk a s 1 anchor x t) nowhere steps.goes in
        (seen_still s t (ap (λ (y : StoreState D). current_of disk.image y.volume) goes.1) was, inl ((λ r e. cc (goes.0, e)), inr (ap (λ (y : StoreState D). (task y.tasks 1).stage) goes.1 ∙ nowhere)))

    -- who gives it up is over with this step
    gives_up : IsSameSeen s → IsLeaving (task s.tasks 1).stage → (x ≡ progress.Over) × IsSameSeen t
    gives_up was (inl (k, there)) =
        let goes : Goes disk (stage.Leaving k) s 1 anchor x t = subst (λ (a : Stage). Goes disk a s 1 anchor x t) there steps.goes in
        (goes.0, seen_still s t (ap (λ v. current_of disk.image v) goes.1.volume) was)
    gives_up was (inr nowhere) =
        let goes : Goes disk stage.Nowhere s 1 anchor x t = subst (λ (a : Stage). Goes disk a s 1 anchor x t) nowhere steps.goes in
        (goes.0, seen_still s t (ap (λ (y : StoreState D). current_of disk.image y.volume) goes.1) was)

  turned : (s t : StoreState D) (r : Option Reply) → Steps disk s 1 anchor (progress.Turned r) t → IsSameSeen s × IsTaking (task s.tasks 1).stage → IsSameSeen t × IsLeaving (task t.tasks 1).stage
  turned s t r steps (was, taking) =
      let on = takes_on s t (progress.Turned r) steps was taking in
      (on.0, ⊎_elim (λ still. absurd (still.0 r refl)) (λ leaving. leaving.1) on.1)

  works_on : (s t : StoreState D) (x : TaskProgress) → IsUnturned x → Steps disk s 1 anchor x t → IsSameSeen s × IsTaking (task s.tasks 1).stage → IsSameSeen t × IsTaking (task t.tasks 1).stage
  works_on s t x unturned steps (was, taking) =
      let on = takes_on s t x steps was taking in
      (on.0, ⊎_elim (λ still. still.1) (λ turned. absurd (unturned turned.0.0 turned.0.1)) on.1)

  pub anchored_kept : IsKept disk 1 anchor Anchored
  anchored_kept = record {
    begins = λ s kind none. absurd none;
    looks = λ s count kind none. absurd none;
    refused = λ s none. absurd none;
    works = λ g. works_on;
    turns = λ g. turned;
    turns_over = λ g s t r over steps was. (turned s t r steps was).0;
    goes = λ g s t r x going steps was. absurd (going.1 (gives_up s t x steps was.0 was.1).0);
    decides = λ g s t r reply untold steps was. (let no = (gives_up s t (progress.Decided reply) steps was.0 was.1).0 in absurd (cc no));
    ends = λ g s t r steps was. (gives_up s t progress.Over steps was.0 was.1).1;
    decides_alone = λ s t r reply untold steps was. (let no = (gives_up s t (progress.Decided reply) steps was.0 was.1).0 in absurd (cc no));
    ends_alone = λ s t r steps was. (gives_up s t progress.Over steps was.0 was.1).1;
    leaves = λ g s r was. was;
    closes = λ g s r commits was. was;
    commits = λ s t r x commits was b out. commits.volume.current.agree b out ∙ was b out;
    committed = λ s r was. was;
  }
