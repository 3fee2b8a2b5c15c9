-- How many steps the tasks of a store have left, at most. A step of another process, or of a commit,
-- leaves them.
use Rattle.std.proofs.Common.{◌≡◌, ◌≢◌, ℕ, ◌+◌, ◌≤◌, List, cond, eqb, length, refl, sym, ◌∙◌, ap, subst, arith, Option, Some, None}
use Rattle.std.specs.Prelude.{IsTrue}
use Rattle.inodes.specs.Common.{AreLooking, between, block_at, claims_of, current_of, DiskFault, facts_of, few_left, Form, form_of, Freeing, frees, FreesOn, Ghosts, Goes, Got, held_of, held_outside, Image, inode_count_of, is_number, IsHeldIn, IsSameOutsideLog, locks_left, magic_of, most_behind, most_left, now_of, One, Op, Progress, progress_of_trunc, SameShare, Stage, Steps, steps_left, StoreState, TableState, task, TaskProgress, TaskState, Truncates, Two, u32_at}
use Rattle.model.specs.Layout.{inode_of}
use Rattle.in_flight.specs.Held.{blocks_left}
use Rattle.in_flight.specs.Lemmas.GivenUp as given_up
use Rattle.inodes.specs.Lemmas.Bounds.{few_steps}
use Rattle.inodes.specs.Lemmas.Freeing.{IsDone, use_done}
use Rattle.inodes.specs.Lemmas.Looks.{trunc_locks, trunc_names}
use Rattle.inodes.specs.Lemmas.Unclaimed.{own_claim}

-- the form that an image's first number says
abbrev form_by : List ℕ → Form
form_by bytes = cond (eqb (u32_at bytes 0) (magic_of Two)) Two One

-- images that have the form, and what a task has to give up, leave it the same steps
steps_same : (x y : Image) (a : Stage) (n : ℕ) → block_at y 1 ≡ block_at x 1 →
    ((k : ℕ) (m : Freeing) → a ≡ Stage.Truncating k m → blocks_left y (held_of m.machine) ≡ blocks_left x (held_of m.machine)) →
    steps_left y a n ≡ steps_left x a n
steps_same x y Stage.Nowhere n same blocks = refl
steps_same x y (Stage.Creating m) n same blocks = refl
steps_same x y (Stage.Taking m) n same blocks = ap (λ (b : List ℕ). locks_left m.at + (most_behind (form_by b) + 1)) same
steps_same x y (Stage.Reading k m) n same blocks = refl
steps_same x y (Stage.Delivering k) n same blocks = refl
steps_same x y (Stage.Truncating k m) n same blocks =
    omega (arith, (blocks k m refl))
steps_same x y (Stage.Writing k m) n same blocks = refl
steps_same x y (Stage.Setting k d u) n same blocks = refl
steps_same x y (Stage.Leaving k) n same blocks = refl

-- in a store that agrees with its image
module _ (x : Image) (table : TableState) (ts : List TaskState) (looks : AreLooking x table ts) (numbers : table.inode_count ≡ inode_count_of x) where
  held_in : (p k : ℕ) (m : Freeing) → (task ts p).stage ≡ Stage.Truncating k m →
      IsHeldIn looks.files.0 x (claims_of ts) m.machine.number (frees (held_of m.machine))
  held_in p k m stands = record {
    fits = looks.files.1;
    number = subst (λ (n : ℕ). IsTrue (is_number n m.machine.number)) numbers (trunc_names x table ts looks p k m stands);
    holds = own_claim x table ts looks p k m stands;
  }

  few_blocks : (p k : ℕ) (m : Freeing) → (task ts p).stage ≡ Stage.Truncating k m →
      blocks_left x (held_of m.machine) ≤ most_left (form_of x)
  few_blocks p k m stands =
      few_left looks.files.0 x (claims_of ts) m.machine.number (held_of m.machine) (held_in p k m stands)

  -- any task of it has few steps left
  pub few_in_task : (p : ℕ) → steps_left x (task ts p).stage table.inode_count ≤ most_behind (form_of x) + 5
  few_in_task p =
      let few = (facts_of x looks.files.1.geometry).few in
      few_steps x table (task ts p) (task ts p).stage (omega (arith, few, numbers)) (looks.stand p) (λ k m stands. few_blocks p k m stands)

  -- a number that a task frees has a used inode
  freed_used : (p k : ℕ) (m : Freeing) → (task ts p).stage ≡ Stage.Truncating k m →
      (inode_of x m.machine.number).kind ≢ 0
  freed_used p k m stands free =
      let is = given_up.held_of looks.files.0 x (claims_of ts) m.machine.number (held_of m.machine) (held_in p k m stands) in
      is.used (sym is.same_kind ∙ free)

  -- outside the log the image stays, and so do the steps that each task has left
  pub left_outside : (y : Image) (p : ℕ) → IsSameOutsideLog x y →
      steps_left y (task ts p).stage table.inode_count ≡ steps_left x (task ts p).stage table.inode_count
  left_outside y p same = steps_same x y (task ts p).stage table.inode_count (same.agree 1 refl)
      (λ k m stands.
      let held = held_in p k m stands in
      let low = (between x m.machine.number held.number).low in
      ap length ((held_outside looks.files.0 x y (claims_of ts) same looks.files.1).held m.machine.number (frees (held_of m.machine)) (λ (zero : m.machine.number ≡ 0). omega (arith, low, zero)) held.number held.holds).names)

-- A step of process p leaves each other task the steps that it has left.
pub others_left : {D N : Type 0} (disk : Ghosts D N) (s : StoreState D) (p : ℕ) (op : Op) (r : TaskProgress) (t : StoreState D) →
    AreLooking (current_of disk.image s.volume) s.table s.tasks → s.table.inode_count ≡ inode_count_of (current_of disk.image s.volume) →
    Steps disk s p op r t → (q : ℕ) → q ≢ p →
    steps_left (current_of disk.image t.volume) (task t.tasks q).stage s.table.inode_count
    ≡ steps_left (current_of disk.image s.volume) (task s.tasks q).stage s.table.inode_count
others_left disk s p op r t looks numbers steps q apart =
    let x = current_of disk.image s.volume in
    let y = current_of disk.image t.volume in
    ap (λ (u : TaskState). steps_left y u.stage s.table.inode_count) (steps.tasks.others q apart)
    ∙ steps_same x y (task s.tasks q).stage s.table.inode_count steps.marks.untouched.super
    (λ k m stands.
    let shares = steps.shares q k m.machine.number apart (trunc_locks x s.table s.tasks looks q k m stands)
    (freed_used x s.table s.tasks looks numbers q k m stands) in
    ap length (subst (SameShare x y m.machine.number) (own_claim x s.table s.tasks looks q k m stands) shares.same))

-- and one that failed leaves that process its own
pub failed_left : {D N : Type 0} (disk : Ghosts D N) (s : StoreState D) (p : ℕ) (op : Op) (fault : DiskFault) (t : StoreState D) →
    Steps disk s p op (TaskProgress.Fault fault) t →
    steps_left (current_of disk.image t.volume) (task s.tasks p).stage s.table.inode_count
    ≡ steps_left (current_of disk.image s.volume) (task s.tasks p).stage s.table.inode_count
failed_left disk s p op fault t steps =
    steps_same (current_of disk.image s.volume) (current_of disk.image t.volume) (task s.tasks p).stage s.table.inode_count
    steps.marks.untouched.super
    (λ k m stands. ap (λ (x : Image). blocks_left x (held_of m.machine))
    (still k m (subst (λ (a : Stage). Goes disk a s p op (TaskProgress.Fault fault) t) stands steps.goes)))
  where
    -- it got no block, and did nothing
    still : (k : ℕ) (m : Freeing) → Truncates disk s p k m (TaskProgress.Fault fault) t → current_of disk.image t.volume ≡ current_of disk.image s.volume
    still k m goes = by_used (now_of m) goes.steps
      where
        never : (r : Progress (Unit {0})) → IsDone r → TaskProgress.Fault fault ≡ progress_of_trunc r → ⊥
        never Progress.Moved done is = cc is
        never (Progress.Sleeping cause) done is = done
        never (Progress.Over out) done is = cc is
        never (Progress.Fault other) done is = done

        by_used : (o : Option Got) → FreesOn disk o s.volume p m goes.answer goes.now t.volume →
            current_of disk.image t.volume ≡ current_of disk.image s.volume
        by_used None steps = steps.gets.reads.current
        by_used (Some g) steps = absurd (never _ (use_done m.machine.at) (goes.gives ∙ ap progress_of_trunc steps.answer))
