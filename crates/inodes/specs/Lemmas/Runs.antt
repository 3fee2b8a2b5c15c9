-- What runs of a task's steps come to, and what those of a creation saw.
use Rattle.std.proofs.Common.{◌≡◌, ◌≢◌, ℕ, suc, ◌≤◌, ltb, List, [], ◌∷◌, Option, Some, None, refl, sym, ◌∙◌, ap, subst, ⊎_elim, arith}
use Rattle.std.specs.Prelude.{IsTrue, is_some}
use Rattle.std.specs.List.{Any}
use Rattle.inodes.specs.Common.{asked, at_next_block, both_of, cases_eq, Create, first_stage, first_taking, free_at, get_or-set_other, Ghosts, Goes, GoesFrom, inode_block, is_number, IsTurn, ltb-true, no_task, Op, reply_of, SearchState, Shown, shown_of, Stage, Steps, StoreState, TableState, task, TaskProgress, TaskState}
use Rattle.inodes.specs.Runs.{StepMade, LeavesTask, IsRun, EndsWith, IsSearchRun, SeesTaken, WasSeenTaken, NoInodeSawAll, MadeSawLower, StepsLeaveOthers, CommitsLeaveAll, BoundsLeaveOthers}
use Rattle.inodes.specs.Lemmas.Looks.{IsPassedBy, taken_by_look}

-- a search that had its turn passed by a number: a look found this, and its block is not before
-- that of the number
abbrev IsPast : ℕ → SearchState → ℕ → Option ℕ → Shown → Type 0
IsPast n m j o before = (free_at before.current n m ≡ o) × (inode_block j ≤ m.block)

past_at_turn : (n p j : ℕ) (m : SearchState) (o : Option ℕ) (before now : Shown) →
    IsTrue (is_number n j) → IsPassedBy o j → IsTurn n p m (Some (reply_of o)) before now →
    IsPast n m j o before
past_at_turn n p j m None before now number passed is =
    (is.1.none, omega (arith, is.0, (ltb-true j n (both_of (ltb 0 j) (ltb j n) number).1)))
past_at_turn n p j m (Some i) before now number passed is =
    (is.lowest, omega (arith, is.place, passed))

-- a step of a run is one that does so, where the first is or a later one
pub seen_first : {D : Type 0} (P : StepMade D → Type 0) (step : StepMade D)
    (rest : List (StepMade D)) → P step → Any P (step ∷ rest)
seen_first P step rest is = (0, step, omega arith, refl, is)

pub seen_later : {D : Type 0} (P : StepMade D → Type 0) (step : StepMade D)
    (rest : List (StepMade D)) → Any P rest → Any P (step ∷ rest)
seen_later P step rest is = (suc is.0, is.1, omega (arith, is.2), is.3, is.4)

-- the task of process p stands there
abbrev pub IsAt : {D : Type 0} → ℕ → StoreState D → Stage → Type 0
IsAt p s a = (task s.tasks p).stage ≡ a

module _ {D N : Type 0} (disk : Ghosts D N) (p : ℕ) (op : Op) where
  -- the step of a run, from where its task stands
  pub record GoesOn (step : StepMade D) (a : Stage) : Type 0 where
    pub goes : Goes disk a step.before p op step.answer step.after
    pub here : IsAt p step.before a

  pub goes_from : (s : StoreState D) (step : StepMade D) (a : Stage) → IsAt p s a →
      LeavesTask s p step.before → Steps disk step.before p op step.answer step.after →
      GoesOn step a
  goes_from s step a stands leaves steps =
      let here : IsAt p step.before a = ap (λ (t : TaskState). t.stage) leaves.own ∙ stands in
      record {
        goes = subst (λ (b : Stage). Goes disk b step.before p op step.answer step.after) here
            steps.goes;
        here = here;
      }

  module _ (reply : TaskProgress) (apart : reply ≢ TaskProgress.Over) where
    -- who stands nowhere answers nothing more
    pub nothing_more : (steps : List (StepMade D)) (s : StoreState D) → IsAt p s Stage.Nowhere →
        IsRun disk p op s steps → EndsWith steps reply → ⊥
    nothing_more [] s stands run ends = ends
    nothing_more (step ∷ []) s stands run ends =
        apart (sym ends ∙ (goes_from s step Stage.Nowhere stands run.0 run.1).goes.0)
    nothing_more (step ∷ next ∷ rest) s stands run ends =
        let on = goes_from s step Stage.Nowhere stands run.0 run.1 in
        nothing_more (next ∷ rest) step.after (ap (λ (t : StoreState D). (task t.tasks p).stage) on.goes.1 ∙ on.here) run.2 ends

    -- nor does who gives up its inode next
    pub nothing_behind : (steps : List (StepMade D)) (s : StoreState D) (k : ℕ) →
        IsAt p s (Stage.Leaving k) → IsRun disk p op s steps → EndsWith steps reply → ⊥
    nothing_behind [] s k stands run ends = ends
    nothing_behind (step ∷ []) s k stands run ends =
        apart (sym ends ∙ (goes_from s step (Stage.Leaving k) stands run.0 run.1).goes.0)
    nothing_behind (step ∷ next ∷ rest) s k stands run ends =
        nothing_more (next ∷ rest) step.after (goes_from s step (Stage.Leaving k) stands run.0 run.1).goes.1.next run.2 ends

module _ {D N : Type 0} (disk : Ghosts D N) (p n j : ℕ) (op : Op) (o : Option ℕ)
    (number : IsTrue (is_number n j)) (passed : IsPassedBy o j) where
  abbrev reply : TaskProgress
  reply = TaskProgress.Turned (Some (reply_of o))

  abbrev Sees : StepMade D → Type 0
  Sees = SeesTaken disk.image p j

  abbrev Seen : List (StepMade D) → Type 0
  Seen steps = WasSeenTaken disk.image p steps j

  abbrev before : StepMade D → Shown
  before step = shown_of disk.image step.before.volume

  abbrev now : StepMade D → Shown
  now step = shown_of disk.image step.after.volume

  -- where a step of a search goes with an answer, by whether it had got its block
  abbrev SearchGoes : StepMade D → Option ℕ → SearchState → TaskProgress → Type 0
  SearchGoes step slot m r = GoesFrom slot n p m step.before.volume.buffers r
      (task step.after.tasks p).stage (before step) (now step)

  -- a look that passed the number by
  pub sees : (step : StepMade D) (m : SearchState) (i : ℕ) (found : Option ℕ) →
      IsAt p step.before (Stage.Creating m) → m.slot ≡ Some i →
      free_at (before step).current n m ≡ found → IsPassedBy found j →
      inode_block j ≡ m.block → Sees step
  sees step m i found stands got is by here = record {
    search = m;
    stands = stands;
    got = ap is_some got;
    looks = sym here;
    taken = taken_by_look (before step).current n m.block j found is by number here;
  }

  -- where a step of a search goes, and the count of numbers behind it
  search_goes : (s : StoreState D) (step : StepMade D) (m : SearchState) →
      s.table.inode_count ≡ n → LeavesTask s p step.before →
      Steps disk step.before p op step.answer step.after →
      GoesOn disk p op step (Stage.Creating m) →
      SearchGoes step m.slot m step.answer × (step.after.table.inode_count ≡ n)
  search_goes s step m count leaves steps on =
      let same : step.before.table.inode_count ≡ n = leaves.numbers ∙ count in (
        subst (λ (k : ℕ). GoesFrom m.slot k p m step.before.volume.buffers step.answer
            (task step.after.tasks p).stage (before step) (now step)) same on.goes.0,
        steps.tasks.numbers ∙ same,
      )

  -- the step of the turn
  pub seen_at_turn : (step : StepMade D) (m : SearchState) (slot : Option ℕ) → m.slot ≡ slot →
      IsAt p step.before (Stage.Creating m) → m.block ≤ inode_block j →
      SearchGoes step slot m reply → Sees step
  seen_at_turn step m None got stands ahead goes = absurd goes.0
  seen_at_turn step m (Some i) got stands ahead goes =
      let past = past_at_turn n p j m o (before step) (now step) number passed goes.1 in
      sees step m i o stands got past.0 passed (omega (arith, past.1, ahead))

  -- a step before it, where the rest of the run sees what is still ahead
  module _ (step : StepMade D) (rest : List (StepMade D)) (m : SearchState)
      (stands : IsAt p step.before (Stage.Creating m)) (ahead : m.block ≤ inode_block j)
      (more : IsAt p step.after Stage.Nowhere → ⊥)
      (on : (k : SearchState) → IsAt p step.after (Stage.Creating k) → k.block ≤ inode_block j →
      Seen rest) where
    seen_on : (slot : Option ℕ) (r : TaskProgress) → m.slot ≡ slot → SearchGoes step slot m r →
        Seen (step ∷ rest)
    seen_on None TaskProgress.Moved got goes = seen_later Sees step rest (on _ goes.0.2 ahead)
    seen_on None (TaskProgress.Turned told) got goes = absurd goes.0
    seen_on None (TaskProgress.Decided told) got goes = absurd goes.0
    seen_on None TaskProgress.Over got goes = absurd goes.0
    seen_on None (TaskProgress.Sleeping why) got goes = seen_later Sees step rest (on m goes.0.1 ahead)
    seen_on None (TaskProgress.Fault fault) got goes = seen_later Sees step rest (on m goes.0.1 ahead)
    seen_on (Some i) TaskProgress.Moved got goes =
        ⊎_elim
        (λ here. seen_first Sees step rest (sees step m i None stands got goes.1.none tt here))
        (λ other.
        seen_later Sees step rest (on (at_next_block m) goes.0 (omega (arith, other, ahead))))
        (cases_eq (inode_block j) m.block)
    seen_on (Some i) (TaskProgress.Turned told) got goes = absurd (more goes.0)
    seen_on (Some i) (TaskProgress.Decided told) got goes = absurd goes
    seen_on (Some i) TaskProgress.Over got goes = absurd goes
    seen_on (Some i) (TaskProgress.Sleeping why) got goes = absurd goes
    seen_on (Some i) (TaskProgress.Fault fault) got goes = absurd goes

  -- a run from a block that is not behind the number's
  seen_in_run : (steps : List (StepMade D)) (s : StoreState D) (m : SearchState) →
      s.table.inode_count ≡ n → IsAt p s (Stage.Creating m) → m.block ≤ inode_block j →
      IsRun disk p op s steps → EndsWith steps reply → Seen steps
  seen_in_run [] s m count stands ahead run ends = absurd ends
  seen_in_run (step ∷ []) s m count stands ahead run ends =
      let on = goes_from disk p op s step (Stage.Creating m) stands run.0 run.1 in
      let goes = search_goes s step m count run.0 run.1 on in
      seen_first Sees step [] (seen_at_turn step m m.slot refl on.here ahead
      (subst (λ (r : TaskProgress). SearchGoes step m.slot m r) ends goes.0))
  seen_in_run (step ∷ next ∷ rest) s m count stands ahead run ends =
      let on = goes_from disk p op s step (Stage.Creating m) stands run.0 run.1 in
      let goes = search_goes s step m count run.0 run.1 on in
      seen_on step (next ∷ rest) m on.here ahead
      (λ over. nothing_more disk p op reply (λ e. cc e) (next ∷ rest) step.after over run.2 ends)
      (λ k is low. seen_in_run (next ∷ rest) step.after k goes.1 is low run.2 ends)
      m.slot step.answer refl goes.0

-- the run of a search saw taken each number that it passed by
seen_in_search : {D N : Type 0} (disk : Ghosts D N) (s : StoreState D) (p kind j : ℕ) (o : Option ℕ)
    (steps : List (StepMade D)) → IsSearchRun disk p kind s steps (reply_of o) →
    IsTrue (is_number s.table.inode_count j) → IsPassedBy o j → WasSeenTaken disk.image p steps j
seen_in_search disk s p kind j o steps run number passed =
    seen_in_run disk p s.table.inode_count j (Create kind) o number passed steps s _ refl run.begins
    (omega arith) run.runs run.ends

pub no_inode_saw_all : {D N : Type 0} (disk : Ghosts D N) → NoInodeSawAll disk
no_inode_saw_all disk s p kind steps run i number =
    seen_in_search disk s p kind i None steps run number tt

pub made_saw_lower : {D N : Type 0} (disk : Ghosts D N) → MadeSawLower disk
made_saw_lower disk s p kind i steps run j number lower =
    seen_in_search disk s p kind j (Some i) steps run number lower

pub steps_leave_others : {D N : Type 0} (disk : Ghosts D N) → StepsLeaveOthers disk
steps_leave_others disk old new p q op r apart steps = record {
  own = steps.tasks.others p (λ same. apart (sym same));
  numbers = steps.tasks.numbers;
}

pub commits_leave_all : {D N : Type 0} (disk : Ghosts D N) → CommitsLeaveAll disk
commits_leave_all disk old new p r commits = record {
  own = ap (λ (ts : List TaskState). task ts p) commits.tasks;
  numbers = ap (λ (t : TableState). t.inode_count) commits.table;
}

pub bounds_leave_others : {D : Type 0} (old : StoreState D) (p : ℕ) → BoundsLeaveOthers old p
bounds_leave_others old p = (
  λ q op apart. record {
    own = get_or-set_other old.tasks q p
        (record { op = Some op; stage = first_stage op old.table.inode_count; gathered = None })
        no_task
        (λ same. apart (sym same));
    numbers = refl;
  },
  λ q op room apart. record {
    own = get_or-set_other old.tasks q p
        (record { op = Some op; stage = first_taking (asked op); gathered = room })
        no_task
        (λ same. apart (sym same));
    numbers = refl;
  },
  λ log. record { own = refl; numbers = refl },
)
