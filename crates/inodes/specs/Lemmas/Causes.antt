-- What one step of a creation or of a write saw, or leaves to be seen.
use Rattle.std.proofs.Common.{◌≡◌, ◌≢◌, ◌⊎◌, ◌<◌, ◌≤◌, ◌+◌, ℕ, Bool, true, false, ltb, inl, inr, List, length, set, Option, Some, None, refl, sym, ap, ◌∙◌, subst, ⊎_elim, arith, length-set}
use Rattle.std.specs.Prelude.{IsTrue, if◌then◌else◌}
use Rattle.inodes.specs.Common.{at_next_block, BadOffset, BadType, Buffers, Bytes, cases_eq, cases_lt, Create, current_of, Dinode, Done, Extent, extent_of, first_stage, first_write, get_or-set_same, get_or_past, Ghosts, Goes, GoesFrom, greatest_size, inode_block, is_number, Made, no_task, NoFile, NoInode, Op, place_of, stage_of_lock, stage_of_writing, Progress, progress_of_lock, progress_of_read, progress_of_trunc, progress_of_write, Reply, SearchState, Shown, shown_of, Stage, StatOf, Steps, StoreState, task, TaskProgress, TaskState, TooBig, TooLong, with_begun, Write, WriteState, Wrote, progress_of_setting}
use Rattle.model.specs.Layout.{inode_of}
use Rattle.inodes.specs.Lemmas.Runs.{IsAt, goes_from, sees, seen_at_turn}
use Rattle.inodes.specs.Lemmas.WriteRuns.{IsGoingOn, comes_next, not_over, sees_or_on}
use Rattle.inodes.specs.Runs.{StepMade, SeesTaken}
use Rattle.inodes.specs.Turning.{if_used, stage_by_refusal, stage_when_taken, reply_when_taken}
use Rattle.inodes.specs.WriteRuns.{SeesFull}

-- ---- a creation

-- process p's search stands so that it may still come to number j's block
pub record IsAhead {D : Type 0} (p j : ℕ) (s : StoreState D) : Type 0 where
  pub search : SearchState
  pub stands : IsAt p s (Stage.Creating search)
  pub ahead : search.block ≤ inode_block j

-- a step claims a number that is not higher, or has not had its turn and leaves the number's block
-- ahead
abbrev pub SearchesOn : {D : Type 0} → ℕ → ℕ → TaskProgress → StoreState D → Type 0
SearchesOn p j r t =
    ((i : ℕ) × (r ≡ TaskProgress.Turned (Some (Made i))) × (i ≤ j))
    ⊎ (((reply : Option Reply) → r ≢ TaskProgress.Turned reply) × IsAhead p j t)

module _ {D N : Type 0} (disk : Ghosts D N) (p n j : ℕ) (op : Op)
    (number : IsTrue (is_number n j)) (step : StepMade D) (m : SearchState)
    (stands : IsAt p step.before (Stage.Creating m)) (ahead : m.block ≤ inode_block j) where
  abbrev Now : TaskProgress → Type 0
  Now r = SeesTaken disk.image p j step ⊎ SearchesOn p j r step.after

  goes_on : (r : TaskProgress) (k : SearchState) →
      ((reply : Option Reply) → r ≢ TaskProgress.Turned reply) →
      IsAt p step.after (Stage.Creating k) → k.block ≤ inode_block j → Now r
  goes_on r k unturned at low =
      inr (inr (unturned, record { search = k; stands = at; ahead = low }))

  by_slot : (o : Option ℕ) (r : TaskProgress) → m.slot ≡ o →
      GoesFrom o n p m step.before.volume.buffers r (task step.after.tasks p).stage
      (shown_of disk.image step.before.volume) (shown_of disk.image step.after.volume) → Now r
  by_slot None TaskProgress.Moved got goes =
      goes_on TaskProgress.Moved _ (λ told e. cc e) goes.0.2 ahead
  by_slot None (TaskProgress.Turned told) got goes = absurd goes.0
  by_slot None (TaskProgress.Decided told) got goes = absurd goes.0
  by_slot None TaskProgress.Over got goes = absurd goes.0
  by_slot None (TaskProgress.Sleeping why) got goes =
      goes_on (TaskProgress.Sleeping why) m (λ told e. cc e) goes.0.1 ahead
  by_slot None (TaskProgress.Fault fault) got goes =
      goes_on (TaskProgress.Fault fault) m (λ told e. cc e) goes.0.1 ahead
  by_slot (Some i) TaskProgress.Moved got goes =
      ⊎_elim
      (λ here. inl (sees disk p n j op None number tt step m i None stands got goes.1.none tt here))
      (λ other.
      goes_on TaskProgress.Moved (at_next_block m) (λ told e. cc e) goes.0 (omega (arith, other, ahead)))
      (cases_eq (inode_block j) m.block)
  by_slot (Some i) (TaskProgress.Turned None) got goes = absurd goes.1
  by_slot (Some i) (TaskProgress.Turned (Some NoInode)) got goes =
      inl (seen_at_turn disk p n j op None number tt step m (Some i) got stands ahead goes)
  by_slot (Some i) (TaskProgress.Turned (Some (Made k))) got goes =
      ⊎_elim
      (λ lower.
      inl (seen_at_turn disk p n j op (Some k) number lower step m (Some i) got stands ahead goes))
      (λ low. inr (inl (k, refl, low)))
      (cases_lt j k)
  by_slot (Some i) (TaskProgress.Turned (Some (Wrote k))) got goes = absurd goes.1
  by_slot (Some i) (TaskProgress.Turned (Some (Bytes bytes))) got goes = absurd goes.1
  by_slot (Some i) (TaskProgress.Turned (Some Done)) got goes = absurd goes.1
  by_slot (Some i) (TaskProgress.Turned (Some (StatOf kind links size))) got goes = absurd goes.1
  by_slot (Some i) (TaskProgress.Turned (Some NoFile)) got goes = absurd goes.1
  by_slot (Some i) (TaskProgress.Turned (Some BadOffset)) got goes = absurd goes.1
  by_slot (Some i) (TaskProgress.Turned (Some TooBig)) got goes = absurd goes.1
  by_slot (Some i) (TaskProgress.Turned (Some TooLong)) got goes = absurd goes.1
  by_slot (Some i) (TaskProgress.Turned (Some BadType)) got goes = absurd goes.1
  by_slot (Some i) (TaskProgress.Decided told) got goes = absurd goes
  by_slot (Some i) TaskProgress.Over got goes = absurd goes
  by_slot (Some i) (TaskProgress.Sleeping why) got goes = absurd goes
  by_slot (Some i) (TaskProgress.Fault fault) got goes = absurd goes

  -- a step of a search saw the number taken, or goes on so
  pub search_sees : step.before.table.inode_count ≡ n →
      Steps disk step.before p op step.answer step.after →
      SeesTaken disk.image p j step ⊎ SearchesOn p j step.answer step.after
  search_sees count steps =
      let on = goes_from disk p op step.before step (Stage.Creating m) stands
      (record { own = refl; numbers = refl }) steps in
      let goes = subst (λ (k : ℕ). GoesFrom m.slot k p m step.before.volume.buffers step.answer
      (task step.after.tasks p).stage (shown_of disk.image step.before.volume)
      (shown_of disk.image step.after.volume)) count on.goes.0 in
      by_slot m.slot step.answer refl goes

-- a creation that begins stands at the first block, where there is a place for its task
pub search_begins : {D : Type 0} (p j kind : ℕ) (s : StoreState D) →
    IsAhead p j (with_begun s p (Create kind)) ⊎ IsAt p (with_begun s p (Create kind)) Stage.Nowhere
search_begins p j kind s =
    let t : TaskState = record {
      op = Some (Create kind);
      stage = first_stage (Create kind) s.table.inode_count;
      gathered = None;
    } in
    ⊎_elim
    (λ (lt : p < length s.tasks).
    inl (record {
      search = record {
        kind = kind;
        inode_count = s.table.inode_count;
        block = 33;
        slot = None;
      };
      stands = ap (λ (u : TaskState). u.stage) (get_or-set_same s.tasks p t no_task lt);
      ahead = omega arith;
    }))
    (λ (past : length s.tasks ≤ p).
    inr (ap (λ (u : TaskState). u.stage) (get_or_past (set s.tasks p t) p no_task
    (let many = length-set s.tasks p t in omega (arith, many, past)))))
    (cases_lt p (length s.tasks))

-- before its turn a search changes neither image nor log
pub search_shows : (slot : Option ℕ) (n p : ℕ) (m : SearchState) (c : Buffers) (r : TaskProgress)
    (next : Stage) (before now : Shown) → ((reply : Option Reply) → r ≢ TaskProgress.Turned reply) →
    GoesFrom slot n p m c r next before now → now ≡ before
search_shows None n p m c r next before now unturned goes = goes.1
search_shows (Some i) n p m c TaskProgress.Moved next before now unturned goes = goes.1.shown
search_shows (Some i) n p m c (TaskProgress.Turned told) next before now unturned goes =
    absurd (unturned told refl)
search_shows (Some i) n p m c (TaskProgress.Decided told) next before now unturned goes = absurd goes
search_shows (Some i) n p m c TaskProgress.Over next before now unturned goes = absurd goes
search_shows (Some i) n p m c (TaskProgress.Sleeping why) next before now unturned goes = absurd goes
search_shows (Some i) n p m c (TaskProgress.Fault fault) next before now unturned goes = absurd goes

-- ---- a write

-- a step of a write doesn't answer with so few bytes, and is not its last one: the writing goes on,
-- or is answered
pub record WritesOn {D : Type 0} (p k count done : ℕ) (e : Extent) (step : StepMade D)
    : Type 0 where
  pub other : step.answer ≢ TaskProgress.Decided (Wrote done)
  pub unfinished : step.answer ≢ TaskProgress.Over
  pub next : ((reply : Reply) × (step.answer ≡ TaskProgress.Decided reply))
      ⊎ ((m : WriteState) × IsAt p step.after (Stage.Writing k m) × IsGoingOn e count m)

not_last : (done : ℕ) (q : Progress (Unit {0})) → progress_of_write done q ≡ TaskProgress.Over → ⊥
not_last done Progress.Moved is = cc is
not_last done (Progress.Sleeping why) is = cc is
not_last done (Progress.Over out) is = cc is
not_last done (Progress.Fault fault) is = cc is

-- a step of a write saw that no block is left, or goes on so
pub write_sees : {D N : Type 0} (disk : Ghosts D N) (p k count done : ℕ) (e : Extent) (op : Op) →
    done < count → (step : StepMade D) (m : WriteState) →
    IsAt p step.before (Stage.Writing k m) → IsGoingOn e count m →
    Steps disk step.before p op step.answer step.after →
    SeesFull disk.image p e step ⊎ WritesOn p k count done e step
write_sees disk p k count done e op short step m stands on steps =
    let to = goes_from disk p op step.before step (Stage.Writing k m) stands
    (record { own = refl; numbers = refl }) steps in
    ⊎_elim (λ is. inl is)
    (λ still. inr (record {
      other = λ is. not_over disk p k count done e op short m to.goes.answer still.all
          (sym to.goes.gives ∙ is);
      unfinished = λ is. not_last m.done to.goes.answer (sym to.goes.gives ∙ is);
      next = by_answer to.goes.now to.goes.answer to.goes.gives to.goes.next still.on;
    }))
    (sees_or_on disk p k count done e op short step m to.here on to.goes)
  where
    by_answer : (n : WriteState) (q : Progress (Unit {0})) →
        step.answer ≡ progress_of_write m.done q →
        IsAt p step.after (stage_of_writing k m n q) → IsGoingOn e count n →
        ((reply : Reply) × (step.answer ≡ TaskProgress.Decided reply))
        ⊎ ((o : WriteState) × IsAt p step.after (Stage.Writing k o) × IsGoingOn e count o)
    by_answer n Progress.Moved gives next now = inr (n, next, now)
    by_answer n (Progress.Sleeping why) gives next now = inr (m, next, on)
    by_answer n (Progress.Over out) gives next now = inl (Wrote m.done, gives)
    by_answer n (Progress.Fault fault) gives next now = inr (m, next, on)

-- ---- its turn

-- a write to inode i begins at a place of the table with all its bytes to be written
pub record BeginsWriting {D : Type 0} (p i count : ℕ) (e : Extent) (t : StoreState D)
    : Type 0 where
  pub entry : ℕ
  pub writing : WriteState
  pub stands : IsAt p t (Stage.Writing entry writing)
  pub on : IsGoingOn e count writing
  pub number : writing.number ≡ i

-- a turn tells no number of bytes, and where it tells nothing the writing begins
pub record TurnsToWrite {D : Type 0} (p i count : ℕ) (e : Extent) (reply : Option Reply)
    (t : StoreState D) : Type 0 where
  pub other : (done : ℕ) → reply ≢ Some (Wrote done)
  pub begins : reply ≡ None → BeginsWriting p i count e t

module _ {D N : Type 0} (disk : Ghosts D N) (s : StoreState D) (p i off : ℕ) (bytes : List ℕ)
    (t : StoreState D) where
  abbrev op : Op
  op = Write i off bytes

  abbrev e : Extent
  e = extent_of s.table.form s.table.inode_count s.volume.log.size

  abbrev next : Stage
  next = (task t.tasks p).stage

  abbrev To : Option Reply → Type 0
  To reply = TurnsToWrite p i (length bytes) e reply t

  refused : (r : Reply) → ((done : ℕ) → r ≢ Wrote done) → To (Some r)
  refused r apart = record {
    other = λ done is. apart done (let same : r ≡ Wrote done = cc is in same);
    begins = λ is. absurd (cc is);
  }

  by_refusal : (d : Dinode) (k : ℕ) (a b : Bool) →
      next ≡ stage_by_refusal k (first_write i d off (length bytes) e)
      (if a then Some BadOffset else if b then Some TooBig else None) →
      To (if a then Some BadOffset else if b then Some TooBig else None)
  by_refusal d k true b to = refused BadOffset (λ done is. cc is)
  by_refusal d k false true to = refused TooBig (λ done is. cc is)
  by_refusal d k false false to = record {
    other = λ done is. cc is;
    begins = λ none. record {
      entry = k;
      writing = first_write i d off (length bytes) e;
      stands = to;
      on = record {
        extent = refl;
        count = refl;
        at = comes_next e (length bytes) 0 i off (length bytes) d (λ none. omega (arith, none));
      };
      number = refl;
    };
  }

  by_use : (used : Bool) (d : Dinode) (k : ℕ) →
      next ≡ stage_when_taken e (if_used used d) k op → To (reply_when_taken e.form (if_used used d) op)
  by_use false d k to = refused NoFile (λ done is. cc is)
  by_use true d k to =
      by_refusal d k (ltb d.size off) (ltb (greatest_size e.form) (off + length bytes)) to

  by_reply : (r : Option Reply) (o : Option ℕ) (m : SearchState) →
      GoesFrom o s.table.inode_count p m s.volume.buffers (TaskProgress.Turned r) next
      (shown_of disk.image s.volume) (shown_of disk.image t.volume) → To r
  by_reply r None m goes = absurd goes.0
  by_reply None (Some k) m goes = absurd goes.1
  by_reply (Some NoInode) (Some k) m goes = refused NoInode (λ done is. cc is)
  by_reply (Some (Made j)) (Some k) m goes = refused (Made j) (λ done is. cc is)
  by_reply (Some (Wrote j)) (Some k) m goes = absurd goes.1
  by_reply (Some (Bytes read)) (Some k) m goes = absurd goes.1
  by_reply (Some Done) (Some k) m goes = absurd goes.1
  by_reply (Some (StatOf kind links size)) (Some k) m goes = absurd goes.1
  by_reply (Some NoFile) (Some k) m goes = absurd goes.1
  by_reply (Some BadOffset) (Some k) m goes = absurd goes.1
  by_reply (Some TooBig) (Some k) m goes = absurd goes.1
  by_reply (Some TooLong) (Some k) m goes = absurd goes.1
  by_reply (Some BadType) (Some k) m goes = absurd goes.1

  by_place : (r : Option Reply) (a : Stage) → Goes disk a s p op (TaskProgress.Turned r) t → To r
  by_place r Stage.Nowhere goes = let no = goes.0 in absurd (cc no)
  by_place r (Stage.Creating m) goes = by_reply r m.slot m goes.0
  by_place r (Stage.Taking m) goes = by_answer goes.0.answer goes.0.gives goes.0.next
    where
      d : Dinode
      d = inode_of (current_of disk.image s.volume) m.number

      by_answer : (q : Progress Bool) → TaskProgress.Turned r ≡ progress_of_lock e.form d op q →
          next ≡ stage_of_lock e d op m goes.0.now q → To r
      by_answer Progress.Moved is to = absurd (cc is)
      by_answer (Progress.Sleeping why) is to = absurd (cc is)
      by_answer (Progress.Over used) is to =
          subst To (let back = sym is in cc back) (by_use used d (place_of goes.0.now.at) to)
      by_answer (Progress.Fault fault) is to = absurd (cc is)
  by_place r (Stage.Reading k m) goes = absurd (none goes.0.answer goes.0.gives)
    where
      none : (q : Progress (Unit {0})) → TaskProgress.Turned r ≡ progress_of_read q → ⊥
      none Progress.Moved is = cc is
      none (Progress.Sleeping why) is = cc is
      none (Progress.Over out) is = cc is
      none (Progress.Fault fault) is = cc is
  by_place r (Stage.Delivering k) goes = let no = goes.gives in absurd (cc no)
  by_place r (Stage.Truncating k m) goes = absurd (none goes.answer goes.gives)
    where
      none : (q : Progress (Unit {0})) → TaskProgress.Turned r ≡ progress_of_trunc q → ⊥
      none Progress.Moved is = cc is
      none (Progress.Sleeping why) is = cc is
      none (Progress.Over out) is = cc is
      none (Progress.Fault fault) is = cc is
  by_place r (Stage.Writing k m) goes = absurd (none goes.answer goes.gives)
    where
      none : (q : Progress (Unit {0})) → TaskProgress.Turned r ≡ progress_of_write m.done q → ⊥
      none Progress.Moved is = cc is
      none (Progress.Sleeping why) is = cc is
      none (Progress.Over out) is = cc is
      none (Progress.Fault fault) is = cc is
  by_place r (Stage.Setting k d u) goes = absurd (none goes.answer goes.gives)
    where
      none : (q : Progress (Unit {0})) → TaskProgress.Turned r ≡ progress_of_setting q → ⊥
      none Progress.Moved is = cc is
      none (Progress.Sleeping why) is = cc is
      none (Progress.Over out) is = cc is
      none (Progress.Fault fault) is = cc is
  by_place r (Stage.Leaving k) goes = let no = goes.0 in absurd (cc no)

  -- the turn of a write
  pub write_turns : (r : Option Reply) → Steps disk s p op (TaskProgress.Turned r) t → To r
  write_turns r steps = by_place r (task s.tasks p).stage steps.goes
