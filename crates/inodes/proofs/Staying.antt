-- A machine that has to wait, or whose disk fails, stays where it stands: so it may make its steps in
-- the task that it is part of.
use Rattle.std.proofs.Common.{⊎_elim, get_or-set_same, set-set, set, length, ◌<◌, ◌≡◌, ℕ, List, refl, sym, ◌∙◌, ap, subst, Option, Some, None}
use Rattle.std.specs.Prelude.{false, true, Bool, if◌then◌else◌, ◌==◌}
use Rattle.inodes.specs.Common.{address_at, after_address, after_behind, AllocAt, Allocs, AllocState, answer_by, at_lock, behind_at, Branch, Buffers, copy_at, Dinode, Ends, EntryState, FindsEntry, Freeing, FreesOn, GatheredBytes, Get, GetsFor, Ghosts, GoesBelow, Got, holder_at, Image, IsMade, LockAt, Locks, LockState, LockSteps, LooksUp, lowest_in, MapAt, MapState, MapSteps, named_by, naming, no_task, Node, one_more, Progress, progress_of, ReadState, ReadSteps, SearchGoes, SearchState, seen, SetsEntry, some_address, Stage, TableState, TakesLowest, Target, target_behind, task, TaskState, Updates, UpdateState, VolumeState, when_got, with_slot, Works, write_mapped, WriteAt, WriteState, WriteSteps}
use Rattle.wal.specs.Volume.{slot_of}
use Rattle.wal.specs.Get as get
use Rattle.inodes.specs.InPlace.{SearchesInPlace}
use Rattle.inodes.specs.Lemmas.Freeing.{IsDone, use_done}
use Rattle.inodes.proofs.Gripping.{same_task}

-- nothing was done
abbrev pub Rests : {T : Type 0} → Progress T → Type 0
Rests Progress.Moved = ⊥
Rests (Progress.Sleeping why) = Unit {0}
Rests (Progress.Over out) = ⊥
Rests (Progress.Fault fault) = Unit {0}

-- one step among others rests where its machine does
one_rests : {T : Type 0} (q : Progress T) → Rests (one_more q) → Rests q
one_rests Progress.Moved rests = rests
one_rests (Progress.Sleeping why) rests = tt
one_rests (Progress.Over out) rests = absurd rests
one_rests (Progress.Fault fault) rests = tt

-- then no slot was got
none_got : (T : Type 0) (a : Get) (s : Option ℕ) → Rests (progress_of {T = T} a) → s ≡ slot_of a → s ≡ None
none_got T (get.Got i) s rests is = absurd rests
none_got T (get.Sleeping why) s rests is = is
none_got T (get.Fault fault) s rests is = is

-- who comes to a block doesn't rest
never_come : (b : Bool) (a : ℕ) → Rests (if b then Progress.Over (Some a) else Progress.Moved) → ⊥
never_come true a rests = rests
never_come false a rests = rests

module _ {D N : Type 0} (disk : Ghosts D N) (v w : VolumeState D) (p : ℕ) where
  gets : {T : Type 0} {b : ℕ} {r : Progress T} {s : Option ℕ} → GetsFor disk v p b r s w → Rests r → s ≡ None
  gets {T} {b} {r} {s} g rests = none_got T g.answer s (subst (λ (q : Progress T). Rests q) g.gives rests) g.slot

  -- ---- a block is taken

  -- the bitmap's block is looked at with one step
  takes : (o : Option ℕ) (m n : AllocState) (i : ℕ) (r : Progress (Option ℕ)) → TakesLowest disk o v p i m r n w → Rests r → ⊥
  takes None m n i r does rests = subst (λ (q : Progress (Option ℕ)). Rests q) does.0 rests
  takes (Some b) m n i r does rests = subst (λ (q : Progress (Option ℕ)). Rests q) does.0 rests

  allocs : (m n : AllocState) (a : AllocAt) (r : Progress (Option ℕ)) → m.at ≡ a → Allocs disk a v p m r n w → Rests r → n ≡ m
  allocs m n (AllocAt.Looking None) r at does rests = does.1 ∙ ap (λ (x : AllocAt). record m { at = x }) (ap AllocAt.Looking (gets does.2 rests) ∙ sym at)
  allocs m n (AllocAt.Looking (Some i)) r at does rests = absurd (takes (lowest_in (seen (disk.image v.device) v.buffers) m) m n i r does rests)
  allocs m n (AllocAt.Zeroing b None) r at does rests = does.1 ∙ ap (λ (x : AllocAt). record m { at = x }) (ap (AllocAt.Zeroing b) (gets does.2 rests) ∙ sym at)
  allocs m n (AllocAt.Zeroing b (Some i)) r at does rests = absurd (subst (λ (q : Progress (Option ℕ)). Rests q) does.0 rests)

  -- ---- the way to a block of a file

  -- a way rests where what takes a block for it does
  after_one : (b : Branch) (q : Progress (Option ℕ)) → Rests (after_address b q) → Rests q
  after_one b Progress.Moved rests = rests
  after_one b (Progress.Sleeping why) rests = tt
  after_one b (Progress.Over None) rests = rests
  after_one b (Progress.Over (Some a)) rests = absurd (never_come (b.depth == 0) a rests)
  after_one b (Progress.Fault fault) rests = tt

  -- and stands where it stood, with the inode that it had
  at_one : (b : Branch) (q : Progress (Option ℕ)) (t : AllocState) → Rests q → address_at b q t ≡ MapAt.Address t
  at_one b Progress.Moved t rests = absurd rests
  at_one b (Progress.Sleeping why) t rests = refl
  at_one b (Progress.Over found) t rests = absurd rests
  at_one b (Progress.Fault fault) t rests = refl

  named_none : (d : Dinode) (i : ℕ) (q : Progress (Option ℕ)) → Rests q → naming d i q ≡ d
  named_none d i Progress.Moved rests = absurd rests
  named_none d i (Progress.Sleeping why) rests = refl
  named_none d i (Progress.Over found) rests = absurd rests
  named_none d i (Progress.Fault fault) rests = refl

  -- the same where the block is taken for an entry
  behind_one : (q : Progress (Option ℕ)) → Rests (after_behind q) → Rests q
  behind_one Progress.Moved rests = rests
  behind_one (Progress.Sleeping why) rests = tt
  behind_one (Progress.Over found) rests = rests
  behind_one (Progress.Fault fault) rests = tt

  at_behind : (c : Node) (i : ℕ) (q : Progress (Option ℕ)) (t : AllocState) → Rests q → behind_at c i q t ≡ MapAt.Behind c i t
  at_behind c i Progress.Moved t rests = absurd rests
  at_behind c i (Progress.Sleeping why) t rests = refl
  at_behind c i (Progress.Over found) t rests = absurd rests
  at_behind c i (Progress.Fault fault) t rests = refl

  -- an entry is read with one step, and set with one
  finds : (o : Option ℕ) (c : Node) (i : ℕ) (m k : MapState) (r : Progress (Option ℕ)) → FindsEntry disk o v p c i m r k w → Rests r → ⊥
  finds None c i m k r does rests = subst (λ (q : Progress (Option ℕ)). Rests q) does.0 rests
  finds (Some b) c i m k r does rests = never_come (c.level == 0) b (subst (λ (q : Progress (Option ℕ)). Rests q) does.0.0 rests)

  sets : (o : Option ℕ) (c : Node) (i : ℕ) (m k : MapState) (r : Progress (Option ℕ)) → SetsEntry disk o v p c i m r k w → Rests r → ⊥
  sets None c i m k r does rests = subst (λ (q : Progress (Option ℕ)). Rests q) does.0 rests
  sets (Some b) c i m k r does rests = never_come (c.level == 0) b (subst (λ (q : Progress (Option ℕ)). Rests q) does.0.0 rests)

  pub maps : (m k : MapState) (d e : Dinode) (a : MapAt) (r : Progress (Option ℕ)) → m.at ≡ a → MapSteps disk a v p m d r k e w → Rests r → (k ≡ m) × (e ≡ d)
  maps m k d e (MapAt.Address t) r at does rests =
      let still = after_one m.branch does.answer (subst (λ (q : Progress (Option ℕ)). Rests q) does.gives rests) in
      let same = allocs t does.now t.at does.answer refl does.allocs still in
      (does.next ∙ ap (λ (x : MapAt). record m { at = x }) (at_one m.branch does.answer does.now still ∙ ap MapAt.Address same ∙ sym at), does.named ∙ named_none d m.branch.index does.answer still)
  maps m k d e (MapAt.Entry c None) r at does rests = (does.2 ∙ ap (λ (x : MapAt). record m { at = x }) (ap (MapAt.Entry c) (gets does.1 rests) ∙ sym at), does.3)
  maps m k d e (MapAt.Entry c (Some i)) r at does rests = absurd (finds (some_address (named_by (seen (disk.image v.device) v.buffers) c)) c i m k r does.0 rests)
  maps m k d e (MapAt.Behind c i t) r at does rests =
      let still = behind_one does.answer (subst (λ (q : Progress (Option ℕ)). Rests q) does.gives rests) in
      let same = allocs t does.now t.at does.answer refl does.allocs still in
      (does.next ∙ ap (λ (x : MapAt). record m { at = x }) (at_behind c i does.answer does.now still ∙ ap (MapAt.Behind c i) same ∙ sym at), does.named)
  maps m k d e (MapAt.Setting c i found) r at does rests = absurd (sets found c i m k r does.0 rests)

  -- ---- a writing

  -- the inode's block is got
  pub updates : (u n : UpdateState) (d : Dinode) (o : Option ℕ) (r : Progress (Unit {0})) → u.slot ≡ o → Updates disk o v p u d r n w → Rests r → n ≡ u
  updates u n d None r at does rests = does.0 ∙ ap (λ (x : Option ℕ). record u { slot = x }) (gets does.1 rests ∙ sym at)
  updates u n d (Some i) r at does rests = absurd (subst (λ (q : Progress (Unit {0})). Rests q) does.0 rests)

  -- a writing whose way rests stands on that way
  at_mapped : (m : WriteState) (way : MapState) (d : Dinode) (q : Progress (Option ℕ)) → Rests q → write_mapped m way d q ≡ record m { inode = d }
  at_mapped m way d Progress.Moved rests = absurd rests
  at_mapped m way d (Progress.Sleeping why) rests = refl
  at_mapped m way d (Progress.Over found) rests = absurd rests
  at_mapped m way d (Progress.Fault fault) rests = refl

  pub writes : (m n : WriteState) (a : WriteAt) (bytes : List ℕ) (r : Progress (Unit {0})) → m.at ≡ a → WriteSteps disk a v p m bytes r n w → Rests r → n ≡ m
  writes m n (WriteAt.Mapping way) bytes r at does rests =
      let still = one_rests does.answer (subst (λ (q : Progress (Unit {0})). Rests q) does.gives rests) in
      does.next ∙ at_mapped m does.now does.inode does.answer still ∙ ap (λ (d : Dinode). record m { inode = d }) (maps way does.now m.inode does.inode way.at does.answer refl does.steps still).1
  writes m n (WriteAt.Block b None) bytes r at does rests = does.2 ∙ ap (λ (x : WriteAt). record m { at = x }) (ap (WriteAt.Block b) (gets does.1 rests) ∙ sym at)
  writes m n (WriteAt.Block b (Some i)) bytes r at does rests = absurd (subst (λ (q : Progress (Unit {0})). Rests q) does.0 rests)
  writes m n (WriteAt.Updating u) bytes r at does rests = does.2 ∙ ap (λ (x : WriteAt). record m { at = x }) (ap WriteAt.Updating (updates u does.0 m.inode u.slot r refl does.1 rests) ∙ sym at)

-- ---- a reading

-- an entry's reading rests before its block is got
entry_stays : {D N : Type 0} (disk : Ghosts D N) (v w : VolumeState D) (p : ℕ) (e n : EntryState) (o : Option ℕ) (r : Progress (Option ℕ)) → e.slot ≡ o → LooksUp disk o v p e r n w → Rests r → n ≡ e
entry_stays disk v w p e n None r at does rests = does.0 ∙ ap (with_slot e) (gets disk v w p does.1 rests ∙ sym at)
entry_stays disk v w p e n (Some i) r at does rests = absurd (⊎_elim
    (λ (ends : Ends (named_by (seen (disk.image v.device) v.buffers) e.node) e r n). subst (λ (q : Progress (Option ℕ)). Rests q) ends.over rests)
    (λ (goes : GoesBelow (named_by (seen (disk.image v.device) v.buffers) e.node) e r n). subst (λ (q : Progress (Option ℕ)). Rests q) goes.moved rests)
    does.0)

-- and what it is for stands there
entry_there : (q : Progress (Option ℕ)) (e : EntryState) → Rests q → target_behind q e ≡ Target.Entry e
entry_there Progress.Moved e rests = refl
entry_there (Progress.Sleeping why) e rests = refl
entry_there (Progress.Over found) e rests = absurd rests
entry_there (Progress.Fault fault) e rests = refl

never_made : (r : Progress (Unit {0})) → IsMade r → Rests r → ⊥
never_made Progress.Moved made rests = rests
never_made (Progress.Sleeping why) made rests = made
never_made (Progress.Over out) made rests = rests
never_made (Progress.Fault fault) made rests = made

works_stay : {D N : Type 0} (disk : Ghosts D N) (v w : VolumeState D) (p : ℕ) (m n : ReadState) (t : Target) (r : Progress (Unit {0})) → m.target ≡ t → Works disk t v p m r w n → Rests r → n ≡ m
works_stay disk v w p m n (Target.Entry e) r at does rests =
    let seeks = does.1 in
    let still = one_rests seeks.answer (subst (λ (q : Progress (Unit {0})). Rests q) seeks.gives rests) in
    let same = entry_stays disk v w p e seeks.entry e.slot seeks.answer refl seeks.looks still in
    does.0 ∙ ap (λ (x : Target). record m { target = x }) (seeks.target ∙ entry_there seeks.answer seeks.entry still ∙ ap Target.Entry same ∙ sym at)
works_stay disk v w p m n (Target.Block b None) r at does rests =
    let seeks = does.1 in
    does.0 ∙ ap (λ (x : Target). record m { target = x }) (seeks.1 ∙ ap (Target.Block b) (gets disk v w p seeks.2 rests) ∙ sym at)
works_stay disk v w p m n (Target.Block b (Some i)) r at does rests = absurd (never_made r does.1 rests)

pub reads_stay : {D N : Type 0} (disk : Ghosts D N) (v w : VolumeState D) (p : ℕ) (m n : ReadState) (g h : GatheredBytes) (r : Progress (Unit {0})) → ReadSteps disk v p m g r w n h → Rests r → n ≡ m
reads_stay disk v w p m n g h r steps rests = works_stay disk v w p m n m.target r refl steps.works rests

-- ---- the taking of an inode

-- the step that takes the lock, or leaves it to who has it
lock_stays : (o : Option ℕ) (copy : Option Dinode) (t u : TableState) (p k : ℕ) (m n : LockState) (r : Progress Bool) → Locks o copy t p k m r u n → Rests r → n ≡ m
lock_stays (Some q) copy t u p k m n r does rests = does.2
lock_stays None (Some d) t u p k m n r does rests = does.2
lock_stays None None t u p k m n r does rests = absurd (subst (λ (q : Progress Bool). Rests q) does.0 rests)

pub locks_stay : {D N : Type 0} (disk : Ghosts D N) (v w : VolumeState D) (t u : TableState) (p : ℕ) (m n : LockState) (a : LockAt) (r : Progress Bool) → m.at ≡ a → LockSteps disk a t v p m r u w n → Rests r → n ≡ m
locks_stay disk v w t u p m n LockAt.Reference r at does rests = absurd (subst (λ (q : Progress Bool). Rests q) does.0.2 rests)
locks_stay disk v w t u p m n (LockAt.Lock k) r at does rests = lock_stays (holder_at t.places k) (copy_at t.places k) t u p k m n r does.0 rests
locks_stay disk v w t u p m n (LockAt.Read k None) r at does rests =
    does.0.2 ∙ ap (at_lock m) (ap (LockAt.Read k) (gets disk v w p does.0.1 rests) ∙ sym at)
locks_stay disk v w t u p m n (LockAt.Read k (Some i)) r at does rests = does.1

-- ---- the freeing of a file's blocks

never_rests : (r : Progress (Unit {0})) → IsDone r → Rests r → ⊥
never_rests Progress.Moved done rests = rests
never_rests (Progress.Sleeping why) done rests = done
never_rests (Progress.Over out) done rests = rests
never_rests (Progress.Fault fault) done rests = done

pub truncs_stay : {D N : Type 0} (disk : Ghosts D N) (v w : VolumeState D) (p : ℕ) (m n : Freeing) (o : Option Got) (r : Progress (Unit {0})) → FreesOn disk o v p m r n w → Rests r → n ≡ m
truncs_stay disk v w p m n None r steps rests = steps.next ∙ ap (λ (s : Option ℕ). when_got (seen (disk.image v.device) v.buffers) s m) (gets disk v w p steps.gets rests)
truncs_stay disk v w p m n (Some g) r steps rests =
    absurd (never_rests (answer_by m.machine.at) (use_done m.machine.at) (subst (λ (q : Progress (Unit {0})). Rests q) steps.answer rests))

-- ---- the tasks

-- a task that was changed is changed once more
pub changed_after : (ts us vs : List TaskState) (p : ℕ) (a : TaskState) (f : TaskState → TaskState) → p < length ts → us ≡ set ts p a → vs ≡ set us p (f (task us p)) → vs ≡ set ts p (f a)
changed_after ts us vs p a f inside came goes = goes ∙ ap (λ (l : List TaskState). set l p (f (task l p))) came
    ∙ ap (λ (t : TaskState). set (set ts p a) p (f t)) (get_or-set_same ts p a no_task inside)
    ∙ set-set ts p a (f a)

-- a reading goes on, whose bytes were out of its task
pub reads_with : (ts us vs ws : List TaskState) (p : ℕ) (a : Stage) (g : GatheredBytes) → p < length ts → us ≡ set ts p (record (task ts p) { gathered = None }) → vs ≡ set us p (record (task us p) { stage = a })
    → ws ≡ set vs p (record (task vs p) { gathered = Some g }) → ws ≡ set ts p (record (task ts p) { stage = a; gathered = Some g })
reads_with ts us vs ws p a g inside out on in_again =
    changed_after ts vs ws p (record (task ts p) { stage = a; gathered = None }) (λ t. record t { gathered = Some g }) inside
    (changed_after ts us vs p (record (task ts p) { gathered = None }) (λ t. record t { stage = a }) inside out on) in_again

-- one that goes on from where it came to
pub left_after : (ts us vs : List TaskState) (p : ℕ) (a b : Stage) → p < length ts → us ≡ set ts p (record (task ts p) { stage = a }) → vs ≡ set us p (record (task us p) { stage = b })
    → vs ≡ set ts p (record (task ts p) { stage = b })
left_after ts us vs p a b inside came goes = changed_after ts us vs p (record (task ts p) { stage = a }) (λ t. record t { stage = b }) inside came goes

-- a search that rests
search_stays : (o : Option ℕ) (x : Image) (b : Buffers) (m n : SearchState) (r : Progress (Option ℕ)) → SearchGoes o x b m r n → Rests r → n ≡ m
search_stays o x b m n Progress.Moved goes rests = absurd rests
search_stays None x b m n (Progress.Sleeping why) goes rests = goes.1
search_stays (Some i) x b m n (Progress.Sleeping why) goes rests = absurd goes
search_stays o x b m n (Progress.Over found) goes rests = absurd rests
search_stays None x b m n (Progress.Fault fault) goes rests = goes
search_stays (Some i) x b m n (Progress.Fault fault) goes rests = absurd goes

-- and the tasks with it
pub search_rests : {D N : Type 0} (disk : Ghosts D N) (v w : VolumeState D) (p : ℕ) (m : SearchState) (ts us : List TaskState) (r : Progress (Option ℕ)) → SearchesInPlace disk v ts p m r us w
    → (task ts p).stage ≡ Stage.Creating m → Rests r → us ≡ ts
search_rests disk v w p m ts us r steps stood rests =
    let stays = search_stays m.slot (seen (disk.image v.device) v.buffers) v.buffers m steps.now r steps.steps.goes rests in
    steps.tasks ∙ ap (λ (n : SearchState). set ts p (record (task ts p) { stage = Stage.Creating n })) stays ∙ sym (same_task ts p (Stage.Creating m) stood)
