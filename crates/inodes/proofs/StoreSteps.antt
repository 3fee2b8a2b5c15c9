-- What a step of a search promises, of the store in which it is made.
use Rattle.std.proofs.Common.{◌≡◌, ◌≢◌, ℕ, ◌-◌, ◌<◌, ◌≤◌, true, ltb, List, length, set, refl, sym, ◌∙◌, ap, subst, arith, Option, Some, None, inl, inr}
use Rattle.std.specs.Prelude.{IsTrue}
use Rattle.inodes.specs.Common.{Agrees, Answers, AreLooking, asked_by, block_at, both_of, Buffers, BuffersAfter, claim_by, claim_fits, claim_of, claims, claims_of, Create, current_after, current_of, Dinode, eq-eqb, eqb-false, eqb-true, false≢true, fault_in, fault_of_task, Files, FilesThen, FindsNone, FitsHeld, form_of, free_tells, GetsBlock, GoesFrom, grip_by, grip_of, groups_noted, groups_same, HasClaimed, HasNoFreeInode, HasSlot, held_alike, Image, inode_block, inode_count_of, is_made, is_making, is_number, IsFree, IsHeldByAnother, IsImage, IsLawfulGeometry, IsSearching, LeavesLate, LeavesNumber, log_after, LogState, looks_left, LooksAt, LooksAtBlock, lowest_free, ltb-true, Made, Marks, ne_eqb, new_inode, NoInode, Op, Progress, progress_of_search, Reply, reply_at_turn, SameGroups, SearchGoes, SearchLocks, SearchState, Shown, shown_of, Stage, steps_left, StoreState, TableState, task, TaskProgress, TaskState, VolumeState, Why, with_inode, with_new_file, LogsAtMost, used_by}
use Rattle.inodes.specs.Store.{FitsFiles}
use Rattle.model.specs.Layout.{inode_of}
use Rattle.model.specs.Crash.{labels_of}
use Rattle.model.specs.Lemmas.Runs.{after-no_inode}
use Rattle.inodes.specs.Lemmas.Holding.{claim_stays}
use Rattle.inodes.specs.Lemmas.Bounds.{some_step}
use Rattle.inodes.specs.Lemmas.Looks.{late_number}
use Rattle.inodes.proofs.Frames.{marks_same, within_image}
use Rattle.inodes.proofs.Gripping.{same_task}
use Rattle.inodes.proofs.LooksKept.{KeepsUsed, keeps_claimed, keeps_same}
use Rattle.inodes.proofs.Searching.{search as searching}
use Rattle.inodes.specs.Lemmas.Unclaimed.{late_used}

-- where the task stands then
abbrev pub stage_then : Progress (Option ℕ) → SearchState → SearchState → Stage
stage_then Progress.Moved m new = Stage.Creating new
stage_then (Progress.Sleeping cause) m new = Stage.Creating m
stage_then (Progress.Over made) m new = Stage.Nowhere
stage_then (Progress.Fault fault) m new = Stage.Creating m

-- where a search goes, its task goes
module _ {D : Type 0} (image : D → Image) (v : VolumeState D) (p n : ℕ) (m new : SearchState) (now : Shown) (d : Buffers) (count : m.inode_count ≡ n) (numbers : n ≡ inode_count_of (current_of image v)) where
  abbrev before : Shown
  before = shown_of image v

  -- what it shows then
  abbrev Shows : Progress (Option ℕ) → Type 0
  Shows r = now ≡ record { current = current_after before.current m r; log = log_after before.log p m.block r }

  -- the inode of a number that was claimed
  abbrev Inode : Progress (Option ℕ) → Type 0
  Inode r = (i : ℕ) → r ≡ Progress.Over (Some i) → IsFree before.current m i → inode_of now.current i ≡ new_inode m.kind

  finds_none : now ≡ before → HasNoFreeInode before.current m.block → lowest_free (block_at before.current m.block) m.inode_count m.block ≡ None → FindsNone n m before now
  finds_none shows taken none = record {
    none = subst (λ (k : ℕ). lowest_free (block_at before.current m.block) k m.block ≡ None) count none;
    full = subst (λ (w : Shown). HasNoFreeInode w.current m.block) (sym shows) taken;
    shown = shows;
  }

  gets_block : (r : Progress (Option ℕ)) → Shows r → BuffersAfter image None m v p r d → SearchGoes None before.current v.buffers m r new → GetsBlock v.buffers m (progress_of_search r) (stage_then r m new) × (now ≡ before)
  gets_block Progress.Moved shows made g = ((g.0, g.1, ap Stage.Creating g.2), shows)
  gets_block (Progress.Sleeping cause) shows made g = ((g.0, refl), shows)
  gets_block (Progress.Over out) shows made g = absurd g
  gets_block (Progress.Fault fault) shows made g = ((made.block, refl), shows)

  looks_at : (s : ℕ) (r : Progress (Option ℕ)) → Shows r → Inode r → SearchGoes (Some s) before.current v.buffers m r new → LooksAtBlock n p m (progress_of_search r) (stage_then r m new) before now
  looks_at s Progress.Moved shows made g = (ap Stage.Creating g.0, finds_none shows (g.3 (count ∙ numbers)) g.2)
  looks_at s (Progress.Sleeping cause) shows made g = absurd g
  looks_at s (Progress.Over None) shows made g =
      (refl, (eqb-true m.block (inode_block (m.inode_count - 1)) g.1 ∙ ap (λ (k : ℕ). inode_block (k - 1)) count, finds_none shows (g.3 (count ∙ numbers)) g.2))
  looks_at s (Progress.Over (Some i)) shows made g = (
    refl,
    record {
      lowest = subst (λ (k : ℕ). lowest_free (block_at before.current m.block) k m.block ≡ Some i) count g.1;
      place = g.2.place;
      free = g.2.free;
      inode = made i refl g.2;
      shown = shows;
    },
  )
  looks_at s (Progress.Fault fault) shows made g = absurd g

  pub goes_from : (o : Option ℕ) (r : Progress (Option ℕ)) → Shows r → Inode r → BuffersAfter image o m v p r d → SearchGoes o before.current v.buffers m r new → GoesFrom o n p m v.buffers (progress_of_search r) (stage_then r m new) before now
  goes_from None r shows inode made g = gets_block r shows made g
  goes_from (Some s) r shows inode made g = looks_at s r shows inode g

-- a search that moved has fewer steps left
fewer : (o : Option ℕ) (n : ℕ) (m new : SearchState) (cur now : Image) (c : Buffers) → m.slot ≡ o → m.inode_count ≡ n → m.block ≤ inode_block (n - 1) → SearchGoes o cur c m Progress.Moved new → steps_left now (Stage.Creating new) n < steps_left cur (Stage.Creating m) n
fewer None n m new cur now c is count last g =
    let before : looks_left m.slot ≡ 2 = ap looks_left is in
    omega (arith, (ap (λ (k : SearchState). steps_left now (Stage.Creating k) n) g.2), before)
fewer (Some s) n m new cur now c is count last g =
    let before : looks_left m.slot ≡ 1 = ap looks_left is in
    let other = eqb-false m.block (inode_block (m.inode_count - 1)) g.1 in
    let same : inode_block (m.inode_count - 1) ≡ inode_block (n - 1) = ap (λ (k : ℕ). inode_block (k - 1)) count in
    omega (arith, (ap (λ (k : SearchState). steps_left now (Stage.Creating k) n) g.0), before, other, same, last)

-- who waits for a buffer, waits for another's
held_by : {D : Type 0} (s : StoreState D) (p : ℕ) (m : SearchState) (o : Option ℕ) → Agrees s.volume.buffers s.volume.log s.table.inode_count s.tasks → (task s.tasks p).stage ≡ Stage.Creating m → m.slot ≡ o
    → (d : Buffers) (slot : Option ℕ) → SearchLocks o (Progress.Sleeping Why.BufferHeld) s.volume.buffers d p m.block slot → IsHeldByAnother s p m.block
held_by s p m None agrees stood none d slot waits = record {
  other = waits.0;
  slot = waits.1;
  apart = λ same. let got : m.slot ≡ Some waits.1 = subst (λ (a : Stage). HasSlot a waits.1) stood (subst (λ (q : ℕ). HasSlot (task s.tasks q).stage waits.1) same (agrees.holders waits.0 m.block waits.1 waits.2)) in let no : None ≡ Some waits.1 = sym none ∙ got in absurd (cc no);
  lock = waits.2;
  got = agrees.holders waits.0 m.block waits.1 waits.2;
}
held_by s p m (Some i) agrees stood got d slot waits = absurd waits

-- a number was claimed
marks_claimed : (x y : Image) (i kind : ℕ) → HasClaimed x i kind y → Marks (Some (Made i)) x y
marks_claimed x y i kind claimed = record {
  size = claimed.size;
  untouched = claimed.untouched;
  others = λ j number other used.
      let apart : j ≢ i = λ same. other (eq-eqb j i same) in
      (λ none. used (ap (λ (d : Dinode). d.kind) (claimed.others j apart) ∙ none), claimed.other_labels j apart);
  fresh = λ j number makes. subst (λ (k : ℕ). labels_of y k ≡ (0, 0)) (sym (eqb-true j i makes)) claimed.own_labels;
}

pub groups_after : (l : LogState) (p b : ℕ) (r : Progress (Option ℕ)) → p < length l.used → SameGroups l (log_after l p b r)
groups_after l p b Progress.Moved lt = groups_same l
groups_after l p b (Progress.Sleeping cause) lt = groups_same l
groups_after l p b (Progress.Over None) lt = groups_same l
groups_after l p b (Progress.Over (Some i)) lt = groups_noted l p b lt
groups_after l p b (Progress.Fault fault) lt = groups_same l

pub logs_after : (l : LogState) (p b : ℕ) (r : Progress (Option ℕ)) → used_by l p ≡ Some 0 → LogsAtMost 1 l p (log_after l p b r)
logs_after l p b Progress.Moved used = inl refl
logs_after l p b (Progress.Sleeping cause) used = inl refl
logs_after l p b (Progress.Over None) used = inl refl
logs_after l p b (Progress.Over (Some i)) used = inr (record { added = 0; used = used; few = omega arith; block = b; is = refl })
logs_after l p b (Progress.Fault fault) used = inl refl

-- what a step of the search came to, in a store with these files
module _ {D : Type 0} (image : D → Image) (s t : StoreState D) (p : ℕ) (m new : SearchState) (op : Op) (r : Progress (Option ℕ))
    (agrees : Agrees s.volume.buffers s.volume.log s.table.inode_count s.tasks) (numbers : s.table.inode_count ≡ inode_count_of (current_of image s.volume)) (inside : p < length s.tasks)
    (stood : (task s.tasks p).stage ≡ Stage.Creating m) (is_op : (task s.tasks p).op ≡ Some op)
    (current : current_of image t.volume ≡ current_after (current_of image s.volume) m r) (claimed_same : (j : ℕ) → claims_of t.tasks j ≡ claims_of s.tasks j) where
  abbrev cur : Image
  cur = current_of image s.volume

  pub mine : IsSearching s.volume.buffers s.volume.log s.table.inode_count p (task s.tasks p).op m
  mine = searching s.volume.buffers s.volume.buffers s.volume.log s.table.inode_count p s.tasks m agrees inside stood

  pub same_op : op ≡ Create m.kind
  same_op = ap (λ (o : Option Op). elim o [ None ↦ Create m.kind | Some q ↦ q ]) (sym is_op ∙ mine.op)

  -- a free number may be named
  number_of : (i : ℕ) → IsFree cur m i → IsTrue (is_number (inode_count_of cur) i)
  number_of i free = subst (λ (n : ℕ). IsTrue (is_number n i)) (mine.count ∙ numbers) free.number

  still : (files : Files) → current_of image t.volume ≡ cur → FitsFiles image s files → FitsFiles image t files
  unfolding FitsFiles
  still files same fits = subst (λ (y : Image). FitsHeld files y (claims_of t.tasks)) (sym same) (held_alike files cur (claims_of s.tasks) (claims_of t.tasks) claimed_same fits)

  claims_file : (files : Files) (i : ℕ) → IsFree cur m i → current_of image t.volume ≡ with_inode cur i (new_inode m.kind) → FitsFiles image s files
      → Answers (form_of cur) (Create m.kind) (Made i) files (FitsFiles image t)
  unfolding FitsFiles
  claims_file files i free now fits =
      let none = (free_tells files cur (claims_of s.tasks) i fits (number_of i free, free.free)).0 in
      let done = claim_fits files cur (claims_of s.tasks) i m.kind fits (number_of i free) none free.free mine.kind in
      let new = with_new_file files i m.kind in
      (new, done.1, subst (λ (y : Image). FitsHeld new y (claims_of t.tasks)) (sym now) (held_alike new (with_inode cur i (new_inode m.kind)) (claims_of s.tasks) (claims_of t.tasks) claimed_same done.0.fits))

  pub files_then : (o : Option ℕ) → SearchGoes o cur s.volume.buffers m r new → (files : Files) → FitsFiles image s files → FilesThen (form_of cur) op (progress_of_search r) files (FitsFiles image t)
  files_then o g files fits = subst (λ (q : Op). FilesThen (form_of cur) q (progress_of_search r) files (FitsFiles image t)) (sym same_op) (by_answer r o g current)
    where
      by_answer : (r : Progress (Option ℕ)) (o : Option ℕ) → SearchGoes o cur s.volume.buffers m r new → current_of image t.volume ≡ current_after cur m r → FilesThen (form_of cur) (Create m.kind) (progress_of_search r) files (FitsFiles image t)
      by_answer Progress.Moved o g now = still files now fits
      by_answer (Progress.Sleeping cause) o g now = still files now fits
      by_answer (Progress.Over None) o g now = (files, after-no_inode (form_of cur) files m.kind mine.kind, still files now fits)
      by_answer (Progress.Over (Some i)) None g now = absurd g
      by_answer (Progress.Over (Some i)) (Some k) g now = claims_file files i g.2 now fits
      by_answer (Progress.Fault fault) o g now = still files now fits

  module _ (geometry : IsLawfulGeometry cur) (full : IsImage cur) (few : m.kind ≤ 3) where
    claimed : (i : ℕ) → IsFree cur m i → HasClaimed cur i m.kind (with_inode cur i (new_inode m.kind))
    claimed i free = claims cur i m.kind geometry (number_of i free) few (full (inode_block i) (within_image cur i geometry (number_of i free))).size

    made : (i : ℕ) → r ≡ Progress.Over (Some i) → IsFree cur m i → inode_of (current_of image t.volume) i ≡ new_inode m.kind
    made i is free = ap (λ (y : Image). inode_of y i) (current ∙ ap (current_after cur m) is) ∙ (claimed i free).own

    shows : t.volume.log ≡ log_after s.volume.log p m.block r → shown_of image t.volume ≡ record { current = current_after cur m r; log = log_after s.volume.log p m.block r }
    shows log = ap (λ (y : Image). record { current = y; log = t.volume.log }) current ∙ ap (λ (l : LogState). record { current = current_after cur m r; log = l }) log

    pub goes_now : (o : Option ℕ) → t.volume.log ≡ log_after s.volume.log p m.block r → BuffersAfter image o m s.volume p r t.volume.buffers → SearchGoes o cur s.volume.buffers m r new
        → GoesFrom o s.table.inode_count p m s.volume.buffers (progress_of_search r) (stage_then r m new) (shown_of image s.volume) (shown_of image t.volume)
    goes_now o log buffers g = goes_from image s.volume p s.table.inode_count m new (shown_of image t.volume) t.volume.buffers mine.count numbers o r (shows log) made buffers g

    fits_held : (files : Files) → FitsFiles image s files → FitsHeld files cur (claims_of s.tasks)
    unfolding FitsFiles
    fits_held files fits = fits

    -- the used numbers stay, and the blocks of data
    pub keeps_now : (o : Option ℕ) → (files : Files) → FitsFiles image s files → SearchGoes o cur s.volume.buffers m r new → KeepsUsed s.table.inode_count 0 (claims_of s.tasks) cur (current_of image t.volume)
    keeps_now o files fits g = by_answer r o g current
      where
        here : current_of image t.volume ≡ cur → KeepsUsed s.table.inode_count 0 (claims_of s.tasks) cur (current_of image t.volume)
        here now = subst (λ (y : Image). KeepsUsed s.table.inode_count 0 (claims_of s.tasks) cur y) (sym now) (keeps_same s.table.inode_count 0 (claims_of s.tasks) cur)

        new_one : (i : ℕ) → IsFree cur m i → current_of image t.volume ≡ with_inode cur i (new_inode m.kind) → KeepsUsed s.table.inode_count 0 (claims_of s.tasks) cur (current_of image t.volume)
        new_one i free now = subst (λ (y : Image). KeepsUsed s.table.inode_count 0 (claims_of s.tasks) cur y) (sym now)
            (subst (λ (n : ℕ). KeepsUsed n 0 (claims_of s.tasks) cur (with_inode cur i (new_inode m.kind))) (sym numbers)
            (keeps_claimed files cur (claims_of s.tasks) i m.kind (fits_held files fits) (number_of i free) free.free mine.kind (claimed i free)))

        by_answer : (r : Progress (Option ℕ)) (o : Option ℕ) → SearchGoes o cur s.volume.buffers m r new → current_of image t.volume ≡ current_after cur m r → KeepsUsed s.table.inode_count 0 (claims_of s.tasks) cur (current_of image t.volume)
        by_answer Progress.Moved o g now = here now
        by_answer (Progress.Sleeping cause) o g now = here now
        by_answer (Progress.Over None) o g now = here now
        by_answer (Progress.Over (Some i)) None g now = absurd g
        by_answer (Progress.Over (Some i)) (Some k) g now = new_one i g.2 now
        by_answer (Progress.Fault fault) o g now = here now

    pub marks_now : (o : Option ℕ) → SearchGoes o cur s.volume.buffers m r new → Marks (reply_at_turn (progress_of_search r)) cur (current_of image t.volume)
    marks_now o g = by_answer r o g current
      where
        nothing : (made : Option Reply) → ((i : ℕ) → is_making i made ≡ true → ⊥) → current_of image t.volume ≡ cur → Marks made cur (current_of image t.volume)
        nothing made none now = subst (λ (y : Image). Marks made cur y) (sym now) (marks_same made cur none)

        by_answer : (r : Progress (Option ℕ)) (o : Option ℕ) → SearchGoes o cur s.volume.buffers m r new → current_of image t.volume ≡ current_after cur m r → Marks (reply_at_turn (progress_of_search r)) cur (current_of image t.volume)
        by_answer Progress.Moved o g now = nothing None (λ i e. false≢true e) now
        by_answer (Progress.Sleeping cause) o g now = nothing None (λ i e. false≢true e) now
        by_answer (Progress.Over None) o g now = nothing (Some NoInode) (λ i e. false≢true e) now
        by_answer (Progress.Over (Some i)) None g now = absurd g
        by_answer (Progress.Over (Some i)) (Some k) g now = subst (λ (y : Image). Marks (Some (Made i)) cur y) (sym now) (marks_claimed cur (with_inode cur i (new_inode m.kind)) i m.kind (claimed i g.2))
        by_answer (Progress.Fault fault) o g now = nothing None (λ i e. false≢true e) now

-- the tasks then
abbrev pub tasks_then : List TaskState → ℕ → SearchState → Progress (Option ℕ) → List TaskState
tasks_then ts p new Progress.Moved = set ts p (record (task ts p) { stage = Stage.Creating new })
tasks_then ts p new (Progress.Sleeping cause) = ts
tasks_then ts p new (Progress.Over made) = set ts p (record (task ts p) { stage = Stage.Nowhere })
tasks_then ts p new (Progress.Fault fault) = ts

-- and the store
abbrev pub store_then : {D : Type 0} → StoreState D → VolumeState D → ℕ → SearchState → Progress (Option ℕ) → StoreState D
store_then s u p new r = record { volume = u; tasks = tasks_then s.tasks p new r; table = s.table }

-- its task alone goes on
pub set_then : (ts : List TaskState) (p : ℕ) (m new : SearchState) (r : Progress (Option ℕ)) → (task ts p).stage ≡ Stage.Creating m → tasks_then ts p new r ≡ set ts p (record (task ts p) { stage = stage_then r m new })
set_then ts p m new Progress.Moved stood = refl
set_then ts p m new (Progress.Sleeping cause) stood = same_task ts p (Stage.Creating m) stood
set_then ts p m new (Progress.Over made) stood = refl
set_then ts p m new (Progress.Fault fault) stood = same_task ts p (Stage.Creating m) stood

-- a search holds no number
pub unclaimed_then : (ts : List TaskState) (p : ℕ) (m new : SearchState) (r : Progress (Option ℕ)) → (task ts p).stage ≡ Stage.Creating m → (j : ℕ) → claim_by (task ts p).op (stage_then r m new) j ≡ claim_of (task ts p) j
unclaimed_then ts p m new r stood j = by_answer r ∙ sym (ap (λ (a : Stage). claim_by (task ts p).op a j) stood)
  where
    by_answer : (r : Progress (Option ℕ)) → claim_by (task ts p).op (stage_then r m new) j ≡ None
    by_answer Progress.Moved = refl
    by_answer (Progress.Sleeping cause) = refl
    by_answer (Progress.Over made) = refl
    by_answer (Progress.Fault fault) = refl

pub claims_then : (ts : List TaskState) (p : ℕ) (m new : SearchState) (r : Progress (Option ℕ)) → (task ts p).stage ≡ Stage.Creating m → (j : ℕ) → claims_of (tasks_then ts p new r) j ≡ claims_of ts j
claims_then ts p m new r stood j =
    ap (λ (us : List TaskState). claims_of us j) (set_then ts p m new r stood) ∙ claim_stays ts p j (record (task ts p) { stage = stage_then r m new }) (unclaimed_then ts p m new r stood j)

-- and nothing of the table
pub ungripped_then : (t : TaskState) (m new : SearchState) (r : Progress (Option ℕ)) → t.stage ≡ Stage.Creating m → grip_of (record t { stage = stage_then r m new }) ≡ grip_of t
ungripped_then t m new r stood = by_answer r ∙ sym (ap (λ (a : Stage). grip_by a (asked_by t.op)) stood)
  where
    by_answer : (r : Progress (Option ℕ)) → grip_by (stage_then r m new) (asked_by t.op) ≡ None
    by_answer Progress.Moved = refl
    by_answer (Progress.Sleeping cause) = refl
    by_answer (Progress.Over made) = refl
    by_answer (Progress.Fault fault) = refl

pub looks_at_then : (x : Image) (table : TableState) (t : TaskState) (m new : SearchState) (r : Progress (Option ℕ)) → LooksAt x table t (stage_then r m new)
looks_at_then x table t m new Progress.Moved = tt
looks_at_then x table t m new (Progress.Sleeping cause) = tt
looks_at_then x table t m new (Progress.Over made) = tt
looks_at_then x table t m new (Progress.Fault fault) = tt

pub fault_then : (r : Progress (Option ℕ)) → fault_of_task (progress_of_search r) ≡ fault_in r
fault_then Progress.Moved = refl
fault_then (Progress.Sleeping cause) = refl
fault_then (Progress.Over made) = refl
fault_then (Progress.Fault fault) = refl

pub asleep_then : {D : Type 0} (s : StoreState D) (u : VolumeState D) (p : ℕ) (new : SearchState) (r : Progress (Option ℕ)) → ((cause : Why) → r ≡ Progress.Sleeping cause → u ≡ s.volume)
    → (cause : Why) → progress_of_search r ≡ TaskProgress.Sleeping cause → store_then s u p new r ≡ s
asleep_then s u p new Progress.Moved same cause is = absurd (cc is)
asleep_then s u p new (Progress.Sleeping other) same cause is = ap (λ (v : VolumeState _). record s { volume = v }) (same other refl)
asleep_then s u p new (Progress.Over made) same cause is = absurd (cc is)
asleep_then s u p new (Progress.Fault fault) same cause is = absurd (cc is)

pub held_then : {D : Type 0} (s : StoreState D) (p : ℕ) (m : SearchState) (r : Progress (Option ℕ)) → Agrees s.volume.buffers s.volume.log s.table.inode_count s.tasks → (task s.tasks p).stage ≡ Stage.Creating m
    → (d : Buffers) (slot : Option ℕ) → SearchLocks m.slot r s.volume.buffers d p m.block slot → progress_of_search r ≡ TaskProgress.Sleeping Why.BufferHeld → IsHeldByAnother s p m.block
held_then s p m Progress.Moved agrees stood d slot locks is = absurd (cc is)
held_then s p m (Progress.Sleeping cause) agrees stood d slot locks is =
    let same : cause ≡ Why.BufferHeld = cc is in
    held_by s p m m.slot agrees stood refl d slot (subst (λ (w : Why). SearchLocks m.slot (Progress.Sleeping w) s.volume.buffers d p m.block slot) same locks)
held_then s p m (Progress.Over made) agrees stood d slot locks is = absurd (cc is)
held_then s p m (Progress.Fault fault) agrees stood d slot locks is = absurd (cc is)

pub falls_then : (n : ℕ) (m new : SearchState) (cur now : Image) (c : Buffers) (r : Progress (Option ℕ)) → m.inode_count ≡ n → m.block ≤ inode_block (n - 1) → SearchGoes m.slot cur c m r new → is_made (progress_of_search r) ≡ true → steps_left now (stage_then r m new) n < steps_left cur (Stage.Creating m) n
falls_then n m new cur now c Progress.Moved count last g is = fewer m.slot n m new cur now c refl count last g
falls_then n m new cur now c (Progress.Sleeping cause) count last g is = absurd (false≢true is)
falls_then n m new cur now c (Progress.Over made) count last g is = let some = some_step cur (Stage.Creating m) n refl in omega (arith, some)
falls_then n m new cur now c (Progress.Fault fault) count last g is = absurd (false≢true is)

-- no search waits for an inode
pub no_inode_held : (o : Option ℕ) (c d : Buffers) (p b : ℕ) (slot : Option ℕ) (r : Progress (Option ℕ)) → SearchLocks o r c d p b slot → progress_of_search r ≡ TaskProgress.Sleeping Why.InodeHeld → ⊥
no_inode_held o c d p b slot Progress.Moved locks is = cc is
no_inode_held o c d p b slot (Progress.Sleeping cause) locks is = waits o (subst (λ (w : Why). SearchLocks o (Progress.Sleeping w) c d p b slot) (let same : cause ≡ Why.InodeHeld = cc is in same) locks)
  where
    waits : (o : Option ℕ) → SearchLocks o (Progress.Sleeping Why.InodeHeld) c d p b slot → ⊥
    waits None never = never
    waits (Some i) never = never
no_inode_held o c d p b slot (Progress.Over made) locks is = cc is
no_inode_held o c d p b slot (Progress.Fault fault) locks is = cc is

-- a creation's number is no reading's: that of a creation is 0, and what it makes was free
pub apart_then : {D : Type 0} (image : D → Image) (s : StoreState D) (p : ℕ) (m new : SearchState) (c : Buffers) (o : Option ℕ) (r : Progress (Option ℕ)) → AreLooking (current_of image s.volume) s.table s.tasks → s.table.inode_count ≡ inode_count_of (current_of image s.volume)
    → SearchGoes o (current_of image s.volume) c m r new → LeavesLate s p (Create m.kind) (progress_of_search r)
apart_then image s p m new c o r looks numbers goes q apart reads = by_answer r o goes
  where
    number : ℕ
    number = asked_by (task s.tasks q).op

    named : 0 ≢ number
    named none =
        let is = late_number (current_of image s.volume) s.table s.tasks looks q reads in
        omega (arith, none, (ltb-true 0 number (both_of (ltb 0 number) (ltb number s.table.inode_count) is).0))

    taken : (i : ℕ) → (inode_of (current_of image s.volume) i).kind ≡ 0 → number ≢ i
    taken i free same = late_used (current_of image s.volume) s.table s.tasks looks numbers q reads (ap (λ (j : ℕ). (inode_of (current_of image s.volume) j).kind) same ∙ free)

    by_answer : (r : Progress (Option ℕ)) (o : Option ℕ) → SearchGoes o (current_of image s.volume) c m r new → LeavesNumber (Create m.kind) (reply_at_turn (progress_of_search r)) number
    by_answer Progress.Moved o goes = tt
    by_answer (Progress.Sleeping cause) o goes = tt
    by_answer (Progress.Over None) o goes = (named, refl)
    by_answer (Progress.Over (Some i)) None goes = absurd goes
    by_answer (Progress.Over (Some i)) (Some k) goes = (named, ne_eqb number i (taken i goes.2.free))
    by_answer (Progress.Fault fault) o goes = tt
