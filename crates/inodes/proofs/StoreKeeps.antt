-- Each call of a store keeps what is true of every store.
use Rattle.std.proofs.Common.{◌≡◌, ◌≢◌, ◌⊎◌, inl, inr, ℕ, ◌<◌, ◌≤◌, Bool, true, false, List, length, set, replicate, refl, sym, ◌∙◌, ap, subst, arith, ⊎_elim, Option, Some, None}
use Rattle.std.specs.Prelude.{IsTrue}
use Rattle.inodes.specs.Common.{Agrees, at_slot, begun, begun_grows, block_at, Buffers, CanBegin, cases_eq, cases_lt, claim_by, claims, claims_of, Create, current_after, current_of, ended_grows, fault_in, first_stage, fresh_buffers, get_or_past, Ghosts, GrowsHomes, HasSlot, HaveLogged, Image, inode_block, inode_count_of, is_among, is_known_magic, is_lawful_super, is_number, is_quiet, IsFree, IsImage, IsLawfulGeometry, IsLogAt, LeavesLocks, log_after, LoggedAt, LogState, new_inode, no_task, none_locked, noted_grows, Op, Progress, Read, Remove, SearchGoes, SearchLocks, SearchState, SearchSteps, Stage, Stands, Stat, stepped_at, super_in, super_of, task, TaskState, Trunc, u32_at, used_begun, used_by, used_ended, used_first, used_noted, VolumeState, Why, with_inode, Write, SetAttribute}
use Rattle.wal.specs.Machine.{ended}
use Rattle.wal.specs.declared.types.Commit.{Commit}
use Rattle.wal.specs.declared.types.Part.{Part}
use Rattle.wal.specs.Lemmas.Log.{is_open, quiet_of}
use Rattle.inodes.specs.Lemmas.Holding.{claim_stays}
use Rattle.inodes.proofs.Agreeing.{TaskIsNow, agrees_now, agrees_still, logged_still, open_still, open_write_still}
use Rattle.inodes.proofs.LooksKept.{none_at}
use Rattle.inodes.proofs.WriteLogged.{logged_alike, logged_set}
use Rattle.inodes.proofs.Searching.{task_got, task_next, task_over, task_waits}
use Rattle.inodes.proofs.Frames.{within_image}
use Rattle.inodes.proofs.StoreSteps.{stage_then}

-- an image with the same superblock and size has the same geometry
pub geometry_kept : (x y : Image) → length y ≡ length x → block_at y 1 ≡ block_at x 1 → IsLawfulGeometry x → IsLawfulGeometry y
geometry_kept x y size same g = record {
  magic = subst (λ (b : List ℕ). IsTrue (is_known_magic (u32_at b 0))) (sym same) g.magic;
  fields = subst (λ (b : List ℕ). IsTrue (is_lawful_super (super_in b) (length y))) (sym same) (subst (λ (n : ℕ). IsTrue (is_lawful_super (super_of x) n)) (sym size) g.fields);
}

pub count_kept : (x y : Image) → block_at y 1 ≡ block_at x 1 → inode_count_of y ≡ inode_count_of x
count_kept x y same = ap (λ (b : List ℕ). (super_in b).ninodes) same

-- process p's task goes on to a stage
abbrev TaskGoes : Buffers → Buffers → LogState → LogState → ℕ → ℕ → List TaskState → Stage → Type 0
TaskGoes c d l k n p ts a = TaskIsNow c d l k n p ts (record (task ts p) { stage = a })

-- where a step of a search that met no fault left its task
pub task_then : {D N : Type 0} (disk : Ghosts D N) (v u : VolumeState D) (n p : ℕ) (ts : List TaskState) (m new : SearchState) (r : Progress (Option ℕ)) → Agrees v.buffers v.log n ts → p < length ts → (task ts p).stage ≡ Stage.Creating m
    → SearchSteps disk m.slot v u p m new r → fault_in r ≡ None → TaskIsNow v.buffers u.buffers v.log u.log n p ts (record (task ts p) { stage = stage_then r m new })
task_then {D} disk v u n p ts m new r agrees lt stood steps well = by_answer r steps.goes steps.locks steps.log steps.asleep well
  where
    got : (o : Option ℕ) → m.slot ≡ o → SearchGoes o (current_of disk.image v) v.buffers m Progress.Moved new → SearchLocks o Progress.Moved v.buffers u.buffers p m.block new.slot → u.log ≡ v.log → TaskGoes v.buffers u.buffers v.log u.log n p ts (Stage.Creating new)
    got None none goes locks log =
        let here : goes.0 ≡ locks.0 = let same : Some goes.0 ≡ Some locks.0 = sym (ap (λ (k : SearchState). k.slot) goes.2) ∙ locks.1 in cc same in
        let is : new ≡ at_slot m locks.0 = goes.2 ∙ ap (at_slot m) here in
        subst (λ (l : LogState). TaskGoes v.buffers u.buffers v.log l n p ts (Stage.Creating new)) (sym log)
        (subst (λ (k : SearchState). TaskGoes v.buffers u.buffers v.log v.log n p ts (Stage.Creating k)) (sym is) (task_got v.buffers u.buffers v.log n p ts m agrees lt stood locks.0 none locks.2))
    got (Some i) slot goes gives log =
        subst (λ (l : LogState). TaskGoes v.buffers u.buffers v.log l n p ts (Stage.Creating new)) (sym log)
        (subst (λ (k : SearchState). TaskGoes v.buffers u.buffers v.log v.log n p ts (Stage.Creating k)) (sym goes.0) (task_next v.buffers u.buffers v.log n p ts m agrees lt stood i slot gives goes.1))

    over : (made : Option ℕ) (o : Option ℕ) → m.slot ≡ o → SearchLocks o (Progress.Over made) v.buffers u.buffers p m.block new.slot → GrowsHomes v.log u.log → ((q : ℕ) → q ≢ p → used_by u.log q ≡ used_by v.log q) → TaskGoes v.buffers u.buffers v.log u.log n p ts Stage.Nowhere
    over made None none locks grows used = absurd locks
    over made (Some i) slot gives grows used = task_over v.buffers u.buffers v.log n p ts m agrees lt stood i slot gives u.log grows used

    by_answer : (r : Progress (Option ℕ)) → SearchGoes m.slot (current_of disk.image v) v.buffers m r new → SearchLocks m.slot r v.buffers u.buffers p m.block new.slot → u.log ≡ log_after v.log p m.block r
        → ((cause : Why) → r ≡ Progress.Sleeping cause → u ≡ v) → fault_in r ≡ None → TaskGoes v.buffers u.buffers v.log u.log n p ts (stage_then r m new)
    by_answer Progress.Moved goes locks log asleep well = got m.slot refl goes locks log
    by_answer (Progress.Sleeping cause) goes locks log asleep well =
        subst (λ (w : VolumeState D). TaskGoes v.buffers w.buffers v.log w.log n p ts (Stage.Creating m)) (sym (asleep cause refl)) (task_waits v.buffers v.buffers v.log n p ts m agrees lt stood)
    by_answer (Progress.Over None) goes locks log asleep well = over None m.slot refl locks (λ h among. ap (λ (l : LogState). is_among h l.homes) log ∙ among) (λ q apart. ap (λ (l : LogState). used_by l q) log)
    by_answer (Progress.Over (Some i)) goes locks log asleep well =
        over (Some i) m.slot refl locks (λ h among. ap (λ (l : LogState). is_among h l.homes) log ∙ noted_grows v.log p m.block h among) (λ q apart. ap (λ (l : LogState). used_by l q) log ∙ used_noted v.log p q m.block apart)
    by_answer (Progress.Fault fault) goes locks log asleep well = absurd (cc well)

-- a task begins
pub agrees_begun : (c : Buffers) (l : LogState) (n p : ℕ) (op : Op) (ts : List TaskState) → Agrees c l n ts → p < length ts → p < length l.used → (task ts p).stage ≡ Stage.Nowhere → CanBegin n op → Agrees c (begun l p) n (set ts p (record { op = Some op; stage = first_stage op n; gathered = None }))
agrees_begun c l n p op ts agrees lt pid stood can = agrees_now c c l (begun l p) n p ts (record { op = Some op; stage = first_stage op n; gathered = None }) (record {
  agrees = agrees;
  inside = lt;
  others = record { holds = λ q b i apart has. has; locks = λ q b i apart has. has; used = λ q apart. used_begun l p q apart; among = begun_grows l p };
  stands = begins op can;
  locks = λ b i has. let no : None ≡ Some i = subst (λ (a : Stage). HasSlot a i) stood (agrees.holders p b i has) in absurd (cc no);
})
  where
    begins : (op : Op) → CanBegin n op → Stands c (begun l p) n p (Some op) (first_stage op n)
    begins (Create kind) can = record { op = refl; used = used_first l p pid; count = refl; kind = can; behind = omega arith; last = omega arith; holds = tt }
    begins (Write i off bytes) can = (tt, used_first l p pid)
    begins (Read i off m) can = absurd can
    begins (Trunc i) can = (tt, used_first l p pid)
    begins (Remove i) can = (tt, used_first l p pid)
    begins (Stat i) can = absurd can
    begins (SetAttribute i a) can = (tt, used_first l p pid)

-- which holds nothing yet
pub begun_claims : (ts : List TaskState) (p : ℕ) (op : Op) (n : ℕ) → (task ts p).stage ≡ Stage.Nowhere → (j : ℕ) → claims_of (set ts p (record { op = Some op; stage = first_stage op n; gathered = None })) j ≡ claims_of ts j
begun_claims ts p op n stood j = claim_stays ts p j (record { op = Some op; stage = first_stage op n; gathered = None }) (by_op op ∙ sym (ap (λ (a : Stage). claim_by (task ts p).op a j) stood))
  where
    by_op : (op : Op) → claim_by (Some op) (first_stage op n) j ≡ None
    by_op (Create kind) = refl
    by_op (Write i off bytes) = refl
    by_op (Read i off m) = refl
    by_op (Trunc i) = refl
    by_op (Remove i) = refl
    by_op (Stat i) = refl
    by_op (SetAttribute i a) = refl

-- an operation ends whose task is over
pub agrees_ended : (c : Buffers) (l : LogState) (n p : ℕ) (ts : List TaskState) → Agrees c l n ts → (task ts p).stage ≡ Stage.Nowhere → Agrees c (ended l p) n ts
agrees_ended c l n p ts agrees stood = record {
  stands = λ q. ⊎_elim
      (λ (same : q ≡ p). subst (λ (r : ℕ). Stands c (ended l p) n r (task ts r).op (task ts r).stage) (sym same) (subst (λ (a : Stage). Stands c (ended l p) n p (task ts p).op a) (sym stood) tt))
      (λ (apart : q ≢ p). by_place q apart (task ts q) (task ts q).stage (agrees.stands q))
      (cases_eq q p);
  holders = agrees.holders;
}
  where
    by_place : (q : ℕ) → q ≢ p → (t : TaskState) (a : Stage) → Stands c l n q t.op a → Stands c (ended l p) n q t.op a
    by_place q apart t Stage.Nowhere s = tt
    by_place q apart t (Stage.Creating m) s = record { op = s.op; used = used_ended l p q apart ∙ s.used; count = s.count; kind = s.kind; behind = s.behind; last = s.last; holds = s.holds }
    by_place q apart t (Stage.Taking m) s = (s.0, open_still l (ended l p) q t.op (used_ended l p q apart) s.1)
    by_place q apart t (Stage.Reading k m) s = s
    by_place q apart t (Stage.Delivering k) s = s
    by_place q apart t (Stage.Truncating k m) s = record { logged = logged_still l (ended l p) q m.machine.bitmap (used_ended l p q apart) (λ one has. ended_grows l p m.machine.bitmap has) s.logged; holds = s.holds }
    by_place q apart t (Stage.Writing k m) s = record { logged = open_write_still l (ended l p) q (used_ended l p q apart) s.logged; kept = s.kept; used = s.used }
    by_place q apart t (Stage.Setting k d u) s = record { used = used_ended l p q apart ∙ s.used; holds = s.holds }
    by_place q apart t (Stage.Leaving k) s = s

-- a step of a commit
used_stepped : (h : Bool) (k : Commit) (l : LogState) (q : ℕ) → used_by (stepped_at h k l) q ≡ used_by l q
used_stepped h Commit.Quiet l q = refl
used_stepped h (Commit.Logging j) l q = refl
used_stepped h Commit.Heading l q = refl
used_stepped h (Commit.Homing j) l q = refl
used_stepped h Commit.Clearing l q = refl
used_stepped h (Commit.Syncing Part.Log) l q = refl
used_stepped h (Commit.Syncing Part.Header) l q = refl
used_stepped h (Commit.Syncing Part.Homes) l q = refl
used_stepped h (Commit.Syncing Part.Clear) l q = refl

pub used_committed : (h : Bool) (l m : LogState) → (m ≡ stepped_at h l.commit l) ⊎ (m ≡ l) → (q : ℕ) → used_by m q ≡ used_by l q
used_committed h l m (inl made) q = ap (λ (k : LogState). used_by k q) made ∙ used_stepped h l.commit l q
used_committed h l m (inr same) q = ap (λ (k : LogState). used_by k q) same

-- while a commit is under way, nobody has an operation open
none_open : (l : LogState) (q k : ℕ) → IsLogAt l.commit l → is_quiet l.commit ≡ false → used_by l q ≡ Some k → ⊥
none_open l q k is busy used = ⊎_elim inside outside (cases_lt q 32)
  where
    inside : q < 32 → ⊥
    inside lt = let quiet = quiet_of l.commit l is (is_open l l.commit q k is lt used) in let no : true ≡ false = sym (ap is_quiet quiet) ∙ busy in cc no

    outside : 32 ≤ q → ⊥
    outside past = let no : None ≡ Some k = sym (get_or_past l.used q None (let size = is.pids in omega (arith, past, size))) ∙ used in cc no

pub agrees_committed : (h : Bool) (c d : Buffers) (l m : LogState) (n : ℕ) (ts : List TaskState) → (m ≡ stepped_at h l.commit l) ⊎ (m ≡ l) → LeavesLocks c d → IsLogAt l.commit l → is_quiet l.commit ≡ false → Agrees c l n ts → Agrees d m n ts
agrees_committed h c d l m n ts made leaves log busy agrees = agrees_still c d l m n ts leaves.held leaves.none (used_committed h l m made) (λ q k b used has. absurd (none_open l q k log busy used)) agrees

-- what writes logged counts still
pub logged_begun : (cur : Image) (l : LogState) (n p : ℕ) (op : Op) (ts : List TaskState) → p < length ts → HaveLogged cur l ts → HaveLogged cur (begun l p) (set ts p (record { op = Some op; stage = first_stage op n; gathered = None }))
logged_begun cur l n p op ts inside had =
    logged_set cur l (begun l p) ts p (record { op = Some op; stage = first_stage op n; gathered = None }) inside (begun_grows l p) (λ q apart. used_begun l p q apart) (by_op op) had
  where
    by_op : (o : Op) → LoggedAt cur (begun l p) p (first_stage o n)
    by_op (Create kind) = tt
    by_op (Write i off bytes) = tt
    by_op (Read i off m) = tt
    by_op (Trunc i) = tt
    by_op (Remove i) = tt
    by_op (Stat i) = tt
    by_op (SetAttribute i a) = tt

pub logged_ended : (cur : Image) (l : LogState) (p : ℕ) (ts : List TaskState) → (task ts p).stage ≡ Stage.Nowhere → HaveLogged cur l ts → HaveLogged cur (ended l p) ts
logged_ended cur l p ts stood had q =
    ⊎_elim
    (λ (own : q ≡ p). subst (λ (r : ℕ). LoggedAt cur (ended l p) r (task ts r).stage) (sym own) (subst (LoggedAt cur (ended l p) p) (sym stood) tt))
    (λ (apart : q ≢ p). logged_alike cur l (ended l p) q (task ts q).stage (λ homes b used has. ended_grows l p b has) (used_ended l p q apart) (had q))
    (cases_eq q p)

pub logged_committed : (h : Bool) (now : Image) (l m : LogState) (ts : List TaskState) → (m ≡ stepped_at h l.commit l) ⊎ (m ≡ l) → IsLogAt l.commit l → is_quiet l.commit ≡ false → HaveLogged now m ts
logged_committed h now l m ts made log busy q = by_place (task ts q).stage
  where
    by_place : (a : Stage) → LoggedAt now m q a
    by_place Stage.Nowhere = tt
    by_place (Stage.Creating w) = tt
    by_place (Stage.Taking w) = tt
    by_place (Stage.Reading k w) = tt
    by_place (Stage.Delivering k) = tt
    by_place (Stage.Truncating k w) = tt
    by_place (Stage.Writing k w) = λ homes used. absurd (none_open l q homes log busy (sym (used_committed h l m made q) ∙ used))
    by_place (Stage.Setting k d u) = tt
    by_place (Stage.Leaving k) = tt

pub logged_opened : (cur : Image) (l : LogState) (k : ℕ) → HaveLogged cur l (replicate k no_task)
logged_opened cur l k p = subst (λ (t : TaskState). LoggedAt cur l p t.stage) (sym (none_at k p)) tt

-- no task is under way at the opening
pub agrees_opened : (l : LogState) (n k : ℕ) → Agrees fresh_buffers l n (replicate k no_task)
agrees_opened l n k = record {
  stands = λ p. subst (λ (t : TaskState). Stands fresh_buffers l n p t.op t.stage) (sym (none_at k p)) tt;
  holders = λ p b i has. absurd (none_locked p b i has);
}

-- a step of a search keeps geometry and count
pub geometry_then : (cur now : Image) (c : Buffers) (m : SearchState) (r : Progress (Option ℕ)) (new : SearchState) (o : Option ℕ) → IsLawfulGeometry cur → IsImage cur → m.inode_count ≡ inode_count_of cur → m.kind ≤ 3 → SearchGoes o cur c m r new
    → now ≡ current_after cur m r → IsLawfulGeometry now × (inode_count_of now ≡ inode_count_of cur)
geometry_then cur now c m r new o g full count few goes current = by_answer r o goes current
  where
    same : now ≡ cur → IsLawfulGeometry now × (inode_count_of now ≡ inode_count_of cur)
    same is = (subst IsLawfulGeometry (sym is) g, ap inode_count_of is)

    claimed : (i : ℕ) → IsFree cur m i → now ≡ with_inode cur i (new_inode m.kind) → IsLawfulGeometry now × (inode_count_of now ≡ inode_count_of cur)
    claimed i free is =
        let number : IsTrue (is_number (inode_count_of cur) i) = subst (λ (n : ℕ). IsTrue (is_number n i)) count free.number in
        let h = claims cur i m.kind g number few (full (inode_block i) (within_image cur i g number)).size in
        let super = h.elsewhere 1 (λ e. omega (arith, e)) in
        (subst IsLawfulGeometry (sym is) (geometry_kept cur (with_inode cur i (new_inode m.kind)) h.size super g), ap inode_count_of is ∙ count_kept cur (with_inode cur i (new_inode m.kind)) super)

    by_answer : (r : Progress (Option ℕ)) (o : Option ℕ) → SearchGoes o cur c m r new → now ≡ current_after cur m r → IsLawfulGeometry now × (inode_count_of now ≡ inode_count_of cur)
    by_answer Progress.Moved o goes is = same is
    by_answer (Progress.Sleeping cause) o goes is = same is
    by_answer (Progress.Over None) o goes is = same is
    by_answer (Progress.Over (Some i)) None goes is = absurd goes
    by_answer (Progress.Over (Some i)) (Some k) goes is = claimed i goes.2 is
    by_answer (Progress.Fault fault) o goes is = same is
