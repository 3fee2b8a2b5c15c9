-- Each step of a truncation keeps what is true of every store, and does what a step promises.
use Rattle.std.proofs.Common.{◌≡◌, ◌≢◌, ⊎_elim, ℕ, ◌<◌, Bool, true, false, cond, eqb, List, length, set, refl, sym, ◌∙◌, ap, subst, arith, Option, Some, None, inl, inr}
use Rattle.std.specs.Prelude.{IsTrue}
use Rattle.inodes.specs.Common.{after_trunc, Agrees, answer_by, AreLooking, asked_by, block_at, block_next, block_of_got, Buffers, CanTake, Changes, Claim, claim_by, Claims, claims_of, cond-false, current_of, DiskFault, entries_kept, false≢true, fault_of_task, Files, FitsHeld, form_same, Freeing, frees, FreesOn, Get, get_or-set_same, GetsFor, GetsNext, Ghosts, GivesUpLock, Got, grips_of, groups_noted, groups_same, HasLock, HasLogged, HasSlot, held_alike, held_of, Image, inode_left, is_number, IsClaimedNow, IsHeldByAnother, IsKept, IsLocked, IsStore, IsTruncating, Itrunc, Joint, KeepsTable, locked_grip, LogState, LooksAt, Marks, ne_eqb, no_task, now_of, Op, stage_of_trunc, Progress, progress_of, progress_of_trunc, Reads, Remove, renewed, SameGroups, seen, slot_kept, Stage, Stands, stays_got, stays_left, stays_noted, stays_same, StaysForOthers, Steps, StoreState, table_of_trunc, TableState, task, TaskProgress, TaskState, Trunc, trunc_op, TruncAt, VolumeState, WaitsFor, when_got, Why, LogsAtMost, most_logged, used_by}
use Rattle.wal.specs.Get as get
use Rattle.inodes.specs.Lemmas.Freeing.{IsDone, use_done}
use Rattle.inodes.specs.Lemmas.Holding.{own_holds}
use Rattle.inodes.specs.Lemmas.Looks.{trunc_number}
use Rattle.inodes.specs.Lemmas.Unclaimed.{claim_of_locked}
use Rattle.inodes.proofs.AtWork.{Does, MakesOf, StandsSo, Works, store_worked, steps_worked}
use Rattle.inodes.proofs.Frames.{marks_same}
use Rattle.inodes.proofs.Getting.{fault_of, reads_none}
use Rattle.inodes.proofs.LooksKept.{KeepsUsed, keeps_same}
use Rattle.inodes.proofs.TruncFiles.{same_claims}
use Rattle.inodes.proofs.TruncGot.{HasGot, has_taken, has_used, waits_apart}
use Rattle.inodes.proofs.TruncMakes.{HasNone, Makes, makes}
use Rattle.inodes.proofs.TruncSlots.{gains, never_over, reads_for, sleeps, waiting}
use Rattle.inodes.proofs.Truncating.{agrees, alone, got, gripped, keeps_apart, looking, never_gets, one_kept, second_apart, work, holds}

-- it holds no other number
no_claim : (k j : ℕ) (m : Freeing) → m.machine.number ≢ j → claim_by None (Stage.Truncating k m) j ≡ None
no_claim k j m apart = cond-false (eqb m.machine.number j) (Some (frees (held_of m.machine))) None (ne_eqb m.machine.number j apart)

-- the operation of a truncation may take its inode
can_take : (n i : ℕ) (removes : Bool) → CanTake n (Trunc i) → CanTake n (cond removes (Remove i) (Trunc i))
can_take n i true can = can
can_take n i false can = can

-- the end leaves nothing
none_slot : (o : Option Got) (i : ℕ) → block_of_got o ≡ None → slot_kept o ≡ Some i → ⊥
none_slot None i none has = cc has
none_slot (Some g) i none has = cc none

none_locked : (c : Buffers) (p : ℕ) (n : Freeing) → HasGot c p n → HasNone n → (b i : ℕ) → HasLock c p b i → ⊥
none_locked c p n had none b i lock = ⊎_elim
    (λ (old : IsKept n.kept i). ⊎_elim
    (λ (one : slot_kept n.kept.inner ≡ Some i). none_slot n.kept.inner i none.inner one)
    (λ (one : slot_kept n.kept.outer ≡ Some i). none_slot n.kept.outer i none.outer one)
    old)
    (λ (mine : slot_kept (now_of n) ≡ Some i). none_slot (now_of n) i (ap block_of_got none.now) mine)
    (had.locks b i lock)

-- what the use of a block leaves to the others, and makes of disk and log
record Leaves {D : Type 0} (v w : VolumeState D) (p i : ℕ) : Type 0 where
  device : w.device ≡ v.device
  fault : w.fault ≡ v.fault
  locks : GivesUpLock v.buffers w.buffers p i
  others : StaysForOthers v.buffers w.buffers v.log w.log p
  groups : p < length v.log.used → SameGroups v.log w.log
  logs : (u : ℕ) → used_by v.log p ≡ Some u → u < 2 → LogsAtMost 2 v.log p w.log

leaves : {D N : Type 0} (disk : Ghosts D N) (v w : VolumeState D) (p i b : ℕ) (o : Option Image) → Changes disk v p i b o w → Leaves v w p i
leaves disk v w p i b None does =
    let log = sym (ap (λ (u : VolumeState _). u.log) does.volume) in
    record {
      device = ap (λ (u : VolumeState _). u.device) does.volume;
      fault = ap (λ (u : VolumeState _). u.fault) does.volume;
      locks = does.locks;
      others = subst (λ (l : LogState). StaysForOthers v.buffers w.buffers v.log l p) log (stays_left v.buffers w.buffers v.log p i does.locks);
      groups = λ lt. subst (SameGroups v.log) log (groups_same v.log);
      logs = λ u used few. subst (LogsAtMost 2 v.log p) log (inl refl);
    }
leaves disk v w p i b (Some y) does = record {
  device = does.device;
  fault = does.fault;
  locks = does.locks;
  others = subst (λ (l : LogState). StaysForOthers v.buffers w.buffers v.log l p) (sym does.log) (stays_noted v.buffers w.buffers v.log p i b does.locks);
  groups = λ lt. subst (SameGroups v.log) (sym does.log) (groups_noted v.log p b lt);
  logs = λ u used few. subst (LogsAtMost 2 v.log p) (sym does.log) (inr (record { added = u; used = used; few = few; block = b; is = refl }));
}

-- what frees blocks added one at most
few_logged : (l : LogState) (p b : ℕ) → HasLogged l p b → (u : ℕ) × (used_by l p ≡ Some u) × (u < 2)
few_logged l p b (inl none) = (0, none, omega arith)
few_logged l p b (inr one) = (1, one.0, omega arith)

-- process p frees a file's blocks
module _ {D N : Type 0} (disk : Ghosts D N) (s : StoreState D) (p k : ℕ) (m : Freeing) (is : IsStore disk.image s) (well : s.volume.fault ≡ None)
    (stood : (task s.tasks p).stage ≡ Stage.Truncating k m) (inside : p < length s.tasks) (joint : Joint (disk.image s.volume.device) s.volume.buffers s.volume.log)
    (q : Progress (Unit {0})) (n : Freeing) (w : VolumeState D) (ts : List TaskState) (steps : FreesOn disk (now_of m) s.volume p m q n w) where
  abbrev i : ℕ
  i = m.machine.number

  abbrev cur : Image
  cur = current_of disk.image s.volume

  abbrev now : Image
  now = current_of disk.image w

  abbrev claims : Claims
  claims = claims_of s.tasks

  abbrev op : Option Op
  op = (task s.tasks p).op

  abbrev count : ℕ
  count = s.table.inode_count

  abbrev here : Stage
  here = Stage.Truncating k m

  abbrev next : Stage
  next = stage_of_trunc k m n q

  abbrev tab : TableState
  tab = table_of_trunc s.table k m q

  -- its task then, and the store
  abbrev pub task_then : TaskState
  task_then = record (task s.tasks p) { stage = next }

  abbrev then_with : TableState → StoreState D
  then_with t = record { volume = w; tasks = ts; table = t }

  abbrev pub store_then : StoreState D
  store_then = then_with tab

  made : Makes disk s p k m is well stood inside joint q n w
  made = makes disk s p k m is well stood inside joint q n w steps

  working : IsTruncating cur count (task s.tasks p) m
  working = work disk s p k m is well stood

  has : HasGot s.volume.buffers p m
  has = got disk s p k m is well stood

  are : AreLooking cur s.table s.tasks
  are = looking disk s p k m is well stood

  works : Works disk s p k i here
  works = record {
    is = is;
    well = well;
    inside = inside;
    stood = stood;
    looking = are;
    gripped = gripped disk s p k m is well stood;
    alone = λ other j apart theirs. alone disk s p k m is well stood other j apart theirs;
    apart = λ j other. no_claim k j m (λ same. other (sym same));
  }

  grip_then : Some (locked_grip k (asked_by op)) ≡ Some (locked_grip k i)
  grip_then = ap (λ (j : ℕ). Some (locked_grip k j)) (trunc_number cur s.table s.tasks are p k m stood)

  -- a step that has to wait, or fails, gets a block
  gets : (IsDone q → ⊥) → (now_of m ≡ None) × GetsNext disk s.volume p m q n w
  gets undone = by_used (now_of m) refl steps
    where
      by_used : (o : Option Got) → now_of m ≡ o → FreesOn disk o s.volume p m q n w → (now_of m ≡ None) × GetsNext disk s.volume p m q n w
      by_used None none steps = (none, steps)
      by_used (Some g) some steps = absurd (undone (subst IsDone (sym steps.answer) (use_done m.machine.at)))

  reads : (r : TaskProgress) (t : TableState) → fault_of_task r ≡ fault_of q → Reads disk s r (then_with t)
  reads r t same = by_used (now_of m) steps
    where
      well_done : (a : Progress (Unit {0})) → IsDone a → fault_of a ≡ None
      well_done Progress.Moved done = refl
      well_done (Progress.Sleeping cause) done = absurd done
      well_done (Progress.Over out) done = refl
      well_done (Progress.Fault fault) done = absurd done

      by_used : (o : Option Got) → FreesOn disk o s.volume p m q n w → Reads disk s r (then_with t)
      by_used None steps = reads_for disk s (then_with t) p (block_next m) q steps.slot steps.gets r same
      by_used (Some g) steps =
          let left = leaves disk s.volume w p g.slot (block_next m) _ steps.changes in
          reads_none disk s (then_with t) left.device (left.fault ∙ well) r (same ∙ ap fault_of steps.answer ∙ well_done (answer_by m.machine.at) (use_done m.machine.at))

  groups : SameGroups s.volume.log w.log
  groups = by_used (now_of m) steps
    where
      by_used : (o : Option Got) → FreesOn disk o s.volume p m q n w → SameGroups s.volume.log w.log
      by_used None steps = subst (SameGroups s.volume.log) (sym steps.gets.reads.log) (groups_same s.volume.log)
      by_used (Some g) steps =
          (leaves disk s.volume w p g.slot (block_next m) _ steps.changes).groups (omega (arith, is.few, joint.log.pids, inside))

  two : LogsAtMost 2 s.volume.log p w.log
  two = by_used (now_of m) steps
    where
      by_used : (o : Option Got) → FreesOn disk o s.volume p m q n w → LogsAtMost 2 s.volume.log p w.log
      by_used None steps = subst (LogsAtMost 2 s.volume.log p) (sym steps.gets.reads.log) (inl refl)
      by_used (Some g) steps =
          let some = few_logged s.volume.log p m.machine.bitmap (holds disk s p k m is well stood).logged in
          (leaves disk s.volume w p g.slot (block_next m) _ steps.changes).logs some.0 some.1 some.2

  most_two : most_logged s.table.form (trunc_op m.machine) ≡ 2
  most_two = by m.machine.removes
    where
      by : (b : Bool) → most_logged s.table.form (cond b (Remove m.machine.number) (Trunc m.machine.number)) ≡ 2
      by true = refl
      by false = refl

  logs : (its : Op) → its ≡ trunc_op m.machine → LogsAtMost (most_logged s.table.form its) s.volume.log p w.log
  logs its mine = subst (λ (most : ℕ). LogsAtMost most s.volume.log p w.log) (sym (ap (most_logged s.table.form) mine ∙ most_two)) two

  -- ---- the step was made

  -- what it got then, and what it leaves to the others
  record Comes : Type 0 where
    others : StaysForOthers s.volume.buffers w.buffers s.volume.log w.log p
    has_then : HasGot w.buffers p n

  comes : IsDone q → Comes
  comes done = by_used (now_of m) refl steps
    where
      moved : (slot : Option ℕ) → GetsFor disk s.volume p (block_next m) q slot w → (r : Progress (Unit {0})) → q ≡ r → IsDone r → q ≡ Progress.Moved
      moved slot gets Progress.Moved is done = is
      moved slot gets (Progress.Sleeping cause) is done = absurd done
      moved slot gets (Progress.Over out) is done = absurd (never_over disk s store_then p (block_next m) q slot gets out is)
      moved slot gets (Progress.Fault fault) is done = absurd done

      by_used : (o : Option Got) → now_of m ≡ o → FreesOn disk o s.volume p m q n w → Comes
      by_used None none steps =
          let gain = gains disk s store_then p (block_next m) q steps.slot steps.gets (moved steps.slot steps.gets q refl done) in
          record {
            others = subst (λ (l : LogState). StaysForOthers s.volume.buffers w.buffers s.volume.log l p) (sym steps.gets.reads.log) (stays_got s.volume.buffers w.buffers s.volume.log p (block_next m) gain.at gain.locks);
            has_then = subst (HasGot w.buffers p) (sym (steps.next ∙ ap (λ (o : Option ℕ). when_got cur o m) gain.is))
                (has_taken s.volume.buffers p m has w.buffers gain.at none gain.locks (block_at cur (block_next m)) m.machine.at refl
                (λ b at. one_kept disk s p k m is well stood b at) (never_gets disk s p k m is well stood none));
          }
      by_used (Some g) here steps =
          let left = leaves disk s.volume w p g.slot (block_next m) _ steps.changes in
          record {
            others = left.others;
            has_then = subst (HasGot w.buffers p) (sym steps.next)
                (has_used s.volume.buffers p m has w.buffers g here left.locks (entries_kept cur m g) (keeps_apart disk s p k m is well stood) (λ h last at. second_apart disk s p k m is well stood h last at));
          }

  table_then : (r : Progress (Unit {0})) → q ≡ r → KeepsTable s.table (table_of_trunc s.table k m r) p (grips_of s.tasks) (grips_of s.tasks) now
  table_then r is = subst (λ (r : Progress (Unit {0})). KeepsTable s.table (table_of_trunc s.table k m r) p (grips_of s.tasks) (grips_of s.tasks) now) is made.table

  -- what it makes of log, image and table
  makes_by : (its : Op) → its ≡ trunc_op m.machine → (r : Progress (Unit {0})) → q ≡ r → (table_of_trunc s.table k m r).inode_count ≡ count → (table_of_trunc s.table k m r).form ≡ s.table.form
      → MakesOf disk s p k i here its w (table_of_trunc s.table k m r)
  makes_by its mine r is numbers form = record {
    numbers = numbers;
    form = form;
    groups = groups;
    logs = logs its mine;
    marks = made.marks;
    keeps = made.keeps;
    table = table_then r is;
  }

  -- it goes on
  does_go : (its : Op) → its ≡ trunc_op m.machine → q ≡ Progress.Moved → Does disk s p k i here TaskProgress.Moved (Stage.Truncating k n) w s.table ts its
  does_go its mine moved =
      let to = comes (subst IsDone (sym moved) tt) in
      let on = made.on moved in
      let number : n.machine.number ≡ i = ap (λ (o : Itrunc). o.number) on.same in
      let own : claim_by None (Stage.Truncating k n) i ≡ Some (frees (held_of n.machine)) = subst (λ (j : ℕ). claim_by None (Stage.Truncating k n) j ≡ Some (frees (held_of n.machine))) number (own_holds k n) in
      let less = on.less in
      record {
        reads = reads TaskProgress.Moved s.table (sym (ap fault_of moved));
        makes = makes_by its mine Progress.Moved moved refl refl;
        files = λ new claimed files fits. on.fits new (subst (λ (c : Option Claim). IsClaimedNow claims i c new) own claimed) files fits;
        apart_then = λ j apart. no_claim k j n (λ same. apart (sym same ∙ number));
        grip = grip_then;
        stands = λ fine. record {
          others = to.others;
          locks = to.has_then.locks;
          stands = record { logged = subst (HasLogged w.log p) (sym (ap (λ (o : Itrunc). o.bitmap) on.same)) on.logged; holds = to.has_then.holds };
          looks = record {
            op = working.op ∙ ap (λ (o : Itrunc). Some (trunc_op o)) (sym on.same);
            number = subst (λ (j : ℕ). IsTrue (is_number count j)) (sym number) working.number;
            bitmap = ap (λ (o : Itrunc). o.bitmap) on.same ∙ working.bitmap;
            form = ap (λ (o : Itrunc). o.form) on.same ∙ working.form ∙ sym (form_same cur now made.marks.untouched.super);
            slot = on.slot;
            given = on.given;
            keeps = on.keeps;
          };
          logged = tt;
        };
        late = refl;
        asleep = λ cause waits. absurd (cc waits);
        held = λ waits. absurd (cc waits);
        inode = λ waits. absurd (cc waits);
        less = λ is. omega (arith, less);
      }

  -- or is at its end
  does_end : (its : Op) → its ≡ trunc_op m.machine → q ≡ Progress.Over tt → Does disk s p k i here TaskProgress.Moved (Stage.Leaving k) w (renewed s.table k (inode_left m.machine)) ts its
  does_end its mine over =
      let to = comes (subst IsDone (sym over) tt) in
      let some = (made.over over).1 in
      record {
        reads = reads TaskProgress.Moved (renewed s.table k (inode_left m.machine)) (sym (ap fault_of over));
        makes = makes_by its mine (Progress.Over tt) over refl refl;
        files = made.rests over;
        apart_then = λ j apart. refl;
        grip = grip_then;
        stands = λ fine. record {
          others = to.others;
          locks = λ b j lock. absurd (none_locked w.buffers p n to.has_then (made.over over).0 b j lock);
          stands = tt;
          looks = record { op = trunc_op m.machine; is = working.op; can = can_take count i m.machine.removes working.number };
          logged = tt;
        };
        late = refl;
        asleep = λ cause waits. absurd (cc waits);
        held = λ waits. absurd (cc waits);
        inode = λ waits. absurd (cc waits);
        less = λ is. omega (arith, some);
      }

  -- ---- it was not

  module _ (undone : IsDone q → ⊥) where
    image_same : now ≡ cur
    image_same = (gets undone).1.gets.reads.current

    own_claim : claims i ≡ claim_by op here i
    own_claim = claim_of_locked cur s.table s.tasks are p k i works.gripped ∙ ap (λ (a : Stage). claim_by op a i) stood

    fits_still : (new : Claims) → IsClaimedNow claims i (claim_by op here i) new → (files : Files) → FitsHeld files cur claims → FitsHeld files now new
    fits_still new claimed files fits = subst (λ (x : Image). FitsHeld files x new) (sym image_same) (held_alike files cur claims new (same_claims claims new i (claim_by op here i) own_claim claimed) fits)

    makes_none : (its : Op) → its ≡ trunc_op m.machine → MakesOf disk s p k i here its w s.table
    makes_none its mine = record {
      numbers = refl;
      form = refl;
      groups = groups;
      logs = logs its mine;
      marks = subst (Marks None cur) (sym image_same) (marks_same None cur (λ j makes. absurd (false≢true makes)));
      keeps = subst (KeepsUsed count i claims cur) (sym image_same) (keeps_same count i claims cur);
      table = subst (KeepsTable s.table s.table p (grips_of s.tasks) (grips_of s.tasks)) (sym image_same)
          (record { table = are.table; others = λ q j i other locks. record { number = λ e. refl; holder = refl; copy = refl } });
    }

  -- it has to wait
  module _ (cause : Why) (waits : q ≡ Progress.Sleeping cause) where
    undone : IsDone q → ⊥
    undone done = subst IsDone waits done

    agrees_now : Agrees s.volume.buffers s.volume.log count s.tasks
    agrees_now = agrees disk s p k m is well stood

    slept : w ≡ s.volume
    slept = let step = (gets undone).1 in sleeps disk s store_then p (block_next m) q step.slot step.gets cause waits

    waits_for : WaitsFor cause s.volume.buffers (block_next m)
    waits_for = let step = (gets undone).1 in waiting disk s store_then p (block_next m) q step.slot step.gets cause waits

    -- for a buffer that another has
    held : cause ≡ Why.BufferHeld → IsHeldByAnother s p (block_next m)
    held buffer =
        let locked : IsLocked s.volume.buffers (block_next m) = subst (λ (y : Why). WaitsFor y s.volume.buffers (block_next m)) buffer waits_for in
        record {
          other = locked.0;
          slot = locked.1;
          apart = λ same. waits_apart s.volume.buffers p m has (gets undone).0 (keeps_apart disk s p k m is well stood) locked.1 (subst (λ (r : ℕ). HasLock s.volume.buffers r (block_next m) locked.1) same locked.2);
          lock = locked.2;
          got = agrees_now.holders locked.0 (block_next m) locked.1 locked.2;
        }

    does_wait : (its : Op) → its ≡ trunc_op m.machine → Does disk s p k i here (TaskProgress.Sleeping cause) here w s.table ts its
    does_wait its mine = record {
      reads = reads (TaskProgress.Sleeping cause) s.table (sym (ap fault_of waits));
      makes = makes_none undone its mine;
      files = λ new claimed files fits. fits_still undone new claimed files fits;
      apart_then = works.apart;
      grip = grip_then;
      stands = λ fine. subst (λ (v : VolumeState D). StandsSo disk s p k i here (TaskProgress.Sleeping cause) here v s.table ts) (sym slept) (record {
        others = stays_same s.volume.buffers s.volume.log p;
        locks = λ b j lock. subst (λ (a : Stage). HasSlot a j) stood (agrees_now.holders p b j lock);
        stands = subst (λ (a : Stage). Stands s.volume.buffers s.volume.log count p op a) stood (agrees_now.stands p);
        looks = subst (λ (t : TaskState). LooksAt cur s.table t t.stage) (ap (λ (a : Stage). record (task s.tasks p) { stage = a }) stood) (are.stand p);
        logged = tt;
      });
      late = refl;
      asleep = λ other same. (slept, refl, refl);
      held = λ same. held (cc same);
      inode = λ same. subst (λ (y : Why). WaitsFor y s.volume.buffers (block_next m)) (let e : cause ≡ Why.InodeHeld = cc same in e) waits_for;
      less = λ made. absurd (false≢true made);
    }

  -- or the disk fails
  does_fail : (its : Op) → its ≡ trunc_op m.machine → (fault : DiskFault) → q ≡ Progress.Fault fault → Does disk s p k i here (TaskProgress.Fault fault) here w s.table ts its
  does_fail its mine fault fails =
      let undone : IsDone q → ⊥ = subst IsDone fails in
      record {
        reads = reads (TaskProgress.Fault fault) s.table (sym (ap fault_of fails));
        makes = makes_none undone its mine;
        files = λ new claimed files fits. fits_still undone new claimed files fits;
        apart_then = works.apart;
        grip = grip_then;
        stands = λ fine. absurd (cc fine);
        late = refl;
        asleep = λ cause waits. absurd (cc waits);
        held = λ waits. absurd (cc waits);
        inode = λ waits. absurd (cc waits);
        less = λ made. absurd (false≢true made);
      }

  -- ---- THE STEP

  does : (its : Op) → its ≡ trunc_op m.machine → (r : Progress (Unit {0})) → q ≡ r → Does disk s p k i here (progress_of_trunc r) (stage_of_trunc k m n r) w (table_of_trunc s.table k m r) ts its
  does its mine Progress.Moved is = does_go its mine is
  does its mine (Progress.Sleeping cause) is = does_wait cause is its mine
  does its mine (Progress.Over out) is = does_end its mine is
  does its mine (Progress.Fault fault) is = does_fail its mine fault is

  module _ (tasks : ts ≡ set s.tasks p task_then) where
    -- what is true of every store
    pub store_truncated : IsStore disk.image store_then
    store_truncated = store_worked disk s p k i here (progress_of_trunc q) next w tab ts (trunc_op m.machine) works (does (trunc_op m.machine) refl q refl) tasks

    -- what it promises
    now_is : task ts p ≡ task_then
    now_is = ap (λ (l : List TaskState). task l p) tasks ∙ get_or-set_same s.tasks p task_then no_task inside

    pub steps_truncated : (op : Op) → (task s.tasks p).op ≡ Some op → Steps disk s p op (progress_of_trunc q) store_then
    steps_truncated op is_op = steps_worked disk s p k i here (progress_of_trunc q) next w tab ts op works (does op (let both : Some op ≡ Some (trunc_op m.machine) = sym is_op ∙ working.op in cc both) q refl) tasks (record {
      answer = q;
      now = n;
      steps = steps;
      gives = refl;
      next = ap (λ (o : TaskState). o.stage) now_is;
      table = refl;
      bytes = ap (λ (o : TaskState). o.gathered) now_is;
    })

-- with the last step the same inode is left
pub left_same : {D N : Type 0} (disk : Ghosts D N) (v w : VolumeState D) (p : ℕ) (m n : Freeing) (o : Option Got) → FreesOn disk o v p m (Progress.Over tt) n w → inode_left n.machine ≡ inode_left m.machine
left_same disk v w p m n None steps = absurd (getting_on steps.gets.answer (sym steps.gets.gives))
  where
    getting_on : (a : Get) → progress_of {T = Unit {0}} a ≡ Progress.Over tt → ⊥
    getting_on (get.Got i) over = absurd (cc over)
    getting_on (get.Sleeping cause) over = absurd (cc over)
    getting_on (get.Fault fault) over = absurd (cc over)
left_same disk v w p m n (Some g) steps = ap (λ (o : Freeing). inode_left o.machine) steps.next ∙ by_at (entries_kept (seen (disk.image v.device) v.buffers) m g) m.machine.at steps.answer
  where
    by_at : (entries : List ℕ) (a : TruncAt) → Progress.Over tt ≡ answer_by a → inode_left (after_trunc m.machine entries a) ≡ inode_left m.machine
    by_at entries TruncAt.Direct over = absurd (cc over)
    by_at entries (TruncAt.Loading b) over = refl
    by_at entries TruncAt.Entry over = absurd (cc over)
    by_at entries TruncAt.Unloading over = refl
    by_at entries TruncAt.Freeing over = absurd (cc over)
    by_at entries TruncAt.Updating over = refl
