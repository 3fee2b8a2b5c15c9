-- A process that writes back an inode with an attribute set: what it holds, and what its steps do.
use Rattle.std.proofs.Common.{◌≡◌, ◌≢◌, ◌<◌, ⊎_elim, inl, inr, ℕ, length, set, get_or-set_same, refl, sym, ◌∙◌, ap, subst, arith, List, Option, Some, None}
use Rattle.std.proofs.lemmas.List.{length-set}
use Rattle.std.specs.Prelude.{IsTrue, IsSome}
use Rattle.inodes.specs.Common.{Agrees, apart, AreLooking, asked_by, between, block_at, Claim, claim_by, Claims, claims_of, current_of, Dinode, DiskFault, entry_at, false≢true, file_in, Files, FilesThen, FitsHeld, FitsThen, form_of, GetsFor, Ghosts, Grip, grip, grip_of, grips_of, groups_noted, groups_same, growing_of, growth_keeps, grows, HasLock, HasSlot, held_alike, HoldsForSetting, Image, inode_block, inode_count_of, inode_of-with_inode, inode_of-with_inode_other, is_number, IsApart, IsClaimedNow, IsCopy, IsDinode, IsGrowing, IsHeldIn, IsSetting, IsPlaced, IsStore, KeepsTable, kept_by_write, length-current, SetAttribute, set_rests, locked_grip, LogsAtMost, LogsBlock, Marks, most_logged, ne_eqb, no_task, noted, Op, Progress, progress_of_setting, Reads, renewed, SameGroups, Stage, stage_of_setting, Stands, stays_got, stays_noted, stays_same, StaysForOthers, Steps, StoreState, table_of_setting, task, TaskProgress, TaskState, unwritten, Updates, UpdateState, used_by, uses_left, VolumeState, Why, with_inode, with_inode_bytes, WritesBlock}
use Rattle.model.specs.declared.types.image.Form.{Form}
use Rattle.model.specs.declared.types.operations.Attribute.{Attribute}
use Rattle.model.specs.declared.types.operations.Attribute.TheVariants.{Links, Size}
use Rattle.wal.specs.Machine.{HasRoom}
use Rattle.inodes.specs.Iupdate.{MayUpdate}
use Rattle.inodes.specs.Lemmas.Faults.{where_none}
use Rattle.inodes.specs.Lemmas.Grips.{kept_by_renew}
use Rattle.inodes.specs.Lemmas.Holding.{own_setting}
use Rattle.inodes.specs.Lemmas.Looks.{set_locks, setting_is}
use Rattle.inodes.specs.Lemmas.Unclaimed.{LocksAlone, locks_alone, own_set}
use Rattle.inodes.proofs.AtWork.{Does, steps_worked, store_then, store_worked, Works}
use Rattle.inodes.proofs.Frames.{marks_same}
use Rattle.inodes.proofs.Getting.{fault_of, reads_none}
use Rattle.inodes.proofs.Gripping.{grip_is}
use Rattle.inodes.proofs.LooksKept.{keeps_same, keeps_then, KeepsUsed, super_set}
use Rattle.inodes.proofs.Searching.{where_got}
use Rattle.inodes.proofs.Standing.{StandsAt}
use Rattle.inodes.proofs.TruncFiles.{same_claims, with_claim, with_claim_is}
use Rattle.inodes.proofs.TruncSlots.{gains, Gains, held_for, never_inode, never_over, reads_for, sleeps, Slots, slots_put, slots_used}
use Rattle.inodes.proofs.Truncating.{has_inode}

-- it may log a block
some_logged : (form : Form) (i : ℕ) (a : Attribute) → 0 < most_logged form (SetAttribute i a)
some_logged form i (Links n) = omega arith
some_logged form i (Size n) = omega arith

-- in a store whose process p does so
module _ {D N : Type 0} {disk : Ghosts D N} {s : StoreState D} {p k : ℕ} {d : Dinode} {u : UpdateState} (h : StandsAt disk s p (Stage.Setting k d u)) where
  abbrev cur : Image
  cur = current_of disk.image s.volume

  abbrev claims : Claims
  claims = claims_of s.tasks

  abbrev gs : List (Option Grip)
  gs = grips_of s.tasks

  abbrev op : Option Op
  op = (task s.tasks p).op

  abbrev here : Stage
  here = Stage.Setting k d u

  agrees : Agrees s.volume.buffers s.volume.log s.table.inode_count s.tasks
  agrees = where_none s.volume.fault h.well h.is.agrees

  looking : AreLooking cur s.table s.tasks
  looking = where_none s.volume.fault h.well h.is.looks

  work : IsSetting s.table.inode_count (task s.tasks p) u
  work = setting_is cur s.table s.tasks looking p k d u h.stood

  -- the operation
  abbrev its : Op
  its = SetAttribute u.number work.attribute

  gripped : grip_of (task s.tasks p) ≡ Some (locked_grip k u.number)
  gripped = set_locks cur s.table s.tasks looking p k d u h.stood

  has : grip (grips_of s.tasks) p ≡ Some (locked_grip k u.number)
  has = grip_is s.tasks p ∙ gripped

  -- it alone has locked its number, and holds it
  alone : LocksAlone s.tasks p u.number
  alone = locks_alone cur s.table s.tasks looking p k u.number gripped

  claimed : claims_of s.tasks u.number ≡ Some (grows (unwritten d))
  claimed = own_set cur s.table s.tasks looking p k d u h.stood

  holds : HoldsForSetting s.volume.buffers s.volume.log p u
  holds = subst (λ (a : Stage). Stands s.volume.buffers s.volume.log s.table.inode_count p (task s.tasks p).op a) h.stood (agrees.stands p)

  slots : Slots s.volume.buffers p 0 None (inode_block u.number) u.slot
  slots = record {
    holds_kept = tt;
    holds_used = holds.holds;
    locks = λ b i lock. inr (subst (λ (a : Stage). HasSlot a i) h.stood (agrees.holders p b i lock));
  }

  number : IsTrue (is_number (inode_count_of cur) u.number)
  number = subst (λ (n : ℕ). IsTrue (is_number n u.number)) h.is.numbers work.number

  held_in : (files : Files) → FitsHeld files cur claims → IsHeldIn files cur claims u.number (grows (unwritten d))
  held_in files fits = record { fits = fits; number = number; holds = claimed }

  growing : IsGrowing cur u.number (unwritten d) (file_in looking.files.0 u.number)
  growing = growing_of looking.files.0 cur claims u.number (unwritten d) (held_in looking.files.0 looking.files.1)

  fields : IsDinode d
  fields = growing.fit.fields

  inode_apart : IsApart cur u.number
  inode_apart = apart cur u.number h.is.geometry (between cur u.number number).high

  placed : IsPlaced cur u.number
  placed = record { within = inode_apart.within; full = looking.files.1.full (inode_block u.number) inode_apart.behind inode_apart.within }

  -- its place in the table
  pub in_table : k < 50
  in_table = (looking.table.places p (locked_grip k u.number) has).0

  pub inode_there : IsSome (entry_at s.table.places k)
  inode_there = has_inode (entry_at s.table.places k) u.number (looking.table.places p (locked_grip k u.number) has).1

  -- it may add a home to the log
  pub room : HasRoom (used_by s.volume.log p)
  room = subst HasRoom (sym holds.used) (omega arith)

  pub long : length d.addrs ≡ 13
  long = fields.count

  log_size : s.volume.log.size ≡ length cur
  log_size = let same = length-current (disk.image s.volume.device) s.volume.buffers in sym (same ∙ h.joint.size)

  -- ITS NEXT STEP may be made
  pub may : MayUpdate disk.image s.volume p u
  may = record {
    within = omega (arith, inode_apart.within, log_size);
    holds = where_got (disk.image s.volume.device) s.volume.buffers s.volume.log p (inode_block u.number) u.slot h.joint holds.holds;
  }

  logs : p < length s.volume.log.used
  logs = omega (arith, h.is.few, h.joint.log.pids, h.inside)

  logs_block : (b : ℕ) → LogsBlock (most_logged s.table.form its) s.volume.log p (noted s.volume.log p b)
  logs_block b = record { added = 0; used = holds.used; few = some_logged s.table.form u.number work.attribute; block = b; is = refl }

  no_claim : (j : ℕ) → j ≢ u.number → claim_by op here j ≡ None
  no_claim j other = rw (ne_eqb u.number j (λ same. other (sym same))) refl

  works : Works disk s p k u.number here
  works = record {
    is = h.is;
    well = h.well;
    inside = h.inside;
    stood = h.stood;
    looking = looking;
    gripped = gripped;
    alone = alone;
    apart = no_claim;
  }

  -- the image stays
  marks_still : Marks None cur cur
  marks_still = marks_same None cur (λ i makes. absurd (false≢true makes))

  keeps_still : KeepsUsed s.table.inode_count u.number claims cur cur
  keeps_still = keeps_same s.table.inode_count u.number claims cur

  table_still : KeepsTable s.table s.table p gs gs cur
  table_still = record { table = looking.table; others = λ q j i other locks. record { number = λ e. refl; holder = refl; copy = refl } }

  -- the task holds what it held
  fits_still : (new : Claims) → IsClaimedNow claims u.number (Some (grows (unwritten d))) new → (files : Files) → FitsHeld files cur claims → FitsHeld files cur new
  fits_still new now files fits = held_alike files cur claims new (same_claims claims new u.number (Some (grows (unwritten d))) claimed now) fits

  own : (v : UpdateState) → v.number ≡ u.number → claim_by op (Stage.Setting k d v) u.number ≡ Some (grows (unwritten d))
  own v same = subst (λ (i : ℕ). claim_by op (Stage.Setting k d v) i ≡ Some (grows (unwritten d))) same (own_setting op k d v)

  grip_here : Some (locked_grip k (asked_by op)) ≡ Some (locked_grip k u.number)
  grip_here = ap (λ (o : Option Op). Some (locked_grip k (asked_by o))) work.op

  abbrev written : Image
  written = with_inode cur u.number d

  module _ (v : UpdateState) (w : VolumeState D) (ts : List TaskState) where
    abbrev now : Image
    now = current_of disk.image w

    -- what a step does, by the machine's answer
    abbrev DoesSo : Progress (Unit {0}) → Type 0
    DoesSo q = Does disk s p k u.number here (progress_of_setting q) (stage_of_setting k d u v q) w (table_of_setting s.table k d q) ts its

    abbrev then_at : Progress (Unit {0}) → StoreState D
    then_at q = store_then disk s p k u.number here (progress_of_setting q) (stage_of_setting k d u v q) w (table_of_setting s.table k d q) ts

    -- ---- the inode's block is got

    module _ (q : Progress (Unit {0})) (none : u.slot ≡ None) (next : v ≡ record u { slot = v.slot }) (gets : GetsFor disk s.volume p (inode_block u.number) q v.slot w) where
      had : Slots s.volume.buffers p 0 None (inode_block u.number) None
      had = subst (Slots s.volume.buffers p 0 None (inode_block u.number)) none slots

      same_number : v.number ≡ u.number
      same_number = ap (λ (x : UpdateState). x.number) next

      got : q ≡ Progress.Moved → DoesSo Progress.Moved
      got moved =
          let g : Gains disk s (then_at Progress.Moved) p (inode_block u.number) q v.slot gets = gains disk s (then_at Progress.Moved) p (inode_block u.number) q v.slot gets moved in
          let has_now : Slots w.buffers p 0 None (inode_block u.number) (Some g.at) = slots_used s.volume.buffers w.buffers p 0 (inode_block u.number) (inode_block u.number) g.at None had g.locks in
          let slots_now : Slots w.buffers p 0 None (inode_block v.number) v.slot =
          subst (λ (o : Option ℕ). Slots w.buffers p 0 None (inode_block v.number) o) (sym g.is) (subst (λ (i : ℕ). Slots w.buffers p 0 None (inode_block i) (Some g.at)) (sym same_number) has_now) in
          record {
            reads = reads_for disk s (then_at Progress.Moved) p (inode_block u.number) q v.slot gets TaskProgress.Moved (ap fault_of (sym moved));
            makes = record {
              numbers = refl;
              form = refl;
              groups = subst (SameGroups s.volume.log) (sym gets.reads.log) (groups_same s.volume.log);
              logs = subst (LogsAtMost (most_logged s.table.form its) s.volume.log p) (sym gets.reads.log) (inl refl);
              marks = subst (Marks None cur) (sym gets.reads.current) marks_still;
              keeps = subst (KeepsUsed s.table.inode_count u.number claims cur) (sym gets.reads.current) keeps_still;
              table = subst (KeepsTable s.table s.table p gs gs) (sym gets.reads.current) table_still;
            };
            files = λ new claimed_now files fits. subst (λ (x : Image). FitsHeld files x new) (sym gets.reads.current)
                (fits_still new (subst (λ (c : Option Claim). IsClaimedNow claims u.number c new) (own v same_number) claimed_now) files fits);
            apart_then = λ j other. rw (ne_eqb v.number j (λ same. other (sym same ∙ same_number))) refl;
            grip = grip_here;
            stands = λ fine. record {
              others = subst (λ l. StaysForOthers s.volume.buffers w.buffers s.volume.log l p) (sym gets.reads.log) (stays_got s.volume.buffers w.buffers s.volume.log p (inode_block u.number) g.at g.locks);
              locks = λ b i lock. ⊎_elim (λ (no : None ≡ Some i). absurd (cc no)) (λ is. is) (slots_now.locks b i lock);
              stands = record {
                used = ap (λ l. used_by l p) gets.reads.log ∙ holds.used;
                holds = slots_now.holds_used;
              };
              looks = record {
                attribute = work.attribute;
                op = work.op ∙ ap (λ (i : ℕ). Some (SetAttribute i work.attribute)) (sym same_number);
                number = subst (λ (i : ℕ). IsTrue (is_number s.table.inode_count i)) (sym same_number) work.number;
                fits = work.fits;
              };
              logged = tt;
            };
            late = refl;
            asleep = λ cause waits. absurd (cc waits);
            held = λ waits. absurd (cc waits);
            inode = λ waits. absurd (cc waits);
            less = λ made. let before = ap uses_left none in let after = ap uses_left g.is in omega (arith, before, after);
          }

      slept : (cause : Why) → q ≡ Progress.Sleeping cause → DoesSo (Progress.Sleeping cause)
      slept cause waits =
          let same = sleeps disk s (then_at (Progress.Sleeping cause)) p (inode_block u.number) q v.slot gets cause waits in
          record {
            reads = reads_for disk s (then_at (Progress.Sleeping cause)) p (inode_block u.number) q v.slot gets (TaskProgress.Sleeping cause) (ap fault_of (sym waits));
            makes = record {
              numbers = refl;
              form = refl;
              groups = subst (λ (x : VolumeState D). SameGroups s.volume.log x.log) (sym same) (groups_same s.volume.log);
              logs = subst (λ (x : VolumeState D). LogsAtMost (most_logged s.table.form its) s.volume.log p x.log) (sym same) (inl refl);
              marks = subst (λ (x : VolumeState D). Marks None cur (current_of disk.image x)) (sym same) marks_still;
              keeps = subst (λ (x : VolumeState D). KeepsUsed s.table.inode_count u.number claims cur (current_of disk.image x)) (sym same) keeps_still;
              table = subst (λ (x : VolumeState D). KeepsTable s.table s.table p gs gs (current_of disk.image x)) (sym same) table_still;
            };
            files = λ new claimed_now files fits. subst (λ (x : VolumeState D). FitsHeld files (current_of disk.image x) new) (sym same)
                (fits_still new (subst (λ (c : Option Claim). IsClaimedNow claims u.number c new) (own u refl) claimed_now) files fits);
            apart_then = no_claim;
            grip = grip_here;
            stands = λ fine. record {
              others = subst (λ (x : VolumeState D). StaysForOthers s.volume.buffers x.buffers s.volume.log x.log p) (sym same) (stays_same s.volume.buffers s.volume.log p);
              locks = λ b i lock. ⊎_elim (λ (no : None ≡ Some i). absurd (cc no)) (λ is. is) (slots.locks b i (subst (λ (x : VolumeState D). HasLock x.buffers p b i) same lock));
              stands = subst (λ (x : VolumeState D). HoldsForSetting x.buffers x.log p u) (sym same) holds;
              looks = record { attribute = work.attribute; op = work.op; number = work.number; fits = work.fits };
              logged = tt;
            };
            late = refl;
            asleep = λ other waits_so. (same, refl, refl);
            held = λ waits_so. held_for disk s (then_at (Progress.Sleeping cause)) p (inode_block u.number) q v.slot gets 0 (inode_block u.number) None agrees had (λ j no. absurd (cc no))
                (waits ∙ ap Progress.Sleeping (let why : cause ≡ Why.BufferHeld = cc waits_so in why));
            inode = λ waits_so. never_inode disk s (then_at (Progress.Sleeping cause)) p (inode_block u.number) q v.slot gets (waits ∙ ap Progress.Sleeping (let why : cause ≡ Why.InodeHeld = cc waits_so in why));
            less = λ made. absurd (cc made);
          }

      failed : (fault : DiskFault) → q ≡ Progress.Fault fault → DoesSo (Progress.Fault fault)
      failed fault fails = record {
        reads = reads_for disk s (then_at (Progress.Fault fault)) p (inode_block u.number) q v.slot gets (TaskProgress.Fault fault) (ap fault_of (sym fails));
        makes = record {
          numbers = refl;
          form = refl;
          groups = subst (SameGroups s.volume.log) (sym gets.reads.log) (groups_same s.volume.log);
          logs = subst (LogsAtMost (most_logged s.table.form its) s.volume.log p) (sym gets.reads.log) (inl refl);
          marks = subst (Marks None cur) (sym gets.reads.current) marks_still;
          keeps = subst (KeepsUsed s.table.inode_count u.number claims cur) (sym gets.reads.current) keeps_still;
          table = subst (KeepsTable s.table s.table p gs gs) (sym gets.reads.current) table_still;
        };
        files = λ new claimed_now files fits. subst (λ (x : Image). FitsHeld files x new) (sym gets.reads.current)
            (fits_still new (subst (λ (c : Option Claim). IsClaimedNow claims u.number c new) (own u refl) claimed_now) files fits);
        apart_then = no_claim;
        grip = grip_here;
        stands = λ fine. absurd (cc fine);
        late = refl;
        asleep = λ cause waits. absurd (cc waits);
        held = λ waits. absurd (cc waits);
        inode = λ waits. absurd (cc waits);
        less = λ made. absurd (cc made);
      }

      by_answer : (x : Progress (Unit {0})) → q ≡ x → DoesSo x
      by_answer Progress.Moved moved = got moved
      by_answer (Progress.Sleeping cause) waits = slept cause waits
      by_answer (Progress.Over out) over = absurd (never_over disk s (then_at (Progress.Over out)) p (inode_block u.number) q v.slot gets out over)
      by_answer (Progress.Fault fault) fails = failed fault fails

      does_get : DoesSo q
      does_get = by_answer q refl

    -- ---- the inode is written

    module _ (i : ℕ) (got : u.slot ≡ Some i) (writes : WritesBlock disk s.volume p i (inode_block u.number) written w) where
      rests : (files : Files) → FitsHeld files cur claims → (new : Claims) → IsClaimedNow claims u.number None new → FitsThen files cur claims u.number written new
      rests files fits new free = set_rests files cur claims new u.number d (held_in files fits) free

      keeps : KeepsUsed s.table.inode_count u.number claims cur written
      keeps = keeps_then s.table.inode_count u.number _ cur written claims _ h.is.numbers
          (rests looking.files.0 looking.files.1 (with_claim claims u.number None) (with_claim_is claims u.number None))
          (length-set cur (inode_block u.number) (with_inode_bytes (block_at cur (inode_block u.number)) u.number d))
          (super_set cur (inode_block u.number) (with_inode_bytes (block_at cur (inode_block u.number)) u.number d) (omega arith))
          (λ j named other used. inode_of-with_inode_other cur u.number j d placed fields other)

      copied : IsCopy written u.number (Some d)
      copied e is =
          let same : d ≡ e = cc is in
          (inode_of-with_inode cur u.number d placed fields ∙ same, λ none. growing.fit.used (ap (λ (x : Dinode). x.kind) same ∙ none))

      -- it holds nothing then
      free_now : Slots w.buffers p 0 None 0 None
      free_now = slots_put s.volume.buffers w.buffers p 0 (inode_block u.number) i 0 None
          (subst (Slots s.volume.buffers p 0 None (inode_block u.number)) got slots) (λ j none. absurd (cc none)) writes.locks

      does_write : DoesSo (Progress.Over tt)
      does_write = record {
        reads = reads_none disk s (then_at (Progress.Over tt)) writes.device (writes.fault ∙ h.well) TaskProgress.Moved refl;
        makes = record {
          numbers = refl;
          form = refl;
          groups = subst (SameGroups s.volume.log) (sym writes.log) (groups_noted s.volume.log p (inode_block u.number) logs);
          logs = subst (LogsAtMost (most_logged s.table.form its) s.volume.log p) (sym writes.log) (inr (logs_block (inode_block u.number)));
          marks = subst (Marks None cur) (sym writes.current)
              (growth_keeps looking.files.0 cur claims u.number (unwritten d) (held_in looking.files.0 looking.files.1));
          keeps = subst (KeepsUsed s.table.inode_count u.number claims cur) (sym writes.current) keeps;
          table = subst (KeepsTable s.table (renewed s.table k (Some d)) p gs gs) (sym writes.current)
              (kept_by_renew s.table gs cur written p k u.number (Some d) looking.table has keeps.inodes copied);
        };
        files = λ new free files fits. subst (λ (x : Image). FitsHeld files x new) (sym writes.current) (rests files fits new free).fits;
        apart_then = λ j other. refl;
        grip = grip_here;
        stands = λ fine. record {
          others = subst (λ l. StaysForOthers s.volume.buffers w.buffers s.volume.log l p) (sym writes.log)
              (stays_noted s.volume.buffers w.buffers s.volume.log p i (inode_block u.number) writes.locks);
          locks = λ b j lock. ⊎_elim (λ (none : None ≡ Some j). none) (λ (none : None ≡ Some j). none) (free_now.locks b j lock);
          stands = tt;
          looks = record { op = its; is = work.op; can = (work.number, work.fits) };
          logged = tt;
        };
        late = refl;
        asleep = λ cause waits. absurd (cc waits);
        held = λ waits. absurd (cc waits);
        inode = λ waits. absurd (cc waits);
        less = λ made. let was = ap uses_left got in omega (arith, was);
      }

    -- ---- any step

    does_by : (q : Progress (Unit {0})) (o : Option ℕ) → u.slot ≡ o → Updates disk o s.volume p u d q v w → DoesSo q
    does_by q None none updates = does_get q none updates.0 updates.1
    does_by q (Some i) got updates = subst DoesSo (sym updates.0) (does_write i got updates.2)

    -- WHAT A STEP DOES
    module _ (q : Progress (Unit {0})) (updates : Updates disk u.slot s.volume p u d q v w) (tasks : ts ≡ set s.tasks p (record (task s.tasks p) { stage = stage_of_setting k d u v q })) where
      does : DoesSo q
      does = does_by q u.slot refl updates

      abbrev store_now : StoreState D
      store_now = record { volume = w; tasks = ts; table = table_of_setting s.table k d q }

      pub store_set : IsStore disk.image store_now
      store_set = store_worked disk s p k u.number here (progress_of_setting q) (stage_of_setting k d u v q) w (table_of_setting s.table k d q) ts its works does tasks

      now_is : task ts p ≡ record (task s.tasks p) { stage = stage_of_setting k d u v q }
      now_is = ap (λ (l : List TaskState). task l p) tasks ∙ get_or-set_same s.tasks p (record (task s.tasks p) { stage = stage_of_setting k d u v q }) no_task h.inside

      pub steps_set : (o : Op) → (task s.tasks p).op ≡ Some o → Steps disk s p o (progress_of_setting q) store_now
      steps_set o is = subst (λ (x : Op). Steps disk s p x (progress_of_setting q) store_now) (let both : Some its ≡ Some o = sym work.op ∙ is in cc both)
          (steps_worked disk s p k u.number here (progress_of_setting q) (stage_of_setting k d u v q) w (table_of_setting s.table k d q) ts its works does tasks
          (record {
            answer = q;
            now = v;
            updates = updates;
            gives = refl;
            next = ap (λ (x : TaskState). x.stage) now_is;
            table = refl;
            bytes = ap (λ (x : TaskState). x.gathered) now_is;
          }))
