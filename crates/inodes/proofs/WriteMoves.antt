-- The kinds of steps that write a file's bytes: a block is got, or put, or released, or nothing is done to the volume.
use Rattle.std.proofs.Common.{◌≡◌, ◌≢◌, ℕ, ◌+◌, ◌<◌, ◌≤◌, List, set, refl, sym, ◌∙◌, ap, subst, arith, Option, Some, None, length, inl, inr}
use Rattle.std.specs.Prelude.{IsTrue}
use Rattle.std.proofs.lemmas.List.{length-set}
use Rattle.inodes.specs.Common.{apart, asked_by, between, block_of_write, Claim, claim_by, Claims, current_of, DiskFault, Extent, extent_of, false≢true, Files, FitsHeld, FitsThen, Form, form_of, form_same, GetsFor, GetsLock, Ghosts, greatest_size, Grip, grips_of, groups_noted, groups_same, grows, growth_of, HasComeTo, HasLock, HasLoggedWrite, held_alike, HoldsForWriting, Image, inode_elsewhere, is_number, IsClaimedNow, IsHeldByAnother, IsWriting, KeepsTable, KeepsUsedInodes, kept_by_write, locked_grip, LogState, Marks, ne_eqb, node_of_write, Op, stage_of_writing, Progress, progress_of_write, Reads, Releases, SameGroups, Stage, stays_got, stays_left, stays_noted, stays_same, StaysForOthers, StoreState, super_of, table_of_writing, task, TaskProgress, TaskState, used_by_write, VolumeState, Why, Write, writes_left, WritesBlock, WriteState, LogsAtMost, most_logged, LogsBlock, most_beside, noted}
use Rattle.inodes.specs.Lemmas.Grips.{kept_by_image}
use Rattle.inodes.specs.Lemmas.Holding.{own_grows}
use Rattle.inodes.specs.Lemmas.Looks.{write_logs, writes_still}
use Rattle.inodes.proofs.Standing.{StandsAt}
use Rattle.inodes.proofs.AtWork.{Does, Works, store_then}
use Rattle.inodes.proofs.Frames.{marks_same}
use Rattle.inodes.proofs.WriteLogged.{LogsOn, logged_of, open_of}
use Rattle.inodes.proofs.Getting.{reads_none, fault_of}
use Rattle.inodes.proofs.LooksKept.{KeepsUsed, keeps_same, keeps_then}
use Rattle.inodes.proofs.TruncFiles.{same_claims, with_claim, with_claim_is}
use Rattle.inodes.proofs.TruncSlots.{Gains, Slots, gains, held_for, never_inode, never_over, reads_for, sleeps}
use Rattle.inodes.proofs.Writing.{logs_few}
use Rattle.inodes.proofs.Writing as of

-- in a store whose process p writes a file's bytes
module _ {D N : Type 0} {disk : Ghosts D N} {s : StoreState D} {p k : ℕ} {m : WriteState} (h : StandsAt disk s p (Stage.Writing k m)) where
  abbrev gs : List (Option Grip)
  gs = grips_of s.tasks

  abbrev op : Option Op
  op = (task s.tasks p).op

  abbrev pub here : Stage
  here = Stage.Writing k m

  -- the operation
  abbrev pub its : Op
  its = (of.work h).op

  pub logs : p < length s.volume.log.used
  logs =
      omega (arith, h.is.few, h.joint.log.pids, h.inside)

  -- one block more may be logged, and that of the inode
  pub logs_block : (b : ℕ) → LogsBlock (most_logged s.table.form its) s.volume.log p (noted s.volume.log p b)
  logs_block b =
      let on = of.logged h in
      let few = logs_few (of.cur h) s.table.inode_count (task s.tasks p) m s.volume.log p on.homes (of.work h) (logged_of (of.cur h) s.volume.log p m on) on.used in
      let same = ap most_beside (of.form h ∙ sym h.is.form) in
      let most = write_logs s.table.form its m (of.work h).writes in
      record { added = on.homes; used = on.used; few = omega (arith, few, same, most); block = b; is = refl }

  no_claim : (j : ℕ) → j ≢ m.number → claim_by op here j ≡ None
  no_claim j other = rw (ne_eqb m.number j (λ same. other (sym same))) refl

  pub works : Works disk s p k m.number here
  works = record {
    is = h.is;
    well = h.well;
    inside = h.inside;
    stood = h.stood;
    looking = of.looking h;
    gripped = of.gripped h;
    alone = of.alone h;
    apart = no_claim;
  }

  -- the image stays
  marks_still : Marks None (of.cur h) (of.cur h)
  marks_still = marks_same None (of.cur h) (λ i makes. absurd (false≢true makes))

  keeps_still : KeepsUsed s.table.inode_count m.number (of.claims h) (of.cur h) (of.cur h)
  keeps_still = keeps_same s.table.inode_count m.number (of.claims h) (of.cur h)

  table_still : KeepsTable s.table s.table p gs gs (of.cur h)
  table_still = record { table = (of.looking h).table; others = λ q j i other locks. record { number = λ e. refl; holder = refl; copy = refl } }

  -- the task holds what it held
  pub fits_still : (new : Claims) → IsClaimedNow (of.claims h) m.number (Some (grows (of.grown h))) new → (files : Files) → FitsHeld files (of.cur h) (of.claims h) → FitsHeld files (of.cur h) new
  fits_still new claimed files fits = held_alike files (of.cur h) (of.claims h) new (same_claims (of.claims h) new m.number (Some (grows (of.grown h))) (of.claimed h) claimed) fits

  own_claim : claim_by op here m.number ≡ Some (grows (of.grown h))
  own_claim = own_grows op k m

  module _ (n : WriteState) (w : VolumeState D) (ts : List TaskState) where
    abbrev now : Image
    now = current_of disk.image w

    -- what a step does, by the machine's answer
    abbrev pub DoesSo : Progress (Unit {0}) → Type 0
    DoesSo q = Does disk s p k m.number here (progress_of_write m.done q) (stage_of_writing k m n q) w (table_of_writing s.table k m q) ts its

    abbrev then_at : Progress (Unit {0}) → StoreState D
    then_at q = store_then disk s p k m.number here (progress_of_write m.done q) (stage_of_writing k m n q) w (table_of_writing s.table k m q) ts

    -- the writing goes on as n, in image y
    pub record GoesOn (y : Image) : Type 0 where
      pub same : n ≡ record m { inode = n.inode; done = n.done; at = n.at }
      pub slots_now : Slots w.buffers p (node_of_write n.at) (kept_by_write n.at) (block_of_write n.at) (used_by_write n.at)
      pub logged : LogsOn y w.log p n
      pub done : n.done ≤ m.count
      pub come : HasComeTo y n n.at
      pub less : writes_left n < writes_left m
      pub passes : (new : Claims) → IsClaimedNow (of.claims h) m.number (Some (grows (growth_of n (of.op h)))) new → (files : Files) → FitsHeld files (of.cur h) (of.claims h) → FitsHeld files y new

    -- what becomes of image, log and table
    pub record Shows (y : Image) : Type 0 where
      pub shown : now ≡ y
      pub size : length y ≡ length (of.cur h)
      pub reads : Reads disk s TaskProgress.Moved (then_at Progress.Moved)
      pub groups : SameGroups s.volume.log w.log
      pub logs : LogsAtMost (most_logged s.table.form its) s.volume.log p w.log
      pub others : StaysForOthers s.volume.buffers w.buffers s.volume.log w.log p
      pub marks : Marks None (of.cur h) y
      pub keeps : KeepsUsed s.table.inode_count m.number (of.claims h) (of.cur h) y
      pub table : KeepsTable s.table s.table p gs gs y

    module _ (y : Image) (on : GoesOn y) (shows : Shows y) where
      number : n.number ≡ m.number
      number = ap (λ (o : WriteState). o.number) on.same

      claim_now : claim_by op (Stage.Writing k n) m.number ≡ Some (grows (growth_of n (of.op h)))
      claim_now = subst (λ (i : ℕ). claim_by op (Stage.Writing k n) i ≡ Some (grows (growth_of n (of.op h)))) number (own_grows op k n)

      writing_now : IsWriting now s.table.inode_count (record (task s.tasks p) { stage = Stage.Writing k n }) n
      writing_now =
          let offset : n.offset ≡ m.offset = ap (λ (o : WriteState). o.offset) on.same in
          let count : n.count ≡ m.count = ap (λ (o : WriteState). o.count) on.same in
          let extent : n.extent ≡ m.extent = ap (λ (o : WriteState). o.extent) on.same in
          let done = on.done in
          let fits = (of.work h).fits in
          record {
            op = its;
            is = (of.work h).is;
            writes = writes_still its m n number offset count (of.work h).writes;
            number = subst (λ (i : ℕ). IsTrue (is_number s.table.inode_count i)) (sym number) (of.work h).number;
            few = let few = (of.work h).few in omega (arith, few, count);
            done = omega (arith, done, count);
            fits = subst (λ (e : Extent). n.offset + n.count ≤ greatest_size e.form) (sym extent) (omega (arith, fits, offset, count));
            extent = extent ∙ (of.work h).extent ∙ ap (extent_of (form_of (of.cur h)) s.table.inode_count) (sym (ap length shows.shown ∙ shows.size))
                ∙ ap (λ (f : Form). extent_of f s.table.inode_count (length now)) (sym (ap form_of shows.shown ∙ form_same (of.cur h) y shows.marks.untouched.super));
            come = subst (λ (x : Image). HasComeTo x n n.at) (sym shows.shown) on.come;
          }

      pub does_moved : DoesSo Progress.Moved
      does_moved = record {
        reads = shows.reads;
        makes = record {
          numbers = refl;
          form = refl;
          groups = shows.groups;
          logs = shows.logs;
          marks = subst (Marks None (of.cur h)) (sym shows.shown) shows.marks;
          keeps = subst (KeepsUsed s.table.inode_count m.number (of.claims h) (of.cur h)) (sym shows.shown) shows.keeps;
          table = subst (KeepsTable s.table s.table p gs gs) (sym shows.shown) shows.table;
        };
        files = λ new claimed files fits. subst (λ (x : Image). FitsHeld files x new) (sym shows.shown)
            (on.passes new (subst (λ (c : Option Claim). IsClaimedNow (of.claims h) m.number c new) claim_now claimed) files fits);
        apart_then = λ j other. rw (ne_eqb n.number j (λ same. other (sym same ∙ number))) refl;
        grip = ap (λ (i : ℕ). Some (locked_grip k i)) (of.asks h);
        stands = λ fine. record {
          others = shows.others;
          locks = λ b i lock. on.slots_now.locks b i lock;
          stands = record { logged = open_of y w.log p n on.logged; kept = on.slots_now.holds_kept; used = on.slots_now.holds_used };
          looks = writing_now;
          logged = subst (λ (x : Image). HasLoggedWrite x w.log p n) (sym shows.shown) (logged_of y w.log p n on.logged);
        };
        late = refl;
        asleep = λ cause waits. absurd (cc waits);
        held = λ waits. absurd (cc waits);
        inode = λ waits. absurd (cc waits);
        less = λ made. let less = on.less in omega (arith, less);
      }

    -- ---- it stays where it is

    module _ (q : Progress (Unit {0})) where
      -- it has to wait, and nothing changed
      does_slept : (cause : Why) → w ≡ s.volume → Reads disk s (TaskProgress.Sleeping cause) (then_at (Progress.Sleeping cause))
          → (cause ≡ Why.BufferHeld → IsHeldByAnother s p (block_of_write m.at)) → (cause ≡ Why.InodeHeld → ⊥) → DoesSo (Progress.Sleeping cause)
      does_slept cause same reads held inode = record {
        reads = reads;
        makes = record {
          numbers = refl;
          form = refl;
          groups = subst (λ (v : VolumeState D). SameGroups s.volume.log v.log) (sym same) (groups_same s.volume.log);
          logs = subst (λ (v : VolumeState D). LogsAtMost (most_logged s.table.form its) s.volume.log p v.log) (sym same) (inl refl);
          marks = subst (λ (v : VolumeState D). Marks None (of.cur h) (current_of disk.image v)) (sym same) marks_still;
          keeps = subst (λ (v : VolumeState D). KeepsUsed s.table.inode_count m.number (of.claims h) (of.cur h) (current_of disk.image v)) (sym same) keeps_still;
          table = subst (λ (v : VolumeState D). KeepsTable s.table s.table p gs gs (current_of disk.image v)) (sym same) table_still;
        };
        files = λ new claimed files fits. subst (λ (v : VolumeState D). FitsHeld files (current_of disk.image v) new) (sym same)
            (fits_still new (subst (λ (c : Option Claim). IsClaimedNow (of.claims h) m.number c new) own_claim claimed) files fits);
        apart_then = no_claim;
        grip = ap (λ (i : ℕ). Some (locked_grip k i)) (of.asks h);
        stands = λ fine. record {
          others = subst (λ (v : VolumeState D). StaysForOthers s.volume.buffers v.buffers s.volume.log v.log p) (sym same) (stays_same s.volume.buffers s.volume.log p);
          locks = λ b i lock. (of.slots h).locks b i (subst (λ (v : VolumeState D). HasLock v.buffers p b i) same lock);
          stands = subst (λ (v : VolumeState D). HoldsForWriting v.buffers v.log p m) (sym same) (of.holds h);
          looks = subst (λ (v : VolumeState D). IsWriting (current_of disk.image v) s.table.inode_count (record (task s.tasks p) { stage = here }) m) (sym same)
              (subst (λ (a : Stage). IsWriting (of.cur h) s.table.inode_count (record (task s.tasks p) { stage = a }) m) h.stood (of.work h));
          logged = subst (λ (v : VolumeState D). HasLoggedWrite (current_of disk.image v) v.log p m) (sym same) (logged_of (of.cur h) s.volume.log p m (of.logged h));
        };
        late = refl;
        asleep = λ other waits. (same, refl, refl);
        held = λ waits. held (let why : cause ≡ Why.BufferHeld = cc waits in why);
        inode = λ waits. inode (let why : cause ≡ Why.InodeHeld = cc waits in why);
        less = λ made. absurd (cc made);
      }

      -- or the disk failed
      does_failed : (fault : DiskFault) → now ≡ (of.cur h) → w.log ≡ s.volume.log → Reads disk s (TaskProgress.Fault fault) (then_at (Progress.Fault fault)) → DoesSo (Progress.Fault fault)
      does_failed fault shown log reads = record {
        reads = reads;
        makes = record {
          numbers = refl;
          form = refl;
          groups = subst (SameGroups s.volume.log) (sym log) (groups_same s.volume.log);
          logs = subst (LogsAtMost (most_logged s.table.form its) s.volume.log p) (sym log) (inl refl);
          marks = subst (Marks None (of.cur h)) (sym shown) marks_still;
          keeps = subst (KeepsUsed s.table.inode_count m.number (of.claims h) (of.cur h)) (sym shown) keeps_still;
          table = subst (KeepsTable s.table s.table p gs gs) (sym shown) table_still;
        };
        files = λ new claimed files fits. subst (λ (x : Image). FitsHeld files x new) (sym shown)
            (fits_still new (subst (λ (c : Option Claim). IsClaimedNow (of.claims h) m.number c new) own_claim claimed) files fits);
        apart_then = no_claim;
        grip = ap (λ (i : ℕ). Some (locked_grip k i)) (of.asks h);
        stands = λ fine. absurd (cc fine);
        late = refl;
        asleep = λ other waits. absurd (cc waits);
        held = λ waits. absurd (cc waits);
        inode = λ waits. absurd (cc waits);
        less = λ made. absurd (cc made);
      }

    -- ---- a block is got

    module _ (q : Progress (Unit {0})) (b : ℕ) (slot : Option ℕ) (gets : GetsFor disk s.volume p b q slot w) (at : block_of_write m.at ≡ b) (none : used_by_write m.at ≡ None)
        (other : (j : ℕ) → kept_by_write m.at ≡ Some j → of.own h ≢ b)
        (got : (i : ℕ) → slot ≡ Some i → q ≡ Progress.Moved → GetsLock s.volume.buffers w.buffers p b i → GoesOn (of.cur h)) where
      had : Slots s.volume.buffers p (of.own h) (kept_by_write m.at) (block_of_write m.at) None
      had = subst (λ (o : Option ℕ). Slots s.volume.buffers p (of.own h) (kept_by_write m.at) (block_of_write m.at) o) none (of.slots h)

      by_answer : (x : Progress (Unit {0})) → q ≡ x → DoesSo x
      by_answer Progress.Moved moved =
          let g : Gains disk s (then_at Progress.Moved) p b q slot gets = gains disk s (then_at Progress.Moved) p b q slot gets moved in
          does_moved (of.cur h) (got g.at g.is moved g.locks) (record {
            shown = gets.reads.current;
            size = refl;
            reads = reads_for disk s (then_at Progress.Moved) p b q slot gets TaskProgress.Moved (ap fault_of (sym moved));
            groups = subst (SameGroups s.volume.log) (sym gets.reads.log) (groups_same s.volume.log);
            logs = subst (LogsAtMost (most_logged s.table.form its) s.volume.log p) (sym gets.reads.log) (inl refl);
            others = subst (λ (l : LogState). StaysForOthers s.volume.buffers w.buffers s.volume.log l p) (sym gets.reads.log) (stays_got s.volume.buffers w.buffers s.volume.log p b g.at g.locks);
            marks = marks_still;
            keeps = keeps_still;
            table = table_still;
          })
      by_answer (Progress.Sleeping cause) waits =
          does_slept q cause (sleeps disk s (then_at (Progress.Sleeping cause)) p b q slot gets cause waits)
          (reads_for disk s (then_at (Progress.Sleeping cause)) p b q slot gets (TaskProgress.Sleeping cause) (ap fault_of (sym waits)))
          (λ held. subst (λ (a : ℕ). IsHeldByAnother s p a) (sym at)
          (held_for disk s (then_at (Progress.Sleeping cause)) p b q slot gets (of.own h) (block_of_write m.at) (kept_by_write m.at) (of.agrees h) had other
          (waits ∙ ap Progress.Sleeping held)))
          (λ inode. never_inode disk s (then_at (Progress.Sleeping cause)) p b q slot gets (waits ∙ ap Progress.Sleeping inode))
      by_answer (Progress.Over out) over = absurd (never_over disk s (then_at (Progress.Over out)) p b q slot gets out over)
      by_answer (Progress.Fault fault) failed =
          does_failed q fault gets.reads.current gets.reads.log (reads_for disk s (then_at (Progress.Fault fault)) p b q slot gets (TaskProgress.Fault fault) (ap fault_of (sym failed)))

      pub does_get : DoesSo q
      does_get = by_answer q refl

    -- ---- a block is written, and released

    module _ (i b : ℕ) (content : List ℕ) (writes : WritesBlock disk s.volume p i b (set (of.cur h) b content) w) (behind : (super_of (of.cur h)).bmapstart ≤ b) (marks : Marks None (of.cur h) (set (of.cur h) b content)) where
      abbrev y : Image
      y = set (of.cur h) b content

      used_still : (j : ℕ) → KeepsUsedInodes s.table.inode_count j (of.cur h) y
      used_still j a names other used =
          let before = (apart (of.cur h) a h.is.geometry (between (of.cur h) a (subst (λ (c : ℕ). IsTrue (is_number c a)) h.is.numbers names)).high).before_map in
          inode_elsewhere (of.cur h) a b content (λ same. omega (arith, same, before, behind))

      pub does_put : GoesOn y
          → ((files : Files) → FitsHeld files (of.cur h) (of.claims h) → (new : Claims) → IsClaimedNow (of.claims h) m.number (Some (grows (growth_of n (of.op h)))) new → FitsThen files (of.cur h) (of.claims h) m.number y new)
          → DoesSo Progress.Moved
      does_put on event =
          let files = (of.looking h).files in
          let then : FitsThen files.0 (of.cur h) (of.claims h) m.number y (with_claim (of.claims h) m.number (Some (grows (growth_of n (of.op h))))) =
          event files.0 files.1 (with_claim (of.claims h) m.number (Some (grows (growth_of n (of.op h))))) (with_claim_is (of.claims h) m.number (Some (grows (growth_of n (of.op h))))) in
          does_moved y on (record {
            shown = writes.current;
            size = length-set (of.cur h) b content;
            reads = reads_none disk s (then_at Progress.Moved) writes.device (writes.fault ∙ h.well) TaskProgress.Moved refl;
            groups = subst (SameGroups s.volume.log) (sym writes.log) (groups_noted s.volume.log p b logs);
            logs = subst (LogsAtMost (most_logged s.table.form its) s.volume.log p) (sym writes.log) (inr (logs_block b));
            others = subst (λ (l : LogState). StaysForOthers s.volume.buffers w.buffers s.volume.log l p) (sym writes.log) (stays_noted s.volume.buffers w.buffers s.volume.log p i b writes.locks);
            marks = marks;
            keeps = keeps_then s.table.inode_count m.number _ (of.cur h) y (of.claims h) _ h.is.numbers then (length-set (of.cur h) b content) marks.untouched.super (used_still m.number);
            table = record {
              table = kept_by_image s.table gs (of.cur h) y (of.looking h).table (used_still 0);
              others = λ q j a other locks. record { number = λ e. refl; holder = refl; copy = refl };
            };
          })

    -- ---- a block is released

    module _ (i : ℕ) (leaves : Releases disk.image s.volume p i w) where
      pub does_release : GoesOn (of.cur h) → DoesSo Progress.Moved
      does_release on =
          let log : w.log ≡ s.volume.log = ap (λ (v : VolumeState D). v.log) leaves.volume in
          does_moved (of.cur h) on (record {
            shown = leaves.current;
            size = refl;
            reads = reads_none disk s (then_at Progress.Moved) (ap (λ (v : VolumeState D). v.device) leaves.volume) (ap (λ (v : VolumeState D). v.fault) leaves.volume ∙ h.well) TaskProgress.Moved refl;
            groups = subst (SameGroups s.volume.log) (sym log) (groups_same s.volume.log);
            logs = subst (LogsAtMost (most_logged s.table.form its) s.volume.log p) (sym log) (inl refl);
            others = subst (λ (l : LogState). StaysForOthers s.volume.buffers w.buffers s.volume.log l p) (sym log) (stays_left s.volume.buffers w.buffers s.volume.log p i leaves.locks);
            marks = marks_still;
            keeps = keeps_still;
            table = table_still;
          })

    -- ---- nothing is done to the volume

    pub does_nothing : w ≡ s.volume → GoesOn (of.cur h) → DoesSo Progress.Moved
    does_nothing same on = does_moved (of.cur h) on (record {
      shown = ap (current_of disk.image) same;
      size = refl;
      reads = reads_none disk s (then_at Progress.Moved) (ap (λ (v : VolumeState D). v.device) same) (ap (λ (v : VolumeState D). v.fault) same ∙ h.well) TaskProgress.Moved refl;
      groups = subst (λ (v : VolumeState D). SameGroups s.volume.log v.log) (sym same) (groups_same s.volume.log);
      logs = subst (λ (v : VolumeState D). LogsAtMost (most_logged s.table.form its) s.volume.log p v.log) (sym same) (inl refl);
      others = subst (λ (v : VolumeState D). StaysForOthers s.volume.buffers v.buffers s.volume.log v.log p) (sym same) (stays_same s.volume.buffers s.volume.log p);
      marks = marks_still;
      keeps = keeps_still;
      table = table_still;
    })
