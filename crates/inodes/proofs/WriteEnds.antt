-- The last step of a writing, which writes the inode back and knows the reply; and any step of a writing.
use Rattle.std.proofs.Common.{◌⊎◌, ⊎_elim, get_or-set_same, ◌≡◌, ℕ, List, length, refl, sym, ◌∙◌, ap, subst, arith, Option, Some, None, set, inr}
use Rattle.std.proofs.lemmas.List.{length-set}
use Rattle.inodes.specs.Common.{address_in, after, asked_by, block_at, block_of_write, bytes_by, bytes_of, Claims, current_of, Dinode, File, file_in, Files, files_grown, FilesThen, FitsHeld, FitsThen, form_of, Get, Ghosts, greatest_size, grips_of, groups_noted, growing_of, growth_keeps, growth_rests, HasComeTo, Image, inode_block, inode_of-with_inode, inode_of-with_inode_other, IsClaimedNow, IsCopy, IsDinode, IsPlaced, IsStore, KeepsTable, kept_by_write, locked_grip, LogState, MapAt, MapsOn, MapState, MapSteps, Marks, named_by, next_block, no_task, node_of_write, one_more, Op, stage_of_writing, Progress, progress_of, progress_of_write, renewed, SameGroups, some_address, Stage, stays_noted, StaysForOthers, Steps, StoreState, table_of_writing, taken_by, task, TaskProgress, TaskState, Updates, UpdateState, used_by_write, uses_left, VolumeState, with_inode, with_inode_bytes, Write, WriteAt, writes_left, writes_left_at, WritesBlock, WriteState, WriteSteps, Wrote, LogsAtMost, most_logged}
use Rattle.in_flight.specs.HeldLaws.{IsHeldIn}
use Rattle.in_flight.specs.Held.{grows}
use Rattle.inodes.specs.Growing.{growth_of}
use Rattle.inodes.specs.Lemmas.Grips.{kept_by_renew}
use Rattle.inodes.specs.Lemmas.Looks.{can_write}
use Rattle.inodes.proofs.Standing.{StandsAt}
use Rattle.inodes.proofs.AtWork.{steps_worked, store_then, store_worked}
use Rattle.inodes.proofs.Getting.{reads_none}
use Rattle.inodes.proofs.LooksKept.{KeepsUsed, keeps_then, super_set}
use Rattle.inodes.proofs.TruncFiles.{with_claim, with_claim_is}
use Rattle.inodes.proofs.TruncSlots.{Slots, slots_put}
use Rattle.inodes.proofs.WriteBlocks.{does_address, does_behind}
use Rattle.inodes.proofs.WriteDoes.{does_block, does_inode, does_piece}
use Rattle.inodes.proofs.WriteEntries.{does_entry, does_look, does_setting}
use Rattle.inodes.proofs.WriteFiles.{answers_written}
use Rattle.inodes.proofs.WriteMoves.{DoesSo, here, its, logs, logs_block, works}
use Rattle.inodes.proofs.Writing as of
use Rattle.wal.specs.Get as get

-- with the last step inode and count stay
never_mapped : (q : Progress (Option ℕ)) → one_more q ≡ Progress.Over tt → ⊥
never_mapped Progress.Moved over = cc over
never_mapped (Progress.Sleeping cause) over = cc over
never_mapped (Progress.Over found) over = cc over
never_mapped (Progress.Fault fault) over = cc over

never_got : (a : Get) → progress_of {T = Unit {0}} a ≡ Progress.Over tt → ⊥
never_got (get.Got i) over = absurd (cc over)
never_got (get.Sleeping cause) over = absurd (cc over)
never_got (get.Fault fault) over = absurd (cc over)

pub copy_same : {D N : Type 0} (disk : Ghosts D N) (a : WriteAt) (v : VolumeState D) (p : ℕ) (m n : WriteState) (bytes : List ℕ) (w : VolumeState D) → WriteSteps disk a v p m bytes (Progress.Over tt) n w
    → (n.inode ≡ m.inode) × (n.done ≡ m.done)
copy_same disk (WriteAt.Mapping way) v p m n bytes w steps = absurd (never_mapped steps.answer (sym steps.gives))
copy_same disk (WriteAt.Block b None) v p m n bytes w steps = absurd (never_got steps.1.answer (sym steps.1.gives))
copy_same disk (WriteAt.Block b (Some i)) v p m n bytes w steps = absurd (cc steps.0)
copy_same disk (WriteAt.Updating u) v p m n bytes w steps = (ap (λ (o : WriteState). o.inode) steps.2, ap (λ (o : WriteState). o.done) steps.2)

-- in a store whose process p writes a file's bytes
module _ {D N : Type 0} {disk : Ghosts D N} {s : StoreState D} {p k : ℕ} {m : WriteState} (h : StandsAt disk s p (Stage.Writing k m)) where
  abbrev written : Image
  written = with_inode (of.cur h) m.number m.inode

  module _ (n : WriteState) (w : VolumeState D) (ts : List TaskState) where
    abbrev now : Image
    now = current_of disk.image w

    -- ---- the inode is written

    module _ (u : UpdateState) (i : ℕ) (at : m.at ≡ WriteAt.Updating u) (come : HasComeTo (of.cur h) m (WriteAt.Updating u)) (got : u.slot ≡ Some i)
        (writes : WritesBlock disk s.volume p i (inode_block u.number) (with_inode (of.cur h) u.number m.inode) w) where
      shown : now ≡ written
      shown = writes.current ∙ ap (λ (j : ℕ). with_inode (of.cur h) j m.inode) come.0

      free : (of.grown h).taken ≡ None
      free = ap taken_by at

      fields : IsDinode m.inode
      fields = (of.growing h).fit.fields

      placed : IsPlaced (of.cur h) m.number
      placed =
          let a = of.inode_apart h in
          record { within = a.within; full = (of.looking h).files.1.full (inode_block m.number) a.behind a.within }

      -- the file is what was written
      rests : (files : Files) (fits : FitsHeld files (of.cur h) (of.claims h)) (old : File) → file_in files m.number ≡ Some old → (new : Claims) → IsClaimedNow (of.claims h) m.number None new
          → FitsThen (files_grown files m.number old (of.grown h)) (of.cur h) (of.claims h) m.number written new
      rests files fits old was new claimed = growth_rests files (of.cur h) (of.claims h) new m.number (of.grown h) old (of.held_in h files fits) free was claimed

      then_files : FitsThen (files_grown (of.looking h).files.0 m.number (of.old h) (of.grown h)) (of.cur h) (of.claims h) m.number written (with_claim (of.claims h) m.number None)
      then_files = rests (of.looking h).files.0 (of.looking h).files.1 (of.old h) (of.growing h).was
          (with_claim (of.claims h) m.number None) (with_claim_is (of.claims h) m.number None)

      keeps : KeepsUsed s.table.inode_count m.number (of.claims h) (of.cur h) written
      keeps = keeps_then s.table.inode_count m.number _ (of.cur h) written (of.claims h) _ h.is.numbers then_files (length-set (of.cur h) (inode_block m.number) (with_inode_bytes (block_at (of.cur h) (inode_block m.number)) m.number m.inode))
          (super_set (of.cur h) (inode_block m.number) (with_inode_bytes (block_at (of.cur h) (inode_block m.number)) m.number m.inode) (omega arith)) (λ j named other used. inode_of-with_inode_other (of.cur h) m.number j m.inode placed fields other)

      copied : IsCopy written m.number (Some m.inode)
      copied d has =
          let same : m.inode ≡ d = cc has in
          (inode_of-with_inode (of.cur h) m.number m.inode placed fields ∙ same, λ none. (of.growing h).fit.used (ap (λ (e : Dinode). e.kind) same ∙ none))

      files_then : (new : Claims) → IsClaimedNow (of.claims h) m.number None new → (files : Files) → FitsHeld files (of.cur h) (of.claims h)
          → FilesThen (form_of (of.cur h)) (its h) (TaskProgress.Decided (Wrote m.done)) files (λ f. FitsHeld f now new)
      files_then new claimed files fits =
          let held = of.held_in h files fits in
          let growing = growing_of files (of.cur h) (of.claims h) m.number (of.grown h) held in
          let work = of.work h in
          let fits_all = work.fits in
          let one : greatest_size (form_of (of.cur h)) ≡ greatest_size m.extent.form = ap greatest_size (sym (of.form h)) in (
            files_grown files m.number growing.old (of.grown h),
            subst (λ (o : Option Op). after (form_of (of.cur h)) files (its h) (Wrote m.done) ≡ Some (files_grown files m.number growing.old (growth_of m o))) (sym work.is)
                (answers_written files (of.cur h) (of.claims h) m.number m (its h) growing.old work.writes refl growing.was
                (subst (λ (o : Option Op). IsHeldIn files (of.cur h) (of.claims h) m.number (grows (growth_of m o))) work.is held) work.done work.few (omega (arith, fits_all, one)) come.1),
            subst (λ (x : Image). FitsHeld (files_grown files m.number growing.old (of.grown h)) x new) (sym shown) (rests files fits growing.old growing.was new claimed).fits,
          )

      -- it holds nothing then
      free_now : Slots w.buffers p 0 None 0 None
      free_now = slots_put s.volume.buffers w.buffers p 0 (inode_block u.number) i 0 None
          (subst (λ (o : Option ℕ). Slots s.volume.buffers p 0 None (inode_block u.number) o) got
          (subst (λ (a : WriteAt). Slots s.volume.buffers p (node_of_write a) (kept_by_write a) (block_of_write a) (used_by_write a)) at (of.slots h)))
          (λ j none. absurd (cc none)) writes.locks

      does_write : DoesSo h n w ts (Progress.Over tt)
      does_write = record {
        reads = reads_none disk s (store_then disk s p k m.number (here h) (TaskProgress.Decided (Wrote m.done)) (Stage.Leaving k) w (renewed s.table k (Some m.inode)) ts)
            writes.device (writes.fault ∙ h.well) (TaskProgress.Decided (Wrote m.done)) refl;
        makes = record {
          numbers = refl;
          form = refl;
          groups = subst (SameGroups s.volume.log) (sym writes.log) (groups_noted s.volume.log p (inode_block u.number) (logs h));
          logs = subst (LogsAtMost (most_logged s.table.form (its h)) s.volume.log p) (sym writes.log) (inr (logs_block h (inode_block u.number)));
          marks = subst (Marks None (of.cur h)) (sym shown)
              (growth_keeps (of.looking h).files.0 (of.cur h) (of.claims h) m.number (of.grown h) (of.held_in h (of.looking h).files.0 (of.looking h).files.1));
          keeps = subst (KeepsUsed s.table.inode_count m.number (of.claims h) (of.cur h)) (sym shown) keeps;
          table = subst (KeepsTable s.table (renewed s.table k (Some m.inode)) p (grips_of s.tasks) (grips_of s.tasks)) (sym shown)
              (kept_by_renew s.table (grips_of s.tasks) (of.cur h) written p k m.number (Some m.inode) (of.looking h).table (of.has h) keeps.inodes copied);
        };
        files = λ new claimed files fits. files_then new claimed files fits;
        apart_then = λ j other. refl;
        grip = ap (λ (j : ℕ). Some (locked_grip k j)) (of.asks h);
        stands = λ fine. record {
          others = subst (λ (l : LogState). StaysForOthers s.volume.buffers w.buffers s.volume.log l p) (sym writes.log)
              (stays_noted s.volume.buffers w.buffers s.volume.log p i (inode_block u.number) writes.locks);
          locks = λ b j lock. ⊎_elim (λ (none : None ≡ Some j). none) (λ (none : None ≡ Some j). none) (free_now.locks b j lock);
          stands = tt;
          looks = record { op = its h; is = (of.work h).is; can = can_write s.table.inode_count (its h) m (of.work h).writes (of.work h).number (of.work h).few };
          logged = tt;
        };
        late = refl;
        asleep = λ cause waits. absurd (cc waits);
        held = λ waits. absurd (cc waits);
        inode = λ waits. absurd (cc waits);
        less = λ made. let was : writes_left m ≡ 1 = ap (writes_left_at m) at ∙ ap uses_left got in omega (arith, was);
      }

    -- ---- any step

    does_way : (q : Progress (Unit {0})) (way : MapState) (a : MapAt) → m.at ≡ WriteAt.Mapping (record way { at = a }) → HasComeTo (of.cur h) m (WriteAt.Mapping (record way { at = a }))
        → (maps : MapsOn disk s.volume p m way q n w) → MapSteps disk a s.volume p way m.inode maps.answer maps.now maps.inode w → DoesSo h n w ts q
    does_way q way (MapAt.Address t) at come maps steps = does_address h n w ts way t q maps at come.1 come.0 steps
    does_way q way (MapAt.Entry c None) at come maps steps = does_entry h n w ts way c q maps at come steps.0 steps.1 steps.2 steps.3
    does_way q way (MapAt.Entry c (Some i)) at come maps steps =
        does_look h n w ts way c q maps i at come (some_address (named_by (of.cur h) c)) refl steps.0 steps.1
    does_way q way (MapAt.Behind c i t) at come maps steps = does_behind h n w ts way t q maps c i at come.1 come.0 steps
    does_way q way (MapAt.Setting c i found) at come maps steps =
        does_setting h n w ts way c q maps i found at come steps.0 steps.1

    does_by : (q : Progress (Unit {0})) (a : WriteAt) → m.at ≡ a → WriteSteps disk a s.volume p m (of.bytes h) q n w → DoesSo h n w ts q
    does_by q (WriteAt.Mapping way) at steps =
        does_way q way way.at at (subst (HasComeTo (of.cur h) m) at (of.work h).come) steps steps.steps
    does_by q (WriteAt.Block b None) at steps = does_block h n w ts q b at steps
    does_by q (WriteAt.Block b (Some i)) at steps = does_piece h n w ts q b i at steps
    does_by q (WriteAt.Updating u) at steps = by_slot u.slot refl steps.1
      where
        by_slot : (o : Option ℕ) → u.slot ≡ o → Updates disk o s.volume p u m.inode q steps.0 w → DoesSo h n w ts q
        by_slot None none updates = does_inode h n w ts q u steps.0 steps.2 at (subst (HasComeTo (of.cur h) m) at (of.work h).come) none updates.0 updates.1
        by_slot (Some i) got updates = subst (DoesSo h n w ts) (sym updates.0) (does_write u i at (subst (HasComeTo (of.cur h) m) at (of.work h).come) got updates.2)

    -- WHAT A STEP DOES
    module _ (q : Progress (Unit {0})) (op : Op) (is_op : (task s.tasks p).op ≡ Some op) (writes : WriteSteps disk m.at s.volume p m (bytes_of op) q n w)
        (tasks : ts ≡ set s.tasks p (record (task s.tasks p) { stage = stage_of_writing k m n q })) where
      same_bytes : bytes_of op ≡ (of.bytes h)
      same_bytes = sym (ap bytes_by is_op)

      same_op : its h ≡ op
      same_op = let both : Some (its h) ≡ Some op = sym (of.work h).is ∙ is_op in cc both

      steps_now : WriteSteps disk m.at s.volume p m (of.bytes h) q n w
      steps_now = subst (λ (content : List ℕ). WriteSteps disk m.at s.volume p m content q n w) same_bytes writes

      does : DoesSo h n w ts q
      does = does_by q m.at refl steps_now

      abbrev store_now : StoreState D
      store_now = record { volume = w; tasks = ts; table = table_of_writing s.table k m q }

      pub store_wrote : IsStore disk.image store_now
      store_wrote = store_worked disk s p k m.number (here h) (progress_of_write m.done q) (stage_of_writing k m n q) w (table_of_writing s.table k m q) ts
          (its h) (works h) does tasks

      now_is : task ts p ≡ record (task s.tasks p) { stage = stage_of_writing k m n q }
      now_is = ap (λ (l : List TaskState). task l p) tasks ∙ get_or-set_same s.tasks p (record (task s.tasks p) { stage = stage_of_writing k m n q }) no_task h.inside

      pub steps_wrote : Steps disk s p op (progress_of_write m.done q) store_now
      steps_wrote = subst (λ (o : Op). Steps disk s p o (progress_of_write m.done q) store_now) same_op
          (steps_worked disk s p k m.number (here h) (progress_of_write m.done q) (stage_of_writing k m n q) w (table_of_writing s.table k m q) ts
          (its h) (works h) does tasks
          (record {
            answer = q;
            now = n;
            writes = subst (λ (content : List ℕ). WriteSteps disk m.at s.volume p m content q n w) (ap bytes_by (of.work h).is) steps_now;
            gives = refl;
            next = ap (λ (o : TaskState). o.stage) now_is;
            table = refl;
            bytes = ap (λ (o : TaskState). o.gathered) now_is;
          }))
