-- A write that wrote fewer bytes than it was given leaves no block free.
use Rattle.std.proofs.Common.{◌≡◌, ◌≢◌, ◌⊎◌, ◌∙◌, inl, inr, ◌<◌, ℕ, Bool, true, false, cond, ltb, not, List, length, Option, Some, None, refl, sym, ap, subst, ⊎_elim, arith}
use Rattle.std.specs.Prelude.{IsTrue}
use Rattle.std.proofs.lemmas.Bool.{ltb-true, not-false, or_parts}
use Rattle.bcache.specs.Lemmas.Current.{length-current}
use Rattle.blocks.specs.Disk.{Image, block_at}
use Rattle.blocks.specs.declared.disk.Disk.{Ghosts}
use Rattle.model.specs.declared.types.image.Form.{Form}
use Rattle.model.specs.declared.types.operations.Op.{Op}
use Rattle.model.specs.declared.types.operations.Op.TheVariants.{Write}
use Rattle.model.specs.declared.types.operations.Reply.{Reply}
use Rattle.model.specs.declared.types.operations.Reply.TheVariants.{NoFile, TooLong, Wrote}
use Rattle.model.specs.declared.types.operations.TaskProgress.{TaskProgress}
use Rattle.model.specs.declared.types.operations.TaskProgress.TheVariants as progress
use Rattle.model.specs.Fields.{has_bit}
use Rattle.model.specs.Files.{Files}
use Rattle.model.specs.Journal.{is_at_once, is_number}
use Rattle.model.specs.Layout.{bitmap_block, inode_block, inode_count_of, is_marked, super_of}
use Rattle.model.specs.Lemmas.Log.{both_of}
use Rattle.model.specs.Lemmas.OutsideLog.{behind_log}
use Rattle.model.specs.Lemmas.Soundness.{facts_of}
use Rattle.model.specs.Operations.{transfer_limit}
use Rattle.inodes.specs.Goes.{Goes}
use Rattle.inodes.specs.Lemmas.Causes.{BeginsWriting, TurnsToWrite, write_sees, write_turns}
use Rattle.inodes.specs.Lemmas.FullWrites.{EndsSo, WritesToEnd, full_ends, full_seen, writes_number}
use Rattle.inodes.specs.Lemmas.Runs.{IsAt}
use Rattle.inodes.specs.Runs.{StepMade}
use Rattle.inodes.specs.Steps.{Steps}
use Rattle.inodes.specs.Store.{FitsFiles, StoreState, current_of}
use Rattle.inodes.specs.WriteRuns.{IsFull}
use Rattle.inodes.specs.Writing.{extent_of}
use Rattle.inodes.specs.declared.tasks.Stage.{Stage}
use Rattle.inodes.specs.declared.tasks.Stage.TheVariants as stage
use Rattle.inodes.specs.declared.writei.Extent.{Extent}
use Rattle.history.specs.Processes.{process}
use Rattle.kernel.specs.State.{kind_of, class_of}
use Rattle.model.specs.declared.types.operations.Step.{Step}
use Rattle.model.specs.declared.types.operations.Step.TheVariants as step
use Rattle.kernel.specs.declared.class.OpClass.TheVariants as waiting_as
use Rattle.calls.specs.Calls.{ShortIsFull, image_on}
use Rattle.calls.specs.Stepping.{Plain}
use Rattle.calls.specs.Transactions.{image_seen}
use Rattle.calls.proofs.Called.{IsCall, call_opening, given, kept_then}
use Rattle.calls.proofs.Counting.{IsAnswered, IsFree}
use Rattle.calls.proofs.Idle.{bitmap, current, lone_idle, long, on_disk}
use Rattle.calls.proofs.Sole.{IsDone, IsSole}
use Rattle.calls.proofs.Stages.{AfterTurn, Answered, BeforeTurn, Committing, IsGoing, IsKept, Over, Waits, Where, kind_then}
use Rattle.calls.proofs.Telling.{counts_files, stands_for, told_files}

-- ---- a write that gives fewer bytes

module _ {D N : Type 0} (disk : Ghosts D N) (i off done : ℕ) (bytes : List ℕ) (short : done < length bytes) (form : Form) (n size : ℕ) where
  abbrev op : Op
  op = Write i off bytes

  abbrev e : Extent
  e = extent_of form n size

  -- the image's form and its counts stay
  record HasCounts (s : StoreState D) : Type 0 where
    pub form_is : s.table.form ≡ form
    pub numbers : s.table.inode_count ≡ n
    pub size_is : s.volume.log.size ≡ size

  -- it names an inode of the image
  abbrev HasNumber : Type 0
  HasNumber = IsTrue (is_number n i)

  -- no block is left
  abbrev LeavesNone : StoreState D → Type 0
  LeavesNone s = IsFull (current_of disk.image s.volume) e

  -- it goes on, and has not come to the end of the blocks; or it has, and goes on to its end
  abbrev GoesWriting : StoreState D → Type 0
  GoesWriting s = BeginsWriting 0 i (length bytes) e s ⊎ WritesToEnd disk.image 0 i e s

  -- behind a reply, only the inode is to be given up
  record IsTold (s : StoreState D) : Type 0 where
    pub entry : ℕ
    pub stands : IsAt 0 s (stage.Leaving entry)
    pub full : LeavesNone s

  -- where it is answered so, no block is left
  abbrev Judged : Option Reply → StoreState D → Type 0
  Judged r s = r ≡ Some (Wrote done) → LeavesNone s

  -- behind its turn, by the reply that its entry has
  abbrev BehindTurn : Option Reply → StoreState D → Type 0
  BehindTurn None s = HasNumber × GoesWriting s
  BehindTurn (Some reply) s = reply ≡ Wrote done → IsTold s

  -- what is kept of the write
  abbrev Writing : Where → StoreState D → Type 0
  Writing Waits s = HasCounts s
  Writing (BeforeTurn g) s = HasNumber × HasCounts s
  Writing (AfterTurn g r) s = BehindTurn r s
  Writing (Over g r) s = Judged r s
  Writing (Committing r) s = Judged r s
  Writing (Answered r) s = Judged r s

  -- the inode's block is not the bitmap's
  apart_of : HasNumber → inode_block i ≢ e.bitmap
  apart_of number same = let high = ltb-true i n (both_of (ltb 0 i) (ltb i n) number).1 in omega (arith, same, high)

  -- ---- its turn

  turns_so : (s t : StoreState D) (r : Option Reply) → Steps disk s 0 op (progress.Turned r) t → HasNumber × HasCounts s → BehindTurn r t × Judged r t
  turns_so s t r steps (number, counts) = (by_reply r turned.begins turned.other, λ is. absurd (turned.other done is))
    where
      turned : TurnsToWrite 0 i (length bytes) (extent_of s.table.form s.table.inode_count s.volume.log.size) r t
      turned = write_turns disk s 0 i off bytes t r steps

      same : extent_of s.table.form s.table.inode_count s.volume.log.size ≡ e
      same = ap (λ (f : Form). extent_of f s.table.inode_count s.volume.log.size) counts.form_is ∙ ap (λ (c : ℕ). extent_of form c s.volume.log.size) counts.numbers ∙ ap (extent_of form n) counts.size_is

      by_reply : (q : Option Reply) → (q ≡ None → BeginsWriting 0 i (length bytes) (extent_of s.table.form s.table.inode_count s.volume.log.size) t) → ((d : ℕ) → q ≢ Some (Wrote d)) → BehindTurn q t
      by_reply None begins other = (number, inl (subst (λ (x : Extent). BeginsWriting 0 i (length bytes) x t) same (begins refl)))
      by_reply (Some reply) begins other = λ is. absurd (other done (ap (λ (q : Reply). Some q) is))

  -- ---- a step behind it

  module _ (s t : StoreState D) (x : TaskProgress) (steps : Steps disk s 0 op x t) where
    abbrev made : StepMade D
    made = record { before = s; answer = x; after = t }

    -- it goes on, unless it decides a reply
    goes_so : HasNumber → IsGoing x → GoesWriting s → GoesWriting t
    goes_so number going (inl on) = ⊎_elim (λ saw. inr ((full_seen disk 0 i e op made on.entry on.writing on.stands on.number saw steps).on going.0))
        (λ still. ⊎_elim (λ decided. absurd (going.0 decided.0 decided.1)) (λ next. inl (record { entry = on.entry; writing = next.0; stands = next.1; on = next.2; number = writes_number disk 0 i e op made on.entry on.entry on.writing next.0 on.stands on.number steps next.1 })) still.next)
        (write_sees disk 0 on.entry (length bytes) done e op short made on.writing on.stands on.on steps)
    goes_so number going (inr ends) = inr ((full_ends disk 0 i e op made (apart_of number) ends steps).on going.0)

    -- with a reply of so few bytes no block is left
    decides_so : (reply : Reply) → x ≡ progress.Decided reply → HasNumber → GoesWriting s → reply ≡ Wrote done → IsTold t
    decides_so reply decided number from is = ⊎_elim
        (λ on. ⊎_elim (λ saw. told (full_seen disk 0 i e op made on.entry on.writing on.stands on.number saw steps))
        (λ still. absurd (still.other (decided ∙ ap progress.Decided is)))
        (write_sees disk 0 on.entry (length bytes) done e op short made on.writing on.stands on.on steps))
        (λ ends. told (full_ends disk 0 i e op made (apart_of number) ends steps))
        from
      where
        told : EndsSo disk.image 0 i e made → IsTold t
        told ends = let up = ends.up reply decided in record { entry = up.0; stands = up.1; full = ends.full }

    -- who gives up its inode is over with this step
    gives_up : IsTold s → (x ≡ progress.Over) × LeavesNone t
    gives_up up =
        let goes = subst (λ (a : Stage). Goes disk a s 0 op x t) up.stands steps.goes in
        (goes.0, subst (λ v. IsFull (current_of disk.image v) e) (sym goes.1.volume) up.full)

  -- so by the reply that the entry has
  goes_by : (s t : StoreState D) (r : Option Reply) (x : TaskProgress) → IsGoing x → Steps disk s 0 op x t → BehindTurn r s → BehindTurn r t
  goes_by s t None x going steps from = (from.0, goes_so s t x steps from.0 going from.1)
  goes_by s t (Some reply) x going steps from = λ is. absurd (going.1 (gives_up s t x steps (from is)).0)

  decides_by : (s t : StoreState D) (r : Option Reply) (reply : Reply) → (r ≡ None) ⊎ (r ≡ Some reply) → Steps disk s 0 op (progress.Decided reply) t → BehindTurn r s → reply ≡ Wrote done → IsTold t
  decides_by s t None reply was steps from is = decides_so s t (progress.Decided reply) steps reply refl from.0 from.1 is
  decides_by s t (Some q) reply was steps from is = ⊎_elim (λ none. absurd (cc none))
      (λ (same : Some q ≡ Some reply). let told : q ≡ Wrote done = (let both : q ≡ reply = cc same in both ∙ is) in let no = (gives_up s t (progress.Decided reply) steps (from told)).0 in absurd (cc no))
      was

  ends_by : (s t : StoreState D) (r : Option Reply) → Steps disk s 0 op progress.Over t → BehindTurn r s → Judged r t
  ends_by s t None steps from is = absurd (cc is)
  ends_by s t (Some reply) steps from is = (gives_up s t progress.Over steps (from (let same : reply ≡ Wrote done = cc is in same))).1

  told_by : (s : StoreState D) (r : Option Reply) → BehindTurn r s → Judged r s
  told_by s None from is = absurd (cc is)
  told_by s (Some reply) from is = (from (let same : reply ≡ Wrote done = cc is in same)).full

  -- a refusal tells no bytes
  refused_by : (b : Bool) → Some (cond b TooLong NoFile) ≡ Some (Wrote done) → ⊥
  refused_by true is = cc is
  refused_by false is = cc is

  -- what begins has a number that operations may name
  number_of : (s : StoreState D) → class_of s.table.inode_count op ≡ waiting_as.Change → HasCounts s → HasNumber
  number_of s change counts =
      let unrefused = (kind_then (is_at_once s.table.inode_count op) (kind_of op) waiting_as.Change (λ e. cc e) change).0 in
      subst (λ (c : ℕ). IsTrue (is_number c i)) counts.numbers (not-false (is_number s.table.inode_count i) (or_parts (ltb transfer_limit (length bytes)) (not (is_number s.table.inode_count i)) unrefused).1)

  writing_kept : IsKept disk 0 op Writing
  writing_kept = record {
    begins = λ s change counts. (number_of s change counts, record { form_is = counts.form_is; numbers = counts.numbers; size_is = counts.size_is });
    looks = λ s count look counts. absurd (let no = (kind_then (is_at_once s.table.inode_count op) (kind_of op) (waiting_as.Look count) (λ e. cc e) look).1 in cc no);
    refused = λ s counts is. absurd (refused_by (ltb transfer_limit (length bytes)) is);
    works = λ g s t x unturned steps from. (from.0, record { form_is = steps.tasks.form ∙ from.1.form_is; numbers = steps.tasks.numbers ∙ from.1.numbers; size_is = steps.groups.size ∙ from.1.size_is });
    turns = λ g s t r steps from. (turns_so s t r steps from).0;
    turns_over = λ g s t r over steps from. (turns_so s t r steps from).1;
    goes = λ g. goes_by;
    decides = λ g. decides_by;
    ends = λ g. ends_by;
    decides_alone = λ s t r reply was steps from. told_by t (Some reply) (decides_by s t r reply was steps from);
    ends_alone = ends_by;
    leaves = λ g s r judged. judged;
    closes = λ g s r commits judged. judged;
    commits = λ s t r x commits judged is b below. ap (λ (bits : List ℕ). has_bit bits b) (commits.volume.current.agree e.bitmap (behind_log e.bitmap (omega arith))) ∙ judged is b below;
    committed = λ s r judged. judged;
  }

-- ---- so no block is free, once it is answered

-- an image whose bitmap stands there, and that is so long, has each bit set
marks_all : (y : Image) (e : Extent) → (super_of y).bmapstart ≡ e.bitmap → length y ≡ e.size → IsFull y e → (b : ℕ) → b < length y → is_marked y b ≡ true
marks_all y e map size full b below = ap (λ (c : ℕ). has_bit (block_at y c) b) map ∙ full b (omega (arith, below, size))

-- the bitmap of the current image stands behind the inodes
bitmap_seen : {D : Type 0} (image : D → Image) (s : StoreState D) (f : Files) → FitsFiles image s f → (super_of (current_of image s.volume)).bmapstart ≡ bitmap_block (length f)
unfolding FitsFiles
bitmap_seen image s f fits = (facts_of (current_of image s.volume) fits.geometry).map ∙ ap bitmap_block (sym fits.count)

module _ {D N : Type 0} (disk : Ghosts D N) (op : Op) (r : Step) (k m : Plain D) (call : IsCall disk 0 op r k m) (so : r ≡ step.Answered) (is : IsAnswered 0 op (given disk 0 op r k m call) m) where
  -- the numbers and the blocks before it
  abbrev taken_in : Extent
  taken_in = extent_of k.store.table.form k.store.table.inode_count k.store.volume.log.size

  same_numbers : m.store.table.inode_count ≡ k.store.table.inode_count
  same_numbers = call.known_now.numbers ∙ ap (λ (d : D). inode_count_of (disk.image d)) (call_opening disk 0 op r k m call) ∙ sym call.known_then.numbers

  full_then : (i off count : ℕ) (bytes : List ℕ) → op ≡ Write i off bytes → is.answer.reply ≡ Wrote count → count < length bytes → IsFull (current_of disk.image m.store.volume) taken_in
  full_then i off count bytes writes wrote short =
      let form = k.store.table.form in
      let n = k.store.table.inode_count in
      let size = k.store.volume.log.size in
      let P = Writing disk i off count bytes short form n size in
      let keeps = subst (λ (o : Op). IsKept disk 0 o P) (sym writes) (writing_kept disk i off count bytes short form n size) in
      kept_then disk 0 op r k m call P keeps (record { form_is = refl; numbers = refl; size_is = refl }) so is (ap (λ (q : Reply). Some q) wrote)

  -- in the current image, where no operation is behind its turn
  pub short_seen : m.store.volume.fault ≡ None → ((p : ℕ) → IsFree (process m.world p).at) → length (image_on disk.image m) ≡ k.store.volume.log.size → ShortIsFull (image_seen disk.image m) op is.answer.reply
  short_seen well free size i off count bytes writes wrote short =
      let told = told_files disk m call.known_now free in
      let numbers : length told.0 ≡ k.store.table.inode_count = sym (counts_files disk m call.known_now told.0 told.1) ∙ same_numbers in
      marks_all (image_seen disk.image m) taken_in
      (bitmap_seen disk.image m.store told.0 (stands_for disk m call.known_now free well told.0 told.1) ∙ ap bitmap_block numbers)
      (length-current (image_on disk.image m) m.store.volume.buffers ∙ size)
      (full_then i off count bytes writes wrote short)

-- and on the disk, where nothing stands in buffers alone
pub short_full : {D N : Type 0} (disk : Ghosts D N) (op : Op) (r : Step) (k m : Plain D) (sole : IsSole disk op r k m) → r ≡ step.Answered → (done : IsDone op (given disk 0 op r k m sole.call) m) → m.store.volume.fault ≡ None → ShortIsFull (image_on disk.image m) op done.is.answer.reply
short_full {D} disk op r k m sole so done well i off count bytes writes wrote short =
    let known = sole.call.known_now in
    let all = lone_idle k.world sole.rests.one sole.rests.idle in
    let all_now = lone_idle m.world done.one done.idle in
    let e = taken_in disk op r k m sole.call so done.is in
    marks_all (image_on disk.image m) e
    (bitmap disk m known all_now well ∙ ap bitmap_block (same_numbers disk op r k m sole.call so done.is))
    (long disk m known all_now well ∙ ap (λ (d : D). length (disk.image d)) (call_opening disk 0 op r k m sole.call) ∙ sym (current disk k sole.known all sole.rests.well).size)
    (subst (λ (x : Image). IsFull x e) (on_disk disk m known all_now well) (full_then disk op r k m sole.call so done.is i off count bytes writes wrote short))
