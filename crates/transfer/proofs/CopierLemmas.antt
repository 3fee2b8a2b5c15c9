-- What a copy comes to, by what ended it.
use Rattle.std.proofs.Common.{◌≡◌, ◌∙◌, ◌⊎◌, ℕ, ◌≤◌, Bool, true, false, ◌&&◌, eqb, List, Some, None, length, refl, sym, ap, subst, inl, inr, arith}
use Rattle.std.proofs.lemmas.Bool.{eq-eqb, le-ltb}
use Rattle.blocks.specs.Disk.{Image, Rose, counted}
use Rattle.blocks.specs.declared.disk.Disk.{Ghosts}
use Rattle.history.specs.Lemmas.Leaving.{leaves_wider}
use Rattle.layout.specs.declared.geometry.MkfsFault.TheVariants as mkfs
use Rattle.model.specs.declared.types.fault.CheckFault.TheVariants.{BadMagic}
use Rattle.model.specs.declared.types.image.Form.{Form}
use Rattle.model.specs.declared.types.image.Form.TheVariants.{One, Two}
use Rattle.model.specs.Fields.{u32_at}
use Rattle.model.specs.Files.{Files, files_of}
use Rattle.model.specs.Layout.{form_of, has_known_magic, inode_count_of, is_known_magic, is_size}
use Rattle.model.specs.Log.{recovered}
use Rattle.model.specs.Verdict.{verdict}
use Rattle.calls.specs.Stepping.{Plain}
use Rattle.wal.specs.Recovery.{LeavesIfCalm}
use Rattle.transfer.specs.Copies.{HoldsFiles, IsFilledOut, IsMkfsCause, IsNoneOrFilled, IsNotFilledOut, IsUncopied, IsUnfilled, IsUnmade, IsUnread}
use Rattle.transfer.specs.Fitting.{DontFit, IsWhyShort, data_count}
use Rattle.transfer.specs.Holding.{BreaksOff, HasNoRoom, Holds, IsUnwritten, RunsShort}
use Rattle.transfer.specs.Laws.{StoppedCopyIsRefused}
use Rattle.transfer.specs.Rescues.{IsUnopened, IsUnrescued, opening_fault}
use Rattle.transfer.specs.Source.{copied_files, rescued_files}
use Rattle.transfer.specs.Writing.{IsNoneOr, IsNotWrittenOut, KeepsSuperblock, WritesOut}
use Rattle.transfer.specs.declared.fault.CopyFault.{CopyFault}
use Rattle.transfer.specs.declared.fault.CopyFault.TheVariants.{Old, NotFirst, Mkfs, Full, Leaked, NoMemory, Disk}
use Rattle.transfer.proofs.WritingLemmas.{stops_before}

-- ---- in memory

module _ {D E M N : Type 0} (old : Ghosts D M) (mem : Ghosts E N) (never : (e : E) → mem.fault_count e ≡ 0) (size numbers : ℕ) (form : Form) (files : Files) (d d' : D) where
  -- a disk in memory never fails
  no_rose : (n e : E) → Rose (mem.fault_count n) (mem.fault_count e) → ⊥
  no_rose n e rose = omega (arith, never n, never e, rose)

  -- no kernel was opened over a new image
  pub unopened_in_memory : (count : ℕ) (n e : E) (fault : CopyFault) → is_size size count ≡ true → length (mem.image n) ≡ size → IsUnmade mem size count n e fault → IsUnfilled old size numbers form files d d' fault
  unopened_in_memory count n e (Old cause) fits long why = why
  unopened_in_memory count n e NotFirst fits long why = why
  unopened_in_memory count n e (Mkfs mkfs.SizeRange) fits long why =
      let all : (is_size size count && eqb size (length (mem.image n))) ≡ true = rw (fits, eq-eqb size (length (mem.image n)) (sym long)) refl in
      absurd (cc (why, all))
  unopened_in_memory count n e (Mkfs mkfs.InodeRange) fits long why = absurd why
  unopened_in_memory count n e (Mkfs mkfs.Disk) fits long why = absurd (no_rose n e why)
  unopened_in_memory count n e (Mkfs mkfs.NoMemory) fits long why = refl
  unopened_in_memory count n e (Full i) fits long why = absurd why
  unopened_in_memory count n e (Leaked i) fits long why = absurd why
  unopened_in_memory count n e NoMemory fits long why = tt
  unopened_in_memory count n e Disk fits long why = absurd (no_rose n e why)

  -- the files were not all written
  pub unfilled_in_memory : (o e : E) (fault : CopyFault) → length (mem.image o) ≡ size → form_of (mem.image o) ≡ form → IsUnwritten old mem (BreaksOff files) d d' o e fault → IsUnfilled old size numbers form files d d' fault
  unfilled_in_memory o e (Old cause) long is why = why
  unfilled_in_memory o e NotFirst long is why = why
  unfilled_in_memory o e (Mkfs cause) long is why = absurd why
  unfilled_in_memory o e (Full i) long is why = absurd why
  unfilled_in_memory o e (Leaked i) long is why = (
    record {
      image = mem.image e;
      part = why.0;
      room = subst (λ (f : Form). HasNoRoom size f (mem.image e)) is (subst (λ (n : ℕ). HasNoRoom n (form_of (mem.image o)) (mem.image e)) long why.1);
    },
    why.2,
  )
  unfilled_in_memory o e NoMemory long is why = tt
  unfilled_in_memory o e Disk long is (inl failed) = failed
  unfilled_in_memory o e Disk long is (inr failed) = absurd (no_rose o e failed)

-- why they were not, behind a look at what they need
pub told_short : {D M : Type 0} (old : Ghosts D M) (size count : ℕ) (form : Form) (files : Files) (c d d' : D) (i room : ℕ) → room ≡ data_count size count → old.image d ≡ old.image c → IsUnfilled old size count form files c d (Leaked i) →
    (fault : CopyFault) → IsWhyShort room form (recovered (old.image c)) files i (old.fault_count d) (old.fault_count d') fault → IsUnfilled old size count form files c d' fault
told_short old size count form files c d d' i room is same short (Old cause) why = absurd why
told_short old size count form files c d d' i room is same short NotFirst why = absurd why
told_short old size count form files c d d' i room is same short (Mkfs cause) why = absurd why
told_short old size count form files c d d' i room is same short (Full number) why =
    subst (λ (r : ℕ). DontFit r form (recovered (old.image c)) files number) is why
told_short old size count form files c d d' i room is same short (Leaked number) why =
    (subst (λ (j : ℕ). RunsShort size form j files) (sym why.0) short.0, why.1 ∙ short.1)
told_short old size count form files c d d' i room is same short NoMemory why = tt
told_short old size count form files c d d' i room is same short Disk why = subst (λ (n : ℕ). Rose n (old.fault_count d')) short.1 why

-- all were: the kernel at rest has them
pub filled_in_memory : {E N : Type 0} (mem : Ghosts E N) (size most : ℕ) (form : Form) (files : Files) (k : Plain E) → length (mem.image k.opening) ≡ size → form_of (mem.image k.opening) ≡ form → Holds mem most files k → HoldsFiles size form files (mem.image k.store.volume.device)
filled_in_memory mem size most form files k long is holds = record {
  sound = holds.sound;
  form = holds.form ∙ is;
  long = holds.size ∙ long;
  files = holds.held;
}

-- ---- on the disk

module _ {D E M N : Type 0} (old : Ghosts D M) (new : Ghosts E N) (size count : ℕ) (form : Form) (files : Files) (d d' : D) (n : E) where
  -- the disk is not of the size, or none is
  pub misfit : (numbers : ℕ) (fault : CopyFault) → numbers ≡ count → fault ≡ Mkfs mkfs.SizeRange → (is_size size numbers && eqb size (length (new.image n))) ≡ false → IsNotFilledOut old new size count form files d d' n n fault
  misfit numbers fault is told off =
      subst (IsNotFilledOut old new size count form files d d' n n) (sym told)
      (subst (λ (c : ℕ). (is_size size c && eqb size (length (new.image n))) ≡ false) is off, refl)

  -- there is no new image
  pub unfilled : (fault : CopyFault) → IsUnfilled old size count form files d d' fault → IsNotFilledOut old new size count form files d d' n n fault
  unfilled (Old cause) why = absurd why
  unfilled NotFirst why = absurd why
  unfilled (Mkfs mkfs.SizeRange) why = absurd (cc why)
  unfilled (Mkfs mkfs.InodeRange) why = absurd (cc why)
  unfilled (Mkfs mkfs.Disk) why = absurd (cc why)
  unfilled (Mkfs mkfs.NoMemory) why = (tt, refl)
  unfilled (Full i) why = (why, refl)
  unfilled (Leaked i) why = (why.0, refl)
  unfilled NoMemory why = refl
  unfilled Disk why = inl (why, refl)

  -- it was not all written
  pub not_out : (e : E) (fault : CopyFault) → IsNotWrittenOut new n e fault → IsNotFilledOut old new size count form files d d' n e fault
  not_out e (Old cause) why = absurd why
  not_out e NotFirst why = absurd why
  not_out e (Mkfs cause) why = absurd why
  not_out e (Full i) why = absurd why
  not_out e (Leaked i) why = absurd why
  not_out e NoMemory why = why
  not_out e Disk why = inr why

  -- what a stop leaves where nothing was written
  pub untouched : LeavesIfCalm new n n (IsNoneOrFilled size form files (new.image n))
  untouched calm = leaves_wider new.moment new.leaves n n (KeepsSuperblock (new.image n)) (IsNoneOrFilled size form files (new.image n)) (λ x keeps. inl keeps) (stops_before new n calm)

module _ {E N : Type 0} (new : Ghosts E N) (size : ℕ) (form : Form) (files : Files) (n e : E) where
  -- it is on the disk
  pub all_out : (sync : Bool) (x : Image) → HoldsFiles size form files x → WritesOut new x sync n e → LeavesIfCalm new n e (IsNoneOr (new.image n) x) → IsFilledOut new size form files sync n e
  all_out sync x holds out stops =
      let here : x ≡ new.image e = sym out.image in
      record {
        holds = subst (HoldsFiles size form files) here holds;
        writes = out.writes ∙ ap (counted (new.write_count n)) holds.long;
        faults = out.faults;
        settles = out.settles;
        stops = subst (λ (y : Image). LeavesIfCalm new n e (IsNoneOr (new.image n) y)) here stops;
      }

  -- what a stop leaves where an image was written
  pub none_or_filled : (x : Image) → HoldsFiles size form files x → LeavesIfCalm new n e (IsNoneOr (new.image n) x) → LeavesIfCalm new n e (IsNoneOrFilled size form files (new.image n))
  none_or_filled x holds stops calm =
      leaves_wider new.moment new.leaves n e (IsNoneOr (new.image n) x) (IsNoneOrFilled size form files (new.image n)) (whole_of holds) (stops calm)
    where
      whole_of : HoldsFiles size form files x → (y : Image) → IsNoneOr (new.image n) x y → IsNoneOrFilled size form files (new.image n) y
      whole_of holds y (inl keeps) = inl keeps
      whole_of holds y (inr is) = inr (subst (HoldsFiles size form files) (sym is) holds)

  -- the same, said of other names of form and files
  module _ (kind : Form) (these : Files) (is : form ≡ kind) (are : files ≡ these) where
    pub filled_as : (sync : Bool) → IsFilledOut new size form files sync n e → IsFilledOut new size kind these sync n e
    filled_as sync filled =
        subst (λ (f : Form). IsFilledOut new size f these sync n e) is (subst (λ (fs : Files). IsFilledOut new size form fs sync n e) are filled)

    pub whole_as : LeavesIfCalm new n e (IsNoneOrFilled size form files (new.image n)) → LeavesIfCalm new n e (IsNoneOrFilled size kind these (new.image n))
    whole_as whole =
        subst (λ (f : Form). LeavesIfCalm new n e (IsNoneOrFilled size f these (new.image n))) is
        (subst (λ (fs : Files). LeavesIfCalm new n e (IsNoneOrFilled size form fs (new.image n))) are whole)

-- ---- a copy, and a rescue

module _ {D E M N : Type 0} (old : Ghosts D M) (new : Ghosts E N) (size : ℕ) (d d' : D) (n : E) where
  -- the old image was not read
  pub unread : (fault : CopyFault) → IsUnread old d d' fault → IsUncopied old new size d d' n n fault
  unread (Old cause) why = (why, refl)
  unread NotFirst why = (why.0, why.1, refl)
  unread (Mkfs cause) why = absurd why
  unread (Full i) why = absurd why
  unread (Leaked i) why = absurd why
  unread NoMemory why = refl
  unread Disk why = inl (why, refl)

  pub unopened_rescue : (fault : CopyFault) → IsUnopened old d d' fault → IsUnrescued old new d d' n n fault
  unopened_rescue (Old cause) why = (why, refl)
  unopened_rescue NotFirst why = absurd why
  unopened_rescue (Mkfs cause) why = absurd why
  unopened_rescue (Full i) why = absurd why
  unopened_rescue (Leaked i) why = absurd why
  unopened_rescue NoMemory why = refl
  unopened_rescue Disk why = absurd why

  -- there is no new one
  module _ (mid : D) (kept : old.fault_count mid ≡ old.fault_count d) (count : ℕ) (form : Form) (files : Files) (numbers : count ≡ inode_count_of (old.image d)) where
    failed : (e : E) → (Rose (old.fault_count mid) (old.fault_count d') × (e ≡ n)) ⊎ Rose (new.fault_count n) (new.fault_count e) →
        (Rose (old.fault_count d) (old.fault_count d') × (e ≡ n)) ⊎ Rose (new.fault_count n) (new.fault_count e)
    failed e (inl why) = inl (subst (λ (c : ℕ). Rose c (old.fault_count d')) kept why.0, why.1)
    failed e (inr why) = inr why

    cut_short : (kind : Form) (these : Files) (i : ℕ) → form ≡ kind → files ≡ these → RunsShort size form i files → RunsShort size kind i these
    cut_short kind these i is are why =
        subst (λ (f : Form). RunsShort size f i these) is (subst (λ (fs : Files). RunsShort size form i fs) are why)

    fits_not : old.image mid ≡ old.image d → (kind : Form) (these : Files) (i : ℕ) → form ≡ kind → files ≡ these → DontFit (data_count size count) form (recovered (old.image mid)) files i →
        DontFit (data_count size (inode_count_of (old.image d))) kind (recovered (old.image d)) these i
    fits_not same kind these i is are why =
        subst (λ (n : ℕ). DontFit (data_count size n) kind (recovered (old.image d)) these i) numbers
        (subst (λ (x : Image). DontFit (data_count size count) kind (recovered x) these i) same
        (subst (λ (f : Form). DontFit (data_count size count) f (recovered (old.image mid)) these i) is
        (subst (λ (fs : Files). DontFit (data_count size count) form (recovered (old.image mid)) fs i) are why)))

    pub uncopied : old.image mid ≡ old.image d → verdict (old.image d) ≡ None → form_of (old.image d) ≡ One → form ≡ Two → files ≡ copied_files (recovered (old.image d)) →
        (e : E) (fault : CopyFault) → IsNotFilledOut old new size count form files mid d' n e fault → IsUncopied old new size d d' n e fault
    uncopied same sound first is are e (Old cause) why = absurd why
    uncopied same sound first is are e NotFirst why = absurd why
    uncopied same sound first is are e (Mkfs cause) why = (sound, first, subst (λ (c : ℕ). IsMkfsCause size c (length (new.image n)) cause) numbers why.0, why.1)
    uncopied same sound first is are e (Full i) why = (sound, first, fits_not same Two (copied_files (recovered (old.image d))) i is are why.0, why.1)
    uncopied same sound first is are e (Leaked i) why = (sound, first, cut_short Two (copied_files (recovered (old.image d))) i is are why.0, why.1)
    uncopied same sound first is are e NoMemory why = why
    uncopied same sound first is are e Disk why = failed e why

    pub unrescued : old.image mid ≡ old.image d → opening_fault (old.image d) ≡ None → size ≡ length (old.image d) → form ≡ form_of (old.image d) → files ≡ rescued_files (recovered (old.image d)) →
        (e : E) (fault : CopyFault) → IsNotFilledOut old new size count form files mid d' n e fault → IsUnrescued old new d d' n e fault
    unrescued same opened long is are e (Old cause) why = absurd why
    unrescued same opened long is are e NotFirst why = absurd why
    unrescued same opened long is are e (Mkfs cause) why = (
      opened,
      subst (λ (s : ℕ). IsMkfsCause s (inode_count_of (old.image d)) (length (new.image n)) cause) long
          (subst (λ (c : ℕ). IsMkfsCause size c (length (new.image n)) cause) numbers why.0),
      why.1,
    )
    unrescued same opened long is are e (Full i) why = (
      opened,
      subst (λ (s : ℕ). DontFit (data_count s (inode_count_of (old.image d))) (form_of (old.image d)) (recovered (old.image d)) (rescued_files (recovered (old.image d))) i) long
          (fits_not same (form_of (old.image d)) (rescued_files (recovered (old.image d))) i is are why.0),
      why.1,
    )
    unrescued same opened long is are e (Leaked i) why = (
      opened,
      subst (λ (s : ℕ). RunsShort s (form_of (old.image d)) i (rescued_files (recovered (old.image d)))) long
          (cut_short (form_of (old.image d)) (rescued_files (recovered (old.image d))) i is are why.0),
      why.1,
    )
    unrescued same opened long is are e NoMemory why = why
    unrescued same opened long is are e Disk why = failed e why

-- ---- a disk that had no image

no_magic : (n x : Image) → 2 ≤ length n → has_known_magic n ≡ false → KeepsSuperblock n x → verdict x ≡ Some BadMagic
unfolding verdict
no_magic n x some none keeps =
    let magic : has_known_magic x ≡ false = ap (λ (b : List ℕ). is_known_magic (u32_at b 0)) keeps.super ∙ none in
    rw (le-ltb (length x) 2 (omega (arith, some, keeps.long)), magic) refl

pub stopped_copy_is_refused : StoppedCopyIsRefused
stopped_copy_is_refused size old n x some none (inl keeps) = inl (no_magic n x some none keeps)
stopped_copy_is_refused size old n x some none (inr whole) = inr whole
