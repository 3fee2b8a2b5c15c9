-- What a check and a walk over the inodes tell of the old image, and which files are copied of it.
use Rattle.std.proofs.Common.{◌≡◌, ◌≢◌, ◌∙◌, ℕ, ◌+◌, ◌-◌, ◌<◌, ◌≤◌, Bool, true, false, cond, eqb, List, [], ◌∷◌, ◌++◌, length, get_or, map, suc, take, zero, Option, Some, None, refl, sym, ap, subst, inl, inr, ⊎_elim, arith}
use Rattle.std.proofs.lemmas.Bool.{cases_Bool, cases_eq, cases_lt, ne_eqb}
use Rattle.std.proofs.lemmas.List.{get_or-take, get_or_append_left, get_or_past, get_or_push, length-map, length-take-le, length_push}
use Rattle.std.proofs.lemmas.List.FromFn.{get_or-map-range_with_len, length-map-range_with_len}
use Rattle.blocks.specs.Disk.{Image, IsImage, Rose}
use Rattle.model.specs.declared.types.fault.CheckFault.{CheckFault}
use Rattle.model.specs.declared.types.fault.CheckFault.TheVariants as check
use Rattle.model.specs.declared.types.image.File.{File}
use Rattle.model.specs.declared.types.image.Form.{Form}
use Rattle.model.specs.declared.types.image.Form.TheVariants.{One, Two}
use Rattle.model.specs.declared.types.image.Super.{Super}
use Rattle.model.specs.Fields.{u32_at}
use Rattle.model.specs.Files.{Files, bytes_in, file_at, file_in, file_of, files_of}
use Rattle.model.specs.Layout.{form_of, greatest_size, inode_of, inode_count_of, magic_of}
use Rattle.model.specs.Log.{is_lawful_log, recovered}
use Rattle.model.specs.Places.{numbers_of}
use Rattle.model.specs.Soundness.{IsLawfulInode}
use Rattle.model.specs.Verdict.{geometry_fault, log_fault, or_else, verdict}
use Rattle.model.specs.Lemmas.Counts.{All-range_at}
use Rattle.model.specs.Lemmas.FileNumbers.{file_in-files_of, length-files_of}
use Rattle.model.specs.Lemmas.Log.{recovered_low}
use Rattle.model.specs.Lemmas.Soundness.{verdict_sound}
use Rattle.model.specs.Lemmas.Super.{lawful_geometry, super_of-recovered, verdict_none}
use Rattle.offline.specs.Cause.{IsBreak, IsCause}
use Rattle.offline.specs.Clean.{clean_files, clean_kind, is_clean, Sorts}
use Rattle.offline.specs.Laws.{CheckedFilesMayBeRead, CleanFilesAreWhole, IsWholeInode}
use Rattle.offline.specs.Recovered.{IsRecoveredOf}
use Rattle.offline.specs.declared.recovered.Recovered.{Recovered}
use Rattle.offline.specs.declared.sorting.Sorted.{Sorted}
use Rattle.transfer.specs.Rescues.{opening_fault}
use Rattle.transfer.specs.Source.{AreFirstKinds, chosen_at, chosen_files, CopiesAll, CopiesClean, copied_files, IsSourceOf, named_once, rescued_files}
use Rattle.transfer.specs.Stages.{kind_at}
use Rattle.transfer.specs.declared.source.Source.{Source}
use Rattle.transfer.proofs.StageLemmas.{are_listed, in_listed, length-listed}

-- there are two forms
pub not_two : (form : Form) → form ≢ Two → form ≡ One
not_two One other = refl
not_two Two other = absurd (other refl)

-- an image without a fault that isn't opened: a read failed
pub open_rose : (x : Image) (old mid new : ℕ) (fault : CheckFault) → verdict x ≡ None → mid ≡ old →
    IsCause (or_else (geometry_fault x) (log_fault x)) mid new fault → fault ≢ check.NoMemory → Rose old new
open_rose x old mid new fault sound same (inl here) other =
    let parts = verdict_none x sound in
    let log : log_fault x ≡ None = rw parts.1 refl in
    absurd (cc (here, log, ap (λ o. or_else o (log_fault x)) parts.0))
open_rose x old mid new fault sound same (inr (inl failed)) other = rw (sym same) failed.1
open_rose x old mid new fault sound same (inr (inr refused)) other = absurd (other refused)

-- recovery leaves how many numbers there are
pub count_recovered : (x : Image) → geometry_fault x ≡ None → is_lawful_log x ≡ true → inode_count_of (recovered x) ≡ inode_count_of x
count_recovered x geometry lawful =
    let f = lawful_geometry x geometry in
    let room = f.room in
    let size = f.size in
    ap (λ (s : Super). s.ninodes) (super_of-recovered x lawful (omega arith))

-- what holds of each of a list's numbers and of one more
pub each_more : (f : ℕ → ℕ) (xs : List ℕ) (x : ℕ) → ((k : ℕ) → k < length xs → get_or xs k 0 ≡ f k) → x ≡ f (length xs) →
    (k : ℕ) → k < length (xs ++ x ∷ []) → get_or (xs ++ x ∷ []) k 0 ≡ f k
each_more f xs x each here k low =
    ⊎_elim (λ (before : k < length xs). get_or_append_left xs (x ∷ []) 0 k before ∙ each k before)
    (λ (past : length xs ≤ k). let last : length xs ≡ k = omega (arith, low, length_push xs x) in get_or_push xs x 0 k last ∙ here ∙ ap f last)
    (cases_lt k (length xs))

-- a list up to the last number that is not 0
pub same_cut : (kinds cut : List ℕ) (used : ℕ) → used ≤ length kinds → ((k : ℕ) → used ≤ k → k < length kinds → get_or kinds k 0 ≡ 0) → cut ≡ take used kinds →
    (k : ℕ) → get_or cut k 0 ≡ get_or kinds k 0
same_cut kinds cut used few rest is k =
    ap (λ (l : List ℕ). get_or l k 0) is
    ∙ ⊎_elim (λ (low : k < used). get_or-take used kinds k 0 low)
    (λ (past : used ≤ k).
    get_or_past (take used kinds) k 0 (omega (arith, past, length-take-le used kinds few))
    ∙ sym (⊎_elim (λ (inside : k < length kinds). rest k past inside) (λ (behind : length kinds ≤ k). get_or_past kinds k 0 behind) (cases_lt k (length kinds))))
    (cases_lt k used)

-- ---- the files that are copied

both_same : {A : Type 0} (b : Bool) (x : A) → cond b x x ≡ x
both_same true x = refl
both_same false x = refl

file_there : (y : Image) (i : ℕ) → 1 ≤ i → (inode_of y i).kind ≢ 0 → file_at y i ≡ Some (record { kind = (inode_of y i).kind; links = (inode_of y i).nlink; bytes = bytes_in y (inode_of y i) })
unfolding file_of
file_there y i some used = rw (ne_eqb i 0 (omega (arith, some)), ne_eqb (inode_of y i).kind 0 used) refl

in_copies : (files : Files) (i : ℕ) → file_in (map named_once files) i ≡ named_once (file_in files i)
in_copies [] i = refl
in_copies (file ∷ files) zero = refl
in_copies (file ∷ files) (suc i) = in_copies files i

module _ (y : Image) (kinds : List ℕ) (i : ℕ) where
  pub chosen_free : kind_at kinds i ≡ 0 → chosen_at y kinds i ≡ None
  chosen_free free = rw free refl

  pub chosen_there : kind_at kinds i ≢ 0 → chosen_at y kinds i ≡ named_once (file_at y i)
  chosen_there used = rw (ne_eqb (kind_at kinds i) 0 used) refl

  pub chosen_used : 1 ≤ i → kind_at kinds i ≢ 0 → kind_at kinds i ≡ (inode_of y i).kind →
      chosen_at y kinds i ≡ Some (record { kind = (inode_of y i).kind; links = 1; bytes = bytes_in y (inode_of y i) })
  chosen_used some used is = chosen_there used ∙ ap named_once (file_there y i some (λ free. used (is ∙ free)))

pub chosen_zero : (y : Image) (kinds : List ℕ) → chosen_at y kinds 0 ≡ None
chosen_zero y kinds = both_same (eqb (kind_at kinds 0) 0) None

file_free : (y : Image) (i : ℕ) → (inode_of y i).kind ≡ 0 → file_at y i ≡ None
unfolding file_of
file_free y i free = rw free (both_same (eqb i 0) None)

-- where each type is that of its inode, these are all
module _ (y : Image) (kinds : List ℕ) (first : AreFirstKinds y kinds (inode_count_of y - 1)) (cut : List ℕ) (same : (k : ℕ) → get_or cut k 0 ≡ get_or kinds k 0) where
  kind_is : (i : ℕ) → 1 ≤ i → i < inode_count_of y → kind_at cut i ≡ (inode_of y i).kind
  kind_is i some low =
      let at : i - 1 + 1 ≡ i = omega arith in
      same (i - 1) ∙ first.each (i - 1) (omega arith) ∙ ap (λ (j : ℕ). (inode_of y j).kind) at

  chosen_all_at : (i : ℕ) → i < inode_count_of y → named_once (file_at y i) ≡ chosen_at y cut i
  chosen_all_at i low =
      ⊎_elim
      (λ (zero : i ≡ 0). subst (λ (j : ℕ). named_once (file_at y j) ≡ chosen_at y cut j) (sym zero) (sym (chosen_zero y cut)))
      (λ (some : i ≢ 0).
      let is = kind_is i (omega arith) low in
      ⊎_elim (λ (free : kind_at cut i ≡ 0). ap named_once (file_free y i (sym is ∙ free)) ∙ sym (chosen_free y cut i free))
      (λ (used : kind_at cut i ≢ 0). sym (chosen_there y cut i used))
      (cases_eq (kind_at cut i) 0))
      (cases_eq i 0)

  pub chosen_all : chosen_files y cut ≡ copied_files y
  chosen_all =
      sym (are_listed (copied_files y) (inode_count_of y) (chosen_at y cut) (length-map (files_of y) named_once ∙ length-files_of y)
      (λ j low. in_copies (files_of y) j ∙ ap named_once (file_in-files_of y j low) ∙ chosen_all_at j low))

-- where each is that of a clean inode, or 0, these are the clean ones
module _ (y : Image) (kinds : List ℕ) (is : kinds ≡ map (clean_kind y) (numbers_of y)) (cut : List ℕ) (same : (k : ℕ) → get_or cut k 0 ≡ get_or kinds k 0) where
  pub clean_long : length kinds ≡ inode_count_of y - 1
  clean_long = ap length is ∙ length-map-range_with_len (clean_kind y) 1 (inode_count_of y - 1)

  pub clean_kind_is : (k : ℕ) → k < inode_count_of y - 1 → get_or cut k 0 ≡ clean_kind y (k + 1)
  clean_kind_is k low =
      let at : 1 + k ≡ k + 1 = omega arith in
      same k ∙ ap (λ (l : List ℕ). get_or l k 0) is ∙ get_or-map-range_with_len (clean_kind y) 1 (inode_count_of y - 1) k (k + 1) 0 low at

  abbrev clean_at : ℕ → Option File
  clean_at i = cond (is_clean y i) (file_at y i) None

  chosen_clean_at : (i : ℕ) → i < inode_count_of y → named_once (clean_at i) ≡ chosen_at y cut i
  chosen_clean_at i low =
      ⊎_elim
      (λ (zero : i ≡ 0). subst (λ (j : ℕ). named_once (cond (is_clean y j) (file_at y j) None) ≡ chosen_at y cut j) (sym zero) (ap named_once (both_same (is_clean y 0) None) ∙ sym (chosen_zero y cut)))
      (λ (some : i ≢ 0).
      let at : i - 1 + 1 ≡ i = omega arith in
      let kind : kind_at cut i ≡ clean_kind y i = clean_kind_is (i - 1) (omega arith) ∙ ap (clean_kind y) at in
      ⊎_elim
      (λ (clean : is_clean y i ≡ true).
      let here : kind_at cut i ≡ (inode_of y i).kind = kind ∙ rw clean refl in
      rw clean
      (⊎_elim (λ (free : kind_at cut i ≡ 0). ap named_once (file_free y i (sym here ∙ free)) ∙ sym (chosen_free y cut i free))
      (λ (used : kind_at cut i ≢ 0). sym (chosen_there y cut i used))
      (cases_eq (kind_at cut i) 0)))
      (λ (not_clean : is_clean y i ≡ false). rw not_clean (sym (chosen_free y cut i (kind ∙ rw not_clean refl))))
      (cases_Bool (is_clean y i)))
      (cases_eq i 0)

  pub chosen_clean : chosen_files y cut ≡ rescued_files y
  chosen_clean =
      sym (are_listed (rescued_files y) (inode_count_of y) (chosen_at y cut) (length-map (clean_files y) named_once ∙ length-listed (inode_count_of y) clean_at)
      (λ j low. in_copies (clean_files y) j ∙ ap named_once (in_listed (inode_count_of y) clean_at j low) ∙ chosen_clean_at j low))

  -- one that has a type is clean, and the type is that of its inode
  pub clean_used : (k : ℕ) → k < inode_count_of y - 1 → get_or cut k 0 ≢ 0 → (is_clean y (k + 1) ≡ true) × (get_or cut k 0 ≡ (inode_of y (k + 1)).kind)
  clean_used k low used =
      let kind = clean_kind_is k low in
      ⊎_elim
      (λ (clean : is_clean y (k + 1) ≡ true). (clean, kind ∙ rw clean refl))
      (λ (not_clean : is_clean y (k + 1) ≡ false). absurd (used (kind ∙ rw not_clean refl)))
      (cases_Bool (is_clean y (k + 1)))

-- ---- a source

form_in : List ℕ → Form
form_in b = cond (eqb (u32_at b 0) (magic_of Two)) Two One

-- recovery leaves the form
pub form_recovered : (x : Image) → geometry_fault x ≡ None → is_lawful_log x ≡ true → form_of (recovered x) ≡ form_of x
unfolding form_in
form_recovered x geometry lawful =
    let f = lawful_geometry x geometry in
    let room = f.room in
    let size = f.size in
    ap form_in (recovered_low x 1 lawful (omega arith) (omega arith) (omega arith))

-- a used inode of an image without a fault is whole
pub whole_where_sound : (x : Image) (i : ℕ) → CheckedFilesMayBeRead → IsImage x → verdict x ≡ None → 1 ≤ i → i < inode_count_of x → (inode_of (recovered x) i).kind ≢ 0 →
    IsWholeInode (recovered x) (inode_of (recovered x) i)
whole_where_sound x i law image none some low used =
    let y = recovered x in
    let parts = verdict_none x none in
    let same = count_recovered x parts.0 parts.1 in
    let sound = (verdict_sound x none).2 in
    let lawful = All-range_at (λ j. IsLawfulInode (form_of y) (inode_of y j)) 1 (inode_count_of y - 1) i sound.inodes some (omega (arith, same, some, low)) in
    record {
      used = used;
      kind = lawful.kind;
      size = lawful.size used;
      reads = law x i image none some low used;
    }

-- the source of a copy
pub source_of_all : (x : Image) (source : Source) (kinds : List ℕ) → CheckedFilesMayBeRead → IsImage x → verdict x ≡ None → form_of x ≡ One → source.form ≡ Two → IsRecoveredOf x source.image →
    AreFirstKinds (recovered x) kinds (inode_count_of x - 1) → length source.kinds.items ≤ length kinds → ((k : ℕ) → get_or source.kinds.items k 0 ≡ get_or kinds k 0) →
    IsSourceOf x source
source_of_all x source kinds law image none first two is all few same =
    let some = (lawful_geometry x is.geometry).some in
    let long = all.long in
    let kind : (k : ℕ) → k < length source.kinds.items → get_or source.kinds.items k 0 ≡ (inode_of (recovered x) (k + 1)).kind = λ k low. same k ∙ all.each k (omega arith) in
    record {
      image = is;
      few = omega arith;
      each = λ k low used. kind k low;
      whole = λ k low used. whole_where_sound x (k + 1) law image none (omega arith) (omega arith) (λ free. used (kind k low ∙ free));
      fits = rw (first, two) (omega arith);
    }

pub copies_all : (x : Image) (source : Source) (kinds : List ℕ) → verdict x ≡ None → form_of x ≡ One → source.form ≡ Two →
    AreFirstKinds (recovered x) kinds (inode_count_of x - 1) → ((k : ℕ) → get_or source.kinds.items k 0 ≡ get_or kinds k 0) → CopiesAll x source
copies_all x source kinds none first two all same =
    let parts = verdict_none x none in
    record {
      sound = none;
      first = first;
      form = two;
      files = chosen_all (recovered x) kinds
          (subst (λ (n : ℕ). AreFirstKinds (recovered x) kinds (n - 1)) (sym (count_recovered x parts.0 parts.1)) all) source.kinds.items same;
    }

-- the source of a rescue
pub source_of_clean : (x : Image) (source : Source) (sorted : Sorted) → CleanFilesAreWhole → IsImage x → source.form ≡ source.image.form → IsRecoveredOf x source.image →
    Sorts (recovered x) (numbers_of (recovered x)) sorted → length source.kinds.items ≤ length sorted.kinds.items → ((k : ℕ) → get_or source.kinds.items k 0 ≡ get_or sorted.kinds.items k 0) →
    IsSourceOf x source
source_of_clean x source sorted law image own is sorts few same =
    let y = recovered x in
    let some = (lawful_geometry x is.geometry).some in
    let lawful = is.header.lawful in
    let count = count_recovered x is.geometry lawful in
    let long = clean_long y sorted.kinds.items sorts.kinds source.kinds.items same in
    let used = clean_used y sorted.kinds.items sorts.kinds source.kinds.items same in
    record {
      image = is;
      few = omega arith;
      each = λ k low there. (used k (omega arith) there).1;
      whole = λ k low there. law x (k + 1) image is.geometry lawful (omega arith) (used k (omega arith) there).0;
      fits = subst (λ (f : Form). greatest_size (form_of x) ≤ greatest_size f) (sym (own ∙ is.form)) (omega arith);
    }

pub copies_clean : (x : Image) (source : Source) (sorted : Sorted) → source.form ≡ source.image.form → IsRecoveredOf x source.image →
    Sorts (recovered x) (numbers_of (recovered x)) sorted → ((k : ℕ) → get_or source.kinds.items k 0 ≡ get_or sorted.kinds.items k 0) → CopiesClean x source
copies_clean x source sorted own is sorts same = record {
  form = own ∙ is.form;
  files = chosen_clean (recovered x) sorted.kinds.items sorts.kinds source.kinds.items same;
}

-- what breaks a walk off is a cause of any fault that is looked for
pub break_cause : (expected : Option CheckFault) (old mid new : ℕ) (fault : CheckFault) → mid ≡ old → IsBreak mid new fault → IsCause expected old new fault
break_cause expected old mid new check.Disk same rose = inr (inl (refl, subst (λ (n : ℕ). Rose n new) same rose))
break_cause expected old mid new check.NoMemory same kept = inr (inr refl)
break_cause expected old mid new check.BadMagic same why = absurd why
break_cause expected old mid new check.BadGeometry same why = absurd why
break_cause expected old mid new check.BadLog same why = absurd why
break_cause expected old mid new (check.BadType i) same why = absurd why
break_cause expected old mid new (check.BadSize i) same why = absurd why
break_cause expected old mid new (check.BadAddress i) same why = absurd why
break_cause expected old mid new (check.TwiceUsed b) same why = absurd why
break_cause expected old mid new (check.UsedButFree b) same why = absurd why
break_cause expected old mid new (check.LostBlock b) same why = absurd why

-- what is known of an image that was opened
pub opened_none : (x : Image) (image : Recovered) → IsRecoveredOf x image → opening_fault x ≡ None
opened_none x image is = rw (is.geometry, is.header.lawful) refl

pub opened_long : (x : Image) (image : Recovered) → IsRecoveredOf x image → image.sup.size ≡ length x
opened_long x image is = ap (λ (s : Super). s.size) is.sup ∙ (lawful_geometry x is.geometry).size
