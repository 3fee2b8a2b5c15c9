-- What no file shows, once an operation was made, or none.
use Rattle.std.proofs.Common.{◌≡◌, ◌≢◌, ◌∙◌, ◌<◌, ◌≤◌, ◌+◌, ◌*◌, ◌/◌, ℕ, Bool, true, false, cond, ◌||◌, List, [], ◌∷◌, ◌++◌, length, Option, Some, None, refl, sym, ap, subst, inl, inr, arith}
use Rattle.std.specs.Prelude.{◌⊎◌, is_some, IsTrue}
use Rattle.std.specs.List.{list_any}
use Rattle.std.proofs.lemmas.Bool.{lt-ltb, ne_eqb, or_parts}
use Rattle.std.proofs.lemmas.List.Folds.{list_any-append}
use mathlib.Core.List.{IsPrefix}
use Rattle.blocks.specs.Disk.{Image}
use Rattle.model.specs.declared.types.image.File.{File}
use Rattle.model.specs.declared.types.image.Form.{Form}
use Rattle.model.specs.declared.types.operations.Entry.{Entry}
use Rattle.model.specs.declared.types.operations.Reply.{Reply}
use Rattle.model.specs.Crash.{IsUntouched, Keeps, due_labels, labels_of}
use Rattle.model.specs.Files.{Files, file_in, file_of, files_of}
use Rattle.model.specs.Journal.{after_answer, and_then, is_making, is_number, kept, replay}
use Rattle.model.specs.Layout.{inode_of, inode_count_of, super_in}
use Rattle.model.specs.Lemmas.FileNumbers.{below_there, file_in-files_of, length-files_of, none_at_zero}
use Rattle.model.specs.Lemmas.Runs.{and_then_some, replays_in_parts}
use Rattle.model.specs.Log.{recovered}
use Rattle.history.specs.Lemmas.Making.{makes}
use Rattle.model.specs.Operations.{after}
use Rattle.calls.specs.Lemmas.Unshown.{due_there}
use Rattle.calls.specs.Unshown.{KeepsOrRenews, KeepsUnshown, labels_due}
use Rattle.calls.specs.Lemmas.Making.{after_tells}

-- ---- a number that has a file

free_here : (x : Image) (i : ℕ) → i ≢ 0 → i < inode_count_of x → (inode_of x i).kind ≡ 0 → file_in (files_of x) i ≡ None
unfolding file_of
free_here x i some low free = file_in-files_of x i low ∙ rw (ne_eqb i 0 some, free) refl

pub record IsUsed (x : Image) (i : ℕ) : Type 0 where
  pub used : (inode_of x i).kind ≢ 0
  pub number : is_number (inode_count_of x) i ≡ true

pub used_there : (x : Image) (i : ℕ) → file_in (files_of x) i ≢ None → IsUsed x i
used_there x i there =
    let low : i < inode_count_of x = subst (λ (n : ℕ). i < n) (length-files_of x) (below_there (files_of x) i there) in
    let some : i ≢ 0 = λ zero. there (none_at_zero x i zero) in
    record {
      used = λ free. there (free_here x i some low free);
      number = rw (lt-ltb 0 i (omega (arith, some)), lt-ltb i (inode_count_of x) low) refl;
    }

-- ---- behind an opening

-- an image has what no operation touches of its opening, and the labels that are due after entries
pub record HasMarks (opening : Image) (entries : List Entry) (x : Image) : Type 0 where
  pub untouched : IsUntouched opening x
  pub labels : (i : ℕ) → (inode_of x i).kind ≢ 0 → IsTrue (is_number (inode_count_of opening) i) → labels_of x i ≡ due_labels opening entries i

pub kept_marks : (opening : Image) (es : List Entry) (x : Image) (c : ℕ) → Keeps opening es x c → HasMarks opening (kept (inode_count_of opening) es c) (recovered x)
kept_marks opening es x c keeps = record { untouched = keeps.untouched; labels = keeps.labels }

module _ (o x y : Image) (es : List Entry) (size : length x ≡ length o) (was : HasMarks o es x) where
  pub untouched_since : IsUntouched o y → IsUntouched x y
  untouched_since now =
      let count : inode_count_of x ≡ inode_count_of o = ap (λ (b : List ℕ). (super_in b).ninodes) was.untouched.super in
      record {
        boot = now.boot ∙ sym was.untouched.boot;
        super = now.super ∙ sym was.untouched.super;
        inode_zero = now.inode_zero ∙ sym was.untouched.inode_zero;
        inodes_past = λ i low high.
            let low_then : inode_count_of o ≤ i = omega (arith, low, count) in
            let high_then = subst (λ (n : ℕ). i < 16 * (n / 16 + 1)) count high in
            now.inodes_past i low_then high_then ∙ sym (was.untouched.inodes_past i low_then high_then);
        bits_past = λ b low high. let low_then : length o ≤ b = omega (arith, low, size) in now.bits_past b low_then high ∙ sym (was.untouched.bits_past b low_then high);
      }

  number_then : (z : Image) → IsUntouched o z → (i : ℕ) → is_number (inode_count_of z) i ≡ true → is_number (inode_count_of o) i ≡ true
  number_then z untouched i number = ap (λ (b : List ℕ). is_number (super_in b).ninodes i) (sym untouched.super) ∙ number

  -- the labels of a file that was there are those that are due then
  pub labels_then : (i : ℕ) → file_in (files_of x) i ≢ None → labels_of x i ≡ due_labels o es i
  labels_then i there = let is = used_there x i there in was.labels i is.used (number_then x was.untouched i is.number)

  pub labels_now : (fs : List Entry) → HasMarks o fs y → (i : ℕ) → file_in (files_of y) i ≢ None → labels_of y i ≡ due_labels o fs i
  labels_now fs now i there = let is = used_there y i there in now.labels i is.used (number_then y now.untouched i is.number)

  -- the files are the same ones
  pub unshown_same : HasMarks o es y → files_of y ≡ files_of x → KeepsUnshown x y
  unshown_same now same = record {
    untouched = untouched_since now.untouched;
    labels = λ i there.
        let was_there : file_in (files_of x) i ≢ None = λ none. there (ap (λ (f : Files). file_in f i) same ∙ none) in
        labels_now es now i there ∙ sym (labels_then i was_there) ∙ sym (due_there x i was_there);
  }

  -- or those after an operation more
  module _ (form : Form) (e : Entry) (r : Reply) (replied : e.reply ≡ Some r) (made : after form (files_of x) e.op r ≡ Some (files_of y)) where
    makes_one : (i : ℕ) → list_any (λ (f : Entry). is_making i f.reply) (es ++ e ∷ []) ≡ (list_any (λ (f : Entry). is_making i f.reply) es || (is_making i (Some r) || false))
    makes_one i = list_any-append (λ (f : Entry). is_making i f.reply) es (e ∷ []) ∙ ap (λ (o : Option Reply). list_any (λ (f : Entry). is_making i f.reply) es || (is_making i o || false)) replied

    or_none : (b : Bool) → (b || (false || false)) ≡ b
    or_none true = refl
    or_none false = refl

    or_one : (b : Bool) → (b || (true || false)) ≡ true
    or_one true = refl
    or_one false = refl

    due_after : (i : ℕ) (b : Bool) → is_making i (Some r) ≡ b → file_in (files_of y) i ≢ None → (file : Option File) → file_in (files_of x) i ≡ file →
        due_labels o (es ++ e ∷ []) i ≡ cond (is_some file) (labels_of x i) (0, 0)
    due_after i true is there None none =
        ap (λ (b : Bool). cond b (0, 0) (labels_of o i)) (makes_one i ∙ ap (λ (b : Bool). list_any (λ (f : Entry). is_making i f.reply) es || (b || false)) is ∙ or_one (list_any (λ (f : Entry). is_making i f.reply) es))
    due_after i true is there (Some file) some =
        let both = sym some ∙ (after_tells form (files_of x) (files_of y) e.op r made).made i is in
        absurd (cc both)
    due_after i false is there None none = absurd ((after_tells form (files_of x) (files_of y) e.op r made).others i is there none)
    due_after i false is there (Some file) some =
        ap (λ (b : Bool). cond b (0, 0) (labels_of o i)) (makes_one i ∙ ap (λ (b : Bool). list_any (λ (f : Entry). is_making i f.reply) es || (b || false)) is ∙ or_none (list_any (λ (f : Entry). is_making i f.reply) es))
        ∙ sym (labels_then i (λ none. let both = sym some ∙ none in cc both))

    pub unshown_more : HasMarks o (es ++ e ∷ []) y → KeepsUnshown x y
    unshown_more now = record {
      untouched = untouched_since now.untouched;
      labels = λ i there. labels_now (es ++ e ∷ []) now i there ∙ due_after i (is_making i (Some r)) refl there (file_in (files_of x) i) refl;
    }

-- ---- behind several operations

-- without a creation that made a number, only files that were there are
none_made : (form : Form) (files new : Files) (es : List Entry) (i : ℕ) → replay form files es ≡ Some new → makes i es ≡ false → file_in new i ≢ None → file_in files i ≢ None
none_made form files new [] i run none there = let same : files ≡ new = cc run in λ gone. there (ap (λ (f : Files). file_in f i) (sym same) ∙ gone)
none_made form files new (e ∷ es) i run none there = by_reply e.reply refl (λ mid run none. none_made form mid new es i run none there)
  where
    by_reply : (o : Option Reply) → e.reply ≡ o → ((mid : Files) → replay form mid es ≡ Some new → makes i es ≡ false → file_in mid i ≢ None) → file_in files i ≢ None
    by_reply None is rest =
        let first = and_then_some (after_answer form files e.op e.reply) (λ f. replay form f es) new run in
        let no = sym (ap (after_answer form files e.op) is) ∙ first.1 in absurd (cc no)
    by_reply (Some r) is rest =
        let first = and_then_some (after_answer form files e.op e.reply) (λ f. replay form f es) new run in
        let parts = or_parts (is_making i e.reply) (makes i es) none in
        (after_tells form files first.0 e.op r (sym (ap (after_answer form files e.op) is) ∙ first.1)).others i (ap (is_making i) (sym is) ∙ parts.0)
        (rest first.0 first.2 parts.1)

module _ (o x y : Image) (es all : List Entry) (size : length x ≡ length o) (was : HasMarks o es x) (now : HasMarks o all y) (first : IsPrefix es all) (form : Form) (start : Files) (before : replay form start es ≡ Some (files_of x)) (run : replay form start all ≡ Some (files_of y)) where
  rest : List Entry
  rest = first.0

  rest_run : replay form (files_of x) rest ≡ Some (files_of y)
  unfolding rest
  rest_run =
      let both = sym (replays_in_parts form start es first.0) ∙ ap (replay form start) first.1 ∙ run in
      subst (λ (f : Option Files). and_then f (λ g. replay form g first.0) ≡ Some (files_of y)) before both

  makes_all : (i : ℕ) → makes i all ≡ (makes i es || makes i rest)
  unfolding rest
  makes_all i = ap (makes i) (sym first.1) ∙ list_any-append (λ (f : Entry). is_making i f.reply) es first.0

  labels_by : (i : ℕ) (b c : Bool) → makes i rest ≡ b → makes i es ≡ c → file_in (files_of y) i ≢ None → (labels_of y i ≡ labels_due x i) ⊎ (labels_of y i ≡ (0, 0))
  labels_by i b true made here there = inr (labels_now o x y es size was all now i there ∙ ap (λ (t : Bool). cond t (0, 0) (labels_of o i)) (makes_all i ∙ ap (λ (t : Bool). t || makes i rest) here))
  labels_by i true false made here there = inr (labels_now o x y es size was all now i there ∙ ap (λ (t : Bool). cond t (0, 0) (labels_of o i)) (makes_all i ∙ ap (λ (t : Bool). t || makes i rest) here ∙ made))
  labels_by i false false made here there =
      let there_then = none_made form (files_of x) (files_of y) rest i rest_run made there in
      inl (labels_now o x y es size was all now i there ∙ ap (λ (t : Bool). cond t (0, 0) (labels_of o i)) (makes_all i ∙ ap (λ (t : Bool). t || makes i rest) here ∙ made ∙ sym here)
      ∙ sym (labels_then o x y es size was i there_then) ∙ sym (due_there x i there_then))

  pub renews : KeepsOrRenews x y
  renews = record { untouched = untouched_since o x y es size was now.untouched; labels = λ i there. labels_by i (makes i rest) (makes i es) refl refl there }
