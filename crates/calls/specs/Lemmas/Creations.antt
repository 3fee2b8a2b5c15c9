-- What a creation makes of the files: an empty file at a number that was free.
use Rattle.std.proofs.Common.{◌≡◌, ◌≢◌, ◌∙◌, ℕ, ◌<◌, ◌≤◌, Bool, true, false, cond, ltb, ◌&&◌, length, set, Some, None, refl, sym, ap, ⊎_elim, arith}
use Rattle.std.specs.Prelude.{is_none}
use Rattle.std.proofs.lemmas.Bool.{and_parts, cases_eq, cases_lt, ltb-true}
use Rattle.std.proofs.lemmas.List.{get_or-set_other, get_or-set_same}
use Rattle.blocks.specs.Disk.{Image}
use Rattle.model.specs.declared.types.image.Form.{Form}
use Rattle.model.specs.declared.types.operations.Op.TheVariants.{Create}
use Rattle.model.specs.declared.types.operations.Reply.TheVariants.{BadType, Made}
use Rattle.model.specs.Files.{Files, file_in}
use Rattle.model.specs.Layout.{form_of}
use Rattle.model.specs.Lemmas.Runs.{where_true_some}
use Rattle.model.specs.Operations.{after, after_done, after_refusal, is_kind}
use Rattle.calls.specs.Files.{empty_file}
use Rattle.calls.specs.Lemmas.Making.{free_of}
use Rattle.calls.specs.Stepping.{Plain}
use Rattle.calls.specs.Transactions.{Adds, HasFiles}

-- the file of a free number was made
pub record HasMade (files : Files) (kind i : ℕ) (new : Files) : Type 0 where
  pub some : 1 ≤ i
  pub below : i < length files
  pub free : file_in files i ≡ None
  pub made : new ≡ set files i (empty_file kind)

pub done_makes : (files : Files) (kind i : ℕ) (new : Files) → after_done files (Create kind) (Made i) ≡ Some new → HasMade files kind i new
done_makes files kind i new h =
    let made = where_true_some (ltb 0 i && ltb i (length files) && is_none (file_in files i)) _ new h in
    let first = and_parts (ltb 0 i && ltb i (length files)) (is_none (file_in files i)) made.0 in
    let within = and_parts (ltb 0 i) (ltb i (length files)) first.0 in
    let low = ltb-true 0 i within.0 in
    record {
      some = omega arith;
      below = ltb-true i (length files) within.1;
      free = free_of (file_in files i) first.1;
      made = made.1;
    }

pub creation_makes : (form : Form) (files : Files) (kind i : ℕ) (new : Files) → after form files (Create kind) (Made i) ≡ Some new → HasMade files kind i new
unfolding after
creation_makes form files kind i new is = by_kind (is_kind kind) is
  where
    by_kind : (b : Bool) → after_refusal (cond b None (Some BadType)) files (Create kind) (Made i) ≡ Some new → HasMade files kind i new
    by_kind false is = absurd (cc is)
    by_kind true is = done_makes files kind i new is

-- two creations of a transaction make two numbers, the first the lower one
pub creations_rise : {D : Type 0} (image : D → Image) (k m n : Plain D) (kind other i j : ℕ) (f : Files) → HasFiles image k f → Adds image (Create kind) k m (Made i) → Adds image (Create other) m n (Made j) → i < j
creations_rise image k m n kind other i j f has first second =
    let one = first.files f has in
    let g = one.0 in
    let two = second.files g one.2 in
    let made = creation_makes (form_of (image k.opening)) f kind i g one.1 in
    let next = creation_makes (form_of (image m.opening)) g other j two.0 two.1 in
    let taken : file_in g i ≡ empty_file kind = ap (λ (h : Files). file_in h i) made.made ∙ get_or-set_same f i (empty_file kind) None made.below in
    ⊎_elim (λ (same : j ≡ i). let both : empty_file kind ≡ None = sym taken ∙ ap (file_in g) (sym same) ∙ next.free in absurd (cc both))
    (λ (apart : j ≢ i). ⊎_elim
    (λ (lower : j < i). let free : file_in f j ≡ None = sym (get_or-set_other f i j (empty_file kind) None apart) ∙ ap (λ (h : Files). file_in h j) (sym made.made) ∙ next.free in
    absurd (first.lowest f has kind i j refl refl next.some lower free))
    (λ (high : i ≤ j). omega (arith, apart, high))
    (cases_lt j i))
    (cases_eq j i)
