-- Which number an answered operation makes, if any.
use Rattle.std.proofs.Common.{◌≡◌, ◌≢◌, ◌∙◌, ℕ, true, false, ltb, ◌&&◌, length, set, Option, Some, None, refl, sym, ap, subst, ⊎_elim}
use Rattle.std.specs.Prelude.{is_none}
use Rattle.std.proofs.lemmas.Bool.{and_parts, cases_eq, eqb-false, eqb-true}
use Rattle.std.proofs.lemmas.List.{get_or-set_other}
use Rattle.model.specs.declared.types.image.File.{File}
use Rattle.model.specs.declared.types.image.Form.{Form}
use Rattle.model.specs.declared.types.operations.Op.{Op}
use Rattle.model.specs.declared.types.operations.Op.TheVariants.{Create, Write, Read, Trunc, Remove, Stat, SetAttribute}
use Rattle.model.specs.declared.types.operations.Reply.{Reply}
use Rattle.model.specs.declared.types.operations.Reply.TheVariants.{Made, NoInode, Wrote, Bytes, Done, StatOf, NoFile}
use Rattle.model.specs.Files.{Files, file_in}
use Rattle.model.specs.Journal.{is_making}
use Rattle.model.specs.Operations.{after, after_at, after_done, after_on, after_refusal, is_refusal, refusal_of}
use Rattle.model.specs.Lemmas.Runs.{where_true_some}

-- no number has a file that had none
abbrev AddsNone : Files → Files → Type 0
AddsNone files new = (k : ℕ) → file_in new k ≢ None → file_in files k ≢ None

none_added : (files new : Files) → new ≡ files → AddsNone files new
none_added files new same k there none = there (ap (λ (f : Files). file_in f k) same ∙ none)

set_adds_none : (files new : Files) (i : ℕ) (o : Option File) → file_in files i ≢ None → new ≡ set files i o → AddsNone files new
set_adds_none files new i o held is k there none =
    ⊎_elim (λ (same : k ≡ i). held (ap (file_in files) (sym same) ∙ none))
    (λ (other : k ≢ i). there (ap (λ (f : Files). file_in f k) is ∙ get_or-set_other files i k o None other ∙ none)) (cases_eq k i)

on_adds : (files new : Files) (i : ℕ) (file : File) (op : Op) (reply : Reply) → file_in files i ≢ None → after_on files i file op reply ≡ Some new → AddsNone files new
on_adds files new i file (Write j off bytes) (Wrote k) held h = set_adds_none files new i _ held (where_true_some _ _ new h).1
on_adds files new i file (Read j off n) (Bytes bytes) held h = none_added files new (where_true_some _ files new h).1
on_adds files new i file (Trunc j) Done held h = set_adds_none files new i _ held (where_true_some true _ new h).1
on_adds files new i file (Remove j) Done held h = set_adds_none files new i _ held (where_true_some true _ new h).1
on_adds files new i file (Stat j) (StatOf kind links size) held h = none_added files new (where_true_some _ files new h).1
on_adds files new i file (SetAttribute j a) Done held h = set_adds_none files new i _ held (where_true_some _ _ new h).1
on_adds files new i file (SetAttribute j a) (Wrote k) held h = set_adds_none files new i _ held (where_true_some _ _ new h).1
on_adds files new i file op reply held h = absurd (cc h)

at_adds : (files new : Files) (i : ℕ) (o : Option File) (op : Op) (reply : Reply) → file_in files i ≡ o → after_at files i o op reply ≡ Some new → AddsNone files new
at_adds files new i None op reply is h = absurd (cc h)
at_adds files new i (Some file) op reply is h = on_adds files new i file op reply (λ none. let both = sym is ∙ none in cc both) h

-- only a creation is answered by a number
never_on : (files new : Files) (i j : ℕ) (file : File) (op : Op) → after_on files i file op (Made j) ≡ Some new → ⊥
never_on files new i j file (Create kind) h = cc h
never_on files new i j file (Write k off bytes) h = cc h
never_on files new i j file (Read k off n) h = cc h
never_on files new i j file (Trunc k) h = cc h
never_on files new i j file (Remove k) h = cc h
never_on files new i j file (Stat k) h = cc h
never_on files new i j file (SetAttribute k a) h = cc h

never_at : (files new : Files) (i j : ℕ) (o : Option File) (op : Op) → after_at files i o op (Made j) ≡ Some new → ⊥
never_at files new i j None op h = cc h
never_at files new i j (Some file) op h = never_on files new i j file op h

pub never_refused : (refusal : Reply) (j : ℕ) → is_refusal refusal (Made j) ≡ true → ⊥
never_refused NoFile j h = cc h
never_refused refusal j h = cc h

made_by : (reply : Reply) (i : ℕ) → is_making i (Some reply) ≡ true → (j : ℕ) × (reply ≡ Made j)
made_by (Made j) i h = (j, refl)
made_by reply i h = absurd (cc h)

-- The number that is told had no file, and no other has one that had none.
pub record Tells (files new : Files) (reply : Reply) : Type 0 where
  pub made : (i : ℕ) → is_making i (Some reply) ≡ true → file_in files i ≡ None
  pub others : (i : ℕ) → is_making i (Some reply) ≡ false → file_in new i ≢ None → file_in files i ≢ None

tells_none : (files new : Files) (reply : Reply) → ((j : ℕ) → reply ≡ Made j → ⊥) → AddsNone files new → Tells files new reply
tells_none files new reply never adds = record {
  made = λ i is. let (j, so) = made_by reply i is in absurd (never j so);
  others = λ i is. adds i;
}

pub free_of : (o : Option File) → is_none o ≡ true → o ≡ None
free_of None h = refl
free_of (Some file) h = absurd (cc h)

creation_tells : (files new : Files) (kind : ℕ) (reply : Reply) → after_done files (Create kind) reply ≡ Some new → Tells files new reply
creation_tells files new kind (Made j) h =
    let made = where_true_some (ltb 0 j && ltb j (length files) && is_none (file_in files j)) _ new h in
    let free = free_of (file_in files j) (and_parts (ltb 0 j && ltb j (length files)) (is_none (file_in files j)) made.0).1 in
    record {
      made = λ i is. ap (file_in files) (eqb-true i j is) ∙ free;
      others = λ i is there none. there (ap (λ (f : Files). file_in f i) made.1 ∙ get_or-set_other files j i _ None (eqb-false i j is) ∙ none);
    }
creation_tells files new kind NoInode h = tells_none files new NoInode (λ j is. absurd (cc is)) (none_added files new (where_true_some true files new h).1)
creation_tells files new kind reply h = absurd (cc h)

file_tells : (files new : Files) (i : ℕ) (op : Op) (reply : Reply) → after_at files i (file_in files i) op reply ≡ Some new → Tells files new reply
file_tells files new i op reply h =
    tells_none files new reply (λ j is. never_at files new i j (file_in files i) op (subst (λ (r : Reply). after_at files i (file_in files i) op r ≡ Some new) is h))
    (at_adds files new i (file_in files i) op reply refl h)

done_tells : (files new : Files) (op : Op) (reply : Reply) → after_done files op reply ≡ Some new → Tells files new reply
done_tells files new (Create kind) reply h = creation_tells files new kind reply h
done_tells files new (Write i off bytes) reply h = file_tells files new i (Write i off bytes) reply h
done_tells files new (Read i off n) reply h = file_tells files new i (Read i off n) reply h
done_tells files new (Trunc i) reply h = file_tells files new i (Trunc i) reply h
done_tells files new (Remove i) reply h = file_tells files new i (Remove i) reply h
done_tells files new (Stat i) reply h = file_tells files new i (Stat i) reply h
done_tells files new (SetAttribute i a) reply h = file_tells files new i (SetAttribute i a) reply h

tells_so : (files new : Files) (refusal : Option Reply) (op : Op) (reply : Reply) → after_refusal refusal files op reply ≡ Some new → Tells files new reply
tells_so files new None op reply h = done_tells files new op reply h
tells_so files new (Some refusal) op reply h =
    let is = where_true_some (is_refusal refusal reply) files new h in
    tells_none files new reply (λ j so. never_refused refusal j (subst (λ (r : Reply). is_refusal refusal r ≡ true) so is.0)) (none_added files new is.1)

pub after_tells : (form : Form) (files new : Files) (op : Op) (reply : Reply) → after form files op reply ≡ Some new → Tells files new reply
unfolding after
after_tells form files new op reply h = tells_so files new (refusal_of form files op) op reply h
