-- How the operations on a directory are answered.
use Rattle.std.proofs.Common.{◌≡◌, ◌≢◌, ◌⊎◌, inl, inr, ℕ, ◌+◌, ◌*◌, ◌%◌, ◌≤◌, true, cond, ◌&&◌, ◌||◌, eqb, ltb, leb, List, length, take, set, Option, Some, None, refl, sym, ap, subst, ◌∙◌, ⊎_elim, arith}
use Rattle.std.proofs.lemmas.Bool.{le-ltb, leb-true, cond-false, and_parts, or_cases, eqb-true}
use Rattle.blocks.specs.Block.{overwritten}
use Rattle.model.specs.declared.types.image.File.{File}
use Rattle.model.specs.declared.types.image.Form.{Form}
use Rattle.model.specs.declared.types.operations.Op.{Op}
use Rattle.model.specs.declared.types.operations.Op.TheVariants.{Write, Remove}
use Rattle.model.specs.declared.types.operations.Reply.{Reply}
use Rattle.model.specs.declared.types.operations.Reply.TheVariants.{Wrote, Done, BadOffset, TooBig, TooLong}
use Rattle.model.specs.Files.{Files, file_in}
use Rattle.model.specs.Layout.{greatest_size}
use Rattle.model.specs.Lemmas.Runs.{where_true_some}
use Rattle.model.specs.Operations.{after, after_refusal, after_done, after_at, after_on, refusal_of, write_refusal, no_file_refusal, may_have_written, with_bytes}
use Rattle.directories.specs.declared.entries.EntryWrite.{EntryWrite}
use Rattle.directories.specs.Writes.{operation_of}
use Rattle.directories.specs.Trees.{bytes_of, directory_in, kind_of, IsDirectory, IsFile}
use Rattle.directories.specs.Lemmas.EntryWrites.{whole_entry}
use Rattle.directories.specs.Lemmas.Keeping.{at_cases}
use Rattle.directories.specs.Lemmas.Sizes.{few_fit}

pub file_by : (o : Option File) → kind_of o ≡ 1 → (d : File) × (o ≡ Some d)
file_by None h = absurd (omega arith)
file_by (Some d) h = (d, refl)

pub some_by : (o : Option File) → o ≢ None → (d : File) × (o ≡ Some d)
some_by None h = absurd (h refl)
some_by (Some d) h = (d, refl)

pub done_where : (form : Form) (files new : Files) (op : Op) (reply : Reply) → refusal_of form files op ≡ None →
    after form files op reply ≡ Some new → after_done files op reply ≡ Some new
unfolding after
done_where form files new op reply allowed h = subst (λ (r : Option Reply). after_refusal r files op reply ≡ Some new) allowed h

-- a write that begins in the file and ends where a file may end is not refused
within_allowed : (form : Form) (files : Files) (i : ℕ) (d : File) (off : ℕ) (bytes : List ℕ) → file_in files i ≡ Some d →
    off ≤ length d.bytes → length bytes ≤ 3072 → off + length bytes ≤ greatest_size form → refusal_of form files (Write i off bytes) ≡ None
within_allowed form files i d off bytes is at few most =
    cond-false (ltb 3072 (length bytes)) (Some TooLong) (write_refusal form (file_in files i) off (length bytes)) (le-ltb 3072 (length bytes) few)
    ∙ ap (λ (o : Option File). write_refusal form o off (length bytes)) is
    ∙ cond-false (ltb (length d.bytes) off) (Some BadOffset) (cond (ltb (greatest_size form) (off + length bytes)) (Some TooBig) None)
    (le-ltb (length d.bytes) off at)
    ∙ cond-false (ltb (greatest_size form) (off + length bytes)) (Some TooBig) None (le-ltb (greatest_size form) (off + length bytes) most)

-- a write within the first 3072 bytes that begins in the file is not refused
pub write_allowed : (form : Form) (files : Files) (i : ℕ) (d : File) (off : ℕ) (bytes : List ℕ) → file_in files i ≡ Some d →
    off ≤ length d.bytes → off + length bytes ≤ 3072 → refusal_of form files (Write i off bytes) ≡ None
write_allowed form files i d off bytes is at fits =
    within_allowed form files i d off bytes is at (omega arith) (few_fit form (off + length bytes) fits)

-- what a write that was done says
pub record HasWrote (files new : Files) (i : ℕ) (file : File) (off : ℕ) (bytes : List ℕ) (reply : Reply) : Type 0 where
  pub count : ℕ
  pub is : reply ≡ Wrote count
  pub may : may_have_written (length file.bytes) off (length bytes) count ≡ true
  pub made : new ≡ set files i (with_bytes file (overwritten file.bytes off (take count bytes)))

pub wrote_on : (files new : Files) (i : ℕ) (file : File) (j off : ℕ) (bytes : List ℕ) (reply : Reply) →
    after_on files i file (Write j off bytes) reply ≡ Some new → HasWrote files new i file off bytes reply
wrote_on files new i file j off bytes (Wrote k) h =
    let both = where_true_some (may_have_written (length file.bytes) off (length bytes) k)
    (set files i (with_bytes file (overwritten file.bytes off (take k bytes)))) new h in
    record { count = k; is = refl; may = both.0; made = both.1 }
wrote_on files new i file j off bytes reply h = absurd (cc h)

allowed_done : (form : Form) (files new : Files) (i : ℕ) (d : File) (off : ℕ) (bytes : List ℕ) (reply : Reply) → file_in files i ≡ Some d →
    refusal_of form files (Write i off bytes) ≡ None → after form files (Write i off bytes) reply ≡ Some new → HasWrote files new i d off bytes reply
allowed_done form files new i d off bytes reply is allowed h =
    let done = done_where form files new (Write i off bytes) reply allowed h in
    wrote_on files new i d i off bytes reply (subst (λ (o : Option File). after_at files i o (Write i off bytes) reply ≡ Some new) is done)

pub write_done : (form : Form) (files new : Files) (i : ℕ) (d : File) (off : ℕ) (bytes : List ℕ) (reply : Reply) → file_in files i ≡ Some d →
    off ≤ length d.bytes → off + length bytes ≤ 3072 → after form files (Write i off bytes) reply ≡ Some new →
    HasWrote files new i d off bytes reply
write_done form files new i d off bytes reply is at fits h =
    allowed_done form files new i d off bytes reply is (write_allowed form files i d off bytes is at fits) h

-- the write of an entry within the directory or right behind it
pub record HasAnswered (size place : ℕ) (reply : Reply) : Type 0 where
  pub either : (reply ≡ Wrote 16) ⊎ (reply ≡ Wrote 0)
  pub there : 16 * place + 16 ≤ size → reply ≡ Wrote 16
  pub none : reply ≡ Wrote 0 → ((16 * place) % 1024 ≡ 0) × (size ≤ 16 * place)

-- where nothing is written, the entry would begin a block, at the directory's end or behind it
nothing_only_behind : (old place n k : ℕ) → n ≡ 16 → k ≡ 0 → may_have_written old (16 * place) n k ≡ true → ((16 * place) % 1024 ≡ 0) × (old ≤ 16 * place)
nothing_only_behind old place n k size none h =
    let parts = and_parts (leb k n) (eqb k n || (eqb ((16 * place + k) % 1024) 0 && leb old (16 * place + k))) h in
    let more : 16 * place + k ≡ 16 * place = omega (arith, none) in
    ⊎_elim (λ (all : eqb k n ≡ true). let same = eqb-true k n all in absurd (omega arith))
    (λ (short : (eqb ((16 * place + k) % 1024) 0 && leb old (16 * place + k)) ≡ true).
    let both = and_parts (eqb ((16 * place + k) % 1024) 0) (leb old (16 * place + k)) short in (
      subst (λ (at : ℕ). at % 1024 ≡ 0) more (eqb-true ((16 * place + k) % 1024) 0 both.0),
      subst (λ (at : ℕ). old ≤ at) more (leb-true old (16 * place + k) both.1),
    ))
    (or_cases (eqb k n) (eqb ((16 * place + k) % 1024) 0 && leb old (16 * place + k)) parts.1)

pub entry_answered : (form : Form) (files new : Files) (from : ℕ) (write : EntryWrite) (reply : Reply) → IsDirectory files from →
    length write.entry ≡ 16 → 16 * write.place ≤ length (directory_in files from) → 16 * write.place + 16 ≤ greatest_size form →
    after form files (operation_of from write) reply ≡ Some new → HasAnswered (length (directory_in files from)) write.place reply
entry_answered form files new from write reply kind size at fits h =
    let has = file_by (file_in files from) kind in
    let d : File = has.0 in
    let is : file_in files from ≡ Some d = has.1 in
    let long : length (directory_in files from) ≡ length d.bytes = ap (λ (o : Option File). length (bytes_of o)) is in
    let allowed = within_allowed form files from d (16 * write.place) write.entry is (omega arith) (omega arith) (omega (arith, size, fits)) in
    let wrote = allowed_done form files new from d (16 * write.place) write.entry reply is allowed h in
    let either = whole_entry (length d.bytes) write.place (length write.entry) wrote.count size wrote.may in
    record {
      either = ⊎_elim (λ (none : wrote.count ≡ 0). inr (wrote.is ∙ ap (λ (k : ℕ). Wrote k) none))
          (λ (all : wrote.count ≡ 16). inl (wrote.is ∙ ap (λ (k : ℕ). Wrote k) all)) either;
      there = λ inside.
          ⊎_elim (λ (none : wrote.count ≡ 0).
          let past = (nothing_only_behind (length d.bytes) write.place (length write.entry) wrote.count size none wrote.may).1 in absurd (omega arith))
          (λ (all : wrote.count ≡ 16). wrote.is ∙ ap (λ (k : ℕ). Wrote k) all) either;
      none = λ is.
          let both : Wrote wrote.count ≡ Wrote 0 = sym wrote.is ∙ is in
          let past = nothing_only_behind (length d.bytes) write.place (length write.entry) wrote.count size (cc both) wrote.may in
          (past.0, subst (λ (n : ℕ). n ≤ 16 * write.place) (sym long) past.1);
    }

removed_on : (files new : Files) (i : ℕ) (file : File) (j : ℕ) (reply : Reply) → after_on files i file (Remove j) reply ≡ Some new → reply ≡ Done
removed_on files new i file j Done h = refl
removed_on files new i file j reply h = absurd (cc h)

pub remove_answered : (form : Form) (files new : Files) (i : ℕ) (reply : Reply) → IsFile files i →
    after form files (Remove i) reply ≡ Some new → reply ≡ Done
remove_answered form files new i reply there h =
    let has = some_by (file_in files i) there in
    let done = done_where form files new (Remove i) reply (ap no_file_refusal has.1) h in
    let on = at_cases files new i (file_in files i) (Remove i) reply done in
    removed_on files new i on.0 i reply on.2
