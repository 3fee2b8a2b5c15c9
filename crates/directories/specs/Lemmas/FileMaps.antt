-- What a creation, a removal and the write of an entry make of the files, where they were done.
use Rattle.std.proofs.Common.{◌≡◌, ◌≢◌, ℕ, ◌*◌, ◌<◌, true, false, ◌&&◌, ltb, List, [], length, take, set, Option, Some, None, refl, sym, ap, ◌∙◌}
use Rattle.std.specs.Prelude.{is_none}
use Rattle.std.proofs.lemmas.Bool.{ltb-true, and_parts, both_ways}
use Rattle.std.proofs.lemmas.List.{get_or-set_same, get_or-set_other}
use Rattle.blocks.specs.Block.{overwritten}
use Rattle.model.specs.declared.types.image.File.{File}
use Rattle.model.specs.declared.types.image.Form.{Form}
use Rattle.model.specs.declared.types.operations.Op.{Op}
use Rattle.model.specs.declared.types.operations.Op.TheVariants.{Create, Write, Remove}
use Rattle.model.specs.declared.types.operations.Reply.{Reply}
use Rattle.model.specs.declared.types.operations.Reply.TheVariants.{Made, NoInode, Wrote, Bytes, Done, StatOf, NoFile, BadOffset, TooBig, TooLong, BadType}
use Rattle.model.specs.Files.{Files, file_in}
use Rattle.model.specs.Lemmas.FileNumbers.{below_file}
use Rattle.model.specs.Lemmas.Replies.{wrote_done}
use Rattle.model.specs.Lemmas.Runs.{where_true_some}
use Rattle.model.specs.Operations.{after, after_refusal, after_done, refusal_of, is_refusal, may_have_written, with_bytes}
use Rattle.directories.specs.declared.entries.EntryWrite.{EntryWrite}
use Rattle.directories.specs.Writes.{written, operation_of}
use Rattle.directories.specs.Trees.{kind_of, bytes_of, directory_in}
use Rattle.directories.specs.TreeChanges.{empty_file, IsUnnamed}
use Rattle.directories.specs.Lemmas.Keeping.{at_cases, remove_on, all_written}

not_made : (refusal : Reply) (i : ℕ) → is_refusal refusal (Made i) ≡ false
not_made (Made j) i = refl
not_made NoInode i = refl
not_made (Wrote j) i = refl
not_made (Bytes bytes) i = refl
not_made Done i = refl
not_made (StatOf kind links size) i = refl
not_made NoFile i = refl
not_made BadOffset i = refl
not_made TooBig i = refl
not_made TooLong i = refl
not_made BadType i = refl

not_done : (refusal : Reply) → is_refusal refusal Done ≡ false
not_done (Made j) = refl
not_done NoInode = refl
not_done (Wrote j) = refl
not_done (Bytes bytes) = refl
not_done Done = refl
not_done (StatOf kind links size) = refl
not_done NoFile = refl
not_done BadOffset = refl
not_done TooBig = refl
not_done TooLong = refl
not_done BadType = refl

done_by : (files new : Files) (refusal : Option Reply) (op : Op) (reply : Reply) → ((r : Reply) → is_refusal r reply ≡ false) →
    after_refusal refusal files op reply ≡ Some new → after_done files op reply ≡ Some new
done_by files new None op reply not h = h
done_by files new (Some refusal) op reply not h =
    absurd (both_ways (is_refusal refusal reply) (not refusal) (where_true_some (is_refusal refusal reply) files new h).0)

done_of : (form : Form) (files new : Files) (op : Op) (reply : Reply) → ((r : Reply) → is_refusal r reply ≡ false) →
    after form files op reply ≡ Some new → after_done files op reply ≡ Some new
unfolding after
done_of form files new op reply not h = done_by files new (refusal_of form files op) op reply not h

none_from : (o : Option File) → is_none o ≡ true → o ≡ None
none_from None h = refl
none_from (Some file) h = absurd (cc h)

pub set_there : (files new : Files) (i : ℕ) (f : Option File) → i < length files → new ≡ set files i f → file_in new i ≡ f
set_there files new i f inside e = ap (λ (l : Files). file_in l i) e ∙ get_or-set_same files i f None inside

pub set_others : (files new : Files) (i : ℕ) (f : Option File) → new ≡ set files i f → (j : ℕ) → j ≢ i → file_in new j ≡ file_in files j
set_others files new i f e j ne = ap (λ (l : Files). file_in l j) e ∙ get_or-set_other files i j f None ne

pub unnamed_by : (files new : Files) (i : ℕ) (file : File) → i < length files → file_in files i ≡ None → new ≡ set files i (Some file) →
    IsUnnamed files new i file
unnamed_by files new i file inside free e = record {
  inside = inside;
  free = free;
  is = e;
  there = set_there files new i (Some file) inside e;
  rest = set_others files new i (Some file) e;
}

-- there is one more file
pub creates : (form : Form) (files new : Files) (kind i : ℕ) → after form files (Create kind) (Made i) ≡ Some new →
    IsUnnamed files new i (empty_file kind)
creates form files new kind i h =
    let file : Option File = Some (record { kind = kind; links = 1; bytes = [] }) in
    let made = where_true_some (ltb 0 i && ltb i (length files) && is_none (file_in files i)) (set files i file) new
    (done_of form files new (Create kind) (Made i) (λ r. not_made r i) h) in
    let first = and_parts (ltb 0 i && ltb i (length files)) (is_none (file_in files i)) made.0 in
    let inside = ltb-true i (length files) (and_parts (ltb 0 i) (ltb i (length files)) first.0).1 in
    unnamed_by files new i (empty_file kind) inside (none_from (file_in files i) first.1) made.1

-- a file is gone
pub record Removes (files new : Files) (i : ℕ) : Type 0 where
  pub is : new ≡ set files i None
  pub gone : file_in new i ≡ None
  pub others : (j : ℕ) → j ≢ i → file_in new j ≡ file_in files j

pub removes : (form : Form) (files new : Files) (i : ℕ) → after form files (Remove i) Done ≡ Some new → Removes files new i
removes form files new i h =
    let on = at_cases files new i (file_in files i) (Remove i) Done (done_of form files new (Remove i) Done not_done h) in
    let e : new ≡ set files i None = remove_on files new i on.0 i Done on.2 in
    record { is = e; gone = set_there files new i None (below_file files i on.0 on.1) e; others = set_others files new i None e }

-- an entry was written whole
abbrev pub IsWritten : Form → Files → ℕ → EntryWrite → Files → Type 0
IsWritten form files from write new = after form files (operation_of from write) (Wrote 16) ≡ Some new

-- an entry was written into a directory
pub record Writes (files new : Files) (from : ℕ) (write : EntryWrite) : Type 0 where
  pub kind : kind_of (file_in new from) ≡ kind_of (file_in files from)
  pub bytes : directory_in new from ≡ written (directory_in files from) write
  pub others : (j : ℕ) → j ≢ from → file_in new j ≡ file_in files j

pub writes : (form : Form) (files new : Files) (from : ℕ) (write : EntryWrite) → length write.entry ≡ 16 → IsWritten form files from write new →
    Writes files new from write
writes form files new from write size h =
    let done = wrote_done form files new (Write from (16 * write.place) write.entry) 16 h in
    let on = at_cases files new from (file_in files from) (Write from (16 * write.place) write.entry) (Wrote 16) done in
    let d : File = on.0 in
    let is : file_in files from ≡ Some d = on.1 in
    let wrote = where_true_some (may_have_written (length d.bytes) (16 * write.place) (length write.entry) 16)
    (set files from (with_bytes d (overwritten d.bytes (16 * write.place) (take 16 write.entry)))) new on.2 in
    let e : new ≡ set files from (with_bytes d (written d.bytes write)) =
    wrote.1 ∙ ap (λ (b : List ℕ). set files from (with_bytes d b)) (all_written d.bytes (16 * write.place) 16 write.entry size refl) in
    let there : file_in new from ≡ with_bytes d (written d.bytes write) =
    set_there files new from (with_bytes d (written d.bytes write)) (below_file files from d is) e in
    record {
      kind = ap kind_of there ∙ sym (ap kind_of is);
      bytes = ap bytes_of there ∙ sym (ap (λ (o : Option File). written (bytes_of o) write) is);
      others = set_others files new from (with_bytes d (written d.bytes write)) e;
    }
