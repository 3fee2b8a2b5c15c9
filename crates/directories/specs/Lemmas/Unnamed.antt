-- A file that was made and has no name yet: filled, linked, or removed again.
use Rattle.std.proofs.Common.{◌≡◌, ◌≢◌, ◌⊎◌, inl, inr, ℕ, ◌+◌, ◌%◌, ◌≤◌, true, ◌&&◌, ◌||◌, eqb, leb, List, [], ◌++◌, length, take, set, Option, Some, None, refl, sym, ap, subst, ◌∙◌, ⊎_elim, arith}
use Rattle.std.proofs.lemmas.Bool.{and_parts, eqb-true, leb-true, or_cases}
use Rattle.std.proofs.lemmas.List.{append-nil, drop_all, set-set, set-get_or, take_all}
use Rattle.blocks.specs.Block.{overwritten}
use Rattle.model.specs.declared.types.image.File.{File}
use Rattle.model.specs.declared.types.operations.Op.TheVariants.{Remove}
use Rattle.model.specs.declared.types.operations.Reply.{Reply}
use Rattle.model.specs.declared.types.operations.Reply.TheVariants.{Wrote}
use Rattle.model.specs.Files.{Files, file_in}
use Rattle.model.specs.Operations.{after, may_have_written, with_bytes}
use Rattle.directories.specs.Lemmas.EntryWrites.{nothing_written}
use Rattle.directories.specs.Entries.{lookup}
use Rattle.directories.specs.Trees.{bytes_of, kind_of, new_directory, IsDirectory, IsFile, IsTidy}
use Rattle.directories.specs.TreeChanges.{directory_file, empty_file, IsUnnamed}
use Rattle.directories.specs.TreeLaws.{CreateMakes, LinkAdds, RemoveDrops, RemoveUndoes, WriteFills}
use Rattle.directories.specs.Lemmas.Answered.{some_by, remove_answered, write_done}
use Rattle.directories.specs.Lemmas.FileMaps.{creates, removes, unnamed_by}

pub create_makes : CreateMakes
create_makes form files new kind number h = creates form files new kind number h

pub some_ne_none : (file : File) → Some file ≢ None
some_ne_none file e = absurd (cc e)

pub is_there : (files new : Files) (i : ℕ) (file : File) → IsUnnamed files new i file → IsFile new i
is_there files new i file made none = some_ne_none file (sym made.there ∙ none)

-- ---- removed again

pub remove_undoes : RemoveUndoes
remove_undoes form files made new i file reply unnamed h =
    let done = remove_answered form made new i reply (is_there files made i file unnamed) h in
    let r = removes form made new i (subst (λ (a : Reply). after form made (Remove i) a ≡ Some new) done h) in (
      done,
      r.is ∙ ap (λ (l : Files). set l i None) unnamed.is ∙ set-set files i (Some file) None
          ∙ ap (λ (o : Option File). set files i o) (sym unnamed.free) ∙ set-get_or files i None,
    )

-- ---- a new directory's entries

length-new : (number parent : ℕ) → length (new_directory number parent) ≡ 32
length-new number parent = refl

-- of a file's first 32 bytes all are written, or none
none_or_both : (k : ℕ) → may_have_written 0 0 32 k ≡ true → (k ≡ 0) ⊎ (k ≡ 32)
none_or_both k h =
    let parts = and_parts (leb k 32) (eqb k 32 || (eqb ((0 + k) % 1024) 0 && leb 0 (0 + k))) h in
    let few : k ≤ 32 = leb-true k 32 parts.0 in
    ⊎_elim (λ (all : eqb k 32 ≡ true). inr (eqb-true k 32 all))
    (λ (short : (eqb ((0 + k) % 1024) 0 && leb 0 (0 + k)) ≡ true).
    let whole : (0 + k) % 1024 ≡ 0 = eqb-true ((0 + k) % 1024) 0 (and_parts (eqb ((0 + k) % 1024) 0) (leb 0 (0 + k)) short).0 in inl (omega arith))
    (or_cases (eqb k 32) (eqb ((0 + k) % 1024) 0 && leb 0 (0 + k)) parts.1)

all_new : (bytes : List ℕ) (k : ℕ) → length bytes ≡ 32 → k ≡ 32 → overwritten [] 0 (take k bytes) ≡ bytes
all_new bytes k size all =
    ap (λ (i : ℕ). overwritten [] 0 (take i bytes)) all ∙ ap (λ (l : List ℕ). overwritten [] 0 l) (take_all 32 bytes (omega arith))
    ∙ ap (λ (l : List ℕ). bytes ++ l) (drop_all (0 + length bytes) [] (omega arith)) ∙ append-nil bytes

pub write_fills : WriteFills
write_fills form files made new i parent reply unnamed h =
    let empty : File = empty_file 1 in
    let bytes : List ℕ = new_directory i parent in
    let wrote = write_done form made new i empty 0 bytes reply unnamed.there (omega arith) (omega arith) h in
    ⊎_elim
    (λ (none : wrote.count ≡ 0).
    inr (
      wrote.is ∙ ap (λ (k : ℕ). Wrote k) none,
      wrote.made ∙ ap (λ (b : List ℕ). set made i (with_bytes empty b)) (nothing_written [] 0 wrote.count bytes none)
          ∙ ap (λ (o : Option File). set made i o) (sym unnamed.there) ∙ set-get_or made i None,
    ))
    (λ (all : wrote.count ≡ 32).
    inl (
      wrote.is ∙ ap (λ (k : ℕ). Wrote k) all,
      unnamed_by files new i (directory_file i parent) unnamed.inside unnamed.free
          (wrote.made ∙ ap (λ (b : List ℕ). set made i (with_bytes empty b)) (all_new bytes wrote.count (length-new i parent) all)
          ∙ ap (λ (l : Files). set l i (Some (directory_file i parent))) unnamed.is ∙ set-set files i (Some empty) (Some (directory_file i parent))),
    ))
    (none_or_both wrote.count wrote.may)

-- ---- linked

-- a directory is no number without a file
pub apart_from : (files : Files) (i from : ℕ) → file_in files i ≡ None → IsDirectory files from → from ≢ i
apart_from files i from free is same =
    let none : kind_of (file_in files from) ≡ 0 = ap (λ (k : ℕ). kind_of (file_in files k)) same ∙ ap kind_of free in
    let one : kind_of (file_in files from) ≡ 1 = is in omega arith

pub link_adds : LinkAdds
link_adds files made new from i name file is unnamed absent led =
    let apart = apart_from files i from unnamed.free is in
    let stays : file_in made from ≡ file_in files from = unnamed.rest from apart in
    record {
      changes = record {
        directory = led.changes.directory;
        tidy = led.changes.tidy;
        others = λ other ne. led.changes.others other ne ∙ ap (λ (o : Option File). lookup (bytes_of o) other) stays;
      };
      free = unnamed.free;
      absent = absent;
      leads = led.leads;
      there = led.rest i (λ same. apart (sym same)) ∙ unnamed.there;
      rest = λ j ne_from ne. led.rest j ne_from ∙ unnamed.rest j ne;
    }

-- ---- dropped

pub remove_drops : RemoveDrops
remove_drops form files freed new from i name reply there apart led nowhere h =
    let file = some_by (file_in files i) there in
    let done = remove_answered form freed new i reply (λ none. some_ne_none file.0 (sym file.1 ∙ sym (nowhere.rest i apart) ∙ none)) h in
    let r = removes form freed new i (subst (λ (a : Reply). after form freed (Remove i) a ≡ Some new) done h) in
    let stays : file_in new from ≡ file_in freed from = r.others from (λ same. apart (sym same)) in (
      done,
      record {
        changes = record {
          directory = ap kind_of stays ∙ nowhere.changes.directory;
          tidy = subst (λ (o : Option File). IsTidy (bytes_of o)) (sym stays) nowhere.changes.tidy;
          others = λ other ne. ap (λ (o : Option File). lookup (bytes_of o) other) stays ∙ nowhere.changes.others other ne;
        };
        led = led;
        gone = ap (λ (o : Option File). lookup (bytes_of o) name) stays ∙ nowhere.leads;
        free = r.gone;
        rest = λ j ne_from ne. r.others j ne ∙ nowhere.rest j ne_from;
      },
    )
