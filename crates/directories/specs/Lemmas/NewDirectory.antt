-- A new directory's two entries, and the root alone.
use Rattle.std.proofs.Common.{◌≡◌, ◌≢◌, ℕ, ◌^◌, ◌<◌, false, List, [], ◌∷◌, length, get_or, Option, Some, None, refl, sym, ap, subst, ◌∙◌, ⊎_elim, arith}
use Rattle.std.specs.List.{position}
use Rattle.std.specs.Option.{unwrap_or}
use Rattle.std.specs.Str.{bytes_eq}
use Rattle.std.proofs.lemmas.Bool.{cases_eq, ne_eqb, both_ways}
use Rattle.std.proofs.lemmas.Slice.Eq.{bytes_eq-Decides}
use Rattle.model.specs.declared.types.image.File.{File}
use Rattle.model.specs.Files.{Files, file_in}
use Rattle.directories.specs.declared.entries.EntryWrite.{EntryWrite}
use Rattle.directories.specs.Entries.{entry_bytes, entries_of, number_in, is_free, lookup, HasOnce}
use Rattle.directories.specs.Writes.{written, Links, KeepsOthers}
use Rattle.directories.specs.Trees.{bytes_of, directory_in, kind_of, new_directory, parent_name, self_name, IsDirectoryOf, IsEmpty, StepsDown}
use Rattle.directories.specs.TreeChanges.{directory_file}
use Rattle.directories.specs.TreeLaws.{FilesAreNew, RootIsTree}
use Rattle.directories.specs.Lemmas.Standing.{lookup_none, position_none}
use Rattle.directories.specs.Lemmas.EntryBytes.{number_in-entry_bytes}
use Rattle.directories.specs.Lemmas.Changes.{link_leads, link_keeps}
use Rattle.directories.specs.Lemmas.Chunks.{length-entries_of}
use Rattle.directories.specs.Lemmas.Stored.{parent_is_stored, self_is_stored}
use Rattle.directories.specs.Lemmas.TreeBy.{directory_is_file, steps_make_tree, IsTreeBy}

-- ---- no entry

none_in : (name : List ℕ) (j : ℕ) → j < length (entries_of []) → ⊥
none_in name j h = let count : length (entries_of []) ≡ 0 = length-entries_of [] in omega arith

pub empty_leads : (name : List ℕ) → lookup [] name ≡ None
empty_leads name = lookup_none [] name (λ j h. absurd (none_in name j h))

pub empty_once : (name : List ℕ) → HasOnce [] name
empty_once name = record { same = λ j k at_j at_k. absurd (none_in name j at_j.0) }

-- ---- two entries

abbrev first : ℕ → EntryWrite
first number = record { place = 0; entry = entry_bytes number self_name }

abbrev second : ℕ → EntryWrite
second parent = record { place = 1; entry = entry_bytes parent parent_name }

names_differ : parent_name ≢ self_name
names_differ e = both_ways (bytes_eq parent_name self_name) refl ((bytes_eq-Decides parent_name self_name).1 e)

first_links : (number : ℕ) → 0 < number → number < 2 ^ 16 → Links [] self_name number (first number)
unfolding entries_of
first_links number used fits = record { absent = empty_leads self_name; place = refl; entry = refl; used = used; fits = fits; stored = self_is_stored }

first_written : (number : ℕ) → written [] (first number) ≡ entry_bytes number self_name
first_written number = refl

one_entry : (number : ℕ) → entries_of (entry_bytes number self_name) ≡ entry_bytes number self_name ∷ []
unfolding entries_of
one_entry number = refl

not_free : (number : ℕ) → 0 < number → number < 2 ^ 16 → is_free (entry_bytes number self_name) ≡ false
not_free number used fits =
    let same : number_in (entry_bytes number self_name) ≡ number = number_in-entry_bytes number self_name fits in
    ne_eqb (number_in (entry_bytes number self_name)) 0 (λ none. omega arith)

none_free : (number : ℕ) → 0 < number → number < 2 ^ 16 → position is_free (entries_of (entry_bytes number self_name)) ≡ None
none_free number used fits =
    ap (λ (es : List (List ℕ)). position is_free es) (one_entry number)
    ∙ position_none is_free (entry_bytes number self_name ∷ [])
    (λ j below. let e : 0 ≡ j = omega arith in subst (λ (k : ℕ). is_free (get_or (entry_bytes number self_name ∷ []) k []) ≡ false) e (not_free number used fits))

next_place : (number : ℕ) → 0 < number → number < 2 ^ 16 →
    1 ≡ unwrap_or (position is_free (entries_of (entry_bytes number self_name))) (length (entries_of (entry_bytes number self_name)))
next_place number used fits =
    let count : length (entries_of (entry_bytes number self_name)) ≡ 1 = ap length (one_entry number) in
    sym (ap (λ (o : Option ℕ). unwrap_or o (length (entries_of (entry_bytes number self_name)))) (none_free number used fits) ∙ count)

second_links : (number parent : ℕ) → 0 < number → number < 2 ^ 16 → 0 < parent → parent < 2 ^ 16 →
    Links (entry_bytes number self_name) parent_name parent (second parent)
second_links number parent used fits parent_used parent_fits =
    let keeps : KeepsOthers self_name [] (entry_bytes number self_name) = link_keeps [] self_name number (first number) (first_links number used fits) in
    record {
      absent = keeps.others parent_name names_differ ∙ empty_leads parent_name;
      place = next_place number used fits;
      entry = refl;
      used = parent_used;
      fits = parent_fits;
      stored = parent_is_stored;
    }

second_written : (number parent : ℕ) → written (entry_bytes number self_name) (second parent) ≡ new_directory number parent
second_written number parent = refl

-- a new directory has its own two entries, and no name leads down from it
pub new_is_empty : (number parent : ℕ) → 0 < number → number < 2 ^ 16 → 0 < parent → parent < 2 ^ 16 →
    IsDirectoryOf (new_directory number parent) number parent × IsEmpty (new_directory number parent)
new_is_empty number parent used fits parent_used parent_fits =
    let a = first_links number used fits in
    let b = second_links number parent used fits parent_used parent_fits in
    let one : KeepsOthers self_name [] (entry_bytes number self_name) = link_keeps [] self_name number (first number) a in
    let two : KeepsOthers parent_name (entry_bytes number self_name) (new_directory number parent) =
    link_keeps (entry_bytes number self_name) parent_name parent (second parent) b in
    let own : lookup (entry_bytes number self_name) self_name ≡ Some number = link_leads [] self_name number (first number) a in
    let up : lookup (new_directory number parent) parent_name ≡ Some parent =
    link_leads (entry_bytes number self_name) parent_name parent (second parent) b in (
      record {
        tidy = record {
          whole = refl;
          named = two.named (one.named (λ j below. absurd (none_in [] j below)));
          once = λ name. two.once name (one.once name (empty_once name));
        };
        own = two.others self_name (λ e. names_differ (sym e)) ∙ own;
        up = up;
      },
      λ name down. two.others name down.1 ∙ one.others name down.0 ∙ empty_leads name,
    )

pub files_are_new : FilesAreNew
files_are_new = (
  λ kind number parent plain is. absurd (plain is),
  λ number parent used fits parent_used parent_fits is. new_is_empty number parent used fits parent_used parent_fits,
)

-- ---- the root alone

no_step : (files : Files) → file_in files 1 ≡ Some (directory_file 1 1) → ((i : ℕ) → i ≢ 1 → file_in files i ≡ None) →
    (from to : ℕ) (name : List ℕ) → StepsDown files from name to → ⊥
no_step files there none from to name step =
    ⊎_elim
    (λ (in_root : from ≡ 1).
    let bytes : directory_in files from ≡ new_directory 1 1 = ap (directory_in files) in_root ∙ ap bytes_of there in
    let both : None ≡ Some to =
    sym ((new_is_empty 1 1 (omega arith) (omega arith) (omega arith) (omega arith)).1 name step.0)
    ∙ ap (λ (b : List ℕ). lookup b name) (sym bytes) ∙ step.1.1 in
    cc both)
    (λ (elsewhere : from ≢ 1). directory_is_file files from step.1.0 (none from elsewhere))
    (cases_eq from 1)

root_by : (files : Files) → file_in files 1 ≡ Some (directory_file 1 1) → ((i : ℕ) → i ≢ 1 → file_in files i ≡ None) → IsTreeBy files (λ i. 0)
root_by files there none =
    let nowhere = no_step files there none in
    record {
      rooted = ap kind_of there;
      top = subst (λ (o : Option File). IsDirectoryOf (bytes_of o) 1 1) (sym there)
          (new_is_empty 1 1 (omega arith) (omega arith) (omega arith) (omega arith)).0;
      below = λ from to name down step is. absurd (nowhere from to name (down, step));
      shape = record {
        above = λ from to name step. absurd (nowhere from to name step);
        lead = λ from to name step. absurd (nowhere from to name step);
        named = λ i ne is. absurd (is (none i ne));
        parent = λ a b i x y is at_a at_b. absurd (nowhere a i x at_a);
        name = λ a i x y is at_x at_y. absurd (nowhere a i x at_x);
        deeper = λ from to name is step. absurd (nowhere from to name step);
      };
    }

pub root_is_tree : RootIsTree
root_is_tree files there none = steps_make_tree files (λ i. 0) (root_by files there none)
