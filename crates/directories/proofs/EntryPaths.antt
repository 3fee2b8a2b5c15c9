-- An entry that leads down, and the step by its name.
use Rattle.std.proofs.Common.{◌≡◌, ℕ, ◌<◌, true, false, not, ◌||◌, List, [], length, get_or, Option, Some, None, refl, ap, ⊎_elim}
use Rattle.std.specs.Option.{option_map}
use Rattle.std.specs.Str.{bytes_eq}
use Rattle.std.proofs.lemmas.Bool.{both_ways, cases_Bool}
use Rattle.std.proofs.lemmas.Slice.Eq.{bytes_eq-Decides}
use Rattle.model.specs.Files.{Files}
use Rattle.directories.specs.Entries.{entries_of, is_for, is_free, lookup, name_in, number_in, place_of}
use Rattle.directories.specs.Trees.{directory_in, is_none_down, leads_down, parent_name, self_name, IsDirectory, IsDown, IsTidy, StepsDown}
use Rattle.directories.proofs.Emptiness.{not_for, or_first, or_second, true_from_not}
use Rattle.directories.specs.Lemmas.Standing.{lookup_at, stands_at}
use Rattle.directories.specs.Lemmas.TreeMeaning.{for_itself, is_first}

-- the entry of a name that leads down to a number
pub record HasStep (es : List (List ℕ)) (name : List ℕ) (number : ℕ) : Type 0 where
  pub place : ℕ
  pub inside : place < length es
  pub is_for : is_for name (get_or es place []) ≡ true
  pub down : leads_down (get_or es place []) ≡ true
  pub is : number_in (get_or es place []) ≡ number

pub leads_by_name : (entry name : List ℕ) → IsDown name → is_for name entry ≡ true → leads_down entry ≡ true
leads_by_name entry name down is =
    ⊎_elim (λ (yes : leads_down entry ≡ true). yes)
    (λ (no : leads_down entry ≡ false).
    absurd (both_ways (is_for name entry) (not_for entry name down (true_from_not (is_none_down entry) no)) is)) (cases_Bool (leads_down entry))

some_place : (f : ℕ → ℕ) (o : Option ℕ) (n : ℕ) → option_map f o ≡ Some n → (k : ℕ) × (o ≡ Some k) × (f k ≡ n)
some_place f None n h = absurd (cc h)
some_place f (Some k) n h = (k, refl, cc h)

pub lookup_place : (bytes name : List ℕ) (n : ℕ) → lookup bytes name ≡ Some n →
    (k : ℕ) × (place_of bytes name ≡ Some k) × (number_in (get_or (entries_of bytes) k []) ≡ n)
unfolding lookup
lookup_place bytes name n h = some_place (λ (i : ℕ). number_in (get_or (entries_of bytes) i [])) (place_of bytes name) n h

pub entry_of_step : (files : Files) (from number : ℕ) (name : List ℕ) → StepsDown files from name number →
    HasStep (entries_of (directory_in files from)) name number
entry_of_step files from number name step =
    let es : List (List ℕ) = entries_of (directory_in files from) in
    let found = lookup_place (directory_in files from) name number step.1.1 in
    let at = stands_at (is_for name) es found.0 found.1 in
    record {
      place = found.0;
      inside = at.within;
      is_for = at.passes;
      down = leads_by_name (get_or es found.0 []) name step.0 at.passes;
      is = found.2;
    }

-- what an entry that leads down says
pub is_used : (entry : List ℕ) → leads_down entry ≡ true → is_free entry ≡ false
is_used entry down =
    ⊎_elim
    (λ (free : is_free entry ≡ true).
    absurd (both_ways (leads_down entry)
    (ap not (or_first (is_free entry || bytes_eq (name_in entry) self_name) (bytes_eq (name_in entry) parent_name)
    (or_first (is_free entry) (bytes_eq (name_in entry) self_name) free))) down))
    (λ (used : is_free entry ≡ false). used) (cases_Bool (is_free entry))

pub is_down_name : (entry : List ℕ) → leads_down entry ≡ true → IsDown (name_in entry)
is_down_name entry down = (
  λ own.
      both_ways (leads_down entry)
      (ap not (or_first (is_free entry || bytes_eq (name_in entry) self_name) (bytes_eq (name_in entry) parent_name)
      (or_second (is_free entry) (bytes_eq (name_in entry) self_name) ((bytes_eq-Decides (name_in entry) self_name).1 own)))) down,
  λ up.
      both_ways (leads_down entry)
      (ap not (or_second (is_free entry || bytes_eq (name_in entry) self_name) (bytes_eq (name_in entry) parent_name)
      ((bytes_eq-Decides (name_in entry) parent_name).1 up))) down,
)

pub for_its_name : (entry : List ℕ) → leads_down entry ≡ true → is_for (name_in entry) entry ≡ true
for_its_name entry down = for_itself entry (is_used entry down)

pub step_of_entry : (files : Files) (from j : ℕ) → IsDirectory files from → IsTidy (directory_in files from) →
    j < length (entries_of (directory_in files from)) → leads_down (get_or (entries_of (directory_in files from)) j []) ≡ true →
    StepsDown files from (name_in (get_or (entries_of (directory_in files from)) j [])) (number_in (get_or (entries_of (directory_in files from)) j []))
step_of_entry files from j is tidy inside down =
    let bytes : List ℕ = directory_in files from in
    let entry : List ℕ = get_or (entries_of bytes) j [] in
    let name : List ℕ = name_in entry in (
      is_down_name entry down,
      (is, lookup_at bytes name j (is_first bytes name j (tidy.once name) (inside, for_its_name entry down))),
    )
