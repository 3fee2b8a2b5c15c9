-- A directory is empty where no entry has a name that leads down.
use Rattle.std.proofs.Common.{◌≡◌, ◌≢◌, ℕ, Bool, true, false, not, ◌||◌, List, [], get_or, None, refl, ap, ⊎_elim}
use Rattle.std.specs.Prelude.{EachIndex}
use Rattle.std.specs.List.{position}
use Rattle.std.specs.Str.{bytes_eq}
use Rattle.std.proofs.lemmas.Bool.{and_from, both_ways, cases_Bool, not_from_false, or_cases}
use Rattle.std.proofs.lemmas.Slice.Eq.{bytes_eq-Decides}
use Rattle.directories.specs.Entries.{entries_of, entry_at, is_free, is_for, name_in}
use Rattle.directories.specs.Trees.{is_none_down, leads_down, parent_name, self_name, IsDown, IsEmpty}
use Rattle.directories.specs.Lemmas.Adding.{same_name}
use Rattle.directories.specs.Lemmas.EntryBytes.{is_for-free, is_for-other}
use Rattle.directories.specs.Lemmas.Standing.{lookup_none, none_from_lookup, none_stands, position_none}

-- no entry has a name that leads down
abbrev pub NoneDown : List (List ℕ) → Type 0
NoneDown entries = EachIndex entries (λ k. is_none_down (get_or entries k []) ≡ true)

pub not_for : (entry name : List ℕ) → IsDown name → is_none_down entry ≡ true → is_for name entry ≡ false
not_for entry name down none =
    ⊎_elim
    (λ (own : (is_free entry || bytes_eq (name_in entry) self_name) ≡ true).
    ⊎_elim (λ (free : is_free entry ≡ true). is_for-free name entry free)
    (λ (self : bytes_eq (name_in entry) self_name ≡ true).
    is_for-other name self_name entry down.0 ((bytes_eq-Decides (name_in entry) self_name).0 self))
    (or_cases (is_free entry) (bytes_eq (name_in entry) self_name) own))
    (λ (parent : bytes_eq (name_in entry) parent_name ≡ true).
    is_for-other name parent_name entry down.1 ((bytes_eq-Decides (name_in entry) parent_name).0 parent))
    (or_cases (is_free entry || bytes_eq (name_in entry) self_name) (bytes_eq (name_in entry) parent_name) none)

pub empty_from : (bytes : List ℕ) → NoneDown (entries_of bytes) → IsEmpty bytes
empty_from bytes none name down = lookup_none bytes name (λ j inside. not_for (entry_at bytes j) name down (none j inside))

pub or_first : (a b : Bool) → a ≡ true → (a || b) ≡ true
or_first a b h = ap (λ (c : Bool). c || b) h

pub or_second : (a b : Bool) → b ≡ true → (a || b) ≡ true
or_second true b h = refl
or_second false b h = h

-- a used entry leads somewhere by its own name
own_name : (entry : List ℕ) → is_free entry ≡ false → is_for (name_in entry) entry ≡ true
own_name entry used =
    and_from (not (is_free entry)) (bytes_eq (name_in entry) (name_in entry)) (not_from_false (is_free entry) used)
    ((bytes_eq-Decides (name_in entry) (name_in entry)).1 refl)

pub none_from_empty : (bytes : List ℕ) → IsEmpty bytes → NoneDown (entries_of bytes)
none_from_empty bytes empty j inside =
    let entry : List ℕ = entry_at bytes j in
    let self : Bool = bytes_eq (name_in entry) self_name in
    let parent : Bool = bytes_eq (name_in entry) parent_name in
    ⊎_elim (λ (free : is_free entry ≡ true). or_first (is_free entry || self) parent (or_first (is_free entry) self free))
    (λ (used : is_free entry ≡ false).
    ⊎_elim
    (λ (own : name_in entry ≡ self_name).
    or_first (is_free entry || self) parent (or_second (is_free entry) self ((bytes_eq-Decides (name_in entry) self_name).1 own)))
    (λ (not_own : name_in entry ≢ self_name).
    ⊎_elim
    (λ (up : name_in entry ≡ parent_name). or_second (is_free entry || self) parent ((bytes_eq-Decides (name_in entry) parent_name).1 up))
    (λ (not_up : name_in entry ≢ parent_name).
    absurd (both_ways (is_for (name_in entry) entry) (none_from_lookup bytes (name_in entry) (empty (name_in entry) (not_own, not_up)) j inside) (own_name entry used)))
    (same_name (name_in entry) parent_name))
    (same_name (name_in entry) self_name))
    (cases_Bool (is_free entry))

-- ---- by the first entry that leads down

pub true_from_not : (b : Bool) → not b ≡ false → b ≡ true
true_from_not true h = refl
true_from_not false h = absurd (cc h)

not_down : (b : Bool) → b ≡ true → not b ≡ false
not_down b h = ap not h

pub empty_by_first : (bytes : List ℕ) → position leads_down (entries_of bytes) ≡ None → IsEmpty bytes
empty_by_first bytes none =
    empty_from bytes (λ j inside. true_from_not (is_none_down (entry_at bytes j)) (none_stands leads_down (entries_of bytes) none j inside))

pub first_by_empty : (bytes : List ℕ) → IsEmpty bytes → position leads_down (entries_of bytes) ≡ None
first_by_empty bytes empty =
    position_none leads_down (entries_of bytes) (λ j inside. not_down (is_none_down (entry_at bytes j)) (none_from_empty bytes empty j inside))
