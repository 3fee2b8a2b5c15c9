-- Each used entry is the first of its name where no name stands twice.
use Rattle.std.proofs.Common.{◌≡◌, ℕ, ◌<◌, Bool, true, false, not, List, [], length, get_or, Some, refl, sym, ap, ◌∙◌}
use Rattle.std.specs.List.{position}
use Rattle.std.specs.Str.{bytes_eq}
use Rattle.std.proofs.lemmas.Bool.{and_parts}
use Rattle.directories.specs.Checks.{IsFirst}
use Rattle.directories.specs.Entries.{entries_of, is_for, is_free, name_in, HasOnce}
use Rattle.directories.specs.Lemmas.EntryBytes.{name_of_entry}
use Rattle.directories.specs.Lemmas.Standing.{position_at}
use Rattle.directories.specs.Lemmas.TreeMeaning.{for_itself, is_first}

not_true : (b : Bool) → not b ≡ true → b ≡ false
not_true true h = absurd (cc h)
not_true false h = refl

used_for : (name entry : List ℕ) → is_for name entry ≡ true → is_free entry ≡ false
used_for name entry is = not_true (is_free entry) (and_parts (not (is_free entry)) (bytes_eq (name_in entry) name) is).0

pub once_from_first : (bytes : List ℕ) → ((j : ℕ) → j < length (entries_of bytes) → IsFirst (entries_of bytes) j) → (name : List ℕ) → HasOnce bytes name
once_from_first bytes first name = record {
  same = λ j k at_j at_k.
      let es : List (List ℕ) = entries_of bytes in
      let to_j : position (is_for (name_in (get_or es j []))) es ≡ Some j = first j at_j.0 (used_for name (get_or es j []) at_j.1) in
      let to_k : position (is_for (name_in (get_or es k []))) es ≡ Some k = first k at_k.0 (used_for name (get_or es k []) at_k.1) in
      let names : name_in (get_or es j []) ≡ name_in (get_or es k []) =
      name_of_entry name (get_or es j []) at_j.1 ∙ sym (name_of_entry name (get_or es k []) at_k.1) in
      let both : Some j ≡ Some k = sym to_j ∙ ap (λ (n : List ℕ). position (is_for n) es) names ∙ to_k in
      cc both;
}

pub first_from_once : (bytes : List ℕ) → ((name : List ℕ) → HasOnce bytes name) → (j : ℕ) → j < length (entries_of bytes) → IsFirst (entries_of bytes) j
first_from_once bytes once j inside used =
    let es : List (List ℕ) = entries_of bytes in
    let name : List ℕ = name_in (get_or es j []) in
    position_at (is_for name) es j (is_first bytes name j (once name) (inside, for_itself (get_or es j []) used))
