-- What stands in the bytes of an entry.
use Rattle.std.proofs.Common.{◌≡◌, ◌≢◌, ℕ, ◌<◌, ◌^◌, true, false, not, eqb, List, length, replicate, refl, sym, ap, subst, ◌∙◌, arith}
use Rattle.std.specs.Str.{bytes_eq}
use Rattle.std.proofs.lemmas.Bool.{and_from, and_left, and_right, and_parts, not_from_true, not_from_false, ne_eqb, false_from_ne_true}
use Rattle.std.proofs.lemmas.List.{take_all}
use Rattle.std.proofs.lemmas.Slice.Eq.{bytes_eq-Decides}
use Rattle.byteorder.specs.Numbers.{little_number-reads_back}
use Rattle.directories.specs.Entries.{entry_bytes, number_in, name_in, padded, text_of, is_free, is_for, IsProper, IsStored}

pub length-entry_bytes : (number : ℕ) (name : List ℕ) → IsStored name → length (entry_bytes number name) ≡ 16
length-entry_bytes number name stored = let size : length name ≡ 14 = stored.size in omega arith

pub name_in-entry_bytes : (number : ℕ) (name : List ℕ) → IsStored name → name_in (entry_bytes number name) ≡ name
unfolding name_in
name_in-entry_bytes number name stored =
    let size : length name ≡ 14 = stored.size in
    ap (λ (l : List ℕ). padded (text_of l)) (take_all 14 name (omega arith)) ∙ stored.whole

pub proper-entry_bytes : (number : ℕ) (name : List ℕ) → IsStored name → IsProper (name_in (entry_bytes number name))
proper-entry_bytes number name stored = subst IsProper (sym (name_in-entry_bytes number name stored)) stored.proper

pub number_in-entry_bytes : (number : ℕ) (name : List ℕ) → number < 2 ^ 16 → number_in (entry_bytes number name) ≡ number
unfolding number_in
number_in-entry_bytes number name small = little_number-reads_back 2 number name small

pub is_for-entry_bytes : (number : ℕ) (name : List ℕ) → IsStored name → 0 < number → number < 2 ^ 16 →
    is_for name (entry_bytes number name) ≡ true
is_for-entry_bytes number name stored used small =
    let same : number_in (entry_bytes number name) ≡ number = number_in-entry_bytes number name small in
    and_from (not (eqb (number_in (entry_bytes number name)) 0)) (bytes_eq (name_in (entry_bytes number name)) name)
    (not_from_false (eqb (number_in (entry_bytes number name)) 0) (ne_eqb (number_in (entry_bytes number name)) 0 (λ none. omega arith)))
    ((bytes_eq-Decides (name_in (entry_bytes number name)) name).1 (name_in-entry_bytes number name stored))

-- an entry whose name is one has no other
pub is_for-other : (other name entry : List ℕ) → other ≢ name → name_in entry ≡ name → is_for other entry ≡ false
is_for-other other name entry differs is =
    and_right (not (is_free entry)) (bytes_eq (name_in entry) other)
    (false_from_ne_true (bytes_eq (name_in entry) other)
    (λ good. differs (sym ((bytes_eq-Decides (name_in entry) other).0 good) ∙ is)))

pub name_of_entry : (name entry : List ℕ) → is_for name entry ≡ true → name_in entry ≡ name
name_of_entry name entry is =
    (bytes_eq-Decides (name_in entry) name).0 (and_parts (not (is_free entry)) (bytes_eq (name_in entry) name) is).1

pub is_for-free : (name entry : List ℕ) → is_free entry ≡ true → is_for name entry ≡ false
is_for-free name entry free =
    and_left (not (is_free entry)) (bytes_eq (name_in entry) name) (not_from_true (is_free entry) free)

pub zeroes_free : is_free (replicate 16 0) ≡ true
unfolding number_in
zeroes_free = refl
