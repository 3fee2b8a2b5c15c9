-- A header whose first sector is whole.
use Rattle.std.proofs.Common.{◌≡◌, ◌≢◌, ◌⊎◌, inl, inr, ⊎_elim, ℕ, zero, suc, ◌+◌, ◌-◌, ◌*◌, ◌<◌, ◌≤◌, ◌&&◌, leb, true, min, drop, take, List, [], ◌∷◌, length, Option, Some, None, refl, sym, ap, ◌∙◌, subst, arith, set, length-set}
use Rattle.std.proofs.lemmas.List.{drop-take}
use Rattle.byteorder.specs.Endian.{little_number}
use Rattle.byteorder.specs.Numbers.{little_from-take}
use Rattle.model.specs.Fields.{u32_at}
use Rattle.model.specs.Log.{recovered_block}
use Rattle.wal.specs.Common.{are_distinct, are_in_place, block_at, block_from_log, cases_eq, get_or-set_other, get_or-set_same, homes_in, homes_of, Image, is_outside_log, length-recovered, logged_count, logged_in, ne_eqb, place_among, recovered, recovered_at, recovered_empty, words_of}
use Rattle.lost_writes.specs.Device.{BeginsAs, MayTear}
use Rattle.lost_writes.specs.Stale.{RecoversTo}
use Rattle.lost_writes.proofs.Stale.{no_header, outside_then, same_outside}

-- the first numbers lie in the first bytes
words_take : (k m : ℕ) (bytes : List ℕ) → 4 * k ≤ m → take k (words_of (take m bytes)) ≡ take k (words_of bytes)
words_take zero m bytes le = refl
words_take (suc k) m bytes le =
    let fours : suc (suc (suc (suc (m - 4)))) ≡ m = omega arith in
    subst (λ (n : ℕ). take (suc k) (words_of (take n bytes)) ≡ take (suc k) (words_of bytes)) fours (four bytes (λ rest. words_take k (m - 4) rest (omega arith)))
  where
    four : (l : List ℕ) → ((rest : List ℕ) → take k (words_of (take (m - 4) rest)) ≡ take k (words_of rest)) → take (suc k) (words_of (take (suc (suc (suc (suc (m - 4))))) l)) ≡ take (suc k) (words_of l)
    four [] more = refl
    four (a ∷ []) more = refl
    four (a ∷ b ∷ []) more = refl
    four (a ∷ b ∷ c ∷ []) more = refl
    four (a ∷ b ∷ c ∷ d ∷ rest) more = ap (λ l. little_number 4 (a ∷ b ∷ c ∷ d ∷ []) ∷ l) (more rest)

logged_in-take : (bytes : List ℕ) → logged_in (take 512 bytes) ≡ logged_in bytes
unfolding u32_at
logged_in-take bytes = little_from-take 0 4 512 bytes (omega arith)

homes_in-take : (bytes : List ℕ) → homes_in (take 512 bytes) ≡ homes_in bytes
homes_in-take bytes =
    ap (λ n. take (min n 30) (words_of (drop 4 (take 512 bytes)))) (logged_in-take bytes)
    ∙ ap (λ l. take (min (logged_in bytes) 30) (words_of l)) (drop-take 4 508 bytes)
    ∙ words_take (min (logged_in bytes) 30) 508 (drop 4 bytes) (omega arith)

-- images that are the same but for what is behind the header's first sector
pub record SameSector (v w : Image) : Type 0 where
  pub size : length w ≡ length v
  pub agree : (b : ℕ) → b ≢ 2 → block_at w b ≡ block_at v b
  pub header : BeginsAs (block_at v 2) (block_at w 2)

-- have the same numbers in it
pub same_numbers : (v w : Image) → SameSector v w → (logged_in (block_at w 2) ≡ logged_in (block_at v 2)) × (homes_in (block_at w 2) ≡ homes_in (block_at v 2))
same_numbers v w same = (
  sym (logged_in-take (block_at w 2)) ∙ ap logged_in same.header ∙ logged_in-take (block_at v 2),
  sym (homes_in-take (block_at w 2)) ∙ ap homes_in same.header ∙ homes_in-take (block_at v 2),
)

-- a block outside the log once a log is recovered
from_its_log : (x : Image) (b : ℕ) → logged_count x ≢ 0 → b ≢ 2 → b < length x → block_at (recovered x) b ≡ block_from_log x b (place_among (homes_of x) b)
unfolding recovered_block
from_its_log x b some other lt =
    let chosen : recovered_block x b ≡ block_from_log x b (place_among (homes_of x) b) = rw (ne_eqb b 2 other) refl in
    recovered_at x b some lt ∙ chosen

-- and are recovered alike
pub recovers_sector : (y v w : Image) → SameSector v w → RecoversTo y v → RecoversTo y w
recovers_sector y v w same r = record {
  lawful =
      ap (λ n. leb n 30 && are_in_place (homes_of w) (length w) && are_distinct (homes_of w)) count
      ∙ ap (λ l. leb (logged_count v) 30 && are_in_place l (length w) && are_distinct l) names
      ∙ ap (λ n. leb (logged_count v) 30 && are_in_place (homes_of v) n && are_distinct (homes_of v)) same.size ∙ r.lawful;
  same = outside_then y (recovered v) (recovered w) r.same
      (same_outside (recovered v) (recovered w) (length-recovered w ∙ same.size ∙ sym (length-recovered v))
      (λ b out lt. at b out (omega (arith, lt, length-recovered v))));
}
  where
    count : logged_count w ≡ logged_count v
    count = (same_numbers v w same).0

    names : homes_of w ≡ homes_of v
    names = (same_numbers v w same).1

    from_log : (b : ℕ) → b ≢ 2 → (p : Option ℕ) → block_from_log w b p ≡ block_from_log v b p
    from_log b other None = same.agree b other
    from_log b other (Some j) = same.agree (3 + j) (λ two. omega (arith, two))

    at : (b : ℕ) → is_outside_log b ≡ true → b < length v → block_at (recovered w) b ≡ block_at (recovered v) b
    at b out lt = elim (cases_eq (logged_count v) 0) [
      | inl none ↦
          ap (λ (x : Image). block_at x b) (recovered_empty w (count ∙ none)) ∙ same.agree b (no_header b out)
          ∙ sym (ap (λ (x : Image). block_at x b) (recovered_empty v none))
      | inr some ↦
          from_its_log w b (λ none. some (sym count ∙ none)) (no_header b out) (omega (arith, lt, same.size))
          ∙ ap (λ l. block_from_log w b (place_among l b)) names ∙ from_log b (no_header b out) (place_among (homes_of v) b)
          ∙ sym (from_its_log v b some (no_header b out) lt)
    ]

-- a header that is being written is the old one or the new one
pub torn_header : (v w : Image) (new bytes : List ℕ) → 2 < length v → MayTear v (2, new) bytes → w ≡ set v 2 bytes → SameSector v w ⊎ SameSector (set v 2 new) w
torn_header v w new bytes long tears is = ⊎_elim
    (λ (old : BeginsAs (block_at v 2) bytes). inl (record {
      size = ap length is ∙ length-set v 2 bytes;
      agree = λ b other. ap (λ (x : Image). block_at x b) is ∙ get_or-set_other v 2 b bytes [] other;
      header = ap (take 512) there ∙ old;
    }))
    (λ (now : BeginsAs new bytes). inr (record {
      size = ap length is ∙ length-set v 2 bytes ∙ sym (length-set v 2 new);
      agree = λ b other. ap (λ (x : Image). block_at x b) is ∙ get_or-set_other v 2 b bytes [] other ∙ sym (get_or-set_other v 2 b new [] other);
      header = ap (take 512) there ∙ now ∙ sym (ap (take 512) (get_or-set_same v 2 new [] long));
    }))
    (tears refl)
  where
    there : block_at w 2 ≡ bytes
    there = ap (λ (x : Image). block_at x 2) is ∙ get_or-set_same v 2 bytes [] long
