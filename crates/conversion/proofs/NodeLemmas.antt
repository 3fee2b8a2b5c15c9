-- The blocks of addresses that are noted, number by number.
use Rattle.std.proofs.Common.{◌≡◌, ℕ, zero, suc, ◌+◌, ◌-◌, ◌≤◌, Bool, true, false, ◌||◌, List, refl, sym, ap, ◌∙◌, arith}
use Rattle.std.specs.List.{list_any, range_with_len}
use Rattle.blocks.specs.Disk.{Image}
use Rattle.model.specs.declared.types.image.Dinode.{Dinode}
use Rattle.conversion.specs.Common.{AreNoted, is_node_in, NotesNode}
use Rattle.conversion.specs.Older.{older_inode}

or_none : (b : Bool) → (b || false) ≡ b
or_none b = elim b as (λ v. (v || false) ≡ v) [ true ↦ refl | false ↦ refl ]

or_joined : (a b c : Bool) → (a || (b || c)) ≡ ((a || b) || c)
or_joined a b c = elim a as (λ v. (v || (b || c)) ≡ ((v || b) || c)) [ true ↦ refl | false ↦ refl ]

any_more : (test : ℕ → Bool) (a n : ℕ) → list_any test (range_with_len a (suc n)) ≡ (list_any test (range_with_len a n) || test (a + n))
any_more test a zero =
    let first : a ≡ a + 0 = omega arith in
    or_none (test a) ∙ ap test first
any_more test a (suc n) =
    let next : a + 1 + n ≡ a + suc n = omega arith in
    ap (λ (v : Bool). test a || v) (any_more test (a + 1) n)
    ∙ or_joined (test a) (list_any test (range_with_len (a + 1) n)) (test (a + 1 + n))
    ∙ ap (λ (j : ℕ). list_any test (range_with_len a (suc n)) || test j) next

-- one number more
pub noted_more : (x : Image) (i : ℕ) (d : Dinode) (old new : List Bool) → 1 ≤ i → d ≡ older_inode x i →
    AreNoted x (range_with_len 1 (i - 1)) old → NotesNode d old new → AreNoted x (range_with_len 1 (i + 1 - 1)) new
noted_more x i d old new some is before notes = record {
  long = notes.long ∙ before.long;
  each = λ b low.
      let test : ℕ → Bool = λ j. is_node_in (older_inode x j) b in
      notes.each b (omega (arith, low, before.long))
      ∙ ap (λ (v : Bool). v || is_node_in d b) (before.each b low)
      ∙ ap (λ (e : Dinode). list_any test (range_with_len 1 (i - 1)) || is_node_in e b) is
      ∙ ap (λ (j : ℕ). list_any test (range_with_len 1 (i - 1)) || test j) (place i some)
      ∙ sym (any_more test 1 (i - 1))
      ∙ ap (λ (n : ℕ). list_any test (range_with_len 1 n)) (next i some);
}
  where
    place : (i : ℕ) → 1 ≤ i → i ≡ 1 + (i - 1)
    place i some = omega (arith, some)

    next : (i : ℕ) → 1 ≤ i → suc (i - 1) ≡ i + 1 - 1
    next i some = omega (arith, some)
