-- Steps of the making of an image.
use Rattle.std.proofs.Common.{◌≡◌, ◌≢◌, inl, inr, ℕ, suc, ◌+◌, ◌-◌, ◌<◌, ◌≤◌, List, [], ◌∷◌, ◌++◌, length, take, get_or, set, refl, sym, ap, ◌∙◌, subst, arith, length-append}
use Rattle.std.specs.List.{range_with_len}
use Rattle.std.proofs.lemmas.List.FromFn.{fill_by_all, get_or-range_with_len, length-range_with_len}
use Rattle.std.proofs.Math.ListN.{get_or-append}
use Rattle.std.proofs.Math.Seq.{get_or-append_seam}
use Rattle.offline.specs.Common.{block_at, cases_eq, counted, Elapses, Form, get_or-set_other, get_or-set_same, Image, IsOldOrNew, IsSettled, LeavesOnly, length-set, made_block, one_more, take_more}
use Rattle.blocks.specs.Lemmas.Moments.{started, goes_on}
use Rattle.model.specs.Codec.{made_image}
use Rattle.offline.specs.Making.{HasMade, IsMadeInPartAs, made_first, with_made, writing_order}

-- one more write
pub counted_more : (old b : ℕ) → 1 ≤ b → one_more (counted old (b - 1)) ≡ counted old (b + 1 - 1)
counted_more old b h =
    let e : suc (b - 1) ≡ b + 1 - 1 = omega arith in
    ap (counted old) e

-- the last write
pub counted_all : (old size : ℕ) → 1 ≤ size → one_more (counted old (size - 1)) ≡ counted old size
counted_all old size h =
    let e : suc (size - 1) ≡ size = omega arith in
    ap (counted old) e

length-writing_order : (size : ℕ) → 2 ≤ size → length (writing_order size) ≡ size
length-writing_order size some =
    omega (arith, length-append (range_with_len 2 (size - 2)) (1 ∷ []), length-range_with_len 2 (size - 2))

-- block b behind the superblock is the one before the bth of the order
pub order_behind : (size b : ℕ) → 2 ≤ b → b < size → get_or (writing_order size) (b - 1) 0 ≡ b
order_behind size b behind inside =
    let place : b - 1 ≡ suc (b - 2) = omega arith in
    ap (λ (i : ℕ). get_or (writing_order size) i 0) place
    ∙ get_or-append (range_with_len 2 (size - 2)) (1 ∷ []) 0 (b - 2) (omega (arith, length-range_with_len 2 (size - 2)))
    ∙ get_or-range_with_len 2 (size - 2) (b - 2) 0 (omega arith) ∙ (omega arith)

-- the superblock is the last of the order
pub order_last : (size : ℕ) → 2 ≤ size → get_or (writing_order size) (size - 1) 0 ≡ 1
order_last size some =
    let place : size - 1 ≡ suc (size - 2) = omega arith in
    ap (λ (i : ℕ). get_or (writing_order size) i 0) place
    ∙ ap (λ (i : ℕ). get_or (range_with_len 2 (size - 2) ++ 1 ∷ []) i 0) (sym (length-range_with_len 2 (size - 2)))
    ∙ get_or-append_seam (range_with_len 2 (size - 2)) 1 [] 0

with_made-append : (form : Form) (size n : ℕ) (bs : List ℕ) (b : ℕ) (x : Image) → with_made form size n (bs ++ b ∷ []) x ≡ set (with_made form size n bs x) b (made_block form size n b)
with_made-append form size n [] b x = refl
with_made-append form size n (a ∷ bs) b x = with_made-append form size n bs b (set x a (made_block form size n a))

-- one more block of the order
pub made_first-more : (form : Form) (size n k b : ℕ) (x : Image) → 2 ≤ size → k < size → get_or (writing_order size) k 0 ≡ b →
    made_first form size n (k + 1) x ≡ set (made_first form size n k x) b (made_block form size n b)
made_first-more form size n k b x some inside is =
    ap (λ (bs : List ℕ). with_made form size n bs x) (take_more (writing_order size) k 0 (omega (arith, length-writing_order size some)))
    ∙ with_made-append form size n (take k (writing_order size)) (get_or (writing_order size) k 0) x
    ∙ ap (λ (c : ℕ). set (made_first form size n k x) c (made_block form size n c)) is

-- the write of one more block leaves an image that is made in part
part_left : (form : Form) (size n k b : ℕ) (old mid new : Image) → 2 ≤ size → k < size → get_or (writing_order size) k 0 ≡ b → mid ≡ made_first form size n k old →
    IsOldOrNew mid b (made_block form size n b) new → IsMadeInPartAs form old size n new
part_left form size n k b old mid new some inside is so_far (inl same) = (k, omega arith, same ∙ so_far)
part_left form size n k b old mid new some inside is so_far (inr written) =
    (k + 1, omega arith, written ∙ ap (λ (x : Image). set x b (made_block form size n b)) so_far ∙ sym (made_first-more form size n k b old some inside is))

-- one more block
pub has_made_more : (form : Form) (size n b : ℕ) (old mid new : Image) → HasMade form size n b old mid → b < size → b ≢ 1 →
    new ≡ set mid b (made_block form size n b) → HasMade form size n (b + 1) old new
has_made_more form size n b old mid new so_far inside other is =
    subst (HasMade form size n (b + 1) old) (sym is) record {
      long = length-set mid b (made_block form size n b) ∙ so_far.long;
      made = λ k below apart. elim (cases_eq k b) [
        | inl same ↦
            ap (λ (j : ℕ). block_at (set mid b (made_block form size n b)) j) same
            ∙ get_or-set_same mid b (made_block form size n b) _ (omega (arith, so_far.long))
            ∙ ap (made_block form size n) (sym same)
        | inr away ↦ get_or-set_other mid b k (made_block form size n b) _ away ∙ so_far.made k (omega (arith, away)) apart
      ];
      superblock = get_or-set_other mid b 1 (made_block form size n b) _ (λ e. other (sym e)) ∙ so_far.superblock;
    }

-- the whole image
made_all : (form : Form) (size n : ℕ) (old mid : Image) → HasMade form size n size old mid → 1 < size →
    set mid 1 (made_block form size n 1) ≡ made_image form size n
unfolding made_image
made_all form size n old mid so_far some =
    fill_by_all (made_block form size n) (set mid 1 (made_block form size n 1)) size [] (length-set mid 1 (made_block form size n 1) ∙ so_far.long)
    (λ k below. elim (cases_eq k 1) [
      | inl same ↦
          ap (λ (j : ℕ). block_at (set mid 1 (made_block form size n 1)) j) same
          ∙ get_or-set_same mid 1 (made_block form size n 1) _ (omega (arith, so_far.long))
          ∙ ap (made_block form size n) (sym same)
      | inr away ↦ get_or-set_other mid 1 k (made_block form size n 1) _ away ∙ so_far.made k below away
    ])

-- the last write
pub last_made : (form : Form) (size n : ℕ) (old mid new : Image) → HasMade form size n size old mid → 1 < size → new ≡ set mid 1 (made_block form size n 1) → new ≡ made_image form size n
last_made form size n old mid new so_far some written = written ∙ made_all form size n old mid so_far some

-- after block 0
pub made_two : (form : Form) (size n : ℕ) (old new : Image) → length old ≡ size → 2 ≤ size → new ≡ set old 0 (made_block form size n 0) → HasMade form size n 2 old new
made_two form size n old new long some is =
    let none : HasMade form size n 0 old old = record { long = long; made = λ b below apart. absurd (omega arith); superblock = refl } in
    let one : HasMade form size n 1 old new = has_made_more form size n 0 old old new none (omega arith) (omega arith) is in
    record { long = one.long; made = λ b below apart. one.made b (omega (arith, below, apart)) apart; superblock = one.superblock }

module _ {D : Type 0} (image : D → Image) (moment : D → ℕ) (leaves : D → ℕ → Image → Type 0) where
  -- before the first write
  pub part_started : (form : Form) (size n : ℕ) (d : D) → IsSettled (image d) (leaves d (moment d)) → LeavesOnly moment leaves d d (IsMadeInPartAs form (image d) size n)
  part_started form size n d settled = started moment leaves d (IsMadeInPartAs form (image d) size n) (λ x left. (0, omega arith, settled x left))

  -- one write more, done or not
  pub part_more : (form : Form) (size n k b : ℕ) (old mid new : D) → IsSettled (image new) (leaves new (moment new)) → 2 ≤ size → k < size → get_or (writing_order size) k 0 ≡ b → image mid ≡ made_first form size n k (image old) →
      IsOldOrNew (image mid) b (made_block form size n b) (image new) → Elapses (moment mid) (moment new) (leaves mid) (leaves new) →
      LeavesOnly moment leaves old mid (IsMadeInPartAs form (image old) size n) → LeavesOnly moment leaves old new (IsMadeInPartAs form (image old) size n)
  part_more form size n k b old mid new settled some inside is so_far write time run =
      goes_on moment leaves old mid new (IsMadeInPartAs form (image old) size n) run time
      (λ x left. subst (IsMadeInPartAs form (image old) size n) (sym (settled x left)) (part_left form size n k b (image old) (image mid) (image new) some inside is so_far write))
