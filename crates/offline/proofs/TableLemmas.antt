-- Counting the places of blocks, and judging pointers by the counts.
use Rattle.std.proofs.Common.{◌≡◌, ◌≢◌, ◌∙◌, ◌⊎◌, ℕ, ◌+◌, ◌<◌, ◌≤◌, min, Bool, true, false, cond, not, ◌&&◌, ltb, leb, List, [], ◌∷◌, ◌++◌, length, get_or, replicate, set, Some, None, inl, inr, refl, sym, ap, subst, ⊎_elim, arith}
use Rattle.std.specs.Prelude.{is_none}
use Rattle.std.proofs.lemmas.Bool.{eq-eqb, le-leb, lt-leb}
use Rattle.offline.specs.Common.{addresses_in, addresses_in-append, append-nil, append_assoc, block_at, cases_eq, cases_lt, get_or-replicate, get_or-set_other, get_or-set_same, Form, Image, le-ltb, length-recovered, length-replicate, length-set, lt-ltb, meta_count, ne_eqb, Pointer, recovered, Super, there}
use Rattle.model.specs.Layout.{first_data_block, is_marked}
use Rattle.model.specs.Soundness.{count_of, place_count}
use Rattle.model.specs.Lemmas.Counts.{count_of-append}
use Rattle.model.specs.declared.types.fault.CheckFault.TheVariants.{BadAddress, UsedButFree}
use Rattle.offline.specs.Check.{IsGround}
use Rattle.offline.specs.Clean.{Counts, is_clean_pointer}
use Rattle.offline.specs.declared.table.Table.{Table}
use Rattle.offline.proofs.OwnersLemmas.{there_is}

-- ---- counting

-- a table of no places yet
pub counts_none : (x : Image) (sup : Super) (form : Form) (t : Table) → IsGround x sup form → t.first_data ≡ meta_count sup.size sup.ninodes →
    t.bitmap ≡ block_at (recovered x) sup.bmapstart → t.counts.items ≡ replicate sup.size 0 → Counts t (recovered x) []
counts_none x sup form t ground first bitmap counts = record {
  first = first ∙ ap (λ (s : Super). meta_count s.size s.ninodes) ground.same;
  bitmap = bitmap ∙ ap (λ (s : Super). block_at (recovered x) s.bmapstart) ground.same;
  long = ap length counts ∙ length-replicate sup.size 0 ∙ ground.size ∙ sym (length-recovered x);
  each = λ b below. ap (λ (l : List ℕ). get_or l b 0) counts
      ∙ get_or-replicate sup.size b 0 0 (omega (arith, below, ground.size, length-recovered x));
}

one_here : (a : ℕ) (places : List ℕ) → count_of a (places ++ a ∷ []) ≡ count_of a places + 1
one_here a places =
    let one : count_of a (a ∷ []) ≡ 1 = rw (eq-eqb a a refl) refl in
    omega (arith, count_of-append a places (a ∷ []), one)

none_here : (b a : ℕ) (places : List ℕ) → b ≢ a → count_of b (places ++ a ∷ []) ≡ count_of b places
none_here b a places other =
    let none : count_of b (a ∷ []) ≡ 0 = rw (ne_eqb a b (λ e. other (sym e))) refl in
    omega (arith, count_of-append b places (a ∷ []), none)

-- a place more
module _ (t u : Table) (y : Image) (places : List ℕ) (a : ℕ) (before : Counts t y places) where
  pub counts_one : a ≢ 0 → a < length t.counts.items → u.first_data ≡ t.first_data → u.bitmap ≡ t.bitmap →
      u.counts.items ≡ set t.counts.items a (min 2 (get_or t.counts.items a 0 + 1)) → Counts u y (places ++ there a)
  counts_one some low first bitmap is = rw (ne_eqb a 0 some) (record {
    first = first ∙ before.first;
    bitmap = bitmap ∙ before.bitmap;
    long = ap length is ∙ length-set t.counts.items a _ ∙ before.long;
    each = λ b below. ap (λ (l : List ℕ). get_or l b 0) is
        ∙ ⊎_elim
        (λ (same : b ≡ a).
        subst (λ (k : ℕ). get_or (set t.counts.items a (min 2 (get_or t.counts.items a 0 + 1))) k 0 ≡ min 2 (count_of k (places ++ a ∷ []))) (sym same)
        (get_or-set_same t.counts.items a _ 0 low ∙ here))
        (λ (other : b ≢ a). get_or-set_other t.counts.items a b _ 0 other ∙ before.each b below ∙ ap (min 2) (sym (none_here b a places other)))
        (cases_eq b a);
  })
    where
      here : min 2 (get_or t.counts.items a 0 + 1) ≡ min 2 (count_of a (places ++ a ∷ []))
      here = omega (arith, before.each a (omega (arith, low, before.long)), one_here a places)

  -- none, or one outside the image
  pub counts_other : (a ≡ 0) ⊎ (length t.counts.items ≤ a) → Counts t y (places ++ there a)
  counts_other (inl none) = rw none (subst (Counts t y) (sym (append-nil places)) before)
  counts_other (inr high) =
      ⊎_elim (λ (none : a ≡ 0). rw none (subst (Counts t y) (sym (append-nil places)) before))
      (λ (some : a ≢ 0).
      rw (ne_eqb a 0 some) (record {
        first = before.first;
        bitmap = before.bitmap;
        long = before.long;
        each = λ b below. before.each b below
            ∙ ap (min 2) (sym (none_here b a places (λ e. omega (arith, e, below, high, before.long))));
      }))
      (cases_eq a 0)

-- of the places `whole`, those of `rest` are still to be counted
pub record IsCounting (t : Table) (y : Image) (whole : List ℕ) (rest : List Pointer) : Type 0 where
  pub front : List ℕ
  pub split : whole ≡ front ++ addresses_in rest
  pub counts : Counts t y front

pub counting_first : (t : Table) (y : Image) (places : List ℕ) (pointers : List Pointer) → Counts t y places → IsCounting t y (places ++ addresses_in pointers) pointers
counting_first t y places pointers counts = record { front = places; split = refl; counts = counts }

pub counting_next : (t u : Table) (y : Image) (whole : List ℕ) (rest : List Pointer) (p : Pointer) (next : List Pointer) → IsCounting t y whole rest → rest ≡ p ∷ next →
    ((z : Image) (places : List ℕ) → Counts t z places → Counts u z (places ++ there p.address)) → IsCounting u y whole next
counting_next t u y whole rest p next had cut count = record {
  front = had.front ++ there p.address;
  split = had.split
      ∙ ap (λ ps. had.front ++ addresses_in ps) cut
      ∙ ap (λ l. had.front ++ l) (addresses_in-append (p ∷ []) next ∙ ap (λ l. l ++ addresses_in next) (sym (there_is p)))
      ∙ sym (append_assoc had.front (there p.address) (addresses_in next));
  counts = count y had.front had.counts;
}

pub counting_last : (t : Table) (y : Image) (whole : List ℕ) (rest : List Pointer) → IsCounting t y whole rest → rest ≡ [] → Counts t y whole
counting_last t y whole rest had none =
    subst (Counts t y) (sym (had.split ∙ ap (λ ps. had.front ++ addresses_in ps) none ∙ append-nil had.front)) had.counts

-- ---- judging

-- at one place at most
few_places : (n : ℕ) → leb n 1 ≡ ltb (min 2 n) 2
few_places n =
    ⊎_elim (λ (few : n < 2). le-leb n 1 (omega (arith, few)) ∙ sym (lt-ltb (min 2 n) 2 (omega (arith, few))))
    (λ (many : 2 ≤ n). lt-leb n 1 (omega (arith, many)) ∙ sym (le-ltb (min 2 n) 2 (omega (arith, many))))
    (cases_lt n 2)

module _ (y : Image) (i : ℕ) (p : Pointer) where
  pub clean_none : p.address ≡ 0 → not p.needed ≡ is_clean_pointer y i p
  clean_none none = rw none (by_needed p.needed)
    where
      by_needed : (b : Bool) → not b ≡ (is_none (cond b (Some (BadAddress i)) None) && true)
      by_needed true = refl
      by_needed false = refl

  -- an address outside the data
  pub clean_outside : p.address ≢ 0 → (p.address < first_data_block y) ⊎ (length y ≤ p.address) → false ≡ is_clean_pointer y i p
  clean_outside some (inl low) = rw (ne_eqb p.address 0 some, lt-ltb p.address (first_data_block y) low) refl
  clean_outside some (inr high) =
      ⊎_elim
      (λ (low : p.address < first_data_block y). rw (ne_eqb p.address 0 some, lt-ltb p.address (first_data_block y) low) refl)
      (λ (behind : first_data_block y ≤ p.address). rw (ne_eqb p.address 0 some, le-ltb p.address (first_data_block y) behind, le-ltb p.address (length y) high) refl)
      (cases_lt p.address (first_data_block y))

  -- one inside it
  pub clean_inside : p.address ≢ 0 → first_data_block y ≤ p.address → p.address < length y →
      (is_marked y p.address && ltb (min 2 (place_count y p.address)) 2) ≡ is_clean_pointer y i p
  clean_inside some behind inside =
      rw (ne_eqb p.address 0 some, le-ltb p.address (first_data_block y) behind, lt-ltb p.address (length y) inside, few_places (place_count y p.address)) (by_mark (is_marked y p.address) (ltb (min 2 (place_count y p.address)) 2))
    where
      by_mark : (m few : Bool) → (m && few) ≡ (is_none (cond (not m) (Some (UsedButFree p.address)) None) && few)
      by_mark true few = refl
      by_mark false few = refl
