-- What recovery leaves where it was, and an empty header.
use Rattle.std.proofs.Common.{◌≡◌, ◌≢◌, ℕ, ◌+◌, ◌<◌, Bool, true, false, cond, ◌&&◌, eqb, leb, ltb, List, [], ◌∷◌, length, map, None, refl, ap, ◌∙◌, ⊎_elim, arith}
use Rattle.std.specs.List.{range_with_len, position_from}
use Rattle.model.specs.Common.{are_distinct, are_in_place, block_at, block_from_log, cases_eq, cleared, get_or-map-range_with_len, get_or-set_same, homes_of, Image, is_lawful_log, leb-true, length-map-range_with_len, logged_count, ne_eqb}
use Rattle.blocks.specs.Block.{zero_block}
use Rattle.model.specs.Fields.{u32_at}
use Rattle.model.specs.Log.{recovered, recovered_block}

-- both sides of a test that holds
pub both_of : (a b : Bool) → (a && b) ≡ true → (a ≡ true) × (b ≡ true)
both_of true true h = (refl, refl)
both_of true false h = absurd (cc h)
both_of false b h = absurd (cc h)

-- no home lies below 33
pub no_home : (homes : List ℕ) (n b size : ℕ) → are_in_place homes size ≡ true → b < 33 →
    position_from (λ h. eqb h b) n homes ≡ None
no_home [] n b size all h = refl
no_home (home ∷ homes) n b size all h =
    let parts = both_of (leb 33 home && ltb home size) (are_in_place homes size) all in
    let low = leb-true 33 home (both_of (leb 33 home) (ltb home size) parts.0).0 in
    rw (ne_eqb home b (omega arith)) (no_home homes (n + 1) b size parts.1 h)

pub lawful_homes : (x : Image) → is_lawful_log x ≡ true → are_in_place (homes_of x) (length x) ≡ true
lawful_homes x h =
    let parts = both_of (leb (logged_count x) 30 && are_in_place (homes_of x) (length x)) (are_distinct (homes_of x)) h in
    (both_of (leb (logged_count x) 30) (are_in_place (homes_of x) (length x)) parts.0).1

-- the blocks before the inodes are not copied over, but for the header
pub recovered_block_low : (x : Image) (b : ℕ) → is_lawful_log x ≡ true → b < 33 → b ≢ 2 → recovered_block x b ≡ block_at x b
unfolding recovered_block
recovered_block_low x b lawful h other =
    rw (ne_eqb b 2 other) (ap (block_from_log x b) (no_home (homes_of x) 0 b (length x) (lawful_homes x lawful) h))

pub recovered_block-header : (x : Image) → recovered_block x 2 ≡ zero_block
unfolding recovered_block
recovered_block-header x = refl

pub length-recovered : (x : Image) → length (recovered x) ≡ length x
unfolding recovered
length-recovered x =
    elim (eqb (logged_count x) 0) as (λ v. length (cond v x (map (recovered_block x) (range_with_len 0 (length x)))) ≡ length x)
    [ true ↦ refl | false ↦ length-map-range_with_len (recovered_block x) 0 (length x) ]

-- a block of the recovered image, where something was logged
pub recovered_at : (x : Image) (b : ℕ) → logged_count x ≢ 0 → b < length x → block_at (recovered x) b ≡ recovered_block x b
unfolding recovered
recovered_at x b some h =
    rw (ne_eqb (logged_count x) 0 some) (get_or-map-range_with_len (recovered_block x) 0 (length x) b b [] h (omega arith))

-- nothing is done where nothing was logged
pub recovered_empty : (x : Image) → logged_count x ≡ 0 → recovered x ≡ x
unfolding recovered
recovered_empty x e = rw e refl

-- a header of zeroes has no logged block
pub zero_header : u32_at zero_block 0 ≡ 0
unfolding u32_at zero_block
zero_header = refl

pub none_cleared : (x : Image) → 2 < length x → logged_count (cleared x) ≡ 0
none_cleared x long = ap (λ bytes. u32_at bytes 0) (get_or-set_same x 2 zero_block [] long) ∙ zero_header

-- what lies below the log's blocks stays, but for the header
pub recovered_low : (x : Image) (b : ℕ) → is_lawful_log x ≡ true → b < 33 → b ≢ 2 → b < length x →
    block_at (recovered x) b ≡ block_at x b
recovered_low x b lawful low other h =
    ⊎_elim (λ (e : logged_count x ≡ 0). ap (λ y. block_at y b) (recovered_empty x e))
    (λ (some : logged_count x ≢ 0). recovered_at x b some h ∙ recovered_block_low x b lawful low other)
    (cases_eq (logged_count x) 0)

-- the header is empty then
pub logged_count-recovered : (x : Image) → 2 < length x → logged_count (recovered x) ≡ 0
logged_count-recovered x h =
    ⊎_elim (λ (e : logged_count x ≡ 0). ap logged_count (recovered_empty x e) ∙ e)
    (λ (some : logged_count x ≢ 0). ap (λ b. u32_at b 0) (recovered_at x 2 some h ∙ recovered_block-header x) ∙ zero_header)
    (cases_eq (logged_count x) 0)
