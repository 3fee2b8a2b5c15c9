-- An entry of a block of addresses, at any depth, or an inode's own address names a new block: the
-- block is named besides, and nothing else changes.
use Rattle.std.proofs.Common.{◌≡◌, ◌≢◌, ℕ, zero, suc, ◌+◌, ◌*◌, ◌^◌, ◌<◌, ◌≤◌, List, [], ◌∷◌, length, get_or, set, replicate, refl, sym, ap, subst, ◌∙◌, ⊎_elim, arith, get_or-set_same, get_or-set_other, length-set}
use Rattle.std.specs.List.{flat_map, range_with_len}
use Rattle.in_flight.specs.Common.{block_at, cases_eq, count_flat, count_flat_one, count_of, count_of-append, count_two, entry_of, eq-eqb, Image, led_to, length-words_of-block, names_along, names_under, ne_eqb, with_entry, words_of, words_of-with_entry}
use Rattle.blocks.specs.Block.{zero_block}
use Rattle.in_flight.specs.Lemmas.KeptTrees.{names_kept}
use Rattle.in_flight.specs.Lemmas.LeftInTrees.{under_none}
use Rattle.in_flight.specs.Lemmas.Ways.{named_behind, flat_indexed, along_indexed, count_at, count_slot, led_step, led_named}

-- ---- by an entry of the block to which a way leads

-- the depth of an address from which a way leads to one of that depth
abbrev pub over : List ℕ → ℕ → ℕ
over [] depth = depth
over (e ∷ way) depth = suc (over way depth)

pub over_is : (way : List ℕ) (depth : ℕ) → over way depth ≡ length way + depth
over_is [] depth = omega arith
over_is (e ∷ way) depth = let r = over_is way depth in omega (arith, r)

pub record IsPlaced (x : Image) (n e b depth : ℕ) : Type 0 where
  pub full : length (block_at x n) ≡ 1024
  pub inside : n < length x
  pub there : n ≢ 0
  pub low : e < 256
  pub none : entry_of x n e ≡ 0
  pub small : b < 2 ^ 32
  -- under the new block nothing is named
  pub fresh : names_under (set x n (with_entry (block_at x n) e b)) depth b ≡ b ∷ []

module _ (x : Image) (n e b depth : ℕ) (h : IsPlaced x n e b depth) where
  abbrev y : Image
  y = set x n (with_entry (block_at x n) e b)

  abbrev ws : List ℕ
  ws = words_of (block_at x n)

  long : length ws ≡ 256
  long = length-words_of-block (block_at x n) h.full

  pub words_now : words_of (block_at y n) ≡ set ws e b
  words_now =
      ap words_of (get_or-set_same x n (with_entry (block_at x n) e b) [] h.inside)
      ∙ words_of-with_entry (block_at x n) e b h.full h.low h.small

  other : (q : ℕ) → q ≢ n → block_at y q ≡ block_at x q
  other q ne = get_or-set_other x n q (with_entry (block_at x n) e b) [] ne

  pub entry_now : entry_of y n e ≡ b
  entry_now =
      let all = long in
      let low = h.low in
      ap (λ (l : List ℕ). get_or l e 0) words_now ∙ get_or-set_same ws e b 0 (omega (arith, all, low))

  -- what was there is there
  pub entries_kept : (a f : ℕ) → entry_of x a f ≢ 0 → entry_of y a f ≡ entry_of x a f
  entries_kept a f some =
      ⊎_elim
      (λ (own : a ≡ n).
      let was : entry_of x n f ≢ 0 = λ z. some (ap (λ q. entry_of x q f) own ∙ z) in
      ap (λ q. entry_of y q f) own ∙ ap (λ (l : List ℕ). get_or l f 0) words_now
      ∙ get_or-set_other ws e f b 0 (λ same. was (ap (entry_of x n) same ∙ h.none)) ∙ sym (ap (λ q. entry_of x q f) own))
      (λ (ne : a ≢ n). ap (λ (l : List ℕ). get_or (words_of l) f 0) (other a ne))
      (cases_eq a n)

  -- what does not name n stays
  still : (deep a c : ℕ) → count_of n (names_under x deep a) ≡ 0 → count_of c (names_under y deep a) ≡ count_of c (names_under x deep a)
  still deep a c none =
      ap (count_of c) (names_kept x y deep a (λ q some. other q (λ (is : q ≡ n).
      let s = ap (λ k. count_of k (names_under x deep a)) is in omega (arith, none, some, s))))

  -- of several lists one has n, and names b besides
  one_more : (f g : ℕ → List ℕ) (count k c : ℕ) → k < count → 1 ≤ count_of n (f k) → count_of n (flat_map f (range_with_len 0 count)) ≤ 1 →
      ((j : ℕ) → count_of n (f j) ≡ 0 → count_of c (g j) ≡ count_of c (f j)) → count_of c (g k) ≡ count_of c (b ∷ f k) →
      count_of c (flat_map g (range_with_len 0 count)) ≡ count_of c (b ∷ flat_map f (range_with_len 0 count))
  one_more f g count k c inside has once others here =
      let one = count_flat_one f g c 0 count k (omega arith) (omega (arith, inside)) (λ j from low ne. others j
      (let both = count_two f n 0 count j k (omega arith) low (omega arith) (omega (arith, inside)) ne in omega (arith, both, has, once))) in
      omega (arith, one, here, (count_of-append c (b ∷ []) (f k)), (count_of-append c (b ∷ []) (flat_map f (range_with_len 0 count))))

  placed_here : (c : ℕ) → count_of n (names_under x (suc depth) n) ≤ 1 →
      count_of c (names_under y (suc depth) n) ≡ count_of c (b ∷ names_under x (suc depth) n)
  placed_here c once =
      let f = λ (j : ℕ). names_under x depth (get_or ws j 0) in
      let g = λ (j : ℕ). names_under y depth (get_or (set ws e b) j 0) in
      let all = long in
      let low = h.low in
      let no = ne_eqb n 0 h.there in
      let old : count_of n (names_under x (suc depth) n) ≡ 1 + count_of n (flat_map (names_under x depth) ws) = rw (no, eq-eqb n n refl) refl in
      let flat_x = flat_indexed (names_under x depth) ws in
      let flat_y = flat_indexed (names_under y depth) (set ws e b) ∙ ap (λ k. flat_map g (range_with_len 0 k)) (length-set ws e b) in
      let x_n = ap (count_of n) flat_x in
      let x_c = ap (count_of c) flat_x in
      let y_c = ap (count_of c) flat_y in
      let one = count_flat_one f g c 0 (length ws) e (omega arith) (omega (arith, all, low)) (λ j from few ne.
      ap (λ w. count_of c (names_under y depth w)) (get_or-set_other ws e j b 0 ne)
      ∙ still depth (get_or ws j 0) c (let some = count_flat f n 0 (length ws) j (omega arith) few in omega (arith, old, once, x_n, some))) in
      let gone = ap (count_of c) (ap (names_under x depth) h.none ∙ under_none x depth) in
      let fresh = ap (count_of c) (ap (names_under y depth) (get_or-set_same ws e b 0 (omega (arith, all, low))) ∙ h.fresh) in
      let new : count_of c (names_under y (suc depth) n) ≡ count_of c (n ∷ flat_map (names_under y depth) (set ws e b)) = rw (no, words_now) refl in
      let was : count_of c (names_under x (suc depth) n) ≡ count_of c (n ∷ flat_map (names_under x depth) ws) = rw no refl in
      let p = count_of-append c (n ∷ []) (flat_map (names_under y depth) (set ws e b)) in
      let q = count_of-append c (n ∷ []) (flat_map (names_under x depth) ws) in
      let r = count_of-append c (b ∷ []) (names_under x (suc depth) n) in
      omega (arith, one, gone, fresh, new, was, x_c, y_c, p, q, r)

  placed : (way : List ℕ) (a c : ℕ) → led_to x way a ≡ n → count_of n (names_under x (over way (suc depth)) a) ≤ 1 →
      count_of c (names_under y (over way (suc depth)) a) ≡ count_of c (b ∷ names_under x (over way (suc depth)) a)
  placed [] a c led once =
      subst (λ k. count_of c (names_under y (suc depth) k) ≡ count_of c (b ∷ names_under x (suc depth) k)) (sym led)
      (placed_here c (omega (arith, (ap (λ q. count_of n (names_under x (suc depth) q)) led), once)))
  placed (f ∷ way) a c led once =
      let step = led_step x f way a n led h.there in
      let vs = words_of (block_at x a) in
      let under = over way (suc depth) in
      let no = ne_eqb a 0 step.0 in
      let has = led_named x under way (get_or vs f 0) n (omega (arith, (over_is way (suc depth)))) step.1 h.there in
      let few = count_at (names_under x under) vs f n step.2 in
      let old : count_of n (names_under x (suc under) a) ≡ count_of n (a ∷ flat_map (names_under x under) vs) = rw no refl in
      let sum = count_of-append n (a ∷ []) (flat_map (names_under x under) vs) in
      let apart : a ≢ n = λ (s : a ≡ n).
      let own : count_of n (a ∷ []) ≡ 1 = rw (eq-eqb a n s) refl in omega (arith, once, old, sum, has, few, own) in
      let more = one_more (λ j. names_under x under (get_or vs j 0)) (λ j. names_under y under (get_or vs j 0)) (length vs) f c step.2 has
      (omega (arith, once, old, sum, (ap (count_of n) (flat_indexed (names_under x under) vs)))) (λ j none. still under (get_or vs j 0) c none)
      (placed way (get_or vs f 0) c step.1 (omega (arith, once, old, sum, few))) in
      let new : count_of c (names_under y (suc under) a) ≡ count_of c (a ∷ flat_map (names_under y under) vs) = rw (no, (other a apart)) refl in
      let was : count_of c (names_under x (suc under) a) ≡ count_of c (a ∷ flat_map (names_under x under) vs) = rw no refl in
      let p = count_of-append c (a ∷ []) (flat_map (names_under y under) vs) in
      let q = count_of-append c (a ∷ []) (flat_map (names_under x under) vs) in
      let r = count_of-append c (b ∷ []) (names_under x (suc under) a) in
      let s = count_of-append c (b ∷ []) (flat_map (λ j. names_under x under (get_or vs j 0)) (range_with_len 0 (length vs))) in
      omega (arith, more, new, was, (ap (count_of c) (flat_indexed (names_under x under) vs)), (ap (count_of c) (flat_indexed (names_under y under) vs)), p, q, r, s)

  pub placed_along : (way ds addresses : List ℕ) (slot c : ℕ) → slot < length ds → get_or ds slot 0 ≡ over way (suc depth) →
      led_to x way (get_or addresses slot 0) ≡ n → count_of n (names_along x ds addresses) ≤ 1 →
      count_of c (names_along y ds addresses) ≡ count_of c (b ∷ names_along x ds addresses)
  placed_along way ds addresses slot c inside deep led once =
      let a = get_or addresses slot 0 in
      let has = led_named x (get_or ds slot 0) way a n (omega (arith, (over_is way (suc depth)), deep)) led h.there in
      let x_n = ap (count_of n) (along_indexed x ds addresses) in
      ap (count_of c) (along_indexed y ds addresses)
      ∙ one_more (named_behind x ds addresses) (named_behind y ds addresses) (length ds) slot c inside has (omega (arith, once, x_n))
      (λ j none. still (get_or ds j 0) (get_or addresses j 0) c none)
      (subst (λ k. count_of n (names_under x k a) ≤ 1 → count_of c (names_under y k a) ≡ count_of c (b ∷ names_under x k a)) (sym deep)
      (placed way a c led) (omega (arith, once, (count_slot x ds addresses slot n inside))))
      ∙ ap (λ (l : List ℕ). count_of c (b ∷ l)) (sym (along_indexed x ds addresses))

-- ---- by an address of the inode

pub set_along : (x : Image) (ds addresses : List ℕ) (slot b c : ℕ) → slot < length ds → slot < length addresses → get_or addresses slot 0 ≡ 0 →
    names_under x (get_or ds slot 0) b ≡ b ∷ [] →
    count_of c (names_along x ds (set addresses slot b)) ≡ count_of c (b ∷ names_along x ds addresses)
set_along x ds addresses slot b c inside there none fresh =
    let one = count_flat_one (named_behind x ds addresses) (named_behind x ds (set addresses slot b)) c 0 (length ds) slot (omega arith)
    (omega (arith, inside)) (λ j from low ne. ap (λ a. count_of c (names_under x (get_or ds j 0) a)) (get_or-set_other addresses slot j b 0 ne)) in
    let now = ap (count_of c) (ap (names_under x (get_or ds slot 0)) (get_or-set_same addresses slot b 0 there) ∙ fresh) in
    let old = ap (count_of c) (along_indexed x ds addresses) in
    let new = ap (count_of c) (along_indexed x ds (set addresses slot b)) in
    let p = count_of-append c (b ∷ []) (names_along x ds addresses) in
    omega (arith, one, (ap (count_of c) (ap (names_under x (get_or ds slot 0)) none ∙ under_none x (get_or ds slot 0))), now, old, new, p)

-- ---- a block of zeroes names nothing

zero_words : (n : ℕ) → words_of (replicate (4 * n) 0) ≡ replicate n 0
zero_words zero = refl
zero_words (suc n) =
    let four : 4 * suc n ≡ suc (suc (suc (suc (4 * n)))) = omega arith in
    ap (λ k. words_of (replicate {A = ℕ} k 0)) four ∙ ap (λ (l : List ℕ). 0 ∷ l) (zero_words n)

words_of_zeroes : words_of zero_block ≡ replicate 256 0
unfolding zero_block
words_of_zeroes = zero_words 256

flat_none : (f : ℕ → List ℕ) (n : ℕ) → f 0 ≡ [] → flat_map f (replicate n 0) ≡ []
flat_none f zero none = refl
flat_none f (suc n) none = rw (none, flat_none f n none) refl

pub under_fresh : (x : Image) (depth b : ℕ) → b ≢ 0 → (depth ≢ 0 → block_at x b ≡ zero_block) → names_under x depth b ≡ b ∷ []
under_fresh x zero b some zeroes = rw (ne_eqb b 0 some) refl
under_fresh x (suc depth) b some zeroes =
    rw (ne_eqb b 0 some) (ap (λ (l : List ℕ). b ∷ l)
    (ap (flat_map (names_under x depth)) (ap words_of (zeroes (λ e. omega (arith, e))) ∙ words_of_zeroes) ∙ flat_none (names_under x depth) 256 (under_none x depth)))
