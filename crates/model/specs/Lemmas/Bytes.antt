-- The bytes of a file, block by block and piece by piece.
use Rattle.std.proofs.Common.{◌≡◌, ◌≢◌, ℕ, zero, suc, ◌+◌, ◌-◌, ◌*◌, ◌/◌, ◌%◌, ◌<◌, ◌≤◌, List, ◌++◌, length, get_or, take, drop, Some, refl, sym, ap, ◌∙◌, ⊎_elim, arith, get_or-take}
use Rattle.std.specs.List.{flat_map, range_with_len}
use Rattle.model.specs.Common.{block_at, blocks_for, cases_lt, data_at, Dinode, drop-drop, drop-take, ext_get_or, get_or-append_right, get_or-drop, get_or_append_left, Image, length-append, length-drop, length-take-le, ne_eqb, take-append-drop, take-take}
use Rattle.model.specs.Files.{bytes_in, file_of, joined}
use Rattle.model.specs.Operations.{part_of}
use Rattle.model.specs.Places.{address_in}

-- the file of a used inode
pub file_used : (x : Image) (d : Dinode) → d.kind ≢ 0 →
    file_of x d ≡ Some (record { kind = d.kind; links = d.nlink; bytes = bytes_in x d })
unfolding file_of
file_used x d used = rw (ne_eqb d.kind 0 used) refl

-- ---- joined blocks

-- each block of a range has 1024 bytes
abbrev AreWhole : (ℕ → List ℕ) → ℕ → ℕ → Type 0
AreWhole f a n = (k : ℕ) → a ≤ k → k < a + n → length (f k) ≡ 1024

length_blocks : (f : ℕ → List ℕ) (a n : ℕ) → AreWhole f a n → length (flat_map f (range_with_len a n)) ≡ 1024 * n
length_blocks f a zero each = refl
length_blocks f a (suc n) each =
    let rest = length_blocks f (a + 1) n (λ k low high. each k (omega arith) (omega arith)) in
    omega (arith, (length-append (f a) (flat_map f (range_with_len (a + 1) n))), (each a (omega arith) (omega arith)), rest)

-- byte t of joined blocks
get_or_blocks : (f : ℕ → List ℕ) (a n t : ℕ) → AreWhole f a n → t < 1024 * n →
    get_or (flat_map f (range_with_len a n)) t 0 ≡ get_or (f (a + t / 1024)) (t % 1024) 0
get_or_blocks f a zero t each h = absurd (omega arith)
get_or_blocks f a (suc n) t each h =
    let one = each a (omega arith) (omega arith) in
    let more = flat_map f (range_with_len (a + 1) n) in
    ⊎_elim
    (λ (lt : t < 1024).
    let q : a + t / 1024 ≡ a = omega arith in
    let r : t % 1024 ≡ t = omega arith in
    get_or_append_left (f a) more 0 t (omega (arith, one, lt))
    ∙ sym (ap (λ k. get_or (f k) (t % 1024) 0) q ∙ ap (λ k. get_or (f a) k 0) r))
    (λ (le : 1024 ≤ t).
    let q : a + 1 + (t - 1024) / 1024 ≡ a + t / 1024 = omega arith in
    let r : (t - 1024) % 1024 ≡ t % 1024 = omega arith in
    get_or-append_right (f a) more 1024 t 0 one le
    ∙ get_or_blocks f (a + 1) n (t - 1024) (λ k low high. each k (omega arith) (omega arith)) (omega arith)
    ∙ ap (λ k. get_or (f k) ((t - 1024) % 1024) 0) q ∙ ap (λ k. get_or (f (a + t / 1024)) k 0) r)
    (cases_lt t 1024)

-- ---- pieces of any bytes

pub part_in_two : (bytes : List ℕ) (at m n : ℕ) → part_of bytes at (m + n) ≡ part_of bytes at m ++ part_of bytes (at + m) n
part_in_two bytes at m n =
    let all = drop at bytes in
    sym (take-append-drop m (take (m + n) all))
    ∙ ap (λ l. l ++ drop m (take (m + n) all)) (take-take m (m + n) all (omega arith))
    ∙ ap (λ l. take m all ++ l) (drop-take m n all ∙ ap (take n) (drop-drop m at bytes))

pub length-part : (bytes : List ℕ) (at n : ℕ) → at + n ≤ length bytes → length (part_of bytes at n) ≡ n
length-part bytes at n inside = length-take-le n (drop at bytes) (omega (arith, length-drop at bytes))

-- ---- the bytes of a file whose blocks are there

-- a block that is there has 1024 bytes
abbrev pub IsFullAt : Image → ℕ → Type 0
IsFullAt x b = (b ≢ 0) × (length (block_at x b) ≡ 1024)

module _ (x : Image) (d : Dinode) (there : (k : ℕ) → k * 1024 < d.size → IsFullAt x (address_in x d k)) where
  data_there : (k : ℕ) → k * 1024 < d.size → data_at x (address_in x d k) ≡ block_at x (address_in x d k)
  data_there k low = rw (ne_eqb (address_in x d k) 0 (there k low).0) refl

  whole_each : AreWhole (λ k. data_at x (address_in x d k)) 0 (blocks_for d.size)
  whole_each k low high =
      let needed : k * 1024 < d.size = omega (arith, high) in
      ap length (data_there k needed) ∙ (there k needed).1

  pub length-bytes_in : length (bytes_in x d) ≡ d.size
  unfolding bytes_in joined
  length-bytes_in =
      let all = length_blocks (λ k. data_at x (address_in x d k)) 0 (blocks_for d.size) whole_each in
      length-take-le d.size (flat_map (λ k. data_at x (address_in x d k)) (range_with_len 0 (blocks_for d.size))) (omega (arith, all))

  -- byte t of its file
  pub byte_at : (t : ℕ) → t < d.size → get_or (bytes_in x d) t 0 ≡ get_or (block_at x (address_in x d (t / 1024))) (t % 1024) 0
  unfolding bytes_in joined
  byte_at t low =
      let f : ℕ → List ℕ = λ k. data_at x (address_in x d k) in
      let z : 0 + t / 1024 ≡ t / 1024 = omega arith in
      get_or-take d.size (flat_map f (range_with_len 0 (blocks_for d.size))) t 0 low
      ∙ get_or_blocks f 0 (blocks_for d.size) t whole_each (omega (arith, low))
      ∙ ap (λ k. get_or (f k) (t % 1024) 0) z
      ∙ ap (λ l. get_or l (t % 1024) 0) (data_there (t / 1024) (omega (arith, low)))

  -- a piece that lies in one block
  pub part_in_block : (at n : ℕ) → at + n ≤ d.size → at % 1024 + n ≤ 1024 →
      part_of (bytes_in x d) at n ≡ part_of (block_at x (address_in x d (at / 1024))) (at % 1024) n
  part_in_block at n inside one = ⊎_elim by_some by_none (cases_lt 0 n)
    where
      block : List ℕ
      block = block_at x (address_in x d (at / 1024))

      by_some : 0 < n → part_of (bytes_in x d) at n ≡ part_of block (at % 1024) n
      by_some some =
          let long = length-part (bytes_in x d) at n (omega (arith, inside, length-bytes_in)) in
          let short = length-part block (at % 1024) n (omega (arith, one, ((there (at / 1024) (omega (arith, some, inside))).1))) in
          ext_get_or 0 (part_of (bytes_in x d) at n) (part_of block (at % 1024) n) (long ∙ sym short)
          (λ j h.
          let low : j < n = omega (arith, h, long) in
          let q : (at + j) / 1024 ≡ at / 1024 = omega (arith, low, one) in
          let r : (at + j) % 1024 ≡ at % 1024 + j = omega (arith, low, one) in
          get_or-take n (drop at (bytes_in x d)) j 0 low ∙ get_or-drop at (bytes_in x d) j 0
          ∙ byte_at (at + j) (omega (arith, low, inside))
          ∙ ap (λ k. get_or (block_at x (address_in x d k)) ((at + j) % 1024) 0) q ∙ ap (λ k. get_or block k 0) r
          ∙ sym (get_or-take n (drop (at % 1024) block) j 0 low ∙ get_or-drop (at % 1024) block j 0))

      by_none : n ≤ 0 → part_of (bytes_in x d) at n ≡ part_of block (at % 1024) n
      by_none none = let z : n ≡ 0 = omega (arith, none) in rw z refl
