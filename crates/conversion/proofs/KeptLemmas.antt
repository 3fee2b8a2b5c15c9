-- A moved image has the files of the other, where the blocks that its numbers name are data blocks, and
-- no block of data is a block of addresses.
use Rattle.std.proofs.Common.{◌≡◌, ◌≢◌, ℕ, zero, suc, ◌+◌, ◌-◌, ◌^◌, ◌<◌, ◌≤◌, min, Bool, true, false, cond, not, ◌||◌, eqb, map, get_or, None, refl, sym, ap, ◌∙◌, ⊎_elim, arith}
use Rattle.std.specs.List.{list_any, range_with_len}
use Rattle.blocks.specs.Disk.{block_at, Image, IsImage}
use Rattle.model.specs.Common.{cases_eq, data_at, eq-eqb, eqb-false, eqb-true, form_of, inode_count_of, ne_eqb, not-true, super_of, words_of}
use Rattle.model.specs.declared.types.image.Dinode.{Dinode}
use Rattle.model.specs.declared.types.image.Form.TheVariants.{One}
use Rattle.model.specs.declared.types.image.Super.{Super}
use Rattle.model.specs.Files.{file_of}
use Rattle.model.specs.Lemmas.Log.{both_of}
use Rattle.model.specs.Places.{address_in}
use Rattle.conversion.specs.Common.{is_node, is_node_in, meta_with, moved, moved_data, moved_inode, older_file, older_files, source_in}
use Rattle.conversion.specs.Moving.{moved_image, moved_words}
use Rattle.conversion.specs.Older.{older_inode}
use Rattle.conversion.proofs.AddressLemmas.{address_moved, file_moved, IsMovedNode}
use Rattle.conversion.proofs.BlockLemmas.{words_of-moved}
use Rattle.conversion.proofs.FitLemmas.{IsFit}
use Rattle.conversion.proofs.PlacedLemmas.{IsUsedOf}
use Rattle.conversion.proofs.MovedLemmas.{data-moved, fields-moved, form_one, inode-moved, magic-moved}

-- ---- ranges

any_range : (test : ℕ → Bool) (a n : ℕ) → list_any test (range_with_len a n) ≡ true → (i : ℕ) × (a ≤ i) × (i < a + n) × (test i ≡ true)
any_range test a zero h = absurd (cc h)
any_range test a (suc n) h = by_first (any_range test (a + 1) n) (test a) refl h
  where
    by_first : (list_any test (range_with_len (a + 1) n) ≡ true → (i : ℕ) × (a + 1 ≤ i) × (i < a + 1 + n) × (test i ≡ true)) →
        (v : Bool) → test a ≡ v → (v || list_any test (range_with_len (a + 1) n)) ≡ true → (i : ℕ) × (a ≤ i) × (i < a + suc n) × (test i ≡ true)
    by_first rest true is g = (a, omega arith, omega arith, is)
    by_first rest false is g =
        let more = rest g in
        (more.0, omega (arith, more.1), omega (arith, more.2), more.3)

any_at : (test : ℕ → Bool) (a n i : ℕ) → a ≤ i → i < a + n → test i ≡ true → list_any test (range_with_len a n) ≡ true
any_at test a zero i low high is = absurd (omega (arith, low, high))
any_at test a (suc n) i low high is =
    ⊎_elim
    (λ (e : a ≡ i). let here : test a ≡ true = ap test e ∙ is in rw here refl)
    (λ (ne : a ≢ i). let more = any_at test (a + 1) n i (omega (arith, low, ne)) (omega (arith, high)) is in by_first (test a) more)
    (cases_eq a i)
  where
    by_first : (v : Bool) → list_any test (range_with_len (a + 1) n) ≡ true → (v || list_any test (range_with_len (a + 1) n)) ≡ true
    by_first true more = refl
    by_first false more = more

pub map_range : {A : Type 0} (f g : ℕ → A) (a n : ℕ) → ((i : ℕ) → a ≤ i → i < a + n → f i ≡ g i) → map f (range_with_len a n) ≡ map g (range_with_len a n)
map_range f g a zero same = refl
map_range f g a (suc n) same =
    rw (same a (omega arith) (omega arith), map_range f g (a + 1) n (λ i low high. same i (omega (arith, low)) (omega (arith, high)))) refl

-- ---- a free inode

file_free : (x : Image) (d : Dinode) → d.kind ≡ 0 → file_of x d ≡ None
unfolding file_of
file_free x d free = rw free refl

-- the bytes of a block that is there
data_there : (x : Image) (b : ℕ) → b ≢ 0 → data_at x b ≡ block_at x b
data_there x b there = rw (ne_eqb b 0 there) refl

-- the block of addresses of a used inode is told
node_told : (d : Dinode) (b : ℕ) → d.kind ≢ 0 → get_or d.addrs 12 0 ≡ b → is_node_in d b ≡ true
node_told d b used is = rw (ne_eqb d.kind 0 used, eq-eqb (get_or d.addrs 12 0) b is) refl

told_node : (d : Dinode) (b : ℕ) → is_node_in d b ≡ true → (d.kind ≢ 0) × (get_or d.addrs 12 0 ≡ b)
told_node d b told =
    let parts = both_of (not (eqb d.kind 0)) (eqb (get_or d.addrs 12 0) b) told in
    (eqb-false d.kind 0 (not-true (eqb d.kind 0) parts.0), eqb-true (get_or d.addrs 12 0) b parts.1)

-- a used number of an image with any log
abbrev pub IsUsed : Image → ℕ → Type 0
IsUsed x i = IsUsedOf (older_inode x) (inode_count_of x) i

-- a data block of such an image
pub record IsWithin (x : Image) (a : ℕ) : Type 0 where
  pub high : meta_with (super_of x).nlog (super_of x).size (super_of x).ninodes ≤ a
  pub low : a < (super_of x).size

-- the block of addresses of a number
abbrev pub node_of : Image → ℕ → ℕ
node_of x i = get_or (older_inode x i).addrs 12 0

module _ (x : Image) (to size : ℕ) (is : IsImage x) (fit : IsFit x to size) where
  abbrev y : Image
  y = moved_image x to size

  abbrev s : Super
  s = super_of x

  abbrev from : ℕ
  from = (super_of x).nlog

  abbrev old : ℕ → Dinode
  old i = older_inode x i

  count : inode_count_of y ≡ s.ninodes
  count = ap (λ (t : Super). t.ninodes) (fields-moved x to size fit)

  one_x : form_of x ≡ One
  one_x = form_one x fit.magic

  one_y : form_of y ≡ One
  one_y = form_one y (magic-moved x to size fit)

  -- where a data block went
  pub record CameOver (a : ℕ) : Type 0 where
    pub place : moved from to a + from ≡ a + to
    pub there : moved from to a ≢ 0
    pub block : block_at y (moved from to a) ≡ moved_data x to a

  pub came_over : (a : ℕ) → IsWithin x a → CameOver a
  came_over a within =
      let some : a ≢ 0 = λ e. absurd (omega (arith, e, within.high)) in
      let is : moved from to a ≡ min (a + to) (2 ^ 32 - 1) - from = rw (ne_eqb a 0 some) refl in
      let place : moved from to a + from ≡ a + to = omega (arith, is, within.high, within.low, fit.small, fit.to_most) in
      let b = moved from to a in
      let source : source_in s to b ≡ a = omega (arith, place) in
      record {
        place = place;
        there = λ e. absurd (omega (arith, e, place, within.high));
        block = data-moved x to size fit b (omega (arith, place, within.high)) (omega (arith, place, within.low, fit.least, fit.from_most))
            (omega (arith, source, within.low)) ∙ ap (moved_data x to) source;
      }

  node_marked : (i : ℕ) → IsUsed x i → is_node x (node_of x i) ≡ true
  node_marked i u =
      any_at (λ j. is_node_in (old j) (node_of x i)) 1 (s.ninodes - 1) i u.some (omega (arith, u.some, u.low)) (node_told (old i) (node_of x i) u.used refl)

  module _ (node_range : (i : ℕ) → IsUsed x i → node_of x i ≢ 0 → IsWithin x (node_of x i)) where
    -- the block of addresses of a used number was moved
    pub node_moved : (i : ℕ) → IsUsed x i → node_of x i ≢ 0 → IsMovedNode x y from to (node_of x i)
    node_moved i u some =
        let came = came_over (node_of x i) (node_range i u some) in (
          came.there,
          ap words_of (came.block ∙ ap (λ (v : Bool). cond v (moved_words from to (block_at x (node_of x i))) (block_at x (node_of x i))) (node_marked i u))
              ∙ words_of-moved from to (block_at x (node_of x i)),
        )

    -- block k of its file was moved
    pub address_over : (i k : ℕ) → IsUsed x i → address_in y (moved_inode from to (old i)) k ≡ moved from to (address_in x (old i) k)
    address_over i k u = address_moved x y from to (old i) k one_x one_y (node_moved i u)

    module _ (data_range : (i k : ℕ) → IsUsed x i → address_in x (old i) k ≢ 0 → IsWithin x (address_in x (old i) k))
        (apart : (i j k a : ℕ) → IsUsed x i → IsUsed x j → a ≢ 0 → address_in x (old i) k ≡ a → node_of x j ≡ a → ⊥) where
      not_node : (i k a : ℕ) → IsUsed x i → a ≢ 0 → address_in x (old i) k ≡ a → is_node x a ≡ false
      not_node i k a u some leads = by_test (is_node x a) refl
        where
          by_test : (v : Bool) → is_node x a ≡ v → v ≡ false
          by_test false e = refl
          by_test true e =
              let one = any_range (λ j. is_node_in (old j) a) 1 (s.ninodes - 1) e in
              let j = one.0 in
              let told = told_node (old j) a one.3 in
              let v : IsUsed x j = record { some = one.1; low = omega (arith, one.2, fit.some); used = told.0 } in
              absurd (apart i j k a u v some leads told.1)

      data_over : (i k : ℕ) → IsUsed x i → data_at y (moved from to (address_in x (old i) k)) ≡ data_at x (address_in x (old i) k)
      data_over i k u = ⊎_elim none some (cases_eq (address_in x (old i) k) 0)
        where
          a : ℕ
          a = address_in x (old i) k

          none : address_in x (old i) k ≡ 0 → data_at y (moved from to (address_in x (old i) k)) ≡ data_at x (address_in x (old i) k)
          none e = ap (λ (c : ℕ). data_at y (moved from to c)) e ∙ sym (ap (data_at x) e)

          some : address_in x (old i) k ≢ 0 → data_at y (moved from to (address_in x (old i) k)) ≡ data_at x (address_in x (old i) k)
          some there =
              let came = came_over a (data_range i k u there) in
              data_there y (moved from to a) came.there ∙ came.block
              ∙ ap (λ (v : Bool). cond v (moved_words from to (block_at x a)) (block_at x a)) (not_node i k a u there refl)
              ∙ sym (data_there x a there)

      file_kept : (i : ℕ) → i < s.ninodes → older_file y i ≡ older_file x i
      file_kept i low =
          ⊎_elim
          (λ (e : i ≡ 0). let zero_number = eq-eqb i 0 e in rw zero_number refl)
          (λ (ne : i ≢ 0).
          let number = ne_eqb i 0 ne in
          rw number
          (ap (file_of y) (inode-moved x to size fit is i low)
          ∙ ⊎_elim
          (λ (free : (old i).kind ≡ 0). file_free y (moved_inode from to (old i)) free ∙ sym (file_free x (old i) free))
          (λ (used : (old i).kind ≢ 0).
          let u : IsUsed x i = record { some = omega (arith, ne); low = low; used = used } in
          file_moved x y from to (old i) one_x one_y (node_moved i u) (λ k used. data_over i k u))
          (cases_eq (old i).kind 0)))
          (cases_eq i 0)

      pub files_kept : older_files y ≡ older_files x
      files_kept =
          ap (λ (n : ℕ). map (older_file y) (range_with_len 0 n)) count
          ∙ map_range (older_file y) (older_file x) 0 s.ninodes (λ i low high. file_kept i (omega (arith, high)))
