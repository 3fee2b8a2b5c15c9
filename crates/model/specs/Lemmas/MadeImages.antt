-- A new image is sound, and has no file.
use Rattle.std.proofs.Common.{◌≡◌, ◌≢◌, ℕ, zero, suc, ◌+◌, ◌-◌, ◌*◌, ◌%◌, ◌<◌, ◌≤◌, Bool, true, false, cond, ◌||◌, eqb, ltb, leb, List, [], ◌∷◌, ◌++◌, length, map, take, replicate, Option, None, refl, sym, ap, ap₂, ◌∙◌, subst, arith}
use Rattle.std.specs.Prelude.{All, IsTrue}
use Rattle.std.specs.List.{range_with_len, flat_map}
use Rattle.model.specs.Common.{addresses_in, block_at, drop-replicate, eq-eqb, File, file_at, file_count, files_of, first_data_block, Form, form_of, get_or-map-range_with_len, get_or-range_with_len, inode_block, inode_bytes_in, inode_count_of, is_block-zero_block, is_inode_count, is_known_magic, is_lawful_super, is_marked, is_size, IsBlock, IsImage, leb-true, length-map-range_with_len, length-range_with_len, ltb-true, magic_at, magic_of, meta_count, ne_eqb, One, places_of, planned_super, pointers_of, Super, super_of, take-replicate, Two}
use Rattle.blocks.specs.Block.{zero_block}
use Rattle.model.specs.Fields.{u16_at, u32_at, has_bit}
use Rattle.model.specs.Layout.{super_in, inode_in, inode_of}
use Rattle.model.specs.Places.{pointers_in}
use Rattle.model.specs.Soundness.{IsSound, IsLawfulInode, IsFilled, place_count}
use Rattle.model.specs.Files.{file_of}
use Rattle.model.specs.Codec.{super_block, first_bits, made_block, made_image}
use Rattle.model.specs.Lemmas.Log.{both_of, zero_header}
use Rattle.model.specs.Lemmas.Bits.{has_bit-first_bits, is_block-first_bits}
use Rattle.model.specs.Lemmas.Codecs.{is_block-super_block, magic-super_block, super_in-super_block}

-- a size and a number of inodes within the limits, as numbers
pub record IsWithin (size n : ℕ) : Type 0 where
  pub some : 2 ≤ n
  pub few : n ≤ 1024
  pub room : meta_count size n < size
  pub small : size ≤ 8191

pub is_within : (size n : ℕ) → is_inode_count n ≡ true → is_size size n ≡ true → IsWithin size n
is_within size n count fits =
    let counts = both_of (leb 2 n) (leb n 1024) count in
    let sizes = both_of (ltb (meta_count size n) size) (leb size 8191) fits in
    record {
      some = leb-true 2 n counts.0;
      few = leb-true n 1024 counts.1;
      room = ltb-true (meta_count size n) size sizes.0;
      small = leb-true size 8191 sizes.1;
    }

-- each form's magic number is known
is_known : (form : Form) → IsTrue (is_known_magic (magic_of form))
is_known One = refl
is_known Two = refl

module _ (form : Form) where
  -- ---- its blocks

  pub length-made_image : (size n : ℕ) → length (made_image form size n) ≡ size
  unfolding made_image
  length-made_image size n = length-map-range_with_len (made_block form size n) 0 size

  pub block_at-made_image : (size n b : ℕ) → b < size → block_at (made_image form size n) b ≡ made_block form size n b
  unfolding made_image
  block_at-made_image size n b h = get_or-map-range_with_len (made_block form size n) 0 size b b [] h (omega arith)

  -- block 1
  pub super-made_image : (size n : ℕ) → 1 < size → block_at (made_image form size n) 1 ≡ super_block form (planned_super size n)
  super-made_image size n h = block_at-made_image size n 1 h

  -- the bitmap
  pub map-made_image : (size n : ℕ) → IsWithin size n →
      block_at (made_image form size n) (planned_super size n).bmapstart ≡ first_bits (meta_count size n)
  map-made_image size n is =
      let at = (planned_super size n).bmapstart in
      block_at-made_image size n at (omega (arith, is.room)) ∙ rw (ne_eqb at 1 (λ e. absurd (omega arith)), eq-eqb at at refl) refl

  -- the others
  pub zero-made_image : (size n b : ℕ) → b < size → b ≢ 1 → b ≢ (planned_super size n).bmapstart → block_at (made_image form size n) b ≡ zero_block
  zero-made_image size n b h other off =
      block_at-made_image size n b h ∙ rw (ne_eqb b 1 other, ne_eqb b (planned_super size n).bmapstart off) refl

  made_by : (b size n : ℕ) (first map : Bool) → IsBlock (cond first (super_block form (planned_super size n)) (cond map (first_bits (meta_count size n)) zero_block))
  made_by b size n true map = is_block-super_block form (planned_super size n)
  made_by b size n false true = is_block-first_bits (meta_count size n)
  made_by b size n false false = is_block-zero_block

  pub is_block-made_block : (size n b : ℕ) → IsBlock (made_block form size n b)
  is_block-made_block size n b = made_by b size n (eqb b 1) (eqb b (planned_super size n).bmapstart)

  pub is_image-made_image : (size n : ℕ) → IsImage (made_image form size n)
  is_image-made_image size n b h =
      subst IsBlock (sym (block_at-made_image size n b (omega (arith, h, length-made_image size n)))) (is_block-made_block size n b)

  -- ---- its superblock

  pub super_of-made_image : (size n : ℕ) → IsWithin size n → super_of (made_image form size n) ≡ planned_super size n
  super_of-made_image size n is =
      let few = is.few in
      let room = is.room in
      let small = is.small in
      ap super_in (super-made_image size n (omega arith))
      ∙ super_in-super_block form (planned_super size n) (omega arith) (omega arith) (omega arith) (omega arith) (omega arith) (omega arith) (omega arith)

  pub magic-made_image : (size n : ℕ) → 1 < size → magic_at (made_image form size n) ≡ magic_of form
  magic-made_image size n h = ap (λ (b : List ℕ). u32_at b 0) (super-made_image size n h) ∙ magic-super_block form (planned_super size n)

  lawful : (size n : ℕ) → is_inode_count n ≡ true → is_size size n ≡ true → is_lawful_super (planned_super size n) size ≡ true
  lawful size n count fits =
      let p = planned_super size n in
      rw (eq-eqb size size refl, count, fits, eq-eqb p.nblocks p.nblocks refl, eq-eqb n n refl, eq-eqb p.bmapstart p.bmapstart refl) refl

  -- ---- its inodes

  free_bytes : (i : ℕ) → inode_bytes_in zero_block i ≡ replicate 64 0
  unfolding zero_block
  free_bytes i =
      let at = i % 16 * 64 in
      let width : at + 64 - at ≡ 64 = omega arith in
      ap₂ (λ (k : ℕ) (l : List ℕ). take k l) width (drop-replicate {X = ℕ} at 1024 0)
      ∙ take-replicate {X = ℕ} 64 (1024 - at) 0 (omega arith)

  free_kind : (inode_in (replicate 64 0)).kind ≡ 0
  unfolding inode_in u16_at
  free_kind = refl

  pub kind-made_image : (size n i : ℕ) → IsWithin size n → i < n → (inode_of (made_image form size n) i).kind ≡ 0
  unfolding inode_of
  kind-made_image size n i is below =
      let room = is.room in
      let free : block_at (made_image form size n) (inode_block i) ≡ zero_block =
      zero-made_image size n (inode_block i) (omega arith) (λ e. absurd (omega arith)) (λ e. absurd (omega arith)) in
      ap (λ (b : List ℕ). (inode_in (inode_bytes_in b i)).kind) free ∙ ap (λ (l : List ℕ). (inode_in l).kind) (free_bytes i) ∙ free_kind

  pub pointers-made_image : (size n i : ℕ) → IsWithin size n → i < n → pointers_of (made_image form size n) i ≡ []
  unfolding pointers_in
  pointers-made_image size n i is below = rw (kind-made_image size n i is below) refl

  flat_map_nil : {X : Type 0} (f : ℕ → List X) (a n : ℕ) → ((i : ℕ) → a ≤ i → i < a + n → f i ≡ []) → flat_map f (range_with_len a n) ≡ []
  flat_map_nil f a zero none = refl
  flat_map_nil {X} f a (suc n) none =
      ap₂ (λ (x y : List X). x ++ y) (none a (omega arith) (omega arith)) (flat_map_nil f (a + 1) n (λ i low high. none i (omega arith) (omega arith)))

  -- no block is at a place
  pub places-made_image : (size n : ℕ) → IsWithin size n → places_of (made_image form size n) ≡ []
  places-made_image size n is =
      let some = is.some in
      let count : inode_count_of (made_image form size n) ≡ n = ap (λ (s : Super). s.ninodes) (super_of-made_image size n is) in
      ap (λ (k : ℕ). flat_map (λ (i : ℕ). addresses_in (pointers_of (made_image form size n) i)) (range_with_len 1 (k - 1))) count
      ∙ flat_map_nil (λ (i : ℕ). addresses_in (pointers_of (made_image form size n) i)) 1 (n - 1)
      (λ i low high. ap addresses_in (pointers-made_image size n i is (omega arith)))

  -- ---- it is sound

  or_false : (b : Bool) → b ≡ (b || false)
  or_false true = refl
  or_false false = refl

  -- its bitmap has the blocks before the data
  pub marked-made_image : (size n b : ℕ) → IsWithin size n → is_marked (made_image form size n) b ≡ ltb b (meta_count size n)
  marked-made_image size n b is =
      let room = is.room in
      let small = is.small in
      ap (λ (s : Super). has_bit (block_at (made_image form size n) s.bmapstart) b) (super_of-made_image size n is)
      ∙ ap (λ (l : List ℕ). has_bit l b) (map-made_image size n is)
      ∙ has_bit-first_bits (meta_count size n) b (omega arith)

  all_numbers : (P : ℕ → Type 0) (count n : ℕ) → count ≡ n → ((i : ℕ) → i < n → P i) → All P (range_with_len 1 (count - 1))
  all_numbers P count n is each k d h =
      let below : k < count - 1 = omega (arith, length-range_with_len 1 (count - 1)) in
      subst P (sym (get_or-range_with_len 1 (count - 1) k d below)) (each (1 + k) (omega arith))

  pub sound-made_image : (size n : ℕ) → is_inode_count n ≡ true → is_size size n ≡ true → IsSound (made_image form size n)
  sound-made_image size n count fits =
      let x = made_image form size n in
      let is = is_within size n count fits in
      let room = is.room in
      let fields = super_of-made_image size n is in
      let numbers : inode_count_of x ≡ n = ap (λ (s : Super). s.ninodes) fields in
      let places = places-made_image size n is in
      let none : (b : ℕ) → place_count x b ≡ 0 = λ b. rw places refl in
      let first : first_data_block x ≡ meta_count size n = ap (λ (s : Super). meta_count s.size s.ninodes) fields in
      record {
        geometry = record {
          magic = rw (magic-made_image size n (omega arith)) (is_known form);
          fields = rw (fields, length-made_image size n) (lawful size n count fits);
        };
        empty_log = ap (λ (b : List ℕ). u32_at b 0) (zero-made_image size n 2 (omega arith) (λ e. absurd (omega arith)) (λ e. absurd (omega arith))) ∙ zero_header;
        inodes = all_numbers (λ (i : ℕ). IsLawfulInode (form_of x) (inode_of x i)) (inode_count_of x) n numbers (λ i below. let free = kind-made_image size n i is below in record {
          kind = omega arith;
          size = λ some. absurd (some free);
        });
        filled = all_numbers (λ (i : ℕ). All IsFilled (pointers_of x i)) (inode_count_of x) n numbers (λ i below. rw (pointers-made_image size n i is below) (λ k d h. absurd (omega arith)));
        in_data = rw places (λ k d h. absurd (omega arith));
        once = λ b. let zero_places = none b in omega arith;
        marked = λ b h. marked-made_image size n b is ∙ ap (λ (m : ℕ). ltb b m) (sym first) ∙ or_false (ltb b (first_data_block x))
            ∙ ap (λ (k : ℕ). ltb b (first_data_block x) || ltb 0 k) (sym (none b));
      }

  -- ---- it has no file

  either : {A : Type 0} (b : Bool) (a : A) → cond b a a ≡ a
  either true a = refl
  either false a = refl

  no_file : (size n i : ℕ) → IsWithin size n → i < n → file_at (made_image form size n) i ≡ None
  unfolding file_of
  no_file size n i is below =
      rw (kind-made_image size n i is below) (either (eqb i 0) None)

  files_from : (f : ℕ → Option File) (a n : ℕ) → ((i : ℕ) → a ≤ i → i < a + n → f i ≡ None) → map f (range_with_len a n) ≡ replicate n None
  files_from f a zero none = refl
  files_from f a (suc n) none =
      ap₂ (λ (x : Option File) (xs : List (Option File)). x ∷ xs) (none a (omega arith) (omega arith)) (files_from f (a + 1) n (λ i low high. none i (omega arith) (omega arith)))

  pub files-made_image : (size n : ℕ) → is_inode_count n ≡ true → is_size size n ≡ true → files_of (made_image form size n) ≡ replicate n None
  files-made_image size n count fits =
      let is = is_within size n count fits in
      let numbers : inode_count_of (made_image form size n) ≡ n = ap (λ (s : Super). s.ninodes) (super_of-made_image size n is) in
      ap (λ (k : ℕ). map (file_at (made_image form size n)) (range_with_len 0 k)) numbers
      ∙ files_from (file_at (made_image form size n)) 0 n (λ i low high. no_file size n i is (omega arith))

  none_counted : (n : ℕ) → file_count (replicate n None) ≡ 0
  none_counted zero = refl
  none_counted (suc n) = none_counted n

  pub file_count-made_image : (size n : ℕ) → is_inode_count n ≡ true → is_size size n ≡ true → file_count (files_of (made_image form size n)) ≡ 0
  file_count-made_image size n count fits = ap file_count (files-made_image size n count fits) ∙ none_counted n
