-- What stays true in an image that agrees with a loose one at its data blocks.
use Rattle.std.proofs.Common.{◌≡◌, ◌≢◌, ℕ, ◌+◌, ◌-◌, ◌<◌, ◌≤◌, Bool, true, ◌||◌, cond, eqb, ltb, List, [], ◌∷◌, length, Option, None, refl, sym, ap, subst, ◌∙◌, arith}
use Rattle.std.specs.List.{flat_map, list_all, range_with_len, AllByRecursion}
use Rattle.in_flight.specs.Common.{address_agree, addresses_in, Agrees, AgreesFor, block_at, count_flat, count_of, Dinode, eq-eqb, File, file_agree, Files, first_data_block, Fits, flat_map_range_same, form_agree, has_bit, Image, inode_count_of, is_known_magic, is_lawful_super, is_marked, IsAtRest, IsFit, IsLawfulGeometry, IsLoose, LiesInData, meta_count, places_of, pointers_agree, pointers_in, pointers_of, Super, super_in, super_of, u32_at}
use Rattle.model.specs.Files.{file_of}
use Rattle.model.specs.Layout.{inode_of}

-- ---- numbers that stand in a list

one_counted : (a : ℕ) (xs : List ℕ) → 1 ≤ count_of a (a ∷ xs)
one_counted a xs = let one : count_of a (a ∷ xs) ≡ 1 + count_of a xs = rw (eq-eqb a a refl) refl in omega arith

more_counted : (a b : ℕ) (xs : List ℕ) → count_of b xs ≤ count_of b (a ∷ xs)
more_counted a b xs = let sum : count_of b (a ∷ xs) ≡ cond (eqb a b) 1 0 + count_of b xs = refl in omega arith

pub list_all-counted : (test : ℕ → Bool) (xs : List ℕ) → ((b : ℕ) → 1 ≤ count_of b xs → test b ≡ true) → list_all test xs ≡ true
list_all-counted test [] each = refl
list_all-counted test (a ∷ xs) each =
    rw (each a (one_counted a xs))
    (list_all-counted test xs (λ b some. each b (let more = more_counted a b xs in omega arith)))

pub AllByRecursion-counted : (P : ℕ → Type 0) (xs : List ℕ) → ((a : ℕ) → 1 ≤ count_of a xs → P a) → AllByRecursion P xs
AllByRecursion-counted P [] each = tt
AllByRecursion-counted P (a ∷ xs) each = (
  each a (one_counted a xs),
  AllByRecursion-counted P xs (λ b some. each b (let more = more_counted a b xs in omega arith)),
)

-- ---- what an inode names is owned, and lies among the data

pub named_in_data : (m : Files) (x : Image) (i b : ℕ) → Fits m x → 1 ≤ i → i < inode_count_of x →
    1 ≤ count_of b (addresses_in (pointers_of x i)) → LiesInData x b
named_in_data m x i b f low high some =
    let few : count_of b (addresses_in (pointers_of x i)) ≤ count_of b (places_of x) =
    count_flat (λ j. addresses_in (pointers_of x j)) b 1 (inode_count_of x - 1) i low (omega arith) in
    f.loose.in_data b (λ none. omega arith)

-- images that agree at a test's blocks, the data and the superblock among them
pub record AgreesAtData (test : ℕ → Bool) (x y : Image) : Type 0 where
  pub agree : Agrees test x y
  pub one : test 1 ≡ true
  pub from_data : (b : ℕ) → first_data_block x ≤ b → test b ≡ true

pub agrees_for : (test : ℕ → Bool) (m : Files) (x y : Image) (i : ℕ) → Fits m x → AgreesAtData test x y → 1 ≤ i →
    i < inode_count_of x → AgreesFor test x y (inode_of x i)
agrees_for test m x y i f h low high = record {
  agree = h.agree;
  one = h.one;
  names = list_all-counted test (addresses_in (pointers_of x i))
      (λ b some. h.from_data b (named_in_data m x i b f low high some).0);
}

-- ---- one number

pub fit_alike : (test : ℕ → Bool) (x y : Image) (d : Dinode) → AgreesFor test x y d → IsFit x d → IsFit y d
fit_alike test x y d h fit = record {
  fields = fit.fields;
  used = fit.used;
  kind = fit.kind;
  size = rw (form_agree test x y h.agree h.one) fit.size;
  whole = λ k low z. fit.whole k low (sym (address_agree test x y d h fit.used k).0 ∙ z);
}

pub rest_alike : (test : ℕ → Bool) (x y : Image) (i : ℕ) (file : Option File) → inode_of y i ≡ inode_of x i →
    AgreesFor test x y (inode_of x i) → IsAtRest x i file → IsAtRest y i file
rest_alike test x y i file same h rest = record {
  same = ap (λ (o : Option File). cond (eqb i 0) None o) (ap (file_of y) same ∙ file_agree test x y (inode_of x i) h) ∙ rest.same;
  fit = λ used.
      let was : (inode_of x i).kind ≢ 0 = λ free. used (ap (λ (d : Dinode). d.kind) same ∙ free) in
      subst (λ (d : Dinode). IsFit y d) (sym same) (fit_alike test x y (inode_of x i) h (rest.fit was));
}

pub addresses_alike : (test : ℕ → Bool) (x y : Image) (i : ℕ) → inode_of y i ≡ inode_of x i → AgreesFor test x y (inode_of x i) →
    addresses_in (pointers_of y i) ≡ addresses_in (pointers_of x i)
addresses_alike test x y i same h = ap addresses_in (ap (pointers_in y) same ∙ pointers_agree test x y (inode_of x i) h)

-- ---- the superblock and the bitmap

pub record SameSuperAndMap (x y : Image) : Type 0 where
  pub size : length y ≡ length x
  pub super : block_at y 1 ≡ block_at x 1
  pub map : block_at y (super_of x).bmapstart ≡ block_at x (super_of x).bmapstart

pub super_same : (x y : Image) → SameSuperAndMap x y → super_of y ≡ super_of x
super_same x y h = ap super_in h.super

pub geometry_same : (x y : Image) → SameSuperAndMap x y → IsLawfulGeometry x → IsLawfulGeometry y
geometry_same x y h g = record {
  magic = ap (λ b. is_known_magic (u32_at b 0)) h.super ∙ g.magic;
  fields = ap (λ s. is_lawful_super s (length y)) (super_same x y h) ∙ ap (is_lawful_super (super_of x)) h.size ∙ g.fields;
}

pub marks_same : (x y : Image) (b : ℕ) → SameSuperAndMap x y → is_marked y b ≡ is_marked x b
marks_same x y b h =
    ap (λ (s : Super). has_bit (block_at y s.bmapstart) b) (super_same x y h) ∙ ap (λ block. has_bit block b) h.map

pub loose_same : (x y : Image) (owned : List ℕ) → SameSuperAndMap x y → IsLoose x owned → IsLoose y owned
loose_same x y owned h loose =
    let size = h.size in
    let start : first_data_block y ≡ first_data_block x
    = ap (λ (s : Super). meta_count s.size s.ninodes) (super_same x y h) in
    record {
      in_data = λ b some. let there = loose.in_data b some in (omega arith, omega arith);
      once = loose.once;
      marked = λ b low. marks_same x y b h ∙ loose.marked b (omega arith)
          ∙ sym (ap (λ s. ltb b s || ltb 0 (count_of b owned)) start);
    }

-- the places, by their numbers
pub places_same : (x y : Image) → SameSuperAndMap x y →
    ((i : ℕ) → 1 ≤ i → i < inode_count_of x → addresses_in (pointers_of y i) ≡ addresses_in (pointers_of x i)) →
    places_of y ≡ places_of x
places_same x y h each =
    ap (λ (s : Super). flat_map (λ i. addresses_in (pointers_of y i)) (range_with_len 1 (s.ninodes - 1))) (super_same x y h)
    ∙ flat_map_range_same (λ i. addresses_in (pointers_of x i)) (λ i. addresses_in (pointers_of y i)) 1 (inode_count_of x - 1)
    (λ i low high. each i low (omega arith))
