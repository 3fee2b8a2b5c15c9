-- The files of a sound image, and those of clean numbers of any, may be read.
use Rattle.std.proofs.Common.{◌≡◌, ◌≢◌, ℕ, zero, suc, ◌+◌, ◌-◌, ◌*◌, ◌/◌, ◌%◌, ◌<◌, ◌≤◌, true, not, eqb, ltb, List, [], ◌∷◌, length, get_or, Option, Some, None, refl, ap, sym, subst, ◌∙◌, ⊎_elim, arith}
use Rattle.std.specs.Prelude.{All, is_none}
use Rattle.std.specs.List.{flat_map, list_all, AllByRecursion}
use Rattle.std.proofs.lemmas.Bool.{and_parts, both_ways, eq-eqb, ltb-false, not-true}
use Rattle.std.proofs.lemmas.List.Elements.{recursion_from_All}
use Rattle.offline.specs.Common.{address_along, address_under, addresses_in, addresses_in-append, BadSize, BadType, block_at, cases_eq, cases_lt, depths, Dinode, early_fault, few_homes, filled_whole, Form, form_of, geometry_fault, get_or_past, greatest_size, homes_of, Image, inode_block, inode_count_of, inode_in_data, inode_of, is_lawful_log, IsBlock, IsImage, IsInData, lawful_geometry, le-ltb, LeadsAlong, LeadsUnder, length-recovered, LiesBehindLog, long_geometry, lt-ltb, MayReadFile, names_used, ne_eqb, or_else, place_among, place_below, Pointer, pointer_fault, pointers_named, pointers_of, reach, recovered, source_at, Super, super_of-recovered, under_zero, verdict_sound, words_of}
use Rattle.model.specs.Names.{names_under, names_along}
use Rattle.model.specs.Places.{address_in, pointers_in}
use Rattle.model.specs.Soundness.{IsFilled, IsLawfulInode}
use Rattle.model.specs.Lemmas.Counts.{AllByRecursion-append, AllByRecursion-parts, All-range_at, flat_at, all_weaker}
use Rattle.model.specs.Lemmas.Inodes.{is_dinode-inode_of}
use Rattle.model.specs.Lemmas.Soundness.{faultless_pointers}
use Rattle.model.specs.Lemmas.Super.{guard_none, verdict_none}
use Rattle.model.specs.Lemmas.Words.{length-words_of-block}
use Rattle.offline.specs.Clean.{is_clean_inode, is_clean_pointer}
use Rattle.offline.specs.Laws.{CheckedFilesMayBeRead, CleanFilesAreWhole}
use Rattle.offline.proofs.CheckLemmas.{recovered_source}

-- ---- blocks that recovery leaves

source_inside : (x : Image) (b : ℕ) (place : Option ℕ) → place_among (homes_of x) b ≡ place → 33 ≤ length x → b < length x → source_at place b < length x
source_inside x b None is long inside = inside
source_inside x b (Some k) is long inside =
    omega (arith, (place_below (homes_of x) 0 b k is), (few_homes x), long)

-- behind the log they are blocks
pub block_behind : (x : Image) (b : ℕ) → IsImage x → 33 ≤ length x → 33 ≤ b → b < length x → IsBlock (block_at (recovered x) b)
block_behind x b is long behind inside =
    subst IsBlock (sym (recovered_source x b (λ e. omega (arith, behind, e)) inside))
    (is (source_at (place_among (homes_of x) b) b) (source_inside x b (place_among (homes_of x) b) refl long inside))

-- ---- what an inode names leads on to what it names

leads_none : (y : Image) (depth k : ℕ) → LeadsUnder y depth k 0
leads_none y zero k = tt
leads_none y (suc depth) k = λ some. absurd (some refl)

under_leads : (y : Image) (depth k address : ℕ) → AllByRecursion (LiesBehindLog y) (names_under y depth address) → LeadsUnder y depth k address
under_leads y zero k address all = tt
under_leads y (suc depth) k address all = λ some.
    let words = words_of (block_at y address) in
    let e = k / reach depth in
    let parts : AllByRecursion (LiesBehindLog y) (address ∷ flat_map (λ a. names_under y depth a) words) = rw (ne_eqb address 0 some) at all in (
      parts.0,
      ⊎_elim
          (λ (low : e < length words).
          under_leads y depth (k % reach depth) (get_or words e 0) (flat_at (LiesBehindLog y) (λ a. names_under y depth a) words e parts.1 low))
          (λ (past : length words ≤ e). rw (get_or_past words e 0 past) (leads_none y depth (k % reach depth)))
          (cases_lt e (length words)),
    )

along_leads : (y : Image) (k : ℕ) (ds addresses : List ℕ) → AllByRecursion (LiesBehindLog y) (names_along y ds addresses) → LeadsAlong y k ds addresses
along_leads y k [] addresses all = tt
along_leads y k (depth ∷ ds) [] all = tt
along_leads y k (depth ∷ ds) (a ∷ addresses) all =
    let parts = AllByRecursion-parts (LiesBehindLog y) (names_under y depth a) (names_along y ds addresses) all in
    ⊎_elim
    (λ (low : k < reach depth). rw (lt-ltb k (reach depth) low) (under_leads y depth k a parts.0))
    (λ (high : reach depth ≤ k). rw (le-ltb k (reach depth) high) (along_leads y (k - reach depth) ds addresses parts.1))
    (cases_lt k (reach depth))

-- ---- the block itself is one that the inode names

under_names : (P : ℕ → Type 0) (y : Image) (depth k address : ℕ) → AllByRecursion P (names_under y depth address) →
    address_under y depth k address ≢ 0 → P (address_under y depth k address)
under_names P y zero k address all some = (let one : AllByRecursion P (address ∷ []) = rw (ne_eqb address 0 some) at all in one.0)
under_names P y (suc depth) k address all some =
    ⊎_elim
    (λ (z : address ≡ 0). absurd (some (rw z refl)))
    (λ (there : address ≢ 0).
    let no = ne_eqb address 0 there in
    let words = words_of (block_at y address) in
    let e = k / reach depth in
    let parts : AllByRecursion P (address ∷ flat_map (λ a. names_under y depth a) words) = rw no at all in
    let next : address_under y depth (k % reach depth) (get_or words e 0) ≢ 0 = rw no at some in
    rw no
    (⊎_elim
    (λ (low : e < length words).
    under_names P y depth (k % reach depth) (get_or words e 0) (flat_at P (λ a. names_under y depth a) words e parts.1 low) next)
    (λ (past : length words ≤ e).
    absurd (next (rw (get_or_past words e 0 past) (under_zero y depth (k % reach depth)))))
    (cases_lt e (length words))))
    (cases_eq address 0)

along_names : (P : ℕ → Type 0) (y : Image) (k : ℕ) (ds addresses : List ℕ) → AllByRecursion P (names_along y ds addresses) →
    address_along y k ds addresses ≢ 0 → P (address_along y k ds addresses)
along_names P y k [] addresses all some = absurd (some refl)
along_names P y k (depth ∷ ds) [] all some = absurd (some refl)
along_names P y k (depth ∷ ds) (a ∷ addresses) all some =
    let parts = AllByRecursion-parts P (names_under y depth a) (names_along y ds addresses) all in
    ⊎_elim
    (λ (low : k < reach depth).
    let lt = lt-ltb k (reach depth) low in rw lt (under_names P y depth k a parts.0 (rw lt at some)))
    (λ (high : reach depth ≤ k).
    let le = le-ltb k (reach depth) high in rw le (along_names P y (k - reach depth) ds addresses parts.1 (rw le at some)))
    (cases_lt k (reach depth))

-- ---- a used inode whose own pointers have no fault

-- of an inode's pointers: what its size needs is there, and each is to a data block with its bit set
record AreLawful (y : Image) (pointers : List Pointer) : Type 0 where
  filled : AllByRecursion IsFilled pointers
  in_data : AllByRecursion (IsInData y) (addresses_in pointers)

module _ (x : Image) (i : ℕ) (is : IsImage x) (geometry : geometry_fault x ≡ None) (lawful : is_lawful_log x ≡ true) (high : i < inode_count_of x) (used : (inode_of (recovered x) i).kind ≢ 0)
    (few : (inode_of (recovered x) i).size ≤ greatest_size (form_of (recovered x))) (own : AreLawful (recovered x) (pointers_of (recovered x) i)) where
  abbrev y : Image
  y = recovered x

  abbrev d : Dinode
  d = inode_of y i

  same : length y ≡ length x
  same = length-recovered x

  long : 33 ≤ length x
  long =
      let f = lawful_geometry x geometry in
      let room = f.room in
      let size = f.size in
      omega arith

  full : (b : ℕ) → 33 ≤ b → b < length y → IsBlock (block_at y b)
  full b behind inside = block_behind x b is long behind (omega (arith, inside, same))

  behind : AllByRecursion (LiesBehindLog y) (names_along y (depths (form_of y)) d.addrs)
  behind =
      subst (λ (l : List ℕ). AllByRecursion (LiesBehindLog y) l) (pointers_named y d ∙ names_used y d used)
      (all_weaker (IsInData y) (LiesBehindLog y) (addresses_in (pointers_of y i)) (λ a there. (let from = there.0 in omega (arith, from), there.1)) own.in_data)

  count : length d.addrs ≡ 13
  count =
      let f = lawful_geometry x geometry in
      let room = f.room in
      let size = f.size in
      (is_dinode-inode_of y i (full (inode_block i) (omega arith) (omega (arith, high, size, room, same)))).count

  needed : (k : ℕ) → k * 1024 < d.size → address_in y d k ≢ 0
  needed =
      let words = all_weaker (IsInData y) (λ a. length (words_of (block_at y a)) ≡ 256) (addresses_in (pointers_of y i))
      (λ a there. length-words_of-block (block_at y a) (full a (let from = there.0 in omega (arith, from)) there.1).size) own.in_data in
      filled_whole y d used count few own.filled words

  may_read : MayReadFile y d
  unfolding address_in
  may_read = record {
    ways = λ k. record { count = count; leads = along_leads y k (depths (form_of y)) d.addrs behind };
    blocks = λ k need. along_names (LiesBehindLog y) y k (depths (form_of y)) d.addrs behind (needed k need);
  }

-- ---- of an image that recovery leaves sound

pub checked_files_may_be_read : CheckedFilesMayBeRead
checked_files_may_be_read x i is none low high used =
    let y = recovered x in
    let sound = verdict_sound x none in
    let parts = verdict_none x none in
    let long = long_geometry x sound.0 in
    let below : i < inode_count_of y = omega (arith, high, (ap (λ (s : Super). s.ninodes) (super_of-recovered x sound.1 (omega (arith, long))))) in
    let n = inode_count_of y - 1 in
    let inside : i < 1 + n = omega (arith, low, below) in
    may_read x i is parts.0 parts.1 high used
    ((All-range_at (λ j. IsLawfulInode (form_of y) (inode_of y j)) 1 n i sound.2.inodes low inside).size used)
    (record {
      filled = recursion_from_All IsFilled (pointers_of y i) (All-range_at (λ j. All IsFilled (pointers_of y j)) 1 n i sound.2.filled low inside);
      in_data = inode_in_data y i sound.2 low below;
    })

-- ---- of a clean number

none_there : {A : Type 0} (o : Option A) → is_none o ≡ true → o ≡ None
none_there None h = refl
none_there (Some a) h = absurd (cc h)

clean_pointers : (y : Image) (i : ℕ) (pointers : List Pointer) → list_all (is_clean_pointer y i) pointers ≡ true → AreLawful y pointers
clean_pointers y i [] clean = record { filled = tt; in_data = tt }
clean_pointers y i (p ∷ pointers) clean =
    let both = and_parts (is_clean_pointer y i p) (list_all (is_clean_pointer y i) pointers) clean in
    let own = (and_parts (is_none (pointer_fault y i [] p)) _ both.0).0 in
    let one = faultless_pointers y i [] (p ∷ []) (ap (λ o. or_else o None) (none_there (pointer_fault y i [] p) own)) in
    let rest = clean_pointers y i pointers both.1 in
    record {
      filled = (one.filled.0, rest.filled);
      in_data = subst (AllByRecursion (IsInData y)) (sym (addresses_in-append (p ∷ []) pointers))
          (AllByRecursion-append (IsInData y) (addresses_in (p ∷ [])) (addresses_in pointers) one.in_data rest.in_data);
    }

-- what is tested of a clean inode
record IsTested (y : Image) (i : ℕ) (d : Dinode) : Type 0 where
  used : d.kind ≢ 0
  early : early_fault i d (form_of y) ≡ None
  pointers : list_all (is_clean_pointer y i) (pointers_in y d) ≡ true

tested_where_clean : (y : Image) (i : ℕ) (d : Dinode) → is_clean_inode y i d ≡ true → IsTested y i d
unfolding is_clean_inode
tested_where_clean y i d clean =
    let parts = and_parts (not (eqb d.kind 0)) _ clean in
    let others = and_parts (is_none (early_fault i d (form_of y))) (list_all (is_clean_pointer y i) (pointers_in y d)) parts.1 in
    record {
      used = λ free. both_ways (eqb d.kind 0) (not-true (eqb d.kind 0) parts.0) (eq-eqb d.kind 0 free);
      early = none_there (early_fault i d (form_of y)) others.0;
      pointers = others.1;
    }

-- it has a type and a size that there are
lawful_where_early : (i : ℕ) (d : Dinode) (form : Form) → early_fault i d form ≡ None → (d.kind ≤ 3) × (d.size ≤ greatest_size form)
lawful_where_early i d form none =
    let kind = guard_none (ltb 3 d.kind) (BadType i) _ none in (
      ltb-false 3 d.kind kind.0,
      ltb-false (greatest_size form) d.size (guard_none (ltb (greatest_size form) d.size) (BadSize i) None kind.1).0,
    )

pub clean_files_are_whole : CleanFilesAreWhole
clean_files_are_whole x i is geometry lawful high clean =
    let y = recovered x in
    let d = inode_of y i in
    let tested = tested_where_clean y i d clean in
    let early = lawful_where_early i d (form_of y) tested.early in
    record {
      used = tested.used;
      kind = early.0;
      size = early.1;
      reads = may_read x i is geometry lawful high tested.used early.1 (clean_pointers y i (pointers_of y i) tested.pointers);
    }
