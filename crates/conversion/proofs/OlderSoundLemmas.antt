-- A sound image stays sound with a log of another length.
use Rattle.std.proofs.Common.{◌≡◌, ◌≢◌, ℕ, zero, suc, ◌+◌, ◌-◌, ◌<◌, ◌≤◌, Bool, true, false, cond, ◌&&◌, ◌||◌, eqb, ltb, List, [], ◌∷◌, ◌++◌, length, map, get_or, refl, sym, ap, ap₂, ◌∙◌, subst, ⊎_elim, append-nil, le-leb, arith}
use Rattle.std.specs.Prelude.{All}
use Rattle.std.specs.List.{AllByRecursion, flat_map, range_with_len}
use Rattle.std.proofs.lemmas.List.{map-append}
use Rattle.std.proofs.lemmas.List.Elements.{All-from_recursion, recursion_from_All}
use Rattle.blocks.specs.Disk.{block_at, Image, IsImage}
use Rattle.model.specs.Common.{addresses_in, cases_eq, cases_lt, depths, eq-eqb, form_of, inode_count_of, is_inode_count, is_marked, le-ltb, lt-ltb, ne_eqb, pointer_of, pointers_along, pointers_behind, pointers_under, reach, super_of, words_of}
use Rattle.model.specs.declared.types.image.Dinode.{Dinode}
use Rattle.model.specs.declared.types.image.Form.{Form}
use Rattle.model.specs.declared.types.image.Form.TheVariants.{One}
use Rattle.model.specs.declared.types.image.Pointer.{Pointer}
use Rattle.model.specs.declared.types.image.Super.{Super}
use Rattle.model.specs.Lemmas.Counts.{All-range, All-range_at, all_weaker, AllByRecursion-flat, count_of-All}
use Rattle.model.specs.Lemmas.Frames.{pointers_free, pointers_used}
use Rattle.model.specs.Lemmas.Soundness.{no_address, one_address}
use Rattle.model.specs.Places.{address_in, pointers_in}
use Rattle.model.specs.Soundness.{count_of, IsFilled, IsLawfulInode}
use Rattle.conversion.specs.Common.{chosen_size, is_log_length, is_older_super, is_size_with, meta_with, moved, moved_inode, older_files, source_in, super_with}
use Rattle.conversion.specs.Moving.{moved_image}
use Rattle.conversion.specs.Older.{older_inode}
use Rattle.conversion.specs.Shortened.{SoundnessIsKept}
use Rattle.conversion.specs.OlderSound.{IsOlderSound, older_first_data, older_places, older_pointers}
use Rattle.conversion.proofs.AddressLemmas.{IsMovedNode}
use Rattle.conversion.proofs.CountLemmas.{short}
use Rattle.conversion.proofs.FitLemmas.{fit_of, IsFit}
use Rattle.conversion.proofs.KeptLemmas.{came_over, files_kept, IsUsed, IsWithin, node_moved, node_of}
use Rattle.conversion.proofs.MovedLemmas.{empty-moved, fields-moved, form_one, inode-moved, length-moved_image, magic-moved, marked-moved, room-moved}
use Rattle.conversion.proofs.PlacedLemmas.{apart_in, data_at_place, node_at_place}

-- a pointer whose address is moved
abbrev pub moved_pointer : ℕ → ℕ → Pointer → Pointer
moved_pointer from to p = record { address = moved from to p.address; needed = p.needed }

-- ---- the pointers of a moved inode

module _ (x y : Image) (from to size : ℕ) where
  entries_moved : (first : ℕ) (words : List ℕ) →
      pointers_behind (λ f a. pointers_under y size 0 f a) first (reach 0) (map (moved from to) words)
      ≡ map (moved_pointer from to) (pointers_behind (λ f a. pointers_under x size 0 f a) first (reach 0) words)
  entries_moved first [] = refl
  entries_moved first (a ∷ words) = ap (λ (l : List Pointer). pointer_of size first (moved from to a) ∷ l) (entries_moved (first + reach 0) words)

  node_pointers : (first a : ℕ) → (a ≢ 0 → IsMovedNode x y from to a) →
      pointers_under y size 1 first (moved from to a) ≡ map (moved_pointer from to) (pointers_under x size 1 first a)
  node_pointers first a node =
      ⊎_elim
      (λ (e : a ≡ 0). rw e refl)
      (λ (some : a ≢ 0).
      let is = node some in
      let here = ne_eqb a 0 some in
      let there = ne_eqb (moved from to a) 0 is.0 in
      by_tests (eqb a 0) (eqb (moved from to a) 0) here there
      (ap (λ (words : List ℕ). pointers_behind (λ f e. pointers_under y size 0 f e) first (reach 0) words) is.1
      ∙ entries_moved first (words_of (block_at x a))))
      (cases_eq a 0)
    where
      by_tests : (v w : Bool) → v ≡ false → w ≡ false →
          pointers_behind (λ f e. pointers_under y size 0 f e) first (reach 0) (words_of (block_at y (moved from to a)))
          ≡ map (moved_pointer from to) (pointers_behind (λ f e. pointers_under x size 0 f e) first (reach 0) (words_of (block_at x a))) →
          pointer_of size first (moved from to a) ∷ cond w [] (pointers_behind (λ f e. pointers_under y size 0 f e) first (reach 0) (words_of (block_at y (moved from to a))))
          ≡ map (moved_pointer from to) (pointer_of size first a ∷ cond v [] (pointers_behind (λ f e. pointers_under x size 0 f e) first (reach 0) (words_of (block_at x a))))
      by_tests v w here there same =
          rw (here, there) (ap (λ (l : List Pointer). pointer_of size first (moved from to a) ∷ l) same)

  along_pointers : (first n : ℕ) (addresses : List ℕ) → (get_or addresses n 0 ≢ 0 → IsMovedNode x y from to (get_or addresses n 0)) →
      pointers_along y size first (short n) (map (moved from to) addresses) ≡ map (moved_pointer from to) (pointers_along x size first (short n) addresses)
  along_pointers first zero [] node = refl
  along_pointers first zero (a ∷ rest) node =
      append-nil (pointers_under y size 1 first (moved from to a)) ∙ node_pointers first a node
      ∙ ap (map (moved_pointer from to)) (sym (append-nil (pointers_under x size 1 first a)))
  along_pointers first (suc n) [] node = refl
  along_pointers first (suc n) (a ∷ rest) node =
      ap (λ (l : List Pointer). pointer_of size first (moved from to a) ∷ l) (along_pointers (first + reach 0) n rest node)

pub pointers_moved : (x y : Image) (from to : ℕ) (d : Dinode) → form_of x ≡ One → form_of y ≡ One → d.kind ≢ 0 →
    (get_or d.addrs 12 0 ≢ 0 → IsMovedNode x y from to (get_or d.addrs 12 0)) →
    pointers_in y (moved_inode from to d) ≡ map (moved_pointer from to) (pointers_in x d)
pointers_moved x y from to d one_x one_y used node =
    pointers_used y (moved_inode from to d) used
    ∙ ap (λ (f : Form). pointers_along y d.size 0 (depths f) (map (moved from to) d.addrs)) one_y
    ∙ along_pointers x y from to d.size 0 12 d.addrs node
    ∙ ap (λ (f : Form). map (moved_pointer from to) (pointers_along x d.size 0 (depths f) d.addrs)) (sym one_x)
    ∙ ap (map (moved_pointer from to)) (sym (pointers_used x d used))

-- ---- lists

flat_moved : (mv : ℕ → ℕ) (f g : ℕ → List ℕ) (a n : ℕ) → ((i : ℕ) → a ≤ i → i < a + n → g i ≡ map mv (f i)) →
    flat_map g (range_with_len a n) ≡ map mv (flat_map f (range_with_len a n))
flat_moved mv f g a zero same = refl
flat_moved mv f g a (suc n) same =
    ap₂ (λ (front rest : List ℕ). front ++ rest) (same a (omega arith) (omega arith))
    (flat_moved mv f g (a + 1) n (λ i low high. same i (omega (arith, low)) (omega (arith, high))))
    ∙ sym (map-append mv (f a) (flat_map f (range_with_len (a + 1) n)))

all_mapped : (mv : ℕ → ℕ) (P Q : ℕ → Type 0) (xs : List ℕ) → ((a : ℕ) → P a → Q (mv a)) → AllByRecursion P xs → AllByRecursion Q (map mv xs)
all_mapped mv P Q [] each h = tt
all_mapped mv P Q (a ∷ xs) each h = (each a h.0, all_mapped mv P Q xs each h.1)

-- ---- a sound image

module _ (x : Image) (to size : ℕ) (is : IsImage x) (fit : IsFit x to size) (sound : IsOlderSound x) where
  abbrev y : Image
  y = moved_image x to size

  abbrev s : Super
  s = super_of x

  abbrev from : ℕ
  from = (super_of x).nlog

  abbrev old : ℕ → Dinode
  old i = older_inode x i

  abbrev mv : ℕ → ℕ
  mv a = moved from to a

  fields : super_of y ≡ super_with to size s.ninodes
  fields = fields-moved x to size fit

  count : inode_count_of y ≡ s.ninodes
  count = ap (λ (t : Super). t.ninodes) fields

  one_x : form_of x ≡ One
  one_x = form_one x fit.magic

  one_y : form_of y ≡ One
  one_y = form_one y (magic-moved x to size fit)

  -- its places
  all_within : AllByRecursion (IsWithin x) (older_places x)
  all_within =
      all_weaker (λ a. (older_first_data x ≤ a) × (a < length x)) (IsWithin x) (older_places x)
      (λ a h. record { high = h.0; low = omega (arith, fit.sized, h.1) })
      (recursion_from_All (λ a. (older_first_data x ≤ a) × (a < length x)) (older_places x) sound.in_data)

  within_of : (i : ℕ) → 1 ≤ i → i < s.ninodes → AllByRecursion (IsWithin x) (addresses_in (older_pointers x i))
  within_of i some low =
      AllByRecursion-flat (IsWithin x) (λ j. addresses_in (older_pointers x j)) 1 (s.ninodes - 1) i all_within some (omega (arith, some, low))

  pub node_range : (i : ℕ) → IsUsed x i → node_of x i ≢ 0 → IsWithin x (node_of x i)
  node_range i u some = node_at_place x (older_inode x) (inode_count_of x) one_x (IsWithin x) within_of i (node_of x i) u some refl

  pub data_range : (i k : ℕ) → IsUsed x i → address_in x (old i) k ≢ 0 → IsWithin x (address_in x (old i) k)
  data_range i k u some =
      data_at_place x (older_inode x) (inode_count_of x) one_x (IsWithin x) within_of i k (address_in x (old i) k) u some refl

  pub apart : (i j k a : ℕ) → IsUsed x i → IsUsed x j → a ≢ 0 → address_in x (old i) k ≡ a → node_of x j ≡ a → ⊥
  apart i j k a u v some leads node = apart_in x (older_inode x) (inode_count_of x) one_x sound.once i j k a u v some leads node

  pub files_same : older_files y ≡ older_files x
  files_same = files_kept x to size is fit node_range data_range apart

  went : (a : ℕ) → IsWithin x a → mv a + from ≡ a + to
  went a within = (came_over x to size is fit a within).place

  -- ---- the pointers of y

  addresses_moved : (ps : List Pointer) → AllByRecursion (IsWithin x) (addresses_in ps) → addresses_in (map (moved_pointer from to) ps) ≡ map mv (addresses_in ps)
  addresses_moved [] all = refl
  addresses_moved (p ∷ ps) all =
      ⊎_elim
      (λ (e : p.address ≡ 0).
      let gone : mv p.address ≡ 0 = ap mv e in
      no_address (moved_pointer from to p) (map (moved_pointer from to) ps) gone
      ∙ addresses_moved ps (subst (AllByRecursion (IsWithin x)) (no_address p ps e) all)
      ∙ ap (map mv) (sym (no_address p ps e)))
      (λ (some : p.address ≢ 0).
      let parts : AllByRecursion (IsWithin x) (p.address ∷ addresses_in ps) = subst (AllByRecursion (IsWithin x)) (one_address p ps some) all in
      let there = (came_over x to size is fit p.address parts.0).there in
      one_address (moved_pointer from to p) (map (moved_pointer from to) ps) there
      ∙ ap (λ (l : List ℕ). mv p.address ∷ l) (addresses_moved ps parts.1)
      ∙ ap (map mv) (sym (one_address p ps some)))
      (cases_eq p.address 0)

  pointers_of_moved : (i : ℕ) → 1 ≤ i → i < s.ninodes → older_pointers y i ≡ map (moved_pointer from to) (older_pointers x i)
  pointers_of_moved i some low =
      ap (pointers_in y) (inode-moved x to size fit is i low)
      ∙ ⊎_elim
      (λ (free : (old i).kind ≡ 0). pointers_free y (moved_inode from to (old i)) free ∙ ap (map (moved_pointer from to)) (sym (pointers_free x (old i) free)))
      (λ (used : (old i).kind ≢ 0).
      let u : IsUsed x i = record { some = some; low = low; used = used } in
      pointers_moved x y from to (old i) one_x one_y used (node_moved x to size is fit node_range i u))
      (cases_eq (old i).kind 0)

  places_moved : older_places y ≡ map mv (older_places x)
  places_moved =
      ap (λ (n : ℕ). flat_map (λ i. addresses_in (older_pointers y i)) (range_with_len 1 (n - 1))) count
      ∙ flat_moved mv (λ i. addresses_in (older_pointers x i)) (λ i. addresses_in (older_pointers y i)) 1 (s.ninodes - 1)
      (λ i low high.
      let inside : i < s.ninodes = omega (arith, low, high) in
      ap addresses_in (pointers_of_moved i low inside) ∙ addresses_moved (older_pointers x i) (within_of i low inside))

  -- ---- how often a block is at a place

  first_y : older_first_data y ≡ meta_with to size s.ninodes
  first_y = ap (λ (t : Super). meta_with t.nlog t.size t.ninodes) fields

  count_most : (b : ℕ) (places : List ℕ) → AllByRecursion (IsWithin x) places → count_of b (map mv places) ≤ count_of (source_in s to b) places
  count_most b [] all = omega arith
  count_most b (a ∷ places) all =
      let rest = count_most b places all.1 in
      let place = went a all.0 in
      ⊎_elim
      (λ (e : mv a ≡ b).
      let source : a ≡ source_in s to b = omega (arith, e, place) in
      rw (eq-eqb (mv a) b e, eq-eqb a (source_in s to b) source) (omega (arith, rest)))
      (λ (ne : mv a ≢ b). rw (ne_eqb (mv a) b ne) (omega (arith, rest)))
      (cases_eq (mv a) b)

  count_same : (b : ℕ) (places : List ℕ) → meta_with to size s.ninodes ≤ b → AllByRecursion (IsWithin x) places →
      count_of b (map mv places) ≡ count_of (source_in s to b) places
  count_same b [] high all = refl
  count_same b (a ∷ places) high all =
      let rest = count_same b places high all.1 in
      let place = went a all.0 in
      ⊎_elim
      (λ (e : mv a ≡ b).
      let source : a ≡ source_in s to b = omega (arith, e, place) in
      rw (eq-eqb (mv a) b e, eq-eqb a (source_in s to b) source) (ap (λ (m : ℕ). 1 + m) rest))
      (λ (ne : mv a ≢ b).
      let other : a ≢ source_in s to b = λ e. absurd (ne (omega (arith, e, place, high))) in
      rw (ne_eqb (mv a) b ne, ne_eqb a (source_in s to b) other) (ap (λ (m : ℕ). 0 + m) rest))
      (cases_eq (mv a) b)

  -- ---- the parts of soundness

  in_data_moved : All (λ b. (older_first_data y ≤ b) × (b < length y)) (older_places y)
  in_data_moved =
      All-from_recursion (λ b. (older_first_data y ≤ b) × (b < length y)) (older_places y)
      (subst (AllByRecursion (λ b. (older_first_data y ≤ b) × (b < length y))) (sym places_moved)
      (all_mapped mv (IsWithin x) (λ b. (older_first_data y ≤ b) × (b < length y)) (older_places x)
      (λ a within.
      let place = went a within in
      let long = length-moved_image x to size fit in (
        omega (arith, first_y, place, within.high, fit.small, fit.most, fit.from_most, fit.to_most),
        omega (arith, long, place, within.low, fit.least, fit.from_most),
      ))
      all_within))

  once_moved : (b : ℕ) → count_of b (older_places y) ≤ 1
  once_moved b =
      let most = count_most b (older_places x) all_within in
      let once = sound.once (source_in s to b) in
      let same = ap (count_of b) places_moved in
      omega (arith, most, once, same)

  -- the source of a data block was marked where it is at a place
  source_marked : (b : ℕ) → meta_with to size s.ninodes ≤ b →
      (ltb (source_in s to b) s.size && is_marked x (source_in s to b)) ≡ ltb 0 (count_of (source_in s to b) (older_places x))
  source_marked b high =
      let source = source_in s to b in
      ⊎_elim
      (λ (low : source < s.size).
      let test = lt-ltb source s.size low in
      let inside : source < length x = omega (arith, low, fit.sized) in
      let behind : older_first_data x ≤ source = omega (arith, high, fit.small, fit.most, fit.from_most, fit.to_most) in
      let before = le-ltb source (older_first_data x) behind in
      rw test (sound.marked source inside ∙ ap (λ (v : Bool). v || ltb 0 (count_of source (older_places x))) before))
      (λ (past : s.size ≤ source).
      let test = le-ltb source s.size past in
      let none : count_of source (older_places x) ≡ 0
      = ⊎_elim (λ z. z) (λ some. let within = count_of-All (IsWithin x) source (older_places x) all_within some in absurd (omega (arith, within.low, past)))
      (cases_eq (count_of source (older_places x)) 0) in
      rw (test, none) refl)
      (cases_lt source s.size)

  marked_moved : (b : ℕ) → b < length y → is_marked y b ≡ (ltb b (older_first_data y) || ltb 0 (count_of b (older_places y)))
  marked_moved b below =
      let long = length-moved_image x to size fit in
      let inside : b < size = omega (arith, below, long) in
      marked-moved x to size fit b inside
      ∙ ⊎_elim
      (λ (low : b < meta_with to size s.ninodes).
      let first = lt-ltb b (meta_with to size s.ninodes) low in
      let there = lt-ltb b (older_first_data y) (omega (arith, low, first_y)) in
      ap (λ (v : Bool). v || (ltb (source_in s to b) s.size && is_marked x (source_in s to b))) first
      ∙ sym (ap (λ (v : Bool). v || ltb 0 (count_of b (older_places y))) there))
      (λ (high : meta_with to size s.ninodes ≤ b).
      let first = le-ltb b (meta_with to size s.ninodes) high in
      let there = le-ltb b (older_first_data y) (omega (arith, high, first_y)) in
      ap (λ (v : Bool). v || (ltb (source_in s to b) s.size && is_marked x (source_in s to b))) first
      ∙ source_marked b high
      ∙ ap (ltb 0) (sym (ap (count_of b) places_moved ∙ count_same b (older_places x) high all_within))
      ∙ sym (ap (λ (v : Bool). v || ltb 0 (count_of b (older_places y))) there))
      (cases_lt b (meta_with to size s.ninodes))

  -- what holds of the numbers of x holds of those of y
  all_numbers : (P Q : ℕ → Type 0) → All P (range_with_len 1 (inode_count_of x - 1)) → ((i : ℕ) → 1 ≤ i → i < s.ninodes → P i → Q i) →
      All Q (range_with_len 1 (inode_count_of y - 1))
  all_numbers P Q all each =
      subst (λ (n : ℕ). All Q (range_with_len 1 (n - 1))) (sym count)
      (All-range Q 1 (s.ninodes - 1)
      (λ i low high. each i low (omega (arith, low, high)) (All-range_at P 1 (s.ninodes - 1) i all low high)))

  inodes_moved : All (λ i. IsLawfulInode One (older_inode y i)) (range_with_len 1 (inode_count_of y - 1))
  inodes_moved =
      all_numbers (λ i. IsLawfulInode One (older_inode x i)) (λ i. IsLawfulInode One (older_inode y i)) sound.inodes
      (λ i some low lawful.
      subst (IsLawfulInode One) (sym (inode-moved x to size fit is i low)) record { kind = lawful.kind; size = lawful.size })

  filled_list : (ps : List Pointer) → AllByRecursion (IsWithin x) (addresses_in ps) → AllByRecursion IsFilled ps → AllByRecursion IsFilled (map (moved_pointer from to) ps)
  filled_list [] within all = tt
  filled_list (p ∷ ps) within all =
      ⊎_elim
      (λ (e : p.address ≡ 0).
      ((λ needed. absurd (all.0 needed e)), filled_list ps (subst (AllByRecursion (IsWithin x)) (no_address p ps e) within) all.1))
      (λ (some : p.address ≢ 0).
      let parts : AllByRecursion (IsWithin x) (p.address ∷ addresses_in ps) = subst (AllByRecursion (IsWithin x)) (one_address p ps some) within in
      ((λ needed. (came_over x to size is fit p.address parts.0).there), filled_list ps parts.1 all.1))
      (cases_eq p.address 0)

  filled_moved : All (λ i. All IsFilled (older_pointers y i)) (range_with_len 1 (inode_count_of y - 1))
  filled_moved =
      all_numbers (λ i. All IsFilled (older_pointers x i)) (λ i. All IsFilled (older_pointers y i)) sound.filled
      (λ i some low all.
      subst (All IsFilled) (sym (pointers_of_moved i some low))
      (All-from_recursion IsFilled (map (moved_pointer from to) (older_pointers x i))
      (filled_list (older_pointers x i) (within_of i some low) (recursion_from_All IsFilled (older_pointers x i) all))))

  super_lawful : is_log_length to ≡ true → is_older_super (super_of y) (length y) ≡ true
  super_lawful log =
      let n = s.ninodes in
      let p = super_with to size n in
      let counted : is_inode_count n ≡ true = rw (le-leb 2 n fit.some, le-leb n 1024 fit.few) refl in
      let fits : is_size_with to size n ≡ true = rw (lt-ltb (meta_with to size n) size (room-moved x to size fit), le-leb size 8191 fit.most) refl in
      ap (λ (t : Super). is_older_super t (length y)) fields
      ∙ ap (is_older_super p) (length-moved_image x to size fit)
      ∙ rw (
        eq-eqb size size refl,
        counted,
        log,
        fits,
        eq-eqb p.nblocks p.nblocks refl,
        eq-eqb n n refl,
        eq-eqb to to refl,
        eq-eqb p.inodestart p.inodestart refl,
        eq-eqb p.bmapstart p.bmapstart refl,
      ) refl

  pub sound_moved : is_log_length to ≡ true → IsOlderSound y
  sound_moved log = record {
    magic = magic-moved x to size fit;
    fields = super_lawful log;
    empty_log = empty-moved x to size fit;
    inodes = inodes_moved;
    filled = filled_moved;
    in_data = in_data_moved;
    once = once_moved;
    marked = marked_moved;
  }

pub soundness_is_kept : SoundnessIsKept
soundness_is_kept x to asked log is sound none =
    sound_moved x to (chosen_size x to asked) is (fit_of x to asked log none) sound log
