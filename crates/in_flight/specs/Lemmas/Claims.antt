-- A creation's claim of a number: what it makes of any image, and which files a loose one then stands for.
use Rattle.std.proofs.Common.{◌≡◌, ◌≢◌, ℕ, ◌*◌, ◌%◌, ◌<◌, ◌≤◌, Bool, true, not, eqb, leb, ltb, [], length, replicate, Option, Some, None, refl, sym, ap, subst, ◌∙◌, ⊎_elim, arith}
use Rattle.in_flight.specs.Common.{addresses_in, after-made, Agrees-set, AgreesFor, AreFull, block_at, both_of, cases_eq, depths, Dinode, dinode_bytes, eq-eqb, facts_of, File, file_at, file_in, Files, first_data_block, Fits, Form, form_of, get_or-set_other, get_or-set_same, Image, inode_block, inode_bytes, inode_bytes-with_inode_other, inode_count_of, inode_of-with_inode, inode_of-with_inode_other, is_dinode-new_inode, IsAtRest, IsDinode, IsFit, IsLawfulGeometry, IsLoose, IsPlaced, leb-true, length-dinode_bytes, length-overwritten, length-set, ltb-true, names_along, ne_eqb, new_inode, One, places_of, pointers_free, pointers_in, pointers_named, pointers_of, Super, super_of, Two, with_inode, with_inode_bytes}
use Rattle.model.specs.Files.{file_of, bytes_in}
use Rattle.model.specs.Layout.{inode_of}
use Rattle.model.specs.Names.{names_of}
use Rattle.in_flight.specs.Claims.{HasClaimed, with_new_file}
use Rattle.in_flight.specs.Laws.{ClaimsOne, ClaimMakesFile}
use Rattle.in_flight.specs.Lemmas.Frames.{AgreesAtData, agrees_for, rest_alike, addresses_alike, SameSuperAndMap, super_same, geometry_same, marks_same, loose_same, places_same}

-- where a number's inode block lies
pub record IsApart (x : Image) (i : ℕ) : Type 0 where
  pub behind : 33 ≤ inode_block i
  pub before_data : inode_block i < first_data_block x
  pub before_map : inode_block i < (super_of x).bmapstart
  pub within : inode_block i < length x

pub apart : (x : Image) (i : ℕ) → IsLawfulGeometry x → i < inode_count_of x → IsApart x i
apart x i g below =
    let f = facts_of x g in
    let room = f.room in
    let size = f.size in
    let bitmap = f.map in
    record { behind = omega arith; before_data = omega arith; before_map = omega arith; within = omega arith }

-- ---- any image of lawful geometry

-- a number for a new file
record IsFor (x : Image) (i kind : ℕ) : Type 0 where
  geometry : IsLawfulGeometry x
  some : 0 < i
  below : i < inode_count_of x
  small : kind ≤ 3
  full : length (block_at x (inode_block i)) ≡ 1024

module _ (x : Image) (i kind : ℕ) (h : IsFor x i kind) where
  abbrev y : Image
  y = with_inode x i (new_inode kind)

  there : IsApart x i
  there = apart x i h.geometry h.below

  placed : IsPlaced x i
  placed = record { within = there.within; full = h.full }

  fields : IsDinode (new_inode kind)
  fields = is_dinode-new_inode kind h.small

  other_block : (b : ℕ) → b ≢ inode_block i → block_at y b ≡ block_at x b
  other_block b ne = get_or-set_other x (inode_block i) b (with_inode_bytes (block_at x (inode_block i)) i (new_inode kind)) [] ne

  base : SameSuperAndMap x y
  base =
      let behind = there.behind in
      let before = there.before_map in
      record {
        size = length-set x (inode_block i) (with_inode_bytes (block_at x (inode_block i)) i (new_inode kind));
        super = other_block 1 (λ e. omega arith);
        map = other_block (super_of x).bmapstart (λ e. omega arith);
      }

  own_inode : inode_of y i ≡ new_inode kind
  own_inode = inode_of-with_inode x i (new_inode kind) placed fields

  other_inode : (j : ℕ) → j ≢ i → inode_of y j ≡ inode_of x j
  other_inode j ne = inode_of-with_inode_other x i j (new_inode kind) placed fields ne

  other_bytes : (j : ℕ) → j ≢ i → inode_bytes y j ≡ inode_bytes x j
  other_bytes j ne = inode_bytes-with_inode_other x i j (new_inode kind) placed fields ne

  claimed : HasClaimed x i kind y
  claimed =
      let behind = there.behind in
      let some = h.some in
      let below = h.below in
      record {
        size = base.size;
        own = own_inode;
        own_labels = ap (λ (d : Dinode). (d.major, d.minor)) own_inode;
        others = other_inode;
        other_labels = λ j ne. ap (λ (d : Dinode). (d.major, d.minor)) (other_inode j ne);
        elsewhere = other_block;
        untouched = record {
          boot = other_block 0 (λ e. omega arith);
          super = other_block 1 (λ e. omega arith);
          inode_zero = other_bytes 0 (λ e. omega arith);
          inodes_past = λ j from lt. other_bytes j (λ e. omega arith);
          bits_past = λ b from lt. marks_same x y b base;
        };
      }

pub claims : ClaimsOne
claims x i kind geometry number small full =
    let numbers = both_of (ltb 0 i) (ltb i (inode_count_of x)) number in
    claimed x i kind (record {
      geometry = geometry;
      some = ltb-true 0 i numbers.0;
      below = ltb-true i (inode_count_of x) numbers.1;
      small = small;
      full = full;
    })

-- ---- an image that stands for files

-- zeroes lead to no block
pub no_names : (x : Image) (form : Form) → names_along x (depths form) (replicate 13 0) ≡ []
no_names x One = refl
no_names x Two = refl

pub free_file : (x : Image) (i : ℕ) → 0 < i → (inode_of x i).kind ≡ 0 → file_at x i ≡ None
unfolding file_of
free_file x i some free = rw (ne_eqb i 0 (λ e. omega (arith, some, e)), eq-eqb (inode_of x i).kind 0 free) refl

module _ (m : Files) (x : Image) (i kind : ℕ) (f : Fits m x) (h : IsFor x i kind) (used : kind ≢ 0)
    (free : (inode_of x i).kind ≡ 0) where
  abbrev z : Image
  z = with_inode x i (new_inode kind)

  abbrev test : ℕ → Bool
  test c = not (eqb c (inode_block i))

  away : (c : ℕ) → c ≢ inode_block i → test c ≡ true
  away c ne = ap not (ne_eqb c (inode_block i) ne)

  data_same : AgreesAtData test x z
  data_same =
      let a = apart x i h.geometry h.below in
      let behind = a.behind in
      let before = a.before_data in
      record {
        agree = Agrees-set x (inode_block i) (with_inode_bytes (block_at x (inode_block i)) i (new_inode kind));
        one = away 1 (λ e. omega arith);
        from_data = λ c from. away c (λ e. omega arith);
      }

  agrees : (j : ℕ) → 1 ≤ j → j < inode_count_of x → AgreesFor test x z (inode_of x j)
  agrees j low high = agrees_for test m x z j f data_same low high

  new_names : names_of z (new_inode kind) ≡ []
  unfolding names_of
  new_names = rw (ne_eqb kind 0 used) (no_names z (form_of z))

  own_addresses : addresses_in (pointers_of z i) ≡ []
  own_addresses = ap (λ (d : Dinode). addresses_in (pointers_in z d)) (own_inode x i kind h) ∙ pointers_named z (new_inode kind) ∙ new_names

  addresses : (j : ℕ) → 1 ≤ j → j < inode_count_of x → addresses_in (pointers_of z j) ≡ addresses_in (pointers_of x j)
  addresses j low high =
      ⊎_elim
      (λ (e : j ≡ i).
      ap (λ n. addresses_in (pointers_of z n)) e ∙ own_addresses
      ∙ sym (ap (λ n. addresses_in (pointers_of x n)) e ∙ ap addresses_in (pointers_free x (inode_of x i) free)))
      (λ (ne : j ≢ i). addresses_alike test x z j (other_inode x i kind h j ne) (agrees j low high))
      (cases_eq j i)

  places : places_of z ≡ places_of x
  places = places_same x z (base x i kind h) addresses

  full_after : AreFull z
  full_after b low within =
      let a = apart x i h.geometry h.below in
      let size = (base x i kind h).size in
      let block = block_at x (inode_block i) in
      let len = length-dinode_bytes (new_inode kind) (is_dinode-new_inode kind h.small).count in
      ⊎_elim
      (λ (e : b ≡ inode_block i).
      ap (λ (c : ℕ). length (block_at z c)) e
      ∙ ap length (get_or-set_same x (inode_block i) (with_inode_bytes block i (new_inode kind)) [] a.within)
      ∙ length-overwritten block (i % 16 * 64) (dinode_bytes (new_inode kind)) (omega (arith, len, h.full)) ∙ h.full)
      (λ (ne : b ≢ inode_block i). ap length (other_block x i kind h b ne) ∙ f.full b low (omega arith))
      (cases_eq b (inode_block i))

  new_file : file_at z i ≡ Some (record { kind = kind; links = 1; bytes = [] })
  unfolding file_of bytes_in
  new_file = let some = h.some in rw (ne_eqb i 0 (λ e. omega arith), own_inode x i kind h, ne_eqb kind 0 used) refl

  new_fit : IsFit z (new_inode kind)
  new_fit = record {
    fields = is_dinode-new_inode kind h.small;
    used = used;
    kind = h.small;
    size = omega arith;
    whole = λ k low nothing. omega arith;
  }

  own_rest : IsAtRest z i (file_in (with_new_file m i kind) i)
  own_rest =
      let below = h.below in
      record {
        same = new_file ∙ sym (get_or-set_same m i (Some (record { kind = kind; links = 1; bytes = [] })) None (omega (arith, f.count)));
        fit = λ u. subst (λ (d : Dinode). IsFit z d) (sym (own_inode x i kind h)) new_fit;
      }

  other_rest : (j : ℕ) → 1 ≤ j → j < inode_count_of x → j ≢ i → IsAtRest z j (file_in (with_new_file m i kind) j)
  other_rest j low high ne =
      subst (IsAtRest z j) (sym (get_or-set_other m i j (Some (record { kind = kind; links = 1; bytes = [] })) None ne))
      (rest_alike test x z j (file_in m j) (other_inode x i kind h j ne) (agrees j low high) (f.each j low high))

  fits_after : Fits (with_new_file m i kind) z
  fits_after =
      let new : Option File = Some (record { kind = kind; links = 1; bytes = [] }) in
      let some = h.some in
      let same = base x i kind h in
      let numbers : inode_count_of z ≡ inode_count_of x = ap (λ (s : Super). s.ninodes) (super_same x z same) in
      record {
        geometry = geometry_same x z same h.geometry;
        full = full_after;
        loose = subst (IsLoose z) (sym places) (loose_same x z (places_of x) same f.loose);
        count = length-set m i new ∙ f.count ∙ sym numbers;
        zero = get_or-set_other m i 0 new None (λ e. omega arith) ∙ f.zero;
        each = λ j low high.
            let inside : j < inode_count_of x = omega arith in
            ⊎_elim
            (λ (e : j ≡ i). subst (λ n. IsAtRest z n (file_in (with_new_file m i kind) n)) (sym e) own_rest)
            (λ (ne : j ≢ i). other_rest j low inside ne)
            (cases_eq j i);
      }

pub fits_claimed : ClaimMakesFile
fits_claimed m x i kind f number free is =
    let numbers = both_of (ltb 0 i) (ltb i (inode_count_of x)) number in
    let kinds = both_of (leb 1 kind) (leb kind 3) is in
    let some = ltb-true 0 i numbers.0 in
    let below = ltb-true i (inode_count_of x) numbers.1 in
    let low = leb-true 1 kind kinds.0 in
    let a = apart x i f.geometry below in (
      fits_after m x i kind f (record {
        geometry = f.geometry;
        some = some;
        below = below;
        small = leb-true kind 3 kinds.1;
        full = f.full (inode_block i) a.behind a.within;
      }) (λ e. omega arith) free,
      after-made (form_of x) m kind i is some (omega (arith, f.count)) (sym (f.each i (omega arith) below).same ∙ free_file x i some free),
    )
