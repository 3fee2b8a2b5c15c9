-- What stays of the claims in an image that agrees with another at its data blocks.
use Rattle.std.proofs.Common.{◌≡◌, ◌≢◌, ℕ, ◌+◌, ◌-◌, ◌<◌, ◌≤◌, Bool, ◌||◌, ltb, List, [], ◌++◌, length, Option, Some, None, refl, sym, ap, subst, ◌∙◌, ⊎_elim, arith, true, IsTrue, set, get_or-set_other}
use Rattle.std.specs.List.{flat_map, range_with_len}
use Rattle.in_flight.specs.Common.{address_agree, addresses_in, Agrees, AgreesFor, AreFull, bytes_agree, cases_eq, Claim, Claims, count_flat, count_flat_one, count_of, count_of-append, count_two, depths, Dinode, File, file_in, Files, first_data_block, FitsHeld, FitsThen, flat_map_range_same, form_agree, form_of, frees, grows, Growth, HasSameFile, Image, inode_block, inode_bytes_in, inode_count_of, inode_in, is_known_magic, is_lawful_super, is_number, IsFine, IsGrowing, IsHeldIn, IsLawfulGeometry, IsLoose, KeepsGrown, labels_of, left_along, LiesInData, listed, meta_count, names_along, names_claimed, names_used, owned, pointers_agree, pointers_in, pointers_named, StaysHeld, Super, super_in, super_of, u32_at}
use Rattle.model.specs.Layout.{inode_of}
use Rattle.in_flight.specs.Looks.{IsUsed}
use Rattle.in_flight.specs.Lemmas.Frames.{list_all-counted, AgreesAtData, rest_alike, fit_alike}
use Rattle.in_flight.specs.Lemmas.Looks.{between}
use Rattle.in_flight.specs.Lemmas.KeptTrees.{left_along_kept}

-- two lists have each number equally often
abbrev pub AreAlike : List ℕ → List ℕ → Type 0
AreAlike these others = (b : ℕ) → count_of b these ≡ count_of b others

pub loose_alike : (x : Image) (these others : List ℕ) → AreAlike these others → IsLoose x these → IsLoose x others
loose_alike x these others same h = record {
  in_data = λ b n. h.in_data b (λ z. n (sym (same b) ∙ z));
  once = λ b. let o = h.once b in let s = same b in omega arith;
  marked = λ b l. h.marked b l ∙ ap (λ n. ltb b (first_data_block x) || ltb 0 n) (same b);
}

-- claims that are equal at each number serve alike
pub held_alike : (m : Files) (x : Image) (claims new : Claims) → ((i : ℕ) → new i ≡ claims i) → FitsHeld m x claims → FitsHeld m x new
held_alike m x claims new same f =
    let names : owned x new ≡ owned x claims
    = flat_map_range_same (λ i. names_claimed x i (claims i)) (λ i. names_claimed x i (new i)) 1 (inode_count_of x - 1)
    (λ i low high. ap (names_claimed x i) (same i)) in
    record {
      geometry = f.geometry;
      full = f.full;
      loose = subst (IsLoose x) (sym names) f.loose;
      count = f.count;
      zero = f.zero;
      each = λ i low high.
          subst (λ (c : Option Claim). IsFine x i c (file_in m i)) (sym (same i)) (f.each i low high);
    }

-- what a number owns lies among the data
pub claimed_in_data : (m : Files) (x : Image) (claims : Claims) (i b : ℕ) → FitsHeld m x claims → 1 ≤ i → i < inode_count_of x →
    1 ≤ count_of b (names_claimed x i (claims i)) → LiesInData x b
claimed_in_data m x claims i b f low high some =
    let few : count_of b (names_claimed x i (claims i)) ≤ count_of b (owned x claims) =
    count_flat (λ j. names_claimed x j (claims j)) b 1 (inode_count_of x - 1) i low (omega arith) in
    f.loose.in_data b (λ none. omega arith)

-- images that agree at a test's blocks, the superblock among them
pub record AgreesAt (test : ℕ → Bool) (x y : Image) : Type 0 where
  pub agree : Agrees test x y
  pub one : test 1 ≡ true

-- each block of a list passes a test
abbrev pub Passes : (ℕ → Bool) → List ℕ → Type 0
Passes test names = (b : ℕ) → 1 ≤ count_of b names → test b ≡ true

pub at_data : (test : ℕ → Bool) (x y : Image) → AgreesAtData test x y → AgreesAt test x y
at_data test x y h = record { agree = h.agree; one = h.one }

pub agrees_of : (test : ℕ → Bool) (x y : Image) (d : Dinode) → AgreesAt test x y → Passes test (addresses_in (pointers_in x d)) →
    AgreesFor test x y d
agrees_of test x y d h there = record {
  agree = h.agree;
  one = h.one;
  names = list_all-counted test (addresses_in (pointers_in x d)) there;
}

-- of a list and another behind it, what the second one has passes
passes_behind : (test : ℕ → Bool) (front names : List ℕ) → Passes test (front ++ names) → Passes test names
passes_behind test front names there b some =
    there b (omega (arith, (count_of-append b front names), some))

pub names_same : (test : ℕ → Bool) (x y : Image) (i : ℕ) (c : Option Claim) → AgreesAt test x y → inode_of y i ≡ inode_of x i →
    Passes test (names_claimed x i c) → names_claimed y i c ≡ names_claimed x i c
names_same test x y i None h same there =
    ap addresses_in (ap (pointers_in y) same ∙ pointers_agree test x y (inode_of x i) (agrees_of test x y (inode_of x i) h there))
names_same test x y i (Some (frees t)) h same there =
    ap (λ f. left_along y t.cursor (depths f) t.copy.addrs) (form_agree test x y h.agree h.one)
    ∙ left_along_kept x y t.cursor (depths (form_of x)) t.copy.addrs (λ b some. h.agree b (there b some))
names_same test x y i (Some (grows g)) h same there =
    ap (λ (l : List ℕ). listed g.taken ++ l)
    (ap addresses_in
    (pointers_agree test x y g.copy
    (agrees_of test x y g.copy h (passes_behind test (listed g.taken) (addresses_in (pointers_in x g.copy)) there))))

pub labels_same : (x y : Image) (i : ℕ) (labels : ℕ × ℕ) → inode_of y i ≡ inode_of x i → labels_of x i ≡ labels → labels_of y i ≡ labels
labels_same x y i labels same was = ap (λ (d : Dinode). (d.major, d.minor)) same ∙ was

-- what a task writes stays where the blocks to which its copy leads do
pub grown_same : (test : ℕ → Bool) (x y : Image) (i : ℕ) (g : Growth) (file : Option File) → AgreesAt test x y →
    inode_of y i ≡ inode_of x i → Passes test (addresses_in (pointers_in x g.copy)) → IsGrowing x i g file → IsGrowing y i g file
grown_same test x y i g file h same there held =
    let agrees = agrees_of test x y g.copy h there in
    record {
      fit = fit_alike test x y g.copy agrees held.fit;
      same_kind = ap (λ (d : Dinode). d.kind) same ∙ held.same_kind;
      labels = labels_same x y i (g.copy.major, g.copy.minor) same held.labels;
      old = held.old;
      was = held.was;
      kind = held.kind;
      links = held.links;
      reaches = held.reaches;
      ends = held.ends;
      bytes = bytes_agree test x y g.copy agrees held.fit.used ∙ held.bytes;
    }

pub fine_same : (test : ℕ → Bool) (x y : Image) (i : ℕ) (c : Option Claim) (file : Option File) → AgreesAt test x y →
    inode_of y i ≡ inode_of x i → Passes test (names_claimed x i c) → IsFine x i c file → IsFine y i c file
fine_same test x y i None file h same there rest =
    rest_alike test x y i file same (agrees_of test x y (inode_of x i) h there) rest
fine_same test x y i (Some (frees t)) file h same there held = record {
  fields = held.fields;
  used = held.used;
  kind = held.kind;
  same_kind = ap (λ (d : Dinode). d.kind) same ∙ held.same_kind;
  labels = labels_same x y i (t.copy.major, t.copy.minor) same held.labels;
  last = held.last;
  told = held.told;
}
fine_same test x y i (Some (grows g)) file h same there held =
    grown_same test x y i g file h same (passes_behind test (listed g.taken) (addresses_in (pointers_in x g.copy)) there) held

-- ---- what an inode names

-- a whole inode names what its addresses lead to
pub whole_names : (x : Image) (d : Dinode) → d.kind ≢ 0 → addresses_in (pointers_in x d) ≡ names_along x (depths (form_of x)) d.addrs
whole_names x d used = pointers_named x d ∙ names_used x d used

-- ---- one number changes

pub record ChangesOne (test : ℕ → Bool) (m : Files) (x : Image) (claims : Claims) (i : ℕ) (n : Files) (y : Image) (new : Claims) : Type 0
  where
    pub fits : FitsHeld m x claims
    pub agree : AgreesAt test x y
    pub passes : (j : ℕ) → 1 ≤ j → j < inode_count_of x → j ≢ i → Passes test (names_claimed x j (claims j))
    pub size : length y ≡ length x
    pub inodes : (j : ℕ) → j < inode_count_of x → j ≢ i → inode_of y j ≡ inode_of x j
    pub claims_same : (j : ℕ) → j ≢ i → new j ≡ claims j
    pub count : length n ≡ length m
    pub files : (j : ℕ) → j ≢ i → file_in n j ≡ file_in m j
    pub some : i ≢ 0

module _ (test : ℕ → Bool) (m : Files) (x : Image) (claims : Claims) (i : ℕ) (n : Files) (y : Image) (new : Claims)
    (h : ChangesOne test m x claims i n y new) where
  pub super_kept : super_of y ≡ super_of x
  super_kept = ap super_in (h.agree.agree 1 h.agree.one)

  pub numbers_kept : inode_count_of y ≡ inode_count_of x
  numbers_kept = ap (λ (s : Super). s.ninodes) super_kept

  pub geometry_kept : IsLawfulGeometry y
  geometry_kept = record {
    magic = ap (λ b. is_known_magic (u32_at b 0)) (h.agree.agree 1 h.agree.one) ∙ h.fits.geometry.magic;
    fields = ap (λ s. is_lawful_super s (length y)) super_kept ∙ ap (is_lawful_super (super_of x)) h.size ∙ h.fits.geometry.fields;
  }

  other_names : (j : ℕ) → 1 ≤ j → j < inode_count_of x → j ≢ i → names_claimed y j (new j) ≡ names_claimed x j (claims j)
  other_names j low high ne =
      ap (names_claimed y j) (h.claims_same j ne)
      ∙ names_same test x y j (claims j) h.agree (h.inodes j high ne) (h.passes j low high ne)

  pub owned_kept : (c : ℕ) → 1 ≤ i → i < inode_count_of x →
      count_of c (owned y new) + count_of c (names_claimed x i (claims i)) ≡ count_of c (owned x claims) + count_of c (names_claimed y i (new i))
  owned_kept c low high =
      let f : ℕ → List ℕ = λ j. names_claimed x j (claims j) in
      let g : ℕ → List ℕ = λ j. names_claimed y j (new j) in
      let same : count_of c (owned y new) ≡ count_of c (flat_map g (range_with_len 1 (inode_count_of x - 1)))
      = ap (λ k. count_of c (flat_map g (range_with_len 1 (k - 1)))) numbers_kept in
      let one = count_flat_one f g c 1 (inode_count_of x - 1) i low (omega arith)
      (λ j l u ne. ap (count_of c) (other_names j l (omega arith) ne)) in
      omega arith

  other_fine : (j : ℕ) → 1 ≤ j → j < inode_count_of x → j ≢ i → IsFine y j (new j) (file_in n j)
  other_fine j low high ne =
      subst (λ (c : Option Claim). IsFine y j c (file_in n j)) (sym (h.claims_same j ne))
      (subst (IsFine y j (claims j)) (sym (h.files j ne))
      (fine_same test x y j (claims j) (file_in m j) h.agree (h.inodes j high ne) (h.passes j low high ne) (h.fits.each j low high)))

  -- what number j claims passes
  claim_passes : (j : ℕ) (c : Option Claim) → j ≢ i → IsTrue (is_number (inode_count_of x) j) → claims j ≡ c →
      Passes test (names_claimed x j c)
  claim_passes j c ne number is =
      let at = between x j number in
      subst (λ (o : Option Claim). Passes test (names_claimed x j o)) is (h.passes j at.low at.high ne)

  pub same_file : (j : ℕ) → j ≢ i → claims j ≡ None → IsUsed x j → HasSameFile x y j
  same_file j ne rest used =
      let passes = claim_passes j None ne used.0 rest in
      let agrees = agrees_of test x y (inode_of x j) h.agree passes in
      record {
        inode = h.inodes j (between x j used.0).high ne;
        blocks = λ b some. h.agree.agree b (passes b (omega (arith, some)));
        addresses = λ k. (address_agree test x y (inode_of x j) agrees used.1 k).0;
        bytes = bytes_agree test x y (inode_of x j) agrees used.1;
      }

  -- where the copy of a task that writes leads, and its file
  held_grown : (j : ℕ) (c : Claim) → j ≢ i → IsTrue (is_number (inode_count_of x) j) → claims j ≡ Some c → KeepsGrown x y c
  held_grown j (frees t) ne number holds = tt
  held_grown j (grows g) ne number holds =
      let at = between x j number in
      let there = passes_behind test (listed g.taken) (addresses_in (pointers_in x g.copy)) (claim_passes j (Some (grows g)) ne number holds) in
      let fine : IsGrowing x j g (file_in m j) = subst (λ (o : Option Claim). IsFine x j o (file_in m j)) holds (h.fits.each j at.low at.high) in
      let agrees = agrees_of test x y g.copy h.agree there in
      ((λ k. (address_agree test x y g.copy agrees fine.fit.used k).0), bytes_agree test x y g.copy agrees fine.fit.used)

  pub stays_held : (j : ℕ) (c : Claim) → j ≢ i → IsTrue (is_number (inode_count_of x) j) → claims j ≡ Some c → StaysHeld x y c
  stays_held j c ne number holds =
      let passes = claim_passes j (Some c) ne number holds in
      record {
        names = names_same test x y j (Some c) h.agree (h.inodes j (between x j number).high ne) passes;
        blocks = λ b some. h.agree.agree b (passes b (omega (arith, some)));
        grown = held_grown j c ne number holds;
      }

  pub fits_then : AreFull y → IsLoose y (owned y new) → IsFine y i (new i) (file_in n i) → FitsThen n x claims i y new
  fits_then full loose own =
      record {
        fits = record {
          geometry = geometry_kept;
          full = full;
          loose = loose;
          count = h.count ∙ h.fits.count ∙ sym numbers_kept;
          zero = h.files 0 (λ e. h.some (sym e)) ∙ h.fits.zero;
          each = λ j low high.
              let numbers = numbers_kept in
              ⊎_elim
              (λ (e : j ≡ i). subst (λ q. IsFine y q (new q) (file_in n q)) (sym e) own)
              (λ (ne : j ≢ i). other_fine j low (omega arith) ne)
              (cases_eq j i);
        };
        others = same_file;
        held = stays_held;
      }

-- where the data blocks stay, what each number owns passes
pub data_passes : (test : ℕ → Bool) (m : Files) (x y : Image) (claims : Claims) → FitsHeld m x claims → AgreesAtData test x y →
    (j : ℕ) → 1 ≤ j → j < inode_count_of x → Passes test (names_claimed x j (claims j))
data_passes test m x y claims f h j low high b some = h.from_data b (claimed_in_data m x claims j b f low high some).0

-- a block that one number owns, no other does
pub owned_by_one : (m : Files) (x : Image) (claims : Claims) (i j b : ℕ) → FitsHeld m x claims → 1 ≤ i → i < inode_count_of x →
    1 ≤ j → j < inode_count_of x → j ≢ i → 1 ≤ count_of b (names_claimed x i (claims i)) →
    count_of b (names_claimed x j (claims j)) ≡ 0
owned_by_one m x claims i j b f low high first last ne mine =
    let both = count_two (λ k. names_claimed x k (claims k)) b 1 (inode_count_of x - 1) i j low (omega (arith, high)) first (omega (arith, last)) (λ e. ne (sym e)) in
    omega (arith, (f.loose.once b), both, mine)

-- what the task holds that writes into a number's file
pub growing_of : (m : Files) (x : Image) (claims : Claims) (i : ℕ) (g : Growth) → IsHeldIn m x claims i (grows g) → IsGrowing x i g (file_in m i)
growing_of m x claims i g h =
    let at = between x i h.number in
    subst (λ (c : Option Claim). IsFine x i c (file_in m i)) h.holds (h.fits.each i at.low at.high)

-- an inode whose block stays
pub inode_elsewhere : (x : Image) (j b : ℕ) (bytes : List ℕ) → inode_block j ≢ b → inode_of (set x b bytes) j ≡ inode_of x j
unfolding inode_of
inode_elsewhere x j b bytes ne = ap (λ block. inode_in (inode_bytes_in block j)) (get_or-set_other x b (inode_block j) bytes [] ne)

-- what a number owns, it owns once
pub owned_once : (m : Files) (x : Image) (claims : Claims) (i b : ℕ) → FitsHeld m x claims → 1 ≤ i → i < inode_count_of x →
    count_of b (names_claimed x i (claims i)) ≤ 1
owned_once m x claims i b f low high =
    let few : count_of b (names_claimed x i (claims i)) ≤ count_of b (owned x claims)
    = count_flat (λ j. names_claimed x j (claims j)) b 1 (inode_count_of x - 1) i low (omega (arith, high)) in
    omega (arith, (f.loose.once b), few)

-- in the same image each task holds the same
pub stays_same : (x : Image) (c : Claim) → StaysHeld x x c
stays_same x c = record { names = refl; blocks = λ b some. refl; grown = grown c }
  where
    grown : (c : Claim) → KeepsGrown x x c
    grown (frees h) = tt
    grown (grows g) = ((λ k. refl), refl)
