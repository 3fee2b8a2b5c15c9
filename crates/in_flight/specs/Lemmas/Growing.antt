-- What a task that writes makes of an image, whichever of its steps it is.
use Rattle.std.proofs.Common.{◌≡◌, ◌≢◌, ℕ, ◌<◌, ◌≤◌, Bool, true, not, eqb, List, [], length, set, Option, refl, ap, ◌∙◌, ⊎_elim, arith, ne_eqb, get_or-set_other, length-set, get_or-set_same}
use Rattle.in_flight.specs.Common.{addresses_in, Agrees-set, AreFull, block_at, cases_eq, Claims, count_of, Dinode, File, file_in, Files, FitsHeld, FitsThen, Growth, Image, inode_count_of, IsFine, IsGrowing, LiesInData, names_claimed, owned, pointers_agree, pointers_in, super_of}
use Rattle.model.specs.Layout.{inode_of}
use Rattle.in_flight.specs.Lemmas.Remapped.{IsMapped, mapped}
use Rattle.in_flight.specs.Lemmas.HeldFrames.{AgreesAt, ChangesOne, Passes, claimed_in_data, owned_by_one, inode_elsewhere, fits_then, loose_alike, agrees_of, owned_kept}
use Rattle.in_flight.specs.Lemmas.Frames.{SameSuperAndMap, loose_same}
use Rattle.in_flight.specs.Lemmas.Claims.{apart}
use Rattle.in_flight.specs.Lemmas.SameBytes.{growing_as}

-- the blocks that a copy's addresses lead to are the same where those pass
pub named_same : (test : ℕ → Bool) (x y : Image) (d : Dinode) → AgreesAt test x y → Passes test (addresses_in (pointers_in x d)) →
    addresses_in (pointers_in y d) ≡ addresses_in (pointers_in x d)
named_same test x y d h there = ap addresses_in (pointers_agree test x y d (agrees_of test x y d h there))

-- what is taken has no part in the file
pub growing_with : (x : Image) (i : ℕ) (g : Growth) (t : Option ℕ) (file : Option File) → IsGrowing x i g file →
    IsGrowing x i (record g { taken = t }) file
growing_with x i g t file h = growing_as x x i g g.copy t g.written file h h.fit h.same_kind h.labels refl refl h.bytes

-- ---- a block that its number owns is written

pub record WritesOwn (m : Files) (x : Image) (claims new : Claims) (i b : ℕ) (bytes : List ℕ) : Type 0 where
  pub fits : FitsHeld m x claims
  pub low : 1 ≤ i
  pub high : i < inode_count_of x
  pub claims_same : (j : ℕ) → j ≢ i → new j ≡ claims j
  pub mine : 1 ≤ count_of b (names_claimed x i (claims i))
  pub whole : length bytes ≡ 1024

module _ (m : Files) (x : Image) (claims new : Claims) (i b : ℕ) (bytes : List ℕ) (h : WritesOwn m x claims new i b bytes) where
  abbrev y : Image
  y = set x b bytes

  abbrev pub but_own : ℕ → Bool
  but_own c = not (eqb c b)

  pub away_own : (c : ℕ) → c ≢ b → but_own c ≡ true
  away_own c ne = ap not (ne_eqb c b ne)

  pub own_lies : LiesInData x b
  own_lies = claimed_in_data m x claims i b h.fits h.low h.high h.mine

  map : IsMapped x
  map = mapped x h.fits.geometry h.fits.full

  other_block : (c : ℕ) → c ≢ b → block_at y c ≡ block_at x c
  other_block c ne = get_or-set_other x b c bytes [] ne

  pub own_agrees : AgreesAt but_own x y
  own_agrees =
      let from = own_lies.0 in
      let behind = map.behind in
      let before = map.before_data in
      record { agree = Agrees-set x b bytes; one = away_own 1 (λ e. omega arith) }

  pub own_base : SameSuperAndMap x y
  own_base =
      let from = own_lies.0 in
      let behind = map.behind in
      let before = map.before_data in
      record {
        size = length-set x b bytes;
        super = other_block 1 (λ e. omega arith);
        map = other_block (super_of x).bmapstart (λ e. omega arith);
      }

  full_after : AreFull y
  full_after c low within =
      let size = own_base.size in
      ⊎_elim
      (λ (e : c ≡ b).
      ap (λ (d : ℕ). length (block_at y d)) e ∙ ap length (get_or-set_same x b bytes [] own_lies.1) ∙ h.whole)
      (λ (ne : c ≢ b). ap length (other_block c ne) ∙ h.fits.full c low (omega arith))
      (cases_eq c b)

  pub own_inode : (j : ℕ) → j < inode_count_of x → inode_of y j ≡ inode_of x j
  own_inode j inside =
      let from = own_lies.0 in
      let before = (apart x j h.fits.geometry inside).before_data in
      inode_elsewhere x j b bytes (λ e. omega (arith, e, from, before))

  others_pass : (j : ℕ) → 1 ≤ j → j < inode_count_of x → j ≢ i → Passes but_own (names_claimed x j (claims j))
  others_pass j low high ne c some =
      let none = owned_by_one m x claims i j b h.fits h.low h.high low high ne h.mine in
      away_own c (λ (e : c ≡ b).
      omega (arith, (ap (λ q. count_of q (names_claimed x j (claims j))) e ∙ none), some))

  change : ChangesOne but_own m x claims i m y new
  change =
      let some = h.low in
      record {
        fits = h.fits;
        agree = own_agrees;
        passes = others_pass;
        size = own_base.size;
        inodes = λ j inside ne. own_inode j inside;
        claims_same = h.claims_same;
        count = refl;
        files = λ j ne. refl;
        some = λ e. omega (arith, e, some);
      }

  pub writes_own : ((c : ℕ) → count_of c (names_claimed y i (new i)) ≡ count_of c (names_claimed x i (claims i))) →
      IsFine y i (new i) (file_in m i) → FitsThen m x claims i y new
  writes_own alike fine =
      fits_then but_own m x claims i m y new change full_after
      (loose_alike y (owned x claims) (owned y new)
      (λ c.
      let kept = owned_kept but_own m x claims i m y new change c h.low h.high in
      let same = alike c in
      omega arith)
      (loose_same x y (owned x claims) own_base h.fits.loose))
      fine
