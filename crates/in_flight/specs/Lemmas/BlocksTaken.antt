-- A task that writes begins, takes a block, and fills it with zeroes.
use Rattle.std.proofs.Common.{◌≡◌, ◌≢◌, ℕ, ◌+◌, ◌<◌, ◌≤◌, Bool, true, false, ◌||◌, ltb, List, [], ◌∷◌, ◌++◌, length, take, drop, Option, Some, None, refl, sym, ap, subst, ◌∙◌, ⊎_elim, arith, set, lt-ltb, cond, eqb, append-nil, take-append-drop}
use Rattle.in_flight.specs.Common.{addresses_in, block_at, BlockTaken, cases_eq, cases_lt, Claim, Claims, count_of, false≢true, file_in, Files, first_data_block, FitsThen, grows, Growth, has_bit-with_bit_other, has_bit-with_bit_same, Image, inode_count_of, is_marked, IsClaimedNow, IsFine, IsHeldIn, IsLoose, length-replicate, length-with_bit, listed, marked, names_claimed, or_right, overwritten, owned, pointers_in, super_of, TakenZeroed, taking, TurnGrows, with_bit}
use Rattle.blocks.specs.Block.{zero_block}
use Rattle.model.specs.Files.{bytes_in}
use Rattle.in_flight.specs.Lemmas.Looks.{between}
use Rattle.in_flight.specs.Lemmas.Remapped.{IsMapped, test, mapped, agrees, marks, size_same, inode_same, full_after, start_same}
use Rattle.in_flight.specs.Lemmas.Frames.{AgreesAtData}
use Rattle.model.specs.Layout.{inode_of}
use Rattle.in_flight.specs.Lemmas.HeldFrames.{ChangesOne, Passes, at_data, data_passes, owned_kept, fits_then, names_same, loose_alike, owned_once, fine_same, growing_of, grown_same}
use Rattle.in_flight.specs.Lemmas.HeldLooks.{resting_tells}
use Rattle.in_flight.specs.Lemmas.Growing.{WritesOwn, but_own, own_agrees, growing_with, away_own, named_same, writes_own, own_inode}
use Rattle.in_flight.specs.Lemmas.Claims.{apart}
use Rattle.in_flight.specs.Lemmas.Turns.{claim_turned}
use Rattle.in_flight.specs.Lemmas.GivenUp.{counted_here, counted_other, at_each}

-- ---- the turn

pub overwritten_none : (old : List ℕ) (at : ℕ) → at ≤ length old → overwritten old at [] ≡ old
overwritten_none old at inside =
    let same : at + 0 ≡ at = omega arith in
    ap (λ (l : List ℕ). l ++ drop (at + 0) old) (append-nil (take at old))
    ∙ ap (λ k. take at old ++ drop k old) same ∙ take-append-drop at old

pub turn_grows : TurnGrows
turn_grows m x claims new i off at_end f used none inside ends now =
    let d = inode_of x i in
    let its = (resting_tells m x claims i f used none).its in
    let reaches : off ≤ length (bytes_in x d) = omega (arith, its.length, inside) in
    claim_turned m x claims new i None _ f (between x i used.0) none now (λ c. refl)
    (record {
      fit = its.fit;
      same_kind = refl;
      labels = refl;
      old = record { kind = d.kind; links = d.nlink; bytes = bytes_in x d };
      was = its.file;
      kind = refl;
      links = refl;
      reaches = reaches;
      ends = λ is. let past = ends is in omega (arith, its.length, past);
      bytes = sym (overwritten_none (bytes_in x d) off reaches);
    })

-- ---- a bit is set

module _ (x : Image) (b : ℕ) (map : IsMapped x) where
  abbrev y : Image
  y = marked x b

  -- the bitmap with that bit set
  abbrev pub set_bits : List ℕ
  set_bits = with_bit (block_at x (super_of x).bmapstart) b

  now_set : b < length x → is_marked y b ≡ true
  now_set low =
      let room = map.room in
      let full = map.full in
      marks x set_bits map b ∙ has_bit-with_bit_same (block_at x (super_of x).bmapstart) b (omega arith)

  others_stay : (c : ℕ) → c ≢ b → is_marked y c ≡ is_marked x c
  others_stay c ne = marks x set_bits map c ∙ has_bit-with_bit_other (block_at x (super_of x).bmapstart) b c ne

  whole_bits : length set_bits ≡ 1024
  whole_bits = length-with_bit (block_at x (super_of x).bmapstart) b ∙ map.full

  -- a clear bit below the size is that of a data block which nobody owns
  pub record IsFree (owned : List ℕ) : Type 0 where
    pub from : first_data_block x ≤ b
    pub absent : count_of b owned ≡ 0

  clear_is_free : (owned : List ℕ) → IsLoose x owned → b < length x → is_marked x b ≡ false → IsFree owned
  clear_is_free owned l low clear =
      let is = sym clear ∙ l.marked b low in
      record {
        from = ⊎_elim
            (λ (lt : b < first_data_block x).
            absurd (false≢true (is ∙ ap (λ t. t || ltb 0 (count_of b owned)) (lt-ltb b (first_data_block x) lt))))
            (λ (le : first_data_block x ≤ b). le)
            (cases_lt b (first_data_block x));
        absent = ⊎_elim
            (λ (some : 0 < count_of b owned).
            absurd (false≢true (is ∙ or_right (ltb b (first_data_block x)) (ltb 0 (count_of b owned)) (lt-ltb 0 (count_of b owned) some))))
            (λ (le : count_of b owned ≤ 0). omega (arith, le))
            (cases_lt 0 (count_of b owned));
      }

  -- it is then owned
  loose_taken : (owned : List ℕ) → b < length x → IsFree owned → IsLoose x owned → IsLoose y (b ∷ owned)
  loose_taken owned low free l =
      let size = size_same x set_bits map in
      let start = start_same x set_bits map in
      let one = counted_here b owned in
      let none = free.absent in
      let from = free.from in
      record {
        in_data = λ c n. ⊎_elim
            (λ (e : c ≡ b). (omega (arith, e, start, from), omega (arith, e, low, size)))
            (λ (ne : c ≢ b).
            let o = l.in_data c (λ z. n (counted_other b c owned ne ∙ z)) in
            (let first = o.0 in omega (arith, first, start), let last = o.1 in omega (arith, last, size)))
            (cases_eq c b);
        once = at_each (λ c. count_of c (b ∷ owned) ≤ 1) b (omega (arith, one, none))
            (λ c ne. let s = counted_other b c owned ne in let o = l.once c in omega (arith, s, o));
        marked = at_each
            (λ c. c < length y → is_marked y c ≡ (ltb c (first_data_block y) || ltb 0 (count_of c (b ∷ owned)))) b
            (λ k. now_set low
            ∙ sym (or_right (ltb b (first_data_block y)) (ltb 0 (count_of b (b ∷ owned)))
            (lt-ltb 0 (count_of b (b ∷ owned)) (omega (arith, one)))))
            (λ c ne k. others_stay c ne ∙ l.marked c (omega (arith, k, size))
            ∙ ap (λ n. ltb c n || ltb 0 (count_of c owned)) (sym start)
            ∙ ap (λ n. ltb c (first_data_block y) || ltb 0 n) (sym (counted_other b c owned ne)));
      }

-- ---- a block is taken

record Takes (m : Files) (x : Image) (claims new : Claims) (i b : ℕ) (g : Growth) : Type 0 where
  held : IsHeldIn m x claims i (grows g)
  none : g.taken ≡ None
  inside : b < length x
  clear : is_marked x b ≡ false
  now : IsClaimedNow claims i (Some (grows (taking g b))) new

module _ (m : Files) (x : Image) (claims new : Claims) (i b : ℕ) (g : Growth) (h : Takes m x claims new i b g) where
  map : IsMapped x
  map = mapped x h.held.fits.geometry h.held.fits.full

  abbrev z : Image
  z = marked x b

  abbrev test_map : ℕ → Bool
  test_map = test x (set_bits x b map) map

  same_data : AgreesAtData test_map x z
  same_data = agrees x (set_bits x b map) map

  low : 1 ≤ i
  low = (between x i h.held.number).low

  high : i < inode_count_of x
  high = (between x i h.held.number).high

  inode_kept : (j : ℕ) → j < inode_count_of x → inode_of z j ≡ inode_of x j
  inode_kept j inside = inode_same x (set_bits x b map) map j (apart x j h.held.fits.geometry inside).before_map

  change : ChangesOne test_map m x claims i m z new
  change =
      let some = low in
      record {
        fits = h.held.fits;
        agree = at_data test_map x z same_data;
        passes = λ j first last ne. data_passes test_map m x z claims h.held.fits same_data j first last;
        size = size_same x (set_bits x b map) map;
        inodes = λ j inside ne. inode_kept j inside;
        claims_same = h.now.others;
        count = refl;
        files = λ j ne. refl;
        some = λ e. omega (arith, e, some);
      }

  own_passes : Passes test_map (names_claimed x i (Some (grows g)))
  own_passes =
      subst (λ (o : Option Claim). Passes test_map (names_claimed x i o)) h.held.holds
      (data_passes test_map m x z claims h.held.fits same_data i low high)

  free : IsFree x b map (owned x claims)
  free = clear_is_free x b map (owned x claims) h.held.fits.loose h.inside h.clear

  owned_more : (c : ℕ) → count_of c (b ∷ owned x claims) ≡ count_of c (owned z new)
  owned_more c =
      let kept = owned_kept test_map m x claims i m z new change c low high in
      let old : count_of c (names_claimed x i (claims i)) ≡ count_of c (names_claimed x i (Some (grows g)))
      = ap (λ (o : Option Claim). count_of c (names_claimed x i o)) h.held.holds in
      let same : count_of c (names_claimed z i (Some (grows g))) ≡ count_of c (names_claimed x i (Some (grows g)))
      = ap (count_of c) (names_same test_map x z i (Some (grows g)) change.agree (inode_kept i high) own_passes) in
      let bare : count_of c (names_claimed z i (Some (grows g))) ≡ count_of c (addresses_in (pointers_in z g.copy))
      = ap (λ t. count_of c (listed t ++ addresses_in (pointers_in z g.copy))) h.none in
      let own : count_of c (names_claimed z i (new i)) ≡ count_of c (b ∷ addresses_in (pointers_in z g.copy))
      = ap (λ (o : Option Claim). count_of c (names_claimed z i o)) h.now.own in
      let one : count_of c (b ∷ addresses_in (pointers_in z g.copy)) ≡ cond (eqb b c) 1 0 + count_of c (addresses_in (pointers_in z g.copy)) = refl in
      let two : count_of c (b ∷ owned x claims) ≡ cond (eqb b c) 1 0 + count_of c (owned x claims) = refl in
      omega (arith, kept, old, same, bare, own, one, two)

  takes : FitsThen m x claims i z new
  takes =
      fits_then test_map m x claims i m z new change
      (full_after x (set_bits x b map) map (whole_bits x b map) h.held.fits.full)
      (loose_alike z (b ∷ owned x claims) (owned z new) owned_more
      (loose_taken x b map (owned x claims) h.inside free h.held.fits.loose))
      (subst (λ (o : Option Claim). IsFine z i o (file_in m i)) (sym h.now.own)
      (growing_with z i g (Some b) (file_in m i)
      (fine_same test_map x z i (Some (grows g)) (file_in m i) change.agree (inode_kept i high) own_passes
      (growing_of m x claims i g h.held))))

pub block_taken : BlockTaken
block_taken m x claims new i b g held none inside clear now =
    takes m x claims new i b g (record { held = held; none = none; inside = inside; clear = clear; now = now })

-- ---- it is filled with zeroes

-- a number owns what its task took, and that once
pub taken_owned : (m : Files) (x : Image) (claims : Claims) (i b : ℕ) (g : Growth) → IsHeldIn m x claims i (grows g) → g.taken ≡ Some b →
    (1 ≤ count_of b (names_claimed x i (claims i))) × (count_of b (addresses_in (pointers_in x g.copy)) ≡ 0)
taken_owned m x claims i b g h is =
    let at = between x i h.number in
    let own : count_of b (names_claimed x i (claims i)) ≡ count_of b (listed g.taken ++ addresses_in (pointers_in x g.copy))
    = ap (λ (o : Option Claim). count_of b (names_claimed x i o)) h.holds in
    let has : count_of b (listed g.taken ++ addresses_in (pointers_in x g.copy)) ≡ count_of b (b ∷ addresses_in (pointers_in x g.copy))
    = ap (λ t. count_of b (listed t ++ addresses_in (pointers_in x g.copy))) is in
    let one = counted_here b (addresses_in (pointers_in x g.copy)) in
    (omega (arith, own, has, one), omega (arith, own, has, one, (owned_once m x claims i b h.fits at.low at.high)))

-- what a block that was taken holds has no part in any file
pub taken_written : (m : Files) (x : Image) (claims : Claims) (i b : ℕ) (g : Growth) (bytes : List ℕ) → IsHeldIn m x claims i (grows g) →
    g.taken ≡ Some b → length bytes ≡ 1024 → FitsThen m x claims i (set x b bytes) claims
taken_written m x claims i b g bytes h is whole =
    let at = between x i h.number in
    let owns = taken_owned m x claims i b g h is in
    let w : WritesOwn m x claims claims i b bytes =
    record { fits = h.fits; low = at.low; high = at.high; claims_same = λ j ne. refl; mine = owns.0; whole = whole } in
    let y = set x b bytes in
    let test = but_own m x claims claims i b bytes w in
    let agrees = own_agrees m x claims claims i b bytes w in
    let there : Passes test (addresses_in (pointers_in x g.copy)) =
    λ c some. away_own m x claims claims i b bytes w c
    (λ (e : c ≡ b).
    omega (arith, (ap (λ q. count_of q (addresses_in (pointers_in x g.copy))) e ∙ owns.1), some)) in
    let names = named_same test x y g.copy agrees there in
    writes_own m x claims claims i b bytes w
    (λ c.
    ap (λ (o : Option Claim). count_of c (names_claimed y i o)) h.holds
    ∙ ap (λ (l : List ℕ). count_of c (listed g.taken ++ l)) names
    ∙ sym (ap (λ (o : Option Claim). count_of c (names_claimed x i o)) h.holds))
    (subst (λ (o : Option Claim). IsFine y i o (file_in m i)) (sym h.holds)
    (grown_same test x y i g (file_in m i) agrees (own_inode m x claims claims i b bytes w i at.high) there (growing_of m x claims i g h)))

pub taken_zeroed : TakenZeroed
unfolding zero_block
taken_zeroed m x claims i b g h is = taken_written m x claims i b g zero_block h is (length-replicate {A = ℕ} 1024 0)
