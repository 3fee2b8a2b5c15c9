-- A task's copy of its inode, or a block of addresses, names the block that the task took.
use Rattle.std.proofs.Common.{◌≡◌, ◌≢◌, ℕ, suc, ◌*◌, ◌<◌, ◌≤◌, List, [], ◌∷◌, ◌++◌, length, get_or, set, Option, Some, None, refl, sym, ap, subst, ◌∙◌, arith, cond, eqb, length-set, length-append, get_or-set_other}
use Rattle.in_flight.specs.Common.{address_along, addresses_in, AddressPlaced, AllByRecursion-append, AreFull, block_at, Claim, Claims, count_of, data_at, depths, Dinode, EntryPlaced, file_in, Files, FitsThen, Form, form_agree, form_of, greatest_size, grows, Growth, Image, IsClaimedNow, IsFine, IsGrowing, IsHeldIn, IsLawfulGeometry, IsMarkedData, LeadsToNone, length-overwritten, LiesInData, listed, names_along, names_claimed, place_of, placed_behind, placing, pointers_in, thirteen_depths, with_entry}
use Rattle.blocks.specs.Block.{zero_block}
use Rattle.model.specs.Places.{address_in}
use Rattle.in_flight.specs.Lemmas.Apart.{copy_marked, copy_once, data_apart, taken_apart, way_inside, way_named, writes_named}
use Rattle.in_flight.specs.Lemmas.BlocksTaken.{taken_owned}
use Rattle.in_flight.specs.Lemmas.GivenUp.{set_below}
use Rattle.in_flight.specs.Lemmas.Growing.{WritesOwn, but_own, own_agrees, own_inode, writes_own}
use Rattle.in_flight.specs.Lemmas.HeldFrames.{growing_of, claimed_in_data, labels_same, whole_names}
use Rattle.in_flight.specs.Lemmas.Looks.{IsBetween, between}
use Rattle.in_flight.specs.Lemmas.PlacedInTrees.{IsPlaced, entries_kept, entry_now, over, over_is, placed_along, set_along, under_fresh}
use Rattle.in_flight.specs.Lemmas.Remapped.{mapped}
use Rattle.in_flight.specs.Lemmas.SameBytes.{bytes_alike, growing_as, growing_at}
use Rattle.in_flight.specs.Lemmas.Turns.{claim_turned}
use Rattle.in_flight.specs.Lemmas.Ways.{KeepsEntries, address_kept, address_set, along_at, led_further, led_kept}

-- a block that was taken lies among the data
pub taken_lies : (m : Files) (x : Image) (claims : Claims) (i b : ℕ) (g : Growth) → IsHeldIn m x claims i (grows g) → g.taken ≡ Some b →
    LiesInData x b
taken_lies m x claims i b g h is =
    let at = between x i h.number in
    claimed_in_data m x claims i b h.fits at.low at.high (taken_owned m x claims i b g h is).0

-- the first block of the data lies behind the log, and each block has a small number
pub record IsSmall (b : ℕ) : Type 0 where
  pub behind : 33 < b
  pub small : b < 8192

pub lies_small : (x : Image) (b : ℕ) → IsLawfulGeometry x → AreFull x → LiesInData x b → IsSmall b
lies_small x b g full there =
    let map = mapped x g full in
    let behind = map.behind in
    record { behind = omega (arith, there.0, behind, map.before_data); small = omega (arith, there.1, map.room) }

pub some_taken : (m : Files) (x : Image) (claims : Claims) (i b : ℕ) (g : Growth) → IsHeldIn m x claims i (grows g) → g.taken ≡ Some b → b ≢ 0
some_taken m x claims i b g h is z =
    let behind = (lies_small x b h.fits.geometry h.fits.full (taken_lies m x claims i b g h is)).behind in omega (arith, behind, z)

-- ---- by one of the copy's own addresses

address_with : (x : Image) (d : Dinode) (slot b k : ℕ) → get_or d.addrs slot 0 ≡ 0 → address_in x d k ≢ 0 →
    address_in x (record d { addrs = set d.addrs slot b }) k ≡ address_in x d k
unfolding address_in
address_with x d slot b k none some = address_set x k (depths (form_of x)) d.addrs slot b none some

pub address_placed : AddressPlaced
address_placed m x claims new i slot b g held is inside none zeroes now =
    let growing = growing_of m x claims i g held in
    let addrs = g.copy.addrs in
    let ds = depths (form_of x) in
    let count = growing.fit.fields.count in
    let fresh = under_fresh x (get_or ds slot 0) b (some_taken m x claims i b g held is) zeroes in
    (claim_turned m x claims new i _ _ held.fits (between x i held.number) held.holds now
    (λ c.
    ap (count_of c) (whole_names x (placing g slot b).copy growing.fit.used)
    ∙ set_along x ds addrs slot b c (omega (arith, inside, (thirteen_depths (form_of x)), count)) inside none fresh
    ∙ ap (λ (l : List ℕ). count_of c (b ∷ l)) (sym (whole_names x g.copy growing.fit.used))
    ∙ sym (ap (λ t. count_of c (listed t ++ addresses_in (pointers_in x g.copy))) is))
    (growing_at x i g (set addrs slot b) None (file_in m i) growing (length-set addrs slot b ∙ count)
    (set_below addrs slot b (omega (arith, ((lies_small x b held.fits.geometry held.fits.full (taken_lies m x claims i b g held is)).small))) growing.fit.fields.addrs)
    (λ k need. address_with x g.copy slot b k none (growing.fit.whole k need)))).fits

-- ---- by an entry of a block of addresses

record PlacesBehind (m : Files) (x : Image) (claims new : Claims) (i slot a e b depth : ℕ) (way : List ℕ) (g : Growth) : Type 0 where
  held : IsHeldIn m x claims i (grows g)
  is : g.taken ≡ Some b
  leads : LeadsToNone x g.copy slot way a e depth
  zeroes : depth ≢ 0 → block_at x b ≡ zero_block
  now : IsClaimedNow claims i (Some (grows (placed_behind g))) new

module _ (m : Files) (x : Image) (claims new : Claims) (i slot a e b depth : ℕ) (way : List ℕ) (g : Growth)
    (h : PlacesBehind m x claims new i slot a e b depth way g) where
  abbrev d : Dinode
  d = g.copy

  abbrev ds : List ℕ
  ds = depths (form_of x)

  abbrev bytes : List ℕ
  bytes = with_entry (block_at x a) e b

  abbrev y : Image
  y = set x a bytes

  growing : IsGrowing x i g (file_in m i)
  growing = growing_of m x claims i g h.held

  number : IsBetween x i
  number = between x i h.held.number

  named : 1 ≤ count_of a (addresses_in (pointers_in x d))
  named =
      way_named m x claims i g h.held slot way a (omega (arith, h.leads.below)) h.leads.led h.leads.there

  marked_data : IsMarkedData x a
  marked_data = copy_marked m x claims i g h.held a named

  full : length (block_at x a) ≡ 1024
  full =
      h.held.fits.full a (omega (arith, ((lies_small x a h.held.fits.geometry h.held.fits.full marked_data.0).behind))) marked_data.0.1

  is_placed : IsPlaced x a e b depth
  is_placed =
      let small = (lies_small x b h.held.fits.geometry h.held.fits.full (taken_lies m x claims i b g h.held h.is)).small in
      record {
        full = full;
        inside = marked_data.0.1;
        there = h.leads.there;
        low = h.leads.entry;
        none = h.leads.none;
        small = omega (arith, small);
        fresh = under_fresh y depth b (some_taken m x claims i b g h.held h.is)
            (λ deep. get_or-set_other x a b bytes [] (λ same. taken_apart m x claims i g h.held b a h.is named (sym same)) ∙ h.zeroes deep);
      }

  writes : WritesOwn m x claims new i a bytes
  writes =
      writes_named m x claims i g h.held new _ a bytes h.now named
      (length-overwritten (block_at x a) (4 * e) _ (let low = h.leads.entry in let size = full in omega (arith, low, size)) ∙ full)

  same_form : form_of y ≡ form_of x
  same_form =
      let agrees = own_agrees m x claims new i a bytes writes in
      form_agree (but_own m x claims new i a bytes writes) x y agrees.agree agrees.one

  slot_inside : slot < length ds
  slot_inside = way_inside m x claims i g h.held slot way a h.leads.led h.leads.there

  keeps : KeepsEntries x y
  keeps n f = entries_kept x a e b depth is_placed n f

  -- the blocks that the size needs are the same
  leads_same : (k : ℕ) → k * 1024 < d.size → address_in y d k ≡ address_in x d k
  unfolding address_in
  leads_same k need =
      ap (λ (f : Form). address_along y k (depths f) d.addrs) same_form
      ∙ address_kept x y keeps k ds d.addrs (growing.fit.whole k need)

  blocks_same : (k : ℕ) → k * 1024 < d.size → data_at y (address_in y d k) ≡ data_at x (address_in x d k)
  blocks_same k need =
      ap (data_at y) (leads_same k need)
      ∙ ap (λ (l : List ℕ). cond (eqb (address_in x d k) 0) [] l)
      (get_or-set_other x a (address_in x d k) bytes [] (data_apart m x claims i g h.held slot way a k (omega (arith, h.leads.below)) h.leads.led h.leads.there))

  fine : IsGrowing y i (placed_behind g) (file_in m i)
  fine =
      let still = own_inode m x claims new i a bytes writes i number.high in
      growing_as x y i g d None g.written (file_in m i) growing
      (record {
        fields = growing.fit.fields;
        used = growing.fit.used;
        kind = growing.fit.kind;
        size = subst (λ (f : Form). d.size ≤ greatest_size f) (sym same_form) growing.fit.size;
        whole = λ k need z. growing.fit.whole k need (sym (leads_same k need) ∙ z);
      })
      (ap (λ (o : Dinode). o.kind) still ∙ growing.same_kind) (labels_same x y i (d.major, d.minor) still growing.labels) refl refl
      (bytes_alike x y d d refl blocks_same ∙ growing.bytes)

  deep : get_or ds slot 0 ≡ over way (suc depth)
  deep = let is = over_is way (suc depth) in let below = h.leads.below in omega (arith, is, below)

  once : count_of a (names_along x ds d.addrs) ≤ 1
  once = subst (λ (l : List ℕ). count_of a l ≤ 1) (whole_names x d growing.fit.used) (copy_once m x claims i g h.held a)

  alike : (c : ℕ) → count_of c (names_claimed y i (new i)) ≡ count_of c (names_claimed x i (claims i))
  alike c =
      ap (λ (o : Option Claim). count_of c (names_claimed y i o)) h.now.own
      ∙ ap (count_of c) (whole_names y d growing.fit.used ∙ ap (λ (f : Form). names_along y (depths f) d.addrs) same_form)
      ∙ placed_along x a e b depth is_placed way ds d.addrs slot c slot_inside deep h.leads.led once
      ∙ ap (λ (l : List ℕ). count_of c (b ∷ l)) (sym (whole_names x d growing.fit.used))
      ∙ sym (ap (λ (o : Option Claim). count_of c (names_claimed x i o)) h.held.holds
      ∙ ap (λ t. count_of c (listed t ++ addresses_in (pointers_in x d))) h.is)

  placed_entry : FitsThen m x claims i y new
  placed_entry =
      writes_own m x claims new i a bytes writes alike
      (subst (λ (o : Option Claim). IsFine y i o (file_in m i)) (sym h.now.own) fine)

  at_entry : depth ≡ 0 → address_in y d (place_of x slot (way ++ e ∷ [])) ≡ b
  unfolding address_in
  at_entry leaf =
      let inside = slot_inside in
      let count = growing.fit.fields.count in
      let sum = length-append way (e ∷ []) in
      ap (λ (f : Form). address_along y (place_of x slot (way ++ e ∷ [])) (depths f) d.addrs) same_form
      ∙ along_at y ds d.addrs slot (way ++ e ∷ []) inside (omega (arith, inside, (thirteen_depths (form_of x)), count)) (omega (arith, sum, h.leads.below, leaf))
      (AllByRecursion-append (λ f. f < 256) way (e ∷ []) h.leads.entries (h.leads.entry, tt))
      ∙ led_further y way (get_or d.addrs slot 0) e a (led_kept x y keeps way (get_or d.addrs slot 0) a h.leads.led h.leads.there) h.leads.there
      ∙ entry_now x a e b depth is_placed

pub entry_placed : EntryPlaced
entry_placed m x claims new i slot a e b depth way g held is leads zeroes now =
    let h : PlacesBehind m x claims new i slot a e b depth way g = record { held = held; is = is; leads = leads; zeroes = zeroes; now = now } in
    (placed_entry m x claims new i slot a e b depth way g h, at_entry m x claims new i slot a e b depth way g h)
