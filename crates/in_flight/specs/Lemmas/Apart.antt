-- The blocks to which a task's copy leads are data blocks, and no two of them are one.
use Rattle.std.proofs.Common.{◌≡◌, ◌≢◌, ℕ, ◌+◌, ◌<◌, ◌≤◌, List, [], length, get_or, Option, Some, refl, sym, ap, ap₂, subst, ◌∙◌, ⊎_elim, arith}
use Rattle.in_flight.specs.Common.{addresses_in, cases_lt, Claim, Claims, count_of, count_of-append, depth_of, depths, Dinode, file_in, Files, form_of, get_or_past, grows, Growth, Image, IsClaimedNow, IsGrowing, IsHeldIn, IsMarkedData, led_to, listed, names_along, names_claimed, names_held, place_along, place_under, pointers_in, thirteen_depths}
use Rattle.model.specs.Places.{address_in}
use Rattle.in_flight.specs.Lemmas.BlocksTaken.{taken_owned}
use Rattle.in_flight.specs.Lemmas.Growing.{WritesOwn}
use Rattle.in_flight.specs.Lemmas.HeldFrames.{growing_of, owned_once, whole_names}
use Rattle.in_flight.specs.Lemmas.HeldLooks.{owned_marked}
use Rattle.in_flight.specs.Lemmas.Looks.{between}
use Rattle.in_flight.specs.Lemmas.Ways.{IsWayTo, led_none, led_along, along_apart, way_along}

module _ (m : Files) (x : Image) (claims : Claims) (i : ℕ) (g : Growth) (h : IsHeldIn m x claims i (grows g)) where
  abbrev d : Dinode
  d = g.copy

  abbrev ds : List ℕ
  ds = depths (form_of x)

  abbrev named : List ℕ
  named = addresses_in (pointers_in x d)

  growing : IsGrowing x i g (file_in m i)
  growing = growing_of m x claims i g h

  -- what the copy names, the number owns
  pub named_mine : (v : ℕ) → count_of v (names_claimed x i (claims i)) ≡ count_of v (listed g.taken) + count_of v named
  named_mine v =
      ap (λ (o : Option Claim). count_of v (names_claimed x i o)) h.holds ∙ count_of-append v (listed g.taken) named

  -- each once
  pub copy_once : (v : ℕ) → count_of v named ≤ 1
  copy_once v =
      let at = between x i h.number in
      omega (arith, (owned_once m x claims i v h.fits at.low at.high), (named_mine v))

  pub copy_marked : (v : ℕ) → 1 ≤ count_of v named → IsMarkedData x v
  copy_marked v some =
      owned_marked m x claims i v h.fits h.number (omega (arith, (named_mine v), some))

  -- a block that the copy names is written
  pub writes_named : (new : Claims) (o : Option Claim) (b : ℕ) (bytes : List ℕ) → IsClaimedNow claims i o new → 1 ≤ count_of b named → length bytes ≡ 1024 → WritesOwn m x claims new i b bytes
  writes_named new o b bytes now has whole =
      let at = between x i h.number in
      let mine = named_mine b in
      record {
        fits = h.fits;
        low = at.low;
        high = at.high;
        claims_same = now.others;
        mine = omega (arith, mine, has);
        whole = whole;
      }

  named_is : named ≡ names_along x ds d.addrs
  named_is = whole_names x d growing.fit.used

  -- a way that leads to a block begins with one of the inode's addresses
  pub way_inside : (slot : ℕ) (way : List ℕ) (v : ℕ) → led_to x way (get_or d.addrs slot 0) ≡ v → v ≢ 0 → slot < length ds
  way_inside slot way v led some =
      let all = thirteen_depths (form_of x) in
      let count = growing.fit.fields.count in
      ⊎_elim
      (λ (low : slot < length d.addrs). omega (arith, low, all, count))
      (λ (past : length d.addrs ≤ slot). absurd (some (sym led ∙ ap (led_to x way) (get_or_past d.addrs slot 0 past) ∙ led_none x way)))
      (cases_lt slot (length d.addrs))

  pub way_named : (slot : ℕ) (way : List ℕ) (v : ℕ) → length way ≤ depth_of x slot → led_to x way (get_or d.addrs slot 0) ≡ v → v ≢ 0 →
      1 ≤ count_of v named
  way_named slot way v short led some =
      subst (λ (l : List ℕ). 1 ≤ count_of v l) (sym named_is)
      (led_along x ds d.addrs slot way v (way_inside slot way v led some) short led some)

  pub slot_named : (slot : ℕ) → get_or d.addrs slot 0 ≢ 0 → 1 ≤ count_of (get_or d.addrs slot 0) named
  slot_named slot some = way_named slot [] (get_or d.addrs slot 0) (omega arith) refl some

  pub slot_marked : (slot : ℕ) → get_or d.addrs slot 0 ≢ 0 → IsMarkedData x (get_or d.addrs slot 0)
  slot_marked slot some = copy_marked (get_or d.addrs slot 0) (slot_named slot some)

  data_way : (k v : ℕ) → address_in x d k ≡ v → v ≢ 0 → (slot : ℕ) × (way : List ℕ) × IsWayTo x ds d.addrs k slot way
  unfolding address_in
  data_way k v is some = way_along x k ds d.addrs (λ z. some (sym is ∙ z))

  led_data : (k v slot : ℕ) (way : List ℕ) → address_in x d k ≡ v → IsWayTo x ds d.addrs k slot way → led_to x way (get_or d.addrs slot 0) ≡ v
  unfolding address_in
  led_data k v slot way is w = w.led ∙ is

  pub data_named : (k v : ℕ) → address_in x d k ≡ v → v ≢ 0 → 1 ≤ count_of v named
  data_named k v is some =
      let w = data_way k v is some in
      way_named w.0 w.1 v (omega (arith, w.2.long)) (led_data k v w.0 w.1 is w.2) some

  pub data_marked : (k : ℕ) → address_in x d k ≢ 0 → IsMarkedData x (address_in x d k)
  data_marked k some = copy_marked (address_in x d k) (data_named k (address_in x d k) refl some)

  pub named_held : (v : ℕ) → 1 ≤ count_of v named → count_of v (names_held x (grows g)) ≢ 0
  named_held v some none =
      let sum = count_of-append v (listed g.taken) named in omega (arith, some, none, sum)

  -- a block that was taken is marked, and none that the copy names
  pub taken_marked : (b : ℕ) → g.taken ≡ Some b → IsMarkedData x b
  taken_marked b is = owned_marked m x claims i b h.fits h.number (taken_owned m x claims i b g h is).0

  pub taken_apart : (b v : ℕ) → g.taken ≡ Some b → 1 ≤ count_of v named → v ≢ b
  taken_apart b v is some same =
      omega (arith, ((taken_owned m x claims i b g h is).1), some, (ap (λ c. count_of c named) same))

  -- two ways don't lead to one block
  lead_apart : (j k : ℕ) (one two : List ℕ) (v : ℕ) → length one ≤ depth_of x j → length two ≤ depth_of x k →
      led_to x one (get_or d.addrs j 0) ≡ v → led_to x two (get_or d.addrs k 0) ≡ v → v ≢ 0 → (j ≡ k → one ≢ two) → ⊥
  lead_apart j k one two v short_one short_two first second some apart =
      let both = along_apart x ds d.addrs j k one two v (way_inside j one v first some) (way_inside k two v second some)
      short_one short_two first second some apart in
      omega (arith, (subst (λ (l : List ℕ). count_of v l ≤ 1) named_is (copy_once v)), both)

  -- no data block of the file is one of its blocks of addresses
  pub data_apart : (slot : ℕ) (way : List ℕ) (a k : ℕ) → length way < depth_of x slot → led_to x way (get_or d.addrs slot 0) ≡ a → a ≢ 0 →
      address_in x d k ≢ a
  data_apart slot way a k short led some is =
      let w = data_way k a is some in
      let long = w.2.long in
      lead_apart slot w.0 way w.1 a (omega (arith, short)) (omega (arith, long)) led (led_data k a w.0 w.1 is w.2) some
      (λ e same.
      omega (arith, short, long, (ap (depth_of x) e), (ap (λ (l : List ℕ). length l) same)))

  -- and no two of its data blocks are one
  pub blocks_apart : (j k : ℕ) → j ≢ k → address_in x d k ≢ 0 → address_in x d j ≢ address_in x d k
  blocks_apart j k ne some same =
      let v = address_in x d k in
      let one = data_way j v same some in
      let two = data_way k v refl some in
      lead_apart one.0 two.0 one.1 two.1 v (omega (arith, one.2.long)) (omega (arith, two.2.long))
      (led_data j v one.0 one.1 same one.2) (led_data k v two.0 two.1 refl two.2) some
      (λ slots ways. ne (sym one.2.place ∙ ap₂ (λ (s : ℕ) (w : List ℕ). place_along ds s + place_under w) slots ways ∙ two.2.place))
