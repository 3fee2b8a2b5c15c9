-- The blocks of addresses on the ways to the blocks that a writing writes: those on the way to any of them lie on the way to the first or to the last.
use Rattle.std.proofs.Common.{◌≡◌, ◌≢◌, ℕ, ◌+◌, ◌-◌, ◌/◌, ◌%◌, ◌<◌, ◌≤◌, ◌⊎◌, inl, inr, Bool, true, false, cond, eqb, ltb, List, [], ◌∷◌, ◌++◌, length, get_or, refl, sym, ap, subst, ◌∙◌, ⊎_elim, arith, length-append}
use Rattle.inodes.specs.Common.{addresses_in, block_at, block_limit, Branch, branch_of, cases_eq, cases_lt, Claims, count_of, counted, counted_of, deepest, depth_of, depths, Dinode, direct_count, direct_depth, eq-eqb, Files, Form, form_of, grows, Growth, Image, is_branch, IsHeldIn, le-ltb, led_to, lies_short, LiesOnWay, LogState, lt-ltb, ltb-true, most_beside, ne_eqb, Node, One, pointers_in, SameInside, Two, way_inside, way_named, way_to}
use Rattle.model.specs.Lemmas.Wholes.{thirteen_depths}
use Rattle.inodes.specs.Routes.{Route, node_by, nodes_by, routes_beyond, routes_to}
use Rattle.inodes.proofs.Routes.{IsRouteIn, LeadsOn, Shares, beyond_apart, beyond_shared, beyond_short, length-routes_to}

-- ---- how many blocks of a list are homes

-- what counts in one log counts in another
abbrev pub CountsOn : LogState → LogState → Type 0
CountsOn l m = (b : ℕ) → counted l b ≤ counted m b

pub counted_more : (l m : LogState) → CountsOn l m → (bs : List ℕ) → counted_of l bs ≤ counted_of m bs
counted_more l m on [] = omega arith
counted_more l m on (b ∷ bs) = let one = on b in let rest = counted_more l m on bs in omega (arith, one, rest)

-- one of them is a home from now on
pub counts_one : (l m : LogState) (a : ℕ) → CountsOn l m → counted m a ≡ 1 → (bs : List ℕ) → 1 ≤ count_of a bs → counted_of l bs + 1 ≤ counted_of m bs + counted l a
counts_one l m a on home [] some = absurd (omega (arith, some))
counts_one l m a on home (b ∷ bs) some =
    ⊎_elim
    (λ (same : b ≡ a).
    let one : counted m b ≡ 1 = ap (counted m) same ∙ home in
    let rest = counted_more l m on bs in
    omega (arith, one, (ap (counted l) same), rest))
    (λ (other : b ≢ a).
    let rest = counts_one l m a on home bs (let none : (let own : ℕ = cond (eqb b a) 1 0 in own) ≡ 0 = rw (ne_eqb b a other) refl in omega (arith, some, none)) in
    omega (arith, rest, (on b)))
    (cases_eq b a)

-- ---- the blocks of addresses to which routes lead

-- a list of routes leads to what one of them leads to
pub node_among : (x : Image) (d : Dinode) (r : Route) (rs : List Route) → IsRouteIn r rs → 1 ≤ count_of (node_by x d r) (nodes_by x d rs)
node_among x d r [] is = absurd is
node_among x d r (q ∷ qs) is =
    ⊎_elim
    (λ (here : q ≡ r). rw (eq-eqb (node_by x d q) (node_by x d r) (ap (node_by x d) here)) (omega arith))
    (λ (later : IsRouteIn r qs). let some = node_among x d r qs later in omega (arith, some))
    is

-- in an image in which they lead on
module _ (x y : Image) (d e : Dinode) where
  node_more : (l m : LogState) → CountsOn l m → (r : Route) → LeadsOn x y d e r → counted l (node_by x d r) ≤ counted m (node_by y e r)
  node_more l m on r leads =
      ⊎_elim
      (λ (none : node_by x d r ≡ 0). let gone : counted l (node_by x d r) ≡ 0 = ap (counted l) none in omega (arith, gone))
      (λ (some : node_by x d r ≢ 0).
      omega (arith, (on (node_by x d r)), (ap (counted m) (leads some))))
      (cases_eq (node_by x d r) 0)

  -- what counted there counts still
  pub nodes_more : (l m : LogState) → CountsOn l m → (rs : List Route) → ((r : Route) → IsRouteIn r rs → LeadsOn x y d e r) → counted_of l (nodes_by x d rs) ≤ counted_of m (nodes_by y e rs)
  nodes_more l m on [] leads = omega arith
  nodes_more l m on (q ∷ qs) leads =
      omega (arith, (node_more l m on q (leads q (inl refl))), (nodes_more l m on qs (λ r later. leads r (inr later))))

  -- and so does what one of them leads to from now on
  pub nodes_new : (m : LogState) (rs : List Route) → ((r : Route) → IsRouteIn r rs → LeadsOn x y d e r) → (r : Route) → IsRouteIn r rs → node_by x d r ≡ 0
      → counted_of m (nodes_by x d rs) + counted m (node_by y e r) ≤ counted_of m (nodes_by y e rs)
  nodes_new m [] leads r is none = absurd is
  nodes_new m (q ∷ qs) leads r is none =
      let same : CountsOn m m = λ b. omega arith in
      ⊎_elim
      (λ (here : q ≡ r).
      let now : counted m (node_by y e q) ≡ counted m (node_by y e r) = ap (λ (o : Route). counted m (node_by y e o)) here in
      let rest = nodes_more m m same qs (λ o later. leads o (inr later)) in
      omega (arith, (ap (λ (o : Route). counted m (node_by x d o)) here ∙ ap (counted m) none), now, rest))
      (λ (later : IsRouteIn r qs).
      let one = node_more m m same q (leads q (inl refl)) in
      omega (arith, one, (nodes_new m qs (λ o behind. leads o (inr behind)) r later none)))
      is

-- ---- in an image that has the same blocks at all that an inode names

-- an address that is there is the first of so many blocks of addresses
module _ (k : ℕ) where
  abbrev stands_by : Form → Bool → Bool → Branch
  stands_by f a b =
      cond a (record { index = k; depth = 0; rest = 0 })
      (cond b (record { index = direct_count f; depth = 1; rest = k - direct_count f }) (record { index = direct_count f + 1; depth = 2; rest = k - direct_count f - 256 }))

  depth_by : (f : Form) (a : Bool) → ltb k (direct_count f) ≡ a → (b : Bool) → (stands_by f a b).index < 13 → get_or (depths f) (stands_by f a b).index 0 ≡ (stands_by f a b).depth
  depth_by f true low b inside = direct_depth f k (ltb-true k (direct_count f) low)
  depth_by One false far true inside = refl
  depth_by One false far false inside = absurd (omega (arith, inside))
  depth_by Two false far true inside = refl
  depth_by Two false far false inside = refl

  -- behind its first block of addresses each depth has one address
  index_by : (f : Form) (a b : Bool) → (stands_by f a b).depth ≢ 0 → (stands_by f a b).index + 1 ≡ direct_count f + (stands_by f a b).depth
  index_by f true b some = absurd (some refl)
  index_by f false true some = omega arith
  index_by f false false some = omega arith

  deep_index : (form : Form) → (branch_of form k).depth ≢ 0 → (branch_of form k).index + 1 ≡ direct_count form + (branch_of form k).depth
  deep_index form = index_by form (ltb k (direct_count form)) (ltb (k - direct_count form) 256)

  depth_inside : (form : Form) → (branch_of form k).index < 13 → get_or (depths form) (branch_of form k).index 0 ≡ (branch_of form k).depth
  depth_inside form = depth_by form (ltb k (direct_count form)) refl (ltb (k - direct_count form) 256)

module _ (files : Files) (x : Image) (claims : Claims) (i : ℕ) (g : Growth) (h : IsHeldIn files x claims i (grows g)) where
  pub depth_there : (form : Form) → form ≡ form_of x → (k : ℕ) (way : List ℕ) (n : ℕ) → led_to x way (get_or g.copy.addrs (branch_of form k).index 0) ≡ n → n ≢ 0 → depth_of x (branch_of form k).index ≡ (branch_of form k).depth
  depth_there form is k way n led some =
      let b = branch_of form k in
      let inside = way_inside files x claims i g h b.index way n led some in
      let all = thirteen_depths (form_of x) in
      ap (λ (f : Form). get_or (depths f) b.index 0) (sym is) ∙ depth_inside k form (omega (arith, inside, all))

  pub same_inside : (y : Image) → ((n : ℕ) → 1 ≤ count_of n (addresses_in (pointers_in x g.copy)) → block_at y n ≡ block_at x n)
      → (form : Form) → form ≡ form_of x → (k : ℕ) → SameInside x y (branch_of form k).depth (get_or g.copy.addrs (branch_of form k).index 0)
  same_inside y same form is k way n led some short =
      same n (way_named files x claims i g h (branch_of form k).index way n (omega (arith, short, (depth_there form is k way n led some))) led some)

  -- a block of addresses on such a way is one of those
  pub lies_named : (form : Form) → form ≡ form_of x → (k : ℕ) (n : Node) → LiesOnWay x g.copy (branch_of form k) n → 1 ≤ count_of n.block (addresses_in (pointers_in x g.copy))
  lies_named form is k n lies =
      let b = branch_of form k in
      way_named files x claims i g h b.index lies.before n.block (omega (arith, (lies_short x g.copy b n lies), (depth_there form is k lies.before n.block lies.led lies.there))) lies.led lies.there

-- ---- the ways to the first block and to the last

at_indirect : (form : Form) (k : ℕ) → direct_count form ≤ k → k < direct_count form + 256 → branch_of form k ≡ record { index = direct_count form; depth = 1; rest = k - direct_count form }
at_indirect form k far near = rw (le-ltb k (direct_count form) far, lt-ltb (k - direct_count form) 256 (omega (arith, far, near))) refl

at_double : (k : ℕ) → 267 ≤ k → branch_of Two k ≡ record { index = 12; depth = 2; rest = k - 11 - 256 }
at_double k far = rw (le-ltb k 11 (omega (arith, far)), le-ltb (k - 11) 256 (omega (arith, far))) refl

-- what one entry is split into
one_split : (r : ℕ) (before : List ℕ) (e : ℕ) (rest : List ℕ) → r ∷ [] ≡ before ++ e ∷ rest → before ≡ []
one_split r [] e rest is = refl
one_split r (g ∷ before) e rest is =
    let sum = length-append before (e ∷ rest) in
    absurd (omega (arith, (ap (λ (l : List ℕ). length l) is), sum))

-- the one that comes to a block of addresses among those of the first way, or of the last one
module _ (form : Form) (first k last : ℕ) (from : first ≤ k) (to : k ≤ last) (near : last ≤ first + 3) (low : last < block_limit form) where
  abbrev Shared : List ℕ → ℕ → Type 0
  Shared before index = Shares before index (branch_of form first) ⊎ Shares before index (branch_of form last)

  abbrev direct : ℕ
  direct = direct_count form

  in_indirect : (j : ℕ) → direct ≤ j → j < direct + 256 → Shares [] direct (branch_of form j)
  in_indirect j far within = subst (Shares [] direct) (sym (at_indirect form j far within)) (record { index_is = refl; entry = (j - direct) / 1; rest = []; way = refl })

  by_indirect : direct ≤ k → k < direct + 256 → Shared [] direct
  by_indirect far within =
      ⊎_elim
      (λ (here : last < direct + 256). inr (in_indirect last (omega (arith, far, to)) here))
      (λ (past : direct + 256 ≤ last). inl (in_indirect first (omega (arith, past, near)) (omega (arith, from, within))))
      (cases_lt last (direct + 256))

  -- no way leads to a direct block
  at_direct : k < direct → branch_of form k ≡ record { index = k; depth = 0; rest = 0 }
  at_direct few = rw (lt-ltb k direct few) refl

  no_way : {A : Type 0} (before : List ℕ) (e : ℕ) (rest : List ℕ) → [] ≡ before ++ e ∷ rest → A
  no_way before e rest is =
      let sum = length-append before (e ∷ rest) in
      absurd (omega (arith, (ap (λ (l : List ℕ). length l) is), sum))

  abbrev Leads : Branch → Type 0
  Leads b = (before : List ℕ) (e : ℕ) (rest : List ℕ) → way_to b.depth b.rest ≡ before ++ e ∷ rest → Shared before b.index

  leads_direct : k < direct → Leads (branch_of form k)
  leads_direct few = subst Leads (sym (at_direct few)) (λ before e rest is. no_way before e rest is)

  leads_indirect : direct ≤ k → k < direct + 256 → Leads (branch_of form k)
  leads_indirect far within = subst Leads (sym (at_indirect form k far within)) (λ before e rest is.
      subst (λ (l : List ℕ). Shared l direct) (sym (one_split ((k - direct) / 1) before e rest is)) (by_indirect far within))

two_split : (r s : ℕ) (before : List ℕ) (e : ℕ) (rest : List ℕ) → r ∷ s ∷ [] ≡ before ++ e ∷ rest → (before ≡ []) ⊎ (before ≡ r ∷ [])
two_split r s [] e rest is = inl refl
two_split r s (g ∷ []) e rest is = inr (ap (λ h. h ∷ []) (sym (ap (λ (l : List ℕ). get_or l 0 0) is)))
two_split r s (g ∷ h ∷ before) e rest is =
    let sum = length-append before (e ∷ rest) in
    absurd (omega (arith, (ap (λ (l : List ℕ). length l) is), sum))

-- behind the block of blocks of addresses
module _ (first k last : ℕ) (from : first ≤ k) (to : k ≤ last) (near : last ≤ first + 3) (far : 267 ≤ k) where
  abbrev SharedThere : List ℕ → Type 0
  SharedThere before = Shares before 12 (branch_of Two first) ⊎ Shares before 12 (branch_of Two last)

  in_top : (j : ℕ) → 267 ≤ j → Shares [] 12 (branch_of Two j)
  in_top j there = subst (Shares [] 12) (sym (at_double j there)) (record { index_is = refl; entry = (j - 11 - 256) / 256; rest = (j - 11 - 256) % 256 / 1 ∷ []; way = refl })

  in_second : (j : ℕ) → 267 ≤ j → (j - 11 - 256) / 256 ≡ (k - 11 - 256) / 256 → Shares ((k - 11 - 256) / 256 ∷ []) 12 (branch_of Two j)
  in_second j there same = subst (Shares ((k - 11 - 256) / 256 ∷ []) 12) (sym (at_double j there))
      (record { index_is = refl; entry = (j - 11 - 256) % 256 / 1; rest = []; way = ap (λ g. g ∷ (j - 11 - 256) % 256 / 1 ∷ []) same })

  by_second : SharedThere ((k - 11 - 256) / 256 ∷ [])
  by_second =
      ⊎_elim
      (λ (same : (last - 11 - 256) / 256 ≡ (k - 11 - 256) / 256). inr (in_second last (omega (arith, far, to)) same))
      (λ (later : (last - 11 - 256) / 256 ≢ (k - 11 - 256) / 256).
      inl (in_second first (omega (arith, far, from, to, near, later)) (omega (arith, far, from, to, near, later))))
      (cases_eq ((last - 11 - 256) / 256) ((k - 11 - 256) / 256))

  leads_double : (before : List ℕ) (e : ℕ) (rest : List ℕ) → way_to (branch_of Two k).depth (branch_of Two k).rest ≡ before ++ e ∷ rest
      → Shares before (branch_of Two k).index (branch_of Two first) ⊎ Shares before (branch_of Two k).index (branch_of Two last)
  leads_double = subst (λ (b : Branch). (before : List ℕ) (e : ℕ) (rest : List ℕ) → way_to b.depth b.rest ≡ before ++ e ∷ rest → Shares before b.index (branch_of Two first) ⊎ Shares before b.index (branch_of Two last))
      (sym (at_double k far)) (λ before e rest is.
      ⊎_elim
      (λ (top : before ≡ []). subst SharedThere (sym top) (inr (in_top last (omega (arith, far, to)))))
      (λ (second : before ≡ (k - 11 - 256) / 256 ∷ []). subst SharedThere (sym second) by_second)
      (two_split ((k - 11 - 256) / 256) ((k - 11 - 256) % 256 / 1) before e rest is))

pub shares_way : (form : Form) (first k last : ℕ) → first ≤ k → k ≤ last → last ≤ first + 3 → last < block_limit form
    → (before : List ℕ) (e : ℕ) (rest : List ℕ) → way_to (branch_of form k).depth (branch_of form k).rest ≡ before ++ e ∷ rest
    → Shares before (branch_of form k).index (branch_of form first) ⊎ Shares before (branch_of form k).index (branch_of form last)
shares_way form first k last from to near low before e rest is =
    ⊎_elim (λ (few : k < direct_count form). leads_direct form first k last from to near low few before e rest is)
    (λ (far : direct_count form ≤ k).
    ⊎_elim (λ (within : k < direct_count form + 256). leads_indirect form first k last from to near low far within before e rest is)
    (λ (past : direct_count form + 256 ≤ k). by_form form low past is)
    (cases_lt k (direct_count form + 256)))
    (cases_lt k (direct_count form))
  where
    by_form : (f : Form) → last < block_limit f → direct_count f + 256 ≤ k → way_to (branch_of f k).depth (branch_of f k).rest ≡ before ++ e ∷ rest
        → Shares before (branch_of f k).index (branch_of f first) ⊎ Shares before (branch_of f k).index (branch_of f last)
    by_form One low past is = absurd (omega (arith, low, past, to))
    by_form Two low past is = leads_double first k last from to near past before e rest is

-- ---- how many routes lead to the first block and to the last

module _ (form : Form) (j k : ℕ) (first : j < block_limit form) (last : k < block_limit form) where
  abbrev a : Branch
  a = branch_of form j

  abbrev b : Branch
  b = branch_of form k

  abbrev all_routes : List Route
  all_routes = routes_to a ++ routes_beyond a b

  counted_so : length all_routes ≡ a.depth + length (routes_beyond a b)
  counted_so = let sum = length-append (routes_to a) (routes_beyond a b) in let one = length-routes_to a in omega (arith, sum, one)

  -- with the bitmap's block, where both go through one block of addresses
  few_shared : (f : Form) (n m : ℕ) → n ≤ deepest f → (n ≡ 0 → m ≡ 0) → m ≤ n - 1 → n + m + 1 ≤ most_beside f
  few_shared One n m deep none few = omega (arith, deep, few)
  few_shared Two n m deep none few = omega (arith, deep, few)

  -- and where they don't
  few_apart : (f : Form) (n m : ℕ) → n ≤ deepest f → m ≤ deepest f → (n ≢ m) ⊎ (n ≡ 0) → n + m + 1 ≤ most_beside f
  few_apart One n m one other apart = ⊎_elim (λ (ne : n ≢ m). omega (arith, one, other, ne)) (λ (z : n ≡ 0). omega (arith, one, other, z)) apart
  few_apart Two n m one other apart = ⊎_elim (λ (ne : n ≢ m). omega (arith, one, other, ne)) (λ (z : n ≡ 0). omega (arith, one, other, z)) apart

  pub routes_short : length all_routes + 1 ≤ most_beside form
  routes_short =
      let one = is_branch j form first in
      let other = is_branch k form last in
      let all = counted_so in
      ⊎_elim
      (λ (same : a.index ≡ b.index).
      let depth : a.depth ≡ b.depth = sym one.depth ∙ ap (λ (i : ℕ). get_or (depths form) i 0) same ∙ other.depth in
      ⊎_elim
      (λ (none : a.depth ≡ 0).
      let short = beyond_short a b in
      let few = few_shared form 0 0 (omega arith) (λ z. refl) (omega arith) in
      omega (arith, all, none, depth, short, few))
      (λ (some : a.depth ≢ 0).
      let short = beyond_shared a b same (omega (arith, some)) in
      let few = few_shared form a.depth (length (routes_beyond a b)) one.shallow (λ z. absurd (some z)) (omega (arith, short, depth)) in
      omega (arith, all, few))
      (cases_eq a.depth 0))
      (λ (apart : a.index ≢ b.index).
      let few = few_apart form a.depth b.depth one.shallow other.shallow
      (⊎_elim
      (λ (equal : a.depth ≡ b.depth).
      ⊎_elim (λ (none : a.depth ≡ 0). inr none)
      (λ (some : a.depth ≢ 0).
      absurd (apart (let here = deep_index j form some in let there = deep_index k form (λ z. some (equal ∙ z)) in omega (arith, here, there, equal))))
      (cases_eq a.depth 0))
      (λ (ne : a.depth ≢ b.depth). inl ne)
      (cases_eq a.depth b.depth)) in
      omega (arith, all, (beyond_apart a b apart), few))
      (cases_eq a.index b.index)
