-- The routes to blocks of addresses: which of them a list has, how many there are, and where they lead when an image changes.
use Rattle.std.proofs.Common.{◌≡◌, ◌≢◌, ℕ, suc, ◌+◌, ◌-◌, ◌≤◌, ◌⊎◌, inl, inr, Bool, true, false, cond, eqb, List, [], ◌∷◌, ◌++◌, append_assoc, append-nil, length, length-append, get_or, refl, sym, ap, subst, ◌∙◌, ⊎_elim, arith}
use Rattle.inodes.specs.Common.{Branch, cases_eq, Dinode, eq-eqb, Image, KeepsBehind, led_behind, led_none, led_to, length-way_to, ne_eqb, way_to}
use Rattle.inodes.specs.Routes.{Route, node_by, routes_beyond, routes_on, routes_past, routes_to}

-- a list has it
abbrev pub IsRouteIn : Route → List Route → Type 0
IsRouteIn r [] = ⊥
IsRouteIn r (q ∷ qs) = (q ≡ r) ⊎ IsRouteIn r qs

pub in_first : (r : Route) (qs rs : List Route) → IsRouteIn r qs → IsRouteIn r (qs ++ rs)
in_first r [] rs is = absurd is
in_first r (q ∷ qs) rs is = ⊎_elim (λ (here : q ≡ r). inl here) (λ (later : IsRouteIn r qs). inr (in_first r qs rs later)) is

pub in_second : (r : Route) (qs rs : List Route) → IsRouteIn r rs → IsRouteIn r (qs ++ rs)
in_second r [] rs is = is
in_second r (q ∷ qs) rs is = inr (in_second r qs rs is)

pub in_either : (r : Route) (qs rs : List Route) → IsRouteIn r (qs ++ rs) → IsRouteIn r qs ⊎ IsRouteIn r rs
in_either r [] rs is = inr is
in_either r (q ∷ qs) rs is =
    ⊎_elim (λ (here : q ≡ r). inl (inl here))
    (λ (later : IsRouteIn r (qs ++ rs)). ⊎_elim (λ (one : IsRouteIn r qs). inl (inr one)) (λ (other : IsRouteIn r rs). inr other) (in_either r qs rs later))
    is

-- ---- those on a way

abbrev pub route : ℕ → List ℕ → Route
route index entries = record { index = index; entries = entries }

-- a way's first entries lead to one of its blocks of addresses
on_way : (index : ℕ) (before way : List ℕ) (e : ℕ) (rest : List ℕ) → IsRouteIn (route index (before ++ way)) (routes_on index before (way ++ e ∷ rest))
on_way index before [] e rest = inl (ap (route index) (sym (append-nil before)))
on_way index before (f ∷ way) e rest =
    inr (subst (λ (w : List ℕ). IsRouteIn (route index w) (routes_on index (before ++ f ∷ []) (way ++ e ∷ rest)))
    (append_assoc before (f ∷ []) way) (on_way index (before ++ f ∷ []) way e rest))

-- and another way leads there as well, or it counts beside that one
past_way : (index : ℕ) (before other way : List ℕ) (e : ℕ) (rest : List ℕ) → IsRouteIn (route index (before ++ way)) (routes_on index before other) ⊎ IsRouteIn (route index (before ++ way)) (routes_past index before other (way ++ e ∷ rest))
past_way index before [] way e rest = inr (on_way index before way e rest)
past_way index before (g ∷ other) [] e rest = inl (inl (ap (route index) (sym (append-nil before))))
past_way index before (g ∷ other) (f ∷ way) e rest =
    ⊎_elim
    (λ (same : g ≡ f).
    ⊎_elim
    (λ (shared : IsRouteIn r (routes_on index further other)). inl (inr (subst (λ (h : ℕ). IsRouteIn r (routes_on index (before ++ h ∷ []) other)) (sym same) shared)))
    (λ (past : IsRouteIn r (routes_past index further other (way ++ e ∷ rest))). inr (rw (eq-eqb g f same) past))
    (subst (λ (w : List ℕ). IsRouteIn (route index w) (routes_on index further other) ⊎ IsRouteIn (route index w) (routes_past index further other (way ++ e ∷ rest)))
    (append_assoc before (f ∷ []) way) (past_way index further other way e rest)))
    (λ (apart : g ≢ f).
    inr (rw (ne_eqb g f apart) (subst (λ (w : List ℕ). IsRouteIn (route index w) (routes_on index further (way ++ e ∷ rest))) (append_assoc before (f ∷ []) way) (on_way index further way e rest))))
    (cases_eq g f)
  where
    further : List ℕ
    further = before ++ f ∷ []

    r : Route
    r = route index (before ++ f ∷ way)

-- the first entries of the way to a branch are those, and more follow
pub record Shares (before : List ℕ) (index : ℕ) (c : Branch) : Type 0 where
  pub index_is : c.index ≡ index
  pub entry : ℕ
  pub rest : List ℕ
  pub way : way_to c.depth c.rest ≡ before ++ entry ∷ rest

pub in_one : (before : List ℕ) (index : ℕ) (a b : Branch) → Shares before index a → IsRouteIn (route index before) (routes_to a ++ routes_beyond a b)
in_one before index a b shares =
    in_first (route index before) (routes_to a) (routes_beyond a b)
    (subst (λ (j : ℕ). IsRouteIn (route j before) (routes_to a)) shares.index_is
    (subst (λ (w : List ℕ). IsRouteIn (route a.index before) (routes_on a.index [] w)) (sym shares.way) (on_way a.index [] before shares.entry shares.rest)))

pub in_other : (before : List ℕ) (index : ℕ) (a b : Branch) → Shares before index b → IsRouteIn (route index before) (routes_to a ++ routes_beyond a b)
in_other before index a b shares =
    subst (λ (j : ℕ). IsRouteIn (route j before) (routes_to a ++ routes_beyond a b)) shares.index_is
    (⊎_elim
    (λ (same : a.index ≡ b.index).
    ⊎_elim
    (λ (shared : IsRouteIn r (routes_on b.index [] (way_to a.depth a.rest))). in_first r (routes_to a) (routes_beyond a b) (subst (λ (j : ℕ). IsRouteIn r (routes_on j [] (way_to a.depth a.rest))) (sym same) shared))
    (λ (past : IsRouteIn r (routes_past b.index [] (way_to a.depth a.rest) (way_to b.depth b.rest))). in_second r (routes_to a) (routes_beyond a b) (rw (eq-eqb a.index b.index same) past))
    (subst (λ (w : List ℕ). IsRouteIn r (routes_on b.index [] (way_to a.depth a.rest)) ⊎ IsRouteIn r (routes_past b.index [] (way_to a.depth a.rest) w)) (sym shares.way)
    (past_way b.index [] (way_to a.depth a.rest) before shares.entry shares.rest)))
    (λ (apart : a.index ≢ b.index).
    in_second r (routes_to a) (routes_beyond a b) (rw (ne_eqb a.index b.index apart)
    (subst (λ (w : List ℕ). IsRouteIn r (routes_on b.index [] w)) (sym shares.way) (on_way b.index [] before shares.entry shares.rest))))
    (cases_eq a.index b.index))
  where
    r : Route
    r = route b.index before

-- ---- how many there are

pub length-routes_on : (index : ℕ) (before way : List ℕ) → length (routes_on index before way) ≡ length way
length-routes_on index before [] = refl
length-routes_on index before (e ∷ way) = ap suc (length-routes_on index (before ++ e ∷ []) way)

past_short : (index : ℕ) (before other way : List ℕ) → length (routes_past index before other way) ≤ length way
past_short index before [] way = let same = length-routes_on index before way in omega (arith, same)
past_short index before (e ∷ other) [] = omega arith
past_short index before (e ∷ other) (f ∷ way) =
    ⊎_elim
    (λ (same : e ≡ f). rw (eq-eqb e f same) (let short = past_short index (before ++ f ∷ []) other way in omega (arith, short)))
    (λ (apart : e ≢ f). rw (ne_eqb e f apart) (let all = length-routes_on index (before ++ f ∷ []) way in omega (arith, all)))
    (cases_eq e f)

-- the first one is shared
past_shorter : (index : ℕ) (before other way : List ℕ) → 1 ≤ length other → length (routes_past index before other way) ≤ length way - 1
past_shorter index before [] way some = absurd (omega (arith, some))
past_shorter index before (e ∷ other) [] some = omega arith
past_shorter index before (e ∷ other) (f ∷ way) some =
    ⊎_elim
    (λ (same : e ≡ f). rw (eq-eqb e f same) (let short = past_short index (before ++ f ∷ []) other way in omega (arith, short)))
    (λ (apart : e ≢ f). rw (ne_eqb e f apart) (let all = length-routes_on index (before ++ f ∷ []) way in omega (arith, all)))
    (cases_eq e f)

pub length-routes_to : (b : Branch) → length (routes_to b) ≡ b.depth
length-routes_to b = length-routes_on b.index [] (way_to b.depth b.rest) ∙ length-way_to b.depth b.rest

pub beyond_apart : (a b : Branch) → a.index ≢ b.index → length (routes_beyond a b) ≡ b.depth
beyond_apart a b apart = rw (ne_eqb a.index b.index apart) (length-routes_to b)

pub beyond_shared : (a b : Branch) → a.index ≡ b.index → 1 ≤ a.depth → length (routes_beyond a b) ≤ b.depth - 1
beyond_shared a b same some =
    let long = length-way_to a.depth a.rest in
    let all = length-way_to b.depth b.rest in
    rw (eq-eqb a.index b.index same)
    (let short = past_shorter b.index [] (way_to a.depth a.rest) (way_to b.depth b.rest) (omega (arith, some, long)) in omega (arith, short, all))

pub beyond_short : (a b : Branch) → length (routes_beyond a b) ≤ b.depth
beyond_short a b =
    let all = length-way_to b.depth b.rest in
    ⊎_elim
    (λ (same : a.index ≡ b.index).
    rw (eq-eqb a.index b.index same) (let short = past_short b.index [] (way_to a.depth a.rest) (way_to b.depth b.rest) in omega (arith, short, all)))
    (λ (apart : a.index ≢ b.index). let is = beyond_apart a b apart in omega (arith, is))
    (cases_eq a.index b.index)

-- ---- where they lead in another image, from another inode

-- it leads on to the block of addresses to which it led
abbrev pub LeadsOn : Image → Image → Dinode → Dinode → Route → Type 0
LeadsOn x y d e r = node_by x d r ≢ 0 → node_by y e r ≡ node_by x d r

-- in another image another inode leads on so far
pub record KeepsTo (x y : Image) (d e : Dinode) (c : Branch) : Type 0 where
  pub address : get_or d.addrs c.index 0 ≢ 0 → get_or e.addrs c.index 0 ≡ get_or d.addrs c.index 0
  pub behind : KeepsBehind x y c.depth (get_or d.addrs c.index 0)

-- a route begins there, and is no longer than so
abbrev pub IsWithin : ℕ → ℕ → Route → Type 0
IsWithin index most r = (r.index ≡ index) × (length r.entries ≤ most)

within_on : (index most : ℕ) (before way : List ℕ) → length before + length way ≤ most → (r : Route) → IsRouteIn r (routes_on index before way) → IsWithin index most r
within_on index most before [] short r is = absurd is
within_on index most before (e ∷ way) short r is =
    ⊎_elim
    (λ (here : route index before ≡ r). subst (IsWithin index most) here (refl, omega (arith, short)))
    (λ (later : IsRouteIn r (routes_on index (before ++ e ∷ []) way)).
    within_on index most (before ++ e ∷ []) way (let sum = length-append before (e ∷ []) in omega (arith, short, sum)) r later)
    is

within_past : (index most : ℕ) (before other way : List ℕ) → length before + length way ≤ most → (r : Route) → IsRouteIn r (routes_past index before other way) → IsWithin index most r
within_past index most before [] way short r is = within_on index most before way short r is
within_past index most before (e ∷ other) [] short r is = absurd is
within_past index most before (e ∷ other) (f ∷ way) short r is =
    let further : length (before ++ f ∷ []) + length way ≤ most = (let sum = length-append before (f ∷ []) in omega (arith, short, sum)) in
    by_same (eqb e f) (within_past index most (before ++ f ∷ []) other way further r) (within_on index most (before ++ f ∷ []) way further r) is
  where
    by_same : (t : Bool) → (IsRouteIn r (routes_past index (before ++ f ∷ []) other way) → IsWithin index most r) → (IsRouteIn r (routes_on index (before ++ f ∷ []) way) → IsWithin index most r)
        → IsRouteIn r (cond t (routes_past index (before ++ f ∷ []) other way) (routes_on index (before ++ f ∷ []) way)) → IsWithin index most r
    by_same true past on is = past is
    by_same false past on is = on is

-- so the routes on the way to the branch lead on
module _ (x y : Image) (d e : Dinode) (c : Branch) (keeps : KeepsTo x y d e c) where
  leads_within : (r : Route) → IsWithin c.index c.depth r → LeadsOn x y d e r
  leads_within r within some =
      let a = get_or d.addrs c.index 0 in
      let here : node_by x d r ≡ led_to x r.entries a = ap (λ (j : ℕ). led_to x r.entries (get_or d.addrs j 0)) within.0 in
      let address : a ≢ 0 = λ none. some (here ∙ ap (led_to x r.entries) none ∙ led_none x r.entries) in
      (ap (λ (j : ℕ). led_to y r.entries (get_or e.addrs j 0)) within.0) ∙ ap (led_to y r.entries) (keeps.address address)
      ∙ led_behind x y c.depth r.entries a (node_by x d r) within.1 keeps.behind (sym here) some

  pub to_leads : (r : Route) → IsRouteIn r (routes_to c) → LeadsOn x y d e r
  to_leads r is =
      leads_within r (within_on c.index c.depth [] (way_to c.depth c.rest) (let long = length-way_to c.depth c.rest in omega (arith, long)) r is)

  pub beyond_leads : (a : Branch) (r : Route) → IsRouteIn r (routes_beyond a c) → LeadsOn x y d e r
  beyond_leads a r is = by_index (eqb a.index c.index) is
    where
      by_index : (t : Bool) → IsRouteIn r (cond t (routes_past c.index [] (way_to a.depth a.rest) (way_to c.depth c.rest)) (routes_to c)) → LeadsOn x y d e r
      by_index true past =
          leads_within r (within_past c.index c.depth [] (way_to a.depth a.rest) (way_to c.depth c.rest) (let long = length-way_to c.depth c.rest in omega (arith, long)) r past)
      by_index false on = to_leads r on
