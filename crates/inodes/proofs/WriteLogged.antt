-- How many homes a writing adds to the log: a block that is a home already adds none.
use Rattle.std.proofs.Common.{◌≡◌, ◌≢◌, ℕ, ◌+◌, ◌-◌, ◌/◌, ◌<◌, ◌≤◌, Bool, true, false, cond, eqb, List, [], ◌∷◌, ◌++◌, length, set, slice_index, refl, sym, ◌∙◌, ap, subst, ⊎_elim, arith, Some}
use Rattle.inodes.specs.Common.{at_hand, blocks_left, Branch, branch_of, cases_eq, count_of, counted, counted_of, Dinode, eqb-false, first_branch, Form, get_or-set_other, get_or-set_same, greatest_size, HasLoggedWrite, HasOpen, HaveLogged, homes_beside, Image, is_among, last_branch, LoggedAt, LogState, most_beside, ne_eqb, next_block, no_task, noted, noted_among, noted_grows, noted_home, One, routes_of, same_keeps, SameInside, Stage, task, TaskState, Two, used_by, used_noted_new, way_to, within_limit, WriteState}
use Rattle.inodes.specs.Routes.{Route, node_by, nodes_by, routes_beyond, routes_to}
use Rattle.inodes.proofs.Agreeing.{counts_more}
use Rattle.inodes.proofs.Routes.{IsRouteIn, KeepsTo, LeadsOn, beyond_leads, in_either, in_one, in_other, route, to_leads}
use Rattle.inodes.proofs.WriteNodes.{CountsOn, counted_more, counts_one, node_among, nodes_more, nodes_new, routes_short, shares_way}

pub counted_most : (l : LogState) (b : ℕ) → counted l b ≤ 1
counted_most l b = by_zero (eqb b 0) (is_among b l.homes)
  where
    by_zero : (z t : Bool) → cond z 0 (cond t 1 0) ≤ 1
    by_zero true t = omega arith
    by_zero false true = omega arith
    by_zero false false = omega arith

-- what process p added once it logged block a
pub record AddsOne (l : LogState) (p a homes : ℕ) : Type 0 where
  pub now : ℕ
  pub used : used_by (noted l p a) p ≡ Some now
  pub few : now + counted l a ≤ homes + 1
  pub one : counted (noted l p a) a ≡ 1

pub adds_one : (l : LogState) (p a homes : ℕ) → p < length l.used → used_by l p ≡ Some homes → a ≢ 0 → AddsOne l p a homes
adds_one l p a homes lt used some = by_home (is_among a l.homes) refl
  where
    one_now : counted (noted l p a) a ≡ 1
    one_now = rw (ne_eqb a 0 some, noted_among l p a) refl

    by_home : (t : Bool) → is_among a l.homes ≡ t → AddsOne l p a homes
    by_home true home =
        let most = counted_most l a in
        record { now = homes; used = ap (λ (k : LogState). used_by k p) (noted_home l p a home) ∙ used; few = omega (arith, most); one = one_now }
    by_home false new =
        let none : counted l a ≡ 0 = rw (ne_eqb a 0 some, new) refl in
        record { now = homes + 1; used = used_noted_new l p a homes lt used new; few = omega (arith, none); one = one_now }

-- what counted before counts still
pub counts_on : (l : LogState) (p a : ℕ) → CountsOn l (noted l p a)
counts_on l p a b = counts_more l (noted l p a) b (noted_grows l p a b)

-- ---- what may be logged beside the file's blocks

abbrev pub beside : Image → Dinode → WriteState → List ℕ
beside x d m = m.extent.bitmap ∷ nodes_by x d (routes_of m)

-- the inode leads on to the first block and to the last, in another image and with another copy
pub record KeepsWays (x y : Image) (m : WriteState) (d : Dinode) : Type 0 where
  pub first : KeepsTo x y m.inode d (first_branch m)
  pub last : KeepsTo x y m.inode d (last_branch m)

-- so does a copy with the same addresses, where the ways are the same
pub ways_keep : (x y : Image) (m : WriteState) (d : Dinode) → d.addrs ≡ m.inode.addrs → ((j : ℕ) → SameInside x y (branch_of m.extent.form j).depth (slice_index m.inode.addrs (branch_of m.extent.form j).index)) → KeepsWays x y m d
ways_keep x y m d addrs same = record { first = leads (m.offset / 1024); last = leads ((m.offset + m.count - 1) / 1024) }
  where
    leads : (j : ℕ) → KeepsTo x y m.inode d (branch_of m.extent.form j)
    leads j = record {
      address = λ there. ap (λ (l : List ℕ). slice_index l (branch_of m.extent.form j).index) addrs;
      behind = same_keeps x y (branch_of m.extent.form j).depth (slice_index m.inode.addrs (branch_of m.extent.form j).index) (same j);
    }

module _ (x y : Image) (l k : LogState) (on : CountsOn l k) (m : WriteState) (d : Dinode) (keeps : KeepsWays x y m d) where
  leads : (r : Route) → IsRouteIn r (routes_of m) → LeadsOn x y m.inode d r
  leads r is = by_count (eqb m.count 0) is
    where
      by_count : (none : Bool) → IsRouteIn r (cond none [] (routes_to (first_branch m) ++ routes_beyond (first_branch m) (last_branch m))) → LeadsOn x y m.inode d r
      by_count true never = absurd never
      by_count false one =
          ⊎_elim
          (λ (first : IsRouteIn r (routes_to (first_branch m))). to_leads x y m.inode d (first_branch m) keeps.first r first)
          (λ (last : IsRouteIn r (routes_beyond (first_branch m) (last_branch m))). beyond_leads x y m.inode d (last_branch m) keeps.last (first_branch m) r last)
          (in_either r (routes_to (first_branch m)) (routes_beyond (first_branch m) (last_branch m)) one)

  pub beside_grow : counted_of l (beside x m.inode m) ≤ counted_of k (beside y d m)
  beside_grow =
      omega (arith, (on m.extent.bitmap), (nodes_more x y m.inode d l k on (routes_of m) leads))

  -- the bitmap's block is a home from now on
  pub beside_map : counted k m.extent.bitmap ≡ 1 → counted_of l (beside x m.inode m) + 1 ≤ counted_of k (beside y d m) + counted l m.extent.bitmap
  beside_map home =
      omega (arith, home, (nodes_more x y m.inode d l k on (routes_of m) leads))

  -- a block of addresses is, to which one of the routes leads
  module _ (r : Route) (is : IsRouteIn r (routes_of m)) (n : ℕ) (led : node_by x m.inode r ≡ n) (home : counted k n ≡ 1) where
    counts_here : counted_of l (nodes_by x m.inode (routes_of m)) + 1 ≤ counted_of k (nodes_by x m.inode (routes_of m)) + counted l n
    counts_here =
        counts_one l k n on home (nodes_by x m.inode (routes_of m))
        (subst (λ (b : ℕ). 1 ≤ count_of b (nodes_by x m.inode (routes_of m))) led (node_among x m.inode r (routes_of m) is))

    pub node_gains : counted_of l (beside x m.inode m) + 1 ≤ counted_of k (beside y d m) + counted l n
    node_gains =
        omega (arith, (on m.extent.bitmap), counts_here, (nodes_more x y m.inode d k k (λ b. omega arith) (routes_of m) leads))

    -- and so does the one that its entry names from now on
    pub new_gains : (q : Route) → IsRouteIn q (routes_of m) → node_by x m.inode q ≡ 0 → (b : ℕ) → node_by y d q ≡ b
        → counted_of l (beside x m.inode m) + (counted k b + 1) ≤ counted_of k (beside y d m) + counted l n
    new_gains q there none b named =
        omega (arith, (on m.extent.bitmap), counts_here, (nodes_new x y m.inode d k (routes_of m) leads q there none), (ap (counted k) named))

  -- one that the copy itself names from now on counts too
  pub first_gains : (q : Route) → IsRouteIn q (routes_of m) → node_by x m.inode q ≡ 0 → (b : ℕ) → node_by y d q ≡ b → counted k b ≡ 1
      → counted_of l (beside x m.inode m) + 1 ≤ counted_of k (beside y d m)
  first_gains q there none b named home =
      omega (arith, (on m.extent.bitmap), (counted_more l k on (nodes_by x m.inode (routes_of m))), (nodes_new x y m.inode d k (routes_of m) leads q there none), (ap (counted k) named), home)

-- no more than that
nodes_few : (l : LogState) (x : Image) (d : Dinode) (rs : List Route) → counted_of l (nodes_by x d rs) ≤ length rs
nodes_few l x d [] = omega arith
nodes_few l x d (r ∷ rs) = let one = counted_most l (node_by x d r) in let rest = nodes_few l x d rs in omega (arith, one, rest)

pub beside_few : (x : Image) (l : LogState) (m : WriteState) → m.offset + m.count ≤ greatest_size m.extent.form → counted_of l (homes_beside x m) ≤ most_beside m.extent.form
beside_few x l m fits = by_count (eqb m.count 0) refl
  where
    form : Form
    form = m.extent.form

    one_at_least : (f : Form) → 1 ≤ most_beside f
    one_at_least One = omega arith
    one_at_least Two = omega arith

    by_count : (none : Bool) → eqb m.count 0 ≡ none
        → counted_of l (m.extent.bitmap ∷ nodes_by x m.inode (cond none [] (routes_to (first_branch m) ++ routes_beyond (first_branch m) (last_branch m)))) ≤ most_beside m.extent.form
    by_count true none = let map = counted_most l m.extent.bitmap in let one = one_at_least m.extent.form in omega (arith, map, one)
    by_count false some =
        let left = eqb-false m.count 0 some in
        let short = routes_short m.extent.form (m.offset / 1024) ((m.offset + m.count - 1) / 1024)
        (within_limit m.extent.form m.offset (omega (arith, left, fits))) (within_limit m.extent.form (m.offset + m.count - 1) (omega (arith, left, fits))) in
        omega (arith, (counted_most l m.extent.bitmap), (nodes_few l x m.inode (routes_to (first_branch m) ++ routes_beyond (first_branch m) (last_branch m))), short)

pub four_beside : (form : Form) → most_beside form ≤ 4
four_beside One = omega arith
four_beside Two = omega arith

-- ---- the block at hand lies between the first and the last

module _ (m : WriteState) (left : m.done < m.count) (few : m.count ≤ 3072) (fits : m.offset + m.count ≤ greatest_size m.extent.form) where
  abbrev at_next : Branch
  at_next = branch_of m.extent.form (next_block m)

  -- so the routes on the way to it are among those
  pub on_routes : (before : List ℕ) (e : ℕ) (rest : List ℕ) → way_to at_next.depth at_next.rest ≡ before ++ e ∷ rest → IsRouteIn (route at_next.index before) (routes_of m)
  on_routes before e rest is =
      rw (ne_eqb m.count 0 (λ z. omega (arith, left, z)))
      (⊎_elim
      (λ first. in_one before at_next.index (first_branch m) (last_branch m) first)
      (λ last. in_other before at_next.index (first_branch m) (last_branch m) last)
      (shares_way m.extent.form (m.offset / 1024) (next_block m) ((m.offset + m.count - 1) / 1024) (omega arith) (omega (arith, left)) (omega (arith, few, left))
      (within_limit m.extent.form (m.offset + m.count - 1) (omega (arith, left, fits))) before e rest is))

-- ---- what a writing logged, whose operation is open

pub record LogsOn (x : Image) (l : LogState) (p : ℕ) (m : WriteState) : Type 0 where
  pub homes : ℕ
  pub used : used_by l p ≡ Some homes
  pub few : homes + blocks_left m m.at ≤ 4 + counted_of l (homes_beside x m) + counted l (at_hand m.at)

pub open_of : (x : Image) (l : LogState) (p : ℕ) (m : WriteState) → LogsOn x l p m → HasOpen l p
open_of x l p m on = record { homes = on.homes; used = on.used }

pub logged_of : (x : Image) (l : LogState) (p : ℕ) (m : WriteState) → LogsOn x l p m → HasLoggedWrite x l p m
logged_of x l p m on homes used =
    let same : homes ≡ on.homes = (let both : Some homes ≡ Some on.homes = sym used ∙ on.used in cc both) in
    omega (arith, on.few, same)

-- the log stays: the writing goes on with what it added
pub logged_on : (x y : Image) (l : LogState) (p : ℕ) (m n : WriteState) → LogsOn x l p m → counted_of l (homes_beside x m) ≤ counted_of l (homes_beside y n)
    → blocks_left n n.at + counted l (at_hand m.at) ≤ blocks_left m m.at + counted l (at_hand n.at) → LogsOn y l p n
logged_on x y l p m n had more less =
    let few = had.few in
    record { homes = had.homes; used = had.used; few = omega (arith, few, more, less) }

-- the image stays, and so do the homes of who has an operation open
pub logged_alike : (cur : Image) (l m : LogState) (q : ℕ) (a : Stage) → ((homes b : ℕ) → used_by l q ≡ Some homes → is_among b l.homes ≡ true → is_among b m.homes ≡ true) → used_by m q ≡ used_by l q → LoggedAt cur l q a → LoggedAt cur m q a
logged_alike cur l m q Stage.Nowhere among same had = tt
logged_alike cur l m q (Stage.Creating w) among same had = tt
logged_alike cur l m q (Stage.Taking w) among same had = tt
logged_alike cur l m q (Stage.Reading k w) among same had = tt
logged_alike cur l m q (Stage.Delivering k) among same had = tt
logged_alike cur l m q (Stage.Truncating k w) among same had = tt
logged_alike cur l m q (Stage.Writing k w) among same had = λ homes used.
    let on : CountsOn l m = λ b. counts_more l m b (among homes b (sym same ∙ used)) in
    omega (arith, (had homes (sym same ∙ used)), (counted_more l m on (homes_beside cur w)), (on (at_hand w.at)))
logged_alike cur l m q (Stage.Setting k d u) among same had = tt
logged_alike cur l m q (Stage.Leaving k) among same had = tt

-- one task is another
pub logged_set : (cur : Image) (l m : LogState) (ts : List TaskState) (p : ℕ) (u : TaskState) → p < length ts → ((b : ℕ) → is_among b l.homes ≡ true → is_among b m.homes ≡ true)
    → ((q : ℕ) → q ≢ p → used_by m q ≡ used_by l q) → LoggedAt cur m p u.stage → HaveLogged cur l ts → HaveLogged cur m (set ts p u)
logged_set cur l m ts p u inside among same mine had q =
    ⊎_elim
    (λ (own : q ≡ p). subst (λ (r : ℕ). LoggedAt cur m r (task (set ts p u) r).stage) (sym own)
    (subst (λ (v : TaskState). LoggedAt cur m p v.stage) (sym (get_or-set_same ts p u no_task inside)) mine))
    (λ (apart : q ≢ p). subst (λ (v : TaskState). LoggedAt cur m q v.stage) (sym (get_or-set_other ts p q u no_task apart))
    (logged_alike cur l m q (task ts q).stage (λ homes b used has. among b has) (same q apart) (had q)))
    (cases_eq q p)
