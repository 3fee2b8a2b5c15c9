-- Where a block of a file stands, and the ways to it.
use Rattle.std.proofs.Common.{◌≡◌, ◌≢◌, ℕ, zero, suc, ◌+◌, ◌-◌, ◌/◌, ◌<◌, ◌≤◌, Bool, true, false, cond, ltb, List, [], ◌∷◌, ◌++◌, length, get_or, replicate, refl, sym, ap, subst, ◌∙◌, ⊎_elim, arith, append_assoc, length-append}
use Rattle.std.proofs.Math.Nat.{mod-lt}
use Rattle.blockmap.specs.Common.{address_along, address_led, address_on, along_at, block_limit, Branch, branch_of, cases_eq, deepest, depths, Dinode, direct_count, entries_way_to, entry_of, entry_under, Form, form_of, greatest_size, Image, led_further, led_none, led_step, led_to, length-way_to, LiesOnWay, ltb-false, ltb-true, named_by, ne_eqb, Node, node_at, One, place_along, place_under, place_way_to, reach, reach_pos, rest_under, SameInside, thirteen_depths, Two, way_to, words_of}
use Rattle.model.specs.Places.{address_in}
use Rattle.in_flight.specs.Lemmas.Wholes.{direct_depth}
use Rattle.blockmap.specs.Map.{IsBranchOf}

-- ---- where a block stands

-- block k of a file of that form stands there
pub record IsBranch (form : Form) (k : ℕ) (b : Branch) : Type 0 where
  pub index : b.index < 13
  pub shallow : b.depth ≤ deepest form
  pub depth : get_or (depths form) b.index 0 ≡ b.depth
  pub rest : b.rest < reach b.depth
  pub place : place_along (depths form) b.index + b.rest ≡ k

-- as many blocks stand before one of the direct ones as addresses do
place_direct : (n k : ℕ) (ds : List ℕ) → k < n → place_along (replicate n 0 ++ ds) k ≡ k
place_direct zero k ds low = absurd (omega (arith, low))
place_direct (suc n) zero ds low = refl
place_direct (suc n) (suc k) ds low = let rest = place_direct n k ds (omega (arith, low)) in omega (arith, rest)

module _ (k : ℕ) where
  abbrev branch_by : Form → Bool → Bool → Branch
  branch_by form a b =
      cond a (record { index = k; depth = 0; rest = 0 })
      (cond b (record { index = direct_count form; depth = 1; rest = k - direct_count form })
      (record { index = direct_count form + 1; depth = 2; rest = k - direct_count form - 256 }))

  is_by : (form : Form) → k < block_limit form → (a b : Bool) → ltb k (direct_count form) ≡ a → ltb (k - direct_count form) 256 ≡ b → IsBranch form k (branch_by form a b)
  is_by One low true b is near =
      let few = ltb-true k 12 is in
      let all = place_direct 12 k (1 ∷ []) few in
      record { index = omega (arith, few); shallow = omega arith; depth = direct_depth One k few; rest = omega arith; place = omega (arith, all) }
  is_by One low false true is near =
      let far = ltb-false k 12 is in
      let here = ltb-true (k - 12) 256 near in
      record { index = omega arith; shallow = omega arith; depth = refl; rest = here; place = omega (arith, far) }
  is_by One low false false is past = absurd (let far = ltb-false (k - 12) 256 past in omega (arith, far, low))
  is_by Two low true b is near =
      let few = ltb-true k 11 is in
      let all = place_direct 11 k (1 ∷ 2 ∷ []) few in
      record { index = omega (arith, few); shallow = omega arith; depth = direct_depth Two k few; rest = omega arith; place = omega (arith, all) }
  is_by Two low false true is near =
      let far = ltb-false k 11 is in
      let here = ltb-true (k - 11) 256 near in
      record { index = omega arith; shallow = omega arith; depth = refl; rest = here; place = omega (arith, far) }
  is_by Two low false false is past =
      let far = ltb-false k 11 is in
      let behind = ltb-false (k - 11) 256 past in
      record { index = omega arith; shallow = omega arith; depth = refl; rest = omega (arith, far, behind, low); place = omega (arith, far, behind) }

  pub is_branch : (form : Form) → k < block_limit form → IsBranch form k (branch_of form k)
  is_branch form low = is_by form low (ltb k (direct_count form)) (ltb (k - direct_count form) 256) refl refl

-- behind two blocks of addresses at most
pub branch_shallow : (form : Form) (k : ℕ) → (branch_of form k).depth ≤ 2
branch_shallow form k = by_place (ltb k (direct_count form)) (ltb (k - direct_count form) 256)
  where
    by_place : (direct near : Bool) → (cond {A = Branch} direct (record { index = k; depth = 0; rest = 0 })
        (cond {A = Branch} near (record { index = direct_count form; depth = 1; rest = k - direct_count form })
        (record { index = direct_count form + 1; depth = 2; rest = k - direct_count form - 256 }))).depth ≤ 2
    by_place true near = omega arith
    by_place false true = omega arith
    by_place false false = omega arith

-- so it is the block of that place
module _ (x : Image) (form : Form) (of : form_of x ≡ form) (k : ℕ) (low : k < block_limit form) where
  abbrev at : Branch
  at = branch_of form k

  its : IsBranch form k at
  its = is_branch k form low

  abbrev way : List ℕ
  way = way_to at.depth at.rest

  pub branch_place : place_along (depths form) at.index + place_under way ≡ k
  branch_place = ap (λ n. place_along (depths form) at.index + n) (place_way_to at.depth at.rest its.rest) ∙ its.place

  pub address_there : IsBranchOf x k at
  unfolding address_in
  address_there d all =
      let inside = its.index in
      let many = thirteen_depths form in
      ap (λ (f : Form). address_along x k (depths f) d.addrs) of
      ∙ ap (λ (j : ℕ). address_along x j (depths form) d.addrs) (sym branch_place)
      ∙ along_at x (depths form) d.addrs at.index way (omega (arith, inside, many)) (omega (arith, inside, all))
      (length-way_to at.depth at.rest ∙ sym its.depth) (entries_way_to at.depth at.rest its.rest)
      ∙ sym (address_led x at.depth at.rest (get_or d.addrs at.index 0))

-- a place below a file's greatest size is in one of the blocks that it can have
pub within_limit : (form : Form) (n : ℕ) → n < greatest_size form → n / 1024 < block_limit form
within_limit One n low = omega (arith, low)
within_limit Two n low = omega (arith, low)

-- ---- ways

-- a way goes on where another one led
led_on : (x : Image) (way rest : List ℕ) (a : ℕ) → led_to x (way ++ rest) a ≡ led_to x rest (led_to x way a)
led_on x [] rest a = refl
led_on x (e ∷ way) rest a =
    ⊎_elim (λ (z : a ≡ 0). rw z (sym (led_none x rest)))
    (λ (some : a ≢ 0). rw (ne_eqb a 0 some) (led_on x way rest (entry_of x a e)))
    (cases_eq a 0)

-- In another image the blocks of addresses behind an address have their entries still, as far as
-- fewer than so many entries lead to them
abbrev pub KeepsBehind : Image → Image → ℕ → ℕ → Type 0
KeepsBehind x y depth a = (way : List ℕ) (n e : ℕ) → length way < depth → led_to x way a ≡ n → n ≢ 0 →
    entry_of x n e ≢ 0 → entry_of y n e ≡ entry_of x n e

pub keeps_next : (x y : Image) (depth a e : ℕ) → a ≢ 0 → KeepsBehind x y (suc depth) a → KeepsBehind x y depth (entry_of x a e)
keeps_next x y depth a e some keeps way n f short led there is =
    keeps (e ∷ way) n f (omega (arith, short)) (rw (ne_eqb a 0 some) led) there is

pub led_behind : (x y : Image) (depth : ℕ) (way : List ℕ) (a n : ℕ) → length way ≤ depth → KeepsBehind x y depth a → led_to x way a ≡ n → n ≢ 0 → led_to y way a ≡ n
led_behind x y depth [] a n short keeps led some = led
led_behind x y zero (e ∷ way) a n short keeps led some = absurd (omega (arith, short))
led_behind x y (suc depth) (e ∷ way) a n short keeps led some =
    let step = led_step x e way a n led some in
    let there : entry_of x a e ≢ 0 = λ z. some (sym step.1 ∙ ap (led_to x way) z ∙ led_none x way) in
    rw (ne_eqb a 0 step.0)
    (ap (led_to y way) (keeps [] a e (omega arith) refl step.0 there)
    ∙ led_behind x y depth way (entry_of x a e) n (omega (arith, short)) (keeps_next x y depth a e step.0 keeps) step.1 some)

pub same_keeps : (x y : Image) (depth a : ℕ) → SameInside x y depth a → KeepsBehind x y depth a
same_keeps x y depth a same way n e short led some there = ap (λ (bytes : List ℕ). get_or (words_of bytes) e 0) (same way n led some short)

-- ---- the blocks of addresses on the way

-- the first is named by the inode
pub lies_first : (x : Image) (d : Dinode) (b : Branch) → b.depth ≢ 0 → b.rest < reach b.depth → get_or d.addrs b.index 0 ≢ 0 →
    LiesOnWay x d b (node_at b.depth b.rest (get_or d.addrs b.index 0))
lies_first x d b deep low some =
    let same : suc (b.depth - 1) ≡ b.depth = omega (arith, deep) in
    record {
      before = [];
      led = refl;
      there = some;
      reached = subst (λ n. b.rest < reach n) (sym same) low;
      way = ap (λ n. way_to n b.rest) (sym same);
    }

module _ (x : Image) (d : Dinode) (b : Branch) (n : Node) (lies : LiesOnWay x d b n) where
  abbrev entry : ℕ
  entry = entry_under n

  further : led_to x (lies.before ++ entry ∷ []) (get_or d.addrs b.index 0) ≡ named_by x n
  further = led_further x lies.before (get_or d.addrs b.index 0) entry n.block lies.led lies.there

  -- the next one is named by its entry
  pub lies_next : n.level ≢ 0 → named_by x n ≢ 0 → LiesOnWay x d b (node_at n.level (rest_under n) (named_by x n))
  lies_next deep some =
      let same : suc (n.level - 1) ≡ n.level = omega (arith, deep) in
      record {
        before = lies.before ++ entry ∷ [];
        led = further;
        there = some;
        reached = subst (λ l. rest_under n < reach l) (sym same) (mod-lt n.rest (reach_pos n.level));
        way = lies.way ∙ sym (append_assoc lies.before (entry ∷ []) (way_to n.level (rest_under n)))
            ∙ ap (λ l. (lies.before ++ entry ∷ []) ++ way_to l (rest_under n)) (sym same);
      }

  -- and the entry of a block of addresses of data names the block itself
  pub lies_last : n.level ≡ 0 → address_on x d b ≡ named_by x n
  lies_last flat =
      address_led x b.depth b.rest (get_or d.addrs b.index 0)
      ∙ ap (λ w. led_to x w (get_or d.addrs b.index 0)) (lies.way ∙ ap (λ l. lies.before ++ entry ∷ way_to l (rest_under n)) flat)
      ∙ further

  -- the way to it is shorter than that to the block
  pub lies_short : length lies.before + suc n.level ≡ b.depth
  lies_short =
      let all = ap length lies.way in
      let sum = length-append lies.before (way_to (suc n.level) n.rest) in
      let rest = length-way_to (suc n.level) n.rest in
      let whole = length-way_to b.depth b.rest in
      omega (arith, all, sum, rest, whole)

  -- where its entry is missing, so is the block
  pub lies_none : named_by x n ≡ 0 → address_on x d b ≡ 0
  lies_none none =
      let a = get_or d.addrs b.index 0 in
      let w = way_to n.level (rest_under n) in
      address_led x b.depth b.rest a
      ∙ ap (λ v. led_to x v a) lies.way
      ∙ led_on x lies.before (entry ∷ w) a
      ∙ ap (led_to x (entry ∷ w)) lies.led
      ∙ rw (ne_eqb n.block 0 lies.there) (ap (led_to x w) none ∙ led_none x w)

  -- in another image that keeps the entries there, it lies on the way still
  pub lies_behind : (y : Image) → KeepsBehind x y b.depth (get_or d.addrs b.index 0) → LiesOnWay y d b n
  lies_behind y keeps = record {
    before = lies.before;
    led = let short = lies_short in led_behind x y b.depth lies.before (get_or d.addrs b.index 0) n.block (omega (arith, short)) keeps lies.led lies.there;
    there = lies.there;
    reached = lies.reached;
    way = lies.way;
  }

  -- so too in one in which the blocks of addresses there are the same
  pub lies_still : (y : Image) → SameInside x y b.depth (get_or d.addrs b.index 0) → LiesOnWay y d b n
  lies_still y same = lies_behind y (same_keeps x y b.depth (get_or d.addrs b.index 0) same)

-- without its first address it is missing too
pub none_there : (x : Image) (d : Dinode) (b : Branch) → get_or d.addrs b.index 0 ≡ 0 → address_on x d b ≡ 0
none_there x d b none =
    address_led x b.depth b.rest (get_or d.addrs b.index 0)
    ∙ ap (led_to x (way_to b.depth b.rest)) none ∙ led_none x (way_to b.depth b.rest)
