-- What leads to a block of a file.
use Rattle.std.proofs.Common.{◌≡◌, ◌≢◌, ◌⊎◌, ⊎_elim, ◌||◌, refl, ℕ, suc, ◌+◌, ◌-◌, ◌*◌, ◌/◌, ◌<◌, ◌≤◌, sym, ap, subst, ◌∙◌, Bool, true, false, cond, eqb, length, get_or, arith, Option, Some, None, inl, inr}
use Rattle.blockmap.specs.Common.{address_on, address_under, block_at, block_limit, Branch, branch_of, count_of, deepest, depths, Dinode, eqb-false, eqb-true, Form, form_of, Image, IsFit, led_along, LiesOnWay, named_by, names_along, Node, node_at, One, or_cases, or_parts, SameInside, seen, Target, thirteen_depths, Two, VolumeState}
use Rattle.model.specs.Places.{address_in}
use Rattle.blockmap.specs.Bmap.{EntryState, IsNode, ends_at, first_entry, some_address, sought_in}
use Rattle.blockmap.specs.Reading.{MayRead}
use Rattle.blockmap.specs.Target.{LeadsTo, LeadsToBlock, slot_in, steps_at, steps_for, target_for, target_mapped}
use Rattle.blockmap.specs.Lemmas.Addresses.{address_or_zero_of}
use Rattle.blockmap.specs.Lemmas.Branches.{address_there, branch_shallow, is_branch, lies_first, lies_last, lies_none, lies_short, lies_still, none_there, within_limit}
use Rattle.blockmap.specs.declared.mapping.Mapped.{Mapped}

-- ---- where a block is found

module _ (x : Image) (d : Dinode) (b : Branch) where
  abbrev first : ℕ
  first = get_or d.addrs b.index 0

  -- at once, where the inode itself names it, or nothing there
  pub found_at_once : (first ≡ 0) ⊎ (b.depth ≡ 0) → address_on x d b ≡ first
  found_at_once at = ⊎_elim (λ none. none_there x d b none ∙ sym none) (λ flat. ap (λ n. address_under x n b.rest first) flat) at

  -- else below the first block of addresses
  pub found_behind : b.depth ≢ 0 → address_on x d b ≡ sought_in x (first_entry (node_at b.depth b.rest first))
  found_behind deep =
      let same : suc (b.depth - 1) ≡ b.depth = omega (arith, deep) in
      ap (λ n. address_under x n b.rest first) (sym same)

-- a block that a file's size needs is one of those that it can have
pub needed_within : (x : Image) (d : Dinode) (k : ℕ) → IsFit x d → k * 1024 < d.size → k < block_limit (form_of x)
needed_within x d k fit low =
    let most = fit.size in
    let same : k * 1024 / 1024 ≡ k = omega arith in
    subst (λ j. j < block_limit (form_of x)) same (within_limit (form_of x) (k * 1024) (omega (arith, low, most)))

-- ---- the blocks of addresses on the way

module _ (x : Image) (d : Dinode) (k : ℕ) (n : Node) (lies : LiesOnWay x d (branch_of (form_of x) k) n) where
  abbrev at : Branch
  at = branch_of (form_of x) k

  pub lies_shallow : n.level ≤ 1
  lies_shallow =
      let short = lies_short x d at n lies in
      let few = branch_shallow (form_of x) k in
      omega (arith, short, few)

  -- the inode names it
  pub lies_named : k < block_limit (form_of x) → 1 ≤ count_of n.block (names_along x (depths (form_of x)) d.addrs)
  lies_named low =
      let b = is_branch k (form_of x) low in
      let inside = b.index in
      let many = thirteen_depths (form_of x) in
      let short = lies_short x d at n lies in
      let depth = b.depth in
      led_along x (depths (form_of x)) d.addrs at.index lies.before n.block (omega (arith, inside, many)) (omega (arith, short, depth)) lies.led lies.there

  -- where its entry ends the way it says what is sought
  pub lies_ends : (m : EntryState) → m.node ≡ n → ends_at m (named_by x n) ≡ true → address_on x d at ≡ named_by x n
  lies_ends m is ends =
      ⊎_elim
      (λ none. let z = eqb-true (named_by x n) 0 none in lies_none x d at n lies z ∙ sym z)
      (λ flat. lies_last x d at n lies (ap (λ (o : Node). o.level) (sym is) ∙ eqb-true m.node.level 0 flat))
      (or_cases (eqb (named_by x n) 0) (eqb m.node.level 0) ends)

-- in another image of that form that has the same blocks where the inode names them
module _ (x y : Image) (d : Dinode) (k : ℕ) (low : k < block_limit (form_of x))
    (same : (b : ℕ) → 1 ≤ count_of b (names_along x (depths (form_of x)) d.addrs) → block_at y b ≡ block_at x b) (form : form_of y ≡ form_of x) where
  same_behind : SameInside x y (branch_of (form_of x) k).depth (get_or d.addrs (branch_of (form_of x) k).index 0)
  same_behind way n led some short =
      let b = is_branch k (form_of x) low in
      let inside = b.index in
      let many = thirteen_depths (form_of x) in
      let depth = b.depth in
      same n (led_along x (depths (form_of x)) d.addrs (branch_of (form_of x) k).index way n (omega (arith, inside, many)) (omega (arith, short, depth)) led some)

  -- a target leads there still, where the file's blocks are the same
  pub leads_still : ((j : ℕ) → address_in y d j ≡ address_in x d j) → (t : Target) → LeadsToBlock x d k t → LeadsToBlock y d k t
  leads_still addresses (Target.Entry m) leads =
      subst (λ (f : Form). LiesOnWay y d (branch_of f k) m.node) (sym form) (lies_still x d (branch_of (form_of x) k) m.node leads y same_behind)
  leads_still addresses (Target.Block b slot) leads = leads ∙ sym (addresses k)

-- ---- targets

-- the steps for several blocks
pub steps_more : (form : Form) (n : ℕ) → steps_for form (n + 1) ≡ steps_for form n + steps_for form 1
steps_more One n = omega arith
steps_more Two n = omega arith

pub steps_grow : (form : Form) (m n : ℕ) → m ≤ n → steps_for form m ≤ steps_for form n
steps_grow One m n le = omega (arith, le)
steps_grow Two m n le = omega (arith, le)

pub steps_most : (form : Form) (n : ℕ) → steps_for form n ≤ 6 * n
steps_most One n = omega arith
steps_most Two n = omega arith

-- two for each block of addresses on the way, and the two at the block
pub steps_enough : (form : Form) (k : ℕ) → k < block_limit form → 2 * (branch_of form k).depth + 2 ≤ steps_for form 1
steps_enough form k low = by_form form (branch_of form k).depth (is_branch k form low).shallow
  where
    by_form : (f : Form) (depth : ℕ) → depth ≤ deepest f → 2 * depth + 2 ≤ steps_for f 1
    by_form One depth few = omega (arith, few)
    by_form Two depth few = omega (arith, few)

-- what the inode says has nothing got yet, and so few steps lead from it to the use of its block
module _ (form : Form) (d : Dinode) (k : ℕ) where
  abbrev place : Branch
  place = branch_of form k

  abbrev top : ℕ
  top = get_or d.addrs place.index 0

  abbrev by_test : Bool → Target
  by_test t = target_mapped (cond t (Mapped.At (some_address top)) (Mapped.Behind (first_entry (node_at place.depth place.rest top))))

  pub first_slot : slot_in (target_for form d k) ≡ None
  first_slot = at (eqb top 0 || eqb place.depth 0)
    where
      at : (t : Bool) → slot_in (by_test t) ≡ None
      at true = refl
      at false = refl

  pub few_first : steps_at (target_for form d k) ≤ 2 * place.depth + 2
  few_first = at (eqb top 0) (eqb place.depth 0) refl
    where
      at : (none ends : Bool) → eqb place.depth 0 ≡ ends → steps_at (by_test (none || ends)) ≤ 2 * place.depth + 2
      at true ends flat = omega arith
      at false true flat = omega arith
      at false false flat = let deep = eqb-false place.depth 0 flat in omega (arith, deep)

-- and so many from any target that leads to one
pub few_at : (x : Image) (d : Dinode) (k : ℕ) (t : Target) → LeadsToBlock x d k t → steps_at t ≤ 2 * (branch_of (form_of x) k).depth + 2
few_at x d k (Target.Entry m) leads = by_slot m.slot
  where
    by_slot : (o : Option ℕ) → steps_at (Target.Entry (record m { slot = o })) ≤ 2 * (branch_of (form_of x) k).depth + 2
    by_slot None = let short = lies_short x d (branch_of (form_of x) k) m.node leads in omega (arith, short)
    by_slot (Some i) = let short = lies_short x d (branch_of (form_of x) k) m.node leads in omega (arith, short)
few_at x d k (Target.Block b None) leads = omega arith
few_at x d k (Target.Block b (Some i)) leads = omega arith

-- a file that may be read, and one of the blocks that its size needs
module _ {D : Type 0} (image : D → Image) (v : VolumeState D) (p k : ℕ) (d : Dinode) (may : MayRead (seen (image v.device) v.buffers) d)
    (size : v.log.size ≡ length (seen (image v.device) v.buffers)) (low : k * 1024 < d.size) where
  abbrev cur : Image
  cur = seen (image v.device) v.buffers

  abbrev its : Branch
  its = branch_of (form_of cur) k

  abbrev root : ℕ
  root = get_or d.addrs its.index 0

  within : k < block_limit (form_of cur)
  within = needed_within cur d k may.fit low

  pub address_there_now : address_in cur d k ≡ address_on cur d its
  address_there_now = address_there cur (form_of cur) refl k within d may.fit.fields.count

  -- a block of addresses on the way lies in the volume
  pub node_there : (n : Node) → LiesOnWay cur d its n → IsNode v n
  node_there n lies =
      let there = may.ways k n low lies in
      let far = there.1 in
      record {
        behind = there.0;
        within = omega (arith, far, size);
        shallow = lies_shallow cur d k n lies;
        reached = lies.reached;
      }

  -- what the inode says leads to it
  pub leads_for : LeadsTo image v p d k (target_for (form_of cur) d k)
  leads_for = by_test (eqb root 0 || eqb its.depth 0) refl
    where
      by_test : (t : Bool) → (eqb root 0 || eqb its.depth 0) ≡ t →
          LeadsTo image v p d k (target_mapped (cond t (Mapped.At (some_address root)) (Mapped.Behind (first_entry (node_at its.depth its.rest root)))))
      by_test true at =
          let once = ⊎_elim (λ none. inl (eqb-true root 0 none)) (λ flat. inr (eqb-true its.depth 0 flat)) (or_cases (eqb root 0) (eqb its.depth 0) at) in
          record { block = address_or_zero_of root ∙ sym (address_there_now ∙ found_at_once cur d its once); holds = tt }
      by_test false at =
          let parts = or_parts (eqb root 0) (eqb its.depth 0) at in
          let lies = lies_first cur d its (eqb-false its.depth 0 parts.1) (is_branch k (form_of cur) within).rest (eqb-false root 0 parts.0) in
          record { block = lies; holds = record { node = node_there (node_at its.depth its.rest root) lies; holds = tt } }
