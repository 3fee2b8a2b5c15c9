-- The block of addresses whose entries a truncation gives up: where it stands, and what the other images have of it.
use Rattle.std.proofs.Common.{◌≡◌, ◌≢◌, ℕ, suc, ◌+◌, ◌-◌, ◌<◌, ◌≤◌, true, false, ◌||◌, cond, eqb, List, length, get_or, refl, sym, ◌∙◌, ap, subst, arith, Option, Some, None}
use Rattle.std.specs.Prelude.{is_some}
use Rattle.inodes.specs.Common.{block_at, depth_of, depths, entry_of, eqb-false, eqb-true, Form, form_of, hand_in, HasGivenUp, Image, IsFirstTree, IsInHand, Itrunc, Keeps, Kept, last_kept, leads_to_data, led_none, led_to, listed, root_of, tree_depth, TruncAt, way_of, words_of}

led_root : (x : Image) (way : List ℕ) (a : ℕ) → led_to x way a ≢ 0 → a ≢ 0
led_root x way a some none = some (ap (led_to x way) none ∙ led_none x way)

module _ (x : Image) (m : Itrunc) (h : IsInHand x m) where
  pub root_there : root_of m ≢ 0
  root_there = led_root x (way_of m) (root_of m) h.there

  pub first_tree : IsFirstTree x m.inode m.slot
  first_tree =
      let level = h.level in
      record { there = root_there; tree = λ none. omega (arith, level, none); before = λ k low tree. h.before k low }

  -- how many blocks of addresses its entries lead through to the data
  abbrev pub below : ℕ
  below = depth_of x m.slot - suc (length (way_of m))

  pub deep : depth_of x m.slot ≡ length (way_of m) + suc below
  deep = let level = h.level in omega (arith, level)

  module _ (form : m.form ≡ form_of x) where
    shallow : (1 ≤ depth_of x m.slot) × (depth_of x m.slot ≤ 2)
    shallow = subst (λ (f : Form). (1 ≤ get_or (depths f) m.slot 0) × (get_or (depths f) m.slot 0 ≤ 2)) form (tree_depth m.form m.slot h.tree h.slot)

    same_depth : get_or (depths m.form) m.slot 0 ≡ depth_of x m.slot
    same_depth = ap (λ (f : Form). get_or (depths f) m.slot 0) form

    pub names_data : leads_to_data m ≡ true → depth_of x m.slot ≡ suc (length (way_of m))
    names_data leads = by_upper m.upper leads h.level
      where
        by_upper : (o : Option ℕ) → (is_some o || eqb (get_or (depths m.form) m.slot 0) 1) ≡ true → length (listed o) < depth_of x m.slot → depth_of x m.slot ≡ suc (length (listed o))
        by_upper None leads level = sym same_depth ∙ eqb-true (get_or (depths m.form) m.slot 0) 1 leads
        by_upper (Some e) leads level = let two = shallow.1 in omega (arith, two, level)

    -- or they are second blocks
    pub branches : leads_to_data m ≡ false → (m.upper ≡ None) × (depth_of x m.slot ≡ 2)
    branches leads = by_upper m.upper leads
      where
        by_upper : (o : Option ℕ) → (is_some o || eqb (get_or (depths m.form) m.slot 0) 1) ≡ false → (o ≡ None) × (depth_of x m.slot ≡ 2)
        by_upper None leads =
            (refl, omega (arith, (eqb-false (get_or (depths m.form) m.slot 0) 1 leads), same_depth, shallow.0, shallow.1))
        by_upper (Some e) leads = absurd (cc leads)

    -- a second block is one of a doubly indirect block's
    pub two_deep : (e : ℕ) → m.upper ≡ Some e → depth_of x m.slot ≡ 2
    two_deep e upper =
        omega (arith, shallow.1, (subst (λ (o : Option ℕ). length (listed o) < depth_of x m.slot) upper h.level))

-- ---- in another image, with the same blocks of addresses

module _ (x y : Image) (m : Itrunc) (form : form_of y ≡ form_of x) (root : (e : ℕ) → m.upper ≡ Some e → block_at y (root_of m) ≡ block_at x (root_of m)) where
  pub hand_kept : hand_in y m ≡ hand_in x m
  hand_kept = by_upper m.upper refl
    where
      by_upper : (o : Option ℕ) → m.upper ≡ o → led_to y (listed o) (root_of m) ≡ led_to x (listed o) (root_of m)
      by_upper None is = refl
      by_upper (Some e) is = ap (λ (l : List ℕ). cond (eqb (root_of m) 0) 0 (get_or (words_of l) e 0)) (root e is)

  depth_kept : depth_of y m.slot ≡ depth_of x m.slot
  depth_kept = ap (λ (f : Form). get_or (depths f) m.slot 0) form

  pub in_hand_kept : IsInHand x m → IsInHand y m
  in_hand_kept h = record {
    tree = h.tree;
    slot = h.slot;
    before = h.before;
    there = subst (λ (n : ℕ). n ≢ 0) (sym hand_kept) h.there;
    level = subst (λ (n : ℕ). length (way_of m) < n) (sym depth_kept) h.level;
  }

  module _ (same : m.at ≡ TruncAt.Entry → block_at y (hand_in x m) ≡ block_at x (hand_in x m)) where
    given_at : (a : TruncAt) → m.at ≡ a → HasGivenUp x m a → HasGivenUp y m a
    given_at TruncAt.Direct at given = given
    given_at (TruncAt.Loading b) at given = (in_hand_kept given.0, given.1, hand_kept ∙ given.2)
    given_at TruncAt.Entry at given = record {
      hand = in_hand_kept given.hand;
      names_data = depth_kept ∙ given.names_data;
      within = given.within;
      there = subst (λ (n : ℕ). n ≢ 0) (sym (ap (λ (b : ℕ). entry_of y b m.given_up) hand_kept ∙ ap (λ (l : List ℕ). get_or (words_of l) m.given_up 0) (same at))) given.there;
    }
    given_at TruncAt.Unloading at given = (in_hand_kept given.0, given.1)
    given_at TruncAt.Freeing at given = (in_hand_kept given.0, given.1)
    given_at TruncAt.Updating at given = given

    pub given_kept : HasGivenUp x m m.at → HasGivenUp y m m.at
    given_kept given = given_at m.at refl given

  last_at : (a : TruncAt) → last_kept y m a ≡ last_kept x m a
  last_at TruncAt.Direct = refl
  last_at (TruncAt.Loading b) = refl
  last_at TruncAt.Entry = ap Some hand_kept
  last_at TruncAt.Unloading = ap Some hand_kept
  last_at TruncAt.Freeing = refl
  last_at TruncAt.Updating = refl

  pub keeps_kept : (kept : Kept) → Keeps x kept m m.at → Keeps y kept m m.at
  keeps_kept kept keeps = record { inner = keeps.inner ∙ sym (last_at m.at); outer = keeps.outer }
