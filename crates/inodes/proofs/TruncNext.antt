-- What is freed next: what stands before it is not there.
use Rattle.std.proofs.Common.{◌≡◌, ◌≢◌, ℕ, suc, ◌+◌, ◌-◌, ◌<◌, ◌≤◌, Bool, true, false, not, cond, eqb, ltb, List, [], ◌∷◌, ◌++◌, length, set, get_or, replicate, refl, sym, ◌∙◌, ap, subst, ⊎_elim, arith, Option, Some, None}
use Rattle.std.proofs.lemmas.List.{length-set}
use Rattle.inodes.specs.Common.{above_by, above_hand, address_left, address_or_on, AreGivenUp, at_address, at_block, at_branches, at_entries, begun_alike, block_at, block_of_got, branch_or_on, cases_eq, cases_lt, depth_of, depths, Dinode, direct_count, entry_of, entry_or_on, eqb-false, eqb-true, ext_get_or, first_trunc, Form, form_of, get_or-replicate, get_or-set_other, get_or-set_same, hand_in, HasGivenUp, Held, held_of, Image, inode_without, IsInHand, Itrunc, Keeps, Kept, leads_to_data, LeavesAlike, led_to, length-replicate, listed, ltb-false, ltb-true, made_so_far, ne_eqb, not-false, not-true, one_for, passed_alike, present_from, root_of, tree_depth, TruncAt, unbegun, way_of, words_of}
use Rattle.inodes.specs.Lemmas.Looks.{find-range, passed_by}
use Rattle.inodes.proofs.InHand.{below, branches, deep, names_data, first_tree, root_there}

-- ---- the next number of a list that is there

abbrev is_there : List ℕ → ℕ → Bool
is_there numbers k = not (eqb (get_or numbers k 0) 0)

-- it lies in the range, and is there; and none before it is
pub record IsNext (numbers : List ℕ) (from end k : ℕ) : Type 0 where
  pub low : from ≤ k
  pub high : k < end
  pub some : get_or numbers k 0 ≢ 0
  pub before : (j : ℕ) → from ≤ j → j < k → get_or numbers j 0 ≡ 0

not_there : (numbers : List ℕ) (j : ℕ) → is_there numbers j ≡ false → get_or numbers j 0 ≡ 0
not_there numbers j none = eqb-true (get_or numbers j 0) 0 (not-false (eqb (get_or numbers j 0) 0) none)

pub next_is : (numbers : List ℕ) (from end k : ℕ) → present_from numbers from end ≡ Some k → IsNext numbers from end k
next_is numbers from end k found =
    let at = find-range (is_there numbers) from (end - from) k found in
    let low = at.0 in
    let high = at.1 in
    record {
      low = at.0;
      high = omega (arith, low, high);
      some = eqb-false (get_or numbers k 0) 0 (not-true (eqb (get_or numbers k 0) 0) at.2);
      before = λ j above below. not_there numbers j (passed_by (is_there numbers) from (end - from) j (Some k) found below above (omega (arith, below, low, high)));
    }

-- or none is there
pub none_is : (numbers : List ℕ) (from end : ℕ) → present_from numbers from end ≡ None → (j : ℕ) → from ≤ j → j < end → get_or numbers j 0 ≡ 0
none_is numbers from end found j above below = not_there numbers j (passed_by (is_there numbers) from (end - from) j None found tt above (omega (arith, above, below)))

-- ---- what comes next

-- Machine n is m where it comes next: the same is left as with that cursor, it has come so far, keeps these blocks, and
-- so many steps were made for blocks that are left.
pub record ComesTo (x : Image) (m n : Itrunc) (cursor : List ℕ) (inner outer : Option ℕ) (steps : ℕ) : Type 0 where
  pub same : n ≡ record m { slot = n.slot; upper = n.upper; given_up = n.given_up; at = n.at }
  pub slot : n.slot < 13
  pub alike : LeavesAlike x m.inode (held_of n).cursor cursor
  pub given : HasGivenUp x n n.at
  pub keeps : (kept : Kept) → block_of_got kept.inner ≡ inner → block_of_got kept.outer ≡ outer → Keeps x kept n n.at
  pub made : made_so_far n.upper None n.at ≡ steps

-- ---- by the addresses of the inode

none_left : (addrs : List ℕ) → length addrs ≡ 13 → ((j : ℕ) → j < 13 → get_or addrs j 0 ≡ 0) → addrs ≡ replicate 13 0
none_left addrs long none = ext_get_or 0 addrs (replicate 13 0) (long ∙ sym (length-replicate {A = ℕ} 13 0))
    (λ i low. none i (omega (arith, low, long)) ∙ sym (get_or-replicate {A = ℕ} 13 i 0 0 (omega (arith, low, long))))

module _ (x : Image) (m : Itrunc) (from : ℕ) (form : m.form ≡ form_of x) (long : length m.inode.addrs ≡ 13) (inside : m.slot < 13) (given : AreGivenUp m from) where
  -- none is there before the next one
  before_next : (k : ℕ) → IsNext m.inode.addrs from 13 k → AreGivenUp m k
  before_next k next j low = ⊎_elim (λ (earlier : j < from). given j earlier) (λ (above : from ≤ j). next.before j above low) (cases_lt j from)

  by_kind : (k : ℕ) → IsNext m.inode.addrs from 13 k → (t : Bool) → ltb k (direct_count m.form) ≡ t
      → (let n : Itrunc = record m { slot = k; upper = None; given_up = 0; at = cond t TruncAt.Direct (TruncAt.Loading (get_or m.inode.addrs k 0)) } in ComesTo x m n (0 ∷ []) None None 0)
  by_kind k next true direct = record {
    same = refl;
    slot = next.high;
    alike = λ c. refl;
    given = record { direct = ltb-true k (direct_count m.form) direct; before = before_next k next; there = next.some; upper = refl; given_up = refl };
    keeps = λ kept inner outer. record { inner = inner; outer = outer };
    made = refl;
  }
  by_kind k next false tree =
      let from_tree : direct_count m.form ≤ k = ltb-false k (direct_count m.form) tree in
      let deep : 1 ≤ depth_of x k = subst (λ (f : Form). 1 ≤ get_or (depths f) k 0) form (tree_depth m.form k from_tree next.high).0 in
      record {
        same = refl;
        slot = next.high;
        alike = λ c. refl;
        given = (record { tree = from_tree; slot = next.high; before = before_next k next; there = next.some; level = omega (arith, deep) }, refl, refl);
        keeps = λ kept inner outer. record { inner = inner; outer = outer };
        made = refl;
      }

  pub address_comes : ComesTo x m (at_address m from) (0 ∷ []) None None 0
  address_comes = by_next (present_from m.inode.addrs from 13) refl
    where
      by_next : (o : Option ℕ) → present_from m.inode.addrs from 13 ≡ o → ComesTo x m (address_or_on m o) (0 ∷ []) None None 0
      by_next None found = record {
        same = refl;
        slot = inside;
        alike = λ c. refl;
        given = none_left m.inode.addrs long (λ j low. ⊎_elim (λ (earlier : j < from). given j earlier) (λ (above : from ≤ j). none_is m.inode.addrs from 13 found j above low) (cases_lt j from));
        keeps = λ kept inner outer. record { inner = inner; outer = outer };
        made = refl;
      }
      by_next (Some k) found = by_kind k (next_is m.inode.addrs from 13 k found) (ltb k (direct_count m.form)) refl

-- what it is but for its place
pub address_same : (m : Itrunc) (from : ℕ) → at_address m from ≡ record m { slot = (at_address m from).slot; upper = None; given_up = 0; at = (at_address m from).at }
address_same m from = by_next (present_from m.inode.addrs from 13)
  where
    by_next : (o : Option ℕ) → address_or_on m o ≡ record m { slot = (address_or_on m o).slot; upper = None; given_up = 0; at = (address_or_on m o).at }
    by_next None = refl
    by_next (Some k) = refl

-- nothing is given up there of a block of addresses
pub address_cursor : (m : Itrunc) (from : ℕ) → (held_of (at_address m from)).cursor ≡ 0 ∷ []
address_cursor m from = by_next (present_from m.inode.addrs from 13)
  where
    by_next : (o : Option ℕ) → (held_of (address_or_on m o)).cursor ≡ 0 ∷ []
    by_next None = refl
    by_next (Some k) = refl

-- once the inode's address is given up
pub address_left_comes : (x : Image) (m : Itrunc) → m.form ≡ form_of x → length m.inode.addrs ≡ 13 → m.slot < 13 → AreGivenUp m m.slot
    → ComesTo x (record m { inode = inode_without m.inode m.slot }) (address_left m) (0 ∷ []) None None 0
address_left_comes x m form long inside given =
    address_comes x (record m { inode = inode_without m.inode m.slot }) (m.slot + 1) form (length-set m.inode.addrs m.slot 0 ∙ long) inside
    (λ j low. ⊎_elim
    (λ (here : j ≡ m.slot). ap (λ (i : ℕ). get_or (set m.inode.addrs m.slot 0) i 0) here ∙ get_or-set_same m.inode.addrs m.slot 0 0 (omega (arith, inside, long)))
    (λ (apart : j ≢ m.slot). get_or-set_other m.inode.addrs m.slot j 0 0 apart ∙ given j (omega (arith, low, apart)))
    (cases_eq j m.slot))

-- ---- the first of a truncation

module _ (i : ℕ) (d : Dinode) (form : Form) (removes : Bool) (bitmap : ℕ) where
  abbrev first : Itrunc
  first = first_trunc i d form removes bitmap

  pub first_number : first.number ≡ i
  first_number = ap (λ (m : Itrunc). m.number) (address_same (unbegun i d form removes bitmap) 0)

  -- it holds the whole file
  pub first_held : held_of first ≡ (let h : Held = record { copy = d; cursor = 0 ∷ []; last_kind = cond removes 0 d.kind } in h)
  first_held = ap held_of (address_same (unbegun i d form removes bitmap) 0)

  pub first_comes : (x : Image) → form ≡ form_of x → length d.addrs ≡ 13 → ComesTo x (unbegun i d form removes bitmap) first (0 ∷ []) None None 0
  first_comes x same long = address_comes x (unbegun i d form removes bitmap) 0 same long (omega arith) (λ j low. absurd (omega (arith, low)))

-- ---- by the entries of a block of addresses

module _ (x : Image) (m : Itrunc) (h : IsInHand x m) where
  -- entries that are not there are passed over
  module _ (way : List ℕ) (n down from to : ℕ) (deep : depth_of x m.slot ≡ length way + suc down) (led : led_to x way (root_of m) ≡ n) (some : n ≢ 0)
      (low : from ≤ to) (none : (k : ℕ) → from ≤ k → k < to → entry_of x n k ≡ 0) where
    passed_to : LeavesAlike x m.inode (way ++ to ∷ []) (way ++ from ∷ [])
    passed_to =
        let same : from + (to - from) ≡ to = omega (arith, low) in
        subst (λ (k : ℕ). LeavesAlike x m.inode (way ++ k ∷ []) (way ++ from ∷ [])) same
        (passed_alike x m.inode m.slot way n down (first_tree x m h) deep led some (to - from) from (λ k above beneath. none k above (omega (arith, beneath, low))))

  module _ (entries : List ℕ) (from : ℕ) (low : from ≤ 256) where
    -- where they name data blocks
    module _ (leads : depth_of x m.slot ≡ suc (length (way_of m))) (same : entries ≡ words_of (block_at x (hand_in x m))) where
      at_hand : (e : ℕ) → get_or entries e 0 ≡ entry_of x (hand_in x m) e
      at_hand e = ap (λ (l : List ℕ). get_or l e 0) same

      pub entries_come : ComesTo x m (at_entries m entries from) (way_of m ++ from ∷ []) (Some (hand_in x m)) (above_hand m) (1 + one_for m.upper)
      entries_come = by_next (present_from entries from 256) refl
        where
          by_next : (o : Option ℕ) → present_from entries from 256 ≡ o → ComesTo x m (entry_or_on m o) (way_of m ++ from ∷ []) (Some (hand_in x m)) (above_hand m) (1 + one_for m.upper)
          by_next None found = record {
            same = refl;
            slot = h.slot;
            alike = passed_to (way_of m) (hand_in x m) (below x m h) from 256 (deep x m h) refl h.there low (λ k above beneath. sym (at_hand k) ∙ none_is entries from 256 found k above beneath);
            given = (record { tree = h.tree; slot = h.slot; before = h.before; there = h.there; level = h.level }, refl);
            keeps = λ kept inner outer. record { inner = inner; outer = outer };
            made = refl;
          }
          by_next (Some e) found =
              let next = next_is entries from 256 e found in
              record {
                same = refl;
                slot = h.slot;
                alike = passed_to (way_of m) (hand_in x m) (below x m h) from e (deep x m h) refl h.there next.low (λ k above beneath. sym (at_hand k) ∙ next.before k above beneath);
                given = record {
                  hand = record { tree = h.tree; slot = h.slot; before = h.before; there = h.there; level = h.level };
                  names_data = leads;
                  within = next.high;
                  there = subst (λ (b : ℕ). b ≢ 0) (at_hand e) next.some;
                };
                keeps = λ kept inner outer. record { inner = inner; outer = outer };
                made = omega arith;
              }

    -- where they name second blocks
    module _ (two : depth_of x m.slot ≡ 2) (same : entries ≡ words_of (block_at x (root_of m))) where
      at_root : (e : ℕ) → get_or entries e 0 ≡ entry_of x (root_of m) e
      at_root e = ap (λ (l : List ℕ). get_or l e 0) same

      second_is : (e : ℕ) → led_to x (e ∷ []) (root_of m) ≡ get_or entries e 0
      second_is e = rw (ne_eqb (root_of m) 0 (root_there x m h)) (sym (at_root e))

      pub branches_come : ComesTo x m (at_branches m entries from) (from ∷ []) (Some (root_of m)) None 1
      branches_come = by_next (present_from entries from 256) refl
        where
          by_next : (o : Option ℕ) → present_from entries from 256 ≡ o → ComesTo x m (branch_or_on m entries o) (from ∷ []) (Some (root_of m)) None 1
          by_next None found = record {
            same = refl;
            slot = h.slot;
            alike = passed_to [] (root_of m) 1 from 256 two refl (root_there x m h) low (λ k above beneath. sym (at_root k) ∙ none_is entries from 256 found k above beneath);
            given = (record { tree = h.tree; slot = h.slot; before = h.before; there = root_there x m h; level = omega (arith, two) }, refl);
            keeps = λ kept inner outer. record { inner = inner; outer = outer };
            made = refl;
          }
          by_next (Some e) found =
              let next = next_is entries from 256 e found in
              let there : led_to x (e ∷ []) (root_of m) ≢ 0 = subst (λ (b : ℕ). b ≢ 0) (sym (second_is e)) next.some in
              let begun = begun_alike x m.inode m.slot (e ∷ []) (led_to x (e ∷ []) (root_of m)) 0 (first_tree x m h) two refl there in
              let passed = passed_to [] (root_of m) 1 from e two refl (root_there x m h) next.low (λ k above beneath. sym (at_root k) ∙ next.before k above beneath) in
              record {
                same = refl;
                slot = h.slot;
                alike = λ c. begun c ∙ passed c;
                given = (record { tree = h.tree; slot = h.slot; before = h.before; there = there; level = omega (arith, two) }, refl, second_is e);
                keeps = λ kept inner outer. record { inner = inner; outer = outer };
                made = refl;
              }

  -- a block of addresses was got
  pub block_comes : m.form ≡ form_of x → ComesTo x m (at_block m (words_of (block_at x (hand_in x m)))) (way_of m ++ 0 ∷ []) (Some (hand_in x m)) (above_hand m) (1 + one_for m.upper)
  block_comes form = by_kind (leads_to_data m) refl
    where
      by_kind : (t : Bool) → leads_to_data m ≡ t
          → ComesTo x m (cond t (at_entries m (words_of (block_at x (hand_in x m))) 0) (at_branches m (words_of (block_at x (hand_in x m))) 0)) (way_of m ++ 0 ∷ []) (Some (hand_in x m)) (above_hand m) (1 + one_for m.upper)
      by_kind true leads = entries_come (words_of (block_at x (hand_in x m))) 0 (omega arith) (names_data x m h form leads) refl
      by_kind false leads =
          let is = branches x m h form leads in
          let entries : List ℕ = words_of (block_at x (hand_in x m)) in
          let own : hand_in x m ≡ root_of m = ap (λ (o : Option ℕ). led_to x (listed o) (root_of m)) is.0 in
          subst (λ (o : Option ℕ). ComesTo x m (at_branches m entries 0) (listed o ++ 0 ∷ []) (Some (led_to x (listed o) (root_of m))) (above_by o (root_of m)) (1 + one_for o)) (sym is.0)
          (branches_come entries 0 (omega arith) is.1 (ap (λ (b : ℕ). words_of (block_at x b)) own))

-- ---- how much was made of blocks that are left

pub few_for : (o : Option ℕ) → one_for o ≤ 1
few_for None = omega arith
few_for (Some i) = omega arith

pub few_made : (upper used : Option ℕ) (a : TruncAt) → made_so_far upper used a ≤ 4
few_made upper used TruncAt.Direct = let one = few_for used in omega (arith, one)
few_made upper used (TruncAt.Loading b) = let one = few_for upper in omega (arith, one)
few_made upper used TruncAt.Entry = let one = few_for used in let two = few_for upper in omega (arith, one, two)
few_made upper used TruncAt.Unloading = let one = few_for upper in omega (arith, one)
few_made upper used TruncAt.Freeing = let one = few_for used in let two = few_for upper in omega (arith, one, two)
few_made upper used TruncAt.Updating = let one = few_for used in omega (arith, one)
