-- The blocks of addresses that tasks keep: each is its file's own, and nobody who keeps one waits
-- for one that is kept.
use Rattle.std.proofs.Common.{◌≡◌, ◌≢◌, ℕ, ◌<◌, ◌≤◌, false, List, [], ◌∷◌, ◌++◌, refl, sym, ◌∙◌, ap, subst, arith, Option, Some, None, inl, inr, ◌⊎◌}
use Rattle.std.specs.Prelude.{IsTrue, is_some}
use Rattle.inodes.specs.Common.{above_by, above_hand, addresses_in, ahead_of, ahead_root, AllocAt, AllocState, AreLooking, between, bitmap_block, block_by, block_of_alloc, block_of_got, Branch, branch_of, Buffers, bytes_by, cases_eq, cause_to_get, Claim, claimed_in_data, claims_of, count_of, Extent, first_data_block, first_kept, first_left, first_twice, form_of, Freeing, frees, Got, grip_of, grows, growth_of, hand_in, HasComeTo, HasGivenUp, HasLogged, HasOne, held_has_blocks, held_of, HoldsAt, HoldsBlock, Image, inode_count_of, is_number, IsHeldIn, IsInHand, IsOnWay, IsTruncating, IsWriting, Keeps, kept_by_write, kept_on_way, last_kept, led_step, led_to, LiesOnWay, listed, locked_grip, LogState, LooksAt, MapAt, MapState, named_mine, names_claimed, names_left, next_block, node_of_write, node_on_way, now_by, Op, owned_by_one, pointers_in, root_of, slot_kept, slot_of_alloc, Stage, Stands, TableState, taken_at, taken_by, taken_on_way, taken_owned, task, TaskState, TruncAt, used_by, way_of, WriteAt, WriteState}
use Rattle.inodes.proofs.WriteNodes.{lies_named}
use Rattle.inodes.specs.Lemmas.Looks.{trunc_locks, write_locks}
use Rattle.inodes.specs.Waiting.{cause_at, unless_got, wanted_by_write, wanted_on_way}
use Rattle.inodes.specs.Lemmas.Unclaimed.{one_holder, own_claim, own_growth}
use Rattle.inodes.proofs.FreePlaces.{IsOneOf, is_free, got_at, gots, gots_kept, kept_by, maps_freely, writes_freely, some_got}
use Rattle.inodes.proofs.InHand.{first_tree, root_there, two_deep}

-- ---- what is kept

-- its process has the buffer's lock, and an operation open in the log
pub record KeepsOpen (c : Buffers) (l : LogState) (p : ℕ) (g : Got) : Type 0 where
  pub holds : HoldsBlock c p g.block g.slot
  pub used : ℕ
  pub has : used_by l p ≡ Some used

some_logged : (l : LogState) (p b : ℕ) → HasLogged l p b → (u : ℕ) × (used_by l p ≡ Some u)
some_logged l p b (inl none) = (0, none)
some_logged l p b (inr one) = (1, one.0)

one_held : {c : Buffers} {p : ℕ} (g : Got) (o : Option Got) → IsOneOf g (gots o) → HasOne c p o → HoldsBlock c p g.block g.slot
one_held g None is has = absurd is
one_held {c} {p} g (Some h) (inl same) has = subst (λ (o : Got). HoldsBlock c p o.block o.slot) (sym same) has
one_held g (Some h) (inr none) has = absurd none

-- one of two lists
in_either : (g : Got) (gs hs : List Got) → IsOneOf g (gs ++ hs) → IsOneOf g gs ⊎ IsOneOf g hs
in_either g [] hs is = inr is
in_either g (o ∷ gs) hs (inl same) = inl (inl same)
in_either g (o ∷ gs) hs (inr later) = elim (in_either g gs hs later) [
  | inl here ↦ inl (inr here)
  | inr there ↦ inr there
]

slot_held : {c : Buffers} {p : ℕ} (b : ℕ) (g : Got) (o : Option ℕ) → IsOneOf g (got_at b o) → HoldsAt c p b o → HoldsBlock c p g.block g.slot
slot_held b g None is has = absurd is
slot_held {c} {p} b g (Some i) (inl same) has = subst (λ (o : Got). HoldsBlock c p o.block o.slot) (sym same) has
slot_held b g (Some i) (inr none) has = absurd none

pub keeps_open : (c : Buffers) (l : LogState) (n p : ℕ) (g : Got) (o : Option Op) (a : Stage) → IsOneOf g (kept_by a) → Stands c l n p o a → KeepsOpen c l p g
keeps_open c l n p g o Stage.Nowhere has stands = absurd has
keeps_open c l n p g o (Stage.Creating m) has stands = absurd has
keeps_open c l n p g o (Stage.Taking m) has stands = absurd has
keeps_open c l n p g o (Stage.Reading k m) has stands = absurd has
keeps_open c l n p g o (Stage.Delivering k) has stands = absurd has
keeps_open c l n p g o (Stage.Truncating k m) has stands =
    let log = some_logged l p m.machine.bitmap stands.logged in
    record {
      holds = elim (in_either g (gots m.kept.inner) (gots m.kept.outer) has) [
        | inl inner ↦ one_held g m.kept.inner inner stands.holds.inner
        | inr outer ↦ one_held g m.kept.outer outer stands.holds.outer
      ];
      used = log.0;
      has = log.1;
    }
keeps_open c l n p g o (Stage.Writing k m) has stands = record {
  holds = slot_held (node_of_write m.at) g (kept_by_write m.at) has stands.kept;
  used = stands.logged.homes;
  has = stands.logged.used;
}
keeps_open c l n p g o (Stage.Setting k d u) has stands = absurd has
keeps_open c l n p g o (Stage.Leaving k) has stands = absurd has

module _ (cur : Image) (t : TableState) (ts : List TaskState) (are : AreLooking cur t ts) (numbers : t.inode_count ≡ inode_count_of cur) where
  -- ---- whose block it is

  -- block b is of the file whose inode process p has locked
  pub record IsOwn (p b : ℕ) : Type 0 where
    pub number : ℕ
    pub entry : ℕ
    pub locked : grip_of (task ts p) ≡ Some (locked_grip entry number)
    pub is : IsTrue (is_number (inode_count_of cur) number)
    pub owned : 1 ≤ count_of b (names_claimed cur number (claims_of ts number))

  named : (i : ℕ) → IsTrue (is_number t.inode_count i) → IsTrue (is_number (inode_count_of cur) i)
  named i is = subst (λ (n : ℕ). IsTrue (is_number n i)) numbers is

  -- what the freeing of a file's blocks has still to free is its own
  left_own : (p k b : ℕ) (m : Freeing) → (task ts p).stage ≡ Stage.Truncating k m → IsTrue (is_number t.inode_count m.machine.number) →
      1 ≤ count_of b (names_left cur m.machine.inode (held_of m.machine).cursor) → IsOwn p b
  left_own p k b m at number some = record {
    number = m.machine.number;
    entry = k;
    locked = trunc_locks cur t ts are p k m at;
    is = named m.machine.number number;
    owned = subst (λ (o : Option Claim). 1 ≤ count_of b (names_claimed cur m.machine.number o)) (sym (own_claim cur t ts are p k m at)) some;
  }

  module _ (p k : ℕ) (m : Freeing) (at : (task ts p).stage ≡ Stage.Truncating k m) (number : IsTrue (is_number t.inode_count m.machine.number)) (h : IsInHand cur m.machine) where
    root_own : IsOwn p (root_of m.machine)
    root_own = left_own p k (root_of m.machine) m at number
        (first_left cur m.machine.inode m.machine.slot (held_of m.machine).cursor [] (root_of m.machine) (first_tree cur m.machine h) (omega arith) refl (root_there cur m.machine h) (ahead_root (held_of m.machine).cursor))

    hand_own : IsOwn p (hand_in cur m.machine)
    hand_own = left_own p k (hand_in cur m.machine) m at number
        (first_left cur m.machine.inode m.machine.slot (held_of m.machine).cursor (way_of m.machine) (hand_in cur m.machine) (first_tree cur m.machine h) (let level = h.level in omega (arith, level)) refl h.there
        (ahead_of (way_of m.machine) m.machine.given_up))

    above_own : (u : Option ℕ) (b : ℕ) → above_by u (root_of m.machine) ≡ Some b → IsOwn p b
    above_own None b is = absurd (cc is)
    above_own (Some e) b is = let root : root_of m.machine ≡ b = cc is in subst (IsOwn p) root root_own

    -- a second block is another than the block above it
    second_apart : m.machine.form ≡ form_of cur → (b : ℕ) → above_hand m.machine ≡ Some b → hand_in cur m.machine ≢ b
    second_apart form b is same = by_upper m.machine.upper refl is
      where
        root : ℕ
        root = root_of m.machine

        by_upper : (u : Option ℕ) → m.machine.upper ≡ u → above_by u (root_of m.machine) ≡ Some b → ⊥
        by_upper None upper is = cc is
        by_upper (Some e) upper is =
            let above : root ≡ b = cc is in
            let step = led_step cur e [] root root (sym (ap (λ (o : Option ℕ). led_to cur (listed o) root) upper) ∙ same ∙ sym above) (root_there cur m.machine h) in
            let twice = first_twice cur m.machine.inode m.machine.slot e 1 (m.machine.given_up ∷ []) (first_tree cur m.machine h) (two_deep cur m.machine h form e upper) step.1 in
            let few = (held_has_blocks are.files.0 cur (claims_of ts) m.machine.number (frees (held_of m.machine))
            (record { fits = are.files.1; number = named m.machine.number number; holds = own_claim cur t ts are p k m at })).once root in
            omega (arith, twice, few, (ap (λ (o : Option ℕ). count_of root (names_left cur m.machine.inode (listed o ++ m.machine.given_up ∷ []))) upper))

  held_in : (p k : ℕ) (m : WriteState) → (task ts p).stage ≡ Stage.Writing k m → IsTrue (is_number t.inode_count m.number) →
      IsHeldIn are.files.0 cur (claims_of ts) m.number (grows (growth_of m (task ts p).op))
  held_in p k m at number = record { fits = are.files.1; number = named m.number number; holds = own_growth cur t ts are p k m at }

  write_own : (p k b : ℕ) (m : WriteState) → (task ts p).stage ≡ Stage.Writing k m → IsTrue (is_number t.inode_count m.number) → 1 ≤ count_of b (addresses_in (pointers_in cur m.inode)) → IsOwn p b
  write_own p k b m at number has =
      record {
        number = m.number;
        entry = k;
        locked = write_locks cur t ts are p k m at;
        is = named m.number number;
        owned = omega (arith, (named_mine are.files.0 cur (claims_of ts) m.number (growth_of m (task ts p).op) (held_in p k m at number) b), has);
      }

  -- which block it is that was got
  block_is : (g : Got) (o : Option Got) → IsOneOf g (gots o) → block_of_got o ≡ Some g.block
  block_is g None is = absurd is
  block_is g (Some h) (inl same) = ap (λ (o : Got). Some o.block) (sym same)
  block_is g (Some h) (inr none) = absurd none

  -- what the freeing of a file's blocks keeps is its own
  module _ (p k : ℕ) (m : Freeing) (at : (task ts p).stage ≡ Stage.Truncating k m) (work : IsTruncating cur t.inode_count (task ts p) m) where
    last_own : (b : ℕ) (a : TruncAt) → HasGivenUp cur m.machine a → last_kept cur m.machine a ≡ Some b → IsOwn p b
    last_own b TruncAt.Direct given is = absurd (cc is)
    last_own b (TruncAt.Loading c) given is = above_own p k m at work.number given.0 m.machine.upper b is
    last_own b TruncAt.Entry given is = let hand : hand_in cur m.machine ≡ b = cc is in subst (IsOwn p) hand (hand_own p k m at work.number given.hand)
    last_own b TruncAt.Unloading given is = let hand : hand_in cur m.machine ≡ b = cc is in subst (IsOwn p) hand (hand_own p k m at work.number given.0)
    last_own b TruncAt.Freeing given is = above_own p k m at work.number given.0 m.machine.upper b is
    last_own b TruncAt.Updating given is = absurd (cc is)

    first_own : (b : ℕ) (a : TruncAt) → HasGivenUp cur m.machine a → first_kept m.machine a ≡ Some b → IsOwn p b
    first_own b TruncAt.Direct given is = absurd (cc is)
    first_own b (TruncAt.Loading c) given is = absurd (cc is)
    first_own b TruncAt.Entry given is = above_own p k m at work.number given.hand m.machine.upper b is
    first_own b TruncAt.Unloading given is = above_own p k m at work.number given.0 m.machine.upper b is
    first_own b TruncAt.Freeing given is = absurd (cc is)
    first_own b TruncAt.Updating given is = absurd (cc is)

    trunc_own : (g : Got) → IsOneOf g (gots_kept m.kept) → IsOwn p g.block
    trunc_own g has = elim (in_either g (gots m.kept.inner) (gots m.kept.outer) has) [
      | inl inner ↦ last_own g.block m.machine.at work.given (sym work.keeps.inner ∙ block_is g m.kept.inner inner)
      | inr outer ↦ first_own g.block m.machine.at work.given (sym work.keeps.outer ∙ block_is g m.kept.outer outer)
    ]

  -- who keeps one in the writing of a file's bytes keeps one that the copy names
  module _ (p k : ℕ) (m : WriteState) (at : (task ts p).stage ≡ Stage.Writing k m) (work : IsWriting cur t.inode_count (task ts p) m) where
    way_kept : (i : ℕ) (b : Branch) (a : MapAt) → b ≡ branch_of m.extent.form (next_block m) → kept_on_way a ≡ Some i → maps_freely a ≡ false → IsOnWay cur m.inode m.extent b a
        → 1 ≤ count_of (node_on_way a) (addresses_in (pointers_in cur m.inode))
    way_kept i b (MapAt.Address s) is has waits on = absurd (cc has)
    way_kept i b (MapAt.Entry n None) is has waits on = absurd (cc has)
    way_kept i b (MapAt.Entry n (Some j)) is has waits on = absurd (cc waits)
    way_kept i b (MapAt.Behind n j s) is has waits on =
        lies_named are.files.0 cur (claims_of ts) m.number (growth_of m (task ts p).op) (held_in p k m at work.number) m.extent.form (ap (λ (e : Extent). e.form) work.extent) (next_block m) n
        (subst (λ (c : Branch). LiesOnWay cur m.inode c n) is on.0.0)
    way_kept i b (MapAt.Setting n j found) is has waits on = absurd (cc waits)

    write_kept : (i : ℕ) (a : WriteAt) → kept_by_write a ≡ Some i → writes_freely a ≡ false → HasComeTo cur m a → 1 ≤ count_of (node_of_write a) (addresses_in (pointers_in cur m.inode))
    write_kept i (WriteAt.Mapping way) has waits come = way_kept i way.branch way.at come.1.branch has waits come.1.at
    write_kept i (WriteAt.Block b slot) has waits come = absurd (cc has)
    write_kept i (WriteAt.Updating u) has waits come = absurd (cc has)

  -- the slot of a block that was got there
  slot_is : (g : Got) (b : ℕ) (o : Option ℕ) → IsOneOf g (got_at b o) → (o ≡ Some g.slot) × (g.block ≡ b)
  slot_is g b None is = absurd is
  slot_is g b (Some i) (inl same) = (ap (λ (h : Got). Some h.slot) (sym same), ap (λ (h : Got). h.block) same)
  slot_is g b (Some i) (inr none) = absurd none

  -- what is kept is the process's own
  pub kept_own : (p : ℕ) (g : Got) → IsOneOf g (kept_by (task ts p).stage) → is_free (task ts p).stage ≡ false → IsOwn p g.block
  kept_own p g has waits = by_place (task ts p).stage refl (are.stand p) has waits
    where
      by_place : (a : Stage) → (task ts p).stage ≡ a → LooksAt cur t (task ts p) a → IsOneOf g (kept_by a) → is_free a ≡ false → IsOwn p g.block
      by_place Stage.Nowhere at looks has waits = absurd has
      by_place (Stage.Creating m) at looks has waits = absurd has
      by_place (Stage.Taking m) at looks has waits = absurd has
      by_place (Stage.Reading k m) at looks has waits = absurd has
      by_place (Stage.Delivering k) at looks has waits = absurd has
      by_place (Stage.Truncating k m) at looks has waits = trunc_own p k m at looks g has
      by_place (Stage.Writing k m) at looks has waits =
          let is = slot_is g (node_of_write m.at) (kept_by_write m.at) has in
          subst (IsOwn p) (sym is.1) (write_own p k (node_of_write m.at) m at looks.number (write_kept p k m at looks g.slot m.at is.0 waits looks.come))
      by_place (Stage.Setting k d u) at looks has waits = absurd has
      by_place (Stage.Leaving k) at looks has waits = absurd has

  -- ---- what is waited for

  -- a block of the process's own that it doesn't keep
  pub record IsTaken (p b : ℕ) : Type 0 where
    pub own : IsOwn p b
    pub apart : (g : Got) → IsOneOf g (kept_by (task ts p).stage) → b ≢ g.block

  -- Who keeps a block of addresses waits for the bitmap's block, or for one of its own that it
  -- doesn't keep
  pub record WaitsBehind (c : Buffers) (p : ℕ) : Type 0 where
    pub block : ℕ
    pub cause : cause_at c t (task ts p).stage ≡ cause_to_get c (Some block)
    pub what : (block ≡ bitmap_block (inode_count_of cur)) ⊎ IsTaken p block

  the_bitmap : bitmap_block t.inode_count ≡ bitmap_block (inode_count_of cur)
  the_bitmap = ap bitmap_block numbers

  module _ (c : Buffers) (p k : ℕ) (m : Freeing) (g : Got) (at : (task ts p).stage ≡ Stage.Truncating k m) (work : IsTruncating cur t.inode_count (task ts p) m)
      (has : IsOneOf g (gots_kept m.kept)) where
    -- it waits for the bitmap's block
    for_bitmap : (a : TruncAt) → m.machine.at ≡ a → block_by m.machine a ≡ m.machine.bitmap → is_some (slot_kept (now_by m a)) ≡ false → WaitsBehind c p
    for_bitmap a is map waits = record {
      block = m.machine.bitmap;
      cause = ap (cause_at c t) at ∙ ap (λ (o : TruncAt). cause_to_get c (unless_got (slot_kept (now_by m o)) (block_by m.machine o))) is
          ∙ some_got c (slot_kept (now_by m a)) (block_by m.machine a) waits ∙ ap (λ (b : ℕ). cause_to_get c (Some b)) map;
      what = inl (work.bitmap ∙ the_bitmap);
    }

    -- or for a second block
    for_second : (b : ℕ) → m.machine.at ≡ TruncAt.Loading b → HasGivenUp cur m.machine (TruncAt.Loading b) → Keeps cur m.kept m.machine (TruncAt.Loading b) → WaitsBehind c p
    for_second b is given keeps = record {
      block = b;
      cause = ap (cause_at c t) at ∙ ap (λ (o : TruncAt). cause_to_get c (unless_got (slot_kept (now_by m o)) (block_by m.machine o))) is;
      what = inr (record {
        own = subst (IsOwn p) given.2 (hand_own p k m at work.number given.0);
        apart = λ h one same. elim (in_either h (gots m.kept.inner) (gots m.kept.outer) (subst (λ (a : Stage). IsOneOf h (kept_by a)) at one)) [
          | inl inner ↦ second_apart p k m at work.number given.0 work.form h.block (sym keeps.inner ∙ block_is h m.kept.inner inner) (given.2 ∙ same)
          | inr outer ↦ let none : None ≡ Some h.block = sym keeps.outer ∙ block_is h m.kept.outer outer in cc none
        ];
      });
    }

    nothing_kept : (a : TruncAt) → Keeps cur m.kept m.machine a → last_kept cur m.machine a ≡ None → first_kept m.machine a ≡ None → ⊥
    nothing_kept a keeps inner_none outer_none = elim (in_either g (gots m.kept.inner) (gots m.kept.outer) has) [
      | inl inner ↦ let none : None ≡ Some g.block = sym (keeps.inner ∙ inner_none) ∙ block_is g m.kept.inner inner in cc none
      | inr outer ↦ let none : None ≡ Some g.block = sym (keeps.outer ∙ outer_none) ∙ block_is g m.kept.outer outer in cc none
    ]

    kept_there : (o : Option Got) (b : ℕ) → block_of_got o ≡ Some b → is_some (slot_kept o) ≡ false → ⊥
    kept_there None b is none = cc is
    kept_there (Some h) b is none = cc none

    trunc_behind : (a : TruncAt) → m.machine.at ≡ a → HasGivenUp cur m.machine a → Keeps cur m.kept m.machine a → is_some (slot_kept (now_by m a)) ≡ false → WaitsBehind c p
    trunc_behind TruncAt.Direct is given keeps waits = absurd (nothing_kept TruncAt.Direct keeps refl refl)
    trunc_behind (TruncAt.Loading b) is given keeps waits = for_second b is given keeps
    trunc_behind TruncAt.Entry is given keeps waits = for_bitmap TruncAt.Entry is refl waits
    trunc_behind TruncAt.Unloading is given keeps waits = absurd (kept_there m.kept.inner (hand_in cur m.machine) keeps.inner waits)
    trunc_behind TruncAt.Freeing is given keeps waits = for_bitmap TruncAt.Freeing is refl waits
    trunc_behind TruncAt.Updating is given keeps waits = absurd (nothing_kept TruncAt.Updating keeps refl refl)

  -- the writing of a file's bytes
  taken_own : (p k b : ℕ) (m : WriteState) → (task ts p).stage ≡ Stage.Writing k m → IsTrue (is_number t.inode_count m.number) → 1 ≤ count_of (node_of_write m.at) (addresses_in (pointers_in cur m.inode)) → taken_by m.at ≡ Some b → IsTaken p b
  taken_own p k b m at number has taken =
      let g = growth_of m (task ts p).op in
      let owns = taken_owned are.files.0 cur (claims_of ts) m.number b g (held_in p k m at number) taken in
      let none : count_of b (addresses_in (pointers_in cur m.inode)) ≡ 0 = owns.1 in
      record {
        own = record {
          number = m.number;
          entry = k;
          locked = write_locks cur t ts are p k m at;
          is = named m.number number;
          owned = owns.0;
        };
        apart = λ g kept same.
            let is = slot_is g (node_of_write m.at) (kept_by_write m.at) (subst (λ (a : Stage). IsOneOf g (kept_by a)) at kept) in
            omega (arith, has, (ap (λ (a : ℕ). count_of a (addresses_in (pointers_in cur m.inode))) (sym is.1 ∙ sym same) ∙ none));
      }

  alloc_waits : (c : Buffers) (p k : ℕ) (m : WriteState) (s : AllocState) (a : AllocAt) → (task ts p).stage ≡ Stage.Writing k m → IsWriting cur t.inode_count (task ts p) m → 1 ≤ count_of (node_of_write m.at) (addresses_in (pointers_in cur m.inode)) →
      s.bitmap ≡ m.extent.bitmap → s.at ≡ a → taken_by m.at ≡ taken_at a → (block_of_alloc s a ≡ bitmap_block (inode_count_of cur)) ⊎ IsTaken p (block_of_alloc s a)
  alloc_waits c p k m s (AllocAt.Looking slot) at work some place_is is taken = inl (place_is ∙ ap (λ (e : Extent). e.bitmap) work.extent ∙ the_bitmap)
  alloc_waits c p k m s (AllocAt.Zeroing b slot) at work some place_is is taken = inr (taken_own p k b m at work.number some taken)

  way_behind : (c : Buffers) (p k i : ℕ) (m : WriteState) (way : MapState) (a : MapAt) → (task ts p).stage ≡ Stage.Writing k m → m.at ≡ WriteAt.Mapping way → way.at ≡ a → IsWriting cur t.inode_count (task ts p) m →
      1 ≤ count_of (node_of_write m.at) (addresses_in (pointers_in cur m.inode)) → IsOnWay cur m.inode m.extent way.branch a → kept_on_way a ≡ Some i → maps_freely a ≡ false → WaitsBehind c p
  way_behind c p k i m way (MapAt.Address s) at is on work named come has waits = absurd (cc has)
  way_behind c p k i m way (MapAt.Entry n None) at is on work named come has waits = absurd (cc has)
  way_behind c p k i m way (MapAt.Entry n (Some j)) at is on work named come has waits = absurd (cc waits)
  way_behind c p k i m way (MapAt.Behind n j s) at is on work named come has waits = record {
    block = block_of_alloc s s.at;
    cause = ap (cause_at c t) at ∙ ap (λ (b : WriteAt). cause_to_get c (wanted_by_write b)) is ∙ ap (λ (b : MapAt). cause_to_get c (wanted_on_way b)) on ∙ some_got c (slot_of_alloc s.at) (block_of_alloc s s.at) waits;
    what = alloc_waits c p k m s s.at at work named come.1.bitmap refl (ap taken_by is ∙ ap taken_on_way on);
  }
  way_behind c p k i m way (MapAt.Setting n j found) at is on work named come has waits = absurd (cc waits)

  write_behind : (c : Buffers) (p k i : ℕ) (m : WriteState) (a : WriteAt) → (task ts p).stage ≡ Stage.Writing k m → m.at ≡ a → IsWriting cur t.inode_count (task ts p) m →
      HasComeTo cur m a → kept_by_write a ≡ Some i → writes_freely a ≡ false → WaitsBehind c p
  write_behind c p k i m (WriteAt.Mapping way) at is work come has waits =
      way_behind c p k i m way way.at at is refl work (subst (λ (a : WriteAt). 1 ≤ count_of (node_of_write a) (addresses_in (pointers_in cur m.inode))) (sym is) (write_kept p k m at work i (WriteAt.Mapping way) has waits come)) come.1.at has waits
  write_behind c p k i m (WriteAt.Block b slot) at is work come has waits = absurd (cc has)
  write_behind c p k i m (WriteAt.Updating u) at is work come has waits = absurd (cc has)

  pub kept_waits : (c : Buffers) (p : ℕ) (g : Got) → IsOneOf g (kept_by (task ts p).stage) → is_free (task ts p).stage ≡ false → WaitsBehind c p
  kept_waits c p g has waits = by_place (task ts p).stage refl (are.stand p) has waits
    where
      by_place : (a : Stage) → (task ts p).stage ≡ a → LooksAt cur t (task ts p) a → IsOneOf g (kept_by a) → is_free a ≡ false → WaitsBehind c p
      by_place Stage.Nowhere at looks has waits = absurd has
      by_place (Stage.Creating m) at looks has waits = absurd has
      by_place (Stage.Taking m) at looks has waits = absurd has
      by_place (Stage.Reading k m) at looks has waits = absurd has
      by_place (Stage.Delivering k) at looks has waits = absurd has
      by_place (Stage.Truncating k m) at looks has waits = trunc_behind c p k m g at looks has m.machine.at refl looks.given looks.keeps waits
      by_place (Stage.Writing k m) at looks has waits = write_behind c p k g.slot m m.at at refl looks looks.come (slot_is g (node_of_write m.at) (kept_by_write m.at) has).0 waits
      by_place (Stage.Setting k d u) at looks has waits = absurd has
      by_place (Stage.Leaving k) at looks has waits = absurd has

  -- what is waited for so, nobody keeps
  pub waits_apart : (c : Buffers) (p q : ℕ) (g : Got) (w : WaitsBehind c p) → IsOneOf g (kept_by (task ts q).stage) → IsOwn q g.block → w.block ≢ g.block
  waits_apart c p q g w kept own same =
      let mine = between cur own.number own.is in
      elim w.what [
        | inl bitmap ↦
            let before : bitmap_block (inode_count_of cur) < first_data_block cur = omega arith in
            omega (arith, ((claimed_in_data are.files.0 cur (claims_of ts) own.number g.block are.files.1 mine.low mine.high own.owned).0), before, bitmap, same)
        | inr taken ↦
            let theirs = between cur taken.own.number taken.own.is in
            elim (cases_eq own.number taken.own.number) [
              | inl one ↦
                  let them : p ≡ q = one_holder cur t ts are p q taken.own.entry own.entry own.number (subst (λ (i : ℕ). grip_of (task ts p) ≡ Some (locked_grip taken.own.entry i)) (sym one) taken.own.locked) own.locked in
                  taken.apart g (subst (λ (r : ℕ). IsOneOf g (kept_by (task ts r).stage)) (sym them) kept) same
              | inr other ↦
                  let none = owned_by_one are.files.0 cur (claims_of ts) taken.own.number own.number w.block are.files.1 theirs.low theirs.high mine.low mine.high other taken.own.owned in
                  omega (arith, none, (subst (λ (b : ℕ). 1 ≤ count_of b (names_claimed cur own.number (claims_of ts own.number))) (sym same) own.owned))
            ]
      ]
