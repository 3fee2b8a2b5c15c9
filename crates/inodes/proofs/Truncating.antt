-- What is true of a process that frees a file's blocks: what it holds, and that it may make its next step.
use Rattle.std.proofs.Common.{◌≡◌, ◌≢◌, ℕ, ◌<◌, ◌≤◌, true, List, [], ◌∷◌, ◌++◌, get_or, length, length-append, refl, sym, ◌∙◌, ap, subst, ⊎_elim, arith, Option, Some, None}
use Rattle.std.specs.Prelude.{IsTrue, IsSome}
use Rattle.inodes.specs.Common.{above_by, Agrees, ahead_at, ahead_of, ahead_root, apart, AreLooking, between, bitmap_block, block_at, block_by, block_next, block_of_got, Claim, Claims, claims_of, count_of, current_of, direct_count, direct_left, entries_kept, entry_at, entry_of, facts_of, file_in, Files, first_left, first_twice, FitsAt, FitsHeld, Form, freed_by, Freeing, frees, Ghosts, Got, got_or, grip, grip_of, grips_of, hand_by, hand_in, HasBit, HasGivenUp, HasOne, HasSlot, held_has_blocks, held_of, Holds, HoldsBlock, HoldsForFreeing, HoldsGot, Image, InMemory, inode_block, inode_count_of, is_number, is_of, IsApart, IsAtDirect, IsAtEntry, IsBelow, IsFine, IsHeld, IsHeldIn, IsInHand, IsMapped, IsMarkedData, IsStore, IsTruncating, Joint, Keeps, led_further, led_step, led_to, length-current, LiesInData, listed, locked_grip, mapped, MayFree, MayGet, names_left, ne_eqb, now_by, now_of, root_of, Stage, Stands, StoreState, super_of, task, TruncAt, used_by, way_of, words_of}
use Rattle.wal.specs.Machine.{HasRoom}
use Rattle.model.specs.Lemmas.Words.{length-words_of-block}
use Rattle.inodes.specs.Lemmas.Faults.{where_none}
use Rattle.inodes.specs.Lemmas.Looks.{truncating_is, trunc_locks}
use Rattle.inodes.proofs.TruncGot.{HasGot, IsBeside, IsNotKept}
use Rattle.inodes.proofs.Gripping.{grip_is}
use Rattle.inodes.proofs.InHand.{first_tree, root_there, two_deep}
use Rattle.inodes.proofs.Searching.{where_got}
use Rattle.inodes.specs.Lemmas.Unclaimed.{LocksAlone, locks_alone, own_claim}

-- a place of a number has an inode
pub has_inode : (e : Option InMemory) (i : ℕ) → is_of i e ≡ true → IsSome e
has_inode None i none = absurd (cc none)
has_inode (Some e) i is = refl

-- in a store whose process p frees a file's blocks
module _ {D N : Type 0} (disk : Ghosts D N) (s : StoreState D) (p k : ℕ) (m : Freeing) (is : IsStore disk.image s) (well : s.volume.fault ≡ None)
    (stood : (task s.tasks p).stage ≡ Stage.Truncating k m) where
  abbrev cur : Image
  cur = current_of disk.image s.volume

  abbrev claims : Claims
  claims = claims_of s.tasks

  pub agrees : Agrees s.volume.buffers s.volume.log s.table.inode_count s.tasks
  agrees = where_none s.volume.fault well is.agrees

  pub looking : AreLooking cur s.table s.tasks
  looking = where_none s.volume.fault well is.looks

  pub work : IsTruncating cur s.table.inode_count (task s.tasks p) m
  work = truncating_is cur s.table s.tasks looking p k m stood

  pub gripped : grip_of (task s.tasks p) ≡ Some (locked_grip k m.machine.number)
  gripped = trunc_locks cur s.table s.tasks looking p k m stood

  pub has : grip (grips_of s.tasks) p ≡ Some (locked_grip k m.machine.number)
  has = grip_is s.tasks p ∙ gripped

  -- it alone has locked its number, and holds it
  pub alone : LocksAlone s.tasks p m.machine.number
  alone = locks_alone cur s.table s.tasks looking p k m.machine.number gripped

  pub claimed : claims_of s.tasks m.machine.number ≡ Some (frees (held_of m.machine))
  claimed = own_claim cur s.table s.tasks looking p k m stood

  pub holds : HoldsForFreeing s.volume.buffers s.volume.log p m
  holds = subst (λ (a : Stage). Stands s.volume.buffers s.volume.log s.table.inode_count p (task s.tasks p).op a) stood (agrees.stands p)

  pub got : HasGot s.volume.buffers p m
  got = record { holds = holds.holds; locks = λ e i lock. subst (λ (a : Stage). HasSlot a i) stood (agrees.holders p e i lock) }

  pub number : IsTrue (is_number (inode_count_of cur) m.machine.number)
  number = subst (λ (n : ℕ). IsTrue (is_number n m.machine.number)) is.numbers work.number

  pub held_in : (files : Files) → FitsHeld files cur claims → IsHeldIn files cur claims m.machine.number (frees (held_of m.machine))
  held_in files fits = record { fits = fits; number = number; holds = claimed }

  pub held : IsHeldIn looking.files.0 cur claims m.machine.number (frees (held_of m.machine))
  held = held_in looking.files.0 looking.files.1

  pub is_held : IsHeld cur m.machine.number (held_of m.machine) (file_in looking.files.0 m.machine.number)
  is_held =
      let at = between cur m.machine.number number in
      subst (λ (c : Option Claim). IsFine cur m.machine.number c (file_in looking.files.0 m.machine.number)) claimed (looking.files.1.each m.machine.number at.low at.high)

  pub long : length m.machine.inode.addrs ≡ 13
  long = is_held.fields.count

  pub map : IsMapped cur
  map = mapped cur is.geometry looking.files.1.full

  pub bitmap : m.machine.bitmap ≡ (super_of cur).bmapstart
  bitmap = work.bitmap ∙ ap bitmap_block is.numbers ∙ sym (facts_of cur is.geometry).map

  pub inode_apart : IsApart cur m.machine.number
  inode_apart = apart cur m.machine.number is.geometry (between cur m.machine.number number).high

  -- a block of data is not the bitmap's
  pub not_bitmap : (b : ℕ) → LiesInData cur b → b ≢ m.machine.bitmap
  not_bitmap b lies same =
      omega (arith, same, lies.0, map.before_data, bitmap)

  -- what it has still to free
  left_marked : (b : ℕ) → 1 ≤ count_of b (names_left cur m.machine.inode (held_of m.machine).cursor) → IsMarkedData cur b
  left_marked b some =
      (held_has_blocks looking.files.0 cur claims m.machine.number (frees (held_of m.machine)) held).marked b (λ none. omega (arith, some, none))

  pub direct_marked : IsAtDirect m.machine → IsMarkedData cur (root_of m.machine)
  direct_marked at =
      left_marked (root_of m.machine)
      (direct_left cur m.machine.inode (held_of m.machine).cursor m.machine.slot (subst (λ (f : Form). m.machine.slot < direct_count f) work.form at.direct) at.there)

  -- a block of addresses is full
  pub words : (b : ℕ) → LiesInData cur b → length (words_of (block_at cur b)) ≡ 256
  words b lies =
      length-words_of-block (block_at cur b) (looking.files.1.full b (omega (arith, lies.0, map.behind, map.before_data)) lies.1)

  module _ (h : IsInHand cur m.machine) where
    pub root_marked : IsMarkedData cur (root_of m.machine)
    root_marked = left_marked (root_of m.machine)
        (first_left cur m.machine.inode m.machine.slot (held_of m.machine).cursor [] (root_of m.machine) (first_tree cur m.machine h) (omega arith) refl (root_there cur m.machine h) (ahead_root (held_of m.machine).cursor))

    pub hand_marked : IsMarkedData cur (hand_in cur m.machine)
    hand_marked = left_marked (hand_in cur m.machine)
        (first_left cur m.machine.inode m.machine.slot (held_of m.machine).cursor (way_of m.machine) (hand_in cur m.machine) (first_tree cur m.machine h) (let level = h.level in omega (arith, level)) refl h.there
        (ahead_of (way_of m.machine) m.machine.given_up))

    -- a second block is another than the block that names it
    pub hand_apart : (e : ℕ) → m.machine.upper ≡ Some e → root_of m.machine ≢ led_to cur (e ∷ []) (root_of m.machine)
    hand_apart e upper same =
        let root = root_of m.machine in
        let step = led_step cur e [] root root (sym same) (root_there cur m.machine h) in
        let twice = first_twice cur m.machine.inode m.machine.slot e 1 (m.machine.given_up ∷ []) (first_tree cur m.machine h) (two_deep cur m.machine h work.form e upper) step.1 in
        let cursor : (held_of m.machine).cursor ≡ e ∷ m.machine.given_up ∷ [] = ap (λ (o : Option ℕ). listed o ++ m.machine.given_up ∷ []) upper in
        let alike = ap (λ (l : List ℕ). count_of root (names_left cur m.machine.inode l)) cursor in
        omega (arith, twice, ((held_has_blocks looking.files.0 cur claims m.machine.number (frees (held_of m.machine)) held).once root), alike)

    -- the entry above that names a block in hand is one of its block's
    pub upper_within : IsBelow m.machine.upper 256
    upper_within = by_upper m.machine.upper h.there
      where
        by_upper : (o : Option ℕ) → led_to cur (listed o) (root_of m.machine) ≢ 0 → IsBelow o 256
        by_upper None there = tt
        by_upper (Some e) there =
            omega (arith, ((led_step cur e [] (root_of m.machine) (led_to cur (e ∷ []) (root_of m.machine)) refl there).2), (words (root_of m.machine) root_marked.0))

  -- the next entry of the block in hand
  pub entry_marked : (at : IsAtEntry cur m.machine) → IsMarkedData cur (entry_of cur (hand_in cur m.machine) m.machine.given_up)
  entry_marked at =
      let way = way_of m.machine in
      let g = m.machine.given_up in
      let deep = at.names_data in
      let long = length-append way (g ∷ []) in
      left_marked (entry_of cur (hand_in cur m.machine) g)
      (first_left cur m.machine.inode m.machine.slot (held_of m.machine).cursor (way ++ g ∷ []) (entry_of cur (hand_in cur m.machine) g) (first_tree cur m.machine at.hand) (omega (arith, deep, long))
      (led_further cur way (root_of m.machine) g (hand_in cur m.machine) refl at.hand.there) at.there (ahead_at way g))

  -- its place in the table
  pub in_table : k < 50
  in_table = (looking.table.places p (locked_grip k m.machine.number) has).0

  pub inode_there : IsSome (entry_at s.table.places k)
  inode_there = has_inode (entry_at s.table.places k) m.machine.number (looking.table.places p (locked_grip k m.machine.number) has).1

  -- it may add a home to the log
  pub room : HasRoom (used_by s.volume.log p)
  room = ⊎_elim
      (λ (none : used_by s.volume.log p ≡ Some 0). subst HasRoom (sym none) (omega arith))
      (λ one. subst HasRoom (sym one.0) (omega arith))
      holds.logged

  -- the entries of the block that was kept last
  pub kept_words : (g : Got) (b : ℕ) → block_of_got m.kept.inner ≡ Some b → entries_kept cur m g ≡ words_of (block_at cur b)
  kept_words g b keeps = ap (λ (c : ℕ). words_of (block_at cur c)) (by_kept m.kept.inner keeps)
    where
      by_kept : (o : Option Got) → block_of_got o ≡ Some b → (got_or o g).block ≡ b
      by_kept None keeps = absurd (cc keeps)
      by_kept (Some kept) keeps = cc keeps

  -- a kept block is another than one that is got
  beside_by : (o : Option Got) (e : Option ℕ) (c : ℕ) → block_of_got o ≡ e → ((b : ℕ) → e ≡ Some b → b ≢ c) → IsBeside o c
  beside_by None e c is apart = tt
  beside_by (Some g) e c is apart = apart g.block (sym is)

  none_beside : (o : Option Got) (c : ℕ) → block_of_got o ≡ None → IsBeside o c
  none_beside o c none = beside_by o None c none (λ b some. absurd (cc some))

  one_beside : (o : Option Got) (b c : ℕ) → block_of_got o ≡ Some b → b ≢ c → IsBeside o c
  one_beside o b c is apart = beside_by o (Some b) c is (λ a same here. let e : b ≡ a = cc same in apart (e ∙ here))

  above_beside : (o : Option Got) (c : ℕ) → block_of_got o ≡ above_by m.machine.upper (root_of m.machine) → ((e : ℕ) → m.machine.upper ≡ Some e → root_of m.machine ≢ c) → IsBeside o c
  above_beside o c is apart = by_upper m.machine.upper refl
    where
      by_upper : (u : Option ℕ) → m.machine.upper ≡ u → IsBeside o c
      by_upper None none = none_beside o c (is ∙ ap (λ (u : Option ℕ). above_by u (root_of m.machine)) none)
      by_upper (Some e) some = one_beside o (root_of m.machine) c (is ∙ ap (λ (u : Option ℕ). above_by u (root_of m.machine)) some) (apart e some)

  -- the block above the one in hand
  above_apart : (h : IsInHand cur m.machine) (o : Option Got) (c : ℕ) → block_of_got o ≡ above_by m.machine.upper (root_of m.machine) → hand_in cur m.machine ≡ c → IsBeside o c
  above_apart h o c is hand = above_beside o c is (λ e upper same. hand_apart h e upper (same ∙ sym hand ∙ ap (λ (u : Option ℕ). led_to cur (listed u) (root_of m.machine)) upper))

  apart_at : (a : TruncAt) → HasGivenUp cur m.machine a → Keeps cur m.kept m.machine a → IsNotKept m.kept (block_by m.machine a)
  apart_at TruncAt.Direct given keeps = (none_beside m.kept.inner m.machine.bitmap keeps.inner, none_beside m.kept.outer m.machine.bitmap keeps.outer)
  apart_at (TruncAt.Loading b) given keeps = (above_apart given.0 m.kept.inner b keeps.inner given.2, none_beside m.kept.outer b keeps.outer)
  apart_at TruncAt.Entry given keeps = (
    one_beside m.kept.inner (hand_in cur m.machine) m.machine.bitmap keeps.inner (not_bitmap (hand_in cur m.machine) (hand_marked given.hand).0),
    above_beside m.kept.outer m.machine.bitmap keeps.outer (λ e upper. not_bitmap (root_of m.machine) (root_marked given.hand).0),
  )
  apart_at TruncAt.Unloading given keeps =
      (one_beside m.kept.inner (hand_in cur m.machine) 0 keeps.inner given.0.there, above_beside m.kept.outer 0 keeps.outer (λ e upper. root_there cur m.machine given.0))
  apart_at TruncAt.Freeing given keeps =
      (above_beside m.kept.inner m.machine.bitmap keeps.inner (λ e upper. not_bitmap (root_of m.machine) (root_marked given.0).0), none_beside m.kept.outer m.machine.bitmap keeps.outer)
  apart_at TruncAt.Updating given keeps = (none_beside m.kept.inner (inode_block m.machine.number) keeps.inner, none_beside m.kept.outer (inode_block m.machine.number) keeps.outer)

  -- what it keeps it does not get
  pub keeps_apart : IsNotKept m.kept (block_next m)
  keeps_apart = apart_at m.machine.at work.given work.keeps

  given_at : (a : TruncAt) → m.machine.at ≡ a → HasGivenUp cur m.machine a × Keeps cur m.kept m.machine a
  given_at a at = (subst (HasGivenUp cur m.machine) at work.given, subst (Keeps cur m.kept m.machine) at work.keeps)

  -- a block of addresses is given back before the one above it
  pub second_apart : (g : Got) → m.kept.inner ≡ Some g → m.machine.at ≡ TruncAt.Unloading → IsBeside m.kept.outer g.block
  second_apart g is at =
      let unloads = given_at TruncAt.Unloading at in
      above_apart unloads.0.0 m.kept.outer g.block unloads.1.outer (sym (cc (sym (ap block_of_got is) ∙ unloads.1.inner)))

  -- and is there
  pub never_gets : now_of m ≡ None → m.machine.at ≢ TruncAt.Unloading
  never_gets none at =
      cc (sym (ap block_of_got (sym (ap (now_by m) at) ∙ none)) ∙ (given_at TruncAt.Unloading at).1.inner)

  -- beside one that is got, one is kept at most
  is_none : (o : Option Got) → block_of_got o ≡ None → o ≡ None
  is_none None is = refl
  is_none (Some g) is = absurd (cc is)

  pub one_kept : (b : ℕ) → m.machine.at ≡ TruncAt.Loading b → m.kept.outer ≡ None
  one_kept b at = is_none m.kept.outer (given_at (TruncAt.Loading b) at).1.outer

  -- the block in hand, as the machine finds it
  pub hand_is : (g : Got) (h : IsInHand cur m.machine) → Keeps cur m.kept m.machine TruncAt.Freeing
      → hand_by m.machine.upper m.machine (entries_kept cur m g) ≡ hand_in cur m.machine
  hand_is g h keeps = by_upper m.machine.upper keeps.inner
    where
      by_upper : (u : Option ℕ) → block_of_got m.kept.inner ≡ above_by u (root_of m.machine) → hand_by u m.machine (entries_kept cur m g) ≡ led_to cur (listed u) (root_of m.machine)
      by_upper None is = refl
      by_upper (Some e) is = rw (ne_eqb (root_of m.machine) 0 (root_there cur m.machine h)) (ap (λ (l : List ℕ). get_or l e 0) (kept_words g (root_of m.machine) is))

  -- ---- its next step

  module _ (joint : Joint (disk.image s.volume.device) s.volume.buffers s.volume.log) where
    size : s.volume.log.size ≡ length cur
    size = let long = length-current (disk.image s.volume.device) s.volume.buffers in sym (long ∙ joint.size)

    within : (b : ℕ) → b < length cur → b < s.volume.log.size
    within b low = let same = size in omega (arith, low, same)

    shows : (b i : ℕ) → HoldsBlock s.volume.buffers p b i → Holds cur s.volume.buffers p b i
    shows b i has = where_got (disk.image s.volume.device) s.volume.buffers s.volume.log p b (Some i) joint has

    the_bitmap : (33 ≤ m.machine.bitmap) × (m.machine.bitmap < s.volume.log.size)
    the_bitmap =
        let at = bitmap in
        (omega (arith, at, map.behind), omega (arith, at, map.within, size))

    lies_there : (b : ℕ) → (33 ≤ b) × (b < s.volume.log.size) → (o : Option Got) → MayGet b s.volume.log.size o
    lies_there b lies None = lies
    lies_there b lies (Some g) = tt

    may_get : (a : TruncAt) → HasGivenUp cur m.machine a → Keeps cur m.kept m.machine a → MayGet (block_by m.machine a) s.volume.log.size (now_by m a)
    may_get TruncAt.Direct given keeps = lies_there m.machine.bitmap the_bitmap (now_by m TruncAt.Direct)
    may_get (TruncAt.Loading b) given keeps =
        let lies = subst (LiesInData cur) given.2 (hand_marked given.0).0 in
        (omega (arith, lies.0, map.behind, map.before_data), within b lies.1)
    may_get TruncAt.Entry given keeps = lies_there m.machine.bitmap the_bitmap (now_by m TruncAt.Entry)
    may_get TruncAt.Unloading given keeps = by_kept m.kept.inner keeps.inner
      where
        by_kept : (o : Option Got) → block_of_got o ≡ Some (hand_in cur m.machine) → MayGet 0 s.volume.log.size o
        by_kept None is = absurd (cc is)
        by_kept (Some g) is = tt
    may_get TruncAt.Freeing given keeps = lies_there m.machine.bitmap the_bitmap (now_by m TruncAt.Freeing)
    may_get TruncAt.Updating given keeps =
        lies_there (inode_block m.machine.number) (inode_apart.behind, within (inode_block m.machine.number) inode_apart.within) (now_by m TruncAt.Updating)

    -- a block that is freed has a bit
    has_bit : (b : ℕ) → LiesInData cur b → b < 8192
    has_bit b lies =
        omega (arith, lies.1, map.room)

    bit_at : (g : Got) (a : TruncAt) → HasGivenUp cur m.machine a → Keeps cur m.kept m.machine a → IsBelow (freed_by m.machine (entries_kept cur m g) a) 8192
    bit_at g TruncAt.Direct given keeps = has_bit (root_of m.machine) (direct_marked given).0
    bit_at g (TruncAt.Loading b) given keeps = tt
    bit_at g TruncAt.Entry given keeps =
        subst (λ (l : List ℕ). get_or l m.machine.given_up 0 < 8192) (sym (kept_words g (hand_in cur m.machine) keeps.inner))
        (has_bit (entry_of cur (hand_in cur m.machine) m.machine.given_up) (entry_marked given).0)
    bit_at g TruncAt.Unloading given keeps = tt
    bit_at g TruncAt.Freeing given keeps =
        subst (λ (b : ℕ). b < 8192) (sym (hand_is g given.0 keeps)) (has_bit (hand_in cur m.machine) (hand_marked given.0).0)
    bit_at g TruncAt.Updating given keeps = tt

    by_used : (o : Option Got) → HasBit cur m o
    by_used None = tt
    by_used (Some g) = bit_at g m.machine.at work.given work.keeps

    shows_got : (o : Option Got) → HasOne s.volume.buffers p o → HoldsGot cur s.volume.buffers p o
    shows_got None had = tt
    shows_got (Some g) had = shows g.block g.slot had

    fits_at : (a : TruncAt) → HasGivenUp cur m.machine a → FitsAt m.machine a
    fits_at TruncAt.Direct given = tt
    fits_at (TruncAt.Loading b) given = tt
    fits_at TruncAt.Entry given = given.within
    fits_at TruncAt.Unloading given = tt
    fits_at TruncAt.Freeing given = upper_within given.0
    fits_at TruncAt.Updating given = tt

    pub may : MayFree disk.image s.volume p m
    may = record {
      fits = record { addrs = long; slot = work.slot; at = fits_at m.machine.at work.given };
      gets = may_get m.machine.at work.given work.keeps;
      used = shows_got (now_of m) holds.holds.used;
      kept = shows_got m.kept.inner holds.holds.inner;
      bit = by_used (now_of m);
    }
