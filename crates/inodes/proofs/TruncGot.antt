-- What the freeing of a file's blocks has got, through each of its steps.
use Rattle.std.proofs.Common.{◌≡◌, ◌≢◌, ◌⊎◌, inl, inr, ⊎_elim, ℕ, List, refl, sym, ◌∙◌, ap, subst, Option, Some, None}
use Rattle.inodes.specs.Common.{after_use, block_by, block_next, buffer, Buffers, Freeing, GetsLock, GivesUpLock, Got, got_in, HasLock, HasOne, HoldsBlock, HoldsBlocks, inode_block, IsGot, IsKept, Kept, kept_then, now_by, now_of, slot_kept, taken, TruncAt}

-- Process p holds what it has got, and has no other lock.
pub record HasGot (c : Buffers) (p : ℕ) (m : Freeing) : Type 0 where
  pub holds : HoldsBlocks c p m.kept (now_of m)
  pub locks : (e i : ℕ) → HasLock c p e i → IsGot m.kept (now_of m) i

-- that is another block than b, or none
abbrev pub IsBeside : Option Got → ℕ → Type 0
IsBeside None b = Unit {0}
IsBeside (Some g) b = g.block ≢ b

-- block b is not kept
abbrev pub IsNotKept : Kept → ℕ → Type 0
IsNotKept kept b = IsBeside kept.inner b × IsBeside kept.outer b

one_still : (c d : Buffers) (p : ℕ) (o : Option Got) → ((b i : ℕ) → slot_kept o ≡ Some i → HoldsBlock c p b i → HoldsBlock d p b i) → HasOne c p o → HasOne d p o
one_still c d p None stays has = tt
one_still c d p (Some g) stays has = stays g.block g.slot refl has

-- what a process holds stays so
pub holds_still : (c d : Buffers) (p : ℕ) (kept : Kept) (now : Option Got) → ((b i : ℕ) → HoldsBlock c p b i → HoldsBlock d p b i) → HoldsBlocks c p kept now → HoldsBlocks d p kept now
holds_still c d p kept now stays holds = record {
  inner = one_still c d p kept.inner (λ b i is. stays b i) holds.inner;
  outer = one_still c d p kept.outer (λ b i is. stays b i) holds.outer;
  used = one_still c d p now (λ b i is. stays b i) holds.used;
}

-- where no block was got to be used, what is kept is all
pub holds_kept : (c : Buffers) (p : ℕ) (m : Freeing) → m.used ≡ None → HasOne c p m.kept.inner → HasOne c p m.kept.outer → HoldsBlocks c p m.kept (now_of m)
holds_kept c p m none inner outer = record { inner = inner; outer = outer; used = by_at m.machine.at }
  where
    own : (b : ℕ) → HasOne c p (got_in b m.used)
    own b = subst (λ (o : Option ℕ). HasOne c p (got_in b o)) (sym none) tt

    by_at : (a : TruncAt) → HasOne c p (now_by m a)
    by_at TruncAt.Direct = own m.machine.bitmap
    by_at (TruncAt.Loading b) = tt
    by_at TruncAt.Entry = own m.machine.bitmap
    by_at TruncAt.Unloading = inner
    by_at TruncAt.Freeing = own m.machine.bitmap
    by_at TruncAt.Updating = own (inode_block m.machine.number)

has_kept : (c : Buffers) (p : ℕ) (m : Freeing) → m.used ≡ None → HasOne c p m.kept.inner → HasOne c p m.kept.outer → ((e i : ℕ) → HasLock c p e i → IsKept m.kept i) → HasGot c p m
has_kept c p m none inner outer locks = record { holds = holds_kept c p m none inner outer; locks = λ e i lock. inl (locks e i lock) }

-- another block has another slot
other_one : (c : Buffers) (p b i : ℕ) → (buffer c i).block ≡ Some b → (o : Option Got) → HasOne c p o → IsBeside o b → slot_kept o ≢ Some i
other_one c p b i here None has apart same = cc same
other_one c p b i here (Some g) has apart same =
    let at : g.slot ≡ i = cc same in
    apart (cc (sym has.block ∙ ap (λ (k : ℕ). (buffer c k).block) at ∙ here))

-- process p has what it has got, and makes a step
module _ (c : Buffers) (p : ℕ) (m : Freeing) (had : HasGot c p m) where
  -- who gets a block next has a lock only of what it keeps
  old_lock : now_of m ≡ None → (e j : ℕ) → HasLock c p e j → IsKept m.kept j
  old_lock none e j lock = ⊎_elim
      (λ (old : IsKept m.kept j). old)
      (λ (mine : slot_kept (now_of m) ≡ Some j). let never : None ≡ Some j = sym (ap slot_kept none) ∙ mine in absurd (cc never))
      (had.locks e j lock)

  -- so none of that block
  pub waits_apart : now_of m ≡ None → IsNotKept m.kept (block_next m) → (j : ℕ) → HasLock c p (block_next m) j → ⊥
  waits_apart none apart j lock = ⊎_elim
      (λ (one : slot_kept m.kept.inner ≡ Some j). other_one c p (block_next m) j lock.block m.kept.inner had.holds.inner apart.0 one)
      (λ (one : slot_kept m.kept.outer ≡ Some j). other_one c p (block_next m) j lock.block m.kept.outer had.holds.outer apart.1 one)
      (old_lock none (block_next m) j lock)

  -- ---- a block is got

  module _ (d : Buffers) (i : ℕ) (none : now_of m ≡ None) (gets : GetsLock c d p (block_next m) i) where
    inner : HasOne d p m.kept.inner
    inner = one_still c d p m.kept.inner (λ e j is. gets.held p e j) had.holds.inner

    outer : HasOne d p m.kept.outer
    outer = one_still c d p m.kept.outer (λ e j is. gets.held p e j) had.holds.outer

    old_or_new : (e j : ℕ) → HasLock d p e j → IsKept m.kept j ⊎ (j ≡ i)
    old_or_new e j lock = ⊎_elim (λ (was : HasLock c p e j). inl (old_lock none e j was)) (λ mine. inr mine.2) (gets.takes p e j lock)

    abbrev using : Freeing
    using = record m { used = Some i }

    to_use : (a : TruncAt) → m.machine.at ≡ a → now_by using a ≡ got_in (block_by m.machine a) (Some i) → HasGot d p using
    to_use a at uses =
        let now : now_of using ≡ got_in (block_next m) (Some i) = subst (λ (o : TruncAt). now_by using o ≡ got_in (block_by m.machine o) (Some i)) (sym at) uses in
        record {
          holds = record { inner = inner; outer = outer; used = subst (HasOne d p) (sym now) gets.holds };
          locks = λ e j lock. ⊎_elim (λ (old : IsKept m.kept j). inl old) (λ (new : j ≡ i). inr (ap slot_kept now ∙ ap Some (sym new))) (old_or_new e j lock);
        }

    to_keep : (bytes : List ℕ) (b : ℕ) → m.machine.at ≡ TruncAt.Loading b → m.kept.outer ≡ None → HasGot d p (taken bytes i (TruncAt.Loading b) m)
    to_keep bytes b at free = has_kept d p (taken bytes i (TruncAt.Loading b) m) refl
        (subst (λ (e : ℕ). HoldsBlock d p e i) (ap (block_by m.machine) at) gets.holds) inner
        (λ e j lock. ⊎_elim
        (λ (old : IsKept m.kept j). ⊎_elim
        (λ (one : slot_kept m.kept.inner ≡ Some j). inr one)
        (λ (one : slot_kept m.kept.outer ≡ Some j). let never : None ≡ Some j = sym (ap slot_kept free) ∙ one in absurd (cc never))
        old)
        (λ (new : j ≡ i). inl (ap Some (sym new)))
        (old_or_new e j lock))

    pub has_taken : (bytes : List ℕ) (a : TruncAt) → m.machine.at ≡ a → ((b : ℕ) → a ≡ TruncAt.Loading b → m.kept.outer ≡ None) → a ≢ TruncAt.Unloading → HasGot d p (taken bytes i a m)
    has_taken bytes TruncAt.Direct at free gets = to_use TruncAt.Direct at refl
    has_taken bytes (TruncAt.Loading b) at free gets = to_keep bytes b at (free b refl)
    has_taken bytes TruncAt.Entry at free gets = to_use TruncAt.Entry at refl
    has_taken bytes TruncAt.Unloading at free gets = absurd (gets refl)
    has_taken bytes TruncAt.Freeing at free gets = to_use TruncAt.Freeing at refl
    has_taken bytes TruncAt.Updating at free gets = to_use TruncAt.Updating at refl

  -- ---- a block is used, and given up

  module _ (d : Buffers) (g : Got) (here : now_of m ≡ Some g) (gives : GivesUpLock c d p g.slot) where
    -- another one is held still
    held_still : (o : Option Got) → IsBeside o g.block → HasOne c p o → HasOne d p o
    held_still o apart has =
        let own = subst (HasOne c p) here had.holds.used in
        one_still c d p o (λ e j is. gives.others p e j (inr (λ same. other_one c p g.block g.slot own.block o has apart (is ∙ ap Some same)))) has

    -- and each lock is of a kept block in another slot
    locks_left : (e j : ℕ) → HasLock d p e j → IsKept m.kept j × (j ≢ g.slot)
    locks_left e j lock =
        let other : j ≢ g.slot = λ same. gives.free p e (subst (HasLock d p e) same lock) in (
          ⊎_elim (λ (old : IsKept m.kept j). old)
              (λ (mine : slot_kept (now_of m) ≡ Some j). let same : Some g.slot ≡ Some j = sym (ap slot_kept here) ∙ mine in absurd (other (sym (cc same))))
              (had.locks e j (gives.none p e j lock)),
          other,
        )

    -- it was got to be used
    used_own : IsNotKept m.kept g.block → (n : Freeing) → n.kept ≡ m.kept → n.used ≡ None → HasGot d p n
    used_own apart n same none = has_kept d p n none
        (subst (λ (o : Kept). HasOne d p o.inner) (sym same) (held_still m.kept.inner apart.0 had.holds.inner))
        (subst (λ (o : Kept). HasOne d p o.outer) (sym same) (held_still m.kept.outer apart.1 had.holds.outer))
        (λ e j lock. subst (λ (o : Kept). IsKept o j) (sym same) (locks_left e j lock).0)

    -- it was kept
    used_kept : m.kept.inner ≡ Some g → IsBeside m.kept.outer g.block → (n : Freeing) → n.kept ≡ kept_then m.kept TruncAt.Unloading → n.used ≡ None → HasGot d p n
    used_kept last apart n same none = has_kept d p n none
        (subst (λ (o : Kept). HasOne d p o.inner) (sym same) (held_still m.kept.outer apart had.holds.outer))
        (subst (λ (o : Kept). HasOne d p o.outer) (sym same) tt)
        (λ e j lock.
        let left = locks_left e j lock in
        subst (λ (o : Kept). IsKept o j) (sym same) (⊎_elim
        (λ (one : slot_kept m.kept.inner ≡ Some j). let own : Some g.slot ≡ Some j = sym (ap slot_kept last) ∙ one in absurd (left.1 (sym (cc own))))
        (λ (one : slot_kept m.kept.outer ≡ Some j). inl one)
        left.0))

    got_block : (b : ℕ) (o : Option ℕ) → got_in b o ≡ Some g → g.block ≡ b
    got_block b None is = absurd (cc is)
    got_block b (Some i) is = let same : (let h : Got = record { block = b; slot = i } in h) ≡ g = cc is in sym (ap (λ (h : Got). h.block) same)

    pub has_used : (entries : List ℕ) → IsNotKept m.kept (block_next m) → ((h : Got) → m.kept.inner ≡ Some h → m.machine.at ≡ TruncAt.Unloading → IsBeside m.kept.outer h.block) → HasGot d p (after_use entries m)
    has_used entries apart second = by_at m.machine.at refl here
      where
        own : (a : TruncAt) → m.machine.at ≡ a → kept_then m.kept a ≡ m.kept → now_by m a ≡ got_in (block_by m.machine a) m.used → now_by m a ≡ Some g → HasGot d p (after_use entries m)
        own a at same uses is = used_own
            (subst (IsNotKept m.kept) (ap (block_by m.machine) at ∙ sym (got_block (block_by m.machine a) m.used (sym uses ∙ is))) apart) (after_use entries m)
            (ap (kept_then m.kept) at ∙ same) refl

        by_at : (a : TruncAt) → m.machine.at ≡ a → now_by m a ≡ Some g → HasGot d p (after_use entries m)
        by_at TruncAt.Direct at is = own TruncAt.Direct at refl refl is
        by_at (TruncAt.Loading b) at is = absurd (cc is)
        by_at TruncAt.Entry at is = own TruncAt.Entry at refl refl is
        by_at TruncAt.Unloading at is = used_kept is (second g is at) (after_use entries m) (ap (kept_then m.kept) at) refl
        by_at TruncAt.Freeing at is = own TruncAt.Freeing at refl refl is
        by_at TruncAt.Updating at is = own TruncAt.Updating at refl refl is
