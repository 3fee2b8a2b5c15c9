-- How what may be held back goes on.
use Rattle.std.proofs.Common.{◌≡◌, ◌⊎◌, inl, inr, ⊎_elim, ℕ, zero, suc, ◌<◌, ◌≤◌, Bool, true, false, List, [], ◌∷◌, get_or, take, map, ◌+◌, ◌++◌, length, drop, set, length-set, subst, sym, ◌∙◌, ap, refl, arith, length-append}
use Rattle.std.specs.Prelude.{Ok, Result}
use Rattle.std.proofs.Math.Nat.{min-eq_left}
use Rattle.std.proofs.Math.Seq.{drop-cons}
use Rattle.blocks.specs.Common.{AddsNone, applied, AreInside, AreWhole, CanFloat, chosen, Elapses, Floating, get_or-map, get_or-take, HadLeft, Held, held_by, HeldImages, Holding, Image, IsBlock, IsImage, IsNoted, IsOldOrNew, IsSettled, IsSettledOn, IsShadow, LeavesOldOrNew, LeftSince, length-map, length-take, MayLose, noted_by, Shadow, true≢false, Write}
use Rattle.blocks.specs.Lemmas.Held.{chosen_held, held_all, only_left}
use Rattle.blocks.proofs.BlockLemmas.{is_image-set}

keeps : (past : List Floating) (s : Floating) (x : Image) → HadLeft past x → HadLeft (past ++ s ∷ []) x
keeps [] s x had = absurd had
keeps (p ∷ past) s x (inl here) = inl here
keeps (p ∷ past) s x (inr there) = inr (keeps past s x there)

adds : (past : List Floating) (s : Floating) (x : Image) → HadLeft (past ++ s ∷ []) x → HadLeft past x ⊎ CanFloat s x
adds [] s x (inl here) = inr here
adds [] s x (inr none) = absurd none
adds (p ∷ past) s x (inl here) = inl (inl here)
adds (p ∷ past) s x (inr there) = ⊎_elim (λ had. inl (inr had)) (λ new. inr new) (adds past s x there)

newest : (past : List Floating) (s : Floating) (x : Image) → CanFloat s x → HadLeft (past ++ s ∷ []) x
newest [] s x is = inl is
newest (p ∷ past) s x is = inr (newest past s x is)

drop_push : (t : ℕ) (past : List Floating) (s : Floating) → t ≤ length past → drop t (past ++ s ∷ []) ≡ drop t past ++ s ∷ []
drop_push zero past s le = refl
drop_push (suc t) [] s le = absurd (omega arith)
drop_push (suc t) (p ∷ past) s le = drop_push t past s (omega arith)

-- one write more: what might be left before, with its block as it was there or as handed in
held_push : (synced : Image) (held : List Write) (write : Write) (x : Image) → HeldImages synced (held ++ write ∷ []) x → (y : Image) × HeldImages synced held y × IsOldOrNew y write.0 write.1 x
held_push synced [] write x (inl is) = (synced, refl, inl is)
held_push synced [] write x (inr is) = (synced, refl, inr is)
held_push synced (w ∷ held) write x (inl without) = let r = held_push synced held write x without in (r.0, inl r.1, r.2)
held_push synced (w ∷ held) write x (inr with_it) = let r = held_push (set synced w.0 w.1) held write x with_it in (r.0, inr r.1, r.2)

-- and each such image is left
held_stays : (synced : Image) (held : List Write) (write : Write) (x : Image) → HeldImages synced held x → HeldImages synced (held ++ write ∷ []) x
held_stays synced [] write x is = inl is
held_stays synced (w ∷ held) write x (inl without) = inl (held_stays synced held write x without)
held_stays synced (w ∷ held) write x (inr with_it) = inr (held_stays (set synced w.0 w.1) held write x with_it)

held_goes : (synced : Image) (held : List Write) (write : Write) (x : Image) → HeldImages synced held x → HeldImages synced (held ++ write ∷ []) (set x write.0 write.1)
held_goes synced [] write x is = inr (ap (λ (z : Image). set z write.0 write.1) is)
held_goes synced (w ∷ held) write x (inl without) = inl (held_goes synced held write x without)
held_goes synced (w ∷ held) write x (inr with_it) = inr (held_goes (set synced w.0 w.1) held write x with_it)

applied_push : (synced : Image) (held : List Write) (write : Write) → applied synced (held ++ write ∷ []) ≡ set (applied synced held) write.0 write.1
applied_push synced [] write = refl
applied_push synced (w ∷ held) write = applied_push (set synced w.0 w.1) held write

-- a write that was made
abbrev pub done : {E : Type 0} → Result (Unit {0}) E
done = Ok tt

-- the state of before is remembered, and another takes its place
module _ (old new : Shadow) (past : new.past ≡ old.past ++ old.state ∷ []) where
  was : (t : ℕ) (x : Image) → t ≤ length old.past → HadLeft (drop t new.past) x → LeftSince old t x
  was t x le had = ⊎_elim (λ h. inr h) (λ h. inl h) (adds (drop t old.past) old.state x (subst (λ (l : List Floating). HadLeft l x) (ap (λ (l : List Floating). drop t l) past ∙ drop_push t old.past old.state le) had))

  kept : (t : ℕ) (x : Image) → t ≤ length old.past → LeftSince old t x → LeftSince new t x
  kept t x le left = inr (subst (λ (l : List Floating). HadLeft l x) (sym (ap (λ (l : List Floating). drop t l) past ∙ drop_push t old.past old.state le)) (⊎_elim (newest (drop t old.past) old.state x) (keeps (drop t old.past) old.state x) left))

  later : length old.past ≤ length new.past
  later = omega (arith, ap (λ (l : List Floating). length l) past, length-append old.past (old.state ∷ []))

  pub elapses_on : Elapses (length old.past) (length new.past) (LeftSince old) (LeftSince new)
  elapses_on = record {
    later = later;
    adds = λ t x le left. ⊎_elim (λ now. inr (inl now)) (λ had. inl (was t x le had)) left;
    keeps = kept;
  }

  adds_none_on : ((x : Image) → CanFloat new.state x → CanFloat old.state x) → AddsNone (length old.past) (length new.past) (LeftSince old) (LeftSince new)
  adds_none_on fewer = record {
    later = later;
    adds = λ t x le left. ⊎_elim (λ now. inl (fewer x now)) (λ had. was t x le had) left;
    keeps = kept;
  }

  were_on : (holds : Bool) (shown : Image) → IsShadow holds shown old → AreWhole (HadLeft new.past)
  were_on holds shown is = subst (λ (l : List Floating). AreWhole (HadLeft l)) (sym past) (λ x had. ⊎_elim (is.were x) (is.are x) (adds old.past old.state x had))

  -- one write more is held
  module _ (at : ℕ) (bytes : List ℕ) (noted : IsNoted at bytes old.state new.state) where
    more : (x : Image) → CanFloat new.state x → (y : Image) × CanFloat old.state y × IsOldOrNew y at bytes x
    more x left = held_push old.state.synced.value.items (noted_by old.state) (at, bytes) x
        (subst (λ (h : List Write). HeldImages old.state.synced.value.items h x) noted.held (subst (λ s. HeldImages s.value.items (noted_by new.state) x) noted.synced left))

    pub crash_noted : LeavesOldOrNew at bytes (LeftSince old (length old.past)) (LeftSince new (length new.past))
    crash_noted x left = let r = more x (only_left new x left) in (r.0, inl r.1, r.2)

    from_old : (x : Image) → HeldImages old.state.synced.value.items (noted_by old.state ++ (at, bytes) ∷ []) x → CanFloat new.state x
    from_old x left = subst (λ s. HeldImages s.value.items (noted_by new.state) x) (sym noted.synced) (subst (λ (h : List Write). HeldImages old.state.synced.value.items h x) (sym noted.held) left)

    pub lost_noted : {E : Type 0} → MayLose at bytes (done {E = E}) (LeftSince old (length old.past)) (LeftSince new (length new.past))
    lost_noted = record {
      lost = λ x left. inl (from_old x (held_stays old.state.synced.value.items (noted_by old.state) (at, bytes) x (only_left old x left)));
      kept = λ x left. inl (from_old (set x at bytes) (held_goes old.state.synced.value.items (noted_by old.state) (at, bytes) x (only_left old x left)));
    }

    pub shadow_noted : (shown : Image) → IsBlock bytes → IsShadow true shown old → IsShadow true (set shown at bytes) new
    shadow_noted shown block is = record {
      shows = ap (λ (z : Image). set z at bytes) is.shows
          ∙ sym (ap (λ s. applied s.value.items (noted_by new.state)) noted.synced ∙ ap (applied old.state.synced.value.items) noted.held ∙ applied_push old.state.synced.value.items (noted_by old.state) (at, bytes));
      plain = λ free. absurd (true≢false free);
      are = λ x left. let r = more x left in ⊎_elim (λ same. subst IsImage (sym same) (is.are r.0 r.1)) (λ written. subst IsImage (sym written) (is_image-set r.0 at bytes (is.are r.0 r.1) block)) r.2;
      were = were_on true shown is;
    }

  -- nothing is held any more
  module _ (blocks : Image) (settled : IsSettledOn blocks new.state) where
    only : (x : Image) → CanFloat new.state x → x ≡ blocks
    only x left = subst (λ (h : List Write). HeldImages new.state.synced.value.items h x) settled.held left ∙ settled.synced

    pub settled_now : IsSettled blocks (LeftSince new (length new.past))
    settled_now x left = only x (only_left new x left)

    pub shadow_settled : (holds : Bool) (shown : Image) → IsImage blocks → IsShadow holds shown old → IsShadow holds blocks new
    shadow_settled holds shown whole is = record {
      shows = sym (ap (applied new.state.synced.value.items) settled.held ∙ settled.synced);
      plain = λ free. settled.held;
      are = λ x left. subst IsImage (sym (only x left)) whole;
      were = were_on holds shown is;
    }

    -- a sync
    pub adds_none_settled : (holds : Bool) → IsShadow holds blocks old → AddsNone (length old.past) (length new.past) (LeftSince old) (LeftSince new)
    adds_none_settled holds is = adds_none_on (λ x left. subst (CanFloat old.state) (sym (only x left ∙ is.shows)) (held_all old.state.synced.value.items (noted_by old.state)))

-- a write of a disk that holds none back
crash_written : (old new : Shadow) (shown : Image) (at : ℕ) (bytes : List ℕ) → IsShadow false shown old → IsSettledOn (set shown at bytes) new.state
    → LeavesOldOrNew at bytes (LeftSince old (length old.past)) (LeftSince new (length new.past))
crash_written old new shown at bytes is settled x left =
    let can : HeldImages new.state.synced.value.items [] x = subst (λ (h : List Write). HeldImages new.state.synced.value.items h x) settled.held (only_left new x left) in
    (shown, inl (subst (CanFloat old.state) (sym is.shows) (held_all old.state.synced.value.items (noted_by old.state))), inr (can ∙ settled.synced))

-- A write of a disk that holds it back or doesn't.
module _ (holds : Bool) (old new : Shadow) (past : new.past ≡ old.past ++ old.state ∷ []) (shown : Image) (at : ℕ) (bytes : List ℕ) (is : IsShadow holds shown old)
    (held : holds ≡ true → IsNoted at bytes old.state new.state) (plain : holds ≡ false → IsSettledOn (set shown at bytes) new.state) where
  pub shadow_written : IsImage shown → IsBlock bytes → IsShadow holds (set shown at bytes) new
  shadow_written whole block = by_kind holds is held plain
    where
      by_kind : (h : Bool) → IsShadow h shown old → (h ≡ true → IsNoted at bytes old.state new.state) → (h ≡ false → IsSettledOn (set shown at bytes) new.state) → IsShadow h (set shown at bytes) new
      by_kind true was noted settled = shadow_noted old new past at bytes (noted refl) shown block was
      by_kind false was noted settled = shadow_settled old new past (set shown at bytes) (settled refl) false shown (is_image-set shown at bytes whole block) was

  pub crash_shadow : LeavesOldOrNew at bytes (LeftSince old (length old.past)) (LeftSince new (length new.past))
  crash_shadow = by_kind holds is held plain
    where
      by_kind : (h : Bool) → IsShadow h shown old → (h ≡ true → IsNoted at bytes old.state new.state) → (h ≡ false → IsSettledOn (set shown at bytes) new.state) → LeavesOldOrNew at bytes (LeftSince old (length old.past)) (LeftSince new (length new.past))
      by_kind true was noted settled = crash_noted old new past at bytes (noted refl)
      by_kind false was noted settled = crash_written old new shown at bytes was (settled refl)

-- held writes stay inside
pub inside_push : (size : ℕ) (held : List Write) (write : Write) → AreInside size held → write.0 < size → AreInside size (held ++ write ∷ [])
inside_push size [] write are lt zero below = lt
inside_push size [] write are lt (suc k) below = absurd (omega (arith, below))
inside_push size (w ∷ held) write are lt zero below = are zero (omega arith)
inside_push size (w ∷ held) write are lt (suc k) below = inside_push size held write (λ j less. are (suc j) (omega (arith, less))) lt k (omega (arith, below))

plus : (i : ℕ) → suc i ≡ i + 1
plus i = omega arith

-- one choice more
module _ (blocks : Image) (held : List Write) (keep : List Bool) (i : ℕ) (lt : i < length held) (less : i < length keep) where
  on : {A : Type 0} (xs : List A) (d : A) → i < length xs → drop i xs ≡ get_or xs i d ∷ drop (i + 1) xs
  on xs d below = subst (λ (n : ℕ). drop i xs ≡ get_or xs i d ∷ drop n xs) (plus i) (drop-cons xs i d below)

  next : chosen blocks (drop i held) (drop i keep) ≡ chosen blocks (get_or held i (0, []) ∷ drop (i + 1) held) (get_or keep i false ∷ drop (i + 1) keep)
  next = ap (λ (h : List Write). chosen blocks h (drop i keep)) (on held (0, []) lt) ∙ ap (λ (l : List Bool). chosen blocks (get_or held i (0, []) ∷ drop (i + 1) held) l) (on keep false less)

  pub chosen_taken : (w : Write) → get_or held i (0, []) ≡ w → get_or keep i false ≡ true → chosen (set blocks w.0 w.1) (drop (i + 1) held) (drop (i + 1) keep) ≡ chosen blocks (drop i held) (drop i keep)
  chosen_taken w there taken = sym (next ∙ ap (λ (k : Bool). chosen blocks (get_or held i (0, []) ∷ drop (i + 1) held) (k ∷ drop (i + 1) keep)) taken ∙ ap (λ (v : Write). chosen (set blocks v.0 v.1) (drop (i + 1) held) (drop (i + 1) keep)) there)

  pub chosen_passed : get_or keep i false ≡ false → chosen blocks (drop (i + 1) held) (drop (i + 1) keep) ≡ chosen blocks (drop i held) (drop i keep)
  chosen_passed passed = sym (next ∙ ap (λ (k : Bool). chosen blocks (get_or held i (0, []) ∷ drop (i + 1) held) (k ∷ drop (i + 1) keep)) passed)

-- as many writes are held as places are taken
pub length-held : (s : Holding) → s.count ≤ length s.places.items → length (held_by s) ≡ s.count
length-held s le = length-map (take s.count s.places.items) _ ∙ length-take s.count s.places.items ∙ min-eq_left le

-- the write in a place
pub held_at : (s : Holding) (i : ℕ) (d : Held) → i < s.count → i < length s.places.items → get_or (held_by s) i (0, []) ≡ ((get_or s.places.items i d).at, (get_or s.places.items i d).block)
held_at s i d lt less = get_or-map _ (take s.count s.places.items) i d (0, []) (omega (arith, lt, less, length-take s.count s.places.items)) ∙ ap (λ (h : Held). (h.at, h.block)) (get_or-take s.count s.places.items i d lt)

pub length-chosen : (x : Image) (held : List Write) (keep : List Bool) → length (chosen x held keep) ≡ length x
length-chosen x [] keep = refl
length-chosen x (w ∷ held) [] = refl
length-chosen x (w ∷ held) (true ∷ keep) = length-chosen (set x w.0 w.1) held keep ∙ length-set x w.0 w.1
length-chosen x (w ∷ held) (false ∷ keep) = length-chosen x held keep

-- what is chosen of the blocks and writes that a shadow tells
pub chosen_left : (s : Shadow) (synced : Image) (held : List Write) (keep : List Bool) → synced ≡ s.state.synced.value.items → held ≡ noted_by s.state → length keep ≡ length held → CanFloat s.state (chosen synced held keep)
chosen_left s synced held keep same as_noted count =
    subst (λ (h : List Write). HeldImages s.state.synced.value.items h (chosen synced held keep)) as_noted
    (subst (λ (x : Image). HeldImages x held (chosen synced held keep)) same (chosen_held synced held keep count))

pub held_none : (s : Holding) → s.count ≡ 0 → held_by s ≡ []
held_none s none = ap (λ (n : ℕ). map (λ (h : Held). (h.at, h.block)) (take n s.places.items)) none
