-- The laws of a disk that may hold writes back.
use Rattle.std.specs.Prelude.{◌≡◌, ℕ, List, Bool, true, false, [], ◌∷◌, length, drop, slice_set, refl}
use Rattle.std.proofs.Common.{zero, suc, inl, inr, ⊎_elim, subst, sym, ◌∙◌, ap, arith}
use Rattle.blocks.specs.Common.{applied, CanFloat, chosen, Floating, HadLeft, HeldImages, Image, IsImage, IsSettled, IsShadow, LeftSince, noted_by, Shadow, Write}

pub held_all : (synced : Image) (held : List Write) → HeldImages synced held (applied synced held)
held_all synced [] = refl
held_all synced (write ∷ held) = inr (held_all (slice_set synced write.0 write.1) held)

-- each choice may be left
pub chosen_held : (synced : Image) (held : List Write) (keep : List Bool) → length keep ≡ length held
    → HeldImages synced held (chosen synced held keep)
chosen_held synced [] keep same = refl
chosen_held synced (write ∷ held) [] same = absurd (omega (arith, same))
chosen_held synced (write ∷ held) (true ∷ keep) same =
    inr (chosen_held (slice_set synced write.0 write.1) held keep (omega (arith, same)))
chosen_held synced (write ∷ held) (false ∷ keep) same =
    inl (chosen_held synced held keep (omega (arith, same)))

-- and nothing but choices
pub held_chosen : (synced : Image) (held : List Write) (x : Image) → HeldImages synced held x
    → (keep : List Bool) × (length keep ≡ length held) × (x ≡ chosen synced held keep)
held_chosen synced [] x is = ([], refl, is)
held_chosen synced (write ∷ held) x (inl without) =
    let r = held_chosen synced held x without in (false ∷ r.0, omega (arith, r.1), r.2)
held_chosen synced (write ∷ held) x (inr with_it) =
    let r = held_chosen (slice_set synced write.0 write.1) held x with_it in
    (true ∷ r.0, omega (arith, r.1), r.2)

none_left : (past : List Floating) (x : Image) → HadLeft (drop (length past) past) x → ⊥
none_left [] x had = had
none_left (s ∷ past) x had = none_left past x had

-- from the last moment on there is the state of now
pub only_left : (s : Shadow) (x : Image) → LeftSince s (length s.past) x → CanFloat s.state x
only_left s x (inl is) = is
only_left s x (inr had) = absurd (none_left s.past x had)

had_later : (past : List Floating) (t : ℕ) (x : Image) → HadLeft (drop t past) x → HadLeft past x
had_later [] zero x had = had
had_later [] (suc t) x had = had
had_later (s ∷ past) zero x had = had
had_later (s ∷ past) (suc t) x had = inr (had_later past t x had)

module _ (holds : Bool) (shown : Image) (s : Shadow) (is : IsShadow holds shown s) where
  pub left_whole : (t : ℕ) (x : Image) → LeftSince s t x → IsImage x
  left_whole t x left = ⊎_elim (is.are x) (λ had. is.were x (had_later s.past t x had)) left

  pub shadow_now : (t : ℕ) (x : Image) → LeftSince s (length s.past) x → LeftSince s t x
  shadow_now t x left = inl (only_left s x left)

  pub shadow_has : LeftSince s (length s.past) shown
  shadow_has = inl (subst (CanFloat s.state) (sym is.shows) (held_all s.state.synced.value.items (noted_by s.state)))

  pub shadow_plain : holds ≡ false → IsSettled shown (LeftSince s (length s.past))
  shadow_plain free x left =
      let none = is.plain free in
      let can : HeldImages s.state.synced.value.items [] x =
      subst (λ (h : List Write). HeldImages s.state.synced.value.items h x) none (only_left s x left) in
      can ∙ sym (is.shows ∙ ap (applied s.state.synced.value.items) none)
