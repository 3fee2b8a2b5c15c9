-- How what a stop may leave of a session's disk goes on with a call.
use Rattle.std.proofs.Common.{◌≡◌, ◌⊎◌, ◌∙◌, ℕ, ◌<◌, Bool, true, false, List, [], ◌∷◌, length, set, inl, inr, ⊎_elim, refl, sym, ap, subst, arith, length-set}
use Rattle.std.proofs.lemmas.Bool.{true≢false}
use Rattle.std.proofs.lemmas.List.{get_or-set_other, get_or-set_same, set-get_or, set-set}
use Rattle.std.specs.Prelude.{Ok, Result}
use Rattle.blocks.specs.Common.{AddsNone, cases_eq, Image, IsOldOrNew, IsSettled, LeavesOldOrNew, MayLose}
use Rattle.blocks.specs.Disk.{block_at}
use Rattle.sessions.specs.Held.{HaveBlock, IsMix, LeftSince, MayLeave, since_sync}
use Rattle.sessions.specs.Lemmas.Held.{left_now, mix_alone, mix_itself, now_left, only_left, takes_time}
use Rattle.sessions.specs.Track.{Call, moment_of}

-- a write of a block
module _ (x : Image) (cs : List Call) (b : ℕ) (bytes : List ℕ) (inside : b < length x) where
  abbrev pub after : Image
  after = set x b bytes

  alike : (older : List Image) (z w : Image) → IsMix after (x ∷ older) z → length w ≡ length z
      → (block_at w b ≡ block_at x b) ⊎ HaveBlock older b (block_at w b)
      → ((c : ℕ) → (c ≡ b → ⊥) → block_at w c ≡ block_at z c) → IsMix x older w
  alike older z w mix size here other = record {
    size = size ∙ mix.size ∙ length-set x b bytes;
    each = λ c. elim (cases_eq c b) [
      | inl is ↦ subst (λ (k : ℕ). (block_at w k ≡ block_at x k) ⊎ HaveBlock older k (block_at w k)) (sym is) here
      | inr not ↦ ⊎_elim (λ now. inl (other c not ∙ now ∙ get_or-set_other x b c bytes [] not))
          (λ was. ⊎_elim (λ old. inl (other c not ∙ old)) (λ old. inr (subst (HaveBlock older c) (sym (other c not)) old)) was) (mix.each c)
    ];
  }

  -- each image that may be left then is one that might be left before, but for this block
  old_or_new : (older : List Image) (z : Image) → IsMix after (x ∷ older) z → (w : Image) × IsMix x older w × IsOldOrNew w b bytes z
  old_or_new older z mix = elim (mix.each b) [
    | inl now ↦
        let w : Image = set z b (block_at x b) in
        let size : length z ≡ length x = mix.size ∙ length-set x b bytes in
        let long : b < length z = omega (arith, inside, size) in
        let is : block_at z b ≡ bytes = now ∙ get_or-set_same x b bytes [] inside in (
          w,
          alike older z w mix (length-set z b (block_at x b)) (inl (get_or-set_same z b (block_at x b) [] long)) (λ c not. get_or-set_other z b c (block_at x b) [] not),
          inr (sym (set-set z b (block_at x b) bytes ∙ ap (λ (v : List ℕ). set z b v) (sym is) ∙ set-get_or z b [])),
        )
    | inr was ↦ (z, alike older z z mix refl was (λ c not. refl), inl refl)
  ]

  pub crash_on : (holds : Bool) → LeavesOldOrNew b bytes (LeftSince holds x cs (moment_of cs)) (LeftSince holds after ((x, false) ∷ cs) (moment_of ((x, false) ∷ cs)))
  crash_on true z left =
      let r = old_or_new (since_sync true cs) z (only_left true after ((x, false) ∷ cs) z left) in
      (r.0, now_left true x cs (moment_of cs) r.0 r.1, r.2)
  crash_on false z left = (x, left_now false x cs, inr (mix_alone after z (only_left false after ((x, false) ∷ cs) z left)))

  more : (older : List Image) (z : Image) → IsMix x older z → IsMix after (x ∷ older) z
  more older z mix = record {
    size = mix.size ∙ sym (length-set x b bytes);
    each = λ c. inr (mix.each c);
  }

-- with a block of its own put into it a mix is one still
pub mix_put : (y : Image) (older : List Image) (b : ℕ) (z : Image) → b < length y → IsMix y older z → IsMix y older (set z b (block_at y b))
mix_put y older b z inside mix = record {
  size = length-set z b (block_at y b) ∙ mix.size;
  each = λ c. elim (cases_eq c b) [
    | inl is ↦ inl (ap (λ (k : ℕ). block_at (set z b (block_at y b)) k) is ∙ get_or-set_same z b (block_at y b) [] (omega (arith, inside, mix.size)) ∙ sym (ap (block_at y) is))
    | inr not ↦
        let same = get_or-set_other z b c (block_at y b) [] not in
        ⊎_elim (λ now. inl (same ∙ now)) (λ was. inr (subst (HaveBlock older c) (sym same) was)) (mix.each c)
  ];
}

-- a write that was made
abbrev pub done : {E : Type 0} → Result (Unit {0}) E
done = Ok tt

module _ (x : Image) (cs : List Call) (b : ℕ) (bytes : List ℕ) (inside : b < length x) where
  lose_held : {E : Type 0} → MayLose b bytes (done {E = E}) (LeftSince true x cs (moment_of cs)) (LeftSince true (set x b bytes) ((x, false) ∷ cs) (moment_of ((x, false) ∷ cs)))
  lose_held =
      let older = since_sync true cs in
      let y : Image = set x b bytes in
      record {
        lost = λ z left. inl (more x cs b bytes inside older z (only_left true x cs z left));
        kept = λ z left. inl (subst (λ (v : List ℕ). IsMix y (x ∷ older) (set z b v)) (get_or-set_same x b bytes [] inside)
            (mix_put y (x ∷ older) b z (omega (arith, inside, length-set x b bytes)) (more x cs b bytes inside older z (only_left true x cs z left))));
      }

  pub lose_on : {E : Type 0} (holds : Bool) → holds ≡ true → MayLose b bytes (done {E = E}) (LeftSince holds x cs (moment_of cs)) (LeftSince holds (set x b bytes) ((x, false) ∷ cs) (moment_of ((x, false) ∷ cs)))
  lose_on true held = lose_held
  lose_on false held = absurd (true≢false (sym held))

-- a sync
none_since : (holds : Bool) (x : Image) (cs : List Call) → since_sync holds ((x, true) ∷ cs) ≡ []
none_since true x cs = refl
none_since false x cs = refl

module _ (holds : Bool) (x : Image) (cs : List Call) where
  alone : (z : Image) → MayLeave holds x ((x, true) ∷ cs) z → z ≡ x
  alone z may = mix_alone x z (subst (λ (older : List Image). IsMix x older z) (none_since holds x cs) may)

  pub settled_on : IsSettled x (LeftSince holds x ((x, true) ∷ cs) (moment_of ((x, true) ∷ cs)))
  settled_on z left = alone z (only_left holds x ((x, true) ∷ cs) z left)

  pub adds_none_on : AddsNone (moment_of cs) (moment_of ((x, true) ∷ cs)) (LeftSince holds x cs) (LeftSince holds x ((x, true) ∷ cs))
  adds_none_on = record {
    later = let more = takes_time (x, true) cs in omega (arith, more);
    adds = λ t z le left. ⊎_elim (λ may. subst (LeftSince holds x cs t) (sym (alone z may)) (now_left holds x cs t x (mix_itself x (since_sync holds cs)))) (λ was. was.1) left;
    keeps = λ t z le left. inr (le, left);
  }
