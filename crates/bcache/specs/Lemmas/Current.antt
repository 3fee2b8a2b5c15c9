-- How the image that the layers above see changes with the buffers.
use Rattle.std.proofs.Common.{◌≡◌, ◌≢◌, inl, inr, ℕ, zero, suc, ◌+◌, ◌-◌, ◌<◌, ◌&&◌, Bool, true, false, cond, List, [], ◌∷◌, length, get_or, set, refl, sym, ◌∙◌, ap, ap₂, arith, Option, Some, None, length-set}
use Rattle.std.specs.List.{filter}
use Rattle.bcache.specs.Common.{and_left, and_parts, and_right, both_ways, Buffer, buffer, Buffers, bytes_or, cases_Bool, cases_eq, changed, cond-false, cond-true, empty_buffer, eq-eqb, ext_get_or, false_from_ne_true, filled, get_or-map-range_with_len, get_or-set_other, get_or-set_same, is_number_in, is_of, IsCache, IsOnce, length-map-range_with_len, ne_eqb, shows, with_buffer}
use Rattle.blocks.specs.Disk.{Image, block_at}
use Rattle.bcache.specs.Current.{current}
use Rattle.bcache.specs.Laws.{UnfilledKeeps, CountsKeepCurrent}
use Rattle.bcache.specs.Lemmas.Slots.{buffer_same, buffer_other, block_is, is_number_some}

-- the bytes of the first valid buffer of a block, or else those
abbrev pub shown : List Buffer → ℕ → List ℕ → List ℕ
shown [] b d = d
shown (s ∷ ss) b d = cond (shows b s) s.bytes (shown ss b d)

shown_is : (ss : List Buffer) (b : ℕ) (d : List ℕ) → bytes_or d (filter (shows b) ss) ≡ shown ss b d
shown_is [] b d = refl
shown_is (s ∷ ss) b d = first (shows b s) (filter (shows b) ss) ∙ ap (cond (shows b s) s.bytes) (shown_is ss b d)
  where
    first : (here : Bool) (rest : List Buffer) → bytes_or d (cond here (s ∷ rest) rest) ≡ cond here s.bytes (bytes_or d rest)
    first true rest = refl
    first false rest = refl

-- where no slot but i shows the block, it is what slot i shows
one_shows : (ss : List Buffer) (i b : ℕ) (d : List ℕ) → ((j : ℕ) → j ≢ i → shows b (get_or ss j empty_buffer) ≡ false) → shown ss b d ≡ cond (shows b (get_or ss i empty_buffer)) (get_or ss i empty_buffer).bytes d
one_shows [] i b d rest = refl
one_shows (s ∷ ss) zero b d rest = ap (cond (shows b s) s.bytes) (none ss (λ j. rest (suc j) (λ e. omega (arith, e))))
  where
    none : (ts : List Buffer) → ((j : ℕ) → shows b (get_or ts j empty_buffer) ≡ false) → shown ts b d ≡ d
    none [] out = refl
    none (t ∷ ts) out = cond-false (shows b t) _ _ (out 0) ∙ none ts (λ j. out (suc j))
one_shows (s ∷ ss) (suc i) b d rest =
    cond-false (shows b s) _ _ (rest 0 (λ e. omega (arith, e))) ∙ one_shows ss i b d (λ j other. rest (suc j) (λ e. other (omega (arith, e))))

-- a change of a slot that shows this block as before
shown-set : (ss : List Buffer) (i b : ℕ) (d : List ℕ) (t : Buffer) → shows b t ≡ shows b (get_or ss i empty_buffer) → (shows b t ≡ true → t.bytes ≡ (get_or ss i empty_buffer).bytes) → shown (set ss i t) b d ≡ shown ss b d
shown-set [] i b d t same bytes = refl
shown-set (s ∷ ss) zero b d t same bytes = elim (cases_Bool (shows b t)) [
  | inl on ↦ cond-true (shows b t) _ _ on ∙ bytes on ∙ sym (cond-true (shows b s) _ _ (sym same ∙ on))
  | inr off ↦ cond-false (shows b t) _ _ off ∙ sym (cond-false (shows b s) _ _ (sym same ∙ off))
]
shown-set (s ∷ ss) (suc i) b d t same bytes = ap (cond (shows b s) s.bytes) (shown-set ss i b d t same bytes)

pub length-current : (x : Image) (c : Buffers) → length (current x c.slots) ≡ length x
unfolding current
length-current x c = length-map-range_with_len (λ b. bytes_or (block_at x b) (filter (shows b) c.slots)) 0 (length x)

-- a block of the current image
pub current_at : (x : Image) (c : Buffers) (b : ℕ) → b < length x → block_at (current x c.slots) b ≡ shown c.slots b (block_at x b)
unfolding current
current_at x c b lt =
    get_or-map-range_with_len (λ d. bytes_or (block_at x d) (filter (shows d) c.slots)) 0 (length x) b b [] lt (omega arith)
    ∙ shown_is c.slots b (block_at x b)

-- an image with these blocks is the current one
pub is_current : (x y : Image) (c : Buffers) → length y ≡ length x → ((b : ℕ) → b < length x → block_at y b ≡ shown c.slots b (block_at x b)) → y ≡ current x c.slots
is_current x y c size each =
    ext_get_or [] y (current x c.slots) (size ∙ sym (length-current x c)) (λ b lt. let inside : b < length x = omega arith in each b inside ∙ sym (current_at x c b inside))

-- a block that no slot shows is the disk's
pub not_shown : (ss : List Buffer) (b : ℕ) (d : List ℕ) → ((j : ℕ) → shows b (get_or ss j empty_buffer) ≡ false) → shown ss b d ≡ d
not_shown ss b d out = one_shows ss 0 b d (λ j other. out j) ∙ cond-false _ _ _ (out 0)

-- a block that a slot shows is that slot's
pub slot_shows : (c : Buffers) (i b : ℕ) (d : List ℕ) → IsOnce c → shows b (buffer c i) ≡ true → shown c.slots b d ≡ (buffer c i).bytes
slot_shows c i b d once here = one_shows c.slots i b d (λ j other. false_from_ne_true _ (λ there. other (once.same j i b (and_parts _ _ there).1 (and_parts _ _ here).1))) ∙ cond-true _ _ _ here

-- a change of a slot with the same valid block and bytes changes nothing
pub current_kept : (x : Image) (c : Buffers) (i : ℕ) (t : Buffer) → t.valid ≡ (buffer c i).valid → t.block ≡ (buffer c i).block → t.bytes ≡ (buffer c i).bytes → current x (with_buffer c i t).slots ≡ current x c.slots
current_kept x c i t valid block bytes = is_current x (current x (with_buffer c i t).slots) c (length-current x (with_buffer c i t)) (λ b lt.
    current_at x (with_buffer c i t) b lt
    ∙ shown-set c.slots i b (block_at x b) t (ap₂ (λ (v : Bool) (o : Option ℕ). v && is_number_in b o) valid block) (λ on. bytes))

-- a slot that showed its block as the disk has it, or not at all, and doesn't show it now
pub current_hidden : (x : Image) (c : Buffers) (i : ℕ) (t : Buffer) → IsCache c → i < 40 → t.valid ≡ false → ((b : ℕ) → shows b (buffer c i) ≡ true → (buffer c i).bytes ≡ block_at x b) → current x (with_buffer c i t).slots ≡ current x c.slots
current_hidden x c i t is lt hidden clean = is_current x (current x (with_buffer c i t).slots) c (length-current x (with_buffer c i t)) (λ b inside.
    let new : shows b t ≡ false = and_left t.valid (is_of b t) hidden in
    current_at x (with_buffer c i t) b inside ∙ elim (cases_Bool (shows b (buffer c i))) [
      | inl on ↦
          one_shows (set c.slots i t) i b (block_at x b) (λ j other. ap (shows b) (buffer_other c i j t other) ∙ false_from_ne_true _ (λ there. other (is.once.same j i b (and_parts _ _ there).1 (and_parts _ _ on).1)))
          ∙ cond-false _ _ _ (ap (shows b) (buffer_same c i t (omega (arith, is.size))) ∙ new)
          ∙ sym (slot_shows c i b (block_at x b) is.once on ∙ clean b on)
      | inr off ↦ shown-set c.slots i b (block_at x b) t (new ∙ sym off) (λ e. absurd (both_ways _ new e))
    ])

-- a slot that comes to show its block with the bytes of the disk
pub current_filled : (x : Image) (c : Buffers) (i b : ℕ) → IsCache c → i < 40 → (buffer c i).block ≡ Some b → (buffer c i).valid ≡ false → current x (filled c i (block_at x b)).slots ≡ current x c.slots
current_filled x c i b is lt block hidden = is_current x (current x c'.slots) c (length-current x c') (λ d inside.
    let old : shows d s ≡ false = and_left s.valid (is_of d s) hidden in
    current_at x c' d inside ∙ elim (cases_eq d b) [
      | inl same ↦
          one_shows (set c.slots i t) i d (block_at x d) (λ j other. ap (shows d) (buffer_other c i j t other) ∙ and_right _ _ (false_from_ne_true _ (λ there. other (is.once.same j i d there (of d same)))))
          ∙ ap (λ (u : Buffer). cond (shows d u) u.bytes (block_at x d)) (buffer_same c i t (omega (arith, is.size)))
          ∙ cond-true _ _ _ (of d same)
          ∙ ap (block_at x) (sym same)
          ∙ sym (not_shown c.slots d (block_at x d) (λ j. elim (cases_eq j i) [
            | inl ji ↦ ap (λ (k : ℕ). shows d (buffer c k)) ji ∙ old
            | inr other ↦ and_right _ _ (false_from_ne_true _ (λ there. other (is.once.same j i d there (of d same))))
          ]))
      | inr other ↦
          let new : shows d t ≡ false = ap (is_number_in d) block ∙ ne_eqb d b other in
          shown-set c.slots i d (block_at x d) t (new ∙ sym old) (λ e. absurd (both_ways _ new e))
    ])
  where
    s : Buffer
    s = buffer c i

    t : Buffer
    t = record s { valid = true; bytes = block_at x b }

    c' : Buffers
    c' = filled c i (block_at x b)

    of : (d : ℕ) → d ≡ b → is_of d s ≡ true
    of d same = ap (is_number_in d) block ∙ eq-eqb d b same

-- the bytes of a valid buffer change, and with them one block
pub current_changed : (x : Image) (c : Buffers) (i b : ℕ) (bytes : List ℕ) → IsCache c → i < 40 → b < length x → shows b (buffer c i) ≡ true → current x (changed c i bytes).slots ≡ set (current x c.slots) b bytes
current_changed x c i b bytes is lt inside here = sym (is_current x (set (current x c.slots) b bytes) c' (length-set (current x c.slots) b bytes ∙ length-current x c) each)
  where
    s : Buffer
    s = buffer c i

    t : Buffer
    t = record s { bytes = bytes }

    c' : Buffers
    c' = changed c i bytes

    each : (d : ℕ) → d < length x → block_at (set (current x c.slots) b bytes) d ≡ shown c'.slots d (block_at x d)
    each d far = elim (cases_eq d b) [
      | inl same ↦
          let now : shows d s ≡ true = ap (λ (k : ℕ). shows k s) same ∙ here in
          ap (block_at (set (current x c.slots) b bytes)) same ∙ get_or-set_same (current x c.slots) b bytes [] (omega (arith, length-current x c))
          ∙ sym (one_shows (set c.slots i t) i d (block_at x d) (λ j other. ap (shows d) (buffer_other c i j t other) ∙ false_from_ne_true _ (λ there. other (is.once.same j i d (and_parts _ _ there).1 (and_parts _ _ now).1)))
          ∙ ap (λ (u : Buffer). cond (shows d u) u.bytes (block_at x d)) (buffer_same c i t (omega (arith, is.size)))
          ∙ cond-true _ _ _ now)
      | inr other ↦
          let away : shows d s ≡ false = false_from_ne_true _ (λ there. other (is_number_some d b s.block (block_is b s.block (and_parts _ _ here).1) (and_parts _ _ there).1)) in
          get_or-set_other (current x c.slots) b d bytes [] other ∙ current_at x c d far
          ∙ sym (shown-set c.slots i d (block_at x d) t refl (λ e. absurd (both_ways _ away e)))
    ]

-- a write to the disk of what is current there
pub current_same_write : (x : Image) (c : Buffers) (i b : ℕ) (v : List ℕ) → IsOnce c → shows b (buffer c i) ≡ true → current (set x b v) c.slots ≡ current x c.slots
current_same_write x c i b v once here = is_current x (current (set x b v) c.slots) c (length-current (set x b v) c ∙ length-set x b v) (λ d inside.
    current_at (set x b v) c d (omega (arith, length-set x b v)) ∙ elim (cases_eq d b) [
      | inl same ↦
          let now : shows d (buffer c i) ≡ true = ap (λ (k : ℕ). shows k (buffer c i)) same ∙ here in
          slot_shows c i d (block_at (set x b v) d) once now ∙ sym (slot_shows c i d (block_at x d) once now)
      | inr other ↦ ap (shown c.slots d) (get_or-set_other x b d v [] other)
    ])

-- a write to the disk of a block that no slot shows
pub current_write : (x : Image) (c : Buffers) (b : ℕ) (v : List ℕ) → ((j : ℕ) → shows b (buffer c j) ≡ false) → current (set x b v) c.slots ≡ set (current x c.slots) b v
current_write x c b v none = sym (is_current (set x b v) (set (current x c.slots) b v) c (length-set (current x c.slots) b v ∙ length-current x c ∙ sym (length-set x b v)) (λ d inside. elim (cases_eq d b) [
  | inl same ↦
      let far : b < length x = omega (arith, length-set x b v, same, inside) in
      ap (block_at (set (current x c.slots) b v)) same ∙ get_or-set_same (current x c.slots) b v [] (omega (arith, length-current x c))
      ∙ sym (get_or-set_same x b v [] far) ∙ ap (block_at (set x b v)) (sym same) ∙ sym (not_shown c.slots d (block_at (set x b v) d) (λ j. ap (λ (k : ℕ). shows k (buffer c j)) same ∙ none j))
  | inr other ↦ get_or-set_other (current x c.slots) b d v [] other ∙ current_at x c d (omega (arith, length-set x b v, inside)) ∙ ap (shown c.slots d) (sym (get_or-set_other x b d v [] other))
]))

-- a read that failed leaves other bytes in a slot that shows nothing
pub current_unfilled : UnfilledKeeps
current_unfilled x c i bytes hidden =
    let t : Buffer = record (buffer c i) { bytes = bytes } in
    is_current x (current x (with_buffer c i t).slots) c (length-current x (with_buffer c i t)) (λ b lt.
    current_at x (with_buffer c i t) b lt
    ∙ shown-set c.slots i b (block_at x b) t refl (λ on. absurd (both_ways _ (and_left (buffer c i).valid (is_of b (buffer c i)) hidden) on)))

pub counts_keep_current : CountsKeepCurrent
counts_keep_current x c pid i = record {
  lock = current_kept x c i (record (buffer c i) { holder = Some pid }) refl refl refl;
  release = current_kept x c i (record (buffer c i) { holder = None }) refl refl refl;
  pin = current_kept x c i (record (buffer c i) { pins = (buffer c i).pins + 1 }) refl refl refl;
  unpin = current_kept x c i (record (buffer c i) { pins = (buffer c i).pins - 1 }) refl refl refl;
}
