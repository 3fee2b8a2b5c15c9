-- A task by its stage: whether its next step uses what it has got, what it keeps while it gets
-- another block, and that it waits for this alone.
use Rattle.std.proofs.Common.{◌≡◌, ◌≢◌, ℕ, ◌+◌, ◌≤◌, Bool, true, false, List, [], ◌∷◌, ◌++◌, length, map, refl, sym, ap, inl, inr, ◌⊎◌, arith, Option, Some, None}
use Rattle.std.specs.Prelude.{not, is_some}
use Rattle.inodes.specs.Common.{Buffers, cause_to_get, count_of, eq-eqb, Got, HasSlot, Kept, kept_by_write, LockAt, MapAt, node_of_write, not-true, now_of, slot_in, slot_kept, slot_of, slot_of_alloc, Stage, TableState, used_by_write, used_on_way, WriteAt}
use Rattle.inodes.specs.Waiting.{unless_got, wanted_on_way, wanted_by_write, cause_to_lock, cause_at}

-- ---- whose next step gets nothing

abbrev pub maps_freely : MapAt → Bool
maps_freely (MapAt.Address t) = is_some (slot_of_alloc t.at)
maps_freely (MapAt.Entry n slot) = is_some slot
maps_freely (MapAt.Behind n i t) = is_some (slot_of_alloc t.at)
maps_freely (MapAt.Setting n i found) = true

abbrev pub writes_freely : WriteAt → Bool
writes_freely (WriteAt.Mapping way) = maps_freely way.at
writes_freely (WriteAt.Block b slot) = is_some slot
writes_freely (WriteAt.Updating u) = is_some u.slot

abbrev pub locks_freely : LockAt → Bool
locks_freely LockAt.Reference = true
locks_freely (LockAt.Lock k) = false
locks_freely (LockAt.Read k slot) = is_some slot

abbrev pub is_free : Stage → Bool
is_free Stage.Nowhere = false
is_free (Stage.Creating m) = is_some m.slot
is_free (Stage.Taking m) = locks_freely m.at
is_free (Stage.Reading k m) = is_some (slot_in m.target)
is_free (Stage.Delivering k) = true
is_free (Stage.Truncating k m) = is_some (slot_kept (now_of m))
is_free (Stage.Writing k m) = writes_freely m.at
is_free (Stage.Setting k d u) = is_some u.slot
is_free (Stage.Leaving k) = true

got_some : (c : Buffers) (o : Option ℕ) (b : ℕ) → is_some o ≡ true → cause_to_get c (unless_got o b) ≡ None
got_some c None b e = absurd (cc e)
got_some c (Some i) b e = refl

free_way : (c : Buffers) (a : MapAt) → maps_freely a ≡ true → cause_to_get c (wanted_on_way a) ≡ None
free_way c (MapAt.Address t) e = got_some c (slot_of_alloc t.at) _ e
free_way c (MapAt.Entry n slot) e = got_some c slot _ e
free_way c (MapAt.Behind n i t) e = got_some c (slot_of_alloc t.at) _ e
free_way c (MapAt.Setting n i found) e = refl

free_write : (c : Buffers) (a : WriteAt) → writes_freely a ≡ true → cause_to_get c (wanted_by_write a) ≡ None
free_write c (WriteAt.Mapping way) e = free_way c way.at e
free_write c (WriteAt.Block b slot) e = got_some c slot b e
free_write c (WriteAt.Updating u) e = got_some c u.slot _ e

free_lock : (c : Buffers) (t : TableState) (a : LockAt) (i : ℕ) → locks_freely a ≡ true → cause_to_lock c t a i ≡ None
free_lock c t LockAt.Reference i e = refl
free_lock c t (LockAt.Lock k) i e = absurd (cc e)
free_lock c t (LockAt.Read k slot) i e = got_some c slot _ e

-- who stands so goes on
pub free_goes : (c : Buffers) (t : TableState) (a : Stage) → is_free a ≡ true → cause_at c t a ≡ None
free_goes c t Stage.Nowhere e = refl
free_goes c t (Stage.Creating m) e = got_some c m.slot _ e
free_goes c t (Stage.Taking m) e = free_lock c t m.at m.number e
free_goes c t (Stage.Reading k m) e = got_some c (slot_in m.target) _ e
free_goes c t (Stage.Delivering k) e = refl
free_goes c t (Stage.Truncating k m) e = got_some c (slot_kept (now_of m)) _ e
free_goes c t (Stage.Writing k m) e = free_write c m.at e
free_goes c t (Stage.Setting k d u) e = got_some c u.slot _ e
free_goes c t (Stage.Leaving k) e = refl

-- ---- what is kept while another block is got

abbrev pub gots : Option Got → List Got
gots None = []
gots (Some g) = g ∷ []

abbrev pub gots_kept : Kept → List Got
gots_kept kept = gots kept.inner ++ gots kept.outer

-- a block in the slot where it was got
abbrev pub got_at : ℕ → Option ℕ → List Got
got_at b None = []
got_at b (Some i) = record { block = b; slot = i } ∷ []

-- the blocks of addresses that a task keeps
abbrev pub kept_by : Stage → List Got
kept_by Stage.Nowhere = []
kept_by (Stage.Creating m) = []
kept_by (Stage.Taking m) = []
kept_by (Stage.Reading k m) = []
kept_by (Stage.Delivering k) = []
kept_by (Stage.Truncating k m) = gots_kept m.kept
kept_by (Stage.Writing k m) = got_at (node_of_write m.at) (kept_by_write m.at)
kept_by (Stage.Setting k d u) = []
kept_by (Stage.Leaving k) = []

-- one of them
abbrev pub IsOneOf : Got → List Got → Type 0
IsOneOf g [] = ⊥
IsOneOf g (h ∷ hs) = (g ≡ h) ⊎ IsOneOf g hs

-- their slots
abbrev pub slots_of : List Got → List ℕ
slots_of gs = map (λ (g : Got). g.slot) gs

pub slot_counts : (gs : List Got) (g : Got) → IsOneOf g gs → count_of g.slot (slots_of gs) ≢ 0
slot_counts [] g is = absurd is
slot_counts (h ∷ hs) g (inl same) = λ (none : count_of g.slot (slots_of (h ∷ hs)) ≡ 0).
    let here : count_of g.slot (slots_of (h ∷ hs)) ≡ 1 + count_of g.slot (slots_of hs) = rw (eq-eqb h.slot g.slot (ap (λ (o : Got). o.slot) (sym same))) refl in
    omega (arith, none, here)
slot_counts (h ∷ hs) g (inr later) = λ (none : count_of g.slot (slots_of (h ∷ hs)) ≡ 0). slot_counts hs g later (omega (arith, none))

few_kept : (inner outer : Option Got) → length (slots_of (gots inner ++ gots outer)) ≤ 2
few_kept None None = omega arith
few_kept None (Some g) = omega arith
few_kept (Some g) None = omega arith
few_kept (Some g) (Some h) = omega arith

few_at : (b : ℕ) (o : Option ℕ) → length (slots_of (got_at b o)) ≤ 2
few_at b None = omega arith
few_at b (Some i) = omega arith

-- there are two at most
pub few_by : (a : Stage) → length (slots_of (kept_by a)) ≤ 2
few_by Stage.Nowhere = omega arith
few_by (Stage.Creating m) = omega arith
few_by (Stage.Taking m) = omega arith
few_by (Stage.Reading k m) = omega arith
few_by (Stage.Delivering k) = omega arith
few_by (Stage.Truncating k m) = few_kept m.kept.inner m.kept.outer
few_by (Stage.Writing k m) = few_at (node_of_write m.at) (kept_by_write m.at)
few_by (Stage.Setting k d u) = omega arith
few_by (Stage.Leaving k) = omega arith

not_got : (o : Option ℕ) (i : ℕ) → is_some o ≡ false → o ≡ Some i → ⊥
not_got None i e has = cc has
not_got (Some j) i e has = cc e

used_way : (a : MapAt) (i : ℕ) → maps_freely a ≡ false → used_on_way a ≡ Some i → ⊥
used_way (MapAt.Address t) i e has = not_got (slot_of_alloc t.at) i e has
used_way (MapAt.Entry n slot) i e has = cc has
used_way (MapAt.Behind n j t) i e has = not_got (slot_of_alloc t.at) i e has
used_way (MapAt.Setting n j found) i e has = cc has

used_write : (a : WriteAt) (i : ℕ) → writes_freely a ≡ false → used_by_write a ≡ Some i → ⊥
used_write (WriteAt.Mapping way) i e has = used_way way.at i e has
used_write (WriteAt.Block b slot) i e has = not_got slot i e has
used_write (WriteAt.Updating u) i e has = not_got u.slot i e has

locks_none : (a : LockAt) (i : ℕ) → locks_freely a ≡ false → slot_of a ≡ Some i → ⊥
locks_none LockAt.Reference i e has = cc has
locks_none (LockAt.Lock k) i e has = cc has
locks_none (LockAt.Read k slot) i e has = not_got slot i e has

either : {A B : Type 0} → A ⊎ B → (B → ⊥) → A
either (inl a) none = a
either (inr b) none = absurd (none b)

one_later : (g : Got) (gs hs : List Got) → IsOneOf g hs → IsOneOf g (gs ++ hs)
one_later g [] hs is = is
one_later g (o ∷ gs) hs is = inr (one_later g gs hs is)

-- a kept block in that slot
abbrev pub KeptIn : Stage → ℕ → Type 0
KeptIn a i = (g : Got) × IsOneOf g (kept_by a) × (g.slot ≡ i)

kept_in : (inner outer : Option Got) (i : ℕ) → (slot_kept inner ≡ Some i) ⊎ (slot_kept outer ≡ Some i) → (g : Got) × IsOneOf g (gots inner ++ gots outer) × (g.slot ≡ i)
kept_in None outer i (inl has) = absurd (cc has)
kept_in (Some g) outer i (inl has) = (g, inl refl, cc has)
kept_in inner None i (inr has) = absurd (cc has)
kept_in inner (Some g) i (inr has) = (g, one_later g (gots inner) (g ∷ []) (inl refl), cc has)

kept_one : (b : ℕ) (o : Option ℕ) (i : ℕ) → o ≡ Some i → (g : Got) × IsOneOf g (got_at b o) × (g.slot ≡ i)
kept_one b None i has = absurd (cc has)
kept_one b (Some j) i has = (record { block = b; slot = j }, inl refl, cc has)

-- who gets a block next has no other slot
pub has_kept : (a : Stage) (i : ℕ) → is_free a ≡ false → HasSlot a i → KeptIn a i
has_kept Stage.Nowhere i e has = absurd (cc has)
has_kept (Stage.Creating m) i e has = absurd (not_got m.slot i e has)
has_kept (Stage.Taking m) i e has = absurd (locks_none m.at i e has)
has_kept (Stage.Reading k m) i e has = absurd (not_got (slot_in m.target) i e has)
has_kept (Stage.Delivering k) i e has = absurd (cc has)
has_kept (Stage.Truncating k m) i e has = kept_in m.kept.inner m.kept.outer i (either has (not_got (slot_kept (now_of m)) i e))
has_kept (Stage.Writing k m) i e has = kept_one (node_of_write m.at) (kept_by_write m.at) i (either has (used_write m.at i e))
has_kept (Stage.Setting k d u) i e has = absurd (not_got u.slot i e has)
has_kept (Stage.Leaving k) i e has = absurd (cc has)

-- ---- who waits for an inode's lock

abbrev pub is_lock : LockAt → Bool
is_lock LockAt.Reference = false
is_lock (LockAt.Lock k) = true
is_lock (LockAt.Read k slot) = false

-- a task that is to get a block
abbrev pub is_getting : Stage → Bool
is_getting Stage.Nowhere = false
is_getting (Stage.Creating m) = true
is_getting (Stage.Taking m) = not (is_lock m.at)
is_getting (Stage.Reading k m) = true
is_getting (Stage.Delivering k) = true
is_getting (Stage.Truncating k m) = true
is_getting (Stage.Writing k m) = true
is_getting (Stage.Setting k d u) = true
is_getting (Stage.Leaving k) = true

-- what a task waits for that waits for no lock
abbrev pub Waits : Buffers → TableState → Stage → Type 0
Waits c t a = (b : ℕ) × (cause_at c t a ≡ cause_to_get c (Some b))

-- a block that was not got is got next
pub some_got : (c : Buffers) (o : Option ℕ) (b : ℕ) → is_some o ≡ false → cause_to_get c (unless_got o b) ≡ cause_to_get c (Some b)
some_got c None b e = refl
some_got c (Some i) b e = absurd (cc e)

way_waits : (c : Buffers) (a : MapAt) → maps_freely a ≡ false → (b : ℕ) × (cause_to_get c (wanted_on_way a) ≡ cause_to_get c (Some b))
way_waits c (MapAt.Address t) e = (_, some_got c (slot_of_alloc t.at) _ e)
way_waits c (MapAt.Entry n slot) e = (_, some_got c slot _ e)
way_waits c (MapAt.Behind n i t) e = (_, some_got c (slot_of_alloc t.at) _ e)
way_waits c (MapAt.Setting n i found) e = absurd (cc e)

write_waits : (c : Buffers) (a : WriteAt) → writes_freely a ≡ false → (b : ℕ) × (cause_to_get c (wanted_by_write a) ≡ cause_to_get c (Some b))
write_waits c (WriteAt.Mapping way) e = way_waits c way.at e
write_waits c (WriteAt.Block b slot) e = (_, some_got c slot b e)
write_waits c (WriteAt.Updating u) e = (_, some_got c u.slot _ e)

lock_waits : (c : Buffers) (t : TableState) (a : LockAt) (i : ℕ) → locks_freely a ≡ false → is_lock a ≡ false → (b : ℕ) × (cause_to_lock c t a i ≡ cause_to_get c (Some b))
lock_waits c t LockAt.Reference i e other = absurd (cc e)
lock_waits c t (LockAt.Lock k) i e other = absurd (cc other)
lock_waits c t (LockAt.Read k slot) i e other = (_, some_got c slot _ e)

pub getting_waits : (c : Buffers) (t : TableState) (a : Stage) → is_free a ≡ false → is_getting a ≡ true → Waits c t a
getting_waits c t Stage.Nowhere e is = absurd (cc is)
getting_waits c t (Stage.Creating m) e is = (_, some_got c m.slot _ e)
getting_waits c t (Stage.Taking m) e is = lock_waits c t m.at m.number e (not-true (is_lock m.at) is)
getting_waits c t (Stage.Reading k m) e is = (_, some_got c (slot_in m.target) _ e)
getting_waits c t (Stage.Delivering k) e is = absurd (cc e)
getting_waits c t (Stage.Truncating k m) e is = (_, some_got c (slot_kept (now_of m)) _ e)
getting_waits c t (Stage.Writing k m) e is = write_waits c m.at e
getting_waits c t (Stage.Setting k d u) e is = (_, some_got c u.slot _ e)
getting_waits c t (Stage.Leaving k) e is = absurd (cc e)
