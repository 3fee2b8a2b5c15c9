-- What writes that are held make of a device, whatever of them gets through.
use Rattle.std.proofs.Common.{◌≡◌, ◌⊎◌, inl, inr, ℕ, zero, suc, ◌+◌, ◌<◌, ◌==◌, Bool, true, false, not, ◌||◌, List, [], ◌∷◌, length, get_or, refl, sym, ap, ◌∙◌, subst, arith, set, length-set}
use Rattle.std.specs.List.{list_any}
use Rattle.std.specs.Prelude.{take}
use Rattle.std.proofs.lemmas.List.{set-get_or}
use Rattle.lost_writes.specs.Laws.{HeldMayTear}
use Rattle.lost_writes.specs.Device.{TornImages}
use Rattle.std.proofs.lemmas.Bool.{cases_Bool}
use Rattle.blocks.specs.Held.{Write, applied}
use Rattle.wal.specs.Common.{block_at, both_ways, cases_eq, eq-eqb, get_or-set_other, get_or-set_same, Image, ne_eqb}
use Rattle.lost_writes.specs.Runs.{copied_from, copied_to}
use Rattle.lost_writes.specs.Stale.{IsStale, may_be_stale}

-- each write is to a block that has Q
abbrev pub GoTo : (ℕ → Type 0) → List Write → Type 0
GoTo Q [] = Unit {0}
GoTo Q (write ∷ writes) = Q write.0 × GoTo Q writes

pub go_to : (P Q : ℕ → Type 0) → ((b : ℕ) → P b → Q b) → (writes : List Write) → GoTo P writes → GoTo Q writes
go_to P Q so [] all = tt
go_to P Q so (write ∷ writes) all = (so write.0 all.0, go_to P Q so writes all.1)

-- whatever of them gets through, other blocks stay
pub torn_other : (Q : ℕ → Type 0) (z w : Image) (writes : List Write) → GoTo Q writes → TornImages z writes w
    → (length w ≡ length z) × ((b : ℕ) → (Q b → ⊥) → block_at w b ≡ block_at z b)
torn_other Q z w [] all is = (ap length is, λ b out. ap (λ (v : Image). block_at v b) is)
torn_other Q z w (write ∷ writes) all (bytes, tears, more) =
    let r = torn_other Q (set z write.0 bytes) w writes all.1 more in (
      r.0 ∙ length-set z write.0 bytes,
      λ b out. r.1 b out ∙ get_or-set_other z write.0 b bytes [] (λ e. out (subst Q (sym e) all.0)),
    )

pub torn_all : (z : Image) (writes : List Write) → TornImages z writes (applied z writes)
torn_all z [] = refl
torn_all z (write ∷ writes) = (write.1, λ at. inr refl, torn_all (set z write.0 write.1) writes)

-- a write that is lost leaves what was there
pub held_is_torn : HeldMayTear
held_is_torn z w [] is = is
held_is_torn z w (write ∷ writes) (inl without) = (
  block_at z write.0,
  λ at. inl (ap (λ (b : ℕ). take 512 (block_at z b)) at),
  subst (λ (v : Image). TornImages v writes w) (sym (set-get_or z write.0 [])) (held_is_torn z w writes without),
)
held_is_torn z w (write ∷ writes) (inr with_it) = (write.1, λ at. inr refl, held_is_torn (set z write.0 write.1) w writes with_it)

-- the later ones may be lost
pub torn_none : (z : Image) (writes : List Write) → TornImages z writes z
torn_none z [] = refl
torn_none z (write ∷ writes) = (
  block_at z write.0,
  λ at. inl (ap (λ (b : ℕ). take 512 (block_at z b)) at),
  subst (λ (v : Image). TornImages v writes z) (sym (set-get_or z write.0 [])) (torn_none z writes),
)

pub torn_more : (z w : Image) (k : ℕ) (writes : List Write) → TornImages z (take k writes) w → TornImages z writes w
torn_more z w zero writes is = subst (TornImages z writes) (sym is) (torn_none z writes)
torn_more z w (suc k) [] is = is
torn_more z w (suc k) (write ∷ writes) (bytes, tears, more) = (bytes, tears, torn_more (set z write.0 bytes) w k writes more)

pub go_first : (Q : ℕ → Type 0) (k : ℕ) (writes : List Write) → GoTo Q writes → GoTo Q (take k writes)
go_first Q zero writes all = tt
go_first Q (suc k) [] all = tt
go_first Q (suc k) (write ∷ writes) all = (all.0, go_first Q k writes all.1)

-- of one write there is that one, or none
pub of_one : (k : ℕ) (write : Write) → (take k (write ∷ []) ≡ []) ⊎ (take k (write ∷ []) ≡ write ∷ [])
of_one zero write = inl refl
of_one (suc zero) write = inr refl
of_one (suc (suc k)) write = inr refl

pub applied_other : (Q : ℕ → Type 0) (z : Image) (writes : List Write) → GoTo Q writes
    → (length (applied z writes) ≡ length z) × ((b : ℕ) → (Q b → ⊥) → block_at (applied z writes) b ≡ block_at z b)
applied_other Q z writes all = torn_other Q z (applied z writes) writes all (torn_all z writes)

-- writes to blocks that may be stale leave a stale device
pub torn_stale : (x z w : Image) (writes : List Write) → GoTo (λ b. may_be_stale x b ≡ true) writes → IsStale x z → TornImages z writes w → IsStale x w
torn_stale x z w writes all stale torn =
    let r = torn_other (λ b. may_be_stale x b ≡ true) z w writes all torn in
    record {
      size = r.0 ∙ stale.size;
      agree = λ b out. r.1 b (λ may. both_ways (may_be_stale x b) (kept (may_be_stale x b) out) may) ∙ stale.agree b out;
    }
  where
    kept : (t : Bool) → not t ≡ true → t ≡ false
    kept true out = absurd (cc out)
    kept false out = refl

-- homes, written with blocks of a row
pub copies_go : (Q : ℕ → Type 0) (x : Image) (b : ℕ) (homes : List ℕ) → ((h : ℕ) → list_any (λ g. g == h) homes ≡ true → Q h) → GoTo Q (copied_from x b homes)
copies_go Q x b [] all = tt
copies_go Q x b (home ∷ homes) all = (
  all home (rw (eq-eqb home home refl) refl),
  copies_go Q x (b + 1) homes (λ h among. all h (or_right_here (home == h) (list_any (λ g. g == h) homes) among)),
)
  where
    or_right_here : (s t : Bool) → t ≡ true → (s || t) ≡ true
    or_right_here true t e = refl
    or_right_here false t e = e

-- blocks of a row, written with homes
pub row_goes : (Q : ℕ → Type 0) (x : Image) (b : ℕ) (homes : List ℕ) → ((k : ℕ) → k < length homes → Q (b + k)) → GoTo Q (copied_to x b homes)
row_goes Q x b [] all = tt
row_goes Q x b (home ∷ homes) all = (
  subst Q (omega arith) (all 0 (omega arith)),
  row_goes Q x (b + 1) homes (λ k lt. subst Q (omega arith) (all (k + 1) (omega arith))),
)

-- with all of them made, block k of the row is home k's
pub row_at : (x z : Image) (b k : ℕ) (homes : List ℕ) → k < length homes → b + k < length z → block_at (applied z (copied_to x b homes)) (b + k) ≡ block_at x (get_or homes k 0)
row_at x z b k [] lt inside = absurd (omega arith)
row_at x z b zero (home ∷ homes) lt inside =
    let at : b + 0 ≡ b = omega arith in
    let rest = applied_other (λ a. b < a) (set z b (block_at x home)) (copied_to x (b + 1) homes) (row_goes (λ a. b < a) x (b + 1) homes (λ j less. omega arith)) in
    ap (block_at (applied (set z b (block_at x home)) (copied_to x (b + 1) homes))) at
    ∙ rest.1 b (λ less. omega (arith, less)) ∙ get_or-set_same z b (block_at x home) [] (omega (arith, inside))
row_at x z b (suc k) (home ∷ homes) lt inside =
    let at : b + suc k ≡ b + 1 + k = omega arith in
    ap (block_at (applied (set z b (block_at x home)) (copied_to x (b + 1) homes))) at
    ∙ row_at x (set z b (block_at x home)) (b + 1) k homes (omega arith) (omega (arith, length-set z b (block_at x home), inside))

-- with all of them made, a home has what each of its writes has
pub copied_at : (P : List ℕ → Type 0) (x z : Image) (b h : ℕ) (homes : List ℕ) → ((k : ℕ) → k < length homes → get_or homes k 0 ≡ h → P (block_at x (b + k)))
    → list_any (λ g. g == h) homes ≡ true → h < length z → P (block_at (applied z (copied_from x b homes)) h)
copied_at P x z b h [] all among inside = absurd (cc among)
copied_at P x z b h (home ∷ homes) all among inside =
    let y : Image = set z home (block_at x b) in
    elim (cases_Bool (list_any (λ g. g == h) homes)) [
      | inl later ↦
          copied_at P x y (b + 1) h homes (λ k lt is. subst (λ (n : ℕ). P (block_at x n)) (omega arith) (all (suc k) (omega arith) is))
          later (omega (arith, length-set z home (block_at x b), inside))
      | inr last ↦
          let away = applied_other (λ a. list_any (λ g. g == a) homes ≡ true) y (copied_from x (b + 1) homes) (copies_go (λ a. list_any (λ g. g == a) homes ≡ true) x (b + 1) homes (λ a found. found)) in
          let here : home ≡ h = first home h homes last among in
          let value : block_at (applied y (copied_from x (b + 1) homes)) h ≡ block_at x (b + 0)
          = away.1 h (λ found. both_ways (list_any (λ g. g == h) homes) last found)
          ∙ ap (λ (a : ℕ). block_at (set z a (block_at x b)) h) here ∙ get_or-set_same z h (block_at x b) [] inside ∙ ap (block_at x) (omega arith) in
          subst P (sym value) (all 0 (omega arith) here)
    ]
  where
    first : (g a : ℕ) (gs : List ℕ) → list_any (λ i. i == a) gs ≡ false → list_any (λ i. i == a) (g ∷ gs) ≡ true → g ≡ a
    first g a gs none found = elim (cases_eq g a) [
      | inl is ↦ is
      | inr ne ↦ absurd (both_ways (list_any (λ i. i == a) gs) none (rw (ne_eqb g a ne) at found))
    ]
