-- What tasks hold of numbers: the claims of all of them, by the claim of each.
use Rattle.std.proofs.Common.{◌≡◌, ◌≢◌, ℕ, zero, suc, ◌<◌, Bool, true, false, cond, eqb, List, [], ◌∷◌, length, set, refl, ◌∙◌, ap, arith, Option, Some, None, inl, inr, ◌⊎◌}
use Rattle.in_flight.specs.AttributeLaws.{unwritten}
use Rattle.inodes.specs.Iupdate.{UpdateState}
use Rattle.inodes.specs.Common.{bytes_by, Claim, claim_by, claim_of, claims_of, Dinode, eq-eqb, eqb-true, Freeing, frees, get_or-set_other, get_or-set_same, grows, growth_of, held_of, IsClaimedNow, no_task, Op, or_else, Stage, task, TaskState, WriteState}

-- the task of process p alone may hold number i
abbrev pub HoldsAlone : List TaskState → ℕ → ℕ → Type 0
HoldsAlone ts p i = (q : ℕ) → q ≢ p → claim_of (task ts q) i ≡ None

-- ---- what one task holds

-- a task that stands there frees the blocks of number i's file, or writes into it, or sets an attribute of it,
-- with its inode at that entry of the table
abbrev pub IsHolding : Stage → ℕ → ℕ → Type 0
IsHolding a entry i =
    ((m : Freeing) × (a ≡ Stage.Truncating entry m) × (m.machine.number ≡ i))
    ⊎ ((m : WriteState) × (a ≡ Stage.Writing entry m) × (m.number ≡ i))
    ⊎ ((d : Dinode) × (u : UpdateState) × (a ≡ Stage.Setting entry d u) × (u.number ≡ i))

-- so does who holds a number
claims_own : (n i : ℕ) (own : Claim) (h : Claim) → cond (eqb n i) (Some own) None ≡ Some h → n ≡ i
claims_own n i own h claimed = by_number (eqb n i) refl claimed
  where
    by_number : (same : Bool) → eqb n i ≡ same → cond same (Some own) None ≡ Some h → n ≡ i
    by_number true same claimed = eqb-true n i same
    by_number false other claimed = absurd (cc claimed)

pub holding_is : (op : Option Op) (a : Stage) (i : ℕ) (h : Claim) → claim_by op a i ≡ Some h →
    (entry : ℕ) × IsHolding a entry i
holding_is op Stage.Nowhere i h claimed = absurd (cc claimed)
holding_is op (Stage.Creating m) i h claimed = absurd (cc claimed)
holding_is op (Stage.Taking m) i h claimed = absurd (cc claimed)
holding_is op (Stage.Reading k m) i h claimed = absurd (cc claimed)
holding_is op (Stage.Delivering k) i h claimed = absurd (cc claimed)
holding_is op (Stage.Truncating k m) i h claimed =
    (k, inl (m, refl, claims_own m.machine.number i (frees (held_of m.machine)) h claimed))
holding_is op (Stage.Writing k m) i h claimed =
    (k, inr (inl (m, refl, claims_own m.number i (grows (growth_of m op)) h claimed)))
holding_is op (Stage.Setting k d u) i h claimed =
    (k, inr (inr (d, u, refl, claims_own u.number i (grows (unwritten d)) h claimed)))
holding_is op (Stage.Leaving k) i h claimed = absurd (cc claimed)

-- the freeing of a file's blocks holds its number
pub own_holds : (k : ℕ) (m : Freeing) →
    claim_by None (Stage.Truncating k m) m.machine.number ≡ Some (frees (held_of m.machine))
own_holds k m = rw (eq-eqb m.machine.number m.machine.number refl) refl

-- and so does the writing of its bytes
pub own_grows : (op : Option Op) (k : ℕ) (m : WriteState) →
    claim_by op (Stage.Writing k m) m.number ≡ Some (grows (growth_of m op))
own_grows op k m = rw (eq-eqb m.number m.number refl) refl

-- and the writing back of its inode
pub own_setting : (op : Option Op) (k : ℕ) (d : Dinode) (u : UpdateState) →
    claim_by op (Stage.Setting k d u) u.number ≡ Some (grows (unwritten d))
own_setting op k d u = rw (eq-eqb u.number u.number refl) refl

-- ---- what all of them hold

-- where no task holds it, nothing is held of it
pub none_held : (ts : List TaskState) (i : ℕ) →
    ((q : ℕ) → claim_of (task ts q) i ≡ None) → claims_of ts i ≡ None
none_held [] i none = refl
none_held (t ∷ ts) i none =
    ap (λ (o : Option Claim). or_else o (claims_of ts i)) (none 0)
    ∙ none_held ts i (λ q. none (suc q))

else_none : (o : Option Claim) → or_else o None ≡ o
else_none None = refl
else_none (Some h) = refl

-- the claim of the one task that may hold a number is the claim of all
pub claim_of_one : (ts : List TaskState) (p i : ℕ) → HoldsAlone ts p i →
    claims_of ts i ≡ claim_of (task ts p) i
claim_of_one [] p i alone = refl
claim_of_one (t ∷ ts) zero i alone =
    ap (or_else (claim_of t i))
    (none_held ts i (λ q. alone (suc q) (λ (e : suc q ≡ 0). omega (arith, e))))
    ∙ else_none (claim_of t i)
claim_of_one (t ∷ ts) (suc p) i alone =
    ap (λ (o : Option Claim). or_else o (claims_of ts i))
    (alone 0 (λ (e : 0 ≡ suc p). omega (arith, e)))
    ∙ claim_of_one ts p i
    (λ q apart. alone (suc q) (λ (e : suc q ≡ suc p). apart (omega (arith, e))))

-- one task is another, with the same claim of a number
pub claim_stays : (ts : List TaskState) (p i : ℕ) (t : TaskState) →
    claim_of t i ≡ claim_of (task ts p) i → claims_of (set ts p t) i ≡ claims_of ts i
claim_stays [] p i t same = refl
claim_stays (s ∷ ts) zero i t same = ap (λ (o : Option Claim). or_else o (claims_of ts i)) same
claim_stays (s ∷ ts) (suc p) i t same =
    ap (or_else (claim_of s i)) (claim_stays ts p i t same)

-- one task is another, and nobody else may hold number i; of the others it holds what it held
pub claimed_now : (ts : List TaskState) (p i : ℕ) (t : TaskState) → p < length ts →
    HoldsAlone ts p i →
    ((j : ℕ) → j ≢ i → claim_of t j ≡ claim_of (task ts p) j) →
    IsClaimedNow (claims_of ts) i (claim_of t i) (claims_of (set ts p t))
claimed_now ts p i t inside alone others = record {
  own = claim_of_one (set ts p t) p i
      (λ q apart.
      ap (λ (s : TaskState). claim_of s i) (get_or-set_other ts p q t no_task apart)
      ∙ alone q apart)
      ∙ ap (λ (s : TaskState). claim_of s i) (get_or-set_same ts p t no_task inside);
  others = λ j apart. claim_stays ts p j t (others j apart);
}
