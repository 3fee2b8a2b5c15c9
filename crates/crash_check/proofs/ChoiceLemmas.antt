-- Choices of the held writes that get through.
use Rattle.std.proofs.Common.{◌≡◌, ◌∙◌, ◌<◌, ◌≤◌, ◌+◌, ◌-◌, ◌*◌, ◌^◌, ◌++◌, ◌∷◌, [], ℕ, zero, suc, Bool, true, false, List, arith, ap, ap₂, refl, subst, sym, take, length, set, get_or, ⊎_elim}
use Rattle.std.specs.Prelude.{IfErr, Result, replicate}
use Rattle.std.proofs.lemmas.Result.{IfErr-weaker}
use Rattle.blocks.specs.SyncDisk.{held_of}
use Rattle.crash_check.specs.declared.fault.StopsFault.{StopsFault}
use Rattle.std.proofs.Math.Nat.{pow-suc}
use Rattle.std.proofs.lemmas.Bool.{cases_lt}
use Rattle.std.proofs.lemmas.List.{length-replicate, length-set, take-replicate, take-set, take-take, take_more, take_more_set}
use Rattle.blocks.specs.declared.sync.SyncDisk.{SyncDisk}
use Rattle.crash_check.specs.Choices.{HasDue, HasRestDue, LacksDue, LacksDueBy, beginning}
use Rattle.crash_check.specs.Lemmas.Faults.{OnMismatch-weaker}
use Rattle.crash_check.specs.Mismatches.{OnMismatch}
use Rattle.crash_check.specs.declared.choices.Due.{Due}

pub length_beginning : (n k : ℕ) → length (beginning n k) ≡ n
length_beginning zero k = refl
length_beginning (suc n) zero = ap suc (length_beginning n zero)
length_beginning (suc n) (suc k) = ap suc (length_beginning n k)

-- none has got through yet
pub none_yet : (n : ℕ) → replicate n false ≡ beginning n 0
none_yet zero = refl
none_yet (suc n) = ap (λ (rest : List Bool). false ∷ rest) (none_yet n)

-- how many places are taken of 64
pub taken_places : (n : ℕ) → n ≤ 64 → length (take n (replicate 64 false)) ≡ n
taken_places n few = ap length (take-replicate n 64 false few) ∙ length-replicate n false

pub taken_none : (n : ℕ) → n ≤ 64 → take n (replicate 64 false) ≡ beginning (length (take n (replicate 64 false))) 0
taken_none n few = take-replicate n 64 false few ∙ none_yet n ∙ ap (λ (m : ℕ). beginning m 0) (sym (taken_places n few))

-- one more gets through
pub one_more_kept : (n k : ℕ) → k < n → set (beginning n k) k true ≡ beginning n (k + 1)
one_more_kept zero k below = absurd (omega (arith, below))
one_more_kept (suc n) zero below = refl
one_more_kept (suc n) (suc k) below = ap (λ (rest : List Bool). true ∷ rest) (one_more_kept n k (omega (arith, below))) ∙ ap (beginning (suc n)) (next k)
  where
    next : (m : ℕ) → suc (m + 1) ≡ suc m + 1
    next m = omega arith

-- there are no more than all
pub beyond_all : (n k : ℕ) → n ≤ k → beginning n k ≡ beginning n n
beyond_all zero k most = refl
beyond_all (suc n) zero most = absurd (omega (arith, most))
beyond_all (suc n) (suc k) most = ap (λ (rest : List Bool). true ∷ rest) (beyond_all n k (omega (arith, most)))

-- what begins alike up to one place begins alike before it
pub shorter : (n : ℕ) (a b : List Bool) → take (n + 1) a ≡ take (n + 1) b → take n a ≡ take n b
shorter n a b same = sym (take-take n (n + 1) a (omega arith)) ∙ ap (take n) same ∙ take-take n (n + 1) b (omega arith)

-- each next write doubles the choices
pub doubled : (n k : ℕ) → k < n → 2 ^ (n - (k + 1)) + 2 ^ (n - (k + 1)) ≡ 2 ^ (n - k)
doubled n k below =
    let one : n - k ≡ suc (n - (k + 1)) = omega (arith, below) in
    twice (2 ^ (n - (k + 1))) ∙ sym (pow-suc 2 (n - (k + 1))) ∙ ap (λ (m : ℕ). 2 ^ m) (sym one)
  where
    twice : (m : ℕ) → m + m ≡ m * 2
    twice m = omega arith

-- where each beginning that is not all has its files, and all have, each has
pub each_beginning : (d : SyncDisk) (due : Due) (n kept : ℕ) → n ≤ kept → ((k : ℕ) → k < kept → HasDue d due (beginning n k)) → HasDue d due (beginning n kept) → (k : ℕ) → HasDue d due (beginning n k)
each_beginning d due n kept most each last k =
    ⊎_elim (λ less. each k less) (λ least. subst (HasDue d due) (beyond_all n kept most ∙ sym (beyond_all n k (omega (arith, most, least)))) last) (cases_lt k kept)

-- a beginning that has not its files is one of the choices
pub lost_beginning : (d : SyncDisk) (due : Due) (r : Result ℕ StopsFault) (n : ℕ) → n ≡ length (held_of d) → IfErr r (λ f. OnMismatch f (λ m. (k : ℕ) × LacksDueBy d due (beginning n k) m))
    → IfErr r (λ f. OnMismatch f (LacksDue d due))
lost_beginning d due r n all = IfErr-weaker r _ _ (λ f. OnMismatch-weaker f _ _ (λ m one.
    (beginning n one.0, record { size = length_beginning n one.0 ∙ all; first = λ _. (one.0, ap (λ (m : ℕ). beginning m one.0) all) }, one.1)))

module _ (d : SyncDisk) (due : Due) (from : ℕ) (old : List Bool) where
  -- the rest behind one more write that is lost, and behind one that gets through
  pub both : (mid : List Bool) → from < length old → length mid ≡ length old → take (from + 1) mid ≡ take (from + 1) (set old from false)
      → HasRestDue d due (from + 1) (set old from false) → HasRestDue d due (from + 1) (set mid from true) → HasRestDue d due from old
  both mid below size before lost kept other same begins = by_next (get_or other from false) refl
    where
      inside : from < length other
      inside = omega (arith, below, same)

      begin_mid : take from mid ≡ take from old
      begin_mid = shorter from mid (set old from false) before ∙ take-set old from false

      by_next : (b : Bool) → get_or other from false ≡ b → HasDue d due other
      by_next false is = lost other (same ∙ sym (length-set old from false)) (take_more other from false inside ∙ (ap₂ (λ (xs : List Bool) (b : Bool). xs ++ b ∷ []) begins is ∙ sym (take_more_set old from false below)))
      by_next true is = kept other (same ∙ sym size ∙ sym (length-set mid from true)) (take_more other from false inside ∙ (ap₂ (λ (xs : List Bool) (b : Bool). xs ++ b ∷ []) (begins ∙ sym begin_mid) is ∙ sym (take_more_set mid from true (omega (arith, below, size)))))
