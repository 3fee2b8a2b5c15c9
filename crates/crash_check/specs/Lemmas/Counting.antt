-- What holds of each number below a count.
use Rattle.std.proofs.Common.{◌≡◌, ℕ, ◌+◌, ◌<◌, arith, subst, sym, ⊎_elim}
use Rattle.std.proofs.lemmas.Bool.{cases_lt}

-- the next of those below a count
pub one_more_passed : (P : ℕ → Type 0) (k : ℕ) → ((n : ℕ) → n < k → P n) → P k → (n : ℕ) → n < k + 1 → P n
one_more_passed P k each last n below =
    ⊎_elim (λ less. each n less) (λ least. let same : n ≡ k = omega (arith, least, below) in subst P (sym same) last) (cases_lt n k)
