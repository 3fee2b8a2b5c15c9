-- Names aside are names.
use Rattle.std.proofs.Common.{◌≡◌, ◌≢◌, ◌⊎◌, ℕ, zero, suc, ◌<◌, List, [], ◌∷◌, inl, inr, ⊎_elim, arith}
use Rattle.std.specs.Prelude.{⊤, Contains}
use Rattle.directories.specs.declared.name.NameFault.{NameFault}
use Rattle.directories.specs.declared.name.NameFault.TheVariants.{Empty, TooLong, ZeroByte, Slash}
use Rattle.directories.specs.Names.{IsNameCause}
use Rattle.mounting.specs.Asides.{digit}

-- none of these bytes is that one
abbrev AreApart : List ℕ → ℕ → Type 0
AreApart [] x = ⊤
AreApart (y ∷ ys) x = (y ≢ x) × AreApart ys x

first_or_rest : (x y : ℕ) (ys : List ℕ) → Contains (y ∷ ys) x → (y ≡ x) ⊎ Contains ys x
first_or_rest x y ys (zero, low, is) = inl is
first_or_rest x y ys (suc k, low, is) = inr (k, omega (arith, low), is)

is_none : (x : ℕ) (ys : List ℕ) → AreApart ys x → Contains ys x → ⊥
is_none x [] apart (k, low, is) = absurd (omega (arith, low))
is_none x (y ∷ ys) apart there = ⊎_elim (λ (is : y ≡ x). apart.0 is) (λ (in_rest : Contains ys x). is_none x ys apart.1 in_rest) (first_or_rest x y ys there)

-- a digit is neither a zero byte nor a slash
digit_apart : (a n x : ℕ) → a ≡ digit n → x < 48 → a ≢ x
digit_apart a n x is low same = omega (arith, is, low, same)

module _ (n1 n2 n3 n4 n5 n6 n7 a b c d e f h : ℕ) (is_a : a ≡ digit n1) (is_b : b ≡ digit n2) (is_c : c ≡ digit n3) (is_d : d ≡ digit n4) (is_e : e ≡ digit n5) (is_f : f ≡ digit n6) (is_h : h ≡ digit n7) where
  abbrev text : List ℕ
  text = 46 ∷ 120 ∷ 118 ∷ 103 ∷ 111 ∷ 110 ∷ 101 ∷ a ∷ b ∷ c ∷ d ∷ e ∷ f ∷ h ∷ []

  apart : (x : ℕ) → x < 48 → x ≢ 46 → AreApart text x
  apart x low other = (
    λ s. omega (arith, s, other),
    (
      λ s. omega (arith, s, low),
      (
        λ s. omega (arith, s, low),
        (
          λ s. omega (arith, s, low),
          (
            λ s. omega (arith, s, low),
            (
              λ s. omega (arith, s, low),
              (
                λ s. omega (arith, s, low),
                (digit_apart a n1 x is_a low, (digit_apart b n2 x is_b low, (digit_apart c n3 x is_c low, (digit_apart d n4 x is_d low, (digit_apart e n5 x is_e low, (digit_apart f n6 x is_f low, (digit_apart h n7 x is_h low, tt))))))),
              ),
            ),
          ),
        ),
      ),
    ),
  )

  pub aside_fits : (fault : NameFault) → IsNameCause text fault → ⊥
  aside_fits Empty why = absurd (cc why)
  aside_fits TooLong why = omega (arith, why)
  aside_fits ZeroByte why = is_none 0 text (apart 0 (omega arith) (λ s. omega (arith, s))) why
  aside_fits Slash why = is_none 47 text (apart 47 (omega arith) (λ s. omega (arith, s))) why
