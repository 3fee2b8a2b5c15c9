-- Flaws that are added piece by piece.
use Rattle.std.proofs.Common.{◌≡◌, ◌∙◌, ℕ, ◌+◌, List, ◌++◌, append_assoc, sym, ap}
use Rattle.std.specs.List.{flat_map, range_with_len}
use Rattle.model.specs.Lemmas.Steps.{flat_mapped_more}
use Rattle.directories.specs.declared.flaws.Flaw.{Flaw}

-- two pieces more
pub two_more : (old a b one new : List Flaw) → one ≡ old ++ a → new ≡ one ++ b → new ≡ old ++ (a ++ b)
two_more old a b one new first second = second ∙ ap (λ (l : List Flaw). l ++ b) first ∙ append_assoc old a b

-- those of one number more
pub number_more : (f : ℕ → List Flaw) (n : ℕ) (old mid new : List Flaw) → mid ≡ old ++ flat_map f (range_with_len 0 n) → new ≡ mid ++ f n → new ≡ old ++ flat_map f (range_with_len 0 (n + 1))
number_more f n old mid new before more =
    more ∙ ap (λ (l : List Flaw). l ++ f n) before ∙ append_assoc old (flat_map f (range_with_len 0 n)) (f n)
    ∙ ap (λ (l : List Flaw). old ++ l) (sym (flat_mapped_more f n))
