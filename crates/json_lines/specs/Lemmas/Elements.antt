-- The elements of arrays, one after the other.
use Rattle.std.proofs.Common.{◌∙◌, ◌≡◌, ℕ, ◌+◌, ◌<◌, ◌≤◌, suc, List, [], ◌∷◌, ◌++◌, length, get_or, take, Option, sym, ap, subst, arith, add-zero}
use Rattle.std.specs.Io.KnownBytes.{Appends}
use Rattle.std.proofs.KnownBytes.{Appends-trans}
use Rattle.std.proofs.lemmas.List.{append-nil, append_assoc, length-take-le, take_more}
use Rattle.json_lines.specs.Arrays.{element_behind, elements_behind}

module _ {A : Type 0} (value : A → List ℕ) where
  -- those of two lists, one behind the other
  pub elements_joined : (n : ℕ) (xs ys : List A) → elements_behind value n (xs ++ ys) ≡ elements_behind value n xs ++ elements_behind value (n + length xs) ys
  elements_joined n [] ys = ap (λ m. elements_behind value m ys) (sym (add-zero n))
  elements_joined n (x ∷ xs) ys =
      let next : (n + 1) + length xs ≡ n + suc (length xs) = omega arith in
      ap (λ rest. element_behind value n x ++ rest) (elements_joined (n + 1) xs ys ∙ ap (λ m. elements_behind value (n + 1) xs ++ elements_behind value m ys) next)
      ∙ sym (append_assoc (element_behind value n x) (elements_behind value (n + 1) xs) (elements_behind value (n + suc (length xs)) ys))

  -- one element more
  pub elements_more : (xs : List A) (i : ℕ) (d : A) (old mid new : Option (List ℕ)) → i < length xs →
      Appends old mid (elements_behind value 0 (take i xs)) → Appends mid new (element_behind value i (get_or xs i d)) → Appends old new (elements_behind value 0 (take (i + 1) xs))
  elements_more xs i d old mid new low before one =
      let x = get_or xs i d in
      let inside : i ≤ length xs = omega arith in
      let place : 0 + length (take i xs) ≡ i = omega (arith, length-take-le i xs inside) in
      let last : elements_behind value (0 + length (take i xs)) (x ∷ []) ≡ element_behind value i x
      = append-nil (element_behind value (0 + length (take i xs)) x) ∙ ap (λ n. element_behind value n x) place in
      let more : elements_behind value 0 (take (i + 1) xs) ≡ elements_behind value 0 (take i xs) ++ element_behind value i x
      = ap (elements_behind value 0) (take_more xs i d low) ∙ elements_joined 0 (take i xs) (x ∷ []) ∙ ap (λ l. elements_behind value 0 (take i xs) ++ l) last in
      subst (Appends old new) (sym more) (Appends-trans old mid new (elements_behind value 0 (take i xs)) (element_behind value i x) before one)
