-- Commands that were done one after the other.
use Rattle.std.proofs.Common.{◌≡◌, ℕ, suc, ◌<◌, ◌∙◌, List, [], ◌∷◌, ◌++◌, length, map, take, drop, get_or, drop-cons, Option, ap, refl, sym, subst}
use Rattle.std.proofs.lemmas.List.{map-append, take-append-drop}
use Rattle.cmd.specs.Batches.{AreDone, StopsAmong}

module _ (Done : List (List ℕ) → Option (List ℕ) → Option (List ℕ) → Type 0) where
  -- one more at the end
  pub one_more_done : (lines : List (List (List ℕ))) (words : List (List ℕ))
      (a b c : Option (List ℕ)) → AreDone Done lines a b → Done words b c
      → AreDone Done (lines ++ words ∷ []) a c
  one_more_done [] words a b c is done =
      (c, subst (λ (o : Option (List ℕ)). Done words o c) is done, refl)
  one_more_done (line ∷ lines) words a b c is done =
      (is.0, is.1, one_more_done lines words is.0 b c is.2 done)

  -- the command of line i was not done, and those before it were
  pub stops_here : (Undone : List (List ℕ) → Option (List ℕ) → Option (List ℕ) → Type 0 → Type 0)
      {X O : Type 0} (contents : O → Option (List ℕ)) (f : X → List (List ℕ)) (xs : List X) (i : ℕ)
      (d : X) (old mid new : O) → i < length xs
      → AreDone Done (map f (take i xs)) (contents old) (contents mid)
      → Undone (f (get_or xs i d)) (contents mid) (contents new) (new ≡ mid)
      → StopsAmong Done Undone contents (map f xs) old new
  stops_here Undone contents f xs i d old mid new within done fails = record {
    before = map f (take i xs);
    words = f (get_or xs i d);
    after = map f (drop (suc i) xs);
    mid = mid;
    split = ap (map f) (sym (take-append-drop i xs))
        ∙ ap (λ rest. map f (take i xs ++ rest)) (drop-cons xs i d within)
        ∙ map-append f (take i xs) (get_or xs i d ∷ drop (suc i) xs);
    done = done;
    fails = fails;
  }
