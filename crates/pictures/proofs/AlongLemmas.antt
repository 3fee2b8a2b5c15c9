-- What is drawn along the steps of a run, step by step.
use Rattle.std.proofs.Common.{◌∙◌, ◌≡◌, ℕ, ◌+◌, ◌<◌, List, [], ◌∷◌, ◌++◌, length, get_or, take, Option, refl, sym, ap, subst}
use Rattle.std.specs.Io.KnownBytes.{Appends}
use Rattle.std.proofs.KnownBytes.{Appends-trans}
use Rattle.std.proofs.lemmas.List.{append-nil, append_assoc, take_more}
use Rattle.pictures.specs.Along.{left_along, pieces_along}

-- what two lists of steps leave, one behind the other
left_joined : {S M : Type 0} (next : S → M → S) (s : S) (xs ys : List M) →
    left_along next s (xs ++ ys) ≡ left_along next (left_along next s xs) ys
left_joined next s [] ys = refl
left_joined next s (x ∷ xs) ys = left_joined next (next s x) xs ys

pieces_joined : {S M : Type 0} (piece : S → M → List ℕ) (next : S → M → S) (s : S) (xs ys : List M) →
    pieces_along piece next s (xs ++ ys) ≡ pieces_along piece next s xs ++ pieces_along piece next (left_along next s xs) ys
pieces_joined piece next s [] ys = refl
pieces_joined piece next s (x ∷ xs) ys =
    ap (λ rest. piece s x ++ rest) (pieces_joined piece next (next s x) xs ys)
    ∙ sym (append_assoc (piece s x) (pieces_along piece next (next s x) xs) _)

-- one step more
pub left_more : {S M : Type 0} (next : S → M → S) (s now : S) (ms : List M) (k : ℕ) (d : M) → k < length ms →
    now ≡ left_along next s (take k ms) → next now (get_or ms k d) ≡ left_along next s (take (k + 1) ms)
left_more next s now ms k d low is =
    ap (λ t. next t (get_or ms k d)) is
    ∙ sym (ap (left_along next s) (take_more ms k d low) ∙ left_joined next s (take k ms) (get_or ms k d ∷ []))

pub pieces_more : {S M : Type 0} (piece : S → M → List ℕ) (next : S → M → S) (s now : S) (ms : List M) (k : ℕ) (d : M) (old mid new : Option (List ℕ)) → k < length ms →
    now ≡ left_along next s (take k ms) → Appends old mid (pieces_along piece next s (take k ms)) → Appends mid new (piece now (get_or ms k d)) →
    Appends old new (pieces_along piece next s (take (k + 1) ms))
pieces_more piece next s now ms k d old mid new low is before one =
    let x = get_or ms k d in
    let more : pieces_along piece next s (take (k + 1) ms) ≡ pieces_along piece next s (take k ms) ++ piece now x
    = ap (pieces_along piece next s) (take_more ms k d low)
    ∙ pieces_joined piece next s (take k ms) (x ∷ [])
    ∙ ap (λ l. pieces_along piece next s (take k ms) ++ l) (append-nil (piece (left_along next s (take k ms)) x) ∙ ap (λ t. piece t x) (sym is)) in
    subst (Appends old new) (sym more) (Appends-trans old mid new (pieces_along piece next s (take k ms)) (piece now x) before one)
