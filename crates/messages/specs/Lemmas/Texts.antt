-- Texts that are printed piece by piece.
use Rattle.std.proofs.Common.{◌∙◌, ◌≡◌, ℕ, ◌+◌, ◌<◌, List, [], ◌∷◌, ◌++◌, length, get_or, take, Option, sym, ap, subst}
use Rattle.std.specs.List.{flat_map, range_with_len}
use Rattle.std.specs.Io.KnownBytes.{Appends}
use Rattle.std.proofs.KnownBytes.{Appends-trans}
use Rattle.std.proofs.lemmas.List.{append-nil, take_more}
use Rattle.std.proofs.lemmas.List.Concat.{flat_map-append}
use Rattle.model.specs.Lemmas.Steps.{flat_mapped_more}

-- one element's text more
pub printed_more : {X : Type 0} (text : X → List ℕ) (xs : List X) (k : ℕ) (d : X) (old mid new : Option (List ℕ)) → k < length xs →
    Appends old mid (flat_map text (take k xs)) → Appends mid new (text (get_or xs k d)) → Appends old new (flat_map text (take (k + 1) xs))
printed_more text xs k d old mid new low before piece =
    let x = get_or xs k d in
    let more : flat_map text (take (k + 1) xs) ≡ flat_map text (take k xs) ++ text x
    = ap (flat_map text) (take_more xs k d low)
    ∙ flat_map-append text (take k xs) (x ∷ []) ∙ ap (λ l. flat_map text (take k xs) ++ l) (append-nil (text x)) in
    subst (Appends old new) (sym more) (Appends-trans old mid new (flat_map text (take k xs)) (text x) before piece)

-- one number's text more
pub numbered_more : (text : ℕ → List ℕ) (k : ℕ) (old mid new : Option (List ℕ)) →
    Appends old mid (flat_map text (range_with_len 0 k)) → Appends mid new (text k) → Appends old new (flat_map text (range_with_len 0 (k + 1)))
numbered_more text k old mid new before piece =
    subst (Appends old new) (sym (flat_mapped_more text k)) (Appends-trans old mid new (flat_map text (range_with_len 0 k)) (text k) before piece)
