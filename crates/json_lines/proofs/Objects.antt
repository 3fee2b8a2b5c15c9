-- The objects of steps, one after the other.
use Rattle.std.proofs.Common.{◌∙◌, ◌≡◌, ℕ, ◌+◌, ◌<◌, ◌≤◌, suc, List, [], ◌∷◌, ◌++◌, length, get_or, take, Option, sym, ap, subst, arith, add-zero}
use Rattle.std.specs.Io.KnownBytes.{Appends}
use Rattle.std.proofs.KnownBytes.{Appends-trans}
use Rattle.std.proofs.lemmas.List.{append-nil, append_assoc, length-take-le, take_more}
use Rattle.messages.specs.declared.deeds.StepNote.{StepNote}
use Rattle.json_lines.specs.declared.written.Written.{Written}
use Rattle.json_lines.specs.Steps.{objects_from, step_object, step_objects}

-- those of two lists, one behind the other
objects_joined : (n : ℕ) (w : List Written) (k : ℕ) (xs ys : List StepNote) → objects_from n w k (xs ++ ys) ≡ objects_from n w k xs ++ objects_from n w (k + length xs) ys
objects_joined n w k [] ys = ap (λ m. objects_from n w m ys) (sym (add-zero k))
objects_joined n w k (x ∷ xs) ys =
    let next : (k + 1) + length xs ≡ k + suc (length xs) = omega arith in
    ap (λ rest. step_object n w k x ++ rest) (objects_joined n w (k + 1) xs ys ∙ ap (λ m. objects_from n w (k + 1) xs ++ objects_from n w m ys) next)
    ∙ sym (append_assoc (step_object n w k x) (objects_from n w (k + 1) xs) (objects_from n w (k + suc (length xs)) ys))

-- one step's object more
pub objects_more : (n : ℕ) (w : List Written) (notes : List StepNote) (i number : ℕ) (d : StepNote) (old mid new : Option (List ℕ)) → i < length notes → number ≡ i →
    Appends old mid (step_objects n w (take i notes)) → Appends mid new (step_object n w (number + 1) (get_or notes i d)) → Appends old new (step_objects n w (take (i + 1) notes))
objects_more n w notes i number d old mid new low same before one =
    let x = get_or notes i d in
    let inside : i ≤ length notes = omega arith in
    let place : 1 + length (take i notes) ≡ number + 1 = omega (arith, length-take-le i notes inside, same) in
    let last : objects_from n w (1 + length (take i notes)) (x ∷ []) ≡ step_object n w (number + 1) x
    = append-nil (step_object n w (1 + length (take i notes)) x) ∙ ap (λ m. step_object n w m x) place in
    let more : step_objects n w (take (i + 1) notes) ≡ step_objects n w (take i notes) ++ step_object n w (number + 1) x
    = ap (objects_from n w 1) (take_more notes i d low) ∙ objects_joined n w 1 (take i notes) (x ∷ []) ∙ ap (λ l. objects_from n w 1 (take i notes) ++ l) last in
    subst (Appends old new) (sym more) (Appends-trans old mid new (step_objects n w (take i notes)) (step_object n w (number + 1) x) before one)
