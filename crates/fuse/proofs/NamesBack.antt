-- Names that were written are read again.
use Rattle.std.proofs.Common.{◌≡◌, ◌≢◌, ◌∙◌, ℕ, zero, suc, ◌+◌, ◌<◌, ◌≤◌, eqb, cond, List, [], ◌∷◌, ◌++◌, length, take, drop, get_or, Option, None, Some, refl, ap, ap₂, arith}
use Rattle.std.specs.Prelude.{position, option_map, ◌==◌}
use Rattle.std.specs.List.{position_or_len}
use Rattle.std.proofs.lemmas.Bool.{cond-false, le-ltb, lt-ltb, ne_eqb}
use Rattle.std.proofs.lemmas.List.{get_or_append_left, length-append}
use Rattle.std.proofs.lemmas.List.Sums.{position_or_len_is}
use Rattle.std.proofs.Math.Seq.{drop-append-add, get_or-append_seam, take-append_seam}
use Rattle.fuse.specs.Requests.{name_and_rest, name_at, names_at, second_of}
use Rattle.fuse.specs.Spellings.{ended}
use Rattle.fuse.specs.Laws.{IsText}

not_zero : (name : List ℕ) (k : ℕ) → IsText name → k < length name → get_or name k 0 ≢ 0
not_zero [] k text inside = absurd (omega arith)
not_zero (b ∷ bs) zero text inside = text.0
not_zero (b ∷ bs) (suc k) text inside = not_zero bs k text.1 (omega arith)

first_zero : (name rest : List ℕ) → IsText name → position_or_len (λ byte. byte == 0) (ended name rest) ≡ length name
first_zero name rest text =
    position_or_len_is (λ byte. byte == 0) (ended name rest) (length name) 0 (omega (arith, length-append name (0 ∷ rest)))
    (λ k inside. ap (λ (b : ℕ). eqb b 0) (get_or_append_left name (0 ∷ rest) 0 k inside) ∙ ne_eqb (get_or name k 0) 0 (not_zero name k text inside))
    (λ inside. ap (λ (b : ℕ). eqb b 0) (get_or-append_seam name 0 rest 0))

found : (name rest : List ℕ) → IsText name → position (λ byte. byte == 0) (ended name rest) ≡ Some (length name)
found name rest text =
    let inside : length name < length (ended name rest) = omega (arith, length-append name (0 ∷ rest)) in
    rw (first_zero name rest text, lt-ltb (length name) (length (ended name rest)) inside) refl

-- a name and what stands behind it
pub name_ended : (name rest : List ℕ) → IsText name → name_and_rest (ended name rest) ≡ Some (name, rest)
unfolding name_and_rest
name_ended name rest text =
    let bytes : List ℕ = ended name rest in
    ap (λ (place : Option ℕ). option_map (λ (end : ℕ). (take end bytes, drop (end + 1) bytes)) place) (found name rest text)
    ∙ ap₂ (λ (front back : List ℕ). Some (front, back)) (take-append_seam name (0 ∷ rest)) (drop-append-add name (0 ∷ rest) 1)

-- one behind other fields
pub name_read : (body name rest : List ℕ) (at : ℕ) → at ≤ length body → drop at body ≡ ended name rest → IsText name →
    name_at body at ≡ Some name
unfolding name_at
name_read body name rest at long is text =
    let bytes : List ℕ = drop at body in
    cond-false _ None (option_map (λ both. both.0) (name_and_rest bytes)) (le-ltb (length body) at long)
    ∙ ap (λ (l : List ℕ). option_map (λ (both : List ℕ × List ℕ). both.0) (name_and_rest l)) is
    ∙ ap (λ (o : Option (List ℕ × List ℕ)). option_map (λ (both : List ℕ × List ℕ). both.0) o) (name_ended name rest text)

-- two of them
pub names_read : (body old name rest : List ℕ) (at : ℕ) → at ≤ length body → drop at body ≡ ended old (ended name rest) →
    IsText old → IsText name → names_at body at ≡ Some (old, name)
unfolding names_at
names_read body old name rest at long is first second =
    cond-false _ None (second_of (name_and_rest (drop at body))) (le-ltb (length body) at long)
    ∙ ap (λ (l : List ℕ). second_of (name_and_rest l)) is
    ∙ ap second_of (name_ended old (ended name rest) first)
    ∙ ap (λ (o : Option (List ℕ × List ℕ)). option_map (λ (both : List ℕ × List ℕ). (old, both.0)) o) (name_ended name rest second)
