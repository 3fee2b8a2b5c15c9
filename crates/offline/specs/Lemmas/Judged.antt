-- Judging pointers one list after the other.
use Rattle.std.proofs.Common.{◌≡◌, ℕ, List, [], ◌∷◌, ◌++◌, Some, None, Result, Ok, Err, refl, sym, ap, subst, ◌∙◌}
use Rattle.std.proofs.lemmas.List.{append-nil, append_assoc}
use Rattle.blocks.specs.Disk.{Image}
use Rattle.model.specs.Lemmas.Names.{addresses_in-append}
use Rattle.model.specs.Lemmas.Verdict.{or_else-assoc}
use Rattle.model.specs.Places.{addresses_in}
use Rattle.model.specs.Verdict.{first_pointer_fault, or_else, pointer_fault}
use Rattle.model.specs.declared.types.fault.CheckFault.{CheckFault}
use Rattle.model.specs.declared.types.image.Pointer.{Pointer}
use Rattle.offline.specs.Owners.{Judges, Stand}
use Rattle.offline.specs.declared.owners.Owners.{Owners}

first_pointer_fault-append : (y : Image) (i : ℕ) (earlier : List ℕ) (front back : List Pointer) →
    first_pointer_fault y i earlier (front ++ back)
    ≡ or_else (first_pointer_fault y i earlier front) (first_pointer_fault y i (earlier ++ addresses_in front) back)
first_pointer_fault-append y i earlier [] back = rw (append-nil earlier) refl
first_pointer_fault-append y i earlier (p ∷ front) back =
    let here = earlier ++ addresses_in (p ∷ []) in
    let joined : here ++ addresses_in front ≡ earlier ++ addresses_in (p ∷ front)
    = append_assoc earlier (addresses_in (p ∷ [])) (addresses_in front) ∙ ap (λ r. earlier ++ r) (sym (addresses_in-append (p ∷ []) front)) in
    ap (λ r. or_else (pointer_fault y i earlier p) r)
    (first_pointer_fault-append y i here front back
    ∙ ap (λ e. or_else (first_pointer_fault y i here front) (first_pointer_fault y i e back)) joined)
    ∙ or_else-assoc (pointer_fault y i earlier p) (first_pointer_fault y i here front)
    (first_pointer_fault y i (earlier ++ addresses_in (p ∷ front)) back)

-- without a fault among the first, the judgement of the others is that of both
pub judged_more : (y : Image) (i : ℕ) (earlier : List ℕ) (front back : List Pointer) (new : Owners) (answer : Result (Unit {0}) CheckFault) →
    first_pointer_fault y i earlier front ≡ None → Judges y i (earlier ++ addresses_in front) back new answer →
    Judges y i earlier (front ++ back) new answer
judged_more y i earlier front back new (Ok u) none h =
    let joined : (earlier ++ addresses_in front) ++ addresses_in back ≡ earlier ++ addresses_in (front ++ back)
    = append_assoc earlier (addresses_in front) (addresses_in back) ∙ ap (λ r. earlier ++ r) (sym (addresses_in-append front back)) in
    (first_pointer_fault-append y i earlier front back ∙ rw none h.0, subst (Stand new y) joined h.1)
judged_more y i earlier front back new (Err fault) none h = first_pointer_fault-append y i earlier front back ∙ rw none h

-- a fault among the first is the first fault
pub fault_early : (y : Image) (i : ℕ) (earlier : List ℕ) (front back : List Pointer) (fault : CheckFault) →
    first_pointer_fault y i earlier front ≡ Some fault → first_pointer_fault y i earlier (front ++ back) ≡ Some fault
fault_early y i earlier front back fault h = first_pointer_fault-append y i earlier front back ∙ rw h refl
