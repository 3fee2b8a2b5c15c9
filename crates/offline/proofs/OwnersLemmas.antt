-- Judging pointers one after the other.
use Rattle.std.proofs.Common.{◌≡◌, ◌≢◌, ℕ, List, [], ◌∷◌, Option, Some, None, Result, Ok, Err, inl, inr, refl, ◌∙◌, ⊎_elim}
use Rattle.offline.specs.Common.{address_fault, addresses_in, cases_eq, CheckFault, Image, IsCause, Judges, JudgesAddress, ne_eqb, or_else, Owners, Pointer, there}

pub or_none : {A : Type 0} (a : Option A) → or_else a None ≡ a
or_none None = refl
or_none (Some a) = refl

-- the address of a pointer alone
pub there_is : (p : Pointer) → there p.address ≡ addresses_in (p ∷ [])
there_is p =
    ⊎_elim (λ (e : p.address ≡ 0). rw e refl) (λ (n : p.address ≢ 0). rw (ne_eqb p.address 0 n) refl) (cases_eq p.address 0)

-- a pointer to a block is judged by its address
pub judged : (y : Image) (i : ℕ) (earlier : List ℕ) (p : Pointer) (new : Owners) (result : Result (Unit {0}) CheckFault) →
    p.address ≢ 0 → JudgesAddress y i earlier p.address new result → Judges y i earlier (p ∷ []) new result
judged y i earlier p new (Ok u) some h =
    let no = ne_eqb p.address 0 some in
    (rw no (or_none (address_fault y i earlier p.address) ∙ h.0), rw no h.1)
judged y i earlier p new (Err fault) some h =
    rw (ne_eqb p.address 0 some) (or_none (address_fault y i earlier p.address) ∙ h)

-- a cause that comes first
pub cause_first : (a b : Option CheckFault) (old new : ℕ) (fault : CheckFault) → IsCause a old new fault → IsCause (or_else a b) old new fault
cause_first a b old new fault (inl here) = inl (rw here refl)
cause_first a b old new fault (inr other) = inr other
