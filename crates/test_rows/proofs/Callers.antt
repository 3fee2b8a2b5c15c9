-- A session's callers.
use Rattle.std.proofs.Common.{◌≡◌, ℕ, zero, suc, List, [], ◌∷◌, Some, refl, ap}
use Rattle.std.specs.Prelude.{map, slice_get}
use Rattle.rings.specs.declared.caller.Caller.{Caller}

same : (x y : Caller) → Some (Some x) ≡ Some (Some y) → Some x ≡ Some y
same x y is = cc is

-- where none has finished
pub held_at : (cs : List Caller) (p : ℕ) (c : Caller) → slice_get (map Some cs) p ≡ Some (Some c) → slice_get cs p ≡ Some c
held_at [] p c at = absurd (cc at)
held_at (k ∷ cs) zero c at = same k c at
held_at (k ∷ cs) (suc p) c at = held_at cs p c at
