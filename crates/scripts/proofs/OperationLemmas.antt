-- No row of the table has more than six fields.
use Rattle.std.proofs.Common.{◌≡◌, ℕ, ◌<◌, List, ◌∷◌, length, Option, Some, None, option_and_then, refl, arith}
use Rattle.scripts.specs.Number.{number_up_to}
use Rattle.scripts.specs.Operation.{operation_of, process_and_operation}

none : {A B : Type 0} (f : A → Option B) (o : Option A) → ((x : A) → f x ≡ None) → option_and_then f o ≡ None
none f (Some x) never = never x
none f None never = refl

pub process_and_operation-long : (fields : List (List ℕ)) → 6 < length fields → process_and_operation fields ≡ None
unfolding process_and_operation operation_of
process_and_operation-long (process ∷ verb ∷ a ∷ b ∷ c ∷ d ∷ e ∷ rest) long = none _ (number_up_to 31 process) (λ pid. refl)
process_and_operation-long fields long = absurd (omega arith)
