-- Why a function that was called ended early, as its caller passes it on.
use Rattle.std.proofs.Common.{◌≡◌, ℕ, Ok, Err, subst, sym, arith}
use Rattle.std.specs.Prelude.{Result}
use Rattle.std.specs.Result.{IsErrAnd}
use Rattle.blocks.specs.Disk.{Rose, one_more}
use Rattle.inspect.specs.Gathering.{IsGatherCause, KeepsCount}
use Rattle.inspect.specs.declared.fault.GatherFault.{GatherFault}
use Rattle.inspect.specs.declared.fault.GatherFault.TheVariants.{Disk}

-- behind calls that kept the count of the disk's faults
pub passed_on : {T : Type 0} (r : Result T GatherFault) (e : GatherFault) (old mid new : ℕ) → IsErrAnd r (λ f. f ≡ e) → mid ≡ old → IsGatherCause mid new e → KeepsCount r old new
passed_on (Ok _) e old mid new is same cause = absurd is
passed_on (Err f) e old mid new is same cause = subst (λ (g : GatherFault). IsGatherCause old new g) (sym is) (subst (λ (c : ℕ). IsGatherCause c new e) same cause)

-- a read that failed
pub failed_on : {T : Type 0} (r : Result T GatherFault) (old mid new : ℕ) → IsErrAnd r (λ f. f ≡ Disk) → mid ≡ old → new ≡ one_more mid → KeepsCount r old new
failed_on r old mid new is same more = passed_on r Disk old mid new is same (rose mid new more)
  where
    rose : (a b : ℕ) → b ≡ one_more a → Rose a b
    rose a b e = omega (arith, e)
