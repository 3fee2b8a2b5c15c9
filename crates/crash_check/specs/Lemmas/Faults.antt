-- What is known of a fault.
use Rattle.std.proofs.Common.{◌≡◌, Ok, Err, subst, sym}
use Rattle.std.specs.Prelude.{IfErr, Result}
use Rattle.std.specs.Result.{IsErrAnd}
use Rattle.crash_check.specs.Mismatches.{OnMismatch, met_at}
use Rattle.crash_check.specs.declared.fault.StopsFault.{StopsFault}
use Rattle.crash_check.specs.declared.fault.StopsFault.TheVariants.{Mismatch, NoMemory}
use Rattle.crash_check.specs.declared.mismatch.Mismatch.{Mismatch as SomeMismatch}
use Rattle.crash_check.specs.declared.mismatch.Stop.{Stop}

-- what follows from what a mismatch tells
pub OnMismatch-weaker : (f : StopsFault) (P Q : SomeMismatch → Type 0) → ((m : SomeMismatch) → P m → Q m) → OnMismatch f P → OnMismatch f Q
OnMismatch-weaker (Mismatch m) P Q follows is = follows m is
OnMismatch-weaker NoMemory P Q follows is = tt

-- what follows of a fault that is told to be met somewhere
pub OnMismatch-met : (stop : Stop) (f g : StopsFault) (P Q : SomeMismatch → Type 0) → g ≡ met_at stop f → ((m : SomeMismatch) → P m → Q (record m { stop = stop })) → OnMismatch f P → OnMismatch g Q
OnMismatch-met stop (Mismatch m) g P Q met follows is = subst (λ f. OnMismatch f Q) (sym met) (follows m is)
OnMismatch-met stop NoMemory g P Q met follows is = subst (λ f. OnMismatch f Q) (sym met) tt

-- a fault that is passed on tells what it told
pub passed_on : {T : Type 0} (r : Result T StopsFault) (f : StopsFault) (P : SomeMismatch → Type 0) → IsErrAnd r (λ e. e ≡ f) → OnMismatch f P → IfErr r (λ e. OnMismatch e P)
passed_on (Ok _) f P same is = tt
passed_on (Err e) f P same is = subst (λ f. OnMismatch f P) (sym same) is
