-- Images that were recovered.
use Rattle.std.proofs.Common.{◌≡◌, ◌≢◌, ◌∙◌, ℕ, false, Some, None, sym, subst, ap}
use Rattle.blocks.specs.Disk.{Image}
use Rattle.blocks.specs.declared.disk.Disk.{Ghosts}
use Rattle.model.specs.Log.{recovered}
use Rattle.model.specs.Verdict.{verdict}
use Rattle.model.specs.declared.types.fault.CheckFault.{CheckFault}
use Rattle.model.specs.declared.types.fault.CheckFault.TheVariants as check
use Rattle.model.specs.Lemmas.Log.{recovered_empty}
use Rattle.model.specs.Lemmas.Soundness.{verdict_sound}
use Rattle.opening.specs.Lemmas.Recovered.{recovered_verdict}
use Rattle.opening.specs.Recoveries.{IsRecovered}
use Rattle.kernel.specs.declared.types.OpenFault.TheVariants.{Check}
use Rattle.crash_check.specs.Images.{is_want_of_memory}

-- what was recovered twice is as after the first time, and nothing was copied the second time
pub twice : {D N : Type 0} (disk : Ghosts D N) (a b c : D) (m n : ℕ) → IsRecovered disk m a b → IsRecovered disk n b c → (n ≡ 0) × (disk.image c ≡ recovered (disk.image a))
twice disk a b c m n one two = (two.count ∙ one.none, two.image ∙ recovered_empty (disk.image b) one.none ∙ one.image)

-- it can be recovered again
pub again : {D N : Type 0} (disk : Ghosts D N) (a b : D) (m : ℕ) → IsRecovered disk m a b → verdict (disk.image b) ≡ None
again disk a b m one = ap verdict one.image ∙ recovered_verdict (disk.image a) one.sound

-- what is known of one recovery is known of the next
pub once : (x : Image) → verdict x ≡ None → recovered (recovered x) ≡ recovered x
once x none = recovered_empty (recovered x) (verdict_sound x none).2.empty_log

-- it is another fault than that memory was refused
pub not_memory : (fault : CheckFault) → is_want_of_memory (Check fault) ≡ false → fault ≢ check.NoMemory
not_memory fault other is = absurd (cc (subst (λ f. is_want_of_memory (Check f) ≡ false) is other))

-- a sound image that was recovered has no fault
pub no_fault : (x y : Image) (fault : CheckFault) → y ≡ recovered x → verdict y ≡ Some fault → ¬ (verdict x ≡ None)
no_fault x y fault is has none = absurd (cc (sym has ∙ ap verdict is ∙ recovered_verdict x none))
