-- What a line gives, by whether it is skipped and in the table.
use Rattle.std.proofs.Common.{◌≡◌, ℕ, ◌<◌, ◌≤◌, ◌&&◌, true, false, not, if◌then◌else◌, List, Option, Some, None, is_none, option_map, refl, ap, ◌∙◌, arith}
use Rattle.std.proofs.lemmas.Bool.Decides.{nat_tests}
use Rattle.scripts.specs.declared.script.ScriptFault.TheVariants.{TooLarge}
use Rattle.scripts.specs.declared.script.Task.{Task}
use Rattle.scripts.specs.Operation.{statement_of}
use Rattle.scripts.specs.Script.{fault_at, is_bad, is_skipped, task_at, task_of}

pub task_at-skipped : (number : ℕ) (line : List ℕ) → is_skipped line ≡ true → task_at (number, line) ≡ None
task_at-skipped number line skipped = ap (λ b. if b then None else task_of number line) skipped

pub good-skipped : (line : List ℕ) → is_skipped line ≡ true → is_bad line ≡ false
good-skipped line skipped = ap (λ b. not b && is_none (statement_of line)) skipped

pub task_at-told : (number : ℕ) (line : List ℕ) (task : Task) → is_skipped line ≡ false → task_of number line ≡ Some task → task_at (number, line) ≡ Some task
task_at-told number line task read told = ap (λ b. if b then None else task_of number line) read ∙ told

has_value : {A B : Type 0} (f : A → B) (o : Option A) (y : B) → option_map f o ≡ Some y → is_none o ≡ false
has_value f (Some x) y e = refl
has_value f None y e = cc

pub good-told : (number : ℕ) (line : List ℕ) (task : Task) → is_skipped line ≡ false → task_of number line ≡ Some task → is_bad line ≡ false
good-told number line task read told =
    ap (λ b. not b && is_none (statement_of line)) read ∙ has_value _ (statement_of line) task told

pub bad-untold : (line : List ℕ) → is_skipped line ≡ false → statement_of line ≡ None → is_bad line ≡ true
bad-untold line read untold =
    ap (λ b. not b && is_none (statement_of line)) read ∙ ap is_none untold

pub fault_at-many : (operations : ℕ) → 10000 < operations → fault_at None operations ≡ Some TooLarge
fault_at-many operations many = grind (arith, nat_tests)

pub fault_at-few : (operations : ℕ) → operations ≤ 10000 → fault_at None operations ≡ None
fault_at-few operations few = grind (arith, nat_tests)
