-- The processes of a script's operations are below 32.
use Rattle.std.proofs.Common.{◌≡◌, ℕ, ◌+◌, ◌<◌, ◌≤◌, Bool, true, false, List, [], ◌∷◌, Option, Some, None, All, nat_le, if◌then◌else◌, option_and_then, option_map, refl, sym, ap, ◌∙◌, inl, inr, arith}
use Rattle.std.proofs.lemmas.Bool.{cases_Bool}
use Rattle.std.proofs.lemmas.Bool.Decides.{nat_tests}
use Rattle.std.proofs.lemmas.List.Elements.{All-cons}
use Rattle.std.specs.List.{cons_option, enumerate_from, filter_map}
use Rattle.model.specs.declared.types.operations.Op.{Op}
use Rattle.scripts.proofs.LineLemmas.{task_at-skipped}
use Rattle.scripts.specs.declared.script.Task.{Task}
use Rattle.scripts.specs.Number.{if_at_most, number_of, number_up_to}
use Rattle.scripts.specs.Operation.{fields_of, operation_of, process_and_operation, statement_of}
use Rattle.scripts.specs.Script.{is_skipped, task_at, task_of}

chosen : (b : Bool) (value pid : ℕ) → (b ≡ true → value ≤ 31) → (if b then Some value else None) ≡ Some pid → pid < 32
chosen true value pid small e =
    let same : value ≡ pid = cc in
    let bound = small refl in
    omega arith
chosen false value pid small e = cc

below : (o : Option ℕ) (pid : ℕ) → if_at_most 31 o ≡ Some pid → pid < 32
below None pid e = cc
below (Some value) pid e = chosen (nat_le value 31) value pid (λ small. grind (arith, nat_tests)) e

first : (o : Option ℕ) (op : Option Op) (statement : ℕ × Op) → option_and_then (λ pid. option_and_then (λ op. Some (pid, op)) op) o ≡ Some statement → o ≡ Some statement.0
first None op statement e = cc
first (Some pid) None statement e = cc
first (Some pid) (Some op) statement e = ap (option_map (λ s. s.0)) e

statement-below : (fields : List (List ℕ)) (statement : ℕ × Op) → process_and_operation fields ≡ Some statement → statement.0 < 32
unfolding process_and_operation
statement-below [] statement e = cc
statement-below (process ∷ fields) statement e =
    below (number_of process) statement.0 (first (number_up_to 31 process) (operation_of fields) statement e)

numbered : (line : ℕ) (o : Option (ℕ × Op)) (task : Task) → ((statement : ℕ × Op) → o ≡ Some statement → statement.0 < 32) → option_map (λ statement. record { line = line; pid = statement.0; op = statement.1 }) o ≡ Some task → task.pid < 32
numbered line None task small e = cc
numbered line (Some statement) task small e =
    let pid : Some statement.0 ≡ Some task.pid = ap (option_map (λ t. t.pid)) e in
    let same : statement.0 ≡ task.pid = cc in
    let bound = small statement refl in
    omega arith

task-below : (line : ℕ) (bytes : List ℕ) (task : Task) → task_at (line, bytes) ≡ Some task → task.pid < 32
task-below line bytes task e = elim (cases_Bool (is_skipped bytes)) [
  | inl skipped ↦ let none : None ≡ Some task = sym (task_at-skipped line bytes skipped) ∙ e in cc
  | inr read ↦
      numbered line (statement_of bytes) task (statement-below (fields_of bytes)) (sym (ap (λ b. if b then None else task_of line bytes) read) ∙ e)
]

All-cons_option : (o : Option Task) (tasks : List Task) → ((task : Task) → o ≡ Some task → task.pid < 32) → All (λ task. task.pid < 32) tasks → All (λ task. task.pid < 32) (cons_option o tasks)
All-cons_option None tasks one all = all
All-cons_option (Some task) tasks one all = All-cons (λ told. told.pid < 32) task tasks (one task refl) all

pub All-below : (n : ℕ) (lines : List (List ℕ)) → All (λ task. task.pid < 32) (filter_map task_at (enumerate_from n lines))
All-below n [] = λ k d within. absurd (omega arith)
All-below n (line ∷ lines) =
    All-cons_option (task_at (n, line)) _ (task-below n line) (All-below (n + 1) lines)
