-- The operations of a script, and its fault.
use Rattle.std.specs.Prelude.{ℕ, ◌+◌, List, [], ◌∷◌, length, Option, Some, None, is_none, option_map, Bool, true, ◌==◌, ◌&&◌, not, nat_lt, if◌then◌else◌}
use Rattle.std.specs.List.{enumerate_from, filter_map, position, slice_split}
use Rattle.scripts.specs.declared.script.ScriptFault.{ScriptFault}
use Rattle.scripts.specs.declared.script.ScriptFault.TheVariants.{BadLine, TooLarge}
use Rattle.scripts.specs.declared.script.Task.{Task}
use Rattle.scripts.specs.Operation.{statement_of}

-- the lines of a text; behind its last line feed there is one more, which is empty where the text
-- ends with a line feed, and so is skipped
abbrev pub lines_of : List ℕ → List (List ℕ)
lines_of text = slice_split (λ byte. byte == 10) text

-- an empty line, and a comment, which begins with `#`
abbrev pub is_skipped : List ℕ → Bool
is_skipped [] = true
is_skipped (first ∷ rest) = first == 35

-- a line that is neither skipped nor in the table
abbrev pub is_bad : List ℕ → Bool
is_bad line = not (is_skipped line) && is_none (statement_of line)

-- the operation of the line of this number, which isn't skipped
abbrev pub task_of : ℕ → List ℕ → Option Task
task_of number line =
    option_map (λ statement.
    record { line = number; pid = statement.0; op = statement.1 }) (statement_of line)

-- the operation of a numbered line, if it has one
abbrev pub task_at : ℕ × List ℕ → Option Task
task_at numbered = if is_skipped numbered.1 then None else task_of numbered.0 numbered.1

-- the operations of a script's lines, in order; lines are counted from 1
abbrev pub tasks_of : List ℕ → List Task
tasks_of text = filter_map task_at (enumerate_from 1 (lines_of text))

-- the fault of a text whose first bad line has this place, from 0, and that has so many operations
abbrev pub fault_at : Option ℕ → ℕ → Option ScriptFault
fault_at (Some place) operations = Some (BadLine (place + 1))
fault_at None operations = if nat_lt 10000 operations then Some TooLarge else None

-- the first bad line, else more than 10,000 operations
abbrev pub fault_in_lines : List ℕ → Option ScriptFault
fault_in_lines text = fault_at (position is_bad (lines_of text)) (length (tasks_of text))

-- why a text is no script: more than 4,194,304 bytes, else the fault of its lines
abbrev pub fault_of : List ℕ → Option ScriptFault
fault_of text = if nat_lt 4194304 (length text) then Some TooLarge else fault_in_lines text
