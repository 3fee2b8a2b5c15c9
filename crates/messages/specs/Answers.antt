-- The lines of a run: the answers of its processes, and what became of their operations.
use Rattle.std.specs.Prelude.{ℕ, List, ◌++◌, codes, decimal}
use Rattle.model.specs.declared.types.operations.Answer.{Answer}
use Rattle.messages.specs.Events.{reply_text}

-- the line of an answer of process p
abbrev pub answer_line : ℕ → Answer → List ℕ
answer_line p a =
    decimal p ++ codes " " ++ decimal a.seq ++ codes " " ++ reply_text a.reply ++ codes "\n"

-- how many operations of a process were left, and how many are kept
abbrev pub rest_line : ℕ → ℕ → List ℕ
rest_line left kept =
    codes "left " ++ decimal left ++ codes " kept " ++ decimal kept ++ codes "\n"

-- the line of what became of the operations of process p
abbrev pub account_line : ℕ → ℕ → ℕ → ℕ → ℕ → List ℕ
account_line p submitted begun left kept =
    decimal p ++ codes " submitted " ++ decimal submitted ++ codes " begun " ++ decimal begun
    ++ codes " " ++ rest_line left kept
