-- What became of the words that a program was given.
use Rattle.std.specs.Prelude.{◌⊎◌, ⊤, ℕ, List, Option}
use Rattle.cli.specs.Asking.{AskFor, Wording}
use Rattle.cli.specs.Told.{AskForHelp, IsToldOf}
use Rattle.cli.specs.declared.explanation.Explanation.{Explanation}
use Rattle.cli.specs.declared.explanation.Explanation.TheVariants.{Help, Mistake, NoMemory}
use Rattle.messages.specs.declared.told.Unwritten.{Unwritten}

-- A request of the words was done and answered, as `Answers` says of the request; what is printed of
-- help is clap's.
abbrev pub IsDoneOf : {Q : Type 0} → Wording Q
    → (Q → Option (List ℕ) → Option (List ℕ) → Type 0) → List (List ℕ) → Option (List ℕ)
    → Option (List ℕ) → Type 0
IsDoneOf {Q} wording Answers words old new =
    ((request : Q) × AskFor wording words request × Answers request old new)
    ⊎ AskForHelp wording words

-- a request of the words was refused, as `Refused` says; or help was asked for, and the output refused
-- its text
abbrev pub IsRefusedOf : {Q : Type 0} → Wording Q
    → (Q → Option (List ℕ) → Option (List ℕ) → Type 0 → Type 0) → List (List ℕ)
    → Option (List ℕ) → Option (List ℕ) → Type 0 → Type 0
IsRefusedOf {Q} wording Refused words old new none =
    ((request : Q) × AskFor wording words request × Refused request old new none)
    ⊎ ((r : Unwritten) × AskForHelp wording words)

-- it is an answer: the text of help or of the version
abbrev pub IsHelp : Explanation → Type 0
IsHelp (Help _) = ⊤
IsHelp (Mistake _) = ⊥
IsHelp NoMemory = ⊥

-- the words make no command, and this is told of them; `none` says that nothing was printed
abbrev pub IsMisused : {Q : Type 0} → Wording Q → List (List ℕ) → Type 0 → Explanation → Type 0
IsMisused wording words none e = none × IsToldOf wording words e × (¬ (IsHelp e))

-- the command of the words ended without being done: it was refused, as `Refused` says of the words,
-- or they make none
abbrev pub IsNotDone : {Q : Type 0} → Wording Q
    → (List (List ℕ) → Option (List ℕ) → Option (List ℕ) → Type 0 → Type 0) → List (List ℕ)
    → Option (List ℕ) → Option (List ℕ) → Type 0 → Type 0
IsNotDone wording Refused words old new none = Refused words old new none
    ⊎ ((e : Explanation) × IsMisused wording words none e)
