-- What is told of words that ask for no command.
use Rattle.std.specs.Prelude.{◌≡◌, ◌≢◌, ◌⊎◌, ⊤, ℕ, List, codes, string_bytes}
use Rattle.clap.specs.Words.{IsAmong}
use Rattle.clap.specs.declared.error.kind.ErrorKind.{ErrorKind}
use Rattle.clap.specs.declared.error.kind.ErrorKind.TheVariants.{DisplayHelp, DisplayVersion, MissingSubcommand, OutOfMemory}
use Rattle.cli.specs.Asking.{Wording, mistakes_in}
use Rattle.cli.specs.Wrapping.{marks_of}
use Rattle.cli.specs.declared.explanation.Explanation.{Explanation}
use Rattle.cli.specs.declared.explanation.Explanation.TheVariants.{Help, Mistake, NoMemory}

-- what clap tells is no mistake: it is the text of help or of the version
abbrev pub IsHelp : ErrorKind → Type 0
IsHelp k = (k ≡ DisplayHelp) ⊎ (k ≡ DisplayVersion)

-- what an error of clap's of this kind is told as; memory may be refused for each text
abbrev pub IsOfKind : ErrorKind → Explanation → Type 0
IsOfKind k (Help text) = IsHelp k
IsOfKind k (Mistake text) = (k ≢ OutOfMemory) × (¬ (IsHelp k))
IsOfKind k NoMemory = ⊤

-- a text of help is told in other lines, unless memory is refused: it has the same marks
abbrev pub IsLaidOut : List ℕ → Explanation → Type 0
IsLaidOut text (Help laid) = marks_of (string_bytes laid) ≡ marks_of text
IsLaidOut text (Mistake told) = ⊥
IsLaidOut text NoMemory = ⊤

-- the words ask for help or for the version
pub record AskForHelp {Q : Type 0} (wording : Wording Q) (words : List (List ℕ)) : Type 0 where
  pub kind : ErrorKind
  pub among : IsAmong kind (mistakes_in wording words)
  pub help : IsHelp kind

-- something is wrong with the words
pub record AreMistaken {Q : Type 0} (wording : Wording Q) (words : List (List ℕ)) : Type 0 where
  pub kind : ErrorKind
  pub among : IsAmong kind (mistakes_in wording words) ⊎ (kind ≡ MissingSubcommand)
  pub wrong : ¬ (IsHelp kind)

-- the words ask for no command, or memory was refused, and this is told of them
abbrev pub IsToldOf : {Q : Type 0} → Wording Q → List (List ℕ) → Explanation → Type 0
IsToldOf wording words (Help text) = AskForHelp wording words
IsToldOf wording words (Mistake text) = AreMistaken wording words
IsToldOf wording words NoMemory = ⊤

-- what is printed of it; the text of help or of a mistake is clap's
abbrev pub explanation_text : Explanation → List ℕ
explanation_text (Help text) = string_bytes text
explanation_text (Mistake text) = string_bytes text
explanation_text NoMemory = codes "error: out of memory\n"
