-- What the words of a command line ask a program for.
use Rattle.std.specs.Prelude.{◌≡◌, ◌⊎◌, ◌<◌, ◌^◌, ℕ, List, [], Bool, true, false, Option, Some, None, codes}
use Rattle.std.specs.Str.Parse.{IsNumeral, digits_value, without_leading_plus}
use Rattle.clap.specs.Words.{App, HasKind, Kinds, Row, fault_of, kind_of, one_of, subcommand_of}
use Rattle.clap.specs.declared.error.Error.{Error}
use Rattle.clap.specs.declared.error.kind.ErrorKind.TheVariants as kind
use Rattle.cli.specs.declared.asking.Asked.{Asked}

-- a program's words: its command line, as clap is told it, and what a command of a name, with some
-- values, asks for
pub record Wording (Q : Type 0) : Type 1 where
  pub app : App
  pub asks_by : List ℕ → List Row → Q → Type 0

-- a word that may be given is there, or isn't
pub record HasFlag (id : List ℕ) (rows : List Row) (given : Bool) : Type 0 where
  pub set : one_of id rows ≡ Some (codes "true") → given ≡ true
  pub unset : one_of id rows ≡ Some (codes "false") → given ≡ false
  pub none : one_of id rows ≡ None → given ≡ false

-- a text writes this number, below 2 ^ bits: in decimal digits, behind a plus or not
pub record WritesNumber (bits : ℕ) (text : List ℕ) (n : ℕ) : Type 0 where
  pub numeral : IsNumeral 10 (without_leading_plus text)
  pub value : n ≡ digits_value 10 (without_leading_plus text)
  pub fits : n < 2 ^ bits

-- a word is there, and writes this number
pub record HasNumber (bits : ℕ) (id : List ℕ) (rows : List Row) (n : ℕ) : Type 0 where
  pub text : List ℕ
  pub word : one_of id rows ≡ Some text
  pub number : WritesNumber bits text n

-- a number that may be left out is there where its word is and writes it, and only there
abbrev pub HasChoice : ℕ → List ℕ → List Row → Option ℕ → Type 0
HasChoice bits id rows (Some n) = HasNumber bits id rows n
HasChoice bits id rows None = (n : ℕ) → ¬ (HasNumber bits id rows n)

-- the command that was met asks for the request
abbrev pub Asks : {Q : Type 0} → Wording Q → Option (List ℕ × List Row) → Q → Type 0
Asks wording None request = ⊥
Asks wording (Some command) request = wording.asks_by command.0 command.1 request

-- a command has the word of this name that may be given, or hasn't
abbrev pub Gives : List ℕ → Option (List ℕ × List Row) → Bool → Type 0
Gives id None given = ⊥
Gives id (Some command) given = HasFlag id command.1 given

-- the kinds of mistake in these words, and of answers about the program; none where they make a
-- command
abbrev pub mistakes_in : {Q : Type 0} → Wording Q → List (List ℕ) → Kinds
mistakes_in wording words = fault_of wording.app words

-- the words make a command, which asks for the request
pub record AskFor {Q : Type 0} (wording : Wording Q) (words : List (List ℕ))
    (request : Q) : Type 0 where
  pub right : mistakes_in wording words ≡ []
  pub asks : Asks wording (subcommand_of wording.app words) request

-- the words ask for a command that waits while another program has the image, or doesn't
abbrev pub AskToWait : {Q : Type 0} → Wording Q → List (List ℕ) → Bool → Type 0
AskToWait wording words wait = Gives (codes "wait") (subcommand_of wording.app words) wait

-- the words ask for a command that says more of a refusal, or doesn't
abbrev pub AskToExplain : {Q : Type 0} → Wording Q → List (List ℕ) → Bool → Type 0
AskToExplain wording words explain =
    Gives (codes "explain") (subcommand_of wording.app words) explain

-- the words ask for a command that takes no lock of the image, or takes one
abbrev pub AskForNoLock : {Q : Type 0} → Wording Q → List (List ℕ) → Bool → Type 0
AskForNoLock wording words no_lock =
    Gives (codes "no-lock") (subcommand_of wording.app words) no_lock

-- the words ask for this, and how it is done
pub record IsAsked {Q : Type 0} (wording : Wording Q) (words : List (List ℕ))
    (asked : Asked Q) : Type 0 where
  pub request : AskFor wording words asked.request
  pub wait : AskToWait wording words asked.wait
  pub explain : AskToExplain wording words asked.explain
  pub no_lock : AskForNoLock wording words asked.no_lock

-- the error is a mistake in the words, or that memory was refused
abbrev pub IsMistakeIn : {Q : Type 0} → Wording Q → List (List ℕ) → Error → Type 0
IsMistakeIn wording words e =
    HasKind (mistakes_in wording words) e ⊎ (kind_of e ≡ kind.MissingSubcommand)
