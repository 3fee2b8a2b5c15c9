-- A command line, word by word, and what a parse of it says of the command that was met.
use Rattle.std.proofs.Common.{◌≡◌, ◌∙◌, ℕ, List, [], Bool, true, false, ◌||◌, ◌&&◌, Option, Some, None, Ok, Err, refl, sym, ap, ap₂, subst, inl}
use Rattle.std.specs.Prelude.{option_map}
use Rattle.std.proofs.lemmas.Option.{same_Some}
use Rattle.clap.specs.Built.{AddsArg, AddsSubcommand}
use Rattle.clap.specs.Words.{App, FailsBy, HasKind, HasMatchesOf, Row, Rule, fault_of, is_simple, is_simple_and_free, rule_of, subcommand_of, subcommand_rows_of, with_rule, with_subcommand}
use Rattle.clap.specs.declared.builder.arg.Arg.{Arg}
use Rattle.clap.specs.declared.builder.command.Command.{Command}
use Rattle.clap.specs.declared.error.Error.{Error}
use Rattle.clap.specs.declared.parser.matches.ArgMatches.{ArgMatches}
use Rattle.cli.specs.Asking.{Asks, Gives, HasFlag, IsMistakeIn, Wording, mistakes_in}
use Rattle.cli.specs.CommandLine.{HasApp}
use Rattle.cli.specs.Lemmas.Parses.{some_is_not_none}

pub one_word : (app : App) (rule : Rule) (old : Command) (word : Arg) (new : Command) → HasApp app old → rule_of word ≡ rule → word.global ≡ false → AddsArg old word new → HasApp (with_rule app rule) new
one_word app rule old word new has is local adds =
    (adds.shape local ∙ ap₂ with_rule has.0 is, adds.globals ∙ ap₂ (λ (a b : Bool). a || b) has.1 local)

pub one_command : (app sub : App) (old added new : Command) → HasApp app old → HasApp sub added → AddsSubcommand old added new → HasApp (with_subcommand app sub.top) new
one_command app sub old added new has own adds =
    (adds.shape own.1 ∙ ap₂ with_subcommand has.0 (ap (λ (a : App). a.top) own.0), adds.globals ∙ ap₂ (λ (a b : Bool). a || b) has.1 own.1)

of_both : (a b : Bool) → (a && b) ≡ true → a ≡ true
of_both true b both = refl
of_both false b both = absurd (cc both)

-- words that a parse took have no mistake
pub none_mistaken : {Q : Type 0} (wording : Wording Q) (app : App) (words : List (List ℕ)) (m : ArgMatches) → is_simple_and_free wording.app ≡ true → app ≡ wording.app
    → (is_simple_and_free app ≡ true → FailsBy (fault_of app words) (Ok m)) → mistakes_in wording words ≡ []
none_mistaken wording app words m free is fails =
    subst (λ (a : App). fault_of a words ≡ []) is (fails (ap is_simple_and_free is ∙ free))

-- words that a parse refused have the error's kind of mistake
pub mistaken : {Q : Type 0} (wording : Wording Q) (app : App) (words : List (List ℕ)) (e : Error) → is_simple_and_free wording.app ≡ true → app ≡ wording.app
    → (is_simple_and_free app ≡ true → FailsBy {T = ArgMatches} (fault_of app words) (Err e)) → IsMistakeIn wording words e
mistaken wording app words e free is fails =
    inl (subst (λ (a : App). HasKind (fault_of a words) e) is (fails (ap is_simple_and_free is ∙ free)))

-- what is so of the command that a parse met is so of the words'
pub met : {Q : Type 0} (wording : Wording Q) (app : App) (words : List (List ℕ)) (m : ArgMatches) (P : Option (List ℕ × List Row) → Type 0) → is_simple_and_free wording.app ≡ true → app ≡ wording.app
    → HasMatchesOf app words m → P (subcommand_rows_of m) → P (subcommand_of wording.app words)
met wording app words m P free is matches has =
    let simple : is_simple app ≡ true = of_both (is_simple app) _ (ap is_simple_and_free is ∙ free) in
    subst P ((matches simple).1 ∙ ap (λ (a : App). subcommand_of a words) is) has

-- what is so of the name and the values of a command is so of the command that was met
of_command : {B : Type 0} (f : B → List ℕ × List Row) (sub : Option B) (name : List ℕ)
    (rows : List Row) (P : Option (List ℕ × List Row) → Type 0)
    → Some name ≡ option_map (λ b. (f b).0) sub
    → Some rows ≡ option_map (λ p. p.1) (option_map f sub)
    → ((command : List ℕ × List Row) → command.0 ≡ name → command.1 ≡ rows → P (Some command))
    → P (option_map f sub)
of_command f None name rows P named has gives = absurd (some_is_not_none name named)
of_command f (Some b) name rows P named has gives =
    gives (f b) (sym (same_Some name (f b).0 named)) (sym (same_Some rows (f b).1 has))

-- the request of the command that was met
pub asked : {B Q : Type 0} (wording : Wording Q) (f : B → List ℕ × List Row) (sub : Option B) (name : List ℕ) (rows : List Row) (request : Q) → Some name ≡ option_map (λ b. (f b).0) sub
    → Some rows ≡ option_map (λ p. p.1) (option_map f sub) → wording.asks_by name rows request → Asks wording (option_map f sub) request
asked wording f sub name rows request named has asks =
    of_command f sub name rows (λ command. Asks wording command request) named has
    (λ command name_is rows_are. subst (λ n. wording.asks_by n command.1 request) (sym name_is) (subst (λ rs. wording.asks_by name rs request) (sym rows_are) asks))

-- whether the command that was met has a word that may be given
pub gives : {B : Type 0} (f : B → List ℕ × List Row) (sub : Option B) (id name : List ℕ) (rows : List Row) (given : Bool) → Some name ≡ option_map (λ b. (f b).0) sub → Some rows ≡ option_map (λ p. p.1) (option_map f sub)
    → HasFlag id rows given → Gives id (option_map f sub) given
gives f sub id name rows given named has flag =
    of_command f sub name rows (λ command. Gives id command given) named has (λ command name_is rows_are. subst (λ rs. HasFlag id rs given) (sym rows_are) flag)
