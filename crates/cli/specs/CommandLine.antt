-- The command line, as clap is told it.
use Rattle.std.specs.Prelude.{◌≡◌, ℕ, List, Result, IfOk, Some, true, false, codes, pos}
use Rattle.clap.specs.Words.{App, Rule, new_app, new_rule, app_of, with_rule, with_subcommand}
use Rattle.clap.specs.declared.builder.command.Command.{Command}
use Rattle.clap.specs.declared.builder.command.Command.TheViews.{out-Command}
use Rattle.clap.specs.declared.builder.action.ArgAction.TheVariants.{SetTrue}
use Rattle.clap.specs.declared.builder.value_parser.ValueParser.TheVariants.{Signed}

-- a word that has to be there
abbrev pub required_rule : List ℕ → Rule
required_rule id = record (new_rule id) { required = true }

-- the same, a number of 32 bits
abbrev pub number_rule : List ℕ → Rule
number_rule id = record (required_rule id) { parser = Some (Signed (pos 0) (pos 4294967295)) }

-- a word `--` that may be given
abbrev pub flag_rule : List ℕ → Rule
flag_rule id = record (new_rule id) { long = Some id; action = Some SetTrue }

-- a command that says more of a refusal where that is asked for
abbrev pub explained : App → App
explained app = with_rule app (flag_rule (codes "explain"))

-- a command whose first word is a path of an image, and which waits for it, or takes no lock, where
-- that is asked for
abbrev pub waiting_app : List ℕ → List ℕ → App
waiting_app name word =
    with_rule (explained (with_rule (with_rule (new_app name) (required_rule word))
    (flag_rule (codes "wait")))) (flag_rule (codes "no-lock"))

-- a command over an image
abbrev pub image_app : List ℕ → App
image_app name = waiting_app name (codes "IMAGE")

-- the same number where it may be left out
abbrev pub choice_rule : List ℕ → Rule
choice_rule id = record (new_rule id) { parser = Some (Signed (pos 0) (pos 4294967295)) }

-- a program of that name, with no command yet
abbrev pub named_app : List ℕ → App
named_app name = record (new_app name) {
  top = record (new_app name).top {
    has_version = true;
    no_binary_name = true;
    subcommand_required = true;
  };
}

-- a command of this shape, whose arguments are its own
abbrev pub HasApp : App → Command → Type 0
HasApp app c = (app_of c ≡ app) × ((out-Command c).has_globals ≡ false)

-- a program that has one more command than another had
abbrev pub HasMore : {E : Type 0} → Command → Result Command E → Command → Type 0
HasMore old more new = (app sub : App) → HasApp app old → IfOk more (HasApp sub)
    → HasApp (with_subcommand app sub.top) new
