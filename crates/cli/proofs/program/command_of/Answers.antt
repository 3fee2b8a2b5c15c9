use Rattle.std.proofs.Common.{rules, Option, subst, sym}
use Rattle.std.proofs.lemmas.Result.{IfOk-weaker}
use Rattle.clap.specs.Words.{new_app}
use Rattle.cli.specs.CommandLine.{HasApp}
use Rattle.cli.specs.Table.{with_image, with_words}
use Rattle.cli.specs.declared.table.Word.{Word}
use Rattle.cli.proofs.program.command_of.Goals as goal

pub returns-in_ok-command-in-Some : goal.returns-in_ok-command-in-Some
returns-in_ok-command-in-Some c =
    let app = new_app c.args.line.name.now in
    let bare : HasApp app c.after_help-command.result = search rules in
    let begun = c.in_ok-command-in-Some.ensures app bare in
    IfOk-weaker c.with_words-in-Some.result _ _ (λ r has. subst (λ (image : Option Word). HasApp (with_words (with_image app image) c.args.line.words.now) r) (sym c.in-Some.is) (has _ begun)) c.with_words-in-Some.ensures
