use Rattle.std.proofs.Common.{subst}
use Rattle.std.specs.Prelude.{IfOk}
use Rattle.std.proofs.lemmas.Result.{IfOk-weaker}
use Rattle.cli.specs.CommandLine.{HasApp}
use Rattle.cli.proofs.CommandLines.{one_command}
use Rattle.cli.proofs.program.with_command.Goals as goal

pub returns : goal.returns
returns c =
    IfOk-weaker c.subcommand.result _ _ (λ r adds. λ app sub has own. one_command app sub c.args.program c.in_ok-more.field-0 r has (subst (λ m. IfOk m (HasApp sub)) c.in_ok-more.was own) adds) c.subcommand.ensures
