use Rattle.std.proofs.lemmas.Result.{on_ok_weaker}
use Rattle.commands_runs.proofs.explorer_teller.ExplorerTellerTeller.print.Goals as goal

pub returns : goal.returns
returns g c =
    on_ok_weaker c.print.result
    (λ says word told was heard same. says word told was.lines (heard.0, heard.1) same)
    c.print.ensures
