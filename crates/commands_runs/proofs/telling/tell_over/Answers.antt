use Rattle.commands_runs.proofs.WholeRuns.{heard_of}
use Rattle.commands_runs.specs.declared.explorer_teller.ExplorerTeller.{ExplorerTeller}
use Rattle.commands_runs.proofs.telling.tell_over.Goals as goal

pub returns : goal.returns
returns g c =
    let ran = c.replay_with-ran in
    heard_of _ (λ (t : ExplorerTeller). t.run) (λ (t : ExplorerTeller). t.refused) (λ w one a b h. h.3) (λ w one a b h. h.2)
    ran.result.0 c.served.result g.D.Disk c.args.disk ran.result.1 _ _ _ c.args.scenario.stop _ _ _ c.args.teller.now ran.new.teller c.requires.whole c.requires.new ran.ensures.printed c.served.ensures.ran c.served.ensures.served
