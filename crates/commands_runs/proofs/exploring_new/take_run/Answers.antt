use Rattle.commands_runs.proofs.WholeRuns.{heard_whole}
use Rattle.commands_runs.proofs.exploring_new.take_run.Goals as goal

pub returns-clause-heard : goal.returns-clause-heard
returns-clause-heard c =
    let s = c.args.scenario.now in
    heard_whole c.in_ok-anew.anew c.args.holds s.tasks.items s.processes s.words.items c.inode_count_on-inode_count.result c.in_ok-written.written.items _ _ c.in_ok-anew.ensures.made
    c.in_ok-written.ensures c.in_ok-teller.ensures.none c.in_ok-tell.ensures
