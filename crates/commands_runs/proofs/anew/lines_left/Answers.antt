use Rattle.std.proofs.Common.{refl}
use Rattle.commands_runs.proofs.Leaving.{left_lines}
use Rattle.commands_runs.proofs.anew.lines_left.Goals as goal

pub returns : goal.returns
returns g c =
    let ran = c.replay_with-ran in
    left_lines (λ v. v.items) ran.result.0 c.lines_behind.result g.D.Disk c.args.disk ran.result.1 _ _ _ _ _ _ _ ran.new.teller refl ran.ensures.printed c.lines_behind.ensures.ran c.lines_behind.ensures.served c.lines_behind.ensures.has
