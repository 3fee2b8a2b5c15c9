use Rattle.std.proofs.Common.{◌∙◌, ap, refl, sym}
use Rattle.commands_runs.proofs.Leaving.{left_writes}
use Rattle.commands_runs.proofs.writes.writes_of.Goals as goal

pub returns : goal.returns
returns g c =
    let ran = c.replay_with-ran in
    let start = c.over-disk.ensures in
    left_writes (λ v. v.items) ran.result.0 c.writes_behind.result g.D.Disk (g.D.Disk.image c.args.disk) c.over-disk.result ran.result.1 _ _ _ _ _ _ _ ran.new.teller refl
    (start.first ∙ sym start.disk) (ap g.D.Disk.image start.disk) (ap (λ n. n.1) ran.ensures.name) ran.ensures.printed c.writes_behind.ensures.ran c.writes_behind.ensures.served c.writes_behind.ensures.has
