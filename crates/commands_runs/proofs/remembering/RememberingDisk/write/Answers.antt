use Rattle.commands_runs.proofs.Keeping.{one_write_more, when_ok}
use Rattle.commands_runs.proofs.remembering.RememberingDisk.write.Goals as goal

pub invariant_of-self : goal.invariant_of-self
invariant_of-self g c = λ whole.
    let both = c.or_short-self-inside.ensures whole in
    one_write_more g.D.Disk c.self.inside.first.value c.self.inside.disk c.write.new.self c.self.inside.written.items c.keep.new.written.items (record { block = c.args.block; bytes = c.args.from.now })
    (c.self.invariant both.0) c.in-Ok.ensures.ok c.in-Ok.ensures.writes (when_ok c.keep.result _ both.1 c.keep.ensures)
