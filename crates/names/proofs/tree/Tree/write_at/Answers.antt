use Rattle.names.proofs.SeenNumbers.{some_on_disk}
use Rattle.names.proofs.tree.Tree.write_at.Goals as goal

pub returns-clause-writes : goal.returns-clause-writes
returns-clause-writes g c =
    let called = c.changed_at in
    some_on_disk g.D.Disk c.args.number c.args.offset c.args.bytes.now c.args.self.now.kernel called.new.self.kernel called.result called.ensures.makes called.ensures.blocks.full
