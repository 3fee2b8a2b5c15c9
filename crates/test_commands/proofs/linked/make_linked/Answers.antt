use Rattle.calls.specs.Files.{files_on}
use Rattle.test_commands.proofs.Made.{made_there}
use Rattle.test_commands.proofs.linked.make_linked.Goals as goal

pub set_links-requires-clause-there : goal.set_links-requires-clause-there
set_links-requires-clause-there g c =
    made_there 2 c.in-Some.number c.in_ok-number.field-0 (files_on g.D.Disk.image c.args.kernel.now) (files_on g.D.Disk.image c.create.new.kernel)
    c.in-Some.is c.in_ok-number.ensures.creates
