use Rattle.tree_changes.proofs.Rooms.{lacks_room}
use Rattle.tree_changes.proofs.room.judge_room.Goals as goal

pub returns-in-Err-clause-refused : goal.returns-in-Err-clause-refused
returns-in-Err-clause-refused g c = lacks_room g.D.Disk c.args.count c.args.disk.now c.judge_new.new.disk c.in-Err.refusal c.unfit.result c.in-Err.ensures.refused c.unfit.ensures
