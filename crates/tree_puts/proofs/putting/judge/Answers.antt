use Rattle.tree_puts.proofs.putting.judge.Goals as goal

pub returns-in-Ok-judge_room-clause-room : goal.returns-in-Ok-judge_room-clause-room
returns-in-Ok-judge_room-clause-room g c = λ many. (c.in-Ok.disk, (c.judge_room.new.disk, c.in-Ok.ensures, c.in-Ok-judge_room.ensures.room))

pub returns-clause-refused : goal.returns-clause-refused
returns-clause-refused g c = (c.in-Ok.disk, (c.judge_room.new.disk, c.in-Ok.ensures, c.in-Err-judge_room.ensures.refused))
