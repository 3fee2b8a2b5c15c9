use Rattle.std.proofs.Common.{arith}
use Rattle.rings.proofs.Steps.{looks}
use Rattle.rings.proofs.board.Board.durable.Goals as goal

pub load-requires : goal.load-requires
load-requires c =
    let w = c.args.watch.now in
    let two = c.args.self.now.two in
    (c.requires, omega arith, looks _ _ w.seat.me.0 w.seat.me.1 w.watch w.bare)
