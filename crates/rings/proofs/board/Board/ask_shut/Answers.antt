use Rattle.std.proofs.Common.{arith}
use Rattle.rings.proofs.Steps.{asks}
use Rattle.rings.proofs.board.Board.ask_shut.Goals as goal

pub fetch_or-requires : goal.fetch_or-requires
fetch_or-requires c =
    let w = c.args.watch.now in
    let two = c.args.self.now.two in
    (c.requires, omega arith, asks _ _ w.seat.me.0 w.seat.me.1 w.watch w.bare)
