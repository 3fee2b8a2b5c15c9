use Rattle.std.proofs.Common.{arith}
use Rattle.rings.proofs.Steps.{admits}
use Rattle.rings.proofs.board.Board.admit.Goals as goal

pub split_seat-seat-requires : goal.split_seat-seat-requires
split_seat-seat-requires c =
    let k = c.args.keeper.now in
    let two = c.args.self.now.two in
    (c.requires, omega arith, admits k.seat.id k.seat.me.0)
