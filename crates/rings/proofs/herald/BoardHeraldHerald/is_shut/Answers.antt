use Rattle.std.proofs.Common.{arith}
use Rattle.rings.proofs.Steps.{heeds}
use Rattle.rings.proofs.herald.BoardHeraldHerald.is_shut.Goals as goal

pub load-requires : goal.load-requires
load-requires c =
    let h = c.args.self.now in
    let k = h.keeper in
    let two = h.board.now.two in
    (h.kept, omega arith, heeds _ _ k.seat.me.0 k.seat.me.1 k.keeper k.bare)
