use Rattle.std.proofs.Common.{arith}
use Rattle.rings.proofs.Steps.{publishes}
use Rattle.rings.proofs.herald.BoardHeraldHerald.durable.Goals as goal

pub fetch_add-requires : goal.fetch_add-requires
fetch_add-requires c =
    let h = c.args.self.now in
    let k = h.keeper in
    let two = h.board.now.two in
    let fits = c.ranges.group.fits in
    let is = c.requires in
    (h.kept, omega arith, publishes _ _ k.seat.me.0 k.seat.me.1 k.keeper k.bare (omega arith))
