use Rattle.std.proofs.Common.{◌∙◌, ap, arith, List, ℕ}
use Rattle.rings.specs.Rules.{united, keeper_part}
use Rattle.rings.proofs.Steps.{compares, divides, keeper_is, unites}
use Rattle.rings.proofs.herald.compare.Goals as goal

pub join_seat-requires : goal.join_seat-requires
join_seat-requires c =
    let words = c.requires.words in
    (c.requires.keeper.0, c.requires.watch.0, c.requires.watch.2, omega arith, unites _ _ c.args.keeper.now.me.0 c.args.watch.me.0 c.requires.keeper.1 c.requires.watch.1)

pub load-requires : goal.load-requires
load-requires c =
    let words = c.requires.words in
    let me = c.join_seat.ensures.2 ∙ ap (λ (l : List (ℕ × Unit {0})). (united c.args.keeper.now.me.0 c.args.watch.me.0, l)) c.requires.keeper.2 in
    (c.join_seat.ensures.0 ∙ c.requires.keeper.0, omega arith, rw me (compares _ _ c.args.keeper.now.me.0 c.args.watch.me.0))

pub split_seat-requires : goal.split_seat-requires
split_seat-requires c =
    let words = c.requires.words in
    let me = c.load.ensures.2.0 ∙ c.join_seat.ensures.2 in
    (c.load.ensures.0 ∙ c.join_seat.ensures.0 ∙ c.requires.keeper.0, omega arith, rw me (divides _ c.args.keeper.now.me.0 c.args.watch.me.0))

pub returns-clause-keeper : goal.returns-clause-keeper
returns-clause-keeper c =
    let s = c.split_seat.ensures in
    let me = c.load.ensures.2.0 ∙ c.join_seat.ensures.2 in
    λ i. record {
      marker = c.args.keeper.now.marker;
      table_id = (s.0 ∙ c.load.ensures.0 ∙ c.join_seat.ensures.0) i;
      id = (s.1 ∙ c.load.ensures.1 ∙ c.join_seat.ensures.1) i;
      me = (s.2 ∙ ap (λ (m : _). (keeper_part m.0, m.1)) me ∙ ap (λ v. (v, c.args.keeper.now.me.1)) (keeper_is c.args.keeper.now.me.0 c.requires.keeper.1)) i;
    }
