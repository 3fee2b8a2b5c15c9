use Rattle.std.proofs.Common.{◌≡◌, false, vec_len}
use Rattle.std.specs.Prelude.{All}
use Rattle.rings.specs.Boards.{KeeperOf, published, heard, IsNewWatch}
use Rattle.rings.proofs.board.Board.new.Given as goal

abbrev pub invariant-loop : goal.invariant-loop
invariant-loop l = record {
  keeper : KeeperOf l.board l.keeper × (published l.keeper ≡ 0) × (heard l.keeper ≡ false);
  count : vec_len l.all ≡ l.counter;
  fresh : All (λ w. IsNewWatch l.board w) l.all.items;
}
