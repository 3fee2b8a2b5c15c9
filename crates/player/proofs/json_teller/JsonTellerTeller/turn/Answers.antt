use Rattle.std.proofs.Common.{refl}
use Rattle.player.proofs.json_teller.JsonTellerTeller.turn.Goals as goal

pub returns-clause-heard : goal.returns-clause-heard
returns-clause-heard g c = record {
  notes = c.told_turn.new.notes;
  turn = c.told_turn.ensures.tells;
  heard = refl;
}
