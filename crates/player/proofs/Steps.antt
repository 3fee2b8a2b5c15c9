-- A turn of a process, call by call.
use Rattle.std.proofs.Common.{◌≡◌, ℕ, List, Option}
use Rattle.blocks.specs.FaultyDisk.{has_fired}
use Rattle.blocks.specs.declared.faulty.FaultyDisk.{FaultyDisk}
use Rattle.model.specs.declared.types.operations.Answer.{Answer}
use Rattle.model.specs.declared.types.operations.Step.{Step}
use Rattle.clients.specs.declared.feeder.Feeder.{Feeder}
use Rattle.messages.specs.declared.events.Event.{Event}
use Rattle.player.specs.declared.player.Player.{Player}
use Rattle.player.specs.Stepping.{Ringed, HandsIn, HasItsWatch, Polls, MakesTurnOf}
use Rattle.player.specs.Turns.{event_of}

pub one_turn : {D N : Type 0} (makes : Step → Ringed (FaultyDisk D) → Ringed (FaultyDisk D) → Type 0) (stop p : ℕ) (event : Event) (old new : Player D N) (handed stepped : Ringed (FaultyDisk D)) (c : List Feeder) (r : Step) (polled : Option Answer)
    → HandsIn p old.kernel old.feeders.items handed c → makes r handed stepped → Polls p polled stepped c new.kernel new.feeders.items → event ≡ event_of (has_fired stepped.store.volume.device) stop p r polled → HasItsWatch old new
    → MakesTurnOf makes stop p event old new
one_turn makes stop p event old new handed stepped c r polled hands_in steps polls tells watch = record {
  handed = handed;
  stepped = stepped;
  feeders = c;
  answer = r;
  polled = polled;
  hands_in = hands_in;
  steps = steps;
  polls = polls;
  tells = tells;
  watch = watch;
}
