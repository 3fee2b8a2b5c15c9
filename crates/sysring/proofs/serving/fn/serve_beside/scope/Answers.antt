use denote.Param.Send.{sendable}
use Rattle.std.proofs.Crossing.{crosses}
use Rattle.sysring.proofs.Sends.{Shared-sync}
use Rattle.sysring.proofs.serving.fn.serve_beside.scope.Goals as goal

pub spawn-served-requires-send-F : goal.spawn-served-requires-send-F
spawn-served-requires-send-F g c κs within = search (sendable, crosses, Shared-sync) depth 20
