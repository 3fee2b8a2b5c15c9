use Rattle.lost_writes.proofs.KernelCarrying.{kernel_carries}
use Rattle.lost_writes.proofs.KernelEnduring.{kernel_endures}
use Rattle.lost_writes.proofs.laws.steps_are_carried.Goals as goal

pub returns-clause-steps : goal.returns-clause-steps
returns-clause-steps g c = kernel_carries g.D.Disk g.I.Intake g.H.Herald

pub returns-clause-stops : goal.returns-clause-stops
returns-clause-stops g c = kernel_endures g.D.Disk g.I.Intake g.H.Herald c.recovery_theorem.ensures.now g.met.D.Disk.has_now
