use Rattle.std.proofs.Common.{◌≡◌, ◌≤◌, ◌+◌, ◌*◌, drop}
use Rattle.blocks.specs.Disk.{LeavesOnly}
use Rattle.calls.specs.Calls.{call_count, image_on}
use Rattle.calls.specs.Transactions.{Rests}
use Rattle.model.specs.Files.{files_of}
use Rattle.model.specs.Soundness.{IsSound}
use Rattle.names.specs.Recounting.{AgreeButCounts, KeepsButCounts}
use Rattle.names.proofs.Recounts.{AreLeft}
use Rattle.names.proofs.recounting.set_all.Given as goal

-- the first counts were set
abbrev pub invariant-loop-counted : goal.invariant-loop-counted
invariant-loop-counted g l = record {
  rests : Rests g.D.Disk.fault_count l.kernel;
  few : call_count l.kernel ≤ call_count l.initial.kernel + 2 * l.counted-index;
  sound : IsSound (image_on g.D.Disk.image l.kernel);
  agree : AgreeButCounts (files_of (image_on g.D.Disk.image l.initial.kernel)) (files_of (image_on g.D.Disk.image l.kernel));
  left : AreLeft (files_of (image_on g.D.Disk.image l.kernel)) (drop l.counted-index l.wrong);
  leaves : LeavesOnly g.D.Disk.moment g.D.Disk.leaves l.initial.kernel.store.volume.device l.kernel.store.volume.device (KeepsButCounts (image_on g.D.Disk.image l.initial.kernel));
  count : l.count ≡ l.counted-index;
}
