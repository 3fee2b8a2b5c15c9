use Rattle.std.proofs.Common.{drop}
use Rattle.calls.specs.Calls.{image_on}
use Rattle.calls.specs.Stopped.{StaysOver}
use Rattle.model.specs.Files.{files_of}
use Rattle.names.specs.Ready.{IsReady, LeavesIfDone, MayGoOn}
use Rattle.tree_changes.specs.Removing.{RemovesEach, RemovesSome}
use Rattle.tree_changes.proofs.removing.remove_each.Given as goal

-- the names from a place on are removed
abbrev pub invariant-loop-place : goal.invariant-loop-place
invariant-loop-place g l = record {
  ready : MayGoOn g.D.Disk l.tree.kernel l.tree.calls_left;
  kept : IsReady g.D.Disk l.initial.tree.kernel l.initial.tree.calls_left → IsReady g.D.Disk l.tree.kernel l.tree.calls_left;
  stays : StaysOver g.D.Disk l.initial.tree.kernel l.tree.kernel;
  leaves : LeavesIfDone g.D.Disk (RemovesSome l.below) l.initial.tree.kernel l.tree.kernel;
  removed : RemovesEach (drop l.place l.below) (files_of (image_on g.D.Disk.image l.initial.tree.kernel)) (files_of (image_on g.D.Disk.image l.tree.kernel));
}
