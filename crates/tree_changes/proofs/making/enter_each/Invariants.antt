use Rattle.calls.specs.Calls.{image_on}
use Rattle.calls.specs.Stopped.{StaysOver}
use Rattle.model.specs.Files.{files_of}
use Rattle.names.specs.Ready.{IsReady, LeavesIfDone, MayGoOn}
use Rattle.tree_changes.specs.Making.{EntersEach, EntersFirst}
use Rattle.tree_changes.proofs.making.enter_each.Given as goal

-- the names so far lead to directories
abbrev pub invariant-loop-name : goal.invariant-loop-name
invariant-loop-name g l = record {
  ready : MayGoOn g.D.Disk l.tree.kernel l.tree.calls_left;
  kept : IsReady g.D.Disk l.initial.tree.kernel l.initial.tree.calls_left → IsReady g.D.Disk l.tree.kernel l.tree.calls_left;
  stays : StaysOver g.D.Disk l.initial.tree.kernel l.tree.kernel;
  leaves : LeavesIfDone g.D.Disk (EntersFirst l.names l.name-index) l.initial.tree.kernel l.tree.kernel;
  entered : EntersEach l.names l.name-index l.number (files_of (image_on g.D.Disk.image l.initial.tree.kernel)) (files_of (image_on g.D.Disk.image l.tree.kernel));
}
