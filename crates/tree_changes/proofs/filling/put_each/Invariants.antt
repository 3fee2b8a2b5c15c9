use Rattle.std.proofs.Common.{take}
use Rattle.calls.specs.Calls.{image_on}
use Rattle.calls.specs.Stopped.{StaysOver}
use Rattle.model.specs.Files.{files_of}
use Rattle.names.specs.Inside.{form_seen}
use Rattle.names.specs.Ready.{IsReady, LeavesIfDone, MayGoOn}
use Rattle.tree_changes.specs.Filling.{PutsEach, PutsUpTo}
use Rattle.tree_changes.proofs.filling.put_each.Given as goal

-- the first items were put
abbrev pub invariant-loop-item : goal.invariant-loop-item
invariant-loop-item g l = record {
  ready : MayGoOn g.D.Disk l.tree.kernel l.tree.calls_left;
  kept : IsReady g.D.Disk l.initial.tree.kernel l.initial.tree.calls_left → IsReady g.D.Disk l.tree.kernel l.tree.calls_left;
  stays : StaysOver g.D.Disk l.initial.tree.kernel l.tree.kernel;
  leaves : LeavesIfDone g.D.Disk (PutsUpTo (form_seen g.D.Disk.image l.initial.tree.kernel) (take l.item-index l.items)) l.initial.tree.kernel l.tree.kernel;
  puts : PutsEach (form_seen g.D.Disk.image l.initial.tree.kernel) (take l.item-index l.items) (files_of (image_on g.D.Disk.image l.initial.tree.kernel)) (files_of (image_on g.D.Disk.image l.tree.kernel));
}
