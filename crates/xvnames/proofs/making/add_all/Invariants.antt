use Rattle.std.proofs.Common.{take}
use Rattle.calls.specs.Calls.{image_on}
use Rattle.calls.specs.Stopped.{StaysOver}
use Rattle.model.specs.Files.{files_of}
use Rattle.names.specs.Inside.{form_seen}
use Rattle.names.specs.Ready.{IsReady, LeavesIfDone, MayGoOn}
use Rattle.xvnames.specs.Making.{AddsAll, AddsSome, files_named}
use Rattle.xvnames.proofs.making.add_all.Given as goal

-- the first files were added
abbrev pub invariant-loop-file : goal.invariant-loop-file
invariant-loop-file g l = record {
  ready : MayGoOn g.D.Disk l.tree.kernel l.tree.calls_left;
  kept : IsReady g.D.Disk l.initial.tree.kernel l.initial.tree.calls_left → IsReady g.D.Disk l.tree.kernel l.tree.calls_left;
  stays : StaysOver g.D.Disk l.initial.tree.kernel l.tree.kernel;
  added : AddsAll (form_seen g.D.Disk.image l.initial.tree.kernel) (files_named (take l.file-index l.files)) (files_of (image_on g.D.Disk.image l.initial.tree.kernel)) (files_of (image_on g.D.Disk.image l.tree.kernel));
  leaves : LeavesIfDone g.D.Disk (AddsSome (form_seen g.D.Disk.image l.initial.tree.kernel) (files_named l.files)) l.initial.tree.kernel l.tree.kernel;
}
