use Rattle.std.proofs.Common.{◌≡◌}
use Rattle.calls.specs.Calls.{image_on}
use Rattle.calls.specs.Stopped.{StaysOver}
use Rattle.model.specs.Files.{files_of}
use Rattle.names.specs.Inside.{form_seen}
use Rattle.names.specs.Ready.{IsReady, MayGoOn, LeavesIfDone}
use Rattle.tree_changes.specs.Puts.{WritesPieces, WritesSome}
use Rattle.tree_changes.proofs.puts.append_all.Given as goal

-- the pieces so far were written
abbrev pub invariant-loop-piece : goal.invariant-loop-piece
invariant-loop-piece g l = record {
  ready : MayGoOn g.D.Disk l.tree.kernel l.tree.calls_left;
  kept : IsReady g.D.Disk l.initial.tree.kernel l.initial.tree.calls_left → IsReady g.D.Disk l.tree.kernel l.tree.calls_left;
  none : l.initial.tree.calls_left ≡ 0 → (l.piece ≡ 0) × (l.tree ≡ l.initial.tree);
  stays : StaysOver g.D.Disk l.initial.tree.kernel l.tree.kernel;
  leaves : LeavesIfDone g.D.Disk (WritesSome (form_seen g.D.Disk.image l.initial.tree.kernel) l.path l.bytes l.piece) l.initial.tree.kernel l.tree.kernel;
  writes : WritesPieces (form_seen g.D.Disk.image l.initial.tree.kernel) l.path l.bytes l.piece (files_of (image_on g.D.Disk.image l.initial.tree.kernel)) (files_of (image_on g.D.Disk.image l.tree.kernel));
}
