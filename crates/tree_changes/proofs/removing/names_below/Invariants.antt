use Rattle.std.proofs.Common.{◌≡◌, ◌≤◌, ◌++◌, length, take, flat_map}
use Rattle.calls.specs.Calls.{image_on}
use Rattle.calls.specs.Stopped.{StaysOver}
use Rattle.model.specs.Files.{files_of}
use Rattle.names.specs.Ready.{IsReady, LeavesIfDone, MayGoOn}
use Rattle.tree_changes.specs.Removing.{names_in, Stays, StaysSame}
use Rattle.tree_changes.specs.declared.removing.Below.{Below}
use Rattle.tree_changes.proofs.removing.names_below.Given as goal

-- the names so far, and behind them those of each file that the first ones lead to
abbrev pub invariant-loop-place : goal.invariant-loop-place
invariant-loop-place g l = record {
  ready : MayGoOn g.D.Disk l.tree.kernel l.tree.calls_left;
  kept : IsReady g.D.Disk l.initial.tree.kernel l.initial.tree.calls_left → IsReady g.D.Disk l.tree.kernel l.tree.calls_left;
  stays : StaysOver g.D.Disk l.initial.tree.kernel l.tree.kernel;
  same : StaysSame g.D.Disk l.initial.tree.kernel l.tree.kernel;
  leaves : LeavesIfDone g.D.Disk Stays l.initial.tree.kernel l.tree.kernel;
  low : l.place ≤ length l.below.items;
  below : l.below.items ≡ names_in (files_of (image_on g.D.Disk.image l.tree.kernel)) l.number
      ++ flat_map (λ (one : Below). names_in (files_of (image_on g.D.Disk.image l.tree.kernel)) one.number) (take l.place l.below.items);
}
