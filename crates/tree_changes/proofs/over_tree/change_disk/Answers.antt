use Rattle.std.proofs.Common.{refl}
use Rattle.tree_changes.proofs.Changing.{both_done, both_refused, unopened_stops}
use Rattle.tree_changes.proofs.over_tree.change_disk.Goals as goal

pub returns-in-Ok-clause-done : goal.returns-in-Ok-clause-done
returns-in-Ok-clause-done g c =
    both_done c.change_in.result.0 _ _ (c.change_in.ensures.changed c.args.disk c.in-Ok.ensures.opened) (c.change_in.ensures.stops c.args.disk c.in-Ok.ensures.opened)

pub returns-in-Ok-clause-refused : goal.returns-in-Ok-clause-refused
returns-in-Ok-clause-refused g c =
    both_refused c.change_in.result.0 _ _ (c.change_in.ensures.refused c.args.disk c.in-Ok.ensures.opened) (c.change_in.ensures.stops c.args.disk c.in-Ok.ensures.opened)

pub returns-in-Err-clause-refused : goal.returns-in-Err-clause-refused
returns-in-Err-clause-refused g c =
    ((c.in-Err.ensures.refused, refl), unopened_stops g.D.Disk (g.C.TreeChange.midst c.args.change.now) c.args.disk c.in-Err.disk c.in-Err.fault c.in-Err.ensures.refused)
