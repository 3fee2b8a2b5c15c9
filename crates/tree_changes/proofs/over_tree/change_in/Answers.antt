use Rattle.std.proofs.Common.{refl}
use Rattle.tree_changes.proofs.Changing.{changed_so, changed_stops, ended_stops, failed_so, made_so, not_told, whole_now, right_was, tree_was}
use Rattle.tree_changes.proofs.over_tree.change_in.Goals as goal

pub returns-in-Ok-clause-changed : goal.returns-in-Ok-clause-changed
returns-in-Ok-clause-changed g c = λ d opened.
    let disk = g.D.Disk in
    let k = c.args.tree.kernel in
    let m = c.make.new.tree.kernel in
    let tree = tree_was disk d k opened c.requires.ready.tree in
    let right = right_was disk d k opened c.requires.ready.counted in
    let makes = g.C.TreeChange.makes c.args.change.now in
    let undone = g.C.TreeChange.undone c.args.change.now in
    changed_so disk makes undone c.args.last d k m opened tree right c.in-Ok.number c.into_disk-disk.result c.tell-told.new.disk
    (made_so disk makes undone c.args.last d k m opened tree right c.in-Ok.number c.into_disk-disk.result c.into_disk-disk.ensures.disk c.in-Ok.ensures.makes (whole_now disk g.met.D.Disk.counts_now g.met.D.Disk.has_now _ c.args.tree.kernel m c.make.ensures.leaves))
    c.tell-told.result _ _ c.tell-told.ensures.syncs c.tell-told.ensures.told

pub returns-in-Ok-clause-refused : goal.returns-in-Ok-clause-refused
returns-in-Ok-clause-refused g c = λ d opened.
    let disk = g.D.Disk in
    let m = c.make.new.tree.kernel in
    let was = tree_was disk d c.args.tree.kernel opened c.requires.ready.tree in
    let right = right_was disk d c.args.tree.kernel opened c.requires.ready.counted in
    not_told disk (g.C.TreeChange.makes c.args.change.now) (g.C.TreeChange.undone c.args.change.now) c.args.last d c.args.tree.kernel m opened was right c.in-Ok.number c.into_disk-disk.result c.tell-told.new.disk
    (made_so disk (g.C.TreeChange.makes c.args.change.now) (g.C.TreeChange.undone c.args.change.now) c.args.last d c.args.tree.kernel m opened was right c.in-Ok.number c.into_disk-disk.result c.into_disk-disk.ensures.disk c.in-Ok.ensures.makes (whole_now disk g.met.D.Disk.counts_now g.met.D.Disk.has_now _ c.args.tree.kernel m c.make.ensures.leaves))
    c.tell-told.result _ c.tell-told.ensures.refused

pub returns-in-Ok-clause-stops : goal.returns-in-Ok-clause-stops
returns-in-Ok-clause-stops g c = λ d opened.
    let disk = g.D.Disk in
    let k = c.args.tree.kernel in
    let m = c.make.new.tree.kernel in
    ended_stops disk (g.C.TreeChange.midst c.args.change.now) d k m opened c.make.ensures.leaves (tree_was disk d k opened c.requires.ready.tree) (right_was disk d k opened c.requires.ready.counted) c.into_disk-disk.result c.tell-told.new.disk c.into_disk-disk.ensures.disk c.tell-told.ensures.time

pub returns-in-Err-clause-refused : goal.returns-in-Err-clause-refused
returns-in-Err-clause-refused g c = λ d opened.
    let disk = g.D.Disk in
    let k = c.args.tree.kernel in
    let m = c.make.new.tree.kernel in
    failed_so disk (g.C.TreeChange.makes c.args.change.now) (g.C.TreeChange.undone c.args.change.now) c.args.last d k m opened (tree_was disk d k opened c.requires.ready.tree) (right_was disk d k opened c.requires.ready.counted) c.into_disk.result _ c.into_disk.ensures.disk refl c.in-Err.refusal c.in-Err.ensures.cause c.in-Err.ensures.undone

pub returns-in-Err-clause-stops : goal.returns-in-Err-clause-stops
returns-in-Err-clause-stops g c = λ d opened.
    let disk = g.D.Disk in
    let k = c.args.tree.kernel in
    let m = c.make.new.tree.kernel in
    changed_stops disk (g.C.TreeChange.midst c.args.change.now) d k m opened c.make.ensures.leaves (tree_was disk d k opened c.requires.ready.tree) (right_was disk d k opened c.requires.ready.counted) c.into_disk.result c.into_disk.ensures.disk
