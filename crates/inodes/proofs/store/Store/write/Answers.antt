use Rattle.std.proofs.Common.{rules, ◌≡◌, ◌≤◌, ℕ, length, sym, ◌∙◌, ap, subst, List, Some, None, refl, set, get_or-set_same}
use Rattle.std.specs.Prelude.{IfSome}
use Rattle.inodes.specs.Common.{bytes_by, bytes_of, Dinode, IsStore, no_task, Progress, renewed, Stage, Steps, task, TaskProgress, TaskState, WriteSteps, Wrote}
use Rattle.inodes.specs.Lemmas.Faults.{where_none}
use Rattle.inodes.specs.InPlace.{writing_at}
use Rattle.inodes.proofs.GoingOn.{came, leaves, stands, told}
use Rattle.inodes.proofs.Standing.{StandsAt, steps_as}
use Rattle.inodes.proofs.Staying.{left_after, writes}
use Rattle.inodes.proofs.WriteEnds.{copy_same, store_wrote, steps_wrote}
use Rattle.inodes.proofs.Writing.{enough, in_table, inode_there, may, room}
use Rattle.inodes.proofs.store.Store.write.Given.{Over}
use Rattle.inodes.proofs.store.Store.write.Goals.{After-known, After-go, In-Err}
use Rattle.inodes.proofs.store.Store.write.Goals as goal

head : (g : Over) (c : After-known g) → StandsAt g.D.Disk (record { volume = c.self.inside.volume; tasks = c.self.inside.tasks; table = c.self.inside.inodes }) c.args.pid (Stage.Writing c.args.place c.args.writing.value)
    × ((task c.self.inside.tasks c.args.pid).op ≡ Some c.args.op.now)
head g c =
    let well : c.self.inside.volume.fault ≡ None = search rules in
    (record { is = c.self.invariant; well = well; inside = search rules; stood = search rules; joint = where_none c.self.inside.volume.fault well c.known.ensures.joint }, search rules)

pub write_on-progress-requires-clause-room : goal.write_on-progress-requires-clause-room
write_on-progress-requires-clause-room g c = room (head g (goal.at.write_on-progress-requires-clause-room g c).After-known).0

pub write_on-progress-requires-clause-all : goal.write_on-progress-requires-clause-all
write_on-progress-requires-clause-all g c =
    let h = head g (goal.at.write_on-progress-requires-clause-all g c).After-known in
    subst (λ (l : List ℕ). c.args.writing.value.count ≤ length l) (ap bytes_by h.1 ∙ sym c.bytes_of.ensures) (enough h.0)

pub write_on-progress-requires-clause-ready : goal.write_on-progress-requires-clause-ready
write_on-progress-requires-clause-ready g c = may (head g (goal.at.write_on-progress-requires-clause-ready g c).After-known).0

pub renew-requires-clause-place : goal.renew-requires-clause-place
renew-requires-clause-place g c = in_table (head g (goal.at.renew-requires-clause-place g c).After-known).0

pub renew-requires-clause-inode : goal.renew-requires-clause-inode
renew-requires-clause-inode g c = inode_there (head g (goal.at.renew-requires-clause-inode g c).After-known).0

-- what the last step comes to
wrote : (g : Over) (c : After-go g) → StandsAt g.D.Disk (record { volume = c.self.inside.volume; tasks = c.self.inside.tasks; table = c.self.inside.inodes }) c.args.pid (Stage.Writing c.args.place c.args.writing.value)
    × ((task c.self.inside.tasks c.args.pid).op ≡ Some c.args.op.now)
    → IsStore g.D.Disk.image (record { volume = c.write_on-progress.new.volume; tasks = c.go.new.self; table = c.renew.new.self })
    × Steps g.D.Disk c.args.self.now c.args.pid c.args.op.now (TaskProgress.Decided (Wrote c.written-done.result.1)) (record { volume = c.write_on-progress.new.volume; tasks = c.go.new.self; table = c.renew.new.self })
wrote g c h =
    let ts = c.self.inside.tasks in
    let v = c.self.inside.volume in
    let m = c.args.writing.value in
    let n = c.write_on-progress.ensures.now in
    let w = c.write_on-progress.new.volume in
    let did : WriteSteps g.D.Disk m.at v c.args.pid m (bytes_of c.args.op.now) (Progress.Over tt) n w
    = subst (λ (r : Progress (Unit {0})). WriteSteps g.D.Disk m.at v c.args.pid m (bytes_of c.args.op.now) r n w) (came tt c.write_on-progress.result c.in-Ok.ensures)
    (subst (λ (l : List ℕ). WriteSteps g.D.Disk m.at v c.args.pid m l c.write_on-progress.result n w) c.bytes_of.ensures c.write_on-progress.ensures.writes) in
    let same = copy_same g.D.Disk m.at v c.args.pid m n (bytes_of c.args.op.now) w did in
    let tasks = left_after ts c.write_on-progress.new.self c.go.new.self c.args.pid (Stage.Writing c.args.place n) (Stage.Leaving c.args.place) h.0.inside c.write_on-progress.ensures.tasks c.go.ensures in
    let there = ap (λ (l : List TaskState). (task l c.args.pid).stage) c.write_on-progress.ensures.tasks
    ∙ ap (λ (t : TaskState). t.stage) (get_or-set_same ts c.args.pid (record (task ts c.args.pid) { stage = Stage.Writing c.args.place n }) no_task h.0.inside) in
    let told_so = subst (λ (a : Stage). IfSome (writing_at a) (λ o. (c.written-done.result.0 ≡ o.inode) × (c.written-done.result.1 ≡ o.done))) there c.written-done.ensures in
    let table = c.renew.ensures ∙ ap (λ (d : Dinode). renewed c.self.inside.inodes c.args.place (Some d)) (told_so.0 ∙ same.0) in (
      subst (λ t. IsStore g.D.Disk.image (record { volume = w; tasks = c.go.new.self; table = t })) (sym table) (store_wrote h.0 n w c.go.new.self (Progress.Over tt) c.args.op.now h.1 did tasks),
      steps_as c.self.view_is (ap (λ (d : ℕ). TaskProgress.Decided (Wrote d)) (sym (told_so.1 ∙ same.1))) (ap (λ t. record { volume = w; tasks = c.go.new.self; table = t }) (sym table))
          (steps_wrote h.0 n w c.go.new.self (Progress.Over tt) c.args.op.now h.1 did tasks),
    )

pub invariant_of-self : goal.invariant_of-self
invariant_of-self g c = let at = goal.at.invariant_of-self g c in (wrote g at.After-go (head g at.After-known)).0

pub returns-in-Ok : goal.returns-in-Ok
returns-in-Ok g c = let at = goal.at.returns-in-Ok g c in record { step = (wrote g at.After-go (head g at.After-known)).1 }

-- what any other step comes to
writes_on : (g : Over) (c : In-Err g) → StandsAt g.D.Disk (record { volume = c.self.inside.volume; tasks = c.self.inside.tasks; table = c.self.inside.inodes }) c.args.pid (Stage.Writing c.args.place c.args.writing.value)
    × ((task c.self.inside.tasks c.args.pid).op ≡ Some c.args.op.now)
    → IsStore g.D.Disk.image (record { volume = c.write_on-progress.new.volume; tasks = c.write_on-progress.new.self; table = c.self.inside.inodes })
    × Steps g.D.Disk c.args.self.now c.args.pid c.args.op.now c.in-Err.progress (record { volume = c.write_on-progress.new.volume; tasks = c.write_on-progress.new.self; table = c.self.inside.inodes })
writes_on g c h =
    let ts = c.self.inside.tasks in
    let v = c.self.inside.volume in
    let r = c.write_on-progress.result in
    let m = c.args.writing.value in
    let n = c.write_on-progress.ensures.now in
    let w = c.write_on-progress.new.volume in
    let us = c.write_on-progress.new.self in
    let did : WriteSteps g.D.Disk m.at v c.args.pid m (bytes_of c.args.op.now) r n w
    = subst (λ (l : List ℕ). WriteSteps g.D.Disk m.at v c.args.pid m l r n w) c.bytes_of.ensures c.write_on-progress.ensures.writes in
    let goes = c.write_on-progress.ensures.tasks ∙ ap (λ (a : Stage). set ts c.args.pid (record (task ts c.args.pid) { stage = a }))
    (sym (stands (Stage.Writing c.args.place m) (Stage.Writing c.args.place n) (λ out. Stage.Leaving c.args.place) r c.in-Err.progress c.in-Err.ensures
    (λ rests. ap (Stage.Writing c.args.place) (writes g.D.Disk v w c.args.pid m n m.at (bytes_of c.args.op.now) r refl did rests)))) in
    let table = leaves c.self.inside.inodes (λ out. renewed c.self.inside.inodes c.args.place (Some m.inode)) r c.in-Err.progress c.in-Err.ensures in (
      subst (λ t. IsStore g.D.Disk.image (record { volume = w; tasks = us; table = t })) table (store_wrote h.0 n w us r c.args.op.now h.1 did goes),
      steps_as c.self.view_is (told (λ out. TaskProgress.Decided (Wrote m.done)) r c.in-Err.progress c.in-Err.ensures) (ap (λ t. record { volume = w; tasks = us; table = t }) table) (steps_wrote h.0 n w us r c.args.op.now h.1 did goes),
    )

pub invariant_of-self-in-Err : goal.invariant_of-self-in-Err
invariant_of-self-in-Err g c = let at = goal.at.invariant_of-self-in-Err g c in (writes_on g at.In-Err (head g at.After-known)).0

pub returns-in-Err : goal.returns-in-Err
returns-in-Err g c = let at = goal.at.returns-in-Err g c in record { step = (writes_on g at.In-Err (head g at.After-known)).1 }
