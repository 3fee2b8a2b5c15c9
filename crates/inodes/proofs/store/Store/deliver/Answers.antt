use Rattle.std.proofs.Common.{rules, ◌≡◌, ◌<◌, length, sym, ◌∙◌, ap, subst, List, Some, None}
use Rattle.std.specs.Prelude.{slice_set}
use Rattle.inodes.specs.Common.{Bytes, IsStore, Op, Stage, Steps, StoreState, TableState, task, TaskProgress, TaskState}
use Rattle.inodes.proofs.Leaving.{finished, tasks_finished, store_delivered, steps_delivered}
use Rattle.inodes.proofs.Standing.{steps_as}
use Rattle.inodes.proofs.store.Store.deliver.Given.{Over}
use Rattle.inodes.proofs.store.Store.deliver.Goals.{After-into_content}
use Rattle.inodes.proofs.store.Store.deliver.Goals as goal

-- what the step comes to
delivered : (g : Over) (c : After-into_content g) → IsStore g.D.Disk.image (record { volume = c.self.inside.volume; tasks = c.finish.new.self; table = c.leave.new.self })
    × ((op : Op) → (task c.args.self.now.tasks c.args.pid).op ≡ Some op → Steps g.D.Disk c.args.self.now c.args.pid op (TaskProgress.Decided (Bytes c.into_content.result)) (record { volume = c.self.inside.volume; tasks = c.finish.new.self; table = c.leave.new.self }))
delivered g c =
    let s : StoreState _ = record { volume = c.self.inside.volume; tasks = c.self.inside.tasks; table = c.self.inside.inodes } in
    let well : s.volume.fault ≡ None = search rules in
    let lt : c.args.pid < length s.tasks = search rules in
    let stood : (task s.tasks c.args.pid).stage ≡ Stage.Delivering c.args.place = search rules in
    let had = sym c.take_bytes-bytes.ensures.bytes in
    let tasks = c.finish.ensures ∙ ap (λ (ts : List TaskState). slice_set ts c.args.pid (finished (task ts c.args.pid))) c.take_bytes-bytes.ensures.tasks ∙ tasks_finished s.tasks c.args.pid lt in (
      subst (λ (t : TableState). IsStore g.D.Disk.image (record { volume = s.volume; tasks = c.finish.new.self; table = t })) (sym c.leave.ensures)
          (store_delivered g.D.Disk s c.args.pid c.args.place c.self.invariant well lt stood c.take_bytes-bytes.result had c.finish.new.self tasks),
      λ op is. steps_as c.self.view_is (ap (λ (l : List _). TaskProgress.Decided (Bytes l)) (sym c.into_content.ensures)) (ap (λ (t : TableState). record { volume = s.volume; tasks = c.finish.new.self; table = t }) (sym c.leave.ensures))
          (steps_delivered g.D.Disk s c.args.pid c.args.place c.self.invariant well lt stood c.take_bytes-bytes.result had c.finish.new.self tasks op (subst (λ (k : StoreState _). (task k.tasks c.args.pid).op ≡ Some op) (sym c.self.view_is) is)),
    )

pub invariant_of-self : goal.invariant_of-self
invariant_of-self g c = (delivered g (goal.at.invariant_of-self g c).After-into_content).0

pub returns : goal.returns
returns g c = record { step = (delivered g (goal.at.returns g c).After-into_content).1 }
