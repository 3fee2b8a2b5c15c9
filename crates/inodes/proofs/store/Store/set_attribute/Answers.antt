use Rattle.std.proofs.Common.{rules, ◌≡◌, length, sym, ◌∙◌, ap, subst, Some, None, refl, set}
use Rattle.inodes.specs.Common.{IsStore, Op, Progress, progress_of_setting, renewed, Stage, stage_of_setting, Steps, StoreState, table_of_setting, task, TaskProgress, Updates}
use Rattle.inodes.specs.Lemmas.Faults.{where_none}
use Rattle.inodes.proofs.GoingOn.{came, leaves, stands, told}
use Rattle.inodes.proofs.Setting.{in_table, inode_there, long, may, room, steps_set, store_set}
use Rattle.inodes.proofs.Standing.{StandsAt, steps_as}
use Rattle.inodes.proofs.Staying.{left_after, updates}
use Rattle.inodes.proofs.store.Store.set_attribute.Given.{Over}
use Rattle.inodes.proofs.store.Store.set_attribute.Goals.{After-known, After-go, In-Err}
use Rattle.inodes.proofs.store.Store.set_attribute.Goals as goal

head : (g : Over) (c : After-known g) → StandsAt g.D.Disk (record { volume = c.self.inside.volume; tasks = c.self.inside.tasks; table = c.self.inside.inodes }) c.args.pid (Stage.Setting c.args.place c.args.inode c.args.update.value)
head g c =
    let well : c.self.inside.volume.fault ≡ None = search rules in
    record { is = c.self.invariant; well = well; inside = search rules; stood = search rules; joint = where_none c.self.inside.volume.fault well c.known.ensures.joint }

pub set_on-requires-clause-room : goal.set_on-requires-clause-room
set_on-requires-clause-room g c = room (head g (goal.at.set_on-requires-clause-room g c).After-known)

pub set_on-requires-clause-addrs : goal.set_on-requires-clause-addrs
set_on-requires-clause-addrs g c = long (head g (goal.at.set_on-requires-clause-addrs g c).After-known)

pub set_on-requires-clause-ready : goal.set_on-requires-clause-ready
set_on-requires-clause-ready g c = may (head g (goal.at.set_on-requires-clause-ready g c).After-known)

pub renew-requires-clause-place : goal.renew-requires-clause-place
renew-requires-clause-place g c = in_table (head g (goal.at.renew-requires-clause-place g c).After-known)

pub renew-requires-clause-inode : goal.renew-requires-clause-inode
renew-requires-clause-inode g c = inode_there (head g (goal.at.renew-requires-clause-inode g c).After-known)

-- what the last step comes to
was_set : (g : Over) (c : After-go g) → StandsAt g.D.Disk (record { volume = c.self.inside.volume; tasks = c.self.inside.tasks; table = c.self.inside.inodes }) c.args.pid (Stage.Setting c.args.place c.args.inode c.args.update.value)
    → IsStore g.D.Disk.image (record { volume = c.set_on.new.volume; tasks = c.go.new.self; table = c.renew.new.self })
    × ((op : Op) → (task c.self.inside.tasks c.args.pid).op ≡ Some op
    → Steps g.D.Disk c.args.self.now c.args.pid op TaskProgress.Moved (record { volume = c.set_on.new.volume; tasks = c.go.new.self; table = c.renew.new.self }))
was_set g c h =
    let ts = c.self.inside.tasks in
    let v = c.self.inside.volume in
    let d = c.args.inode in
    let u = c.args.update.value in
    let n = c.set_on.ensures.now in
    let w = c.set_on.new.volume in
    let did : Updates g.D.Disk u.slot v c.args.pid u d (Progress.Over tt) n w
    = subst (λ (r : Progress (Unit {0})). Updates g.D.Disk u.slot v c.args.pid u d r n w) (came tt c.set_on.result c.in-Ok.ensures) c.set_on.ensures.updates in
    let tasks = left_after ts c.set_on.new.self c.go.new.self c.args.pid (Stage.Setting c.args.place d n) (Stage.Leaving c.args.place) h.inside c.set_on.ensures.tasks c.go.ensures in (
      subst (λ t. IsStore g.D.Disk.image (record { volume = w; tasks = c.go.new.self; table = t })) (sym c.renew.ensures) (store_set h n w c.go.new.self (Progress.Over tt) did tasks),
      λ op is. steps_as c.self.view_is refl (ap (λ t. record { volume = w; tasks = c.go.new.self; table = t }) (sym c.renew.ensures)) (steps_set h n w c.go.new.self (Progress.Over tt) did tasks op is),
    )

pub invariant_of-self : goal.invariant_of-self
invariant_of-self g c = let at = goal.at.invariant_of-self g c in (was_set g at.After-go (head g at.After-known)).0

pub returns-in-Ok : goal.returns-in-Ok
returns-in-Ok g c =
    let at = goal.at.returns-in-Ok g c in
    record { step = λ op is. (was_set g at.After-go (head g at.After-known)).1 op (subst (λ (o : StoreState _). (task o.tasks c.args.pid).op ≡ Some op) (sym c.self.view_is) is) }

-- what any other step comes to
sets_on : (g : Over) (c : In-Err g) → StandsAt g.D.Disk (record { volume = c.self.inside.volume; tasks = c.self.inside.tasks; table = c.self.inside.inodes }) c.args.pid (Stage.Setting c.args.place c.args.inode c.args.update.value)
    → IsStore g.D.Disk.image (record { volume = c.set_on.new.volume; tasks = c.set_on.new.self; table = c.self.inside.inodes })
    × ((op : Op) → (task c.self.inside.tasks c.args.pid).op ≡ Some op
    → Steps g.D.Disk c.args.self.now c.args.pid op c.in-Err.progress (record { volume = c.set_on.new.volume; tasks = c.set_on.new.self; table = c.self.inside.inodes }))
sets_on g c h =
    let ts = c.self.inside.tasks in
    let v = c.self.inside.volume in
    let r = c.set_on.result in
    let d = c.args.inode in
    let u = c.args.update.value in
    let n = c.set_on.ensures.now in
    let w = c.set_on.new.volume in
    let us = c.set_on.new.self in
    let did = c.set_on.ensures.updates in
    let goes = c.set_on.ensures.tasks ∙ ap (λ (a : Stage). set ts c.args.pid (record (task ts c.args.pid) { stage = a }))
    (sym (stands (Stage.Setting c.args.place d u) (Stage.Setting c.args.place d n) (λ out. Stage.Leaving c.args.place) r c.in-Err.progress c.in-Err.ensures
    (λ rests. ap (Stage.Setting c.args.place d) (updates g.D.Disk v w c.args.pid u n d u.slot r refl did rests)))) in
    let table = leaves c.self.inside.inodes (λ out. renewed c.self.inside.inodes c.args.place (Some d)) r c.in-Err.progress c.in-Err.ensures in (
      subst (λ t. IsStore g.D.Disk.image (record { volume = w; tasks = us; table = t })) table (store_set h n w us r did goes),
      λ op is. steps_as c.self.view_is (told (λ out. TaskProgress.Moved) r c.in-Err.progress c.in-Err.ensures) (ap (λ t. record { volume = w; tasks = us; table = t }) table) (steps_set h n w us r did goes op is),
    )

pub invariant_of-self-in-Err : goal.invariant_of-self-in-Err
invariant_of-self-in-Err g c = let at = goal.at.invariant_of-self-in-Err g c in (sets_on g at.In-Err (head g at.After-known)).0

pub returns-in-Err : goal.returns-in-Err
returns-in-Err g c =
    let at = goal.at.returns-in-Err g c in
    record { step = λ op is. (sets_on g at.In-Err (head g at.After-known)).1 op (subst (λ (o : StoreState _). (task o.tasks c.args.pid).op ≡ Some op) (sym c.self.view_is) is) }
