use Rattle.std.proofs.Common.{rules, ◌≡◌, ◌∙◌, set, sym, ap, refl, subst, Some, None}
use Rattle.inodes.specs.Common.{IsStore, Op, stage_of_reading, Progress, ReadSteps, Stage, Steps, task, TaskProgress}
use Rattle.inodes.specs.Lemmas.Faults.{where_none}
use Rattle.inodes.proofs.GoingOn.{came, stands, told}
use Rattle.inodes.proofs.Reading.{is_ready}
use Rattle.inodes.proofs.ReadingSteps.{store_read, steps_read}
use Rattle.inodes.proofs.Standing.{StandsAt, steps_as}
use Rattle.inodes.proofs.Staying.{changed_after, reads_stay, reads_with}
use Rattle.inodes.proofs.store.Store.read.Given.{Over}
use Rattle.inodes.proofs.store.Store.read.Goals.{After-known, After-go, In-Err}
use Rattle.inodes.proofs.store.Store.read.Goals as goal

head : (g : Over) (c : After-known g) → StandsAt g.D.Disk (record { volume = c.self.inside.volume; tasks = c.self.inside.tasks; table = c.self.inside.inodes }) c.args.pid (Stage.Reading c.args.place c.args.reading.value)
head g c =
    let well : c.self.inside.volume.fault ≡ None = search rules in
    record { is = c.self.invariant; well = well; inside = search rules; stood = search rules; joint = where_none c.self.inside.volume.fault well c.known.ensures.joint }

pub read_on-progress-requires-clause-ready : goal.read_on-progress-requires-clause-ready
read_on-progress-requires-clause-ready g c = is_ready (head g (goal.at.read_on-progress-requires-clause-ready g c).After-known)

-- what the last step comes to
has_read : (g : Over) (c : After-go g) → StandsAt g.D.Disk (record { volume = c.self.inside.volume; tasks = c.self.inside.tasks; table = c.self.inside.inodes }) c.args.pid (Stage.Reading c.args.place c.args.reading.value)
    → IsStore g.D.Disk.image (record { volume = c.read_on-progress.new.volume; tasks = c.go.new.self; table = c.self.inside.inodes })
    × ((op : Op) → Steps g.D.Disk c.args.self.now c.args.pid op TaskProgress.Moved (record { volume = c.read_on-progress.new.volume; tasks = c.go.new.self; table = c.self.inside.inodes }))
has_read g c h =
    let k = c.args.place in
    let n = c.read_on-progress.ensures.now in
    let w = c.read_on-progress.new.volume in
    let into = c.read_on-progress.new.into in
    let had : (task c.self.inside.tasks c.args.pid).gathered ≡ Some c.take_bytes-bytes.result = search rules in
    let reads = subst (λ (r : Progress (Unit {0})). ReadSteps g.D.Disk c.self.inside.volume c.args.pid c.args.reading.value c.take_bytes-bytes.result r w n into) (came tt c.read_on-progress.result c.in-Ok.ensures) c.read_on-progress.ensures.reads in
    let tasks = changed_after c.self.inside.tasks c.keep_bytes.new.self c.go.new.self c.args.pid (record (task c.self.inside.tasks c.args.pid) { stage = Stage.Reading k n; gathered = Some into }) (λ t. record t { stage = Stage.Delivering k }) h.inside
    (reads_with c.self.inside.tasks c.take_bytes-bytes.new.self c.read_on-progress.new.self c.keep_bytes.new.self c.args.pid (Stage.Reading k n) into h.inside c.take_bytes-bytes.ensures.tasks c.read_on-progress.ensures.tasks c.keep_bytes.ensures) c.go.ensures in
    (store_read h had (Progress.Over tt) n w into reads c.go.new.self tasks, λ op. steps_as c.self.view_is refl refl (steps_read h had (Progress.Over tt) n w into reads c.go.new.self tasks op))

pub invariant_of-self : goal.invariant_of-self
invariant_of-self g c = let at = goal.at.invariant_of-self g c in (has_read g at.After-go (head g at.After-known)).0

pub returns-in-Ok : goal.returns-in-Ok
returns-in-Ok g c = let at = goal.at.returns-in-Ok g c in record { step = λ op is. (has_read g at.After-go (head g at.After-known)).1 op }

-- what any other step comes to
reads_on : (g : Over) (c : In-Err g) → StandsAt g.D.Disk (record { volume = c.self.inside.volume; tasks = c.self.inside.tasks; table = c.self.inside.inodes }) c.args.pid (Stage.Reading c.args.place c.args.reading.value)
    → IsStore g.D.Disk.image (record { volume = c.read_on-progress.new.volume; tasks = c.keep_bytes.new.self; table = c.self.inside.inodes })
    × ((op : Op) → Steps g.D.Disk c.args.self.now c.args.pid op c.in-Err.progress (record { volume = c.read_on-progress.new.volume; tasks = c.keep_bytes.new.self; table = c.self.inside.inodes }))
reads_on g c h =
    let k = c.args.place in
    let r = c.read_on-progress.result in
    let m = c.args.reading.value in
    let n = c.read_on-progress.ensures.now in
    let w = c.read_on-progress.new.volume in
    let into = c.read_on-progress.new.into in
    let us = c.take_bytes-bytes.new.self in
    let had : (task c.self.inside.tasks c.args.pid).gathered ≡ Some c.take_bytes-bytes.result = search rules in
    let place = stands (Stage.Reading k m) (Stage.Reading k n) (λ out. Stage.Delivering k) r c.in-Err.progress c.in-Err.ensures
    (λ rests. ap (Stage.Reading k) (reads_stay g.D.Disk c.self.inside.volume w c.args.pid m n c.take_bytes-bytes.result into r c.read_on-progress.ensures.reads rests)) in
    let tasks = reads_with c.self.inside.tasks us c.read_on-progress.new.self c.keep_bytes.new.self c.args.pid (stage_of_reading k m n r) into h.inside c.take_bytes-bytes.ensures.tasks
    (c.read_on-progress.ensures.tasks ∙ ap (λ (a : Stage). set us c.args.pid (record (task us c.args.pid) { stage = a })) (sym place)) c.keep_bytes.ensures in (
      store_read h had r n w into c.read_on-progress.ensures.reads c.keep_bytes.new.self tasks,
      λ op. steps_as c.self.view_is (told (λ out. TaskProgress.Moved) r c.in-Err.progress c.in-Err.ensures) refl (steps_read h had r n w into c.read_on-progress.ensures.reads c.keep_bytes.new.self tasks op),
    )

pub invariant_of-self-in-Err : goal.invariant_of-self-in-Err
invariant_of-self-in-Err g c = let at = goal.at.invariant_of-self-in-Err g c in (reads_on g at.In-Err (head g at.After-known)).0

pub returns-in-Err : goal.returns-in-Err
returns-in-Err g c = let at = goal.at.returns-in-Err g c in record { step = λ op is. (reads_on g at.In-Err (head g at.After-known)).1 op }
