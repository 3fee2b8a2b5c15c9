use Rattle.std.proofs.Common.{rules, ◌≡◌, ◌<◌, length, refl, sym, ap, subst, List, ℕ, Option}
use Rattle.std.specs.Prelude.{Some}
use Rattle.inodes.specs.Common.{IsStore, Op, Progress, Reply, reply_of, SearchSteps, Stage, Steps, task, TaskProgress, TaskState}
use Rattle.inodes.proofs.GoingOn.{came, search_goes, told}
use Rattle.inodes.proofs.Standing.{steps_as}
use Rattle.inodes.proofs.Staying.{left_after}
use Rattle.inodes.proofs.SearchNow.{ready_now, store_now, steps_now}
use Rattle.inodes.proofs.store.Store.search.Given.{Over}
use Rattle.inodes.proofs.store.Store.search.Goals.{After-reply_of, In-Err}
use Rattle.inodes.proofs.store.Store.search.Goals as goal

pub search_on-requires-clause-ready : goal.search_on-requires-clause-ready
search_on-requires-clause-ready g c = ready_now g.D.Disk _ c.args.self.now c.args.pid c.args.search.value c.self.invariant c.self.view_is c.requires.fault c.requires.pid c.requires.at c.known.ensures.joint

-- what the last step comes to
searched : (g : Over) (c : After-reply_of g) → IsStore g.D.Disk.image (record { volume = c.search_on.new.volume; tasks = c.go.new.self; table = c.self.inside.inodes })
    × ((op : Op) → (task c.args.self.now.tasks c.args.pid).op ≡ Some op → Steps g.D.Disk c.args.self.now c.args.pid op (TaskProgress.Turned (Some c.reply_of.result)) (record { volume = c.search_on.new.volume; tasks = c.go.new.self; table = c.self.inside.inodes }))
searched g c =
    let v = c.self.inside.volume in
    let w = c.search_on.new.volume in
    let m = c.args.search.value in
    let n = c.search_on.ensures.now in
    let lt : c.args.pid < length c.self.inside.tasks = search rules in
    let steps = subst (λ (r : Progress (Option ℕ)). SearchSteps g.D.Disk m.slot v w c.args.pid m n r) (came c.in-Ok.made c.search_on.result c.in-Ok.ensures) c.search_on.ensures.steps in
    let tasks = left_after c.self.inside.tasks c.search_on.new.self c.go.new.self c.args.pid (Stage.Creating n) Stage.Nowhere lt c.search_on.ensures.tasks c.go.ensures in (
      subst (λ (ts : List TaskState). IsStore g.D.Disk.image (record { volume = w; tasks = ts; table = c.self.inside.inodes })) (sym tasks)
          (store_now g.D.Disk _ c.args.self.now c.args.pid m c.self.invariant c.self.view_is c.requires.fault c.requires.pid c.requires.at c.known.ensures.joint c.image_known.ensures w n (Progress.Over c.in-Ok.made) steps),
      λ op is. steps_as refl (ap (λ (reply : Reply). TaskProgress.Turned (Some reply)) (sym c.reply_of.ensures)) (ap (λ (ts : List TaskState). record { volume = w; tasks = ts; table = c.self.inside.inodes }) (sym tasks))
          (steps_now g.D.Disk _ c.args.self.now c.args.pid m c.self.invariant c.self.view_is c.requires.fault c.requires.pid c.requires.at c.known.ensures.joint c.image_known.ensures w n (Progress.Over c.in-Ok.made) steps op is),
    )

pub invariant_of-self : goal.invariant_of-self
invariant_of-self g c = (searched g (goal.at.invariant_of-self g c).After-reply_of).0

pub returns-in-Ok : goal.returns-in-Ok
returns-in-Ok g c = record { step = (searched g (goal.at.returns-in-Ok g c).After-reply_of).1 }

-- what any other step comes to
searches_on : (g : Over) (c : In-Err g) → IsStore g.D.Disk.image (record { volume = c.search_on.new.volume; tasks = c.search_on.new.self; table = c.self.inside.inodes })
    × ((op : Op) → (task c.args.self.now.tasks c.args.pid).op ≡ Some op → Steps g.D.Disk c.args.self.now c.args.pid op c.in-Err.progress (record { volume = c.search_on.new.volume; tasks = c.search_on.new.self; table = c.self.inside.inodes }))
searches_on g c =
    let w = c.search_on.new.volume in
    let m = c.args.search.value in
    let n = c.search_on.ensures.now in
    let r = c.search_on.result in
    let same = search_goes g.D.Disk c.self.inside.volume w c.args.pid m c.self.inside.tasks c.search_on.new.self r c.in-Err.progress c.in-Err.ensures c.search_on.ensures (search rules) in (
      subst (λ (ts : List TaskState). IsStore g.D.Disk.image (record { volume = w; tasks = ts; table = c.self.inside.inodes })) (sym same)
          (store_now g.D.Disk _ c.args.self.now c.args.pid m c.self.invariant c.self.view_is c.requires.fault c.requires.pid c.requires.at c.known.ensures.joint c.image_known.ensures w n r c.search_on.ensures.steps),
      λ op is. steps_as refl (told (λ made. TaskProgress.Turned (Some (reply_of made))) r c.in-Err.progress c.in-Err.ensures) (ap (λ (ts : List TaskState). record { volume = w; tasks = ts; table = c.self.inside.inodes }) (sym same))
          (steps_now g.D.Disk _ c.args.self.now c.args.pid m c.self.invariant c.self.view_is c.requires.fault c.requires.pid c.requires.at c.known.ensures.joint c.image_known.ensures w n r c.search_on.ensures.steps op is),
    )

pub invariant_of-self-in-Err : goal.invariant_of-self-in-Err
invariant_of-self-in-Err g c = (searches_on g (goal.at.invariant_of-self-in-Err g c).In-Err).0

pub returns-in-Err : goal.returns-in-Err
returns-in-Err g c = record { step = (searches_on g (goal.at.returns-in-Err g c).In-Err).1 }
