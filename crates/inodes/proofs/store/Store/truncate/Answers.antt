use Rattle.std.proofs.Common.{rules, ◌≡◌, ◌<◌, length, set, get_or-set_same, sym, ◌∙◌, ap, subst, List, Option, None, Some}
use Rattle.std.specs.Prelude.{IfSome}
use Rattle.inodes.specs.Common.{Dinode, FreesOn, inode_left, IsStore, no_task, now_of, stage_of_trunc, Progress, progress_of_trunc, renewed, Stage, Steps, StoreState, table_of_trunc, TableState, task, TaskProgress, TaskState}
use Rattle.inodes.specs.InPlace.{freeing_at}
use Rattle.inodes.specs.Lemmas.Faults.{where_none}
use Rattle.inodes.proofs.GoingOn.{came, leaves, stands, told}
use Rattle.inodes.proofs.Staying.{left_after, truncs_stay}
use Rattle.inodes.proofs.TruncSteps.{left_same, store_truncated, steps_truncated}
use Rattle.inodes.proofs.Truncating.{may, in_table, inode_there}
use Rattle.inodes.proofs.store.Store.truncate.Given.{Over}
use Rattle.inodes.proofs.store.Store.truncate.Goals.{After-go, In-Err}
use Rattle.inodes.proofs.store.Store.truncate.Goals as goal

pub trunc_on-requires-clause-ready : goal.trunc_on-requires-clause-ready
trunc_on-requires-clause-ready g c =
    let s : StoreState _ = record { volume = c.self.inside.volume; tasks = c.self.inside.tasks; table = c.self.inside.inodes } in
    let well : s.volume.fault ≡ None = search rules in
    may g.D.Disk s c.args.pid c.args.place c.args.trunc.value c.self.invariant well (search rules) (where_none s.volume.fault well c.known.ensures.joint)

pub renew-requires-clause-place : goal.renew-requires-clause-place
renew-requires-clause-place g c =
    in_table g.D.Disk _ c.args.pid c.args.place c.args.trunc.value c.self.invariant (search rules) (search rules)

pub renew-requires-clause-inode : goal.renew-requires-clause-inode
renew-requires-clause-inode g c =
    inode_there g.D.Disk _ c.args.pid c.args.place c.args.trunc.value c.self.invariant (search rules) (search rules)

-- the last step
module _ (g : Over) (c : After-go g) where
  abbrev s : StoreState g.row.D.Denot
  s = record { volume = c.self.inside.volume; tasks = c.self.inside.tasks; table = c.self.inside.inodes }

  well : s.volume.fault ≡ None
  well = search rules

  lt : c.args.pid < length s.tasks
  lt = search rules

  ended : FreesOn g.D.Disk (now_of c.args.trunc.value) s.volume c.args.pid c.args.trunc.value (Progress.Over tt) c.trunc_on.ensures.now c.trunc_on.new.volume
  ended = subst (λ (r : Progress (Unit {0})). FreesOn g.D.Disk (now_of c.args.trunc.value) s.volume c.args.pid c.args.trunc.value r c.trunc_on.ensures.now c.trunc_on.new.volume) (came tt c.trunc_on.result c.in-Ok.ensures) c.trunc_on.ensures.steps

  tasks : c.go.new.self ≡ set s.tasks c.args.pid (record (task s.tasks c.args.pid) { stage = Stage.Leaving c.args.place })
  tasks = left_after s.tasks c.trunc_on.new.self c.go.new.self c.args.pid (Stage.Truncating c.args.place c.trunc_on.ensures.now) (Stage.Leaving c.args.place) lt c.trunc_on.ensures.tasks c.go.ensures

  left : c.renew.new.self ≡ renewed s.table c.args.place (inode_left c.args.trunc.value.machine)
  left =
      let there : (task c.trunc_on.new.self c.args.pid).stage ≡ Stage.Truncating c.args.place c.trunc_on.ensures.now = ap (λ (l : List TaskState). (task l c.args.pid).stage) c.trunc_on.ensures.tasks ∙ ap (λ (t : TaskState). t.stage) (get_or-set_same s.tasks c.args.pid (record (task s.tasks c.args.pid) { stage = Stage.Truncating c.args.place c.trunc_on.ensures.now }) no_task lt) in
      let end : c.left.result ≡ inode_left c.args.trunc.value.machine = subst (λ (a : Stage). IfSome (freeing_at a) (λ m. c.left.result ≡ inode_left m.machine)) there c.left.ensures
      ∙ left_same g.D.Disk s.volume c.trunc_on.new.volume c.args.pid c.args.trunc.value c.trunc_on.ensures.now (now_of c.args.trunc.value) ended in
      subst (λ (o : Option Dinode). c.renew.new.self ≡ renewed c.self.inside.inodes c.args.place o) end c.renew.ensures

pub invariant_of-self : goal.invariant_of-self
invariant_of-self g c =
    let a = (goal.at.invariant_of-self g c).After-go in
    let before = s g a in
    subst (λ (t : TableState). IsStore g.D.Disk.image (record { volume = c.trunc_on.new.volume; tasks = c.go.new.self; table = t })) (sym (left g a))
    (store_truncated g.D.Disk before c.args.pid c.args.place c.args.trunc.value c.self.invariant (well g a) (search rules) (lt g a) (where_none before.volume.fault (well g a) c.known.ensures.joint)
    (Progress.Over tt) c.trunc_on.ensures.now c.trunc_on.new.volume c.go.new.self (ended g a) (tasks g a))

pub returns-in-Ok : goal.returns-in-Ok
returns-in-Ok g c =
    let a = (goal.at.returns-in-Ok g c).After-go in
    let before = s g a in
    let stood : (task before.tasks c.args.pid).stage ≡ Stage.Truncating c.args.place c.args.trunc.value = search rules in
    record {
      step = λ op is. subst (λ (t : TableState). Steps g.D.Disk c.args.self.now c.args.pid op TaskProgress.Moved (record { volume = c.trunc_on.new.volume; tasks = c.go.new.self; table = t })) (sym (left g a))
          (subst (λ (o : StoreState _). Steps g.D.Disk o c.args.pid op TaskProgress.Moved (record { volume = c.trunc_on.new.volume; tasks = c.go.new.self; table = renewed before.table c.args.place (inode_left c.args.trunc.value.machine) })) c.self.view_is
          (steps_truncated g.D.Disk before c.args.pid c.args.place c.args.trunc.value c.self.invariant (well g a) stood (lt g a) (where_none before.volume.fault (well g a) c.known.ensures.joint)
          (Progress.Over tt) c.trunc_on.ensures.now c.trunc_on.new.volume c.go.new.self (ended g a) (tasks g a) op (subst (λ (o : StoreState _). (task o.tasks c.args.pid).op ≡ Some op) (sym c.self.view_is) is)));
    }

-- any other step
module _ (g : Over) (c : In-Err g) where
  abbrev was : StoreState g.row.D.Denot
  was = record { volume = c.self.inside.volume; tasks = c.self.inside.tasks; table = c.self.inside.inodes }

  whole : was.volume.fault ≡ None
  whole = search rules

  goes : c.trunc_on.new.self ≡ set was.tasks c.args.pid (record (task was.tasks c.args.pid) { stage = stage_of_trunc c.args.place c.args.trunc.value c.trunc_on.ensures.now c.trunc_on.result })
  goes =
      let r = c.trunc_on.result in
      let m = c.args.trunc.value in
      let n = c.trunc_on.ensures.now in
      subst (λ (a : Stage). c.trunc_on.new.self ≡ set was.tasks c.args.pid (record (task was.tasks c.args.pid) { stage = a }))
      (sym (stands (Stage.Truncating c.args.place m) (Stage.Truncating c.args.place n) (λ out. Stage.Leaving c.args.place) r c.in-Err.progress c.in-Err.ensures
      (λ rests. ap (Stage.Truncating c.args.place) (truncs_stay g.D.Disk was.volume c.trunc_on.new.volume c.args.pid m n (now_of m) r c.trunc_on.ensures.steps rests)))) c.trunc_on.ensures.tasks

  table : table_of_trunc was.table c.args.place c.args.trunc.value c.trunc_on.result ≡ was.table
  table = leaves was.table (λ out. renewed was.table c.args.place (inode_left c.args.trunc.value.machine)) c.trunc_on.result c.in-Err.progress c.in-Err.ensures

pub invariant_of-self-in-Err : goal.invariant_of-self-in-Err
invariant_of-self-in-Err g c =
    let e = (goal.at.invariant_of-self-in-Err g c).In-Err in
    subst (λ (t : TableState). IsStore g.D.Disk.image (record { volume = c.trunc_on.new.volume; tasks = c.trunc_on.new.self; table = t })) (table g e)
    (store_truncated g.D.Disk (was g e) c.args.pid c.args.place c.args.trunc.value c.self.invariant (whole g e) (search rules) (search rules) (where_none (was g e).volume.fault (whole g e) c.known.ensures.joint)
    c.trunc_on.result c.trunc_on.ensures.now c.trunc_on.new.volume c.trunc_on.new.self c.trunc_on.ensures.steps (goes g e))

pub returns-in-Err : goal.returns-in-Err
returns-in-Err g c =
    let e = (goal.at.returns-in-Err g c).In-Err in
    let r = c.trunc_on.result in
    record {
      step = λ op is. subst (λ (q : TaskProgress). Steps g.D.Disk c.args.self.now c.args.pid op q (record { volume = c.trunc_on.new.volume; tasks = c.trunc_on.new.self; table = c.self.inside.inodes })) (told (λ out. TaskProgress.Moved) r c.in-Err.progress c.in-Err.ensures)
          (subst (λ (t : TableState). Steps g.D.Disk c.args.self.now c.args.pid op (progress_of_trunc r) (record { volume = c.trunc_on.new.volume; tasks = c.trunc_on.new.self; table = t })) (table g e)
          (subst (λ (o : StoreState _). Steps g.D.Disk o c.args.pid op (progress_of_trunc r) (record { volume = c.trunc_on.new.volume; tasks = c.trunc_on.new.self; table = table_of_trunc c.self.inside.inodes c.args.place c.args.trunc.value r })) c.self.view_is
          (steps_truncated g.D.Disk (was g e) c.args.pid c.args.place c.args.trunc.value c.self.invariant (whole g e) (search rules) (search rules) (where_none (was g e).volume.fault (whole g e) c.known.ensures.joint)
          r c.trunc_on.ensures.now c.trunc_on.new.volume c.trunc_on.new.self c.trunc_on.ensures.steps (goes g e) op (subst (λ (o : StoreState _). (task o.tasks c.args.pid).op ≡ Some op) (sym c.self.view_is) is))));
    }
