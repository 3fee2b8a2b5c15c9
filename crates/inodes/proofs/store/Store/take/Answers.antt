use Rattle.std.proofs.Common.{rules, refl, ◌≡◌, ◌<◌, ◌≤◌, ℕ, Bool, cond, List, set, sym, ap, ◌∙◌, subst, Option, Some, None}
use Rattle.inodes.specs.Common.{copy_at, current_of, Dinode, Extent, extent_of, Form, IsStore, LockSteps, LogState, place_of, Progress, Reply, Stage, Steps, task, TaskProgress, TaskState}
use Rattle.model.specs.Layout.{inode_of}
use Rattle.inodes.specs.Lemmas.Faults.{where_none}
use Rattle.inodes.specs.Turning.{IsReadable, if_used, reply_when_taken, stage_when_taken}
use Rattle.inodes.proofs.Taking.{can_take, few_bytes, may_lock}
use Rattle.inodes.proofs.GoingOn.{came, stands, told}
use Rattle.inodes.proofs.Standing.{StandsAt, steps_as}
use Rattle.inodes.proofs.Staying.{locks_stay}
use Rattle.inodes.proofs.TakingSteps.{store_taken, steps_taken, taken, place_taken, inode_taken, readable_taken, few_numbers}
use Rattle.inodes.proofs.store.Store.take.Given.{Over}
use Rattle.inodes.proofs.store.Store.take.Goals.{After-known, After-extent_of-extent, After-go_taking, In-Ok}
use Rattle.inodes.proofs.store.Store.take.Goals as goal

head : (g : Over) (c : After-known g) → StandsAt g.D.Disk (record { volume = c.self.inside.volume; tasks = c.self.inside.tasks; table = c.self.inside.inodes }) c.args.pid (Stage.Taking c.args.lock)
    × ((task c.self.inside.tasks c.args.pid).op ≡ Some c.args.op.now)
head g c =
    let well : c.self.inside.volume.fault ≡ None = search rules in
    (record { is = c.self.invariant; well = well; inside = search rules; stood = search rules; joint = where_none c.self.inside.volume.fault well c.known.ensures.joint }, search rules)

-- the last step
steps : (g : Over) (c : In-Ok g) → LockSteps g.D.Disk c.args.lock.at c.self.inside.inodes c.self.inside.volume c.args.pid c.args.lock (Progress.Over c.in-Ok.is_used) c.step.new.table c.step.new.volume c.step.new.self
steps g c = subst (λ (r : Progress Bool). LockSteps g.D.Disk c.args.lock.at c.self.inside.inodes c.self.inside.volume c.args.pid c.args.lock r c.step.new.table c.step.new.volume c.step.new.self) (came c.in-Ok.is_used c.step.result c.in-Ok.ensures) c.step.ensures

pub step-requires-clause-ready : goal.step-requires-clause-ready
step-requires-clause-ready g c =
    let h = head g (goal.at.step-requires-clause-ready g c).After-known in
    may_lock h.0 h.1

pub inode_at-inode-requires : goal.inode_at-inode-requires
inode_at-inode-requires g c =
    let at = goal.at.inode_at-inode-requires g c in
    let h = head g at.After-known in
    subst (λ (k : ℕ). k < 50) (sym c.place-place.ensures) (place_taken h.0 h.1 c.in-Ok.is_used c.step.new.self c.step.new.volume c.step.new.table (steps g at.In-Ok))

pub extent_of-extent-requires : goal.extent_of-extent-requires
extent_of-extent-requires g c =
    let at = goal.at.extent_of-extent-requires g c in
    let h = head g at.After-known in
    subst (λ (n : ℕ). n ≤ 1024) (sym c.inode_count.ensures) (few_numbers h.0 h.1 c.in-Ok.is_used c.step.new.self c.step.new.volume c.step.new.table (steps g at.In-Ok))

pub reply_when_taken-requires : goal.reply_when_taken-requires
reply_when_taken-requires g c =
    let h = head g (goal.at.reply_when_taken-requires g c).After-known in
    few_bytes c.self.inside.inodes.inode_count c.args.op.now (can_take h.0 h.1)

-- the inode that was taken, and the image that it goes on over
record Taken (g : Over) (c : After-extent_of-extent g) : Type 0 where
  inode : c.inode_at-inode.result ≡ if_used c.in-Ok.is_used (inode_of (current_of g.D.Disk.image c.self.inside.volume) c.args.lock.number)
  form : c.form-form.result ≡ c.self.inside.inodes.form
  extent : c.extent_of-extent.result ≡ extent_of c.self.inside.inodes.form c.self.inside.inodes.inode_count c.self.inside.volume.log.size

found : (g : Over) (c : After-extent_of-extent g) → StandsAt g.D.Disk (record { volume = c.self.inside.volume; tasks = c.self.inside.tasks; table = c.self.inside.inodes }) c.args.pid (Stage.Taking c.args.lock)
    × ((task c.self.inside.tasks c.args.pid).op ≡ Some c.args.op.now)
    → LockSteps g.D.Disk c.args.lock.at c.self.inside.inodes c.self.inside.volume c.args.pid c.args.lock (Progress.Over c.in-Ok.is_used) c.step.new.table c.step.new.volume c.step.new.self → Taken g c
found g c h did =
    let t = c.self.inside.inodes in
    let it = (taken h.0 h.1 c.in-Ok.is_used c.step.new.self c.step.new.volume c.step.new.table did).1 in
    let form = c.form-form.ensures ∙ it.form in
    record {
      inode = c.inode_at-inode.ensures ∙ ap (λ (k : ℕ). cond c.in-Ok.is_used (copy_at c.step.new.table.places k) None) c.place-place.ensures ∙ inode_taken h.0 h.1 c.in-Ok.is_used c.step.new.self c.step.new.volume c.step.new.table did;
      form = form;
      extent = c.extent_of-extent.ensures ∙ ap (λ (f : Form). extent_of f c.inode_count.result c.size.result) form ∙ ap (λ (n : ℕ). extent_of t.form n c.size.result) (c.inode_count.ensures ∙ it.count)
          ∙ ap (extent_of t.form t.inode_count) (c.size.ensures ∙ ap (λ (l : LogState). l.size) (c.log.ensures ∙ it.log));
    }

pub stage_when_taken-requires : goal.stage_when_taken-requires
stage_when_taken-requires g c =
    let at = goal.at.stage_when_taken-requires g c in
    let h = head g at.After-known in
    let did = steps g at.In-Ok in
    let t = found g at.After-extent_of-extent h did in
    record {
      inode = subst (λ (f : Form). IsReadable f c.inode_at-inode.result) (sym (ap (λ (e : Extent). e.form) t.extent))
          (subst (IsReadable c.self.inside.inodes.form) (sym t.inode) (readable_taken h.0 h.1 c.in-Ok.is_used c.step.new.self c.step.new.volume c.step.new.table did));
      few = few_bytes c.self.inside.inodes.inode_count c.args.op.now (can_take h.0 h.1);
    }

-- what the last step comes to, which goes on at stage a, and says r
turned : (g : Over) (c : After-extent_of-extent g) → StandsAt g.D.Disk (record { volume = c.self.inside.volume; tasks = c.self.inside.tasks; table = c.self.inside.inodes }) c.args.pid (Stage.Taking c.args.lock)
    × ((task c.self.inside.tasks c.args.pid).op ≡ Some c.args.op.now)
    → LockSteps g.D.Disk c.args.lock.at c.self.inside.inodes c.self.inside.volume c.args.pid c.args.lock (Progress.Over c.in-Ok.is_used) c.step.new.table c.step.new.volume c.step.new.self
    → (a : Stage) (r : Option Reply) (ts : List TaskState) → a ≡ stage_when_taken c.extent_of-extent.result c.inode_at-inode.result c.place-place.result c.args.op.now
    → r ≡ reply_when_taken c.form-form.result c.inode_at-inode.result c.args.op.now → ts ≡ set c.self.inside.tasks c.args.pid (record (task c.self.inside.tasks c.args.pid) { stage = a })
    → IsStore g.D.Disk.image (record { volume = c.step.new.volume; tasks = ts; table = c.step.new.table })
    × Steps g.D.Disk c.args.self.now c.args.pid c.args.op.now (TaskProgress.Turned r) (record { volume = c.step.new.volume; tasks = ts; table = c.step.new.table })
turned g c h did a r ts there says goes =
    let t = c.self.inside.inodes in
    let f = found g c h did in
    let used = c.in-Ok.is_used in
    let d = inode_of (current_of g.D.Disk.image c.self.inside.volume) c.args.lock.number in
    let e = extent_of t.form t.inode_count c.self.inside.volume.log.size in
    let now : a ≡ stage_when_taken e (if_used used d) (place_of c.step.new.self.at) c.args.op.now = there
    ∙ ap (λ (x : Extent). stage_when_taken x c.inode_at-inode.result c.place-place.result c.args.op.now) f.extent
    ∙ ap (λ (o : Option Dinode). stage_when_taken e o c.place-place.result c.args.op.now) f.inode ∙ ap (λ (k : ℕ). stage_when_taken e (if_used used d) k c.args.op.now) c.place-place.ensures in
    let goes_on = goes ∙ ap (λ (b : Stage). set c.self.inside.tasks c.args.pid (record (task c.self.inside.tasks c.args.pid) { stage = b })) now in
    let told_so : r ≡ reply_when_taken t.form (if_used used d) c.args.op.now
    = says ∙ ap (λ (x : Form). reply_when_taken x c.inode_at-inode.result c.args.op.now) f.form ∙ ap (λ (o : Option Dinode). reply_when_taken t.form o c.args.op.now) f.inode in (
      store_taken h.0 h.1 (Progress.Over used) c.step.new.self c.step.new.volume c.step.new.table ts did goes_on,
      steps_as c.self.view_is (sym (ap TaskProgress.Turned told_so)) refl (steps_taken h.0 h.1 (Progress.Over used) c.step.new.self c.step.new.volume c.step.new.table ts did goes_on),
    )

pub invariant_of-self : goal.invariant_of-self
invariant_of-self g c =
    let at = goal.at.invariant_of-self g c in
    (turned g at.After-extent_of-extent (head g at.After-known) (steps g at.In-Ok) c.stage_when_taken.result c.reply_when_taken.result c.go.new.self c.stage_when_taken.ensures c.reply_when_taken.ensures c.go.ensures).0

pub returns-in-Ok : goal.returns-in-Ok
returns-in-Ok g c =
    let at = goal.at.returns-in-Ok g c in
    record { step = (turned g at.After-extent_of-extent (head g at.After-known) (steps g at.In-Ok) c.stage_when_taken.result c.reply_when_taken.result c.go.new.self c.stage_when_taken.ensures c.reply_when_taken.ensures c.go.ensures).1 }

-- what any other step comes to
taking_on : (g : Over) (c : After-go_taking g) → StandsAt g.D.Disk (record { volume = c.self.inside.volume; tasks = c.self.inside.tasks; table = c.self.inside.inodes }) c.args.pid (Stage.Taking c.args.lock)
    × ((task c.self.inside.tasks c.args.pid).op ≡ Some c.args.op.now)
    → IsStore g.D.Disk.image (record { volume = c.step.new.volume; tasks = c.go_taking.new.self; table = c.step.new.table })
    × Steps g.D.Disk c.args.self.now c.args.pid c.args.op.now c.in-Err.progress (record { volume = c.step.new.volume; tasks = c.go_taking.new.self; table = c.step.new.table })
taking_on g c h =
    let t = c.self.inside.inodes in
    let r = c.step.result in
    let m = c.args.lock in
    let n = c.step.new.self in
    let d = inode_of (current_of g.D.Disk.image c.self.inside.volume) m.number in
    let goes = c.go_taking.ensures ∙ ap (λ (a : Stage). set c.self.inside.tasks c.args.pid (record (task c.self.inside.tasks c.args.pid) { stage = a }))
    (sym (stands (Stage.Taking m) (Stage.Taking n) (λ used. stage_when_taken (extent_of t.form t.inode_count c.self.inside.volume.log.size) (if_used used d) (place_of n.at) c.args.op.now) r c.in-Err.progress c.in-Err.ensures
    (λ rests. ap Stage.Taking (locks_stay g.D.Disk c.self.inside.volume c.step.new.volume t c.step.new.table c.args.pid m n m.at r refl c.step.ensures rests)))) in (
      store_taken h.0 h.1 r n c.step.new.volume c.step.new.table c.go_taking.new.self c.step.ensures goes,
      steps_as c.self.view_is (told (λ used. TaskProgress.Turned (reply_when_taken t.form (if_used used d) c.args.op.now)) r c.in-Err.progress c.in-Err.ensures) refl
          (steps_taken h.0 h.1 r n c.step.new.volume c.step.new.table c.go_taking.new.self c.step.ensures goes),
    )

pub invariant_of-self-in-Err : goal.invariant_of-self-in-Err
invariant_of-self-in-Err g c = let at = goal.at.invariant_of-self-in-Err g c in (taking_on g at.After-go_taking (head g at.After-known)).0

pub returns-in-Err : goal.returns-in-Err
returns-in-Err g c = let at = goal.at.returns-in-Err g c in record { step = (taking_on g at.After-go_taking (head g at.After-known)).1 }
