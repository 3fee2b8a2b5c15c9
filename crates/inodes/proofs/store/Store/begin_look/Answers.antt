use Rattle.std.proofs.Common.{rules, ◌≡◌, ℕ, sym, ◌∙◌, ap, subst, List, Some}
use Rattle.inodes.specs.Store.{FitsFiles}
use Rattle.std.specs.Prelude.{slice_set}
use Rattle.inodes.specs.Common.{CanLook, IsStore, LockAt, LockState, Stage, StoreState, TaskState}
use Rattle.inodes.proofs.Taking.{look_task, store_looks, files_look}
use Rattle.inodes.proofs.store.Store.begin_look.Given.{Over}
use Rattle.inodes.proofs.store.Store.begin_look.Goals.{After-begin}
use Rattle.inodes.proofs.store.Store.begin_look.Goals as goal

-- its task then
begins : (g : Over) (c : After-begin g) → c.begin.new.self ≡ slice_set c.self.inside.tasks c.args.pid (look_task c.args.op.now c.args.room)
begins g c = c.begin.ensures ∙ ap (λ (m : LockState). slice_set c.self.inside.tasks c.args.pid (record { op = Some c.args.op.now; stage = Stage.Taking m; gathered = c.args.room }))
    (c.new-lock.ensures ∙ ap (λ (i : ℕ). record { number = i; at = LockAt.Reference }) c.asked.ensures)

pub invariant_of-self : goal.invariant_of-self
invariant_of-self g c =
    let s : StoreState _ = record { volume = c.self.inside.volume; tasks = c.self.inside.tasks; table = c.self.inside.inodes } in
    let can = subst (λ (k : StoreState _). CanLook k.table.inode_count c.args.op.now) (sym c.self.view_is) c.requires.op in
    subst (λ (ts : List TaskState). IsStore g.D.Disk.image (record s { tasks = ts })) (sym (begins g (goal.at.invariant_of-self g c).After-begin))
    (store_looks g.D.Disk.image s c.args.pid c.args.op.now c.args.room c.self.invariant (search rules) (search rules) (search rules) can c.requires.room)

pub returns-clause-files : goal.returns-clause-files
returns-clause-files g c = λ files fits.
    let s : StoreState _ = record { volume = c.self.inside.volume; tasks = c.self.inside.tasks; table = c.self.inside.inodes } in
    subst (λ (ts : List TaskState). FitsFiles g.D.Disk.image (record s { tasks = ts }) files) (sym (begins g (goal.at.returns-clause-files g c).After-begin))
    (files_look g.D.Disk.image s c.args.pid c.args.op.now c.args.room (search rules) files (subst (λ (k : StoreState _). FitsFiles g.D.Disk.image k files) (sym c.self.view_is) fits))
