use Rattle.std.proofs.Common.{rules, ◌≡◌, ◌<◌, length, length-set, sym, ◌∙◌, ap, subst, arith, List}
use Rattle.std.specs.Prelude.{None, Some, slice_set}
use Rattle.inodes.specs.Common.{begun, CanBegin, claims_of, current_of, first_stage, FitsHeld, held_alike, IsStore, Stage, StoreState, TaskState, VolumeState}
use Rattle.inodes.specs.Store.{FitsFiles}
use Rattle.inodes.specs.Lemmas.Faults.{where_none, if_none}
use Rattle.inodes.proofs.LooksKept.{looks_begun}
use Rattle.inodes.proofs.Standing.{with_others}
use Rattle.inodes.proofs.StoreKeeps.{agrees_begun, begun_claims, logged_begun}
use Rattle.inodes.proofs.store.Store.begin.Given.{Over}
use Rattle.inodes.proofs.store.Store.begin.Goals.{After-begin}
use Rattle.inodes.proofs.store.Store.begin.Goals as goal

-- its task then
begins : (g : Over) (c : After-begin g) → c.begin.new.self ≡ slice_set c.self.inside.tasks c.args.pid (record { op = Some c.args.op.now; stage = first_stage c.args.op.now c.self.inside.inodes.inode_count; gathered = None })
begins g c = c.begin.ensures ∙ ap (λ (a : Stage). slice_set c.self.inside.tasks c.args.pid (record { op = Some c.args.op.now; stage = a; gathered = None }))
    (c.first_stage-stage.ensures ∙ ap (first_stage c.args.op.now) c.inode_count.ensures)

pub invariant_of-self : goal.invariant_of-self
invariant_of-self g c =
    let image = g.D.Disk.image in
    let old = c.self.inside.volume in
    let n = c.self.inside.inodes.inode_count in
    let ts = c.self.inside.tasks in
    let well : old.fault ≡ None = search rules in
    let lt : c.args.pid < length ts = search rules in
    let tasks = begins g (goal.at.invariant_of-self g c).After-begin in
    let can : CanBegin n c.args.op.now = subst (λ (s : StoreState _). CanBegin s.table.inode_count c.args.op.now) (sym c.self.view_is) c.requires.op in
    subst (λ (v : VolumeState _). IsStore image (record { volume = v; tasks = c.begin.new.self; table = c.self.inside.inodes })) (sym c.open_group.ensures.volume)
    (subst (λ (us : List TaskState). IsStore image (record { volume = record old { log = begun old.log c.args.pid }; tasks = us; table = c.self.inside.inodes })) (sym tasks) (with_others image _ _ _ c.self.invariant
    (let size = length-set ts c.args.pid (record { op = Some c.args.op.now; stage = first_stage c.args.op.now n; gathered = None }) in omega (arith, size, c.self.invariant.few))
    (if_none old.fault (agrees_begun old.buffers old.log n c.args.pid c.args.op.now ts (where_none old.fault well c.self.invariant.agrees) lt (omega (arith, lt, c.self.invariant.few, (where_none old.fault well c.known.ensures.joint).log.pids)) (search rules) can))
    (if_none old.fault (looks_begun (current_of image old) c.self.inside.inodes ts c.args.pid (where_none old.fault well c.self.invariant.looks) lt (search rules) c.args.op.now can))
    (if_none old.fault (logged_begun (current_of image old) old.log n c.args.pid c.args.op.now ts lt (where_none old.fault well c.self.invariant.logged)))))

pub returns-clause-files : goal.returns-clause-files
unfolding FitsFiles
returns-clause-files g c = λ files fits.
    let image = g.D.Disk.image in
    let old = c.self.inside.volume in
    let n = c.self.inside.inodes.inode_count in
    let ts = c.self.inside.tasks in
    let now : List TaskState = slice_set ts c.args.pid (record { op = Some c.args.op.now; stage = first_stage c.args.op.now n; gathered = None }) in
    let held : FitsHeld files (current_of image old) (claims_of ts) = subst (λ (s : StoreState _). FitsHeld files (current_of image s.volume) (claims_of s.tasks)) (sym c.self.view_is) fits in
    let alike = held_alike files (current_of image old) (claims_of ts) (claims_of now) (begun_claims ts c.args.pid c.args.op.now n (search rules)) held in
    subst (λ (us : List TaskState). FitsHeld files (current_of image c.open_group.new.volume) (claims_of us)) (sym (begins g (goal.at.returns-clause-files g c).After-begin))
    (subst (λ (v : VolumeState _). FitsHeld files (current_of image v) (claims_of now)) (sym c.open_group.ensures.volume) alike)
