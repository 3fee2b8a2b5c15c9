use Rattle.std.proofs.Common.{◌≡◌, ◌∙◌, false, List, ◌∷◌, ap, subst, sym}
use Rattle.blocks.specs.Common.{Image, LeavesOldOrNew, MayLose}
use Rattle.blocks.specs.declared.errors.DiskFault.{DiskFault}
use Rattle.blocks.specs.declared.memory.MemDisk.{MemDisk}
use Rattle.sessions.proofs.Calls.{crash_on, done, lose_on}
use Rattle.sessions.proofs.disk.HostDiskDisk.write.Goals as goal
use Rattle.sessions.specs.Held.{LeftSince}
use Rattle.sessions.specs.Track.{Call, moment_of}

pub returns-clause-crash : goal.returns-clause-crash
returns-clause-crash c =
    let d = c.args.self.now in
    let x : Image = d.copy.blocks.items in
    let added : c.add.new.self ≡ (x, false) ∷ d.track = c.add.ensures ∙ ap (λ (m : MemDisk). (m.blocks.items, false) ∷ d.track) c.of-before.ensures in
    subst (λ (cs : List Call). LeavesOldOrNew c.args.block c.args.from.now (LeftSince d.holds x d.track (moment_of d.track)) (LeftSince d.holds c.write.new.self.blocks.items cs (moment_of cs))) (sym added)
    (subst (λ (y : Image). LeavesOldOrNew c.args.block c.args.from.now (LeftSince d.holds x d.track (moment_of d.track)) (LeftSince d.holds y ((x, false) ∷ d.track) (moment_of ((x, false) ∷ d.track)))) (sym c.in_ok-write.ensures.ok)
    (crash_on x d.track c.args.block c.args.from.now c.requires d.holds))

pub returns-clause-may_lose : goal.returns-clause-may_lose
returns-clause-may_lose c = λ holds.
    let d = c.args.self.now in
    let x : Image = d.copy.blocks.items in
    let added : c.add.new.self ≡ (x, false) ∷ d.track = c.add.ensures ∙ ap (λ (m : MemDisk). (m.blocks.items, false) ∷ d.track) c.of-before.ensures in
    subst (λ (cs : List Call). MayLose {E = DiskFault} c.args.block c.args.from.now done (LeftSince d.holds x d.track (moment_of d.track)) (LeftSince d.holds c.write.new.self.blocks.items cs (moment_of cs))) (sym added)
    (subst (λ (y : Image). MayLose {E = DiskFault} c.args.block c.args.from.now done (LeftSince d.holds x d.track (moment_of d.track)) (LeftSince d.holds y ((x, false) ∷ d.track) (moment_of ((x, false) ∷ d.track)))) (sym c.in_ok-write.ensures.ok)
    (lose_on x d.track c.args.block c.args.from.now c.requires d.holds holds))
