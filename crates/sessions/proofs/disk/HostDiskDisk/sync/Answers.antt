use Rattle.std.proofs.Common.{◌≡◌, ◌∙◌, true, List, ◌∷◌, ap, subst, sym}
use Rattle.blocks.specs.Common.{AddsNone, Image, IsSettled}
use Rattle.blocks.specs.declared.memory.MemDisk.{MemDisk}
use Rattle.sessions.proofs.Calls.{adds_none_on, settled_on}
use Rattle.sessions.proofs.disk.HostDiskDisk.sync.Goals as goal
use Rattle.sessions.specs.Held.{LeftSince}
use Rattle.sessions.specs.Track.{Call, moment_of}

pub returns-clause-ok : goal.returns-clause-ok
returns-clause-ok c =
    let d = c.args.self.now in
    let x : Image = d.copy.blocks.items in
    let added : c.add.new.self ≡ (x, true) ∷ d.track = c.add.ensures ∙ ap (λ (m : MemDisk). (m.blocks.items, true) ∷ d.track) c.of-before.ensures in
    subst (λ (cs : List Call). IsSettled c.sync.new.self.blocks.items (LeftSince d.holds c.sync.new.self.blocks.items cs (moment_of cs))) (sym added)
    (subst (λ (y : Image). IsSettled y (LeftSince d.holds y ((x, true) ∷ d.track) (moment_of ((x, true) ∷ d.track)))) (sym c.sync.ensures.image) (settled_on d.holds x d.track))

pub returns-clause-time : goal.returns-clause-time
returns-clause-time c =
    let d = c.args.self.now in
    let x : Image = d.copy.blocks.items in
    let added : c.add.new.self ≡ (x, true) ∷ d.track = c.add.ensures ∙ ap (λ (m : MemDisk). (m.blocks.items, true) ∷ d.track) c.of-before.ensures in
    subst (λ (cs : List Call). AddsNone (moment_of d.track) (moment_of cs) (LeftSince d.holds x d.track) (LeftSince d.holds c.sync.new.self.blocks.items cs)) (sym added)
    (subst (λ (y : Image). AddsNone (moment_of d.track) (moment_of ((x, true) ∷ d.track)) (LeftSince d.holds x d.track) (LeftSince d.holds y ((x, true) ∷ d.track))) (sym c.sync.ensures.image) (adds_none_on d.holds x d.track))
