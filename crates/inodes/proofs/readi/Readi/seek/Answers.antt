use Rattle.std.proofs.Common.{◌≡◌, sym, subst, ap, ◌∙◌}
use Rattle.inodes.specs.Common.{got_slot, IsReading, IsSought, ReadState, ReadSteps}
use Rattle.inodes.proofs.ReadLemmas.{read_sought, size_of_log, sought}
use Rattle.inodes.proofs.readi.Readi.seek.Goals as goal

pub seek-requires-clause-sought : goal.seek-requires-clause-sought
seek-requires-clause-sought g c =
    let v = c.args.volume.now in
    subst (λ (o : ReadState). IsSought g.D.Disk.image v c.args.pid o.target) (sym c.self.view_is)
    (sought g.D.Disk.image v c.args.pid c.args.self.now c.requires.ready c.requires.target (size_of_log g.D.Disk.image v c.requires.fault c.known.ensures.joint))

pub returns : goal.returns
returns g c =
    let v = c.args.volume.now in
    let m : ReadState = record { inode = c.self.inside.inode; form = c.self.inside.form; next = c.self.inside.next; end = c.self.inside.end; target = c.self.inside.target } in
    let is : m ≡ c.args.self.now = c.self.view_is in
    let ready : IsReading g.D.Disk.image v c.args.pid m = subst (λ (o : ReadState). IsReading g.D.Disk.image v c.args.pid o) (sym is) c.requires.ready in
    λ gathered. subst (λ (o : ReadState). ReadSteps g.D.Disk v c.args.pid o gathered c.seek.result c.seek.new.volume (record m { target = c.seek.new.target }) gathered) is
    (read_sought g.D.Disk v c.seek.new.volume c.args.pid m gathered c.seek.result c.seek.new.target ready (ap (λ (o : ReadState). got_slot o.target) is ∙ c.requires.target) (size_of_log g.D.Disk.image v c.requires.fault c.known.ensures.joint) c.seek.ensures)
