use Rattle.std.proofs.Common.{◌+◌, ◌-◌, ◌%◌, refl, sym, ap, subst, ◌∙◌, List}
use Rattle.inodes.specs.Common.{gathered_with, got_slot, IsReading, part_of, Progress, ReadState, ReadSteps}
use Rattle.inodes.proofs.ReadLemmas.{Uses, size_of_log, uses_last, uses_some}
use Rattle.inodes.proofs.readi.Readi.gather.Given.{Over}
use Rattle.inodes.proofs.readi.Readi.gather.Goals.{After-release_block}
use Rattle.inodes.proofs.readi.Readi.gather.Goals as goal

uses : (g : Over) (c : After-release_block g)
    → Uses g.D.Disk.image c.args.volume.now c.args.pid c.args.slot c.min-count.result c.data.result.now (record { inode = c.self.inside.inode; form = c.self.inside.form; next = c.self.inside.next; end = c.self.inside.end; target = c.self.inside.target })
    c.args.into.now c.release_block.new.volume c.add.new.self
uses g c =
    let at = c.self.inside.next % 1024 in
    let is = c.self.view_is in
    record {
      ready = subst (λ (o : ReadState). IsReading g.D.Disk.image c.args.volume.now c.args.pid o) (sym is) c.requires.ready;
      got = ap (λ (o : ReadState). got_slot o.target) is ∙ c.requires.target;
      size = size_of_log g.D.Disk.image c.args.volume.now c.requires.fault c.known.ensures.joint;
      shown = c.data.ensures.bytes;
      most = c.min-count.ensures;
      gathers = c.add.ensures ∙ ap (λ (l : List _). gathered_with c.args.into.now (part_of l at (at + c.min-count.result - at))) c.as_slice.ensures.value;
      releases = c.release_block.ensures;
    }

pub returns-then-self : goal.returns-then-self
returns-then-self g c =
    let n : ReadState = record { inode = c.self.inside.inode; form = c.self.inside.form; next = c.self.inside.next + c.min-count.result; end = c.self.inside.end; target = c.self.inside.target } in
    subst (λ (o : ReadState). ReadSteps g.D.Disk c.args.volume.now c.args.pid o c.args.into.now (Progress.Over tt) c.release_block.new.volume n c.add.new.self) c.self.view_is
    (uses_last g.D.Disk _ _ _ _ _ _ _ _ _ (uses g (goal.at.returns-then-self g c).After-release_block) n refl refl refl refl c.if-self.true)

pub returns : goal.returns
returns g c =
    let n : ReadState = record { inode = c.self.inside.inode; form = c.self.inside.form; next = c.self.inside.next + c.min-count.result; end = c.self.inside.end; target = c.target_for-self-inside.result } in
    subst (λ (o : ReadState). ReadSteps g.D.Disk c.args.volume.now c.args.pid o c.args.into.now Progress.Moved c.release_block.new.volume n c.add.new.self) c.self.view_is
    (uses_some g.D.Disk _ _ _ _ _ _ _ _ _ (uses g (goal.at.returns g c).After-release_block) n refl refl refl refl c.if-self.false c.target_for-self-inside.ensures)
