use Rattle.std.proofs.Common.{◌≡◌, ◌∙◌, ◌+◌, [], ◌∷◌, ◌++◌, length, ap, sym, arith}
use Rattle.std.proofs.lemmas.List.{length_push}
use Rattle.blocks.specs.Disk.{Image}
use Rattle.blocks.specs.Lemmas.Reads.{reads_then}
use Rattle.model.specs.declared.types.image.Dinode.{Dinode}
use Rattle.model.specs.declared.types.image.Super.{Super}
use Rattle.model.specs.Layout.{inode_of}
use Rattle.model.specs.Log.{recovered}
use Rattle.model.specs.Lemmas.Super.{lawful_geometry}
use Rattle.transfer.proofs.SourceLemmas.{each_more}
use Rattle.transfer.proofs.source.read_kinds.Goals as goal

pub loop-i-preserved : goal.loop-i-preserved
loop-i-preserved g c =
    let d = g.D.Disk in
    let y = recovered (d.image c.args.old.now) in
    let before = c.loop-i.invariant in
    let kinds = c.loop-i.kinds.items in
    let inode = c.in_ok-inode.inode in
    let is : inode ≡ inode_of y c.loop-i.i = c.in_ok-inode.ensures.ok ∙ ap (λ (z : Image). inode_of (recovered z) c.loop-i.i) before.reads.image in
    let pushed : c.push.new.self.items ≡ kinds ++ inode.kind ∷ [] = c.in_ok-push.ensures.items in
    record {
      reads = reads_then d c.args.old.now c.loop-i.old c.inode.new.disk before.reads c.inode.ensures.reads;
      faults = c.in_ok-inode.ensures.faults ∙ before.faults;
      count = omega (arith, before.count, ap length pushed, length_push kinds inode.kind);
      each = rw pushed (each_more (λ k. (inode_of y (k + 1)).kind) kinds inode.kind before.each
          (ap (λ (e : Dinode). e.kind) is ∙ ap (λ i. (inode_of y i).kind) (sym before.count)));
    }

pub returns-clause-kinds : goal.returns-clause-kinds
returns-clause-kinds g c =
    let is = c.requires.recovered in
    let some = (lawful_geometry (g.D.Disk.image c.args.old.now) is.geometry).some in
    let same = ap (λ (s : Super). s.ninodes) is.sup in
    record {
      long = omega (arith, some, same);
      each = λ k low. c.loop-i.invariant.each k (omega (arith, some, same));
    }
