use Rattle.std.proofs.Common.{◌≡◌, ◌∙◌, ◌≢◌, ap, subst, arith}
use Rattle.blocks.specs.Disk.{Image}
use Rattle.model.specs.declared.types.image.Dinode.{Dinode}
use Rattle.model.specs.declared.types.image.Super.{Super}
use Rattle.model.specs.Layout.{inode_count_of, inode_of}
use Rattle.model.specs.Log.{recovered}
use Rattle.test_commands.proofs.recovered.part_of_file.Goals as goal

pub read-requires-clause-file : goal.read-requires-clause-file
read-requires-clause-file g c =
    let d = g.D.Disk in
    let x = d.image c.args.disk.now in
    let y = recovered x in
    let image = c.in_ok-image.image in
    let is = c.in_ok-image.ensures.ok in
    let checked = c.check.ensures.reads.image in
    let opened = c.open.ensures.reads.image ∙ checked in
    let same : d.image c.inode.new.disk ≡ x = c.inode.ensures.reads.image ∙ opened in
    let inode : c.in_ok-inode.inode ≡ inode_of y c.args.i = c.in_ok-inode.ensures.ok ∙ ap (λ (z : Image). inode_of (recovered z) c.args.i) opened in
    let count : image.sup.ninodes ≡ inode_count_of x = ap (λ (s : Super). s.ninodes) is.sup ∙ ap inode_count_of checked in
    let used : (inode_of y c.args.i).kind ≢ 0 = subst (λ (e : Dinode). e.kind ≢ 0) inode c.if-inode-eq0.false in
    rw (same, inode)
    (c.checked_files_may_be_read.ensures x c.args.i (g.met.D.Disk.is_image c.args.disk.now) c.in_ok-check.ensures.ok (omega (arith, c.if-i-eq0.false))
    (omega (arith, count)) used)
