use Rattle.std.proofs.Common.{◌∙◌, Option, ap, sym, subst}
use Rattle.std.specs.Prelude.{IfSome}
use Rattle.blocks.specs.Disk.{Image}
use Rattle.model.specs.Files.{bytes_in}
use Rattle.model.specs.Log.{recovered}
use Rattle.model.specs.declared.types.image.Dinode.{Dinode}
use Rattle.offline.specs.Checked.{IsInodeOf}
use Rattle.offline.specs.Recovered.{MayReadFile}
use Rattle.offline.specs.Lemmas.Checked.{none_told}
use Rattle.directories.proofs.Looked.{bytes_here, is_here, kind_here}
use Rattle.directories.proofs.judging.look.Given.{Over}
use Rattle.directories.proofs.judging.look.Goals.{In-Some}
use Rattle.directories.proofs.judging.look.Goals as goal

-- the inode that was found
found : (g : Over) (c : In-Some g) → IsInodeOf (recovered (g.D.Disk.image c.args.disk.now)) c.args.number c.in-Some.inode
found g c = subst (λ (o : Option Dinode). IfSome o (IsInodeOf (recovered (g.D.Disk.image c.args.disk.now)) c.args.number)) c.in-Some.is c.in_ok-inode.ensures.found

pub returns-in_default-clause-seen : goal.returns-in_default-clause-seen
returns-in_default-clause-seen g c = λ there. there (none_told c.in_ok-inode.field-0 _ c.in_ok-inode.ensures.none c.in_default.not-Some)

pub returns-then-inode-ne-DIRECTORY_KIND-clause-seen : goal.returns-then-inode-ne-DIRECTORY_KIND-clause-seen
returns-then-inode-ne-DIRECTORY_KIND-clause-seen g c =
    let is = found g (goal.at.returns-then-inode-ne-DIRECTORY_KIND-clause-seen g c).In-Some in (
      is_here _ c.args.number c.in-Some.inode is,
      λ directory. c.if-inode-ne-DIRECTORY_KIND.true (sym (kind_here _ c.args.number c.in-Some.inode is) ∙ directory),
    )

pub all_bytes-requires-clause-file : goal.all_bytes-requires-clause-file
all_bytes-requires-clause-file g c =
    subst (λ (x : Image). MayReadFile (recovered x) c.in-Some.inode) (sym c.inode_at.ensures.reads.image)
    (found g (goal.at.all_bytes-requires-clause-file g c).In-Some).readable

pub returns-clause-seen : goal.returns-clause-seen
returns-clause-seen g c =
    let is = found g (goal.at.returns-clause-seen g c).In-Some in
    let d = c.in-Some.inode in (
      kind_here _ c.args.number d is ∙ c.if-inode-ne-DIRECTORY_KIND.false,
      c.in_ok-bytes.ensures.bytes ∙ ap (λ (x : Image). bytes_in (recovered x) d) c.inode_at.ensures.reads.image ∙ sym (bytes_here _ c.args.number d is),
    )
