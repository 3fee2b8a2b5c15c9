use Rattle.std.proofs.Common.{◌∙◌, Option, List, ℕ, Some, ap, sym, subst}
use Rattle.std.specs.Prelude.{IfSome}
use Rattle.blocks.specs.Disk.{Image}
use Rattle.model.specs.Files.{bytes_in}
use Rattle.model.specs.Log.{recovered}
use Rattle.model.specs.declared.types.image.Dinode.{Dinode}
use Rattle.model.specs.declared.types.image.File.{File}
use Rattle.offline.specs.Checked.{IsInodeOf}
use Rattle.offline.specs.Lemmas.Checked.{none_told}
use Rattle.offline.specs.Recovered.{MayReadFile}
use Rattle.tree_looks.proofs.LoadedFiles.{found_at}
use Rattle.tree_looks.proofs.loading.file_of.Given.{Over}
use Rattle.tree_looks.proofs.loading.file_of.Goals.{In-Some}
use Rattle.tree_looks.proofs.loading.file_of.Goals as goal

-- the inode that was found
found : (g : Over) (c : In-Some g) → IsInodeOf (recovered (g.D.Disk.image c.args.disk.now)) c.args.number c.in-Some.inode
found g c = subst (λ (o : Option Dinode). IfSome o (IsInodeOf (recovered (g.D.Disk.image c.args.disk.now)) c.args.number)) c.in-Some.is c.in_ok-inode.ensures.found

pub returns-in_default-clause-file : goal.returns-in_default-clause-file
returns-in_default-clause-file g c =
    sym (none_told c.in_ok-inode.field-0 _ c.in_ok-inode.ensures.none c.in_default.not-Some)
    ∙ found_at (g.D.Disk.image c.args.disk.now) c.args.image.now c.args.number c.requires.checked.recovered c.requires.inside

pub all_bytes-requires-clause-file : goal.all_bytes-requires-clause-file
all_bytes-requires-clause-file g c =
    subst (λ (x : Image). MayReadFile (recovered x) c.in-Some.inode) (sym c.inode_at.ensures.reads.image)
    (found g (goal.at.all_bytes-requires-clause-file g c).In-Some).readable

pub returns-clause-file : goal.returns-clause-file
returns-clause-file g c =
    let d = c.in-Some.inode in
    let file : List ℕ → Option File = λ b. Some (record { kind = d.kind; links = d.nlink; bytes = b }) in
    ap file (c.new.ensures ∙ c.in_ok-bytes.ensures.bytes ∙ ap (λ (x : Image). bytes_in (recovered x) d) c.inode_at.ensures.reads.image)
    ∙ sym (found g (goal.at.returns-clause-file g c).In-Some).file
    ∙ found_at (g.D.Disk.image c.args.disk.now) c.args.image.now c.args.number c.requires.checked.recovered c.requires.inside
