use Rattle.std.proofs.Common.{◌≡◌, ◌∙◌, Option, subst, rules}
use Rattle.std.specs.Io.KnownBytes.{Appends}
use Rattle.std.specs.Prelude.{IfSome}
use Rattle.blocks.specs.Disk.{Image}
use Rattle.model.specs.Files.{bytes_in}
use Rattle.model.specs.Log.{recovered}
use Rattle.model.specs.declared.types.image.Dinode.{Dinode}
use Rattle.offline.specs.Checked.{IsInodeOf}
use Rattle.disk_commands.proofs.Shown.{part_unshown, shown_whole}
use Rattle.disk_commands.proofs.showing.show.Goals as goal

pub returns-clause-shown : goal.returns-clause-shown
returns-clause-shown g c =
    let x = g.D.Disk.image c.args.disk.now in
    let i = c.args.number in
    let first = c.open_checked.ensures.reads.image in
    let inode : IsInodeOf (recovered x) i c.in-Some.inode =
    subst (λ (y : Image). IsInodeOf (recovered y) i c.in-Some.inode) first
    (subst (λ (found : Option Dinode). IfSome found (IsInodeOf (recovered (g.D.Disk.image c.open_checked.new.disk)) i)) c.in-Some.is c.in_ok-found.ensures.found) in
    let all =
    subst (λ (y : Image). Appends (g.O.Write.contents c.args.out.now) (g.O.Write.contents c.write_file.new.out) (bytes_in (recovered y) c.in-Some.inode))
    (c.inode_at.ensures.reads.image ∙ first) c.in_ok-write_file.ensures.all in
    shown_whole (recovered x) i c.in-Some.inode _ _ _ inode all c.in_ok-pass_on.ensures.ok

pub returns-in_err-write_file-clause-refused : goal.returns-in_err-write_file-clause-refused
returns-in_err-write_file-clause-refused g c =
    let d = g.D.Disk in
    let first = c.open_checked.ensures.reads.image in
    let inode : IsInodeOf (recovered (d.image c.args.disk.now)) c.args.number c.in-Some.inode =
    subst (λ (y : Image). IsInodeOf (recovered y) c.args.number c.in-Some.inode) first
    (subst (λ (found : Option Dinode). IfSome found (IsInodeOf (recovered (d.image c.open_checked.new.disk)) c.args.number)) c.in-Some.is c.in_ok-found.ensures.found) in
    let why = part_unshown d c.args.disk.now c.inode_at.new.disk c.write_file.new.disk c.args.number c.in-Some.inode (g.O.Write.contents c.args.out.now) (g.O.Write.contents c.write_file.new.out) (c.write_file.new.out ≡ c.args.out.now)
    (c.inode_at.ensures.reads.image ∙ first) (c.in_ok-found.ensures.faults ∙ c.in_ok-image.ensures.faults) inode c.in_err-write_file.field-0.0 c.in_err-write_file.ensures.part in
    search rules
