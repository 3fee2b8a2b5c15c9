use Rattle.std.proofs.Common.{map, subst, sym}
use Rattle.std.specs.Prelude.{◌≡◌}
use Rattle.cmd.specs.Lemmas.Disks.{file_disk}
use Rattle.xvnames.specs.Making.{IsMadeWith}
use Rattle.xvnames.specs.Requests.{Answers, OnRefused, Refuses, making_asked}
use Rattle.xvnames.specs.Unmade.{IsNotMadeWith}
use Rattle.xvnames.proofs.command.dispatch.Goals as goal

pub returns-in-Ls-clause-done : goal.returns-in-Ls-clause-done
returns-in-Ls-clause-done g c =
    λ done. subst (λ request. Answers g.R.File.Read.remaining g.R.File.Write.contents request (g.O.Write.contents c.args.out.now) (g.O.Write.contents c.look.new.out)) (sym c.in-Ls.is) (c.look.ensures.done done)

pub returns-in-Ls-clause-refused : goal.returns-in-Ls-clause-refused
returns-in-Ls-clause-refused g c =
    λ refused. subst (λ request. OnRefused g.R.File.Read.remaining request (g.O.Write.contents c.args.out.now) (g.O.Write.contents c.look.new.out) (c.look.new.out ≡ c.args.out.now)) (sym c.in-Ls.is) (c.look.ensures.refused refused)

pub returns-in-Tree-clause-done : goal.returns-in-Tree-clause-done
returns-in-Tree-clause-done g c =
    λ done. subst (λ request. Answers g.R.File.Read.remaining g.R.File.Write.contents request (g.O.Write.contents c.args.out.now) (g.O.Write.contents c.look-in-Tree.new.out)) (sym c.in-Tree.is) (c.look-in-Tree.ensures.done done)

pub returns-in-Tree-clause-refused : goal.returns-in-Tree-clause-refused
returns-in-Tree-clause-refused g c =
    λ refused. subst (λ request. OnRefused g.R.File.Read.remaining request (g.O.Write.contents c.args.out.now) (g.O.Write.contents c.look-in-Tree.new.out) (c.look-in-Tree.new.out ≡ c.args.out.now)) (sym c.in-Tree.is) (c.look-in-Tree.ensures.refused refused)

pub returns-in-Stat-clause-done : goal.returns-in-Stat-clause-done
returns-in-Stat-clause-done g c =
    λ done. subst (λ request. Answers g.R.File.Read.remaining g.R.File.Write.contents request (g.O.Write.contents c.args.out.now) (g.O.Write.contents c.look-in-Stat.new.out)) (sym c.in-Stat.is) (c.look-in-Stat.ensures.done done)

pub returns-in-Stat-clause-refused : goal.returns-in-Stat-clause-refused
returns-in-Stat-clause-refused g c =
    λ refused. subst (λ request. OnRefused g.R.File.Read.remaining request (g.O.Write.contents c.args.out.now) (g.O.Write.contents c.look-in-Stat.new.out) (c.look-in-Stat.new.out ≡ c.args.out.now)) (sym c.in-Stat.is) (c.look-in-Stat.ensures.refused refused)

pub returns-in-Cat-clause-done : goal.returns-in-Cat-clause-done
returns-in-Cat-clause-done g c =
    λ done. subst (λ request. Answers g.R.File.Read.remaining g.R.File.Write.contents request (g.O.Write.contents c.args.out.now) (g.O.Write.contents c.look-in-Cat.new.out)) (sym c.in-Cat.is) (c.look-in-Cat.ensures.done done)

pub returns-in-Cat-clause-refused : goal.returns-in-Cat-clause-refused
returns-in-Cat-clause-refused g c =
    λ refused. subst (λ request. OnRefused g.R.File.Read.remaining request (g.O.Write.contents c.args.out.now) (g.O.Write.contents c.look-in-Cat.new.out) (c.look-in-Cat.new.out ≡ c.args.out.now)) (sym c.in-Cat.is) (c.look-in-Cat.ensures.refused refused)

pub returns-in-Get-clause-done : goal.returns-in-Get-clause-done
returns-in-Get-clause-done g c =
    λ done. subst (λ request. Answers g.R.File.Read.remaining g.R.File.Write.contents request (g.O.Write.contents c.args.out.now) (g.O.Write.contents c.get.new.out)) (sym c.in-Get.is) (c.get.ensures.done done)

pub returns-in-Get-clause-refused : goal.returns-in-Get-clause-refused
returns-in-Get-clause-refused g c =
    λ refused. subst (λ request. OnRefused g.R.File.Read.remaining request (g.O.Write.contents c.args.out.now) (g.O.Write.contents c.get.new.out) (c.get.new.out ≡ c.args.out.now)) (sym c.in-Get.is) (c.get.ensures.refused refused)

pub returns-in-Put-clause-done : goal.returns-in-Put-clause-done
returns-in-Put-clause-done g c =
    λ done. subst (λ request. Answers g.R.File.Read.remaining g.R.File.Write.contents request (g.O.Write.contents c.args.out.now) (g.O.Write.contents c.perform.new.out)) (sym c.in-Put.is) (c.perform.ensures.done done)

pub returns-in-Put-clause-refused : goal.returns-in-Put-clause-refused
returns-in-Put-clause-refused g c =
    λ refused. subst (λ request. OnRefused g.R.File.Read.remaining request (g.O.Write.contents c.args.out.now) (g.O.Write.contents c.perform.new.out) (c.perform.new.out ≡ c.args.out.now)) (sym c.in-Put.is) (c.perform.ensures.refused refused)

pub returns-in-PutFolder-clause-done : goal.returns-in-PutFolder-clause-done
returns-in-PutFolder-clause-done g c =
    λ done. subst (λ request. Answers g.R.File.Read.remaining g.R.File.Write.contents request (g.O.Write.contents c.args.out.now) (g.O.Write.contents c.perform-in-PutFolder.new.out)) (sym c.in-PutFolder.is) (c.perform-in-PutFolder.ensures.done done)

pub returns-in-PutFolder-clause-refused : goal.returns-in-PutFolder-clause-refused
returns-in-PutFolder-clause-refused g c =
    λ refused. subst (λ request. OnRefused g.R.File.Read.remaining request (g.O.Write.contents c.args.out.now) (g.O.Write.contents c.perform-in-PutFolder.new.out) (c.perform-in-PutFolder.new.out ≡ c.args.out.now)) (sym c.in-PutFolder.is) (c.perform-in-PutFolder.ensures.refused refused)

pub returns-in-Rm-clause-done : goal.returns-in-Rm-clause-done
returns-in-Rm-clause-done g c =
    λ done. subst (λ request. Answers g.R.File.Read.remaining g.R.File.Write.contents request (g.O.Write.contents c.args.out.now) (g.O.Write.contents c.remove.new.out)) (sym c.in-Rm.is) (c.remove.ensures.done done)

pub returns-in-Rm-clause-refused : goal.returns-in-Rm-clause-refused
returns-in-Rm-clause-refused g c =
    λ refused. subst (λ request. OnRefused g.R.File.Read.remaining request (g.O.Write.contents c.args.out.now) (g.O.Write.contents c.remove.new.out) (c.remove.new.out ≡ c.args.out.now)) (sym c.in-Rm.is) (c.remove.ensures.refused refused)

pub returns-in-Mv-clause-done : goal.returns-in-Mv-clause-done
returns-in-Mv-clause-done g c =
    λ done. subst (λ request. Answers g.R.File.Read.remaining g.R.File.Write.contents request (g.O.Write.contents c.args.out.now) (g.O.Write.contents c.change.new.out)) (sym c.in-Mv.is) (c.change.ensures.done done)

pub returns-in-Mv-clause-refused : goal.returns-in-Mv-clause-refused
returns-in-Mv-clause-refused g c =
    λ refused. subst (λ request. OnRefused g.R.File.Read.remaining request (g.O.Write.contents c.args.out.now) (g.O.Write.contents c.change.new.out) (c.change.new.out ≡ c.args.out.now)) (sym c.in-Mv.is) (c.change.ensures.refused refused)

pub returns-in-Cp-clause-done : goal.returns-in-Cp-clause-done
returns-in-Cp-clause-done g c =
    λ done. subst (λ request. Answers g.R.File.Read.remaining g.R.File.Write.contents request (g.O.Write.contents c.args.out.now) (g.O.Write.contents c.perform-in-Cp.new.out)) (sym c.in-Cp.is) (c.perform-in-Cp.ensures.done done)

pub returns-in-Cp-clause-refused : goal.returns-in-Cp-clause-refused
returns-in-Cp-clause-refused g c =
    λ refused. subst (λ request. OnRefused g.R.File.Read.remaining request (g.O.Write.contents c.args.out.now) (g.O.Write.contents c.perform-in-Cp.new.out) (c.perform-in-Cp.new.out ≡ c.args.out.now)) (sym c.in-Cp.is) (c.perform-in-Cp.ensures.refused refused)

pub returns-in-Ln-clause-done : goal.returns-in-Ln-clause-done
returns-in-Ln-clause-done g c =
    λ done. subst (λ request. Answers g.R.File.Read.remaining g.R.File.Write.contents request (g.O.Write.contents c.args.out.now) (g.O.Write.contents c.change-in-Ln.new.out)) (sym c.in-Ln.is) (c.change-in-Ln.ensures.done done)

pub returns-in-Ln-clause-refused : goal.returns-in-Ln-clause-refused
returns-in-Ln-clause-refused g c =
    λ refused. subst (λ request. OnRefused g.R.File.Read.remaining request (g.O.Write.contents c.args.out.now) (g.O.Write.contents c.change-in-Ln.new.out) (c.change-in-Ln.new.out ≡ c.args.out.now)) (sym c.in-Ln.is) (c.change-in-Ln.ensures.refused refused)

pub returns-in-Mkdir-clause-done : goal.returns-in-Mkdir-clause-done
returns-in-Mkdir-clause-done g c =
    λ done. subst (λ request. Answers g.R.File.Read.remaining g.R.File.Write.contents request (g.O.Write.contents c.args.out.now) (g.O.Write.contents c.make_directory.new.out)) (sym c.in-Mkdir.is) (c.make_directory.ensures.done done)

pub returns-in-Mkdir-clause-refused : goal.returns-in-Mkdir-clause-refused
returns-in-Mkdir-clause-refused g c =
    λ refused. subst (λ request. OnRefused g.R.File.Read.remaining request (g.O.Write.contents c.args.out.now) (g.O.Write.contents c.make_directory.new.out) (c.make_directory.new.out ≡ c.args.out.now)) (sym c.in-Mkdir.is) (c.make_directory.ensures.refused refused)

pub returns-in-Rmdir-clause-done : goal.returns-in-Rmdir-clause-done
returns-in-Rmdir-clause-done g c =
    λ done. subst (λ request. Answers g.R.File.Read.remaining g.R.File.Write.contents request (g.O.Write.contents c.args.out.now) (g.O.Write.contents c.change-in-Rmdir.new.out)) (sym c.in-Rmdir.is) (c.change-in-Rmdir.ensures.done done)

pub returns-in-Rmdir-clause-refused : goal.returns-in-Rmdir-clause-refused
returns-in-Rmdir-clause-refused g c =
    λ refused. subst (λ request. OnRefused g.R.File.Read.remaining request (g.O.Write.contents c.args.out.now) (g.O.Write.contents c.change-in-Rmdir.new.out) (c.change-in-Rmdir.new.out ≡ c.args.out.now)) (sym c.in-Rmdir.is) (c.change-in-Rmdir.ensures.refused refused)

pub returns-in-Check-clause-done : goal.returns-in-Check-clause-done
returns-in-Check-clause-done g c =
    λ done. subst (λ request. Answers g.R.File.Read.remaining g.R.File.Write.contents request (g.O.Write.contents c.args.out.now) (g.O.Write.contents c.look-in-Check.new.out)) (sym c.in-Check.is) (c.look-in-Check.ensures.done done)

pub returns-in-Check-clause-refused : goal.returns-in-Check-clause-refused
returns-in-Check-clause-refused g c =
    λ refused. subst (λ request. OnRefused g.R.File.Read.remaining request (g.O.Write.contents c.args.out.now) (g.O.Write.contents c.look-in-Check.new.out) (c.look-in-Check.new.out ≡ c.args.out.now)) (sym c.in-Check.is) (c.look-in-Check.ensures.refused refused)

pub returns-in-Recount-clause-done : goal.returns-in-Recount-clause-done
returns-in-Recount-clause-done g c =
    λ done. subst (λ request. Answers g.R.File.Read.remaining g.R.File.Write.contents request (g.O.Write.contents c.args.out.now) (g.O.Write.contents c.change-in-Recount.new.out)) (sym c.in-Recount.is) (c.change-in-Recount.ensures.done done)

pub returns-in-Recount-clause-refused : goal.returns-in-Recount-clause-refused
returns-in-Recount-clause-refused g c =
    λ refused. subst (λ request. OnRefused g.R.File.Read.remaining request (g.O.Write.contents c.args.out.now) (g.O.Write.contents c.change-in-Recount.new.out) (c.change-in-Recount.new.out ≡ c.args.out.now)) (sym c.in-Recount.is) (c.change-in-Recount.ensures.refused refused)

pub returns-in-Mkfs-clause-done : goal.returns-in-Mkfs-clause-done
returns-in-Mkfs-clause-done g c =
    λ done. subst (λ request. Answers g.R.File.Read.remaining g.R.File.Write.contents request (g.O.Write.contents c.args.out.now) (g.O.Write.contents c.make.new.out)) (sym c.in-Mkfs.is)
    (subst (λ (files : _). IsMadeWith (file_disk {F = g.row.R-File.Denot}) (making_asked c.in-Mkfs.size c.in-Mkfs.ninodes c.in-Mkfs.no_sync) (map (λ file. file.now) files) (g.O.Write.contents c.args.out.now) (g.O.Write.contents c.make.new.out)) c.as_slice.ensures.value (c.make.ensures.done done))

pub returns-in-Mkfs-clause-refused : goal.returns-in-Mkfs-clause-refused
returns-in-Mkfs-clause-refused g c =
    λ refused. subst (λ request. OnRefused g.R.File.Read.remaining request (g.O.Write.contents c.args.out.now) (g.O.Write.contents c.make.new.out) (c.make.new.out ≡ c.args.out.now)) (sym c.in-Mkfs.is)
    (subst (λ (files : _). Refuses (IsNotMadeWith (file_disk {F = g.row.R-File.Denot}) (making_asked c.in-Mkfs.size c.in-Mkfs.ninodes c.in-Mkfs.no_sync) (map (λ file. file.now) files) (c.make.new.out ≡ c.args.out.now))) c.as_slice.ensures.value (c.make.ensures.refused refused))
