use Rattle.std.proofs.Common.{◌≡◌, subst, sym}
use Rattle.std.specs.Prelude.{OnOk, IfErr}
use Rattle.cmd.specs.Lemmas.Disks.{file_disk}
use Rattle.cmd.specs.Opened.{OpensDisk}
use Rattle.cmd.specs.Changes.{change}
use Rattle.cmd.specs.Over.{IsRefusedOn}
use Rattle.cmd.proofs.Over.{done_over, refused_over}
use Rattle.cmd.proofs.files.run_over.Goals as goal

pub returns-clause-done : goal.returns-clause-done
returns-clause-done g c =
    let run = c.run_on-ended in
    subst (λ r. OnOk r (OpensDisk g.F.Read.remaining file_disk c.args.sync (λ d e. g.C.DiskCommand.done c.args.command (change file_disk d e) (g.O.Write.contents c.args.out.now) (g.O.Write.contents run.new.out)))) (sym c.of.ensures)
    (done_over g.F.Read.remaining c.args.sync c.in-Ok.disk run.result.1 c.in-Ok.ensures run.result.0 _ run.ensures.done)

pub returns-clause-refused : goal.returns-clause-refused
returns-clause-refused g c =
    let run = c.run_on-ended in
    let none = run.new.out ≡ c.args.out.now in
    subst (λ r. IfErr r (IsRefusedOn g.F.Read.remaining c.args.sync none (λ d e. g.C.DiskCommand.refused c.args.command (change file_disk d e) (g.O.Write.contents c.args.out.now) (g.O.Write.contents run.new.out) none))) (sym c.of.ensures)
    (refused_over g.F.Read.remaining c.args.sync c.in-Ok.disk run.result.1 c.in-Ok.ensures run.result.0 none _ run.ensures.refused)
