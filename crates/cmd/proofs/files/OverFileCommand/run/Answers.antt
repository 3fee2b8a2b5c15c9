use Rattle.std.proofs.Common.{◌≡◌, subst, sym}
use Rattle.std.specs.Prelude.{OnOk, IfErr}
use Rattle.cmd.specs.Lemmas.Disks.{file_disk}
use Rattle.cmd.specs.Opened.{OpensDisk}
use Rattle.cmd.specs.Changes.{change}
use Rattle.cmd.specs.Over.{IsRefusedOn, holds_back}
use Rattle.cmd.proofs.Over.{done_over, refused_over}
use Rattle.cmd.proofs.files.OverFileCommand.run.Goals as goal

pub returns-clause-done : goal.returns-clause-done
returns-clause-done g c =
    let remaining = g.R.File.Read.remaining in
    let run = c.run_on-ended in
    let holds = holds_back c.args.self.1 in
    subst (λ r. OnOk r (OpensDisk remaining file_disk holds (λ d e. g.C.DiskCommand.done c.args.self.2 (change file_disk d e) (g.O.Write.contents c.args.out.now) (g.O.Write.contents run.new.out)))) (sym c.of.ensures)
    (done_over remaining holds c.in-Ok.disk run.result.1 c.in-Ok.ensures run.result.0 _ run.ensures.done)

pub returns-clause-refused : goal.returns-clause-refused
returns-clause-refused g c =
    let remaining = g.R.File.Read.remaining in
    let run = c.run_on-ended in
    let holds = holds_back c.args.self.1 in
    let none = run.new.out ≡ c.args.out.now in
    subst (λ r. IfErr r (IsRefusedOn remaining holds none (λ d e. g.C.DiskCommand.refused c.args.self.2 (change file_disk d e) (g.O.Write.contents c.args.out.now) (g.O.Write.contents run.new.out) none))) (sym c.of.ensures)
    (refused_over remaining holds c.in-Ok.disk run.result.1 c.in-Ok.ensures run.result.0 none _ run.ensures.refused)
