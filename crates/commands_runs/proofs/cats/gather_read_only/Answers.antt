use Rattle.std.proofs.Common.{◌≡◌, List, ℕ, Option, Some, subst, sym, true, false}
use Rattle.std.specs.Prelude.{IfErr, OnOk}
use Rattle.cmd.specs.Lemmas.Disks.{file_disk}
use Rattle.cmd.specs.Opened.{OpensDisk}
use Rattle.disk_commands.specs.Looks.{HasRead}
use Rattle.commands_runs.specs.Cats.{HasGathered, IsUngathered}
use Rattle.commands_runs.proofs.CatLemmas.{gathered_so, leaves_read, ungathered_so}
use Rattle.commands_runs.proofs.cats.gather_read_only.Goals as goal

pub returns-clause-gathered : goal.returns-clause-gathered
returns-clause-gathered g c =
    let remaining = g.R.File.Read.remaining in
    let i = c.args.cat.inum in
    let bytes = c.run.new.out.items in
    subst (λ r. OnOk r (HasGathered remaining true i bytes)) (sym c.of_memory.ensures)
    (gathered_so remaining true i c.run.result _ bytes
    (subst (λ (none : List ℕ). OnOk c.run.result (OpensDisk remaining file_disk false (λ d e. HasRead file_disk i d e (Some none) (Some bytes)))) c.requires c.run.ensures.done)
    (λ d e read. read))

pub returns-clause-refused : goal.returns-clause-refused
returns-clause-refused g c =
    let remaining = g.R.File.Read.remaining in
    let i = c.args.cat.inum in
    subst (λ r. IfErr r (IsUngathered remaining true i)) (sym c.of_memory.ensures)
    (ungathered_so remaining true i _ c.run.result _ c.run.ensures.refused (λ d e r why. leaves_read i _ _ _ d e r why))
