use Rattle.cmd.specs.Lemmas.Disks.{file_disk}
use Rattle.commands_changes.proofs.MakingLemmas.{unfilled_so}
use Rattle.commands_changes.proofs.making.MakingMakesThere.make_there.Goals as goal

pub returns-in-Ok-fill-clause-made : goal.returns-in-Ok-fill-clause-made
returns-in-Ok-fill-clause-made g c = record { created = c.in-Ok.created; zeroes = c.in-Ok.ensures.made.image; filled = c.in-Ok-fill.ensures.made }

pub returns-in-Err-fill-clause-unmade : goal.returns-in-Err-fill-clause-unmade
returns-in-Err-fill-clause-unmade g c =
    let making = c.args.self.now in
    unfilled_so file_disk making.form making.size making.ninodes c.in-Ok.created c.requires c.in-Ok.ensures.made.image c.in-Err-fill.fault c.in-Err-fill.ensures.refused
