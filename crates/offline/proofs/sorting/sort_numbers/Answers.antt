use Rattle.offline.proofs.CheckLemmas.{ground}
use Rattle.offline.proofs.sorting.sort_numbers.Goals as goal

pub new_table-requires-clause-ground : goal.new_table-requires-clause-ground
new_table-requires-clause-ground g c =
    let image = c.args.image.now in
    let is = c.requires.recovered in
    ground (g.D.Disk.image c.args.disk.now) image.sup image.form is.geometry is.header.lawful is.sup is.form
