use Rattle.directories.specs.Flaws.{entry_flaws}
use Rattle.directories.proofs.AddedFlaws.{number_more}
use Rattle.directories.proofs.flaws.add_entries.Goals as goal

pub loop-place-preserved : goal.loop-place-preserved
loop-place-preserved c =
    number_more (entry_flaws c.args.files.now c.args.homes.now c.args.from c.args.entries.now) c.loop-place.place c.args.flaws.now.items
    c.loop-place.flaws.items c.add_entry.new.flaws.items c.loop-place.invariant c.in_ok-add_entry.ensures
