use Rattle.directories.specs.Flaws.{flaws_at, root_flaws}
use Rattle.directories.proofs.AddedFlaws.{number_more}
use Rattle.directories.proofs.flaws.flaws_of.Goals as goal

pub loop-number-preserved : goal.loop-number-preserved
loop-number-preserved c =
    number_more (flaws_at c.args.files.now c.args.homes.now) c.loop-number.number (root_flaws c.args.files.now)
    c.loop-number.flaws.items c.add_at.new.flaws.items c.loop-number.invariant c.in_ok-add_at.ensures
