use Rattle.directories.proofs.flaws.+climbs.Given as goal

abbrev pub decreases-climbs : goal.decreases-climbs
decreases-climbs l = l.more
