use Rattle.offline.proofs.recovered.Recovered.+address_under.Given as goal

abbrev pub decreases-address_under : goal.decreases-address_under
decreases-address_under g l = l.depth
