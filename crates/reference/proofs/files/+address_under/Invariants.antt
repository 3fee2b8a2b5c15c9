use Rattle.reference.proofs.files.+address_under.Given as goal

abbrev pub decreases-address_under : goal.decreases-address_under
decreases-address_under l = l.depth
