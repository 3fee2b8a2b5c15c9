use Rattle.std.proofs.Common.{◌∙◌}
use Rattle.offline.proofs.CheckLemmas.{stand_new}
use Rattle.offline.proofs.all_faults.new_owners.Goals as goal

pub returns-clause-stand : goal.returns-clause-stand
returns-clause-stand g c =
    stand_new (g.D.Disk.image c.args.disk.now) c.args.image.now.sup c.args.image.now.form c.in_ok-new.field-0 c.requires.ground
    (c.in_ok-new.ensures.first ∙ c.meta_count-first_data.ensures) c.in_ok-new.ensures.size
    (c.in_ok-new.ensures.bitmap ∙ c.in_ok-block.ensures.ok) c.in_ok-new.ensures.owned
