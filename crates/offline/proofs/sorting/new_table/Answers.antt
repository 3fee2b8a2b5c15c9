use Rattle.std.proofs.Common.{◌∙◌}
use Rattle.offline.proofs.TableLemmas.{counts_none}
use Rattle.offline.proofs.sorting.new_table.Goals as goal

pub returns-clause-counts : goal.returns-clause-counts
returns-clause-counts g c =
    counts_none (g.D.Disk.image c.args.disk.now) c.args.image.now.sup c.args.image.now.form c.in_ok-new.field-0 c.requires.ground
    (c.in_ok-new.ensures.first ∙ c.meta_count-first_data.ensures) (c.in_ok-new.ensures.bitmap ∙ c.in_ok-block.ensures.ok) c.in_ok-new.ensures.counts
