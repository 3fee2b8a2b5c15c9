use Rattle.std.proofs.lemmas.Result.{IfErr-weaker}
use Rattle.commands_changes.proofs.MakingLemmas.{filled_so}
use Rattle.commands_changes.proofs.making.fill.Goals as goal

pub returns-clause-made : goal.returns-clause-made
returns-clause-made g c = filled_so g.D.Disk c.args.making.form c.args.making.size c.args.making.ninodes c.args.making.sync c.args.disk c.make_on.new.disk c.make_on.result c.make_on.ensures.made c.make_on.ensures.synced c.make_on.ensures.fields

pub returns-clause-refused : goal.returns-clause-refused
returns-clause-refused g c = IfErr-weaker c.make_on.result _ _ (λ fault why. record { now = c.make_on.new.disk; cause = why }) c.make_on.ensures.refused
