use Rattle.std.proofs.Common.{refl}
use Rattle.std.proofs.lemmas.Result.{IfErr-weaker, on_ok_weaker}
use Rattle.cmd.specs.Lemmas.Disks.{file_disk}
use Rattle.commands_changes.proofs.Converting.{has_converted, not_converted, not_kept}
use Rattle.commands_changes.proofs.conversions.convert_from.Goals as goal

pub returns-in-Ok-clause-converted : goal.returns-in-Ok-clause-converted
returns-in-Ok-clause-converted g c =
    on_ok_weaker c.keep.result (has_converted g.R.File.Read.remaining file_disk c.args.log c.args.size c.args.target.now.sync c.args.disk.now _ _ _ c.requires c.in-Ok.ensures.made) c.keep.ensures.kept

pub returns-in-Ok-clause-refused : goal.returns-in-Ok-clause-refused
returns-in-Ok-clause-refused g c =
    IfErr-weaker c.keep.result _ _ (not_kept g.R.File.Read.remaining file_disk c.args.log c.args.size c.args.target.now.sync c.args.disk.now _ _ c.requires c.in-Ok.ensures.made) c.keep.ensures.refused

pub returns-in-Err-clause-refused : goal.returns-in-Err-clause-refused
returns-in-Err-clause-refused g c =
    not_converted g.R.File.Read.remaining file_disk c.args.log c.args.size c.args.target.now.sync c.args.disk.now c.with_log.new.disk _ c.requires (refl {a = c.args.out.now}) c.in-Err.refusal c.in-Err.ensures.refused
