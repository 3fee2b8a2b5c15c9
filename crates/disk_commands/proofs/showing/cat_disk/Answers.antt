use Rattle.std.proofs.Common.{◌≡◌, ◌∙◌, subst}
use Rattle.std.proofs.lemmas.Result.{IfErr-weaker, on_ok_weaker}
use Rattle.blocks.specs.Disk.{Image}
use Rattle.model.specs.Log.{logged_count}
use Rattle.opening.specs.Lemmas.Recovered.{recovered_again, recovered_sound, recovered_unwritten}
use Rattle.opening.specs.Recoveries.{IsRecovered}
use Rattle.disk_commands.specs.Showing.{ShowsFile}
use Rattle.disk_commands.proofs.Shown.{counted_so, not_shown}
use Rattle.disk_commands.proofs.showing.cat_disk.Goals as goal

pub show-shown-requires : goal.show-shown-requires
show-shown-requires g c =
    let is : IsRecovered g.D.Disk (logged_count (g.D.Disk.image c.args.disk)) c.args.disk c.recover_image.new.disk = counted_so g.D.Disk c.args.disk c.recover_image.new.disk c.in_default.field-0 c.in_default.ensures.ok in
    record { sound = recovered_sound g.D.Disk c.args.disk c.recover_image.new.disk is }

pub returns-clause-shown : goal.returns-clause-shown
returns-clause-shown g c =
    let d = g.D.Disk in
    let is : IsRecovered d (logged_count (d.image c.args.disk)) c.args.disk c.recover_image.new.disk = counted_so g.D.Disk c.args.disk c.recover_image.new.disk c.in_default.field-0 c.in_default.ensures.ok in
    on_ok_weaker c.show-shown.result
    (λ shows. (is.sound, subst (λ (y : Image). ShowsFile y c.args.number (g.O.Write.contents c.args.out.now) (g.O.Write.contents c.show-shown.new.out)) (recovered_again d c.args.disk c.recover_image.new.disk is) shows))
    c.show-shown.ensures.shown

pub returns-clause-unlogged : goal.returns-clause-unlogged
returns-clause-unlogged g c =
    let d = g.D.Disk in
    let mid = c.recover_image.new.disk in
    let is : IsRecovered d (logged_count (d.image c.args.disk)) c.args.disk mid = counted_so d c.args.disk mid c.in_default.field-0 c.in_default.ensures.ok in
    let reads = c.show-shown.ensures.reads in
    on_ok_weaker c.show-shown.result
    (λ shows. λ none. let left = recovered_unwritten d c.args.disk mid is none in (reads.image ∙ left.0, reads.writes ∙ left.1))
    c.show-shown.ensures.shown

pub returns-clause-refused : goal.returns-clause-refused
returns-clause-refused g c =
    let d = g.D.Disk in
    let is : IsRecovered d (logged_count (d.image c.args.disk)) c.args.disk c.recover_image.new.disk = counted_so g.D.Disk c.args.disk c.recover_image.new.disk c.in_default.field-0 c.in_default.ensures.ok in
    IfErr-weaker c.show-shown.result _ _
    (not_shown d c.args.disk c.recover_image.new.disk c.show-shown.new.disk is c.show-shown.ensures.reads c.args.number (g.O.Write.contents c.args.out.now) (g.O.Write.contents c.show-shown.new.out) (c.show-shown.new.out ≡ c.args.out.now))
    c.show-shown.ensures.refused
