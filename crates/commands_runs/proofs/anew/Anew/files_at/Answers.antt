use Rattle.std.proofs.Common.{◌++◌, List, refl, subst, sym}
use Rattle.pictures.specs.declared.types.FilesThen.{FilesThen}
use Rattle.commands_runs.proofs.Leaving.{filed_all, filed_more}
use Rattle.commands_runs.specs.Images.{opened_image}
use Rattle.commands_runs.specs.Filed.{AreFiled, HasFiles}
use Rattle.commands_runs.proofs.anew.Anew.files_at.Goals as goal

pub loop-stop-init : goal.loop-stop-init
loop-stop-init c = λ rest all.
    let P = HasFiles c.args.self.now.holds (opened_image c.args.self.now.opened) c.args.self.now.tasks.items c.args.self.now.processes c.args.self.now.words.items in
    subst (λ (files : List FilesThen). AreFiled P c.args.stops.now (files ++ rest)) (sym c.new-files.ensures.items) all

pub loop-stop-preserved : goal.loop-stop-preserved
loop-stop-preserved c =
    filed_more _ c.args.stops.now c.loop-stop.stop-index _ c.loop-stop.files.items c.push.new.self.items _ c.loop-stop-test.true c.loop-stop.invariant (refl, c.in_ok-lines.ensures) c.in_ok-push.ensures.items

pub returns : goal.returns
returns c =
    let P = HasFiles c.args.self.now.holds (opened_image c.args.self.now.opened) c.args.self.now.tasks.items c.args.self.now.processes c.args.self.now.words.items in
    filed_all P c.args.stops.now c.loop-stop.stop-index c.loop-stop.files.items c.loop-stop-test.false c.loop-stop.invariant
