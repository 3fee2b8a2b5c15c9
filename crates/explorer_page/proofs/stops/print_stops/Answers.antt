use Rattle.std.proofs.Common.{subst}
use Rattle.std.specs.Io.KnownBytes.{Appends}
use Rattle.messages.specs.Lemmas.Texts.{printed_more}
use Rattle.pictures.specs.declared.types.FilesThen.{FilesThen}
use Rattle.explorer_page.specs.Page.{stop_text}
use Rattle.explorer_page.proofs.stops.print_stops.Goals as goal

pub loop-stop-preserved : goal.loop-stop-preserved
loop-stop-preserved g c =
    let one = subst (λ (item : FilesThen). Appends (g.O.Write.contents c.loop-stop.out) (g.O.Write.contents c.print_stop.new.out) (stop_text item)) c.stop-item.is c.in_ok-print_stop.ensures.ok in
    printed_more stop_text c.args.files.now c.loop-stop.stop-index c.stop-item.result _ _ _ c.loop-stop-test.true c.loop-stop.invariant one
