use Rattle.std.proofs.Common.{subst}
use Rattle.std.specs.Io.KnownBytes.{Appends}
use Rattle.messages.specs.Lemmas.Texts.{printed_more}
use Rattle.pictures.specs.FilesRow.{files_text}
use Rattle.pictures.specs.declared.types.FilesThen.{FilesThen}
use Rattle.pictures.proofs.timeline.print_files.Goals as goal

pub loop-then-preserved : goal.loop-then-preserved
loop-then-preserved g c =
    let one = subst (λ (then_ : FilesThen). Appends (g.O.Write.contents c.loop-then.out) (g.O.Write.contents c.print_files_then.new.out) (files_text c.args.frame then_)) c.then-item.is c.in_ok-print_files_then.ensures.ok in
    printed_more (files_text c.args.frame) c.args.files.now c.loop-then.then-index c.then-item.result _ _ _ c.loop-then-test.true c.loop-then.invariant one
