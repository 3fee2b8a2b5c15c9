use Rattle.std.proofs.Common.{◌∙◌}
use Rattle.pictures.specs.Recording.{with_moment}
use Rattle.pictures.proofs.AlongLemmas.{left_more}
use Rattle.pictures.proofs.recorder.Moments.add_all.Goals as goal

pub loop-note-preserved : goal.loop-note-preserved
loop-note-preserved c =
    c.add.ensures ∙ left_more (with_moment c.args.answer) c.args.self.now c.loop-note.self c.args.notes.now c.loop-note.note-index _ c.loop-note-test.true c.loop-note.invariant
