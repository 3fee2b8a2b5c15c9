use Rattle.messages.specs.Deeds.{note_text}
use Rattle.messages.specs.Lemmas.Texts.{printed_more}
use Rattle.messages.proofs.deeds.print_notes.Goals as goal

pub loop-note-preserved : goal.loop-note-preserved
loop-note-preserved g c =
    printed_more (note_text c.args.detail c.args.inode_count) c.args.notes.now c.loop-note.note-index _ _ _ _ c.loop-note-test.true c.loop-note.invariant c.in_ok-print_note.ensures.ok
