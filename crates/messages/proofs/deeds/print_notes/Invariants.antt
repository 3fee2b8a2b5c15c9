use Rattle.std.proofs.Common.{take}
use Rattle.std.specs.List.{flat_map}
use Rattle.std.specs.Io.KnownBytes.{Appends}
use Rattle.messages.specs.Deeds.{note_text}
use Rattle.messages.proofs.deeds.print_notes.Given as goal

abbrev pub invariant-loop-note : goal.invariant-loop-note
invariant-loop-note g l = Appends (g.O.Write.contents l.initial.out) (g.O.Write.contents l.out) (flat_map (note_text l.detail l.inode_count) (take l.note-index l.notes))
