use Rattle.std.proofs.Common.{◌≡◌, take}
use Rattle.pictures.specs.Along.{left_along}
use Rattle.pictures.specs.Recording.{with_moment}
use Rattle.pictures.proofs.recorder.Moments.add_all.Given as goal

abbrev pub invariant-loop-note : goal.invariant-loop-note
invariant-loop-note l = l.self ≡ left_along (with_moment l.answer) l.initial.self (take l.note-index l.notes)
