use Rattle.std.proofs.Common.{◌≡◌, ◌≤◌, ◌+◌, ◌*◌, take, Some}
use Rattle.calls.specs.Files.{files_on}
use Rattle.calls.specs.Calls.{call_count, image_on}
use Rattle.transfer.specs.Places.{put_at}
use Rattle.transfer.specs.Stopped.{StaysPlace}
use Rattle.transfer.specs.PutWriting.{AreAnswered}
use Rattle.transfer.proofs.writing.append_all.Given as goal

-- the pieces so far were written
abbrev pub invariant-loop-piece : goal.invariant-loop-piece
invariant-loop-piece g l = record {
  answered : AreAnswered g.D.Disk l.initial.kernel l.kernel;
  calls : call_count l.kernel ≤ call_count l.initial.kernel + 3 * l.piece;
  files : files_on g.D.Disk.image l.kernel ≡ put_at (files_on g.D.Disk.image l.initial.kernel) l.number (take (l.piece * 6144) l.bytes);
  stays : StaysPlace g.D.Disk (image_on g.D.Disk.image l.initial.kernel) (Some l.number) l.bytes l.initial.kernel l.kernel;
}
