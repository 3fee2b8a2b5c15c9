use Rattle.names.specs.Inside.{files_seen}
use Rattle.directories.specs.Trees.{directory_in}
use Rattle.names.proofs.ReadBehind.{HasRead}
use Rattle.names.proofs.tree.Tree.whole_directory.Given as goal

abbrev pub invariant-loop-piece : goal.invariant-loop-piece
invariant-loop-piece g l =
    HasRead g.D.Disk l.initial.self.kernel l.self.kernel l.self.calls_left
    (directory_in (files_seen g.D.Disk.image l.initial.self.kernel) l.number) l.piece l.bytes.items
