use Rattle.std.proofs.Common.{◌++◌, List, drop}
use Rattle.pictures.specs.declared.types.FilesThen.{FilesThen}
use Rattle.commands_runs.specs.Images.{opened_image}
use Rattle.commands_runs.specs.Filed.{AreFiled, HasFiles}
use Rattle.commands_runs.proofs.anew.Anew.files_at.Given as goal

abbrev pub invariant-loop-stop : goal.invariant-loop-stop
invariant-loop-stop l =
    let P = HasFiles l.self.holds (opened_image l.self.opened) l.self.tasks.items l.self.processes l.self.words.items in
    (rest : List FilesThen) → AreFiled P (drop l.stop-index l.stops) rest → AreFiled P l.stops (l.files.items ++ rest)
