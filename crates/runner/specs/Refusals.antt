-- How it is told that a script isn't run by threads.
use Rattle.std.specs.Prelude.{codes}
use Rattle.opening.specs.Openings.{open_telling}
use Rattle.messages.specs.Telling.{Telling, disk_telling, plain, unwritten}
use Rattle.runner.specs.declared.refusals.RunRefusal.{RunRefusal}
use Rattle.runner.specs.declared.refusals.RunRefusal.TheVariants.{Unopened, Thread, Disk, Unanswered, NoMemory, Output}

abbrev pub run_telling : RunRefusal → Telling
run_telling (Unopened fault) = open_telling fault
run_telling Thread = plain (codes "run") 1 (codes "Thread")
run_telling (Disk fault) = disk_telling fault
run_telling Unanswered = plain (codes "run") 3 (codes "Unanswered")
run_telling NoMemory = plain (codes "run") 4 (codes "NoMemory")
run_telling Output = unwritten
