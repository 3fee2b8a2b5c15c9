-- What a step comes to.
use Rattle.std.specs.Prelude.{Result, Ok, Err}
use Rattle.model.specs.declared.types.progress.Progress.{Progress}

-- what came of a last step; else what a step came to that was made by this one
abbrev pub ended : {T U : Type 0} → Progress T → Result T (Progress U)
ended Progress.Moved = Err Progress.Moved
ended (Progress.Sleeping why) = Err (Progress.Sleeping why)
ended (Progress.Over out) = Ok out
ended (Progress.Fault fault) = Err (Progress.Fault fault)

-- what a step of a machine is where its last one is one step among others
abbrev pub one_more : {T : Type 0} → Progress T → Progress (Unit {0})
one_more Progress.Moved = Progress.Moved
one_more (Progress.Sleeping why) = Progress.Sleeping why
one_more (Progress.Over out) = Progress.Moved
one_more (Progress.Fault fault) = Progress.Fault fault
