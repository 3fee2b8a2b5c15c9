use Rattle.std.specs.Prelude.{◌-◌, length}
use Rattle.crash_check.proofs.choices.+try_rest.Given as goal

abbrev pub decreases-try_rest : goal.decreases-try_rest
decreases-try_rest l = length l.keep.now - l.from
