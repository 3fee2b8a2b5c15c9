-- How it is told that command lines can't be had.
use Rattle.std.specs.Prelude.{codes}
use Rattle.messages.specs.Telling.{Telling, plain}
use Rattle.cmd.specs.declared.input.InputFault.{InputFault}
use Rattle.cmd.specs.declared.input.InputFault.TheVariants.{Read, TooLarge, NoMemory}

abbrev pub input_telling : InputFault → Telling
input_telling Read = plain (codes "input") 1 (codes "Read")
input_telling TooLarge = plain (codes "input") 2 (codes "TooLarge")
input_telling NoMemory = plain (codes "input") 3 (codes "NoMemory")
