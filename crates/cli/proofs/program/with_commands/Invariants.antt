use Rattle.std.proofs.Common.{take}
use Rattle.clap.specs.Words.{App}
use Rattle.cli.specs.CommandLine.{HasApp}
use Rattle.cli.specs.Table.{with_lines}
use Rattle.cli.proofs.program.with_commands.Given as goal

-- the program has the first commands
abbrev pub invariant-loop-line : goal.invariant-loop-line
invariant-loop-line l = (app : App) → HasApp app l.initial.program → HasApp (with_lines app (take l.line-index l.lines)) l.program
