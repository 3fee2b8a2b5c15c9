use Rattle.std.proofs.Common.{take}
use Rattle.clap.specs.Words.{App}
use Rattle.cli.specs.CommandLine.{HasApp}
use Rattle.cli.specs.Table.{with_words}
use Rattle.cli.proofs.program.with_words.Given as goal

-- the command has the first words
abbrev pub invariant-loop-word : goal.invariant-loop-word
invariant-loop-word l = (app : App) → HasApp app l.initial.command → HasApp (with_words app (take l.word-index l.words)) l.command
