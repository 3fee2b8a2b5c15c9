use Rattle.std.proofs.Common.{rules, ◌<◌, ◌≤◌, length, subst, sym}
use Rattle.std.proofs.lemmas.List.{take_all}
use Rattle.clap.specs.Words.{App}
use Rattle.cli.specs.CommandLine.{HasApp}
use Rattle.cli.specs.Table.{with_lines}
use Rattle.cli.proofs.Tables.{next_line}
use Rattle.cli.proofs.program.with_commands.Goals as goal

pub loop-line-preserved : goal.loop-line-preserved
loop-line-preserved c =
    let lines = c.args.lines.now in
    let lt : c.loop-line.line-index < length lines = search rules in
    λ app has. subst (λ (a : App). HasApp a c.in_ok-program.program) (sym (next_line app lines c.loop-line.line-index _ lt))
    (c.in_ok-program.ensures _ _ (c.loop-line.invariant app has) c.command_of.ensures)

pub returns : goal.returns
returns c =
    let lines = c.args.lines.now in
    let past : length lines ≤ c.loop-line.line-index = search rules in
    λ app has. subst (λ ls. HasApp (with_lines app ls) c.loop-line.program) (take_all c.loop-line.line-index lines past) (c.loop-line.invariant app has)
