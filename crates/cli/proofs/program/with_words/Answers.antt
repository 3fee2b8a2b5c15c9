use Rattle.std.proofs.Common.{rules, ◌<◌, ◌≤◌, length, subst, sym}
use Rattle.std.proofs.lemmas.List.{take_all}
use Rattle.clap.specs.Words.{App}
use Rattle.cli.specs.CommandLine.{HasApp}
use Rattle.cli.specs.Table.{with_words}
use Rattle.cli.proofs.CommandLines.{one_word}
use Rattle.cli.proofs.Tables.{next_word}
use Rattle.cli.proofs.program.with_words.Goals as goal

pub loop-word-preserved : goal.loop-word-preserved
loop-word-preserved c =
    let words = c.args.words.now in
    let lt : c.loop-word.word-index < length words = search rules in
    λ app has. subst (λ (a : App). HasApp a c.in_ok-command.command) (sym (next_word app words c.loop-word.word-index _ lt))
    (one_word _ _ c.loop-word.command c.argument.result c.in_ok-command.command (c.loop-word.invariant app has) c.argument.ensures.rule c.argument.ensures.local c.in_ok-command.ensures)

pub returns : goal.returns
returns c =
    let words = c.args.words.now in
    let past : length words ≤ c.loop-word.word-index = search rules in
    λ app has. subst (λ ws. HasApp (with_words app ws) c.loop-word.command) (take_all c.loop-word.word-index words past) (c.loop-word.invariant app has)
