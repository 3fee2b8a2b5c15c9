use Rattle.std.proofs.Common.{◌≤◌, ◌<◌, ◌+◌, List, Option, Bor, length, rules, arith, subst, sym, [], Some, ℕ}
use Rattle.cli.proofs.TipLemmas.{all_met, as_near, nearer, same_nearest}
use Rattle.cli.proofs.tips.nearest.Goals as goal
use Rattle.cli.proofs.tips.nearest.Goals.{then-edits-more, else-edits-more}

pub loop-name-preserved : goal.loop-name-preserved
loop-name-preserved c =
    let word = c.args.word.now in
    let names = c.args.names.now in
    let i = c.loop-name.name-index in
    let lt : i < length names = search rules in
    elim c.if-edits-more.branch [
      | then-edits-more w ↦
          same_nearest word names (i + 1) _ _ _ _ w.near-is w.more-is
          (nearer word names i c.loop-name.near c.loop-name.more c.in_ok-edits.edits _ lt c.loop-name.invariant c.in_ok-edits.ensures.value w.if-edits-more.true)
      | else-edits-more w ↦
          same_nearest word names (i + 1) _ _ _ _ w.near-is w.more-is
          (as_near word names i c.loop-name.near c.loop-name.more c.in_ok-edits.edits _ lt c.loop-name.invariant c.in_ok-edits.ensures.value w.if-edits-more.false)
    ]

pub returns : goal.returns
returns c =
    let names = c.args.names.now in
    let past : length names ≤ c.loop-name.name-index = search rules in
    all_met c.args.word.now names c.loop-name.name-index c.loop-name.near c.loop-name.more past c.loop-name.invariant
