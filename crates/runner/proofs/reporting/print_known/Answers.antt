use Rattle.std.proofs.Common.{◌∙◌, ◌<◌, ◌+◌, [], ◌∷◌, ◌++◌, ap, arith, length, sym}
use Rattle.std.proofs.lemmas.List.{append_assoc, length-append}
use Rattle.rings.specs.Callers.{unpolled}
use Rattle.messages.specs.Answers.{answer_line}
use Rattle.runner.proofs.Lines.{next_known, one_more_line}
use Rattle.runner.proofs.reporting.print_known.Goals as goal

pub loop-known-preserved : goal.loop-known-preserved
loop-known-preserved g c =
    let inv = c.loop-known.invariant in
    let a = c.in-Some.answer in
    let test = c.loop-known-test.true in
    let end = c.loop-known.auto._known-end in
    let known = c.answers_known-known-end.ensures in
    let count = inv.count in
    let all = ap length inv.split ∙ length-append inv.done inv.left in
    let some : 0 < length inv.left = omega (arith, test, end, known, count, all) in
    let oldest = c.in-Some.ensures.oldest in
    let rest = next_known a inv.left (unpolled c.loop-known.caller) (unpolled c.poll.new.self) inv.ahead.0 oldest.0 inv.ahead.1 oldest.1 some in
    record {
      done = inv.done ++ a ∷ [];
      left = rest.0;
      split = inv.split ∙ ap (λ l. inv.done ++ l) rest.1 ∙ sym (append_assoc inv.done (a ∷ []) rest.0);
      count = length-append inv.done (a ∷ []) ∙ ap (λ n. n + 1) count;
      ahead = rest.2;
      printed = one_more_line (answer_line c.args.pid) inv.done a _ _ _ inv.printed c.in_ok-print.ensures.ok;
    }
