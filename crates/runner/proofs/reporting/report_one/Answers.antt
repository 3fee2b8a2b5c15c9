use Rattle.std.proofs.Common.{◌∙◌, ◌++◌, ◌-◌, ◌&&◌, ap, ap₂, flat_map, length, refl, subst, sym}
use Rattle.std.specs.Prelude.{Bool, Result, nat_le}
use Rattle.std.proofs.lemmas.List.{length-append}
use Rattle.std.specs.Io.KnownBytes.{Appends}
use Rattle.rings.specs.Callers.{polled, submitted, unpolled}
use Rattle.messages.specs.Answers.{answer_line}
use Rattle.clients.specs.Clients.{client_ops}
use Rattle.messages.specs.declared.told.Unwritten.{Unwritten}
use Rattle.model.specs.Layout.{inode_count_of}
use Rattle.runner.proofs.Lines.{enough, lines_and_last}
use Rattle.runner.specs.Reports.{PrintsBehind, report_text}
use Rattle.runner.proofs.Reports.{account_own}
use Rattle.runner.proofs.reporting.report_one.Goals as goal

pub returns-clause-reported : goal.returns-clause-reported
returns-clause-reported g c =
    let parts = c.into_parts-caller.ensures in
    let caller = c.into_parts-caller.result.0 in
    let known = unpolled c.account-caller.result.1 in
    let n = inode_count_of (g.D.Disk.image c.args.kernel.now.opening) in
    let k = c.args.kernel.now in
    let ops = client_ops c.args.client in
    let old = g.O.Write.contents c.args.out.now in
    let new = g.O.Write.contents c.print.new.out in
    let mine = nat_le c.saturating_sub.result c.answers_known.result in
    subst (λ (b : Result Bool Unwritten). PrintsBehind n k c.args.pid ops b (c.in_ok-before.before && mine) old new) (sym c.in_ok-before.was) (record {
      mine = mine;
      text = report_text c.args.pid (polled caller ++ known) c.account-caller.result.0;
      is = record {
        submitted = submitted caller;
        behind = parts.ops.0;
        first = parts.ops.1;
        answers = polled caller ++ known;
        account = c.account-caller.result.0;
        accounts = c.account-caller.ensures.account;
        is = refl;
        whole = ap₂ nat_le (c.saturating_sub.ensures ∙ ap (λ m. c.operations-wanted.result - m) (c.len.ensures ∙ c.into_parts-caller.result.1.ok.0 ∙ ap length (sym parts.answers))) c.answers_known.ensures
            ∙ enough c.operations-wanted.result (length (polled caller)) (length known)
            ∙ ap₂ nat_le c.operations-wanted.ensures (sym (length-append (polled caller) known));
      };
      both = refl;
      printed = lines_and_last (answer_line c.args.pid) (polled caller) known _ _ _ _ _
          (subst (λ answers. Appends (g.O.Write.contents c.args.out.now) (g.O.Write.contents c.print_answers.new.out) (flat_map (answer_line c.args.pid) answers)) (c.as_slice.ensures.value ∙ sym parts.answers) c.in_ok-print_answers.ensures.printed)
          c.in_ok-print_known.ensures.printed c.in_ok-print.ensures.ok;
    })

pub returns-in_err-before-clause-own : goal.returns-in_err-before-clause-own
returns-in_err-before-clause-own g c =
    let parts = c.into_parts-caller.ensures in
    account_own g.D.Disk _ g.H.Herald c.args.kernel.now c.known.ensures c.args.pid _ _ _ c.account-caller.ensures.account (client_ops c.args.client) parts.ops.0 parts.ops.1

pub returns-in_err-print_answers-clause-own : goal.returns-in_err-print_answers-clause-own
returns-in_err-print_answers-clause-own g c =
    let parts = c.into_parts-caller.ensures in
    account_own g.D.Disk _ g.H.Herald c.args.kernel.now c.known.ensures c.args.pid _ _ _ c.account-caller.ensures.account (client_ops c.args.client) parts.ops.0 parts.ops.1

pub returns-in_err-print_known-clause-own : goal.returns-in_err-print_known-clause-own
returns-in_err-print_known-clause-own g c =
    let parts = c.into_parts-caller.ensures in
    account_own g.D.Disk _ g.H.Herald c.args.kernel.now c.known.ensures c.args.pid _ _ _ c.account-caller.ensures.account (client_ops c.args.client) parts.ops.0 parts.ops.1

pub returns-in_err-print-clause-own : goal.returns-in_err-print-clause-own
returns-in_err-print-clause-own g c =
    let parts = c.into_parts-caller.ensures in
    account_own g.D.Disk _ g.H.Herald c.args.kernel.now c.known.ensures c.args.pid _ _ _ c.account-caller.ensures.account (client_ops c.args.client) parts.ops.0 parts.ops.1

pub returns-clause-own : goal.returns-clause-own
returns-clause-own g c =
    let parts = c.into_parts-caller.ensures in
    account_own g.D.Disk _ g.H.Herald c.args.kernel.now c.known.ensures c.args.pid _ _ _ c.account-caller.ensures.account (client_ops c.args.client) parts.ops.0 parts.ops.1
