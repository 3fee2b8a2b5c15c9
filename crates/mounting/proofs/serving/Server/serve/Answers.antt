use Rattle.mounting.proofs.Hindering.{number_few, number_some}
use Rattle.mounting.proofs.TreeCalls.{served_done, served_hindered, served_left, served_run}
use Rattle.mounting.specs.Answers.{answer_bytes}
use Rattle.fuse.specs.Requests.{header_in, wants_none}
use Rattle.fuse.specs.declared.header.Header.{Header}
use Rattle.std.proofs.Common.{◌≡◌, ◌∙◌, ◌^◌, ◌<◌, ℕ, List, [], false, inl, inr, refl, ap, subst, sym, arith}
use Rattle.mounting.proofs.serving.Server.serve.Goals as goal

pub returns-in_err-put_answer-in-Ok-clause-runs : goal.returns-in_err-put_answer-in-Ok-clause-runs
returns-in_err-put_answer-in-Ok-clause-runs g c = served_run g.D.Disk c.args.bytes.now c.in-Some.header c.args.tree.now.kernel c.told.new.tree.kernel c.args.tree.now.calls_left c.told.new.tree.calls_left c.in-Some.ensures.is c.told.ensures.makes

pub returns-in_err-put_answer-in-Err-clause-runs : goal.returns-in_err-put_answer-in-Err-clause-runs
returns-in_err-put_answer-in-Err-clause-runs g c = served_run g.D.Disk c.args.bytes.now c.in-Some.header c.args.tree.now.kernel c.told.new.tree.kernel c.args.tree.now.calls_left c.told.new.tree.calls_left c.in-Some.ensures.is c.told.ensures.makes

pub returns-in_ok-put_answer-in-Ok-clause-runs : goal.returns-in_ok-put_answer-in-Ok-clause-runs
returns-in_ok-put_answer-in-Ok-clause-runs g c = served_run g.D.Disk c.args.bytes.now c.in-Some.header c.args.tree.now.kernel c.told.new.tree.kernel c.args.tree.now.calls_left c.told.new.tree.calls_left c.in-Some.ensures.is c.told.ensures.makes

pub returns-in_ok-put_answer-in-Err-clause-runs : goal.returns-in_ok-put_answer-in-Err-clause-runs
returns-in_ok-put_answer-in-Err-clause-runs g c = served_run g.D.Disk c.args.bytes.now c.in-Some.header c.args.tree.now.kernel c.told.new.tree.kernel c.args.tree.now.calls_left c.told.new.tree.calls_left c.in-Some.ensures.is c.told.ensures.makes

pub returns-in_ok-put_answer-in-Ok-clause-answered : goal.returns-in_ok-put_answer-in-Ok-clause-answered
returns-in_ok-put_answer-in-Ok-clause-answered g c =
    let same : c.in-Some.header ≡ header_in c.args.bytes.now = c.in-Some.ensures.is in
    record {
      error = 0;
      few = omega arith;
      body = c.told.new.out.items;
      is = c.in_ok-put_answer-in-Ok.ensures ∙ ap (λ (h : Header). answer_bytes 0 h.unique c.as_slice.result.now) same ∙ ap (λ (b : List ℕ). answer_bytes 0 (header_in c.args.bytes.now).unique b) c.as_slice.ensures.value;
      alone = inl refl;
      is_done = λ zero. served_done g.D.Disk c.args.bytes.now c.in-Some.header c.told.new.out.items c.args.tree.now.kernel c.told.new.tree.kernel same (c.in-Ok.ensures.does c.clear.ensures.items);
      hindered = λ some. absurd (some refl);
      wanted = subst (λ (h : Header). wants_none h.opcode ≡ false) same (sym c.wants_none.ensures ∙ c.if-wants_none.false);
    }

pub returns-in_ok-put_answer-in-Err-clause-answered : goal.returns-in_ok-put_answer-in-Err-clause-answered
returns-in_ok-put_answer-in-Err-clause-answered g c =
    let same : c.in-Some.header ≡ header_in c.args.bytes.now = c.in-Some.ensures.is in
    record {
      error = c.number.result;
      few = subst (λ (n : ℕ). n < 2 ^ 32) (sym c.number.ensures) (number_few c.in-Err.errno);
      body = [];
      is = c.in_ok-put_answer-in-Err.ensures ∙ ap (λ (h : Header). answer_bytes c.number.result h.unique []) same;
      alone = inr refl;
      is_done = λ zero. absurd (number_some c.in-Err.errno (sym c.number.ensures ∙ zero));
      hindered = λ some. (c.in-Err.errno, (c.number.ensures, served_hindered g.D.Disk c.args.bytes.now c.in-Some.header c.told.new.tree.kernel c.told.new.tree.calls_left c.in-Err.errno same c.in-Err.ensures.hindered, served_left g.D.Disk c.args.bytes.now c.in-Some.header c.args.tree.now.kernel c.told.new.tree.kernel c.told.new.tree.calls_left c.in-Err.errno same c.in-Err.ensures.kept));
      wanted = subst (λ (h : Header). wants_none h.opcode ≡ false) same (sym c.wants_none.ensures ∙ c.if-wants_none.false);
    }
