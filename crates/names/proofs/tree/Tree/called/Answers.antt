use Rattle.std.proofs.Common.{◌≡◌, ◌+◌, ◌-◌, refl, arith}
use Rattle.names.proofs.Going.{call_answers, call_broken, call_cause, call_goes, leaves_on, none_left, stays_here}
use Rattle.names.proofs.tree.Tree.called.Goals as goal

pub returns-then-self-eq0-clause-goes : goal.returns-then-self-eq0-clause-goes
returns-then-self-eq0-clause-goes g c = record {
  on = tt;
  stays = stays_here g.D.Disk c.args.self.now.kernel;
  ends = none_left g.D.Disk c.args.self.now.kernel c.args.self.now.calls_left c.requires c.if-self-eq0.true;
}

pub returns-in-Ok-clause-goes : goal.returns-in-Ok-clause-goes
returns-in-Ok-clause-goes g c =
    let some = c.if-self-eq0.false in
    let less : (c.args.self.now.calls_left - 1) + 1 ≡ c.args.self.now.calls_left = omega arith in
    record {
      on = call_goes g.D.Disk c.args.op c.args.self.now.kernel c.call.new.kernel c.in-Ok.reply c.args.self.now.calls_left (c.args.self.now.calls_left - 1)
          less c.requires c.in-Ok.ensures.inside c.call.ensures.opening c.in-Ok.ensures.adds c.call.ensures.reached;
      stays = leaves_on g.D.Disk c.args.self.now.kernel c.call.new.kernel c.call.ensures.opening c.call.ensures.name c.call.ensures.leaves;
      ends = tt;
    }

pub returns-in-Ok-clause-answers : goal.returns-in-Ok-clause-answers
returns-in-Ok-clause-answers g c =
    call_answers g.D.Disk c.args.op c.args.self.now.kernel c.call.new.kernel c.in-Ok.reply c.args.self.now.calls_left c.requires c.in-Ok.ensures.adds

pub returns-in-Ok-clause-cause : goal.returns-in-Ok-clause-cause
returns-in-Ok-clause-cause g c =
    call_cause g.D.Disk c.args.op c.args.self.now.kernel c.call.new.kernel c.in-Ok.reply c.args.self.now.calls_left c.requires c.in-Ok.ensures.adds

pub returns-in-Err-clause-goes : goal.returns-in-Err-clause-goes
returns-in-Err-clause-goes g c = record {
  on = tt;
  stays = leaves_on g.D.Disk c.args.self.now.kernel c.call.new.kernel c.call.ensures.opening c.call.ensures.name c.call.ensures.leaves;
  ends = record { none = refl; broken = call_broken g.D.Disk c.args.op c.args.self.now.kernel c.call.new.kernel c.in-Err.fault c.in-Err.ensures.refused };
}
