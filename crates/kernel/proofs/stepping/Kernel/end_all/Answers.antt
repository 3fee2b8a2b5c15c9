use Rattle.std.proofs.Common.{◌∙◌, refl}
use Rattle.kernel.specs.Lemmas.Turns.{runs_on_none, runs_on_then}
use Rattle.kernel.proofs.Flushed.{flushed, more_ended, none_ended}
use Rattle.kernel.proofs.stepping.Kernel.end_all.Goals as goal

pub loop-init : goal.loop-init
loop-init g c = record {
  ended = none_ended g.D.Disk g.I.Intake g.H.Herald c.args.self.now;
  keeps = runs_on_none g.D.Disk g.I.Intake g.H.Herald c.args.self.now c.known.ensures.stop.keeps;
  board = refl;
}

pub loop-preserved : goal.loop-preserved
loop-preserved g c =
    let went = c.go_on_somewhere.ensures in
    record {
      ended = more_ended g.D.Disk g.I.Intake g.H.Herald c.args.self.now c.loop.self c.go_on_somewhere.new.self c.loop.invariant.ended went.ends went.keeps.many (went.goes.falls c.loop-test.true);
      keeps = runs_on_then g.D.Disk g.I.Intake g.H.Herald c.args.self.now c.loop.self c.go_on_somewhere.new.self c.loop.invariant.keeps went.keeps;
      board = went.board ∙ c.loop.invariant.board;
    }

pub loop-smaller : goal.loop-smaller
loop-smaller g c = c.go_on_somewhere.ensures.goes.falls c.loop-test.true

pub returns : goal.returns
returns g c =
    let went = c.go_on_somewhere.ensures in
    record {
      flushes = flushed g.D.Disk g.I.Intake g.H.Herald c.args.self.now c.loop.self c.go_on_somewhere.new.self c.loop.invariant.ended went.ends c.known.ensures;
      keeps = runs_on_then g.D.Disk g.I.Intake g.H.Herald c.args.self.now c.loop.self c.go_on_somewhere.new.self c.loop.invariant.keeps went.keeps;
      board = went.board ∙ c.loop.invariant.board;
      over = went.goes.over c.loop-test.false;
    }
