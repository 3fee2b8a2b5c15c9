use Rattle.std.proofs.Common.{rules, List, ◌<◌, length, sym, subst, refl, ◌∙◌}
use Rattle.kernel.specs.Common.{Runs, take_more, Turn}
use Rattle.kernel.proofs.Turns.{runs_more}
use Rattle.kernel.specs.Lemmas.Turns.{runs_on_none, runs_on_then}
use Rattle.kernel.proofs.runs.run.Goals as goal

pub loop-turn-init : goal.loop-turn-init
loop-turn-init g c = record { runs = refl; keeps = runs_on_none g.D.Disk g.I.Intake g.H.Herald c.args.kernel.now c.known.ensures.stop.keeps; board = refl }

pub loop-turn-preserved : goal.loop-turn-preserved
loop-turn-preserved g c =
    let old = c.args.kernel.now in
    let now = c.loop-turn.kernel in
    let new = c.make.new.self in
    let kept = c.loop-turn.invariant in
    let lt : c.loop-turn.turn-index < length c.args.turns.now = search rules in
    record {
      runs = subst (λ (ts : List Turn). Runs g.D.Disk g.I.Intake g.H.Herald ts old new) (sym (take_more c.args.turns.now c.loop-turn.turn-index _ lt))
          (runs_more g.D.Disk g.I.Intake g.H.Herald _ _ old now new kept.runs c.make.ensures.turn);
      keeps = runs_on_then g.D.Disk g.I.Intake g.H.Herald old now new kept.keeps c.make.ensures.keeps;
      board = c.make.ensures.board ∙ kept.board;
    }
