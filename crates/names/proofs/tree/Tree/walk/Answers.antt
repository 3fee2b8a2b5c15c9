use Rattle.std.proofs.Common.{◌∙◌, arith}
use Rattle.names.specs.Inside.{files_seen}
use Rattle.names.proofs.Going.{goes_on, stays_on}
use Rattle.names.proofs.SeenLooks.{walked_on}
use Rattle.names.proofs.tree.Tree.walk.Goals as goal

pub returns-in-Err-clause-goes : goal.returns-in-Err-clause-goes
returns-in-Err-clause-goes g c =
    let d = g.D.Disk in
    let k = c.args.self.now.kernel in
    let a = c.loop-name.self.kernel in
    let m = c.step.new.self.kernel in
    let walked = c.loop-name.invariant in
    record {
      on = goes_on d k a m c.loop-name.self.calls_left c.step.new.self.calls_left
          (record { way = walked.way; same = walked.same; opening = walked.opening; later = walked.later; reached = walked.reached }) c.in_ok-next.ensures.goes.on;
      stays = stays_on d k a m c.loop-name.self.calls_left
          (record { way = walked.way; same = walked.same; opening = walked.opening; later = walked.later; reached = walked.reached }) walked.stays c.step.ensures.goes.stays;
      ends = tt;
    }

pub loop-name-preserved : goal.loop-name-preserved
loop-name-preserved g c =
    let walked = c.loop-name.invariant in
    record {
      way = c.in_ok-next.ensures.goes.on.way;
      same = c.in_ok-next.ensures.goes.on.same ∙ walked.same;
      opening = c.in_ok-next.ensures.goes.on.opening ∙ walked.opening;
      files = c.in_ok-next.ensures.same ∙ walked.files;
      stays = record { on = λ o same so_far. c.step.ensures.goes.stays.on o (walked.same ∙ same) (walked.stays.on o same so_far) };
      later = omega (arith, walked.later, c.in_ok-next.ensures.goes.on.later);
      reached = λ o so_far. c.in_ok-next.ensures.goes.on.reached o (walked.reached o so_far);
      on = walked_on (files_seen g.D.Disk.image c.loop-name.self.kernel) (files_seen g.D.Disk.image c.args.self.now.kernel) c.loop-name.number c.in-Ok.next
          c.loop-name.name-index c.args.names.now c.name-item.result c.in_ok-next.field-0 c.loop-name-test.true c.name-item.is c.in_ok-next.ensures.led c.in-Ok.is
          walked.files walked.on;
    }

pub returns-clause-goes : goal.returns-clause-goes
returns-clause-goes g c =
    let walked = c.loop-name.invariant in
    record { on = record { way = walked.way; same = walked.same; opening = walked.opening; later = walked.later; reached = walked.reached }; stays = walked.stays; ends = tt }
