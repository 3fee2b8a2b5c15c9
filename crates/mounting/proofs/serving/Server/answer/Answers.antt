use Rattle.std.proofs.Common.{rules, arith}
use Rattle.std.proofs.lemmas.Grind.{common_steps}
use Rattle.fuse.specs.Requests.{asked}
use Rattle.mounting.specs.Causes.{Looks}
use Rattle.mounting.specs.Changes.{Begins}
use Rattle.mounting.proofs.Hindering.{left_any}
use Rattle.mounting.proofs.TreeCalls.{begins_look, looks_stay}
use Rattle.mounting.proofs.serving.Server.answer.Goals as goal

pub returns-in_default : goal.returns-in_default
returns-in_default g c =
    let k = c.args.tree.now.kernel in
    let m = c.look.new.tree.kernel in
    let left = c.look.new.tree.calls_left in
    let looks : Looks (asked c.args.request.now) = first_of (search rules, grind (arith, common_steps)) in
    record {
      ready = c.look.ensures.ready;
      makes = λ task o first within before. c.look.ensures.looks task o first before;
      does = c.look.ensures.does;
      hindered = c.look.ensures.hindered;
      kept = left_any g.D.Disk (Begins c.args.node (asked c.args.request.now)) k m left c.look.result (λ some. begins_look c.args.node (asked c.args.request.now) _ _ looks (looks_stay g.D.Disk k m c.args.tree.now.calls_left left c.look.ensures.looks some));
    }
