use Rattle.std.proofs.Common.{◌<◌, length, ap, refl, arith, rules, length-append}
use Rattle.std.specs.Prelude.{option_to_list}
use Rattle.ports.specs.Common.{slice_get_read}
use Rattle.ports.proofs.LaneLemmas.{leaves_rest, polls_lane}
use Rattle.ports.proofs.queues.QueueIntake.poll.Goals as goal

pub returns-clause-rest : goal.returns-clause-rest
returns-clause-rest c =
    let q = c.args.self.now in
    let l = c.index_mut.result.now in
    let n = c.poll.new.self in
    let here : c.args.pid < length q.lanes.items = search rules in
    let less = ap length c.poll.ensures.answers in
    leaves_rest q _ c.args.pid l n refl (slice_get_read q.lanes.items _ _ _ refl here c.index_mut.ensures.value) here
    (omega (arith, less, length-append (option_to_list c.poll.result) n.answers.items))
    (polls_lane l n _ c.poll.ensures.answers c.poll.ensures.polled c.poll.ensures.waiting)
