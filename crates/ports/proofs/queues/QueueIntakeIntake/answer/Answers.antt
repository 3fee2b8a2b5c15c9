use Rattle.std.proofs.Common.{ℕ, ◌<◌, length, ap₂, refl, rules}
use Rattle.ports.specs.Common.{slice_get_read}
use Rattle.ports.specs.History.{gives}
use Rattle.ports.specs.Queues.{name_at}
use Rattle.ports.proofs.LaneLemmas.{fits_with, gives_lane, stays_so}
use Rattle.ports.proofs.queues.QueueIntakeIntake.answer.Goals as goal

pub returns-clause-fits : goal.returns-clause-fits
returns-clause-fits c =
    let l = c.index_mut.result.now in
    let n = c.answer.new.self in
    let here : c.args.pid < length c.args.self.now.lanes.items = search rules in
    fits_with c.args.self.now.lanes.items c.args.pid l n (gives c.args.answer) (slice_get_read c.args.self.now.lanes.items _ _ _ refl here c.index_mut.ensures.value) here (gives_lane l n c.args.answer c.answer.ensures.answers c.answer.ensures.polled c.answer.ensures.waiting)

pub returns-clause-names : goal.returns-clause-names
returns-clause-names c =
    let l = c.index_mut.result.now in
    let here : c.args.pid < length c.args.self.now.lanes.items = search rules in
    stays_so name_at c.args.self.now.lanes.items c.args.pid l c.answer.new.self (slice_get_read c.args.self.now.lanes.items _ _ _ refl here c.index_mut.ensures.value) here
    (ap₂ (λ (a b : ℕ). (a, b)) c.answer.ensures.waiting.submitted c.answer.ensures.polled)
