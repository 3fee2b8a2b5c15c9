use Rattle.std.proofs.Common.{◌≡◌, [], refl, sym, ap, ◌∙◌, append-nil}
use Rattle.std.specs.Prelude.{Option}
use Rattle.std.specs.Option.{option_copied}
use Rattle.ports.specs.Common.{Lane, slice_get_read}
use Rattle.ports.specs.History.{first_in}
use Rattle.ports.specs.Queues.{waiting, waiting_at}
use Rattle.ports.proofs.queues.QueueIntakeIntake.next.Goals as goal

pub returns : goal.returns
returns c =
    let head : first_in (waiting c.args.self.now c.args.pid) ≡ option_copied c.front.result =
    ap (λ (o : Option Lane). first_in (waiting_at o)) (slice_get_read c.args.self.now.lanes.items _ _ _ refl c.requires c.index.ensures) ∙ sym c.front.ensures in
    ((refl, (λ _. tt), (refl, (λ _. refl), ([], append-nil _), head, refl, (λ p _. refl), (λ p h x. x))), record { after = tt })
