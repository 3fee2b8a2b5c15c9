use Rattle.std.proofs.Common.{rules, ◌≡◌, subst, sym, refl, set, Option, None}
use Rattle.history.specs.Common.{Entry, Phase, Process}
use Rattle.history.specs.Holding.{AreHeld}
use Rattle.history.specs.Lemmas.Changing.{counts_moved}
use Rattle.history.specs.Lemmas.Holding.{held_given}
use Rattle.history.proofs.processes.Processes.answer.Goals as goal

pub invariant_of-self : goal.invariant_of-self
invariant_of-self c =
    let after : c.take.new.self ≡ None = search rules in
    let t : Process = record { begun = c.index_mut-process.result.now.begun; at = Phase.Idle; room = None } in (
      subst (λ (h : Option Entry). AreHeld (set c.self.inside.held.items c.args.pid h) (set c.self.inside.processes.items c.args.pid t) c.self.inside.journal.list) (sym after)
          (held_given c.self.inside.held.items c.self.inside.processes.items c.args.pid t (search rules) c.self.inside.journal.list refl c.self.invariant.0),
      counts_moved c.self.inside.changes.items c.self.inside.processes.items c.self.inside.journal.list c.self.invariant.1 c.args.pid t,
    )
