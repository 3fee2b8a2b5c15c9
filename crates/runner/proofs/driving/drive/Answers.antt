use Rattle.std.proofs.Common.{subst, sym}
use Rattle.clients.specs.Clients.{AreSameClients}
use Rattle.runner.proofs.Calls.{still_clients}
use Rattle.runner.proofs.driving.drive.Goals.{in-None, in-Some+else-call_all+then-has_ended}
use Rattle.runner.proofs.driving.drive.Goals as goal

pub loop-round-preserved-then-call_all : goal.loop-round-preserved-then-call_all
loop-round-preserved-then-call_all g c =
    still_clients c.loop-round.clients.len c.deref_mut.result.now c.args.clients.items c.loop-round.clients.items c.call_all.new.clients c.deref_mut.ensures.value c.loop-round.clients.ok.0 c.call_all.ensures.same c.loop-round.invariant

pub loop-round-preserved : goal.loop-round-preserved
loop-round-preserved g c =
    still_clients c.loop-round.clients.len c.deref_mut.result.now c.args.clients.items c.loop-round.clients.items c.call_all.new.clients c.deref_mut.ensures.value c.loop-round.clients.ok.0 c.call_all.ensures.same c.loop-round.invariant

pub returns : goal.returns
returns g c =
    elim c.match-next.branch [
      | in-None w ↦ subst (λ v. AreSameClients c.args.clients.items v.items) (sym w.clients-is) c.loop-round.invariant
      | in-Some+else-call_all+then-has_ended w ↦ subst (λ v. AreSameClients c.args.clients.items v.items) (sym w.clients-is)
          (still_clients c.loop-round.clients.len w.deref_mut.result.now c.args.clients.items c.loop-round.clients.items w.call_all.new.clients w.deref_mut.ensures.value c.loop-round.clients.ok.0 w.call_all.ensures.same c.loop-round.invariant)
    ]
