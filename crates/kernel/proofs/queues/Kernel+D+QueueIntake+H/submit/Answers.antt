use Rattle.std.proofs.Common.{rules, arith, refl, ◌≡◌, ◌<◌, ⊎_elim, inl, inr, length, ap, subst}
use Rattle.kernel.specs.Common.{ghosts, process, State}
use Rattle.ports.specs.Queues.{waiting}
use Rattle.kernel.proofs.Openings.{where_ok, where_both, where_err}
use Rattle.kernel.proofs.Around.{inv_around}
use Rattle.kernel.proofs.Ports.{ports_stay}
use Rattle.kernel.proofs.queues.Kernel+D+QueueIntake+H.submit.Goals as goal

pub invariant_of-self : goal.invariant_of-self
invariant_of-self g c =
    let k = c.self.inside in
    let ports = c.self.invariant.ports in
    inv_around g.D.Disk ghosts g.H.Herald _ _ _ _ _ _ _ c.self.invariant
    (ports_stay ghosts g.H.Herald k.intake c.submit.new.self k.herald k.herald k.store.volume.log.committed k.store.volume.log.committed k.processes k.processes ports c.submit.ensures.rest.processes refl refl
    (λ p busy. c.submit.ensures.rest.room p (ports.room p busy)) c.submit.ensures.rest.fits ports.told)

pub returns-clause-number : goal.returns-clause-number
returns-clause-number g c =
    let lt : c.args.pid < length c.self.inside.processes.processes = search rules in
    let h = c.self.invariant.ports.histories c.args.pid lt in
    let begun = subst (λ (k : State _ _ _). (process k.world c.args.pid).begun ≡ length h.history.taken) c.self.view_is h.is.count in
    where_both _ _ c.submit.result (let same = ap (λ (k : State _ _ _). length (waiting k.intake c.args.pid)) c.self.view_is in where_ok _ _ c.submit.result (λ n handed. omega (arith, handed.places, same)) c.submit.ensures.ok)
    (where_ok _ _ c.submit.result (λ n handed. let here = handed.number h.history h.fit in omega (arith, here, begun)) c.submit.ensures.ok)

pub returns-clause-full : goal.returns-clause-full
returns-clause-full g c =
    let h = c.self.invariant.ports.histories c.args.pid (search rules) in
    let begun = subst (λ (k : State _ _ _). (process k.world c.args.pid).begun ≡ length h.history.taken) c.self.view_is h.is.count in
    let same = ap (λ (k : State _ _ _). length (waiting k.intake c.args.pid)) c.self.view_is in
    where_err _ _ c.submit.result (⊎_elim (λ full. inl (omega (arith, full, same))) (λ last. inr (let here = last h.history h.fit in omega (arith, here, begun, same)))) c.submit.ensures.full
