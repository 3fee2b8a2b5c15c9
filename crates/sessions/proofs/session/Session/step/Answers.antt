use Rattle.std.proofs.Common.{◌≡◌, ◌∙◌, ◌<◌, ℕ, rules, refl, sym, ap, subst, arith}
use Rattle.sessions.proofs.Steps.{looked_carries, must_look, must_sync, must_write, outcome, synced_carries, WroteAt, wrote_carries, written_told}
use Rattle.sessions.proofs.session.Session.step.Goals as goal
use Rattle.sessions.specs.declared.session.Session.{Session}
use Rattle.wal.specs.Joint.{place_at}
use Rattle.wal.specs.Machine.{LogState}

-- it wrote, where the log said
pub returns-then-writes : goal.returns-then-writes
returns-then-writes c =
    let s : Session = c.args.self.now in
    let t : Session = record { kernel = c.step-step.new.self; kept = c.args.self.now.kept; faultless = c.self-1.given.0; one_each = c.self-1.given.1.0 } in
    let acts = c.step-step.ensures.acts in
    let l : LogState = s.kernel.store.volume.log in
    let b : ℕ = c.next_place-place.result in
    let place : b ≡ place_at l.commit l.homes = c.next_place-place.ensures.place ∙ ap (λ (n : LogState). place_at n.commit n.homes) c.log.ensures in
    let inside : b < l.size = subst (λ (n : LogState). b < n.size) c.log.ensures c.next_place-place.ensures.inside in
    let came = outcome _ _ c.args.pid _ s.kernel t.kernel acts s.faultless in
    let wrote : WroteAt b l.size s.kernel.store.volume.device t.kernel.store.volume.device =
    subst (λ (n : ℕ). WroteAt n l.size s.kernel.store.volume.device t.kernel.store.volume.device) (sym place) (must_write _ _ _ _ came (λ same. c.if-writes.true (c.writes.ensures ∙ same ∙ sym c.writes-writes.ensures))) in
    record {
      step = search rules;
      told = (wrote.writes, wrote.syncs, written_told b l.size _ _ wrote inside);
      carries = λ holds. wrote_carries s t holds acts.device.name acts.device.time c.requires.few.0 c.requires.few.1 b l.size wrote (omega (arith, inside, wrote.size_is));
      goes_on = search rules;
      kept = refl;
    }

-- it synced
pub returns-then-syncs : goal.returns-then-syncs
returns-then-syncs c =
    let s : Session = c.args.self.now in
    let t : Session = record { kernel = c.step-step.new.self; kept = c.args.self.now.kept; faultless = c.self-1.given.0; one_each = c.self-1.given.1.0 } in
    let acts = c.step-step.ensures.acts in
    let synced = must_sync _ _ _ _ (outcome _ _ c.args.pid _ s.kernel t.kernel acts s.faultless) c.requires.few.0 (sym c.writes.ensures ∙ c.if-writes.false ∙ c.writes-writes.ensures) (λ same. c.if-syncs.true (c.syncs.ensures ∙ same ∙ sym c.syncs-syncs.ensures)) in
    record {
      step = search rules;
      told = (synced.writes, synced.syncs, synced.image);
      carries = λ holds. synced_carries s t holds acts.device.name acts.device.time c.requires.few.0 c.requires.few.1 synced;
      goes_on = search rules;
      kept = refl;
    }

-- it did neither
pub returns-else-syncs : goal.returns-else-syncs
returns-else-syncs c =
    let s : Session = c.args.self.now in
    let t : Session = record { kernel = c.step-step.new.self; kept = c.args.self.now.kept; faultless = c.self-1.given.0; one_each = c.self-1.given.1.0 } in
    let acts = c.step-step.ensures.acts in
    let looked = must_look _ _ _ _ (outcome _ _ c.args.pid _ s.kernel t.kernel acts s.faultless) c.requires.few.0 c.requires.few.1 (sym c.writes.ensures ∙ c.if-writes.false ∙ c.writes-writes.ensures) (sym c.syncs.ensures ∙ c.if-syncs.false ∙ c.syncs-syncs.ensures) in
    record {
      step = search rules;
      told = (looked.writes, looked.syncs, looked.image);
      carries = λ holds. looked_carries s t holds acts.device.name acts.device.time c.requires.few.0 c.requires.few.1 looked;
      goes_on = search rules;
      kept = refl;
    }
