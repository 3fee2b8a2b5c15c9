use Rattle.std.proofs.Common.{rules, ◌/◌, ◌∙◌, ap, length, inl, inr, refl, subst, sym}
use Rattle.inodes.specs.Store.{StoreState}
use Rattle.sessions.specs.declared.disk.HostDisk.{HostDisk}
use Rattle.sessions.specs.declared.refusal.OpenRefusal.{OpenRefusal}
use Rattle.sessions.specs.Refusal.{IsRefusal, IsServed}
use Rattle.sessions.proofs.Refusals.{refuses}
use Rattle.sessions.proofs.Steps.{synced_leaves}
use Rattle.sessions.proofs.session.Session.open.Goals as goal
use Rattle.sessions.proofs.session.Session.open.Goals.{then-processes-eq0-via-then-processes-eq0, then-processes-eq0-via-else-processes-eq0+then-processes-gt32}

-- each process's queues are as new
pub open-requires-clause-fits : goal.open-requires-clause-fits
open-requires-clause-fits c = λ p low. c.in-Ok-new.ensures.fresh p

pub returns-then-processes-eq0-clause-refused : goal.returns-then-processes-eq0-clause-refused
returns-then-processes-eq0-clause-refused c = (
  length c.args.image.now / 1024,
  record { some = search rules; few = search rules; whole = search rules },
  elim c.then-processes-eq0.branch [
    | then-processes-eq0-via-then-processes-eq0 w ↦ inl (search rules)
    | then-processes-eq0-via-else-processes-eq0+then-processes-gt32 w ↦ inr (search rules)
  ],
)

pub returns-in_default-clause-refused : goal.returns-in_default-clause-refused
returns-in_default-clause-refused c = (
  length c.args.image.now / 1024,
  record { some = search rules; few = search rules; whole = search rules },
  (search rules, search rules),
)

pub returns-in_default-new-clause-refused : goal.returns-in_default-new-clause-refused
returns-in_default-new-clause-refused c = (
  length c.args.image.now / 1024,
  record { some = search rules; few = search rules; whole = search rules },
  (search rules, search rules),
)

pub returns-in_default-new-2-clause-refused : goal.returns-in_default-new-2-clause-refused
returns-in_default-new-2-clause-refused c = (
  length c.args.image.now / 1024,
  record { some = search rules; few = search rules; whole = search rules },
  (search rules, search rules),
)

pub returns-in-Ok-open-clause-opened : goal.returns-in-Ok-open-clause-opened
returns-in-Ok-open-clause-opened c = record {
  device = c.in-Ok.disk;
  intake = c.in-Ok-new.intake;
  herald = c.new-3.result;
  count = length c.args.image.now / 1024;
  whole = search rules;
  blocks = c.in-Ok.ensures.image;
  unwritten = c.in-Ok.ensures.writes;
  unsynced = c.in-Ok.ensures.syncs;
  kind = c.in-Ok.ensures.holds;
  holds_is = ap (λ (st : StoreState HostDisk). st.volume.device.holds) c.in-Ok-open.ensures.opened.store ∙ c.in-Ok-open.ensures.opened.name ∙ c.in-Ok.ensures.holds;
  kept = c.in-Ok-new-2.ensures;
  opened = c.in-Ok-open.ensures.opened;
}

pub returns-in-Ok-open-clause-covered : goal.returns-in-Ok-open-clause-covered
returns-in-Ok-open-clause-covered c = record {
  shows = refl;
  leaves = λ x is. synced_leaves c.in-Ok-open.kernel.store.volume.device x is;
}

pub returns-in-Err-clause-refused : goal.returns-in-Err-clause-refused
returns-in-Err-clause-refused c =
    let served : IsServed c.args.processes = (search rules, search rules) in
    subst (λ (r : OpenRefusal). IsRefusal c.args.image.now c.args.processes r) (sym c.refusal_of.ensures)
    (refuses c.args.image.now c.args.processes (length c.args.image.now / 1024) (record { some = search rules; few = search rules; whole = search rules }) served c.in-Ok.disk c.in-Err._disk c.in-Ok.ensures.image c.in-Err.fault c.in-Err.ensures.refused.cause)
