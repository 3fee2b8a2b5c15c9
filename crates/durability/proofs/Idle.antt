-- At rest all groups that were opened are committed.
use Rattle.std.proofs.Common.{◌≡◌, ◌≤◌, ◌<◌, ◌*◌, ℕ, zero, suc, length, Option, None, subst, arith}
use Rattle.std.specs.Prelude.{IfNone}
use Rattle.blocks.specs.declared.disk.Disk as disk_trait
use Rattle.model.specs.Layout.{form_of}
use Rattle.ports.specs.declared.herald.Herald as herald_trait
use Rattle.ports.specs.declared.intake.Intake as intake_trait
use Rattle.wal.specs.declared.types.DeviceFault.{DeviceFault}
use Rattle.history.specs.Lemmas.Kept.{up_to_later}
use Rattle.kernel.specs.Awake.{AreIdle}
use Rattle.kernel.specs.Bound.{left_of, step_bound}
use Rattle.kernel.specs.Known.{IsCurrent, Known}
use Rattle.kernel.specs.Rounds.{all_left, sum_below}
use Rattle.kernel.specs.State.{State}
use Rattle.kernel.specs.Theorem.{ExactlyTheCommitted, IsExact, KnownStop}
use Rattle.durability.specs.Durable.{IdleIsDurable}

-- a sum of so many values that are at most b
sum_at_most : (f : ℕ → ℕ) (n b : ℕ) → ((q : ℕ) → f q < b) → sum_below f n ≤ n * b
sum_at_most f zero b few = omega arith
sum_at_most f (suc n) b few =
    let rest = sum_at_most f n b few in
    let here = few n in
    grind (arith, rest, here)

module _ {D N I M H : Type 0} (disk : disk_trait.Ghosts D N) (intake : intake_trait.Ghosts I M) (herald : herald_trait.Ghosts H) where
  known_stop : (m : State D I H) → Known disk intake herald m → KnownStop disk m
  known_stop m known = record { keeps = known.stop.keeps; since = known.stop.since; beginnings = λ c p h is. known.beginnings p c h is }

  -- all groups that were opened are committed
  settled : (m : State D I H) → Known disk intake herald m → m.store.volume.fault ≡ None → AreIdle m.world → m.store.volume.log.committed ≡ m.store.volume.log.opened
  settled m known works idle =
      let current : IsCurrent disk.image m = subst (λ (f : Option DeviceFault). IfNone f (IsCurrent disk.image m)) works known.current in
      current.settled (current.rests idle).none (current.rests idle).quiet

  pub idle_is_durable : ExactlyTheCommitted I H disk → IdleIsDurable disk intake herald
  idle_is_durable exactly x m known works idle leaves =
      let exact : IsExact (disk.image m.opening) m x = exactly x m (known_stop m known) leaves in
      let all = settled m known works idle in
      let least = exact.run.least_is in
      record { run = exact.run; all = up_to_later m.store.volume.log.opened exact.run.groups m.world.journal.list known.journal.groups (omega (arith, all, least)) }

  pub few_left : (k : State D I H) → Known disk intake herald k → all_left disk.image k ≤ length k.world.processes * step_bound (form_of (disk.image k.opening))
  few_left k known = sum_at_most (left_of disk.image k) (length k.world.processes) (step_bound (form_of (disk.image k.opening))) known.left
