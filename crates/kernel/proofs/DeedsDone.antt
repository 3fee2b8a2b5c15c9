-- What a step does to the disk is what was told before it.
use Rattle.std.proofs.Common.{◌≡◌, ◌≢◌, ℕ, false, refl, ap, subst, Option, Some, None}
use Rattle.std.specs.Option.{option_map}
use Rattle.kernel.specs.Common.{ats_of, Committed, DeviceFault, fault_of_step, Ghosts, is_committing_at, MakesStep, NextAt, NextIf, Phase, State, Step, step_of_write}
use Rattle.ports.specs.declared.herald.Herald as herald_trait
use Rattle.ports.specs.declared.intake.Intake as intake_trait
use Rattle.wal.specs.Deeds.{DoesAs, WritesNothing, commit_deed, commit_of}
use Rattle.wal.specs.Lemmas.Deeds.{commit_does}
use Rattle.wal.specs.declared.deeds.CommitDeed.{CommitDeed}
use Rattle.wal.specs.declared.deeds.Deed.{Deed}
use Rattle.wal.specs.declared.deeds.TaskDeed.{TaskDeed}
use Rattle.inodes.specs.Deeds.{task_deed}
use Rattle.kernel.specs.Deeds.{DoesItsDeed, deed_standing, deed_unless}

task_writes_none : (o : Option TaskDeed) → None ≡ commit_of (option_map Deed.Task o)
task_writes_none None = refl
task_writes_none (Some deed) = refl

commit_is : (o : Option CommitDeed) → o ≡ commit_of (option_map Deed.Commit o)
commit_is None = refl
commit_is (Some deed) = refl

-- a commit's step that did not halt has no fault
unhalted : (c : Committed) (r : Step) → r ≡ step_of_write c → r ≢ Step.Halted → fault_of_step c ≡ None
unhalted Committed.More r is going = refl
unhalted (Committed.Durable group) r is going = refl
unhalted Committed.Done r is going = refl
unhalted (Committed.Fault fault) r is going = absurd (going is)

module _ {D N I M H : Type 0} (disk : Ghosts D N) (intake : intake_trait.Ghosts I M) (herald : herald_trait.Ghosts H) (k m : State D I H) (p : ℕ) (r : Step) (going : r ≢ Step.Halted) (step : MakesStep disk intake herald p r k m) where
  abbrev Does : Option CommitDeed → Type 0
  Does o = DoesAs disk o k.store.volume m.store.volume.device

  leaves : is_committing_at (ats_of k.world p) ≡ false → WritesNothing disk k.store.volume.device m.store.volume.device
  leaves apart = let only = step.acts.device.reads apart in record { image = only.image; writes = only.writes; syncs = only.syncs }

  by_phase : (a : Phase) → ats_of k.world p ≡ a → NextAt disk a k.store k.world p (intake.side k.intake p).ahead (intake.side m.intake p) (herald.told m.herald) r m.store m.world → Does (commit_of (deed_standing a k.store p))
  by_phase Phase.Idle stands next = leaves (ap is_committing_at stands)
  by_phase (Phase.BeforeTurn group op) stands next = subst Does (task_writes_none (task_deed k.store p)) (leaves (ap is_committing_at stands))
  by_phase (Phase.AfterTurn group j) stands next = subst Does (task_writes_none (task_deed k.store p)) (leaves (ap is_committing_at stands))
  by_phase (Phase.Ending group j) stands next = leaves (ap is_committing_at stands)
  by_phase (Phase.Committing group j) stands next =
      subst Does (commit_is (commit_deed k.store.volume.log))
      (commit_does disk k.store.volume.log.commit k.store.volume m.store.volume next.result refl (unhalted next.result r next.answer going) next.commits.volume.write)

  by_fault : (o : Option DeviceFault) → NextIf disk o k.store k.world p (intake.side k.intake p).ahead (intake.side m.intake p) (herald.told m.herald) r m.store m.world → Does (commit_of (deed_unless o (deed_standing (ats_of k.world p) k.store p)))
  by_fault None next = by_phase (ats_of k.world p) refl next
  by_fault (Some fault) next = absurd (going next.0)

pub does_its_deed : {D N I M H : Type 0} (disk : Ghosts D N) (intake : intake_trait.Ghosts I M) (herald : herald_trait.Ghosts H) → DoesItsDeed disk intake herald
does_its_deed disk intake herald k m p r going step = by_fault disk intake herald k m p r going step k.store.volume.fault step.acts.next
