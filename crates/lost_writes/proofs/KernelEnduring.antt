-- What a stop of a kernel leaves on such a device.
use Rattle.std.proofs.Common.{◌≡◌, inl, inr, ⊎_elim, ℕ, length, Option, Some, None, ◌∙◌}
use Rattle.std.specs.Prelude.{IfNone}
use Rattle.blocks.specs.declared.disk.Disk.{Ghosts}
use Rattle.ports.specs.declared.herald.Herald as herald_trait
use Rattle.ports.specs.declared.intake.Intake as intake_trait
use Rattle.history.specs.Keeps.{HasFilesAfter}
use Rattle.history.specs.Lemmas.Elsewhere.{after_elsewhere}
use Rattle.model.specs.Journal.{kept}
use Rattle.model.specs.Layout.{inode_count_of}
use Rattle.model.specs.Lemmas.Recovery.{logged_count-left, recovers_once}
use Rattle.wal.specs.Common.{Image, length-recovered, recovered}
use Rattle.wal.specs.declared.types.DeviceFault.{DeviceFault}
use Rattle.kernel.specs.Known.{IsCurrent}
use Rattle.kernel.specs.State.{State}
use Rattle.kernel.specs.Theorem.{ExactlyTheCommitted, IsRecoveredRun, KnownStop}
use Rattle.lost_writes.specs.Carried.{KernelEndures}
use Rattle.lost_writes.specs.Stale.{RecoversTo}
use Rattle.lost_writes.proofs.Carrying.{carried_endures}

-- what is said where the disk has no fault
at_none : (o : Option DeviceFault) (P : Type 0) → o ≡ None → IfNone o P → P
at_none None P none fact = fact
at_none (Some fault) P none fact = absurd (cc none)

module _ {D N I M H : Type 0} (disk : Ghosts D N) (intake : intake_trait.Ghosts I M) (herald : herald_trait.Ghosts H) (theorem : ExactlyTheCommitted I H disk) (has_now : (d : D) → disk.leaves d (disk.moment d) (disk.image d)) where
  -- a run that is recovered elsewhere to the same
  run_elsewhere : (m : State D I H) (least : ℕ) (y w : Image) → length y ≡ length (disk.image m.opening) → RecoversTo y w → IsRecoveredRun (disk.image m.opening) least m y → IsRecoveredRun (disk.image m.opening) least m (recovered w)
  run_elsewhere m least y w size r run =
      let es = kept (inode_count_of (disk.image m.opening)) m.world.journal.list run.groups in
      let there : HasFilesAfter (disk.image m.opening) es (recovered w)
      = after_elsewhere (disk.image m.opening) es y (recovered w) r.same (logged_count-left w) (record { size = size; sound = run.sound; files = run.files; untouched = run.untouched; labels = run.labels }) in
      record {
        groups = run.groups;
        least_is = run.least_is;
        most = run.most;
        sound = there.sound;
        files = there.files;
        untouched = there.untouched;
        labels = there.labels;
        own = run.own;
        again = recovers_once w;
      }

  pub kernel_endures : KernelEndures disk intake herald
  kernel_endures m l w none known joint carries torn =
      let x : Image = disk.image m.store.volume.device in
      let current = at_none m.store.volume.fault (IsCurrent disk.image m) none known.current in
      let stop : KnownStop disk m = record { keeps = known.stop.keeps; since = known.stop.since; beginnings = λ c p h is. known.beginnings p c h is } in
      let exact = theorem x m stop (has_now m.store.volume.device) in
      ⊎_elim
      (λ (r : RecoversTo (recovered x) w). inl (run_elsewhere m m.store.volume.log.committed (recovered x) w (length-recovered x ∙ joint.size ∙ current.size) r exact.run))
      (λ without. inr without)
      (carried_endures x w m.store.volume.buffers m.store.volume.log l joint carries torn)
