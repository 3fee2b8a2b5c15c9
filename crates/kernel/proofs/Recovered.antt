-- The recovery theorem.
use Rattle.std.proofs.Common.{◌≡◌, ◌∙◌, ℕ, refl, sym, subst}
use Rattle.kernel.specs.Common.{Image, KeepsBetween, kept_alike, kept_whole, LeavesIfCalm, most_of, recovered, recovers_once, RecoversAs, State, synced_joined, synced_wider}
use Rattle.blocks.specs.declared.disk.Disk as disk_trait
use Rattle.ports.specs.declared.herald.Herald as herald_trait
use Rattle.ports.specs.declared.intake.Intake as intake_trait
use Rattle.kernel.specs.Known.{Known}
use Rattle.kernel.specs.Lemmas.Turns.{runs_on_session}
use Rattle.kernel.specs.Theorem.{ExactlyTheCommitted, IsRecoveredRun, KnownOpening, KnownStop, NoneIsLost, GoesOn, RecoversDisks, RecoversGoing, RecoversHeld, RecoversSince, RecoversStopped, RecoversWhole, SessionKeeps}

module _ {D N I M H : Type 0} (disk : disk_trait.Ghosts D N) (intake : intake_trait.Ghosts I M) (herald : herald_trait.Ghosts H) where
  -- any kernel has what the theorem asks for
  pub known_stop : (m : State D I H) → Known disk intake herald m → KnownStop disk m
  known_stop m known = record { keeps = known.stop.keeps; since = known.stop.since; beginnings = λ c p h is. known.beginnings p c h is }

  pub session_keeps : SessionKeeps disk intake herald
  session_keeps a m ts run known = runs_on_session disk intake herald ts a m known.keeps run

module _ {D N : Type 0} (I H : Type 0) (disk : disk_trait.Ghosts D N) where
  -- what is kept of an image is a run of a beginning of the groups
  abbrev kept_run : (least : ℕ) (m : State D I H) (x : Image) → KnownStop disk m
      → KeepsBetween least (most_of m.store.volume) (disk.image m.opening) m.world.journal.list x
      → IsRecoveredRun (disk.image m.opening) least m (recovered x)
  kept_run least m x known kept = record {
    groups = kept.groups;
    least_is = kept.low;
    most = kept.high;
    sound = kept.keeps.sound;
    files = kept.keeps.files;
    untouched = kept.keeps.untouched;
    labels = kept.keeps.labels;
    own = known.beginnings kept.groups;
    again = recovers_once x;
  }

  -- also from the image that the opening's is
  from_image : (y : Image) (m : State D I H) (x : Image) → KnownStop disk m → disk.image m.opening ≡ y
      → KeepsBetween 0 (most_of m.store.volume) (disk.image m.opening) m.world.journal.list x
      → IsRecoveredRun y 0 m (recovered x)
  from_image y m x known is kept = subst (λ (z : Image). IsRecoveredRun z 0 m (recovered x)) is (kept_run 0 m x known kept)

  pub recovers_since : RecoversSince I H disk
  recovers_since x m known leaves = kept_run 0 m x known (known.since.each x leaves)

  pub recovers_stopped : RecoversStopped I H disk
  recovers_stopped x z m known leaves alike =
      subst (λ (y : Image). IsRecoveredRun (disk.image m.opening) 0 m y) (sym alike.image) (recovers_since x m known leaves)

  pub none_is_lost : NoneIsLost I H disk
  none_is_lost x a m run known leaves = kept_run a.store.volume.log.committed m x known (run.stop.leaves.each x leaves)

  pub exactly_the_committed : ExactlyTheCommitted I H disk
  exactly_the_committed x m known leaves =
      let now = known.keeps x leaves in
      record { run = kept_run m.store.volume.log.committed m x known now.between; exactly = now.told }

  goes_on : (m : State D I H) → KnownStop disk m → GoesOn disk m.opening m
  goes_on m known = record { image = refl; since = known.since }

  module _ (has_now : (d : D) → disk.leaves d (disk.moment d) (disk.image d)) (d opening : D) (m : State D I H) (opened : KnownOpening disk d opening) (going : GoesOn disk opening m) where
    abbrev P : Image → Type 0
    P x = KeepsBetween 0 (most_of m.store.volume) (disk.image m.opening) m.world.journal.list x

    alike : (x : Image) → RecoversAs (disk.image d) x → P x
    alike = kept_alike disk has_now d opening m.store.volume.device (most_of m.store.volume) (disk.image m.opening) m.world.journal.list opened.sound opened.image going.since

    whole : LeavesIfCalm disk d m.store.volume.device P
    whole = kept_whole disk has_now d opening m.store.volume.device (most_of m.store.volume) (disk.image m.opening) m.world.journal.list opened.sound opened.image going.since opened.leaves.any_moment

  module _ (has_now : (d : D) → disk.leaves d (disk.moment d) (disk.image d)) where
    pub recovers_going : RecoversGoing I H disk
    recovers_going x d opening m calm opened going known leaves =
        from_image (recovered (disk.image d)) m x known (going.image ∙ opened.image)
        ((whole has_now d opening m opened going calm).each x leaves)

    pub recovers_whole : RecoversWhole I H disk
    recovers_whole x d m calm opened known = recovers_going x d m.opening m calm opened (goes_on m known) known

    pub recovers_held : RecoversHeld I H disk
    recovers_held d m holds opened known =
        let now = m.store.volume.device in
        let Kept : Image → Type 0 = KeepsBetween 0 (most_of m.store.volume) (disk.image m.opening) m.world.journal.list in
        synced_wider disk d now Kept (λ x. IsRecoveredRun (recovered (disk.image d)) 0 m (recovered x)) (λ x kept. from_image (recovered (disk.image d)) m x known opened.image kept)
        (synced_joined disk d m.opening now Kept
        (synced_wider disk d m.opening (RecoversAs (disk.image d)) Kept (alike has_now d m.opening m opened (goes_on m known)) (opened.leaves.from_sync holds)) known.since)

-- of a disk that a recovery made, of any type
pub recovers_disks : {D N E M : Type 0} (I H : Type 0) (disk : disk_trait.Ghosts D N) (other : disk_trait.Ghosts E M) → RecoversDisks I H disk other
recovers_disks I H disk other x m e f known leaves alike is =
    subst (λ (y : Image). IsRecoveredRun (disk.image m.opening) 0 m y) (sym is) (recovers_stopped I H disk x (other.image e) m known leaves alike)
