-- Laws of a device of which a sync failed.
use Rattle.std.specs.Prelude.{◌≡◌, ◌⊎◌, ◌↔◌, ◌∷◌, [], ℕ, Bool, IsTrue, List, drop, length, take, None}
use Rattle.std.specs.List.{flat_map}
use Rattle.blocks.specs.Disk.{Image, block_at}
use Rattle.model.specs.Files.{files_of}
use Rattle.model.specs.Format.{log_start}
use Rattle.model.specs.Log.{is_lawful_log, logged_count, recovered}
use Rattle.model.specs.Soundness.{IsSound}
use Rattle.model.specs.Verdict.{verdict}
use Rattle.wal.specs.Recovery.{RecoversAs}
use Rattle.blocks.specs.Held.{HeldImages, Write, applied, chosen}
use Rattle.bcache.specs.Buffers.{Buffers}
use Rattle.wal.specs.Joint.{Joint}
use Rattle.wal.specs.Machine.{LogState}
use Rattle.wal.specs.declared.types.Commit.{Commit}
use Rattle.lost_writes.specs.Carried.{Carries, CarriesAt, Endures, Ledger}
use Rattle.lost_writes.specs.Device.{Outlasts, StopLeaves, BreaksOff, TornImages, written}
use Rattle.lost_writes.specs.Runs.{AreGroups, Group, IsGroup, KeepsSome, commit_of, image_after, recovery_of, run_of}
use Rattle.lost_writes.specs.Stale.{IsStale, RecoversTo, freshened}

-- The device is recovered as what reads give, and is without fault where that is.
pub record IsRecoveredAlike (x z : Image) : Type 0 where
  pub super : block_at z 1 ≡ block_at x 1
  pub header : block_at z log_start ≡ block_at x log_start
  pub recovers : RecoversTo (recovered x) z
  pub verdicts : (verdict x ≡ None) ↔ (verdict z ≡ None)
  -- and so is what a stop leaves of its recovery
  pub stopped : (w : Image) → RecoversAs z w → RecoversTo (recovered x) w

abbrev pub StaleIsRecovered : Type 0
StaleIsRecovered = (x z : Image) → IsTrue (is_lawful_log x) → IsStale x z → IsRecoveredAlike x z

-- an image that is recovered to a sound one is sound once it is recovered, and has its files
abbrev pub RecoversFiles : Type 0
RecoversFiles = (y w : Image) → RecoversTo y w → IsSound y →
    IsSound (recovered w) × (files_of (recovered w) ≡ files_of y)

-- reads give an empty log, and the device is stale in the log's blocks alone
pub record IsAtRest (x z : Image) : Type 0 where
  pub empty : logged_count x ≡ 0
  pub stale : IsStale x z

-- parts outlast stops and failed calls, and with all of them made the image is y
pub record Ends (y x z : Image) (P : Image → Type 0) (parts : List (List Write)) : Type 0 where
  pub outlasts : Outlasts P x z parts
  pub rests : IsAtRest (written x parts) (written z parts)
  pub image : RecoversTo y (written x parts)

-- a run that breaks off leaves a device as a stop does
abbrev pub BreaksAsStopped : Type 0
BreaksAsStopped = (x z y w : Image) (parts : List (List Write)) → BreaksOff x z parts y w →
    StopLeaves z parts w

-- and while its header is written as reads give it, a stop leaves what is recovered as it was
-- before, or as reads are
abbrev pub FreshensSafely : Type 0
FreshensSafely = (a y w v : Image) → IsTrue (is_lawful_log y) → IsStale y (freshened y w) →
    RecoversTo a w → StopLeaves w (((log_start, block_at y log_start) ∷ []) ∷ []) v →
    RecoversTo a v ⊎ RecoversTo (recovered y) v

-- what a recovery writes makes of what reads give just the recovered image
abbrev pub RecoveryWrites : Type 0
RecoveryWrites = (x : Image) → IsTrue (is_lawful_log x) → written x (recovery_of x) ≡ recovered x

-- A RECOVERY over a stale device
abbrev pub RecoversOverStale : Type 0
RecoversOverStale = (x z : Image) → IsTrue (is_lawful_log x) → IsStale x z →
    Ends (recovered x) x z (RecoversTo (recovered x)) (recovery_of x)

-- A COMMIT over one: what was there before the group or what is behind it
abbrev pub CommitsOverStale : Type 0
CommitsOverStale = (x z : Image) (g : Group) → IsAtRest x z → IsGroup x g →
    Ends g.image x z (λ w. RecoversTo x w ⊎ RecoversTo g.image w) (commit_of g)

-- and once the header is synced, what is behind it
abbrev pub CommittedOverStale : Type 0
CommittedOverStale = (x z : Image) (g : Group) → IsAtRest x z → IsGroup x g →
    Outlasts (RecoversTo g.image) (written x (take 2 (commit_of g)))
    (written z (take 2 (commit_of g))) (drop 2 (commit_of g))

-- COMMITS one after the other, where reads give y but for the log: what is behind some of them
abbrev pub CommitsInTurn : Type 0
CommitsInTurn = (y x z : Image) (gs : List Group) → IsAtRest x z → RecoversTo y x →
    AreGroups y gs →
    Ends (image_after y gs (length gs)) x z (KeepsSome y gs) (flat_map commit_of gs)

-- A RECOVERY AND COMMITS: the same of the recovered image
abbrev pub RunsOverStale : Type 0
RunsOverStale = (x z : Image) (gs : List Group) → IsTrue (is_lawful_log x) → IsStale x z →
    AreGroups (recovered x) gs →
    Ends (image_after (recovered x) gs (length gs)) x z (KeepsSome (recovered x) gs) (run_of x gs)

-- what a disk may leave that holds writes back, each whole, a device may that tears them
abbrev pub HeldMayTear : Type 0
HeldMayTear = (z w : Image) (writes : List Write) → HeldImages z writes w → TornImages z writes w

-- What a sync leaves that fails, of a disk that then has just these of the held writes and whose
-- reads give them all, is what a run leaves that breaks off there.
abbrev pub ForgottenBreaksOff : Type 0
ForgottenBreaksOff = (x z : Image) (held : List Write) (brought : List Bool) →
    length brought ≡ length held →
    BreaksOff x z (held ∷ []) (applied x held) (chosen z held brought)

-- A stale device at rest carries what a recovery and commits left, and a commit that begins
abbrev pub RestIsCarried : Type 0
RestIsCarried = (x z : Image) (homes : List ℕ) → IsAtRest x z →
    CarriesAt Commit.Quiet homes x (record { synced = z; held = [] })
    × CarriesAt (Commit.Logging 0) homes x (record { synced = z; held = [] })

-- what a device that carries a volume's commit leaves at a stop
abbrev pub CarriedEndures : Type 0
CarriedEndures = (x w : Image) (c : Buffers) (log : LogState) (l : Ledger) → Joint x c log →
    Carries x log l → TornImages l.synced l.held w → Endures log.commit x w
