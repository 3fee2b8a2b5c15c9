-- A session of a kernel, carried to a device that may be stale, and may lose and tear writes.
use Rattle.std.specs.Prelude.{◌≡◌, ◌⊎◌, ℕ, true, List, [], ◌∷◌, None}
use Rattle.blocks.specs.Disk.{Image}
use Rattle.blocks.specs.declared.disk.Disk.{Ghosts}
use Rattle.model.specs.Log.{cleared, recovered}
use Rattle.ports.specs.declared.herald.Herald as herald_trait
use Rattle.ports.specs.declared.intake.Intake as intake_trait
use Rattle.wal.specs.Deeds.{commit_of}
use Rattle.wal.specs.Joint.{seen}
use Rattle.wal.specs.declared.types.Commit.{Commit}
use Rattle.wal.specs.declared.types.Part.{Part}
use Rattle.kernel.specs.declared.types.Turn.{Turn}
use Rattle.kernel.specs.declared.types.Turn.TheVariants.{Proc, Shut}
use Rattle.kernel.specs.Deeds.{next_deed}
use Rattle.kernel.specs.Known.{Known}
use Rattle.kernel.specs.Opening.{IsOpened}
use Rattle.kernel.specs.Progress.{IsJoint}
use Rattle.kernel.specs.Runs.{MakesLater, with_ports}
use Rattle.kernel.specs.State.{State}
use Rattle.kernel.specs.Theorem.{IsRecoveredRun}
use Rattle.lost_writes.specs.Carried.{Carries, Ledger, after_deed}
use Rattle.lost_writes.specs.Device.{TornImages}
use Rattle.lost_writes.specs.Laws.{IsAtRest}
use Rattle.lost_writes.specs.Stale.{RecoversTo}

-- what the turn's deed, told before it, makes of the device
abbrev pub after_turn : {D I H : Type 0} → (D → Image) → Turn → State D I H → Ledger → Ledger
after_turn image (Proc p) k l =
    after_deed k.store.volume.log.homes (seen (image k.store.volume.device) k.store.volume.buffers)
    (commit_of (next_deed k p)) l
after_turn image Shut k l = l

-- These turns make m of k, with anything at the ports between them, and n of l: each turn's deed was
-- carried on.
abbrev pub CarriesOn : {D N I M H : Type 0} → Ghosts D N → intake_trait.Ghosts I M
    → herald_trait.Ghosts H → List Turn → State D I H → State D I H → Ledger → Ledger → Type 0
CarriesOn {D} {N} {I} {M} {H} disk intake herald [] k m l n =
    (i : I) × (h : H) × (m ≡ with_ports k i h) × (n ≡ l)
CarriesOn {D} {N} {I} {M} {H} disk intake herald (t ∷ ts) k m l n =
    (mid : State D I H) × MakesLater disk intake herald t k mid
    × CarriesOn disk intake herald ts mid m (after_turn disk.image t k l) n

-- a device, to which the steps so far were carried, beside a kernel over a disk that holds writes back
pub record IsCarriedTo {D N I H : Type 0} (disk : Ghosts D N) (k : State D I H) (l : Ledger)
    : Type 0 where
  pub holds : disk.holding (disk.name k.store.volume.device) ≡ true
  pub joint : IsJoint disk.image k
  pub carries : Carries (disk.image k.store.volume.device) k.store.volume.log l

-- AN OPENING of a kernel: the device is at rest, as a recovery leaves it
abbrev pub OpeningCarries : {D N I M H : Type 0} → Ghosts D N → intake_trait.Ghosts I M
    → herald_trait.Ghosts H → Type 0
OpeningCarries {D} {N} {I} {M} {H} disk intake herald =
    (d : D) (i : I) (h : H) (processes : ℕ) (k : State D I H) (z : Image) →
    IsOpened disk d i h processes k → disk.holding (disk.name d) ≡ true → IsJoint disk.image k →
    IsAtRest (recovered (disk.image d)) z → IsCarriedTo disk k (record { synced = z; held = [] })

-- A SESSION of a kernel whose disk works at its end keeps that
abbrev pub SessionCarries : {D N I M H : Type 0} → Ghosts D N → intake_trait.Ghosts I M
    → herald_trait.Ghosts H → Type 0
SessionCarries {D} {N} {I} {M} {H} disk intake herald =
    (turns : List Turn) (k m : State D I H) (l n : Ledger) → IsCarriedTo disk k l →
    CarriesOn disk intake herald turns k m l n → m.store.volume.fault ≡ None →
    IsCarriedTo disk m n

-- A STOP BEHIND A SESSION: what the device has is recovered to the files after the committed groups;
-- or, only while the header waits for its sync, as the disk's image is without it
abbrev pub SessionEndures : {D N I M H : Type 0} → Ghosts D N → intake_trait.Ghosts I M
    → herald_trait.Ghosts H → Type 0
SessionEndures {D} {N} {I} {M} {H} disk intake herald =
    (turns : List Turn) (k m : State D I H) (l n : Ledger) (w : Image) → IsCarriedTo disk k l →
    CarriesOn disk intake herald turns k m l n → m.store.volume.fault ≡ None →
    Known disk intake herald m → TornImages n.synced n.held w →
    IsRecoveredRun (disk.image m.opening) m.store.volume.log.committed m (recovered w)
    ⊎ ((m.store.volume.log.commit ≡ Commit.Syncing Part.Header)
    × RecoversTo (cleared (disk.image m.store.volume.device)) w)
