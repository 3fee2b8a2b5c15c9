-- The recovery of a host's own device, one write or sync after the other.
use Rattle.std.specs.Prelude.{◌≡◌, ◌⊎◌, ◌<◌, ◌-◌, ◌==◌, ℕ, zero, suc, false, if◌then◌else◌, nat_lt, IsTrue, List, [], length, slice_index, None}
use Rattle.blocks.specs.Disk.{Image, block_at}
use Rattle.model.specs.Format.{inode_start, log_start}
use Rattle.model.specs.Log.{homes_of, is_lawful_log, logged_count, recovered}
use Rattle.model.specs.Verdict.{verdict}
use Rattle.model.specs.declared.types.fault.CheckFault.{CheckFault}
use Rattle.sessions.specs.Telling.{Ledger, MayHold, after_told, told_bytes}
use Rattle.sessions.specs.declared.session.Told.{Told}
use Rattle.sessions.specs.declared.session.Told.TheVariants.{Nothing, Wrote, Synced}
use Rattle.wal.specs.Recovery.{RecoversAs}
use Rattle.xvfs_c.specs.Images.{HasImage, IsFaultOf}
use Rattle.xvfs_c.specs.Numbers.{check_number, told_number}
use Rattle.xvfs_c.specs.declared.report.XvfsTold.{XvfsTold}

-- what is done behind the homes: a sync, the header, a sync
abbrev pub end_of_recovery : ℕ → Told
end_of_recovery zero = Synced
end_of_recovery (suc zero) = Wrote log_start
end_of_recovery (suc (suc zero)) = Synced
end_of_recovery (suc (suc (suc k))) = Nothing

-- THE RECOVERY of a log with so many blocks and these homes, by its places: the homes in the order of
-- logging, and only behind a sync the header
abbrev pub told_at : ℕ → List ℕ → ℕ → Told
told_at logged homes k =
    if logged == 0
    then Nothing
    else (if nat_lt k (length homes)
    then Wrote (slice_index homes k)
    else end_of_recovery (k - length homes))

abbrev pub recovery_at : Image → ℕ → Told
recovery_at x k = told_at (logged_count x) (homes_of x) k

-- The device that had image x, once the first so many places were told: each told block is the
-- recovered image's.
abbrev pub recovering : Image → ℕ → Ledger
recovering x zero = record { synced = x; held = [] }
recovering x (suc k) =
    after_told (recovering x k) (recovery_at x k) (told_bytes (recovery_at x k) (recovered x))

-- what C's memory for a block then has: its bytes, where one is told
abbrev pub laid_bytes : Told → Image → List ℕ → List ℕ
laid_bytes Nothing x old = old
laid_bytes (Wrote b) x old = block_at x b
laid_bytes Synced x old = old

-- What C is told at a place of the recovery of an image, in `out` and in its memory for a block.
pub record TellsRecovery (bytes : List ℕ) (place : ℕ) (out : XvfsTold) (old new : List ℕ)
    : Type 0 where
  pub image : Image
  pub has : HasImage bytes image
  pub sound : place ≡ 0 → verdict image ≡ None
  pub lawful : IsTrue (is_lawful_log image)
  pub tells : (out.wrote, out.block, out.synced) ≡ told_number (recovery_at image place)
  pub inside : out.wrote ≡ 1 → out.block < length image
  pub laid : new ≡ laid_bytes (recovery_at image place) (recovered image) old
  -- whatever a stop leaves of the device at any place is recovered to the same
  pub alike : (k : ℕ) (x : Image) → MayHold (recovering image k) x → RecoversAs image x
  -- once nothing is told any more it has the recovered image, and nothing is held
  pub done : recovery_at image place ≡ Nothing
      → recovering image place ≡ record { synced = recovered image; held = [] }

-- there is no room for a log, or it is unlawful
abbrev pub HasNoLog : Image → Type 0
HasNoLog x = (length x < inode_start) ⊎ (is_lawful_log x ≡ false)

-- that number says why nothing is told of these bytes: at the first place by the image's first fault,
-- or for memory
abbrev pub RefusesRecovery : List ℕ → ℕ → ℕ → Type 0
RefusesRecovery bytes place number = (x : Image) × HasImage bytes x
    × (((place ≡ 0) × ((fault : CheckFault) × IsFaultOf x fault × (number ≡ (check_number fault).0)))
    ⊎ ((number ≡ 1026) × HasNoLog x))
