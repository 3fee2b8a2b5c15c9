-- How the counts of a disk of which one call fails stand to that call.
use Rattle.std.specs.Prelude.{◌≡◌, ◌≢◌, ℕ, ◌+◌, ◌-◌, ◌<◌, ◌≤◌, ◌^◌, Bool, true, false, ◌&&◌, ◌==◌, if◌then◌else◌}
use Rattle.blocks.specs.declared.faulty.Kind.{Kind}
use Rattle.blocks.specs.declared.faulty.Kind.TheVariants.{Read, WriteOld, WriteNew, Sync}
use Rattle.blocks.specs.declared.faulty.Trap.{Trap}
use Rattle.blocks.specs.Disk.{counted}

-- it counts writes
abbrev pub is_write : Kind → Bool
is_write Read = false
is_write WriteOld = true
is_write WriteNew = true
is_write Sync = false

-- it counts reads
abbrev pub is_read : Kind → Bool
is_read Read = true
is_read WriteOld = false
is_read WriteNew = false
is_read Sync = false

-- it counts syncs
abbrev pub is_sync : Kind → Bool
is_sync Read = false
is_sync WriteOld = false
is_sync WriteNew = false
is_sync Sync = true

-- a call, of the kind or not, is the one that fails, with so many up to that
abbrev pub is_due : Bool → ℕ → Bool
is_due is_counted left = is_counted && (left == 1)

-- the calls up to the one that fails, after one that is counted or isn't
abbrev pub left_after : Bool → ℕ → ℕ
left_after is_counted left = if is_counted then left - 1 else left

-- The counts of a disk whose nth write fails, as long as the count of faults can tell one more.
-- Before that write each write was counted, unless the disk below failed; once it was made, all
-- writes before it were.
pub record KeepsWrites (trap : Trap) (left : ℕ) (fired : Bool) (writes faults : ℕ) : Type 0 where
  pub armed : 1 ≤ left → faults ≡ trap.faults → writes ≡ counted trap.writes (trap.nth - left)
  pub fault : fired ≡ true → trap.faults < faults
  pub sprung : fired ≡ true → faults ≡ trap.faults + 1 → counted trap.writes (trap.nth - 1) ≤ writes

-- `left` of the calls of its kind are to be made up to the one that fails; where that was made,
-- none.
pub record KeepsCounts (trap : Trap) (left : ℕ) (fired : Bool) (writes faults : ℕ) : Type 0 where
  pub few : left ≤ trap.nth
  pub grown : trap.faults ≤ faults
  pub made : trap.nth ≢ 0 → left ≡ 0 → fired ≡ true
  pub told : is_write trap.kind ≡ true → trap.faults + 2 < 2 ^ 64
      → KeepsWrites trap left fired writes faults
