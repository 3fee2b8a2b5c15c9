-- What each step of a commit makes of the count of groups that are committed, and of those that reads give.
use Rattle.std.proofs.Common.{◌≡◌, ◌⊎◌, inl, inr, ℕ, ◌+◌, ◌≤◌, Bool, true, false, cond, ap, arith, None}
use Rattle.history.specs.Common.{Commit, Counts, CountsSynced, in_reads, LogState, most_kept, most_synced, Part, stepped_at, synced_at}
use Rattle.history.specs.Bound.{is_durable, is_header}
use Rattle.history.specs.Lemmas.Groups.{reads_quiet}
use Rattle.history.specs.Lemmas.Stops.{least_most}

-- a sync commits the group where it is that of the header
synced_count : (p : Part) (l : LogState) → CountsSynced p l → (synced_at p l).committed ≡ l.committed + cond (is_header p) 1 0
synced_count Part.Log l counts = omega arith
synced_count Part.Header l counts = omega (arith, counts)
synced_count Part.Homes l counts = omega arith
synced_count Part.Clear l counts = omega arith

-- and a write where it is the header's, and no sync has to follow
pub stepped_count : (h : Bool) (k : Commit) (l : LogState) → Counts k l → (stepped_at h k l).committed ≡ l.committed + cond (is_durable h k) 1 0
stepped_count h Commit.Quiet l counts = omega arith
stepped_count h (Commit.Logging j) l counts = omega arith
stepped_count true Commit.Heading l counts = omega arith
stepped_count false Commit.Heading l counts = omega (arith, counts)
stepped_count h (Commit.Homing j) l counts = omega arith
stepped_count h Commit.Clearing l counts = omega arith
stepped_count h (Commit.Syncing p) l counts = synced_count p l counts

-- as many more
most_up : (k : Commit) (c d : ℕ) → c ≤ d → most_kept None k c ≤ most_kept None k d
most_up Commit.Quiet c d le = le
most_up (Commit.Logging j) c d le = le
most_up Commit.Heading c d le = le
most_up (Commit.Homing j) c d le = le
most_up Commit.Clearing c d le = le
most_up (Commit.Syncing p) c d le = by_part p
  where
    by_part : (p : Part) → most_synced p c ≤ most_synced p d
    by_part Part.Log = le
    by_part Part.Header = omega (arith, le)
    by_part Part.Homes = le
    by_part Part.Clear = le

-- reads give no fewer groups after any call of the log that makes no step of a commit
pub reads_up : (l m : LogState) → l.committed ≤ m.committed → (m.commit ≡ l.commit) ⊎ (l.commit ≡ Commit.Quiet) → in_reads l ≤ in_reads m
reads_up l m up (inl same) = let more = most_up l.commit l.committed m.committed up in let is = ap (λ (k : Commit). most_kept None k m.committed) same in omega (arith, more, is)
reads_up l m up (inr quiet) = let is = reads_quiet l quiet in let low = least_most None m.commit m.committed in omega (arith, is, low, up)

-- nor after a step of a commit
reads_synced : (p : Part) (l : LogState) → CountsSynced p l → most_synced p l.committed ≤ in_reads (synced_at p l)
reads_synced Part.Log l counts = omega arith
reads_synced Part.Header l counts = omega (arith, counts)
reads_synced Part.Homes l counts = omega arith
reads_synced Part.Clear l counts = omega arith

pub reads_written : (h : Bool) (k : Commit) (l : LogState) → Counts k l → most_kept None k l.committed ≤ in_reads (stepped_at h k l)
reads_written h Commit.Quiet l counts = least_most None l.commit l.committed
reads_written h (Commit.Logging j) l counts = least_most None (stepped_at h (Commit.Logging j) l).commit l.committed
reads_written true Commit.Heading l counts = omega arith
reads_written false Commit.Heading l counts = omega (arith, counts)
reads_written h (Commit.Homing j) l counts = least_most None (stepped_at h (Commit.Homing j) l).commit l.committed
reads_written h Commit.Clearing l counts = least_most None (stepped_at h Commit.Clearing l).commit l.committed
reads_written h (Commit.Syncing p) l counts = reads_synced p l counts
