-- The log as contracts see it, and what each call makes of it.
use Rattle.std.specs.Prelude.{is_some, IsSome, ◌≡◌, ◌<◌, ◌≤◌, ◌==◌, ◌+◌, ◌-◌, ◌*◌, ◌^◌, ℕ, not, min, IsTrue, Bool, true, false, List, [], ◌∷◌, ◌++◌, length, replicate, slice_index_or, slice_set, if◌then◌else◌, Option, Some, None}
use Rattle.std.specs.List.{list_any, sum_by}
use Rattle.model.specs.Format.{log_capacity, inode_start}
use Rattle.model.specs.declared.types.operations.Why.{Why}
use Rattle.model.specs.Log.{are_in_place, are_distinct}
use Rattle.model.specs.Reservations.{unused_reservation, log_cause}
use Rattle.bcache.specs.Buffers.{Buffers, buffer, block_or_zero, pinned}
use Rattle.wal.specs.declared.types.Commit.{Commit}
use Rattle.wal.specs.declared.types.Part.{Part}
use Rattle.wal.specs.declared.types.Began.{Began}
use Rattle.wal.specs.declared.types.Ended.{Ended}

pub record LogState : Type 0 where
  -- the blocks of the image
  pub size : ℕ
  -- the homes of the group that is open or being committed
  pub homes : List ℕ
  -- for each process with an open operation, how many of these that added
  pub used : List (Option ℕ)
  -- the open operations
  pub outstanding : ℕ
  -- how many groups were opened, and how many are committed
  pub opened : ℕ
  pub committed : ℕ
  pub commit : Commit

-- a log to which nothing was written
abbrev pub new_log : ℕ → LogState
new_log size = record {
  size = size;
  homes = [];
  used = replicate 32 None;
  outstanding = 0;
  opened = 0;
  committed = 0;
  commit = Commit.Quiet;
}

abbrev pub is_quiet : Commit → Bool
is_quiet Commit.Quiet = true
is_quiet (Commit.Logging k) = false
is_quiet Commit.Heading = false
is_quiet (Commit.Homing k) = false
is_quiet Commit.Clearing = false
is_quiet (Commit.Syncing part) = false

-- a part of a commit waits for its sync
abbrev pub is_syncing : Commit → Bool
is_syncing Commit.Quiet = false
is_syncing (Commit.Logging k) = false
is_syncing Commit.Heading = false
is_syncing (Commit.Homing k) = false
is_syncing Commit.Clearing = false
is_syncing (Commit.Syncing part) = true

-- a commit's next step is a write
abbrev pub is_writing : Commit → Bool
is_writing Commit.Quiet = false
is_writing (Commit.Logging k) = true
is_writing Commit.Heading = true
is_writing (Commit.Homing k) = true
is_writing Commit.Clearing = true
is_writing (Commit.Syncing part) = false

-- why a beginning has to sleep
abbrev pub begin_cause : LogState → Option Why
begin_cause l = log_cause (not (is_quiet l.commit)) (length l.homes) l.outstanding

-- what the operation that a process has open added
abbrev pub used_by : LogState → ℕ → Option ℕ
used_by l pid = slice_index_or l.used pid None

abbrev pub begun : LogState → ℕ → LogState
begun l pid = record l {
  used = slice_set l.used pid (Some 0);
  outstanding = l.outstanding + 1;
  opened = if l.outstanding == 0 then l.opened + 1 else l.opened;
}

abbrev pub after_begin_by : Option Why → LogState → ℕ → LogState
after_begin_by None l pid = begun l pid
after_begin_by (Some cause) l pid = l

abbrev pub begin_answer_by : Option Why → ℕ → Began
begin_answer_by None group = Began.Began group
begin_answer_by (Some cause) group = Began.Sleeping cause

-- the log and the answer after `begin`
abbrev pub after_begin : LogState → ℕ → LogState
after_begin l pid = after_begin_by (begin_cause l) l pid

abbrev pub begin_answer : LogState → ℕ → Began
begin_answer l pid = begin_answer_by (begin_cause l) (begun l pid).opened

-- an open operation that may add a home
abbrev pub HasRoom : Option ℕ → Type 0
HasRoom None = ⊥
HasRoom (Some u) = u < 10

-- a process has an operation open that may add a home
pub record MayLog (l : LogState) (p : ℕ) : Type 0 where
  pub pid : p < 32
  pub room : HasRoom (used_by l p)

-- it has the lock of a slot, which is for a block
pub record HasSlot (c : Buffers) (p i : ℕ) : Type 0 where
  pub slot : i < 40
  pub held : (buffer c i).holder ≡ Some p
  pub block : IsSome (buffer c i).block

abbrev pub is_among : ℕ → List ℕ → Bool
is_among b homes = list_any (λ h. h == b) homes

abbrev pub one_used : Option ℕ → Option ℕ
one_used None = None
one_used (Some u) = Some (u + 1)

abbrev pub appended : LogState → ℕ → ℕ → LogState
appended l pid b = record l {
  homes = l.homes ++ b ∷ [];
  used = slice_set l.used pid (one_used (used_by l pid));
}

-- the log and the buffers after `log_write`
abbrev pub noted : LogState → ℕ → ℕ → LogState
noted l pid b = if is_among b l.homes then l else appended l pid b

abbrev pub noted_cache : LogState → Buffers → ℕ → ℕ → Buffers
noted_cache l c i b = if is_among b l.homes then c else pinned c i

-- a slot whose block is not among the homes has room for one pin more
abbrev pub MayPin : LogState → Buffers → ℕ → Type 0
MayPin l c i =
    is_among (block_or_zero (buffer c i).block) l.homes ≡ false → (buffer c i).pins + 1 < 2 ^ 32

-- an operation less
abbrev pub left_by : LogState → ℕ → LogState
left_by l pid = record l { used = slice_set l.used pid None; outstanding = l.outstanding - 1 }

-- the group is closed: without homes it is committed at once
abbrev pub closed : LogState → LogState
closed l =
    if length l.homes == 0
    then record l { committed = l.opened }
    else record l { commit = Commit.Logging 0 }

-- the log and the answer after `end`
abbrev pub ended : LogState → ℕ → LogState
ended l pid = if l.outstanding == 1 then closed (left_by l pid) else left_by l pid

abbrev pub end_answer : LogState → Ended
end_answer l =
    if l.outstanding == 1
    then (if length l.homes == 0 then Ended.Left else Ended.Commit)
    else Ended.Left

-- what an open operation may still add
abbrev pub unused : Option ℕ → ℕ
unused None = 0
unused (Some u) = unused_reservation u

-- what it added
abbrev pub added_by : Option ℕ → ℕ
added_by None = 0
added_by (Some u) = u

abbrev pub ten : Option ℕ → ℕ
ten None = 0
ten (Some u) = 10

-- homes behind the log and inside the image, none of them twice
pub record AreHomes (size : ℕ) (homes : List ℕ) : Type 0 where
  pub in_place : IsTrue (are_in_place homes size)
  pub distinct : IsTrue (are_distinct homes)

-- a commit under way has homes, and no operation is open; with neither the log has no homes
abbrev pub Idle : Commit → LogState → Type 0
Idle Commit.Quiet l = l.outstanding ≡ 0 → length l.homes ≡ 0
Idle (Commit.Logging k) l = (l.outstanding ≡ 0) × (k < length l.homes)
Idle Commit.Heading l = (l.outstanding ≡ 0) × (0 < length l.homes)
Idle (Commit.Homing k) l = (l.outstanding ≡ 0) × (k < length l.homes)
Idle Commit.Clearing l = (l.outstanding ≡ 0) × (0 < length l.homes)
Idle (Commit.Syncing part) l = (l.outstanding ≡ 0) × (0 < length l.homes)

-- a group is committed with the sync after its header
abbrev pub CountsSynced : Part → LogState → Type 0
CountsSynced Part.Log l = l.committed + 1 ≡ l.opened
CountsSynced Part.Header l = l.committed + 1 ≡ l.opened
CountsSynced Part.Homes l = l.committed ≡ l.opened
CountsSynced Part.Clear l = l.committed ≡ l.opened

-- all groups but the open one are committed; that of a commit under way from its header on
abbrev pub Counts : Commit → LogState → Type 0
Counts Commit.Quiet l = l.committed + min l.outstanding 1 ≡ l.opened
Counts (Commit.Logging k) l = l.committed + 1 ≡ l.opened
Counts Commit.Heading l = l.committed + 1 ≡ l.opened
Counts (Commit.Homing k) l = l.committed ≡ l.opened
Counts Commit.Clearing l = l.committed ≡ l.opened
Counts (Commit.Syncing part) l = CountsSynced part l

-- what is true of every log in that phase
pub record IsLogAt (k : Commit) (l : LogState) : Type 0 where
  pub big : inode_start ≤ l.size
  pub small : l.size < 2 ^ 32
  pub places : AreHomes l.size l.homes
  pub pids : length l.used ≡ 32
  pub open_ones : 10 * l.outstanding ≡ sum_by ten l.used
  -- each of them added at most ten homes, which stand among the group's
  pub each : (p : ℕ) → added_by (used_by l p) ≤ 10
  pub added : sum_by added_by l.used ≤ length l.homes
  -- the homes and all unused reservations fit the log
  pub room : length l.homes + sum_by unused l.used ≤ log_capacity
  pub idle : Idle k l
  pub counts : Counts k l

abbrev pub IsLog : LogState → Type 0
IsLog l = IsLogAt l.commit l

-- the log has the same groups, and the same operations are open in it
pub record SameGroups (l m : LogState) : Type 0 where
  pub size : m.size ≡ l.size
  pub outstanding : m.outstanding ≡ l.outstanding
  pub opened : m.opened ≡ l.opened
  pub committed : m.committed ≡ l.committed
  pub commit : m.commit ≡ l.commit
  pub used : (q : ℕ) → is_some (used_by m q) ≡ is_some (used_by l q)
