-- How many changing operations of a process had their turn, by groups.
use Rattle.std.specs.Prelude.{◌≡◌, ◌<◌, ◌≤◌, ℕ, ◌+◌, ◌==◌, ◌&&◌, Bool, nat_lt, nat_le, if◌then◌else◌, List, length, slice_index_or}
use Rattle.std.specs.List.{filter}
use Rattle.model.specs.declared.types.operations.Entry.{Entry}
use Rattle.history.specs.Keeps.{AreUpTo}
use Rattle.history.specs.declared.changes.Changes.{Changes}
use Rattle.history.specs.declared.types.Process.{Process}

abbrev pub no_changes : Changes
no_changes = record { newest = 0; at = 0; below = 0 }

-- one of group g more; 0 is no group
abbrev pub with_change : Changes → ℕ → Changes
with_change t g =
    if nat_lt 0 g
    then (if nat_lt t.newest g
    then record { newest = g; at = 1; below = t.below + t.at }
    else (if g == t.newest then record t { at = t.at + 1 } else record t { below = t.below + 1 }))
    else t

-- how many are of the first c groups, where these leave out none but the newest
abbrev pub kept_by : Changes → ℕ → ℕ
kept_by t c = if nat_lt c t.newest then t.below else t.below + t.at

-- an entry of process p, of one of the groups from 1 to c
abbrev pub is_counted : ℕ → ℕ → Entry → Bool
is_counted p c e = (e.pid == p) && (nat_lt 0 e.group && nat_le e.group c)

-- how many entries are such ones
abbrev pub counted : ℕ → ℕ → List Entry → ℕ
counted p c es = length (filter (is_counted p c) es)

-- they count the entries of process p, for each count of groups that leaves out at most the newest
pub record CountsOf (es : List Entry) (p : ℕ) (t : Changes) : Type 0 where
  pub kept : (c : ℕ) → t.newest ≤ c + 1 → kept_by t c ≡ counted p c es
  pub newest : (b : ℕ) → AreUpTo b es → t.newest ≤ b
  pub few : t.below + t.at ≤ length es

-- so it is for each process
pub record HaveCounts (counts : List Changes) (ps : List Process) (es : List Entry) : Type 0 where
  pub many : length counts ≡ length ps
  pub each : (p : ℕ) → p < length counts → CountsOf es p (slice_index_or counts p no_changes)
