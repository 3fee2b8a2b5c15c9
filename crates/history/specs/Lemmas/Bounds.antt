-- A step takes one of the steps that its operation has left, and gives no other process more.
use Rattle.std.proofs.Common.{◌≡◌, ◌≢◌, ◌⊎◌, inl, inr, ℕ, ◌+◌, ◌-◌, ◌<◌, ◌≤◌, Bool, true, false, cond, eqb, List, length, refl, sym, ◌∙◌, ap, subst, arith, Some, None}
use Rattle.std.specs.Prelude.{IsSome}
use Rattle.history.specs.Common.{cases_eq, Commit, ended, Entry, eq-eqb, false≢true, few_homes, Form, Idle, is_quiet, IsLogAt, left_by, LogState, ne_eqb, Part, Phase, stepped_at, synced_at, TaskProgress, used_by, View}
use Rattle.history.specs.Alone.{is_committing_at, CommitsAlone}
use Rattle.history.specs.Bound.{synced_left, writes_left, all_steps_left, is_busy_at, Lowers, TakesStep}
use Rattle.history.specs.Next.{TaskNext}
use Rattle.history.specs.Lemmas.Alone.{none_commits, quiet_if_open}

-- a sync, after which more steps are to come
syncs_fall : (p : Part) (l : LogState) → is_quiet (synced_at p l).commit ≡ false → writes_left (synced_at p l).commit (length (synced_at p l).homes) < synced_left p (length l.homes)
syncs_fall Part.Log l more = omega arith
syncs_fall Part.Header l more = omega arith
syncs_fall Part.Homes l more = omega arith
syncs_fall Part.Clear l more = absurd (false≢true (sym more))

-- a step of a commit, after which more are to come
pub writes_fall : (h : Bool) (k : Commit) (l : LogState) → Idle k l → is_quiet k ≡ false → is_quiet (stepped_at h k l).commit ≡ false → writes_left (stepped_at h k l).commit (length (stepped_at h k l).homes) < writes_left k (length l.homes)
writes_fall h Commit.Quiet l idle busy more = absurd (false≢true (sym busy))
writes_fall h (Commit.Logging j) l idle busy more = by_last (cases_eq (j + 1) (length l.homes)) h
  where
    by_last : (j + 1 ≡ length l.homes) ⊎ ((j + 1 ≡ length l.homes) → ⊥) → (h : Bool) → writes_left (cond (eqb (j + 1) (length l.homes)) (cond h (Commit.Syncing Part.Log) Commit.Heading) (Commit.Logging (j + 1))) (length l.homes) < (length l.homes - j) + 1 + 2 + (length l.homes + 1) + 2
    by_last (inl last) true = rw (eq-eqb (j + 1) (length l.homes) last) (omega (arith, last))
    by_last (inl last) false = rw (eq-eqb (j + 1) (length l.homes) last) (omega (arith, last))
    by_last (inr other) h = rw (ne_eqb (j + 1) (length l.homes) other) (let lt = idle.1 in omega (arith, lt, other))
writes_fall true Commit.Heading l idle busy more = omega arith
writes_fall false Commit.Heading l idle busy more = omega arith
writes_fall h (Commit.Homing j) l idle busy more = by_last (cases_eq (j + 1) (length l.homes)) h
  where
    by_last : (j + 1 ≡ length l.homes) ⊎ ((j + 1 ≡ length l.homes) → ⊥) → (h : Bool) → writes_left (cond (eqb (j + 1) (length l.homes)) (cond h (Commit.Syncing Part.Homes) Commit.Clearing) (Commit.Homing (j + 1))) (length l.homes) < (length l.homes - j) + 1 + 2
    by_last (inl last) true = rw (eq-eqb (j + 1) (length l.homes) last) (omega (arith, last))
    by_last (inl last) false = rw (eq-eqb (j + 1) (length l.homes) last) (omega (arith, last))
    by_last (inr other) h = rw (ne_eqb (j + 1) (length l.homes) other) (let lt = idle.1 in omega (arith, lt, other))
writes_fall true Commit.Clearing l idle busy more = omega arith
writes_fall false Commit.Clearing l idle busy more = absurd (false≢true (sym more))
writes_fall h (Commit.Syncing p) l idle busy more = syncs_fall p l more

-- a commit has 66 steps at most, and one that is under way has some
most_syncs : (p : Part) (n : ℕ) → n ≤ 30 → synced_left p n ≤ 66
most_syncs Part.Log n le = omega (arith, le)
most_syncs Part.Header n le = omega (arith, le)
most_syncs Part.Homes n le = omega arith
most_syncs Part.Clear n le = omega arith

most_writes : (k : Commit) (n : ℕ) → n ≤ 30 → writes_left k n ≤ 66
most_writes Commit.Quiet n le = omega arith
most_writes (Commit.Logging i) n le = omega (arith, le)
most_writes Commit.Heading n le = omega (arith, le)
most_writes (Commit.Homing i) n le = omega (arith, le)
most_writes Commit.Clearing n le = omega arith
most_writes (Commit.Syncing p) n le = most_syncs p n le

some_sync : (p : Part) (n : ℕ) → 0 < synced_left p n
some_sync Part.Log n = omega arith
some_sync Part.Header n = omega arith
some_sync Part.Homes n = omega arith
some_sync Part.Clear n = omega arith

pub some_write : (k : Commit) (n : ℕ) → is_quiet k ≡ false → 0 < writes_left k n
some_write Commit.Quiet n busy = absurd (false≢true (sym busy))
some_write (Commit.Logging i) n busy = omega arith
some_write Commit.Heading n busy = omega arith
some_write (Commit.Homing i) n busy = omega arith
some_write Commit.Clearing n busy = omega arith
some_write (Commit.Syncing p) n busy = some_sync p n

-- an operation has no more than its task, and those of its end and of a commit
pub steps_few : (a : Phase) (left most : ℕ) (l : LogState) → IsLogAt l.commit l → left ≤ most → all_steps_left a left l ≤ most + 67
steps_few Phase.Idle left most l is few = omega arith
steps_few (Phase.BeforeTurn group op) left most l is few = omega (arith, few)
steps_few (Phase.AfterTurn group k) left most l is few = omega (arith, few)
steps_few (Phase.Ending group k) left most l is few = omega arith
steps_few (Phase.Committing group k) left most l is few = let writes = most_writes l.commit (length l.homes) (few_homes is) in omega (arith, writes)

-- only a commit's steps are read off the log
pub left_same : (a : Phase) (old left : ℕ) (l m : LogState) → left ≤ old → (is_committing_at a ≡ true → (m.commit ≡ l.commit) × (length m.homes ≡ length l.homes)) → all_steps_left a left m ≤ all_steps_left a old l
left_same Phase.Idle old left l m le same = omega arith
left_same (Phase.BeforeTurn group op) old left l m le same = omega (arith, le)
left_same (Phase.AfterTurn group k) old left l m le same = omega (arith, le)
left_same (Phase.Ending group k) old left l m le same = omega arith
left_same (Phase.Committing group k) old left l m le same = let is = same refl in let equal : writes_left m.commit (length m.homes) ≡ writes_left l.commit (length l.homes) = ap (λ (c : Commit). writes_left c (length m.homes)) is.0 ∙ ap (writes_left l.commit) is.1 in omega (arith, equal)

-- who has steps left has an operation under way
pub busy_with : (a : Phase) (left : ℕ) (l : LogState) → 0 < all_steps_left a left l → is_busy_at a ≡ true
busy_with Phase.Idle left l some = let none : ⊥ = omega (arith, some) in absurd none
busy_with (Phase.BeforeTurn group op) left l some = refl
busy_with (Phase.AfterTurn group k) left l some = refl
busy_with (Phase.Ending group k) left l some = refl
busy_with (Phase.Committing group k) left l some = refl
