-- What the log says of an operation that is open in it, and what its calls leave of the groups.
use Rattle.std.proofs.Common.{◌≢◌, ◌⊎◌, inl, inr, zero, suc, ap, Option, List, [], ◌∷◌, replicate, get_or, suc, ◌*◌, ◌≡◌, ℕ, ◌+◌, ◌<◌, ◌≤◌, Bool, true, false, cond, eqb, length, refl, sym, ◌∙◌, subst, arith, ⊎_elim, Some, None}
use Rattle.std.specs.Prelude.{IsSome, is_some}
use Rattle.std.specs.List.{sum_by}
use Rattle.history.specs.Common.{AwaitsHeader, cases_lt, Commit, Counts, end_answer, Ended, ended, eq-eqb, eqb-false, eqb-true, false≢true, get_or_past, in_reads, InGroup, is_open, is_quiet, IsIn, IsLogAt, left_by, LogState, most_kept, ne_eqb, Part, quiet_of, some_open, stepped_at, sum_by-replicate, ten, used_by}

-- only the 32 processes have an operation open
pid_of : (l : LogState) (k : Commit) (q u : ℕ) → IsLogAt k l → used_by l q ≡ Some u → q < 32
pid_of l k q u is open_q = ⊎_elim (λ (low : q < 32). low)
    (λ (high : 32 ≤ q). let none : None ≡ Some u = sym (get_or_past l.used q None (omega (arith, is.pids, high))) ∙ open_q in absurd (cc none)) (cases_lt q 32)

-- where a process has one open, one is counted
pub open_now : (l : LogState) (k : Commit) (q : ℕ) → IsLogAt k l → IsSome (used_by l q) → 0 < l.outstanding
open_now l k q is used = let has = some_open (used_by l q) used in is_open l k q has.0 is (pid_of l k q has.0 is has.1) has.1

-- an operation that is open in the log is one of a group that isn't committed yet, and no commit is under way
pub record IsOpenLog (l : LogState) : Type 0 where
  pub quiet : l.commit ≡ Commit.Quiet
  pub some : 0 < l.outstanding
  pub later : l.committed + 1 ≡ l.opened

-- so it is where a process has one open
pub open_of : (l : LogState) (q : ℕ) → IsLogAt l.commit l → IsSome (used_by l q) → IsOpenLog l
open_of l q is used =
    let some = open_now l l.commit q is used in
    let quiet = quiet_of l.commit l is some in
    record { quiet = quiet; some = some; later = omega (arith, (subst (λ (k : Commit). IsLogAt k l) quiet is).counts, some) }

-- while a header waits for its sync, one group more than are committed is opened
pub one_waits : (l : LogState) → IsLogAt l.commit l → AwaitsHeader l → l.committed + 1 ≡ l.opened
one_waits l is waits = let known : IsLogAt (Commit.Syncing Part.Header) l = subst (λ (k : Commit). IsLogAt k l) waits is in known.counts

-- while no commit is under way, reads give the committed groups alone
pub reads_quiet : (l : LogState) → l.commit ≡ Commit.Quiet → in_reads l ≡ l.committed
reads_quiet l quiet = ap (λ (k : Commit). most_kept None k l.committed) quiet

-- and no header waits for its sync
pub none_waits : (l : LogState) → l.commit ≡ Commit.Quiet → AwaitsHeader l → ⊥
none_waits l quiet waits = let t : Commit.Quiet ≡ Commit.Syncing Part.Header = sym quiet ∙ waits in absurd (cc t)

-- its group is not committed
pub in_later : (l : LogState) (q group : ℕ) → IsLogAt l.commit l → IsIn l q group → l.committed < group
in_later l q group is in_group = let o = (open_of l q is in_group.0).later in omega (arith, o, in_group.1)

-- the groups of an operation
pub group_up : (l : LogState) (q g : ℕ) → InGroup l q g → g ≤ l.opened
group_up l q zero is = omega arith
group_up l q (suc g) is = let s = is.1 in omega (arith, s)

-- where it has one, it is the newest
pub group_newest : (l : LogState) (q g : ℕ) → InGroup l q g → 0 < g → l.opened ≤ g
group_newest l q zero is some = omega (arith, some)
group_newest l q (suc g) is some = let s = is.1 in omega (arith, s)

-- nor is it one that reads give
pub group_unread : (l : LogState) (q g : ℕ) → IsLogAt l.commit l → InGroup l q g → 0 < g → in_reads l < g
group_unread l q zero log is some = omega (arith, some)
group_unread l q (suc g) log is some =
    let o = open_of l q log is.0 in
    let later = o.later in let newest = is.1 in omega (arith, (reads_quiet l o.quiet), later, newest)

-- what neither an end nor what may follow it changes, it keeps
pub ended_keeps : {T : Type 0} (of : LogState → T) (l : LogState) (p : ℕ) → of (left_by l p) ≡ of l → of (record (left_by l p) { committed = l.opened }) ≡ of l → of (record (left_by l p) { commit = Commit.Logging 0 }) ≡ of l → of (ended l p) ≡ of l
ended_keeps of l p left committed commits = by_last (eqb l.outstanding 1) (eqb (length l.homes) 0)
  where
    by_last : (s t : Bool) → of (cond s (cond t (record (left_by l p) { committed = l.opened }) (record (left_by l p) { commit = Commit.Logging 0 })) (left_by l p)) ≡ of l
    by_last true true = committed
    by_last true false = commits
    by_last false t = left

-- an end opens no group
pub ended_opened : (l : LogState) (p : ℕ) → (ended l p).opened ≡ l.opened
ended_opened l p = ended_keeps (λ (m : LogState). m.opened) l p refl refl refl

-- a write of a commit opens no operation and no group, and ends none
pub record SameOpen (l m : LogState) : Type 0 where
  pub used : m.used ≡ l.used
  pub opened : m.opened ≡ l.opened
  pub outstanding : m.outstanding ≡ l.outstanding

-- each step of a commit is so
pub stepped_same : (h : Bool) (k : Commit) (l : LogState) → SameOpen l (stepped_at h k l)
stepped_same h Commit.Quiet l = record { used = refl; opened = refl; outstanding = refl }
stepped_same h (Commit.Logging j) l = record { used = refl; opened = refl; outstanding = refl }
stepped_same h Commit.Heading l = record { used = refl; opened = refl; outstanding = refl }
stepped_same h (Commit.Homing j) l = record { used = refl; opened = refl; outstanding = refl }
stepped_same h Commit.Clearing l = record { used = refl; opened = refl; outstanding = refl }
stepped_same h (Commit.Syncing Part.Log) l = record { used = refl; opened = refl; outstanding = refl }
stepped_same h (Commit.Syncing Part.Header) l = record { used = refl; opened = refl; outstanding = refl }
stepped_same h (Commit.Syncing Part.Homes) l = record { used = refl; opened = refl; outstanding = refl }
stepped_same h (Commit.Syncing Part.Clear) l = record { used = refl; opened = refl; outstanding = refl }

-- where no operation is open and no commit under way, all groups are committed
pub all_committed : (l : LogState) → IsLogAt l.commit l → l.outstanding ≡ 0 → is_quiet l.commit ≡ true → l.committed ≡ l.opened
all_committed l is none quiet = by_phase l.commit is.counts quiet
  where
    by_phase : (k : Commit) → Counts k l → is_quiet k ≡ true → l.committed ≡ l.opened
    by_phase Commit.Quiet counts quiet = omega (arith, counts, none)
    by_phase (Commit.Logging j) counts quiet = absurd (false≢true quiet)
    by_phase Commit.Heading counts quiet = absurd (false≢true quiet)
    by_phase (Commit.Homing j) counts quiet = absurd (false≢true quiet)
    by_phase Commit.Clearing counts quiet = absurd (false≢true quiet)
    by_phase (Commit.Syncing p) counts quiet = absurd (false≢true quiet)

-- all groups but one are committed
pub all_but_one : (l : LogState) → IsLogAt l.commit l → l.opened ≤ l.committed + 1
all_but_one l is = by_phase l.commit is.counts
  where
    by_phase : (k : Commit) → Counts k l → l.opened ≤ l.committed + 1
    by_phase Commit.Quiet counts = omega (arith, counts)
    by_phase (Commit.Logging j) counts = omega (arith, counts)
    by_phase Commit.Heading counts = omega (arith, counts)
    by_phase (Commit.Homing j) counts = omega (arith, counts)
    by_phase Commit.Clearing counts = omega (arith, counts)
    by_phase (Commit.Syncing Part.Log) counts = omega (arith, counts)
    by_phase (Commit.Syncing Part.Header) counts = omega (arith, counts)
    by_phase (Commit.Syncing Part.Homes) counts = omega (arith, counts)
    by_phase (Commit.Syncing Part.Clear) counts = omega (arith, counts)

-- where nobody has an operation open, none is counted
none_used : (us : List (Option ℕ)) → ((q : ℕ) → is_some (get_or us q None) ≡ false) → us ≡ replicate (length us) None
none_used [] none = refl
none_used (None ∷ us) none = ap (λ (l : List (Option ℕ)). None ∷ l) (none_used us (λ q. none (suc q)))
none_used (Some u ∷ us) none = let t = none 0 in absurd (cc t)

-- no operation is counted
pub outstanding_none : (k : Commit) (l : LogState) → IsLogAt k l → ((q : ℕ) → is_some (used_by l q) ≡ false) → l.outstanding ≡ 0
outstanding_none k l is none =
    let all : sum_by ten (replicate {A = Option ℕ} (length l.used) None) ≡ length l.used * 0 = sum_by-replicate ten (length l.used) None in
    let o = is.open_ones in omega (arith, o, (ap (sum_by ten) (none_used l.used none) ∙ all))

-- where an end answers that the group is to be committed, it was the last of a group with homes
pub end_commits : (l : LogState) → end_answer l ≡ Ended.Commit → (l.outstanding ≡ 1) × (length l.homes ≢ 0)
end_commits l is = by_last (eqb l.outstanding 1) (eqb (length l.homes) 0) refl refl is
  where
    by_last : (b c : Bool) → eqb l.outstanding 1 ≡ b → eqb (length l.homes) 0 ≡ c → cond b (cond c Ended.Left Ended.Commit) Ended.Left ≡ Ended.Commit → (l.outstanding ≡ 1) × (length l.homes ≢ 0)
    by_last false c first second is = absurd (cc is)
    by_last true true first second is = absurd (cc is)
    by_last true false first second is = (eqb-true l.outstanding 1 first, eqb-false (length l.homes) 0 second)

-- a group that is closed isn't committed yet
pub closed_uncommitted : (l : LogState) (p : ℕ) → end_answer l ≡ Ended.Commit → (ended l p).committed ≡ l.committed
closed_uncommitted l p is =
    let how = end_commits l is in
    rw (eq-eqb l.outstanding 1 how.0, ne_eqb (length l.homes) 0 how.1) refl

-- where it answers that nothing is to be done, others go on, or the group had no homes
pub end_leaves : (l : LogState) → end_answer l ≡ Ended.Left → (l.outstanding ≢ 1) ⊎ ((l.outstanding ≡ 1) × (length l.homes ≡ 0))
end_leaves l is = by_last (eqb l.outstanding 1) (eqb (length l.homes) 0) refl refl is
  where
    by_last : (b c : Bool) → eqb l.outstanding 1 ≡ b → eqb (length l.homes) 0 ≡ c → cond b (cond c Ended.Left Ended.Commit) Ended.Left ≡ Ended.Left → (l.outstanding ≢ 1) ⊎ ((l.outstanding ≡ 1) × (length l.homes ≡ 0))
    by_last false c first second is = inl (eqb-false l.outstanding 1 first)
    by_last true true first second is = inr (eqb-true l.outstanding 1 first, eqb-true (length l.homes) 0 second)
    by_last true false first second is = absurd (cc is)
