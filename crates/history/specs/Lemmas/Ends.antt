-- What the end of an operation makes of the log.
use Rattle.std.proofs.Common.{◌≡◌, ℕ, ◌+◌, ◌&&◌, Bool, true, false, cond, eqb, length, refl, sym, arith}
use Rattle.history.specs.Common.{Commit, end_answer, Ended, ended, eq-eqb, left_by, LogState, ne_eqb}
use Rattle.history.specs.Lemmas.Groups.{IsOpenLog, end_commits}

-- one that begins a commit closes its group
pub commits_now : (l : LogState) (p : ℕ) → end_answer l ≡ Ended.Commit → ended l p ≡ record (left_by l p) { commit = Commit.Logging 0 }
commits_now l p e = let last = end_commits l e in rw (eq-eqb l.outstanding 1 last.0, ne_eqb (length l.homes) 0 last.1) refl

-- it commits its group where it is the last, and the group has no homes
pub ended_count : (l : LogState) (p : ℕ) → IsOpenLog l → (ended l p).committed ≡ l.committed + cond (eqb l.outstanding 1 && eqb (length l.homes) 0) 1 0
ended_count l p under = by_tests (eqb l.outstanding 1) (eqb (length l.homes) 0)
  where
    by_tests : (s t : Bool) → (cond s (cond t (record (left_by l p) { committed = l.opened }) (record (left_by l p) { commit = Commit.Logging 0 })) (left_by l p)).committed ≡ l.committed + cond (s && t) 1 0
    by_tests true true = sym under.later
    by_tests true false = omega arith
    by_tests false t = omega arith
