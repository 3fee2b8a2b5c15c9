-- Who commits does so alone.
use Rattle.std.specs.Prelude.{◌≡◌, ℕ, Bool, true, false}
use Rattle.wal.specs.Machine.{LogState, is_quiet}
use Rattle.history.specs.declared.types.Phase.{Phase}

-- a process makes its group's commit
abbrev pub is_committing_at : Phase → Bool
is_committing_at Phase.Idle = false
is_committing_at (Phase.BeforeTurn group op) = false
is_committing_at (Phase.AfterTurn group k) = false
is_committing_at (Phase.Ending group k) = false
is_committing_at (Phase.Committing group k) = true

-- One process at most makes a commit, while the log has one under way and no operation is open;
-- where nobody does, the log has none.
pub record CommitsAlone (ats : ℕ → Phase) (l : LogState) : Type 0 where
  pub sole : (p q : ℕ) → is_committing_at (ats p) ≡ true → is_committing_at (ats q) ≡ true
      → p ≡ q
  pub busy : (p : ℕ) → is_committing_at (ats p) ≡ true → is_quiet l.commit ≡ false
  pub none_open : (p : ℕ) → is_committing_at (ats p) ≡ true → l.outstanding ≡ 0
  pub quiet : ((p : ℕ) → is_committing_at (ats p) ≡ false) → is_quiet l.commit ≡ true
