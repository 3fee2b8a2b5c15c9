-- Who works behind its turn has its inode's lock.
use Rattle.std.specs.Prelude.{◌≡◌, ◌≢◌, ℕ, List, Option, Some, None}
use Rattle.model.specs.declared.types.operations.Entry.{Entry}
use Rattle.model.specs.declared.types.operations.Op.{Op}
use Rattle.model.specs.declared.types.operations.Op.TheVariants.{Create, Write, Read, Trunc, Remove, Stat, SetAttribute}
use Rattle.history.specs.declared.types.Phase.{Phase}
use Rattle.history.specs.Open.{IsEntry}

-- the number whose lock an operation takes
abbrev pub locks : Op → Option ℕ
locks (Create kind) = None
locks (Write i off bytes) = Some i
locks (Read i off n) = Some i
locks (Trunc i) = Some i
locks (Remove i) = Some i
locks (Stat i) = Some i
locks (SetAttribute i attribute) = Some i

-- the process has the lock, if the operation takes one
abbrev pub HasInodeLock : (ℕ → Option ℕ) → ℕ → Option ℕ → Type 0
HasInodeLock lock p None = Unit {0}
HasInodeLock lock p (Some i) = lock i ≡ Some p

-- from its turn to its finish
abbrev pub HasLockAt : (ℕ → Option ℕ) → List Entry → ℕ → Phase → Type 0
HasLockAt lock es p Phase.Idle = Unit {0}
HasLockAt lock es p (Phase.BeforeTurn group op) = Unit {0}
HasLockAt lock es p (Phase.AfterTurn group k) =
    (e : Entry) → IsEntry es k e → HasInodeLock lock p (locks e.op)
HasLockAt lock es p (Phase.Ending group k) = Unit {0}
HasLockAt lock es p (Phase.Committing group k) = Unit {0}

-- a step of process p takes no lock from another, and lets its own go only where its task is over
pub record KeepsLocks (p : ℕ) (old new : ℕ → Option ℕ) : Type 0 where
  pub others : (q i : ℕ) → q ≢ p → old i ≡ Some q → new i ≡ Some q
