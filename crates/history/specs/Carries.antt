-- The tasks carry out the operations that the kernel has for them.
use Rattle.std.specs.Prelude.{◌≡◌, ℕ, List, Option, Some, None}
use Rattle.model.specs.declared.types.operations.Entry.{Entry}
use Rattle.model.specs.declared.types.operations.Op.{Op}
use Rattle.history.specs.declared.types.Phase.{Phase}
use Rattle.history.specs.Open.{IsEntry}

-- What a store's task of each process tells of itself: its operation, by a snapshot, and the bytes
-- that it has read so far.
pub record Tasks : Type 0 where
  pub ops : ℕ → Option Op
  pub bytes : ℕ → List ℕ

-- process q's task carries out this operation, and has read these bytes
pub record Carries (ts : Tasks) (q : ℕ) (op : Op) (read : List ℕ) : Type 0 where
  pub same : ts.ops q ≡ Some op
  pub bytes : read ≡ ts.bytes q

-- From its beginning to its reply the operation of a process is that of its task, and what was read
-- is kept beside it.
abbrev pub CarriesAt : Phase → Tasks → List Entry → ℕ → List ℕ → Type 0
CarriesAt Phase.Idle ts es q read = Unit {0}
CarriesAt (Phase.BeforeTurn group op) ts es q read = Carries ts q op read
CarriesAt (Phase.AfterTurn group k) ts es q read =
    (e : Entry) → IsEntry es k e → e.reply ≡ None → Carries ts q e.op read
CarriesAt (Phase.Ending group k) ts es q read = Unit {0}
CarriesAt (Phase.Committing group k) ts es q read = Unit {0}
