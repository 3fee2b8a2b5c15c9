-- WHAT A STOP LEAVES of a kernel, and all that one has to read to know it.
use Rattle.std.specs.Prelude.{◌≡◌, ℕ, List, None}
use Rattle.blocks.specs.Disk.{Image, LeavesOnly}
use Rattle.blocks.specs.declared.disk.Disk.{Ghosts}
use Rattle.model.specs.declared.types.operations.Entry.{Entry}
use Rattle.model.specs.Verdict.{verdict}
use Rattle.history.specs.Keeps.{KeepsBetween, KeepsNow}

-- A crash now, of the disk `now` of a kernel that was opened over `opening`, leaves an image of
-- which recovery keeps the committed groups of the journal, or at most so many.
abbrev pub KeptNow : {D N : Type 0} → Ghosts D N → D → D → ℕ → ℕ → List Entry → Type 0
KeptNow disk opening now committed most entries =
    (x : Image) → disk.leaves now (disk.moment now) x
    → KeepsNow committed most (disk.image opening) entries x

-- A crash at any moment since the opening left one of which it keeps some groups, at most so many.
abbrev pub KeptSince : {D N : Type 0} → Ghosts D N → D → D → ℕ → List Entry → Type 0
KeptSince disk opening now most entries = LeavesOnly disk.moment disk.leaves opening now
    (KeepsBetween 0 most (disk.image opening) entries)

-- Both, and a kernel is opened again over what a crash now leaves.
pub record StopLeaves {D N : Type 0} (disk : Ghosts D N) (opening now : D) (committed most : ℕ)
    (entries : List Entry) : Type 0 where
  pub keeps : KeptNow disk opening now committed most entries
  pub reopens : (x : Image) → disk.leaves now (disk.moment now) x → verdict x ≡ None
  pub since : KeptSince disk opening now most entries

-- WHAT A STOP LEAVES OF STEPS that brought the disk from `was` to `now`: in their time recovery keeps
-- at least the groups `before` that were committed before them, behind them those that are now.
pub record StepsLeave {D N : Type 0} (disk : Ghosts D N) (opening was now : D)
    (before committed most : ℕ) (entries : List Entry) : Type 0 where
  pub keeps : KeptNow disk opening now committed most entries
  pub leaves : LeavesOnly disk.moment disk.leaves was now
      (KeepsBetween before most (disk.image opening) entries)
