-- What is kept of each process's operations.
use Rattle.std.specs.Prelude.{ℕ, ◌<◌, List, map}
use mathlib.Core.List.{IsPrefix}
use Rattle.std.specs.List.{filter}
use Rattle.model.specs.declared.types.operations.Entry.{Entry}
use Rattle.model.specs.declared.types.operations.Op.{Op}
use Rattle.model.specs.Journal.{is_changing, kept, own}

-- Whatever count of groups is kept: what is kept of process p is a beginning of the changing ones of
-- these operations.
abbrev pub KeepsFirst : ℕ → List Entry → ℕ → List Op → Type 0
KeepsFirst inode_count entries p ops =
    (c : ℕ) → IsPrefix (map (λ (e : Entry). e.op) (own p (kept inode_count entries c)))
    (filter (is_changing inode_count) ops)

-- the same of each of so many processes, and of the operations that it had to hand in
abbrev pub KeepsOwn : ℕ → List Entry → ℕ → (ℕ → List Op) → Type 0
KeepsOwn inode_count entries processes ops =
    (p : ℕ) → p < processes → KeepsFirst inode_count entries p (ops p)
