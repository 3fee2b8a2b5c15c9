-- The entries of a process that are of committed groups.
use Rattle.std.specs.Prelude.{ℕ, List}
use Rattle.model.specs.declared.types.operations.Entry.{Entry}
use Rattle.model.specs.Journal.{kept, own}
use Rattle.kernel.specs.State.{State}

-- process p's entries that are kept
abbrev pub kept_of : {D I H : Type 0} → ℕ → State D I H → ℕ → List Entry
kept_of inode_count k p =
    own p (kept inode_count k.world.journal.list k.store.volume.log.committed)
