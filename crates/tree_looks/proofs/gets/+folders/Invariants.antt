use Rattle.std.proofs.Common.{ℕ, ◌+◌, ◌-◌, ◌*◌, ◌<◌, [], slice_index_or}
use Rattle.tree_looks.specs.Gets.{CopiesEntry}
use Rattle.tree_looks.proofs.gets.+folders.Given as goal

abbrev pub decreases-fill_folder : goal.decreases-fill_folder
decreases-fill_folder g l = 2 * l.depth

abbrev pub decreases-copy_entry : goal.decreases-copy_entry
decreases-copy_entry g l = 2 * l.depth + 1

-- what the first entries lead down to was copied
abbrev pub invariant-fill_folder-loop-entry : goal.invariant-fill_folder-loop-entry
invariant-fill_folder-loop-entry g l = (i : ℕ) → i < l.entry-index → CopiesEntry g.R.File.Write.contents (l.depth - 1) l.files (slice_index_or l.entry-items i [])
