use Rattle.std.proofs.Common.{◌≤◌, ◌∙◌, ℕ, ◌-◌, [], length, slice_index_or, below_more, ap, arith}
use Rattle.directories.specs.Entries.{entries_of}
use Rattle.tree_looks.specs.Gets.{CopiesEntry}
use Rattle.tree_looks.proofs.Copied.{copies_below}
use Rattle.tree_looks.proofs.gets.+folders.Goals as goal

pub fill_folder-loop-entry-preserved : goal.fill_folder-loop-entry-preserved
fill_folder-loop-entry-preserved g t c =
    below_more (λ (i : ℕ). CopiesEntry g.R.File.Write.contents (c.args.depth - 1) c.args.files.now (slice_index_or c.entries_in-entry-items.result.now i [])) c.loop-entry.entry-index c.loop-entry.invariant c.in_ok-copy_entry.ensures.copied

pub fill_folder-returns-clause-copied : goal.fill_folder-returns-clause-copied
fill_folder-returns-clause-copied g t c =
    let items = c.entries_in-entry-items.result.now in
    let past : length items ≤ c.loop-entry.entry-index = omega (arith, c.loop-entry-test.false, c.loop-entry.auto.entry-index-end) in
    copies_below g.R.File.Write.contents c.args.depth c.args.files.now c.args.number items c.if-depth-eq0.false (c.entries_in-entry-items.ensures.value ∙ ap entries_of c.bytes_at.ensures) (λ i low. c.loop-entry.invariant i (omega (arith, low, past)))
