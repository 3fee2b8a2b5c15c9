use Rattle.std.proofs.Common.{◌∙◌, ◌++◌, ◌-◌, List, ℕ, sym, ap, arith}
use Rattle.std.specs.List.{flat_map}
use Rattle.directories.specs.Entries.{entries_of}
use Rattle.tree_looks.specs.Listing.{told_entry}
use Rattle.tree_looks.proofs.AddedTexts.{added_all, below_is}
use Rattle.tree_looks.proofs.texts.+below.Goals as goal

pub add_below-returns : goal.add_below-returns
add_below-returns g t c =
    let files = c.args.files.now in
    let paths = told_entry (g.T.ByPath.tells c.args.tell.now) (c.args.depth - 1) files c.args.front.now in
    let old = c.args.text.now.items in
    let all = added_all paths c.entries_in-entry-items.result.now old c.loop-entry.entry-index c.loop-entry.text.items (omega (arith, c.loop-entry-test.false, c.loop-entry.auto.entry-index-end)) c.loop-entry.invariant in
    all
    ∙ ap (λ (entries : List (List ℕ)). old ++ flat_map paths entries) (c.entries_in-entry-items.ensures.value ∙ ap entries_of c.bytes_at.ensures)
    ∙ ap (λ (lines : List ℕ). old ++ lines) (sym (below_is (g.T.ByPath.tells c.args.tell.now) c.args.depth files c.args.front.now c.args.number c.if-depth-eq0.false (c.is_directory.ensures.0 c.if-not-is_directory.false)))
