use Rattle.std.proofs.Common.{◌≤◌, length, sym, subst, List, ℕ}
use Rattle.directories.specs.Names.{IsNameCause}
use Rattle.tree_changes.proofs.Listed.{down_used, proper_named}
use Rattle.tree_changes.proofs.removing.add_entry.Goals as goal

pub unreachable-requires : goal.unreachable-requires
unreachable-requires c =
    let entry = c.args.entry.now in
    proper_named entry c.in_default.field-0 (c.requires (down_used entry (sym c.if-not-leads_down.ensures)))
    (subst (λ (text : List ℕ). length text ≤ 14) c.text_in.ensures.text c.text_in.ensures.few)
    (subst (λ (text : List ℕ). IsNameCause text c.in_default.field-0) c.text_in.ensures.text c.in_default.ensures.cause)
