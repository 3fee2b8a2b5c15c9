use Rattle.std.proofs.Common.{◌≡◌, true, false, [], get_or, sym, ◌∙◌}
use Rattle.std.proofs.lemmas.Bool.{both_ways}
use Rattle.directories.specs.Trees.{leads_down}
use Rattle.directories.proofs.Children.{added_child, added_none, added_same}
use Rattle.directories.proofs.checking.add_children.Goals.{then-leads_down+in_ok-add_child, else-leads_down}
use Rattle.directories.proofs.checking.add_children.Goals as goal

pub loop-entry-preserved : goal.loop-entry-preserved
loop-entry-preserved c =
    elim c.if-leads_down.branch [
      | then-leads_down+in_ok-add_child w ↦
          let down : leads_down (get_or c.args.entries.now c.loop-entry.entry-index []) ≡ true = sym c.leads_down.ensures ∙ w.if-leads_down.true in
          rw (w.numbers-is, w.parents-is, w.again-is)
          (added_child c.args.entries.now c.args.from c.args.numbers.now.items c.args.parents.now.items c.args.again.now.items c.loop-entry.entry-index
          c.loop-entry.numbers.items c.loop-entry.parents.items c.loop-entry.again.items c.loop-entry.invariant w.number_in.result down w.number_in.ensures
          w.add_child.new.numbers.items w.add_child.new.parents.items w.add_child.new.again.items w.in_ok-add_child.ensures)
      | else-leads_down w ↦
          let down : leads_down (get_or c.args.entries.now c.loop-entry.entry-index []) ≡ false = sym c.leads_down.ensures ∙ w.if-leads_down.false in
          rw (w.numbers-is, w.parents-is, w.again-is)
          (added_same c.args.entries.now c.args.from c.args.numbers.now.items c.args.parents.now.items c.args.again.now.items c.loop-entry.entry-index
          c.loop-entry.numbers.items c.loop-entry.parents.items c.loop-entry.again.items c.loop-entry.invariant
          (both_ways (leads_down (get_or c.args.entries.now c.loop-entry.entry-index [])) down))
    ]

pub loop-entry-init : goal.loop-entry-init
loop-entry-init c =
    added_none c.args.entries.now c.args.from c.args.numbers.now.items c.args.parents.now.items c.args.again.now.items c.requires
