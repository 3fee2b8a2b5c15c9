use Rattle.mounting.proofs.Listed.{lists_all, lists_of, lists_on, lists_stop}
use Rattle.directories.specs.Entries.{entries_of}
use Rattle.std.proofs.Common.{◌∙◌, ap, arith}
use Rattle.model.specs.Files.{files_of}
use Rattle.calls.specs.Calls.{image_on}
use Rattle.mounting.proofs.listings.list.Goals as goal

pub returns-in_err-list_entry-clause-looks : goal.returns-in_err-list_entry-clause-looks
returns-in_err-list_entry-clause-looks g c = λ task o first before. c.list_entry.ensures.looks task o first (c.loop-entry.invariant.looks task o first (c.list_at.ensures.looks task o first before))

pub returns-then-not-branch-clause-looks : goal.returns-then-not-branch-clause-looks
returns-then-not-branch-clause-looks g c = λ task o first before. c.list_entry.ensures.looks task o first (c.loop-entry.invariant.looks task o first (c.list_at.ensures.looks task o first before))

pub returns-clause-looks : goal.returns-clause-looks
returns-clause-looks g c = λ task o first before. c.loop-entry.invariant.looks task o first (c.list_at.ensures.looks task o first before)

pub list_entry-requires-clause-low : goal.list_entry-requires-clause-low
list_entry-requires-clause-low g c = omega (arith, c.loop-entry.invariant.place, c.loop-entry-test.true, c.loop-entry.auto.entry-index-end)

pub returns-then-not-branch-clause-lists : goal.returns-then-not-branch-clause-lists
returns-then-not-branch-clause-lists g c =
    lists_of (files_of (image_on g.D.Disk.image c.args.tree.now.kernel)) (files_of (image_on g.D.Disk.image c.list_at.new.tree.kernel)) c.args.number c.args.part.offset c.args.part.size c.args.part.plus c.entries_in-entry-items.result.now c.in_ok-bytes.bytes c.args.out.now.items c.list_entry.new.out.items c.in_ok-bytes.ensures.does.same (c.entries_in-entry-items.ensures.value ∙ ap entries_of c.as_slice.ensures) c.in_ok-bytes.ensures.does.bytes_are
    (lists_stop (files_of (image_on g.D.Disk.image c.list_at.new.tree.kernel)) (files_of (image_on g.D.Disk.image c.list_entry.new.tree.kernel)) c.args.number c.args.part.offset c.args.part.size c.args.part.plus c.entries_in-entry-items.result.now c.args.out.now.items c.loop-entry.entry-index c.loop-entry.place c.loop-entry.out.items c.list_entry.new.out.items c.in_ok-list_entry.field-0 c.loop-entry-test.true
    (c.in_ok-list_entry.ensures.same ∙ c.loop-entry.invariant.same) c.in_ok-list_entry.ensures.lists c.loop-entry.invariant.lists c.if-not-branch.true)

pub loop-entry-preserved : goal.loop-entry-preserved
loop-entry-preserved g c = record {
  ready = c.list_entry.ensures.ready;
  same = c.in_ok-list_entry.ensures.same ∙ c.loop-entry.invariant.same;
  looks = λ task o first before. c.list_entry.ensures.looks task o first (c.loop-entry.invariant.looks task o first before);
  place = omega (arith, c.loop-entry.invariant.place);
  lists = lists_on (files_of (image_on g.D.Disk.image c.list_at.new.tree.kernel)) (files_of (image_on g.D.Disk.image c.list_entry.new.tree.kernel)) c.args.number c.args.part.offset c.args.part.size c.args.part.plus c.entries_in-entry-items.result.now c.args.out.now.items c.loop-entry.entry-index c.loop-entry.place c.loop-entry.out.items c.list_entry.new.out.items c.in_ok-list_entry.field-0 c.loop-entry-test.true
      (c.in_ok-list_entry.ensures.same ∙ c.loop-entry.invariant.same) c.in_ok-list_entry.ensures.lists c.loop-entry.invariant.lists c.if-not-branch.false;
}

pub returns-clause-lists : goal.returns-clause-lists
returns-clause-lists g c =
    lists_of (files_of (image_on g.D.Disk.image c.args.tree.now.kernel)) (files_of (image_on g.D.Disk.image c.list_at.new.tree.kernel)) c.args.number c.args.part.offset c.args.part.size c.args.part.plus c.entries_in-entry-items.result.now c.in_ok-bytes.bytes c.args.out.now.items c.loop-entry.out.items c.in_ok-bytes.ensures.does.same (c.entries_in-entry-items.ensures.value ∙ ap entries_of c.as_slice.ensures) c.in_ok-bytes.ensures.does.bytes_are
    (lists_all (files_of (image_on g.D.Disk.image c.list_at.new.tree.kernel)) (files_of (image_on g.D.Disk.image c.list_at.new.tree.kernel)) c.args.number c.args.part.offset c.args.part.size c.args.part.plus c.entries_in-entry-items.result.now c.args.out.now.items c.loop-entry.entry-index c.loop-entry.place c.loop-entry.out.items (omega (arith, c.loop-entry-test.false)) c.loop-entry.invariant.lists)
