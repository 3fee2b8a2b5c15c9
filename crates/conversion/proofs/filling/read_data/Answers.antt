use Rattle.std.proofs.Common.{◌<◌, true, false, sym, ap, ◌∙◌, [], length, arith}
use Rattle.std.proofs.lemmas.List.{get_or_read_under}
use Rattle.std.proofs.lemmas.Option.{get_or_from_slice_get}
use Rattle.conversion.specs.Common.{source_in}
use Rattle.conversion.specs.Moving.{moved_words}
use Rattle.conversion.proofs.PlannedLemmas.{data_planned, free_planned}
use Rattle.conversion.proofs.filling.read_data.Goals as goal

pub returns-then-source-plan-clause-moved : goal.returns-then-source-plan-clause-moved
returns-then-source-plan-clause-moved g c =
    let plan = c.args.prepared.now.plan in
    c.clear.ensures
    ∙ free_planned (g.D.Disk.image c.args.old.now) plan c.requires.prepared.planned c.args.b c.requires.behind c.if-source-plan.true

pub returns-then-index-clause-moved : goal.returns-then-index-clause-moved
returns-then-index-clause-moved g c =
    let x = g.D.Disk.image c.args.old.now in
    let plan = c.args.prepared.now.plan in
    let prepared = c.requires.prepared in
    let source = source_in plan.sup plan.to c.args.b in
    let low : source < plan.sup.size = omega (arith, c.if-source-plan.false) in
    let inside : source < length x = omega (arith, low, prepared.planned.size) in
    let node = get_or_read_under c.args.prepared.now.nodes.items source (length x) c.index.result.now false c.index.ensures inside (sym prepared.long) ∙ prepared.nodes source inside in
    c.move_entries.ensures
    ∙ ap (moved_words plan.sup.nlog plan.to) (sym (get_or_from_slice_get x source c.read.new.into [] c.in_ok-read.ensures.ok))
    ∙ data_planned x plan prepared.planned c.args.b true c.requires.behind low (sym c.if-index.true ∙ node)

pub returns-else-index-clause-moved : goal.returns-else-index-clause-moved
returns-else-index-clause-moved g c =
    let x = g.D.Disk.image c.args.old.now in
    let plan = c.args.prepared.now.plan in
    let prepared = c.requires.prepared in
    let source = source_in plan.sup plan.to c.args.b in
    let low : source < plan.sup.size = omega (arith, c.if-source-plan.false) in
    let inside : source < length x = omega (arith, low, prepared.planned.size) in
    let node = get_or_read_under c.args.prepared.now.nodes.items source (length x) c.index.result.now false c.index.ensures inside (sym prepared.long) ∙ prepared.nodes source inside in
    sym (get_or_from_slice_get x source c.read.new.into [] c.in_ok-read.ensures.ok)
    ∙ data_planned x plan prepared.planned c.args.b false c.requires.behind low (sym c.if-index.false ∙ node)
