use Rattle.std.proofs.Common.{rules, ◌≡◌, ◌<◌, ◌∙◌, ap, sym, length, get_or, Some, None, arith}
use Rattle.history.specs.Common.{Entry, Process}
use Rattle.history.specs.Lemmas.Changing.{counts_decided}
use Rattle.history.specs.Lemmas.Holding.{held_decided, read_inside}
use Rattle.history.specs.Processes.{entry_index, idle}
use Rattle.history.proofs.processes.Processes.decide.Goals as goal

pub invariant_of-self : goal.invariant_of-self
invariant_of-self c =
    let hs = c.self.inside.held.items in
    let ps = c.self.inside.processes.items in
    let es = c.self.inside.journal.list in
    let p = c.args.pid in
    let inside : p < length ps = search rules in
    let many = c.self.invariant.0.many in
    let e : Entry = c.in-Some-index_mut.entry in
    let there : p < length hs = omega (arith, inside, many) in
    let at : c.index.result.now ≡ get_or ps p idle = c.index.ensures ∙ read_inside ps p c.index.result.now idle inside in
    let found : entry_index c.index.result.now.at ≡ Some c.in-Some.index = search rules in
    let stands : entry_index (get_or ps p idle).at ≡ Some c.in-Some.index = ap (λ (x : Process). entry_index x.at) (sym at) ∙ found in
    let read : c.index_mut.result.now ≡ get_or hs p None = c.index_mut.ensures.value ∙ read_inside hs p c.index_mut.result.now None there in
    let full : c.index_mut.result.now ≡ Some e = search rules in
    let is : get_or hs p None ≡ Some e = sym read ∙ full in
    rw (c.tell.ensures)
    (held_decided hs ps es p c.in-Some.index e c.args.reply inside stands is c.self.invariant.0, counts_decided c.self.inside.changes.items ps es c.self.invariant.1 c.in-Some.index c.args.reply)
