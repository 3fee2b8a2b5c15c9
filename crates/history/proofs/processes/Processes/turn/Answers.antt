use Rattle.std.proofs.Common.{rules, ◌≡◌, ap, refl, ◌∙◌, ◌<◌, ℕ, Bool, true, false, Some, length, get_or, arith}
use Rattle.history.specs.declared.changes.Changes.{Changes}
use Rattle.history.specs.Changing.{no_changes, with_change}
use Rattle.history.specs.Common.{Entry, Process}
use Rattle.history.specs.Lemmas.Changing.{counts_turned}
use Rattle.history.specs.Lemmas.Holding.{held_turned, read_inside}
use Rattle.history.specs.Processes.{entry_index, phase_behind}
use Rattle.history.proofs.processes.Processes.turn.Goals as goal

index_behind : (b : Bool) (group k : ℕ) → entry_index (phase_behind b group k) ≡ Some k
index_behind true group k = refl
index_behind false group k = refl

pub invariant_of-self : goal.invariant_of-self
invariant_of-self c =
    let hs = c.self.inside.held.items in
    let ts = c.self.inside.changes.items in
    let ps = c.self.inside.processes.items in
    let es = c.self.inside.journal.list in
    let p = c.args.pid in
    let inside : p < length ps = search rules in
    let many = c.self.invariant.1.many in
    let there : p < length ts = omega (arith, inside, many) in
    let e : Entry = record { pid = p; seq = c.index_mut-process.result.now.begun; op = c.in-BeforeTurn.op; group = c.in-BeforeTurn.group; reply = c.args.reply } in
    let t : Process = record { begun = c.index_mut-process.result.now.begun; at = c.behind.result; room = c.index_mut-process.result.now.room } in
    let was : c.index_mut-2.result.now ≡ get_or ts p no_changes = c.index_mut-2.ensures.value ∙ read_inside ts p c.index_mut-2.result.now no_changes there in
    let now : c.add.new.self ≡ with_change (get_or ts p no_changes) e.group = c.add.ensures ∙ ap (λ (u : Changes). with_change u e.group) was in
    let stands : entry_index t.at ≡ Some (length es) = ap entry_index c.behind.ensures ∙ index_behind c.args.is_over e.group c.add-entry.result ∙ ap (λ (k : ℕ). Some k) c.add-entry.ensures.index in
    rw (now, c.add-entry.ensures.entries)
    (held_turned hs ps p t inside e refl es stands c.self.invariant.0, counts_turned ts ps es c.self.invariant.1 p t e there refl)
