use Rattle.std.proofs.Common.{rules, List, ◌+◌, ap, subst, sym, refl, ◌∙◌, ◌<◌, length, set, Some}
use Rattle.history.specs.Common.{Entry, Process}
use Rattle.history.specs.Processes.{idle, entry_index}
use Rattle.history.specs.Changing.{HaveCounts}
use Rattle.history.specs.Holding.{AreHeld}
use Rattle.history.specs.Lemmas.Changing.{counts_refused}
use Rattle.history.specs.Lemmas.Holding.{held_more, read_inside}
use Rattle.history.specs.World.{Entries}
use Rattle.history.proofs.processes.Processes.refuse.Goals as goal

pub invariant_of-self : goal.invariant_of-self
invariant_of-self c =
    let was : Process = c.index_mut-process.result.now in
    let inside : c.args.pid < length c.self.inside.processes.items = search rules in
    let t : Process = record { begun = was.begun + 1; at = was.at; room = was.room } in
    let e : Entry = record { pid = c.args.pid; seq = was.begun + 1; op = c.args.op; group = 0; reply = Some c.args.reply } in
    subst (λ (es : List Entry). AreHeld c.self.inside.held.items (set c.self.inside.processes.items c.args.pid t) es × HaveCounts c.self.inside.changes.items (set c.self.inside.processes.items c.args.pid t) es) (sym (ap (λ (j : Entries). j.list) c.add-index.ensures.entries)) (
      held_more c.self.inside.held.items c.self.inside.processes.items c.args.pid t inside c.self.inside.journal.list e (ap (λ (x : Process). entry_index x.at) (c.index_mut-process.ensures.value ∙ read_inside c.self.inside.processes.items c.args.pid was idle inside)) c.self.invariant.0,
      counts_refused c.self.inside.changes.items c.self.inside.processes.items c.self.inside.journal.list c.self.invariant.1 c.args.pid t e refl,
    )
