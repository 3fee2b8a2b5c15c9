use Rattle.std.proofs.Common.{◌∙◌, ◌++◌, ap, sym}
use Rattle.std.proofs.lemmas.List.{append-nil}
use Rattle.model.specs.Log.{recovered}
use Rattle.second_lines.proofs.BeginningLemmas.{none_at, one_at}
use Rattle.second_lines.proofs.standing.add_beginning.Goals as goal

pub returns-then-size-eq0-clause-added : goal.returns-then-size-eq0-clause-added
returns-then-size-eq0-clause-added g c =
    let y = recovered (g.D.Disk.image c.args.disk.now) in
    let found = c.args.found.now.items in
    sym (append-nil found) ∙ ap (λ l. found ++ l) (sym (none_at y c.args.bytes.now c.args.i c.in_ok-size.size c.in_ok-size.ensures.count c.if-size-eq0.true))

pub returns-clause-added : goal.returns-clause-added
returns-clause-added g c =
    let y = recovered (g.D.Disk.image c.args.disk.now) in
    let found = c.args.found.now.items in
    c.in_ok-push.ensures.items ∙ ap (λ l. found ++ l) (sym (one_at y c.args.bytes.now c.args.i c.in_ok-size.size c.in_ok-size.ensures.count c.if-size-eq0.false))
