use Rattle.std.proofs.Common.{◌∙◌, ◌++◌, ap, sym}
use Rattle.std.proofs.lemmas.List.{append-nil}
use Rattle.model.specs.Log.{recovered}
use Rattle.commands_runs.proofs.Lines.{lines_free, lines_used}
use Rattle.commands_runs.proofs.file_lines.add_line.Goals as goal

pub returns-then-inode-eq0-clause-added : goal.returns-then-inode-eq0-clause-added
returns-then-inode-eq0-clause-added g c =
    let y = recovered (g.D.Disk.image c.args.disk.now) in
    let lines = c.args.lines.now.items in
    sym (append-nil lines) ∙ ap (λ l. lines ++ l) (sym (lines_free y c.args.i c.in_ok-inode.inode c.in_ok-inode.ensures.ok c.if-inode-eq0.true))

pub returns-in-Ok-clause-added : goal.returns-in-Ok-clause-added
returns-in-Ok-clause-added g c =
    let y = recovered (g.D.Disk.image c.args.disk.now) in
    let lines = c.args.lines.now.items in
    c.in-Ok.ensures.items ∙ ap (λ l. lines ++ l) (sym (lines_used y c.args.i c.in_ok-inode.inode c.in_ok-inode.ensures.ok c.if-inode-eq0.false))
