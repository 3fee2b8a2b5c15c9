use Rattle.std.proofs.Common.{◌∙◌, ◌++◌, ap, sym}
use Rattle.model.specs.Lemmas.Frames.{pointers_free}
use Rattle.offline.specs.Common.{depths, pointers_along, recovered}
use Rattle.offline.specs.Lemmas.Checked.{form_recovered}
use Rattle.offline.proofs.InodeLemmas.{pointers_used}
use Rattle.offline.proofs.TakingLemmas.{taken_whole}
use Rattle.offline.proofs.pointers.read_pointers.Goals as goal

pub returns-then-inode-eq0-clause-pointers : goal.returns-then-inode-eq0-clause-pointers
returns-then-inode-eq0-clause-pointers g c =
    c.new-list.ensures.items ∙ sym (pointers_free (recovered (g.D.Disk.image c.args.disk.now)) c.args.inode.now c.if-inode-eq0.true)

pub returns-clause-pointers : goal.returns-clause-pointers
returns-clause-pointers g c =
    let x = g.D.Disk.image c.args.disk.now in
    let inode = c.args.inode.now in
    let form = c.args.image.now.form in
    (taken_whole _ c.args.i _ _ _ _ _ c.in_ok-take_pointers.ensures.taken).0
    ∙ ap (λ l. l ++ pointers_along (recovered x) inode.size 0 (depths form) inode.addrs) c.new-list.ensures.items
    ∙ sym (pointers_used (recovered x) inode form (sym (form_recovered x c.args.image.now c.requires.recovered)) c.if-inode-eq0.false)
