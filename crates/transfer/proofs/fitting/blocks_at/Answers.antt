use Rattle.std.proofs.Common.{◌≡◌, ◌≢◌, ◌∙◌, ◌+◌, get_or, rules, sym, ap}
use Rattle.blocks.specs.Common.{get_or_read}
use Rattle.model.specs.declared.types.image.Dinode.{Dinode}
use Rattle.model.specs.Layout.{inode_of}
use Rattle.model.specs.Log.{recovered}
use Rattle.transfer.specs.Fitting.{blocks_of}
use Rattle.transfer.specs.Needs.{needed_blocks}
use Rattle.transfer.proofs.FillingLemmas.{file_listed, none_listed}
use Rattle.transfer.proofs.fitting.blocks_at.Goals as goal

pub returns-then-index-eq0-clause-count : goal.returns-then-index-eq0-clause-count
returns-then-index-eq0-clause-count g c =
    let x = g.D.Disk.image c.args.old.now in
    let source = c.args.source.now in
    let k = c.args.k in
    let free : get_or source.kinds.items k 0 ≡ 0 = search rules in
    sym (ap (blocks_of source.form (inode_of (recovered x) (k + 1)).size) (none_listed x source c.requires.source k c.requires.k free))

pub returns-clause-count : goal.returns-clause-count
returns-clause-count g c =
    let x = g.D.Disk.image c.args.old.now in
    let source = c.args.source.now in
    let k = c.args.k in
    let same : c.index.result.now ≡ get_or source.kinds.items k 0 = get_or_read source.kinds.items k c.index.result.now c.requires.k c.index.ensures 0 in
    let used : get_or source.kinds.items k 0 ≢ 0 = λ free. c.if-index-eq0.false (same ∙ free) in
    c.needed_blocks.ensures.count ∙ ap (λ (d : Dinode). needed_blocks source.form d.size) {y = inode_of (recovered x) (k + 1)} c.in_ok-inode.ensures.ok
    ∙ sym (ap (blocks_of source.form (inode_of (recovered x) (k + 1)).size) (file_listed x source c.requires.source k c.requires.k used))
