use Rattle.std.proofs.Common.{sym, subst}
use Rattle.blocks.specs.Disk.{Image}
use Rattle.model.specs.Files.{files_of}
use Rattle.names.specs.Ready.{HasNoFile}
use Rattle.bench_parts.proofs.named.new_tree.Goals as goal

pub make_root-requires-clause-none : goal.make_root-requires-clause-none
make_root-requires-clause-none g c =
    subst (λ k. HasNoFile (files_of (g.D.Disk.image k.store.volume.device))) (sym c.over-tree.ensures.kernel)
    (subst (λ (x : Image). HasNoFile (files_of x)) (sym c.in-Ok.ensures.opened.image) c.requires)
