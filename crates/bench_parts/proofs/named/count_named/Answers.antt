use Rattle.std.proofs.Common.{refl, sym, subst}
use Rattle.blocks.specs.Disk.{Image}
use Rattle.model.specs.declared.types.image.Form.TheVariants.{One}
use Rattle.model.specs.Files.{files_of}
use Rattle.model.specs.Log.{recovered}
use Rattle.names.specs.Lemmas.NewImages.{new_has_none}
use Rattle.names.specs.Ready.{HasNoFile}
use Rattle.bench_parts.proofs.named.count_named.Goals as goal

pub new_tree-requires : goal.new_tree-requires
new_tree-requires c =
    subst (λ (x : Image). HasNoFile (files_of (recovered x))) (sym c.in-Ok.ensures) (new_has_none One 200 32 refl refl)
