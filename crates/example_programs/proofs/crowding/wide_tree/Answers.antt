use Rattle.std.proofs.Common.{refl, sym, subst}
use Rattle.blocks.specs.Disk.{Image}
use Rattle.model.specs.declared.types.image.Form.TheVariants.{One}
use Rattle.model.specs.Files.{files_of}
use Rattle.model.specs.Log.{recovered}
use Rattle.names.specs.Lemmas.NewImages.{new_has_none}
use Rattle.names.specs.Ready.{HasNoFile}
use Rattle.example_programs.proofs.crowding.wide_tree.Goals as goal

pub rooted-requires : goal.rooted-requires
rooted-requires c =
    subst (λ (x : Image). HasNoFile (files_of (recovered x))) (sym c.in-Ok.ensures) (new_has_none One 400 640 refl refl)
