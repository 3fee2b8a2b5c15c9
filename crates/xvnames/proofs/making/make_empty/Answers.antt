use Rattle.std.proofs.Common.{sym, subst}
use Rattle.blocks.specs.Disk.{Image}
use Rattle.model.specs.Files.{files_of}
use Rattle.model.specs.Log.{recovered}
use Rattle.names.specs.Lemmas.NewImages.{new_has_none, new_is_unlabelled}
use Rattle.names.specs.Ready.{HasNoFile}
use Rattle.xvnames.specs.Making.{IsUnlabelled}
use Rattle.xvnames.proofs.making.make_empty.Goals as goal

pub returns-in-Ok-mkfs_as-clause-none : goal.returns-in-Ok-mkfs_as-clause-none
returns-in-Ok-mkfs_as-clause-none g c =
    let making = c.args.making in
    let plan = c.requires.plan in
    subst (λ (x : Image). HasNoFile (files_of (recovered x))) (sym c.in-Ok-mkfs_as.ensures.made.image) (new_has_none making.form making.size making.ninodes plan.0 plan.1)

pub returns-in-Ok-mkfs_as-clause-labels : goal.returns-in-Ok-mkfs_as-clause-labels
returns-in-Ok-mkfs_as-clause-labels g c =
    let making = c.args.making in
    let plan = c.requires.plan in
    subst (λ (x : Image). IsUnlabelled (recovered x)) (sym c.in-Ok-mkfs_as.ensures.made.image) (new_is_unlabelled making.form making.size making.ninodes plan.0 plan.1)
