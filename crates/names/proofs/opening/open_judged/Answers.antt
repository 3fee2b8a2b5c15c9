use Rattle.std.proofs.Common.{◌≡◌, ◌∙◌, refl, sym, ap, subst}
use Rattle.blocks.specs.Disk.{Image}
use Rattle.calls.specs.Calls.{image_on}
use Rattle.model.specs.Files.{files_of}
use Rattle.model.specs.Log.{recovered}
use Rattle.model.specs.Soundness.{IsSound}
use Rattle.directories.specs.Counts.{AreCounted}
use Rattle.directories.specs.Trees.{IsTree}
use Rattle.blocks.specs.Lemmas.Reads.{reads_none}
use Rattle.names.proofs.Openings.{unopened_behind}
use Rattle.names.proofs.opening.open_judged.Goals as goal

pub returns-in-Err-clause-refused : goal.returns-in-Err-clause-refused
returns-in-Err-clause-refused g c =
    unopened_behind g.D.Disk c.args.disk c.args.disk c.in-Err.disk c.in-Err.fault c.requires.sound (reads_none g.D.Disk c.args.disk) refl c.in-Err.ensures.refused

pub returns-in-Ok-clause-ready : goal.returns-in-Ok-clause-ready
returns-in-Ok-clause-ready g c =
    let opened = c.in-Ok.ensures.opened in
    let same : image_on g.D.Disk.image c.over.result.kernel ≡ recovered (g.D.Disk.image c.args.disk) =
    ap (image_on g.D.Disk.image) c.over.ensures.kernel ∙ opened.image in
    record {
      rests = c.over.ensures.idle.rests;
      few = c.over.ensures.idle.few;
      many = c.over.ensures.idle.many;
      sound = subst (λ (y : Image). IsSound y) (sym (ap (image_on g.D.Disk.image) c.over.ensures.kernel)) opened.whole.sound;
      tree = subst (λ (y : Image). IsTree (files_of y)) (sym same) c.requires.tree;
      counted = subst (λ (y : Image). AreCounted (files_of y)) (sym same) c.requires.counted;
    }
