use Rattle.std.proofs.lemmas.Result.{IfErr-weaker, on_ok_weaker}
use Rattle.tree_looks.specs.Gets.{IsOfFolder, IsUncopied}
use Rattle.tree_looks.proofs.Ungot.{uncopied_so}
use Rattle.tree_looks.proofs.gets.get_below.Goals as goal

pub returns-in-Ok-clause-copied : goal.returns-in-Ok-clause-copied
returns-in-Ok-clause-copied g c =
    on_ok_weaker c.fill_new.result (λ below. record { number = c.in-Ok.number; led = c.in-Ok.ensures.led; directory = c.in-Ok.ensures.directory; below = below }) c.fill_new.ensures.copied

pub returns-in-Ok-clause-refused : goal.returns-in-Ok-clause-refused
returns-in-Ok-clause-refused g c =
    let path = c.args.path.now in
    let files = c.args.files.now in
    IfErr-weaker c.fill_new.result IsOfFolder (IsUncopied path files) (uncopied_so path files) c.fill_new.ensures.cause
