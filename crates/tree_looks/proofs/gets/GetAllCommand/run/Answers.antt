use Rattle.std.proofs.Common.{◌≡◌, ◌∙◌, refl, sym, subst}
use Rattle.std.proofs.lemmas.Result.{IfErr-weaker, on_ok_weaker}
use Rattle.model.specs.Files.{Files}
use Rattle.tree_looks.specs.Gets.{HasCopied, IsUncopied, IsUngotAll}
use Rattle.tree_looks.specs.declared.faults.GetRefusal.{GetRefusal}
use Rattle.tree_looks.proofs.Ungot.{not_copied, not_loaded}
use Rattle.tree_looks.proofs.gets.GetAllCommand.run.Goals as goal

pub returns-clause-done : goal.returns-clause-done
returns-clause-done g c =
    let loaded = c.in-Ok-load_tree.ensures in
    on_ok_weaker c.get_below.result
    (λ copied. record {
      copied = (c.in-Ok.disk, (c.load_tree.new.disk, c.in-Ok.ensures, (loaded.reads, loaded.sound, loaded.tree, subst (λ (files : Files). HasCopied g.R.File.Write.contents c.args.self.path.now files) (c.as_slice.ensures.value ∙ loaded.files) copied)));
      silent = refl;
    })
    c.get_below.ensures.copied

pub returns-in-Err-load_tree-clause-refused : goal.returns-in-Err-load_tree-clause-refused
returns-in-Err-load_tree-clause-refused g c =
    let path = c.args.self.path.now in
    let none = c.args._out.now ≡ c.args._out.now in
    subst (λ (r : GetRefusal). IsUngotAll g.R.File.Read.remaining path none r) (sym c.of.ensures)
    (not_loaded g.R.File.Read.remaining path none refl c.in-Ok.disk c.load_tree.new.disk c.in-Err-load_tree.refusal c.in-Ok.ensures c.in-Err-load_tree.ensures.reads c.in-Err-load_tree.ensures.refused)

pub returns-clause-refused : goal.returns-clause-refused
returns-clause-refused g c =
    let path = c.args.self.path.now in
    let files = c.as_slice.result.now in
    let loaded = c.in-Ok-load_tree.ensures in
    IfErr-weaker c.get_below.result (IsUncopied path files) (IsUngotAll g.R.File.Read.remaining path (c.args._out.now ≡ c.args._out.now))
    (not_copied g.R.File.Read.remaining path (c.args._out.now ≡ c.args._out.now) refl c.in-Ok.disk c.load_tree.new.disk files c.in-Ok.ensures loaded.reads loaded.sound (c.as_slice.ensures.value ∙ loaded.files)) c.get_below.ensures.refused
