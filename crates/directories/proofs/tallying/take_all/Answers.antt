use Rattle.std.proofs.Common.{◌≡◌, ◌∙◌, ℕ, List, ap, length, subst, sym}
use Rattle.model.specs.Files.{files_of}
use Rattle.model.specs.Log.{recovered}
use Rattle.directories.specs.Tallying.{names_to, Takes}
use Rattle.directories.proofs.Takings.{written_whole}
use Rattle.directories.proofs.tallying.take_all.Goals as goal

pub returns-clause-takes : goal.returns-clause-takes
returns-clause-takes g c =
    let names = names_to (files_of (recovered (g.D.Disk.image c.args.disk.now))) in
    let items = c.args.left.now.items in
    let after = c.take_names.new.left in
    let long : length after ≡ length items = c.take_names.auto.left ∙ ap length c.deref_mut.ensures.value in
    subst (λ (l : List ℕ). Takes names items l c.in_ok-short.short) (sym (written_whole after items c.args.left.now.len long c.args.left.now.ok.0))
    (subst (λ (l : List ℕ). Takes names l after c.in_ok-short.short) c.deref_mut.ensures.value c.in_ok-short.ensures.takes)

pub returns-clause-long : goal.returns-clause-long
returns-clause-long g c =
    let items = c.args.left.now.items in
    let after = c.take_names.new.left in
    let long : length after ≡ length items = c.take_names.auto.left ∙ ap length c.deref_mut.ensures.value in
    ap length (written_whole after items c.args.left.now.len long c.args.left.now.ok.0) ∙ long
