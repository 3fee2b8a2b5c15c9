use Rattle.model.specs.Files.{files_of}
use Rattle.calls.specs.Calls.{image_on}
use Rattle.mounting.specs.Tells.{TellsEntry}
use Rattle.mounting.proofs.Telling.{told_directory}
use Rattle.names.specs.Making.{IsUnmadeDirectoryIn, MakesDirectoryIn}
use Rattle.mounting.specs.Causes.{IsRefused, IsUnmadeDirectory, errno_of}
use Rattle.std.proofs.lemmas.Result.{err_from_is_err_and, on_ok_weaker}
use Rattle.mounting.proofs.Hindering.{left_call}
use Rattle.std.proofs.Common.{ℕ, List, subst, inr, sym}
use Rattle.mounting.specs.Changes.{MakesDirectory}
use Rattle.names.specs.Inside.{form_seen}
use Rattle.mounting.proofs.serving.Server.make_directory.Goals as goal

pub returns-in_err-made-clause-makes : goal.returns-in_err-made-clause-makes
returns-in_err-made-clause-makes g c =
    λ task o first within before. c.make_directory_in.ensures.makes task o first (λ x z is. within x z (subst (λ (name : List ℕ). MakesDirectory c.args.node name (form_seen g.D.Disk.image o) x z) c.in_ok-name.ensures.is is)) before

pub returns-clause-makes : goal.returns-clause-makes
returns-clause-makes g c =
    λ task o first within before. (c.make_directory_in.ensures.makes task o first (λ x z is. within x z (subst (λ (name : List ℕ). MakesDirectory c.args.node name (form_seen g.D.Disk.image o) x z) c.in_ok-name.ensures.is is)) before)

pub returns-in_err-made-clause-hindered : goal.returns-in_err-made-clause-hindered
returns-in_err-made-clause-hindered g c =
    let p = err_from_is_err_and c.from_residual-in_err-made.result c.from_residual-in_err-made.ensures.1 in
    left_call g.D.Disk errno_of (λ files. IsUnmadeDirectoryIn files c.args.node c.in_ok-name.name) (IsUnmadeDirectory c.args.node c.args.name.now)
    (λ form x e is. inr (subst (λ (n : List ℕ). IsRefused (λ files. IsUnmadeDirectoryIn files c.args.node n) form x e) c.in_ok-name.ensures.is is))
    c.make_directory_in.new.tree.kernel c.make_directory_in.new.tree.calls_left c.from_residual-in_err-made.result p.0 c.in_err-made.field-0.0 p.1 p.2 c.in_err-made.ensures.hindered

pub returns-clause-does : goal.returns-clause-does
returns-clause-does g c =
    let made = c.from-2.result in
    let files = files_of (image_on g.D.Disk.image c.args.tree.now.kernel) in
    let new = files_of (image_on g.D.Disk.image c.make_directory_in.new.tree.kernel) in
    let makes : MakesDirectoryIn c.args.node c.in_ok-name.name made files new = subst (λ (n : ℕ). MakesDirectoryIn c.args.node c.in_ok-name.name n files new) (sym c.from-2.ensures) c.in_ok-made.ensures.does in
    on_ok_weaker c.tell_entry.result
    (λ adds empty. (
      made,
      (
        subst (λ (n : List ℕ). MakesDirectoryIn c.args.node n made files new) c.in_ok-name.ensures.is makes,
        subst (λ (old : List ℕ). TellsEntry new made old c.tell_entry.new.out.items) empty (told_directory files new c.args.node made c.in_ok-name.name _ _ makes adds),
      ),
    ))
    c.tell_entry.ensures.tells
