use Rattle.calls.specs.Calls.{image_on}
use Rattle.model.specs.Files.{files_of}
use Rattle.mounting.proofs.Telling.{told_made}
use Rattle.names.specs.Making.{IsUnmadeIn, MakesIn}
use Rattle.mounting.specs.Causes.{IsRefused, IsUnmade, errno_of}
use Rattle.std.proofs.lemmas.Result.{err_from_is_err_and}
use Rattle.mounting.proofs.Hindering.{left_call}
use Rattle.std.proofs.Common.{ℕ, List, sym, subst, inr}
use Rattle.mounting.specs.Changes.{MakesFile}
use Rattle.names.specs.Inside.{form_seen}
use Rattle.mounting.proofs.serving.Server.make.Goals as goal

pub returns-in_err-made-clause-makes : goal.returns-in_err-made-clause-makes
returns-in_err-made-clause-makes g c =
    λ task o first within before. c.make_in.ensures.makes task o first (λ x z is. within x z (subst (λ (name : List ℕ). MakesFile c.args.node name (form_seen g.D.Disk.image o) x z) c.in_ok-name.ensures.is is)) before

pub returns-in_err-tell_entry-clause-makes : goal.returns-in_err-tell_entry-clause-makes
returns-in_err-tell_entry-clause-makes g c =
    λ task o first within before. c.make_in.ensures.makes task o first (λ x z is. within x z (subst (λ (name : List ℕ). MakesFile c.args.node name (form_seen g.D.Disk.image o) x z) c.in_ok-name.ensures.is is)) before

pub returns-clause-makes : goal.returns-clause-makes
returns-clause-makes g c =
    λ task o first within before. c.make_in.ensures.makes task o first (λ x z is. within x z (subst (λ (name : List ℕ). MakesFile c.args.node name (form_seen g.D.Disk.image o) x z) c.in_ok-name.ensures.is is)) before

pub returns-in_err-made-clause-hindered : goal.returns-in_err-made-clause-hindered
returns-in_err-made-clause-hindered g c =
    let p = err_from_is_err_and c.from_residual-in_err-made.result c.from_residual-in_err-made.ensures.1 in
    left_call g.D.Disk errno_of (λ files. IsUnmadeIn files c.args.node c.in_ok-name.name) (IsUnmade c.args.node c.args.name.now)
    (λ form x e is. inr (subst (λ (n : List ℕ). IsRefused (λ files. IsUnmadeIn files c.args.node n) form x e) c.in_ok-name.ensures.is is))
    c.make_in.new.tree.kernel c.make_in.new.tree.calls_left c.from_residual-in_err-made.result p.0 c.in_err-made.field-0.0 p.1 p.2 c.in_err-made.ensures.hindered

pub returns-clause-tells : goal.returns-clause-tells
returns-clause-tells g c =
    told_made (files_of (image_on g.D.Disk.image c.args.tree.now.kernel)) (files_of (image_on g.D.Disk.image c.make_in.new.tree.kernel)) c.args.node c.from-2.result c.in_ok-name.name _ _
    (subst (λ (n : ℕ). MakesIn c.args.node c.in_ok-name.name n (files_of (image_on g.D.Disk.image c.args.tree.now.kernel)) (files_of (image_on g.D.Disk.image c.make_in.new.tree.kernel))) (sym c.from-2.ensures) c.in_ok-made.ensures.does) c.in_ok-tell_entry.ensures.tells
