use Rattle.std.proofs.Common.{◌≡◌, Bool, subst, sym}
use Rattle.xvnames.specs.Requests.{Makes, MakesNot}
use Rattle.xvnames.proofs.command.make_directory.Goals as goal

pub returns-then-parents-clause-done : goal.returns-then-parents-clause-done
returns-then-parents-clause-done g c =
    λ done. subst (λ (parents : Bool). Makes g.R.File.Read.remaining parents c.args.path.now c.args.sync c.args.no_sync (g.O.Write.contents c.args.out.now) (g.O.Write.contents c.change.new.out)) (sym c.if-parents.true) (c.change.ensures.done done)

pub returns-then-parents-clause-refused : goal.returns-then-parents-clause-refused
returns-then-parents-clause-refused g c =
    λ refused. subst (λ (parents : Bool). MakesNot g.R.File.Read.remaining parents c.args.path.now c.args.sync c.args.no_sync (c.change.new.out ≡ c.args.out.now)) (sym c.if-parents.true) (c.change.ensures.refused refused)

pub returns-clause-done : goal.returns-clause-done
returns-clause-done g c =
    λ done. subst (λ (parents : Bool). Makes g.R.File.Read.remaining parents c.args.path.now c.args.sync c.args.no_sync (g.O.Write.contents c.args.out.now) (g.O.Write.contents c.change-2.new.out)) (sym c.if-parents.false) (c.change-2.ensures.done done)

pub returns-clause-refused : goal.returns-clause-refused
returns-clause-refused g c =
    λ refused. subst (λ (parents : Bool). MakesNot g.R.File.Read.remaining parents c.args.path.now c.args.sync c.args.no_sync (c.change-2.new.out ≡ c.args.out.now)) (sym c.if-parents.false) (c.change-2.ensures.refused refused)
