use Rattle.std.proofs.Common.{◌≡◌, Bool, subst, sym}
use Rattle.xvnames.specs.Requests.{Removes, RemovesNot}
use Rattle.xvnames.proofs.command.remove.Goals as goal

pub returns-then-all-clause-done : goal.returns-then-all-clause-done
returns-then-all-clause-done g c =
    λ done. subst (λ (all : Bool). Removes g.R.File.Read.remaining all c.args.path.now c.args.sync c.args.no_sync (g.O.Write.contents c.args.out.now) (g.O.Write.contents c.change.new.out)) (sym c.if-all.true) (c.change.ensures.done done)

pub returns-then-all-clause-refused : goal.returns-then-all-clause-refused
returns-then-all-clause-refused g c =
    λ refused. subst (λ (all : Bool). RemovesNot g.R.File.Read.remaining all c.args.path.now c.args.sync c.args.no_sync (c.change.new.out ≡ c.args.out.now)) (sym c.if-all.true) (c.change.ensures.refused refused)

pub returns-clause-done : goal.returns-clause-done
returns-clause-done g c =
    λ done. subst (λ (all : Bool). Removes g.R.File.Read.remaining all c.args.path.now c.args.sync c.args.no_sync (g.O.Write.contents c.args.out.now) (g.O.Write.contents c.change-2.new.out)) (sym c.if-all.false) (c.change-2.ensures.done done)

pub returns-clause-refused : goal.returns-clause-refused
returns-clause-refused g c =
    λ refused. subst (λ (all : Bool). RemovesNot g.R.File.Read.remaining all c.args.path.now c.args.sync c.args.no_sync (c.change-2.new.out ≡ c.args.out.now)) (sym c.if-all.false) (c.change-2.ensures.refused refused)
