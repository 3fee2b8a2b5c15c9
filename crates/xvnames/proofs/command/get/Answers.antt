use Rattle.std.proofs.Common.{◌≡◌, Bool, subst, sym}
use Rattle.xvnames.specs.Requests.{Gets, GetsNot}
use Rattle.xvnames.proofs.command.get.Goals as goal

pub returns-then-all-clause-done : goal.returns-then-all-clause-done
returns-then-all-clause-done g c =
    λ done. subst (λ (all : Bool). Gets g.R.File.Read.remaining g.R.File.Write.contents all c.args.path.now (g.O.Write.contents c.args.out.now) (g.O.Write.contents c.perform.new.out)) (sym c.if-all.true) (c.perform.ensures.done done)

pub returns-clause-done : goal.returns-clause-done
returns-clause-done g c =
    λ done. subst (λ (all : Bool). Gets g.R.File.Read.remaining g.R.File.Write.contents all c.args.path.now (g.O.Write.contents c.args.out.now) (g.O.Write.contents c.perform-2.new.out)) (sym c.if-all.false) (c.perform-2.ensures.done done)

pub returns-then-all-clause-refused : goal.returns-then-all-clause-refused
returns-then-all-clause-refused g c =
    λ refused. subst (λ (all : Bool). GetsNot g.R.File.Read.remaining all c.args.path.now (c.perform.new.out ≡ c.args.out.now)) (sym c.if-all.true) (c.perform.ensures.refused refused)

pub returns-clause-refused : goal.returns-clause-refused
returns-clause-refused g c =
    λ refused. subst (λ (all : Bool). GetsNot g.R.File.Read.remaining all c.args.path.now (c.perform-2.new.out ≡ c.args.out.now)) (sym c.if-all.false) (c.perform-2.ensures.refused refused)
