use Rattle.std.proofs.lemmas.Result.{IfErr-weaker, on_ok_weaker}
use Rattle.std.proofs.Common.{Bool, subst, sym}
use Rattle.std.specs.Prelude.{OnOk}
use Rattle.commands_runs.specs.Cats.{HasGathered}
use Rattle.commands_runs.proofs.CatLemmas.{any_gathered, any_ungathered}
use Rattle.commands_runs.proofs.cats.gather.Goals as goal

pub returns-then-cat-clause-gathered : goal.returns-then-cat-clause-gathered
returns-then-cat-clause-gathered g c =
    on_ok_weaker c.gather_read_only.result (any_gathered g.R.File.Read.remaining c.args.cat.read_only c.args.cat.inum c.gather_read_only.new.bytes.items) c.gather_read_only.ensures.gathered

pub returns-then-cat-clause-refused : goal.returns-then-cat-clause-refused
returns-then-cat-clause-refused g c =
    IfErr-weaker c.gather_read_only.result _ _ (any_ungathered g.R.File.Read.remaining c.args.cat.read_only c.args.cat.inum) c.gather_read_only.ensures.refused

pub returns-clause-gathered : goal.returns-clause-gathered
returns-clause-gathered g c =
    subst (λ (read_only : Bool). OnOk c.gather_recovered.result (HasGathered g.R.File.Read.remaining read_only c.args.cat.inum c.gather_recovered.new.bytes.items)) (sym c.if-cat.false) c.gather_recovered.ensures.gathered
