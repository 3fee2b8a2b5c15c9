use Rattle.std.proofs.Common.{◌≡◌, refl}
use Rattle.commands_runs.proofs.CatLemmas.{not_cat}
use Rattle.commands_runs.proofs.cats.CatCommand.run.Goals as goal

pub returns-clause-refused : goal.returns-clause-refused
returns-clause-refused g c =
    not_cat g.R.File.Read.remaining c.args.self.read_only c.args.self.inum (c.args.out.now ≡ c.args.out.now) refl c.in-Err.refusal c.in-Err.ensures.refused
