use Rattle.std.proofs.Common.{◌≡◌}
use Rattle.commands.specs.Lemmas.Ends.{not_done}
use Rattle.commands.specs.Words.{IsRefusedOf}
use Rattle.names_words.specs.CommandLine.{xvnames_words}
use Rattle.xvnames.specs.Requests.{OnRefused}
use Rattle.xvnames.proofs.batch.XvnamesProgram.command.Goals as goal

pub returns-clause-undone : goal.returns-clause-undone
returns-clause-undone g c =
    let contents = g.O.Write.contents in
    λ other. not_done xvnames_words (IsRefusedOf xvnames_words (OnRefused g.R.File.Read.remaining)) _ (contents c.args.out.now) (contents c.command.new.out) (c.command.new.out ≡ c.args.out.now) c.command.result c.command.ensures.status other
    c.command.ensures.refused c.command.ensures.wrong
