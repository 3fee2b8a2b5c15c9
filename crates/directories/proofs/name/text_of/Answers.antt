use Rattle.std.proofs.Common.{length, ◌<◌, sym, ◌∙◌, rules, arith}
use Rattle.std.proofs.lemmas.Grind.{common_steps}
use Rattle.std.proofs.lemmas.List.{length-take-le}
use Rattle.directories.specs.Lemmas.Stored.{text_none, text_some}
use Rattle.directories.proofs.name.text_of.Goals as goal

pub returns-in-Some : goal.returns-in-Some
returns-in-Some c =
    let inside : c.in-Some.end < length c.args.name.now = first_of (search rules, grind (arith, common_steps)) in
    let short = length-take-le c.in-Some.end c.args.name.now (omega arith) in
    record {
      text = sym (text_some c.args.name.now c.in-Some.end (sym c.end_of.ensures.first ∙ c.in-Some.is));
      few = omega arith;
    }

pub returns-in-None : goal.returns-in-None
returns-in-None c = record {
  text = sym (text_none c.args.name.now (sym c.end_of.ensures.first ∙ c.in-None.is));
  few = omega arith;
}
