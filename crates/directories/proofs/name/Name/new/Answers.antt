use Rattle.std.proofs.Common.{sym, subst, rules, arith}
use Rattle.std.proofs.lemmas.Grind.{common_steps}
use Rattle.directories.specs.Entries.{IsStored}
use Rattle.directories.specs.Names.{IsName}
use Rattle.directories.specs.Lemmas.Stored.{stored_padded}
use Rattle.directories.proofs.name.Name.new.Goals as goal

pub invariant_of-result : goal.invariant_of-result
invariant_of-result c =
    let name : IsName c.args.text.now = first_of (search rules, grind (arith, common_steps)) in
    subst IsStored (sym c.padded.ensures) (stored_padded c.args.text.now name)
