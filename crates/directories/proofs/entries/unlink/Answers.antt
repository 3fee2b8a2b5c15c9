use Rattle.std.proofs.Common.{rules, arith, ◌∙◌, sym}
use Rattle.std.proofs.lemmas.Grind.{common_steps}
use Rattle.directories.specs.Writes.{Unlinks}
use Rattle.directories.specs.Lemmas.Changes.{unlink_gone, unlink_keeps, told_absent}
use Rattle.directories.proofs.entries.unlink.Goals as goal

pub returns-in_err-place-clause-absent : goal.returns-in_err-place-clause-absent
returns-in_err-place-clause-absent c =
    told_absent c.from_residual.result c.args.bytes.now c.args.name.now (sym c.place_of.ensures.place ∙ c.in_err-place.was)

pub returns-clause-gone : goal.returns-clause-gone
returns-clause-gone c =
    let unlinks : Unlinks c.args.bytes.now c.args.name.now c.free_at.result = first_of (search rules, grind (arith, common_steps)) in
    unlink_gone c.args.bytes.now c.args.name.now c.free_at.result unlinks

pub returns-clause-others : goal.returns-clause-others
returns-clause-others c =
    let unlinks : Unlinks c.args.bytes.now c.args.name.now c.free_at.result = first_of (search rules, grind (arith, common_steps)) in
    unlink_keeps c.args.bytes.now c.args.name.now c.free_at.result unlinks
