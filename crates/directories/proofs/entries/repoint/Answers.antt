use Rattle.std.proofs.Common.{rules, arith, ◌∙◌, sym}
use Rattle.std.proofs.lemmas.Grind.{common_steps}
use Rattle.directories.specs.Writes.{Repoints}
use Rattle.directories.specs.Lemmas.Changes.{told_absent}
use Rattle.directories.specs.Lemmas.Repoints.{repoint_keeps, repoint_leads}
use Rattle.directories.proofs.entries.repoint.Goals as goal

pub returns-in_err-place-clause-absent : goal.returns-in_err-place-clause-absent
returns-in_err-place-clause-absent c =
    told_absent c.from_residual.result c.args.bytes.now c.args.name.now (sym c.place_of.ensures.place ∙ c.in_err-place.was)

pub returns-clause-leads : goal.returns-clause-leads
returns-clause-leads c =
    let repoints : Repoints c.args.bytes.now c.args.name.now c.args.number c.link_at.result = first_of (search rules, grind (arith, common_steps)) in
    repoint_leads c.args.bytes.now c.args.name.now c.args.number c.link_at.result repoints

pub returns-clause-others : goal.returns-clause-others
returns-clause-others c =
    let repoints : Repoints c.args.bytes.now c.args.name.now c.args.number c.link_at.result = first_of (search rules, grind (arith, common_steps)) in
    repoint_keeps c.args.bytes.now c.args.name.now c.args.number c.link_at.result repoints
