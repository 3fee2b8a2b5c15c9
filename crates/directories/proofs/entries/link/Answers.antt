use Rattle.std.proofs.Common.{rules, arith}
use Rattle.std.proofs.lemmas.Grind.{common_steps}
use Rattle.directories.specs.Writes.{Links}
use Rattle.directories.specs.Lemmas.Changes.{link_leads, link_keeps}
use Rattle.directories.proofs.entries.link.Goals as goal

pub returns-clause-leads : goal.returns-clause-leads
returns-clause-leads c =
    let links : Links c.args.bytes.now c.args.name.now c.args.number c.link_at.result = first_of (search rules, grind (arith, common_steps)) in
    link_leads c.args.bytes.now c.args.name.now c.args.number c.link_at.result links

pub returns-clause-others : goal.returns-clause-others
returns-clause-others c =
    let links : Links c.args.bytes.now c.args.name.now c.args.number c.link_at.result = first_of (search rules, grind (arith, common_steps)) in
    link_keeps c.args.bytes.now c.args.name.now c.args.number c.link_at.result links
