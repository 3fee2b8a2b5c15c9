use Rattle.std.proofs.Common.{◌≡◌, ◌∙◌, Err, refl, sym}
use Rattle.names.specs.Inside.{files_seen}
use Rattle.names.specs.Numbered.{IsNoFile, LooksAt}
use Rattle.names.proofs.Blocked.{answers_err, answers_on, why_of}
use Rattle.names.proofs.Going.{proceeds_on}
use Rattle.names.proofs.linking.LinkInChange.apply.Goals as goal

pub returns-in-Ok-clause-no_block : goal.returns-in-Ok-clause-no_block
returns-in-Ok-clause-no_block g c = λ tells.
    answers_on g.D.Disk c.args.tree.now.kernel c.seen.new.self.kernel c.linked.new.self.kernel c.seen.new.self.calls_left c.linked.result c.in_ok-_found.ensures.goes.on
    c.linked.ensures.no_block

pub returns-in-Err-clause-no_block : goal.returns-in-Err-clause-no_block
returns-in-Err-clause-no_block g c = λ tells.
    let why = why_of (LooksAt c.args.self.now.number) (IsNoFile c.args.self.now.number) (files_seen g.D.Disk.image c.args.tree.now.kernel) (files_seen g.D.Disk.image c.seen.new.self.kernel)
    c.in_ok-_found.field-0 c.in-Err.refusal c.in-Err.is c.in_ok-_found.ensures.made in
    answers_err g.D.Disk c.args.tree.now.kernel c.seen.new.self.kernel c.in-Err.refusal (λ is. let both = sym why.0 ∙ is in cc both)

pub returns-in-Ok-clause-goes : goal.returns-in-Ok-clause-goes
returns-in-Ok-clause-goes g c =
    proceeds_on g.D.Disk c.args.tree.now.kernel c.seen.new.self.kernel c.linked.new.self.kernel c.linked.result c.args.tree.now.calls_left c.seen.new.self.calls_left
    c.linked.new.self.calls_left c.requires.way c.in_ok-_found.ensures.goes.on c.seen.ensures.goes.stays c.linked.ensures.goes
