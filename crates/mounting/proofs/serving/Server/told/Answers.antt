use Rattle.mounting.proofs.TreeCalls.{asked_in}
use Rattle.names.specs.Inside.{form_seen}
use Rattle.fuse.specs.Requests.{asked, request_in}
use Rattle.mounting.proofs.serving.Server.told.Goals as goal

pub returns-in_err-answer-clause-makes : goal.returns-in_err-answer-clause-makes
returns-in_err-answer-clause-makes g c =
    λ task o first within before. c.answer.ensures.makes task o first (λ x z is. within x z (asked_in (form_seen g.D.Disk.image o) c.in-Ok.node c.args.node (asked c.in-Some.request) (request_in c.args.opcode c.args.asked.now) x z c.in-Ok.ensures.1 c.in-Some.ensures is)) before

pub returns-then-len-gt-MOST_ANSWERED-clause-makes : goal.returns-then-len-gt-MOST_ANSWERED-clause-makes
returns-then-len-gt-MOST_ANSWERED-clause-makes g c =
    λ task o first within before. c.answer.ensures.makes task o first (λ x z is. within x z (asked_in (form_seen g.D.Disk.image o) c.in-Ok.node c.args.node (asked c.in-Some.request) (request_in c.args.opcode c.args.asked.now) x z c.in-Ok.ensures.1 c.in-Some.ensures is)) before

pub returns-clause-makes : goal.returns-clause-makes
returns-clause-makes g c =
    λ task o first within before. c.answer.ensures.makes task o first (λ x z is. within x z (asked_in (form_seen g.D.Disk.image o) c.in-Ok.node c.args.node (asked c.in-Some.request) (request_in c.args.opcode c.args.asked.now) x z c.in-Ok.ensures.1 c.in-Some.ensures is)) before
