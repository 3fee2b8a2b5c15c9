use Rattle.std.proofs.Common.{IfSome, All, rules}
use Rattle.second_lines.proofs.QuotingLemmas.{quoted_is_seen}
use Rattle.second_lines.proofs.quoting.quoted.Goals as goal

pub returns-in-Ok-clause-seen : goal.returns-in-Ok-clause-seen
returns-in-Ok-clause-seen c = search (rules, quoted_is_seen, c.in-Ok.ensures, c.from_utf8.ensures.ok, c.ok.ensures.value)
