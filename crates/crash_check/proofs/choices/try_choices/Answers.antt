use Rattle.std.proofs.Common.{◌∙◌}
use Rattle.crash_check.proofs.ChoiceLemmas.{lost_beginning, taken_none, taken_places}
use Rattle.crash_check.proofs.choices.try_choices.Goals as goal

pub try_beginnings-requires-clause-none : goal.try_beginnings-requires-clause-none
try_beginnings-requires-clause-none c = taken_none c.held-held.result c.held-held.ensures.few

pub returns-then-held-gt-MOST_CHOSEN-clause-lost :
    goal.returns-then-held-gt-MOST_CHOSEN-clause-lost
returns-then-held-gt-MOST_CHOSEN-clause-lost c =
    lost_beginning c.args.disk.now c.args.due.now c.try_beginnings.result _ (taken_places c.held-held.result c.held-held.ensures.few ∙ c.held-held.ensures.count) c.try_beginnings.ensures.lost
