use Rattle.mounting.proofs.FileEnds.{found_ends}
use Rattle.mounting.proofs.files.fill_up.Goals as goal

pub returns-in_err-found-clause-makes : goal.returns-in_err-found-clause-makes
returns-in_err-found-clause-makes g c =
    λ task o first within before. c.look_at.ensures.looks task o first before

pub returns-then-found-offset-clause-makes : goal.returns-then-found-offset-clause-makes
returns-then-found-offset-clause-makes g c =
    λ task o first within before. c.fill.ensures.makes task o first within (c.look_at.ensures.looks task o first before)

pub returns-clause-makes : goal.returns-clause-makes
returns-clause-makes g c =
    λ task o first within before. c.look_at.ensures.looks task o first before

pub fill-requires-clause-end : goal.fill-requires-clause-end
fill-requires-clause-end g c = found_ends _ _ c.args.number c.in_ok-found.found c.in_ok-found.ensures.does
