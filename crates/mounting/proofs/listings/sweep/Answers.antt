use Rattle.mounting.proofs.listings.sweep.Goals as goal

pub returns-in_err-bytes-clause-makes : goal.returns-in_err-bytes-clause-makes
returns-in_err-bytes-clause-makes g c = λ task o first within before. (c.list_at.ensures.looks task o first before)

pub returns-in_err-sweep_entry-clause-makes : goal.returns-in_err-sweep_entry-clause-makes
returns-in_err-sweep_entry-clause-makes g c = λ task o first within before. (c.sweep_entry.ensures.makes task o first within (c.loop-entry.invariant.makes task o first within (c.list_at.ensures.looks task o first before)))

pub loop-entry-preserved : goal.loop-entry-preserved
loop-entry-preserved g c = record { ready = c.sweep_entry.ensures.ready; makes = λ task o first within before. (c.sweep_entry.ensures.makes task o first within (c.loop-entry.invariant.makes task o first within before)) }

pub returns-clause-makes : goal.returns-clause-makes
returns-clause-makes g c = λ task o first within before. (c.loop-entry.invariant.makes task o first within (c.list_at.ensures.looks task o first before))
