use Rattle.commands_changes.proofs.rescues.fill.Goals as goal

pub returns-in-Ok-clause-filled : goal.returns-in-Ok-clause-filled
returns-in-Ok-clause-filled g c = record { made = c.in-Ok._made; rescued = c.in-Ok.ensures.rescued }

pub returns-in-Err-clause-refused : goal.returns-in-Err-clause-refused
returns-in-Err-clause-refused g c = record { made = c.in-Err._made; why = c.in-Err.ensures.refused }
