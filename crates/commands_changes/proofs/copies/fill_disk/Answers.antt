use Rattle.commands_changes.proofs.copies.fill_disk.Goals as goal

pub returns-in-Ok-fill-clause-filled : goal.returns-in-Ok-fill-clause-filled
returns-in-Ok-fill-clause-filled g c = record { created = c.in-Ok.new; zeroes = c.in-Ok.ensures.made.image; filled = c.in-Ok-fill.ensures.filled }

pub returns-in-Err-fill-clause-refused : goal.returns-in-Err-fill-clause-refused
returns-in-Err-fill-clause-refused g c = record { created = c.in-Ok.new; zeroes = c.in-Ok.ensures.made.image; unfilled = c.in-Err-fill.ensures.refused }
