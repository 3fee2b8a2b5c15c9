use Rattle.std.proofs.Common.{inl}
use Rattle.tree_puts.proofs.anew.change_opened.Goals as goal

pub returns-in-Ok-copied_from-clause-refused : goal.returns-in-Ok-copied_from-clause-refused
returns-in-Ok-copied_from-clause-refused g c = inl (record {
  opened = c.in-Ok.disk;
  is = c.in-Ok.ensures;
  copy = c.in-Ok-copied_from.copy;
  alike = c.in-Ok-copied_from.ensures;
  why = c.in-Err-make_in.ensures.undone;
})
