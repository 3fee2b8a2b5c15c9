use Rattle.std.proofs.Common.{Some}
use Rattle.test_rows.proofs.flushes.flush_over.Given as goal

abbrev pub ghosts-serve_flushed : goal.ghosts-serve_flushed
ghosts-serve_flushed g a = record { outset = Some a.kernel }
