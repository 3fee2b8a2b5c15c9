use Rattle.sysring.specs.Lemmas.Sharing.{shared_now}
use Rattle.test_rows.proofs.flushes.flush_over.Goals as goal

pub serve_flushed-requires-clause-shared : goal.serve_flushed-requires-clause-shared
serve_flushed-requires-clause-shared g c κs inside = shared_now g.D.Disk g.H.Herald c.args.kernel c.known.ensures
