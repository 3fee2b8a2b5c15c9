use Rattle.sysring.specs.Lemmas.Sharing.{shared_now}
use Rattle.sysring.proofs.serving.serve_while.Goals as goal

pub serve_under-requires-clause-shared : goal.serve_under-requires-clause-shared
serve_under-requires-clause-shared g c κs inside = shared_now g.D.Disk g.H.Herald c.args.kernel c.known.ensures
