use Rattle.std.proofs.Common.{length, refl}
use Rattle.std.proofs.lemmas.Option.{slice_get_read}
use Rattle.std.specs.Vec.{with_item}
use Rattle.player.specs.Disks.{faulty}
use Rattle.player.proofs.Owning.{met_own}
use Rattle.player.proofs.Seats.{same_many, set_seated}
use Rattle.player.proofs.player.Player.reconcile.Goals as goal

pub returns-clause-reconciles : goal.returns-clause-reconciles
returns-clause-reconciles g c =
    let feeders = c.args.self.now.feeders.items in
    record {
      feeder = c.index_mut.result.now;
      met = c.visit_with.new.other;
      is = slice_get_read feeders (length feeders) c.args.pid c.index_mut.result.now refl (rw c.requires.seated.many c.requires.pid) c.index_mut.ensures.value;
      set = refl;
      reconciles = c.visit_with.ensures.tells;
    }

pub returns-clause-own : goal.returns-clause-own
returns-clause-own g c =
    let old = c.args.self.now in
    met_own (faulty g.D.Disk) c.args.pid old.kernel c.visit_with.new.self.intake old.feeders.items _ c.known.ensures c.requires.pid (returns-clause-reconciles g c)

pub returns-clause-seated : goal.returns-clause-seated
unfolding returns-clause-reconciles
returns-clause-seated g c =
    let old = c.args.self.now in
    let met = record c.index_mut.result.now { caller = c.visit_with.new.other } in
    let at = returns-clause-reconciles g c in
    set_seated old (record { kernel = c.visit_with.new.self; board = old.board; watch = old.watch; feeders = with_item old.feeders c.args.pid met }) c.requires.seated (refl, refl) c.visit_with.ensures.names
    (same_many old.kernel c.visit_with.new.self c.visit_with.ensures.same) c.args.pid c.index_mut.result.now met at.is at.reconciles.rings refl
