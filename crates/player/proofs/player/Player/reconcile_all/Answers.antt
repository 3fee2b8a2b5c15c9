use Rattle.std.proofs.Common.{arith, below_more}
use Rattle.player.specs.Disks.{faulty}
use Rattle.player.proofs.Owning.{reconciles_ops, own_still}
use Rattle.player.proofs.Seats.{same_still}
use Rattle.player.proofs.player.Player.reconcile_all.Goals as goal

pub overflow_cast-pid-end : goal.overflow_cast-pid-end
overflow_cast-pid-end g c = let few = c.known.ensures.few in let is = c.processes-pid-end.ensures in omega (arith, few, is)

pub loop-pid-preserved : goal.loop-pid-preserved
loop-pid-preserved g c =
    let inv = c.loop-pid.invariant in
    let was = c.loop-pid.self in
    let met = c.reconcile.ensures in
    record {
      seated = met.seated;
      same = same_still c.args.self.now.kernel was.kernel c.reconcile.new.self.kernel inv.same met.same;
      ops = λ ops have. reconciles_ops c.loop-pid.pid was.kernel.intake c.reconcile.new.self.kernel.intake was.feeders.items c.reconcile.new.self.feeders.items met.reconciles ops (inv.ops ops have);
      own = λ ops have. below_more _ _ (inv.own ops have) (own_still (faulty g.D.Disk) c.loop-pid.pid c.args.self.now.kernel was.kernel inv.same c.args.self.now.feeders.items was.feeders.items inv.ops met.own ops have);
    }

pub returns-clause-own : goal.returns-clause-own
returns-clause-own g c = λ ops have p low.
    let past = c.loop-pid-test.false in
    let is = c.processes-pid-end.ensures in
    c.loop-pid.invariant.own ops have p (omega (arith, low, past, is))
