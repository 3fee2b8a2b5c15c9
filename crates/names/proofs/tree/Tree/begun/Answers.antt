use Rattle.std.proofs.Common.{refl}
use Rattle.names.proofs.Going.{begin_broken, begin_goes}
use Rattle.names.proofs.tree.Tree.begun.Goals as goal

pub returns-in-Ok-clause-begins : goal.returns-in-Ok-clause-begins
returns-in-Ok-clause-begins g c =
    begin_goes g.D.Disk c.args.self.now.kernel c.begin.new.kernel c.args.self.now.calls_left c.requires.idle.few c.requires.idle.many c.in-Ok.ensures.inside c.begin.ensures.opening
    c.in-Ok.ensures.begins c.begin.ensures.reached

pub returns-in-Err-clause-ends : goal.returns-in-Err-clause-ends
returns-in-Err-clause-ends g c =
    record { none = refl; broken = begin_broken g.D.Disk c.args.self.now.kernel c.begin.new.kernel c.in-Err.fault c.in-Err.ensures.refused }
