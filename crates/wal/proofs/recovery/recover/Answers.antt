use Rattle.std.proofs.Common.{refl, sym, subst}
use Rattle.std.specs.Prelude.{length, IsTrue}
use Rattle.wal.specs.Common.{Image}
use Rattle.model.specs.Layout.{is_lawful_super}
use Rattle.wal.proofs.RecoveryLemmas.{leaves_so, may_stop_none, may_stop_then, recovers_ok, refuses_then, rests_same}
use Rattle.wal.proofs.recovery.recover.Goals as goal

pub returns-in_err-block-clause-stops : goal.returns-in_err-block-clause-stops
returns-in_err-block-clause-stops g c = may_stop_none g.D.Disk c.args.disk.now c.args.disk.now (g.met.D.Disk.only_now c.args.disk.now) (rests_same g.D.Disk c.args.disk.now).time refl

pub returns-in_err-empty-clause-stops : goal.returns-in_err-empty-clause-stops
returns-in_err-empty-clause-stops g c = may_stop_none g.D.Disk c.args.disk.now c.args.disk.now (g.met.D.Disk.only_now c.args.disk.now) (rests_same g.D.Disk c.args.disk.now).time refl

pub returns-in_err-settle-clause-stops : goal.returns-in_err-settle-clause-stops
returns-in_err-settle-clause-stops g c = may_stop_none g.D.Disk c.args.disk.now c.settle.new.disk (g.met.D.Disk.only_now c.args.disk.now) c.settle.ensures.rests.time c.in_err-settle.ensures.unsynced

pub restore-requires-clause-fields : goal.restore-requires-clause-fields
restore-requires-clause-fields g c = subst (λ (z : Image). IsTrue (is_lawful_super c.args.sup.now (length z))) (sym c.settle.ensures.rests.image) c.requires

pub returns-clause-ok : goal.returns-clause-ok
returns-clause-ok g c = recovers_ok g.D.Disk c.args.disk.now c.settle.new.disk c.restore.new.disk c.restore.result c.settle.ensures.rests c.in_ok-settle.ensures.faults c.in_ok-settle.ensures.ok c.restore.ensures.ok

pub returns-clause-refused : goal.returns-clause-refused
returns-clause-refused g c = refuses_then g.D.Disk c.args.disk.now c.settle.new.disk c.restore.new.disk c.restore.result c.settle.ensures.rests c.in_ok-settle.ensures.faults c.restore.ensures.memory c.restore.ensures.refused

pub returns-clause-stops : goal.returns-clause-stops
returns-clause-stops g c = may_stop_then g.D.Disk c.args.disk.now c.settle.new.disk c.restore.new.disk c.settle.ensures.rests c.in_ok-settle.ensures.ok c.restore.ensures.stops c.settle.ensures.plain

pub returns-clause-synced : goal.returns-clause-synced
returns-clause-synced g c = leaves_so g.D.Disk c.args.disk.now c.settle.new.disk c.restore.new.disk c.restore.result c.settle.ensures.rests c.in_ok-settle.ensures.ok c.restore.ensures.stops
