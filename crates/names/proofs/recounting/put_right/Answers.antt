use Rattle.std.proofs.Common.{sym}
use Rattle.names.proofs.Recounts.{recounted_all, stops_set}
use Rattle.names.proofs.recounting.put_right.Goals as goal

pub returns-in-Ok-clause-done : goal.returns-in-Ok-clause-done
returns-in-Ok-clause-done g c = λ d opened tree.
    recounted_all g.D.Disk d c.args.kernel c.set_all-set.new.kernel opened c.args.wrong.now c.in-Ok.count tree c.requires.wrong c.in-Ok.ensures.many c.requires.some c.in-Ok.ensures.set c.set_all-set.ensures.leaves c.abandon-disk.result c.abandon-disk.ensures.disk
    c.abandon-disk.ensures.opens

pub returns-in-Ok-clause-stops : goal.returns-in-Ok-clause-stops
returns-in-Ok-clause-stops g c = λ d opened. stops_set g.D.Disk d c.args.kernel c.set_all-set.new.kernel opened c.set_all-set.ensures.leaves c.abandon-disk.result c.abandon-disk.ensures.disk

pub returns-in-Err-clause-stops : goal.returns-in-Err-clause-stops
returns-in-Err-clause-stops g c = λ d opened. stops_set g.D.Disk d c.args.kernel c.set_all-set.new.kernel opened c.set_all-set.ensures.leaves c.abandon-disk.result c.abandon-disk.ensures.disk

pub returns-in-Err-clause-refused : goal.returns-in-Err-clause-refused
returns-in-Err-clause-refused g c = λ d opened. record { first = c.args.kernel; opened = opened; last = c.set_all-set.new.kernel; fails = c.in-Err.ensures.failed; device = sym c.abandon-disk.ensures.disk }
