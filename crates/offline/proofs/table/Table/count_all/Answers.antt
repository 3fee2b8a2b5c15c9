use Rattle.std.proofs.Common.{false, get_or}
use Rattle.offline.specs.Common.{drop_all, drop_more, Pointer}
use Rattle.offline.proofs.TableLemmas.{counting_first, counting_last, counting_next}
use Rattle.offline.proofs.table.Table.count_all.Goals as goal

pub loop-pointer-init : goal.loop-pointer-init
loop-pointer-init c = λ y places counts. counting_first c.args.self.now y places c.args.pointers.now counts

pub loop-pointer-preserved : goal.loop-pointer-preserved
loop-pointer-preserved c = λ y places counts.
    let pointers = c.args.pointers.now in
    let k = c.loop-pointer.pointer-index in
    let none : Pointer = record { address = 0; needed = false } in
    counting_next c.loop-pointer.self c.count.new.self y _ _ (get_or pointers k none) _ (c.loop-pointer.invariant y places counts)
    (drop_more pointers k none c.loop-pointer-test.true) c.count.ensures

pub returns : goal.returns
returns c = λ y places counts.
    counting_last c.loop-pointer.self y _ _ (c.loop-pointer.invariant y places counts) (drop_all c.loop-pointer.pointer-index c.args.pointers.now c.loop-pointer-test.false)
