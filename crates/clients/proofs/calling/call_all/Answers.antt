use Rattle.std.proofs.Common.{◌<◌, ◌∙◌, ap, length, refl, Some, arith}
use Rattle.std.proofs.lemmas.Option.{slice_get_read, slice_get_within}
use Rattle.clients.proofs.Called.{called_so_far, one_called}
use Rattle.clients.proofs.calling.call_all.Goals as goal

pub loop-client-preserved : goal.loop-client-preserved
loop-client-preserved c =
    let low : c.loop-client.client-index < length c.loop-client.clients = let test = c.loop-client-test.true in let same = c.loop-client.auto.clients in omega (arith, test, same) in
    let here = slice_get_read c.loop-client.clients (length c.loop-client.clients) c.loop-client.client-index c.client-item.result refl low c.client-item.is ∙ ap Some c.client-item.is in
    record {
      same = λ names tasks processes are. one_called c.loop-client.clients c.loop-client.client-index _ c.call-moved.new.self here c.call-moved.ensures.same names tasks processes (c.loop-client.invariant.same names tasks processes are);
      first = called_so_far c.loop-client.clients c.loop-client.client-index _ c.call-moved.new.self here c.call-moved.ensures.called c.loop-client.invariant.first;
    }

pub returns-clause-called : goal.returns-clause-called
returns-clause-called c = λ p d at.
    let low = slice_get_within c.loop-client.clients p d at in
    let test = c.loop-client-test.false in
    let same = c.loop-client.auto.clients in
    c.loop-client.invariant.first p d (omega (arith, low, test, same)) at
