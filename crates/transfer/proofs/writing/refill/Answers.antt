use Rattle.std.proofs.Common.{◌∙◌, Some, refl, arith}
use Rattle.std.proofs.lemmas.Result.{IfErr-weaker, IfOk-weaker, on_ok_weaker}
use Rattle.calls.specs.Stopped.{Empties}
use Rattle.calls.specs.Calls.{image_on}
use Rattle.transfer.specs.Stopped.{StaysPlace}
use Rattle.transfer.specs.PutWriting.{AreAnswered}
use Rattle.transfer.proofs.CallLemmas.{Begins, answered_both, answered_none, answered_then, cut_behind, leads_answered, leads_none, puts_behind}
use Rattle.transfer.proofs.PlaceLemmas.{emptied_put, put_loses_none}
use Rattle.transfer.proofs.StopLemmas.{led_behind, led_by_emptying, stays_behind, stays_first, stays_then}
use Rattle.transfer.proofs.writing.refill.Given.{Over}
use Rattle.transfer.proofs.writing.refill.Goals.{After-append_all, After-empty}
use Rattle.transfer.proofs.writing.refill.Goals as goal
use Rattle.model.specs.Lemmas.FileNumbers.{below_there}

-- the file was emptied
emptied : (g : Over) (c : After-empty g) → StaysPlace g.D.Disk (image_on g.D.Disk.image c.args.kernel.now) (Some c.args.number) c.args.bytes.now c.args.kernel.now c.empty.new.kernel
emptied g c =
    stays_first g.D.Disk _ (Some c.args.number) c.args.bytes.now (Empties c.args.number) _ _ c.empty.ensures.leaves c.empty.ensures.stays c.empty.ensures.reached (leads_none _) (λ new. led_by_emptying _ _ _ new c.requires.there)

-- and then bytes were put into it
module _ (g : Over) (c : After-append_all g) where
  begins : Begins g.D.Disk (Some c.args.number) c.args.kernel.now c.empty.new.kernel c.args.number
  begins = record {
    below = below_there _ _ c.requires.there;
    place = (refl, c.requires.there);
    files = c.in_ok-empty.ensures.empties ∙ emptied_put _ _ c.requires.there;
  }

  answered : AreAnswered g.D.Disk c.args.kernel.now c.empty.new.kernel
  answered = answered_then g.D.Disk _ _ _ (answered_none g.D.Disk _ c.requires.ready) c.in_ok-empty.ensures.committed c.in_ok-empty.ensures.stays.opening (put_loses_none _ c.args.number _ _ begins.files)

pub returns-clause-puts : goal.returns-clause-puts
returns-clause-puts g c =
    IfOk-weaker c.append_all.result _ _ (puts_behind g.D.Disk (begins g (goal.at.returns-clause-puts g c).After-append_all) c.args.bytes.now _) c.append_all.ensures.puts

pub returns-clause-answered : goal.returns-clause-answered
returns-clause-answered g c =
    on_ok_weaker c.append_all.result (answered_both g.D.Disk _ _ _ (answered g (goal.at.returns-clause-answered g c).After-append_all)) c.append_all.ensures.answered

pub returns-clause-few : goal.returns-clause-few
returns-clause-few g c =
    let one = c.in_ok-empty.ensures.committed.few_more in
    on_ok_weaker c.append_all.result (λ few. omega (arith, few, one, c.requires.ready.few)) c.append_all.ensures.few

pub returns-clause-refused : goal.returns-clause-refused
returns-clause-refused g c =
    let at = (goal.at.returns-clause-refused g c).After-append_all in
    IfErr-weaker c.append_all.result _ _ (λ cause. cut_behind g.D.Disk (begins g at) c.args.bytes.now _ cause c.requires.ready.rests (answered g at)) c.append_all.ensures.refused

pub returns-in_err-empty-clause-stays : goal.returns-in_err-empty-clause-stays
returns-in_err-empty-clause-stays g c = emptied g (goal.at.returns-in_err-empty-clause-stays g c).After-empty

pub returns-clause-stays : goal.returns-clause-stays
returns-clause-stays g c =
    let at = goal.at.returns-clause-stays g c in
    let begins = begins g at.After-append_all in
    stays_then g.D.Disk _ (Some c.args.number) _ _ c.empty.new.kernel _ (emptied g at.After-empty)
    (stays_behind g.D.Disk _ (Some c.args.number) _ _ _ c.args.number (leads_answered g.D.Disk _ _ (answered g at.After-append_all)) (λ new. led_behind _ (Some c.args.number) c.args.bytes.now _ begins.place begins.below _ new begins.files) c.append_all.ensures.stays)
