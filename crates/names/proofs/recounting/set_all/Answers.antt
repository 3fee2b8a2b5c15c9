use Rattle.std.proofs.Common.{◌≡◌, ℕ, Result, Err, IfErr, drop, refl, sym, subst, rules, arith}
use Rattle.std.proofs.lemmas.List.{drop_all}
use Rattle.calls.specs.Calls.{image_on}
use Rattle.model.specs.Files.{files_of}
use Rattle.calls.specs.declared.transactions.fault.TransactionFault.{TransactionFault}
use Rattle.names.specs.Recounting.{FailsToSet}
use Rattle.names.proofs.Recounts.{agree_none, agree_on, keeps_more, keeps_rested, none_left, one_less, set_agree, there_still}
use Rattle.names.proofs.recounting.set_all.Goals as goal

pub loop-counted-init : goal.loop-counted-init
loop-counted-init g c = record {
  rests = c.requires.rests;
  few = omega arith;
  sound = c.requires.sound;
  agree = agree_none _ _ refl;
  left = c.requires.wrong.rest;
  leaves = keeps_rested g.D.Disk c.args.kernel.now c.rested.ensures;
  count = refl;
}

pub loop-counted-preserved : goal.loop-counted-preserved
loop-counted-preserved g c =
    let k = c.args.kernel.now in
    let m = c.loop-counted.kernel in
    let e = c.set_links.new.kernel in
    let first = files_of (image_on g.D.Disk.image k) in
    let mid = files_of (image_on g.D.Disk.image m) in
    let new = files_of (image_on g.D.Disk.image e) in
    let so_far = c.loop-counted.invariant in
    let at = c.loop-counted.counted-index in
    let low = c.loop-counted-test.true in
    let set = c.in_ok-set_links.ensures.relinks in
    let there = there_still first mid so_far.agree _ (c.requires.wrong.each at _ low).there in
    record {
      rests = c.in_ok-set_links.ensures.committed.rests;
      few = omega (arith, so_far.few, c.in_ok-set_links.ensures.committed.few_more);
      sound = c.in_ok-set_links.ensures.committed.whole.sound;
      agree = agree_on first mid new so_far.agree (set_agree mid new _ _ there set);
      left = one_less mid new c.args.wrong.now at _ low first so_far.agree (c.requires.wrong.each at _ low) set so_far.left;
      leaves = keeps_more g.D.Disk k m e _ _ there so_far.agree so_far.leaves c.set_links.ensures.leaves;
      count = omega (arith, so_far.count);
    }

pub returns-in_err-set_links-clause-failed : goal.returns-in_err-set_links-clause-failed
returns-in_err-set_links-clause-failed g c =
    let is : c.from_residual.result ≡ Err c.in_err-set_links.field-0.0 = search rules in
    subst (λ (r : Result ℕ TransactionFault). IfErr r (FailsToSet g.D.Disk c.args.kernel.now c.set_links.new.kernel)) (sym is)
    (record { mid = c.loop-counted.kernel; files = c.loop-counted.invariant.agree; why = c.in_err-set_links.ensures.refused })

pub returns-in_err-set_links-clause-leaves : goal.returns-in_err-set_links-clause-leaves
returns-in_err-set_links-clause-leaves g c =
    let first = files_of (image_on g.D.Disk.image c.args.kernel.now) in
    let so_far = c.loop-counted.invariant in
    let there = there_still first (files_of (image_on g.D.Disk.image c.loop-counted.kernel)) so_far.agree _ (c.requires.wrong.each c.loop-counted.counted-index _ c.loop-counted-test.true).there in
    keeps_more g.D.Disk c.args.kernel.now c.loop-counted.kernel c.set_links.new.kernel _ _ there so_far.agree so_far.leaves c.set_links.ensures.leaves

pub returns-clause-set : goal.returns-clause-set
returns-clause-set g c =
    let so_far = c.loop-counted.invariant in
    record {
      sound = so_far.sound;
      files = so_far.agree;
      counted = none_left (files_of (image_on g.D.Disk.image c.loop-counted.kernel)) (drop c.loop-counted.counted-index c.args.wrong.now) (drop_all c.loop-counted.counted-index c.args.wrong.now (omega (arith, c.loop-counted-test.false))) so_far.left;
    }
