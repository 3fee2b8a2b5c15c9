use Rattle.std.proofs.Common.{subst}
use Rattle.std.specs.Prelude.{◌≡◌, IfNone, IfSome, None}
use Rattle.blocks.specs.contracts.memory.MemDiskDisk.TheImpl.{ghosts}
use Rattle.model.specs.Verdict.{verdict}
use Rattle.opening.specs.Recoveries.{IsRecovered}
use Rattle.crash_check.proofs.Recovered.{again, twice}
use Rattle.crash_check.proofs.images.recover_twice.Goals as goal

pub returns-in-Some-2-clause-some : goal.returns-in-Some-2-clause-some
returns-in-Some-2-clause-some c =
    let one = subst (λ copied. IfSome copied (λ n. IsRecovered ghosts n c.args.disk.now c.recover.new.disk)) c.in-Some.is c.in_ok-logged.ensures.some in
    let two = subst (λ copied. IfSome copied (λ n. IsRecovered ghosts n c.recover.new.disk c.recover-2.new.disk)) c.in-Some-2.is c.in_ok-left.ensures.some in
    record {
      sound = one.sound;
      logged = one.count;
      image = (twice ghosts c.args.disk.now c.recover.new.disk c.recover-2.new.disk c.in-Some.logged c.in-Some-2.left one two).1;
    }

pub returns-in-None-clause-none : goal.returns-in-None-clause-none
returns-in-None-clause-none c =
    let one = subst (λ copied. IfSome copied (λ n. IsRecovered ghosts n c.args.disk.now c.recover.new.disk)) c.in-Some.is c.in_ok-logged.ensures.some in
    let none = subst (λ copied. IfNone copied (verdict (ghosts.image c.recover.new.disk) ≡ None → ⊥)) c.in-None.is c.in_ok-left.ensures.none in
    λ sound. none (again ghosts c.args.disk.now c.recover.new.disk c.in-Some.logged one)
