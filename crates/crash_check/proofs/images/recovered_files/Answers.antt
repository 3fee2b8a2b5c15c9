use Rattle.std.proofs.Common.{◌≡◌, ◌∙◌, ap, rules, subst, sym}
use Rattle.std.specs.Prelude.{IfSome, Some}
use Rattle.blocks.specs.contracts.memory.MemDiskDisk.TheImpl.{ghosts}
use Rattle.model.specs.Files.{files_of}
use Rattle.model.specs.Log.{recovered}
use Rattle.model.specs.Verdict.{verdict}
use Rattle.crash_check.specs.Images.{IsRecoveredTo}
use Rattle.crash_check.proofs.Recovered.{no_fault, not_memory, once}
use Rattle.crash_check.proofs.images.recovered_files.Goals as goal

pub returns-in-Ok-clause-some : goal.returns-in-Ok-clause-some
returns-in-Ok-clause-some c =
    let x = ghosts.image c.args.disk.now in
    let y = ghosts.image c.recover_twice.new.disk in
    let whole = subst (λ logged. IfSome logged (λ n. IsRecoveredTo x n y)) c.in-Some.is c.in_ok-logged.ensures.some in
    let found : c.in-Ok.files.items ≡ files_of (recovered y) = search rules in
    let same : ghosts.image c.blocks_of.new.disk ≡ y = c.blocks_of.ensures.same in
    record {
      recovered_to = record { sound = whole.sound; logged = whole.logged; image = same ∙ whole.image };
      files = found ∙ ap (λ z. files_of (recovered z)) whole.image ∙ ap files_of (once x whole.sound ∙ sym whole.image ∙ sym same);
    }

pub returns-clause-none : goal.returns-clause-none
returns-clause-none c =
    let x = ghosts.image c.args.disk.now in
    let y = ghosts.image c.recover_twice.new.disk in
    let whole = subst (λ logged. IfSome logged (λ n. IsRecoveredTo x n y)) c.in-Some.is c.in_ok-logged.ensures.some in
    let other = not_memory c.in-Err.fault (sym c.is_want_of_memory.ensures ∙ c.if-is_want_of_memory.false) in
    let read : c.as_slice.result.now ≡ y = search rules in
    let fault : verdict y ≡ Some c.in-Err.fault = ap verdict (sym read) ∙ c.in-Err.ensures.fault other in
    no_fault x y c.in-Err.fault whole.image fault
