use Rattle.std.proofs.Common.{◌≡◌, take, refl, rules, subst, sym}
use Rattle.std.specs.Prelude.{IfSome}
use Rattle.scripts.proofs.Reading.{schedule_read, schedule_refused}
use Rattle.scripts.proofs.readers.schedule_from.Goals as goal

pub returns-clause-words : goal.returns-clause-words
returns-clause-words g c =
    let left = g.I.Read.remaining c.args.input in
    let read : IfSome left (λ all. c.in_ok-text.text.items ≡ take 1048577 all) = search rules in
    schedule_read (λ words. words.items) c.args.processes c.read_schedule.result left c.as_slice.result.now 1048577 refl
    (subst (λ text. IfSome left (λ all. text ≡ take 1048577 all)) (sym c.as_slice.ensures.value) read) c.read_schedule.ensures.words c.read_schedule.ensures.sound

pub returns-clause-fault : goal.returns-clause-fault
returns-clause-fault g c =
    let left = g.I.Read.remaining c.args.input in
    let read : IfSome left (λ all. c.in_ok-text.text.items ≡ take 1048577 all) = search rules in
    schedule_refused c.args.processes c.read_schedule.result left c.as_slice.result.now 1048577 refl (subst (λ text. IfSome left (λ all. text ≡ take 1048577 all)) (sym c.as_slice.ensures.value) read)
    c.read_schedule.ensures.fault
