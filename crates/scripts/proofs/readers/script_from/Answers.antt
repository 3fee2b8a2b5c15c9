use Rattle.std.proofs.Common.{◌≡◌, take, refl, rules, subst, sym}
use Rattle.std.specs.Prelude.{IfSome}
use Rattle.scripts.proofs.Reading.{script_read, script_refused}
use Rattle.scripts.proofs.readers.script_from.Goals as goal

pub returns-clause-tasks : goal.returns-clause-tasks
returns-clause-tasks g c =
    let left = g.I.Read.remaining c.args.input in
    let read : IfSome left (λ all. c.in_ok-text.text.items ≡ take 4194305 all) = search rules in
    script_read (λ tasks. tasks.items) c.read_script.result left c.as_slice.result.now 4194305 refl
    (subst (λ text. IfSome left (λ all. text ≡ take 4194305 all)) (sym c.as_slice.ensures.value) read) c.read_script.ensures.tasks c.read_script.ensures.sound

pub returns-clause-fault : goal.returns-clause-fault
returns-clause-fault g c =
    let left = g.I.Read.remaining c.args.input in
    let read : IfSome left (λ all. c.in_ok-text.text.items ≡ take 4194305 all) = search rules in
    script_refused c.read_script.result left c.as_slice.result.now 4194305 refl (subst (λ text. IfSome left (λ all. text ≡ take 4194305 all)) (sym c.as_slice.ensures.value) read)
    c.read_script.ensures.fault
