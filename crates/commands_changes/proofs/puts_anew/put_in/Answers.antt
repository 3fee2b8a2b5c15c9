use Rattle.std.proofs.Common.{◌≡◌, false, subst}
use Rattle.std.specs.Prelude.{IfErr, Result}
use Rattle.transfer.specs.Putting.{IsUnput}
use Rattle.transfer.specs.declared.refused.PutRefusal.{PutRefusal}
use Rattle.commands.specs.Copied.{memory}
use Rattle.commands_changes.proofs.Putting.{unput_anyhow}
use Rattle.commands_changes.proofs.puts_anew.put_in.Goals as goal

pub returns-in-Err-default-clause-refused : goal.returns-in-Err-default-clause-refused
returns-in-Err-default-clause-refused c =
    let run = c.put_disk in
    let none = run.new.out ≡ c.new-text.result in
    let refused = subst (λ (r : Result (Unit {0}) PutRefusal). IfErr r (IsUnput memory c.args.inum c.args.bytes.now false c.args.image run.result.1 none)) c.in-Err-default.is-0 run.ensures.refused in
    record {
      now = run.result.1;
      why = record { why = unput_anyhow memory c.args.inum c.args.bytes.now false c.args.image run.result.1 none c.in-Err-default.refusal refused; stops = run.ensures.leaves };
    }
