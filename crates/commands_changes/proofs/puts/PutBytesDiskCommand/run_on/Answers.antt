use Rattle.std.proofs.Common.{◌≡◌, rules, subst}
use Rattle.std.specs.Prelude.{IfErr, OnOk}
use Rattle.commands_changes.specs.PutsOver.{IsUnputOver, PutsOver}
use Rattle.commands_changes.proofs.Putting.{put_over, unput_over}
use Rattle.commands_changes.proofs.puts.PutBytesDiskCommand.run_on.Goals as goal

pub returns-clause-done : goal.returns-clause-done
returns-clause-done g c =
    let contents = g.O.Write.contents in
    let put = c.args.self in
    let run = c.put_disk in
    let same : c.as_slice.result.now ≡ put.bytes.items = search rules in
    subst (λ bytes. OnOk run.result.0 (PutsOver g.D.Disk put.inum bytes put.last c.args.disk run.result.1 (contents c.args.out.now) (contents run.new.out))) same
    (put_over g.D.Disk put.inum c.as_slice.result.now put.last c.args.disk run.result.1 run.ensures.leaves run.result.0 (contents c.args.out.now) (contents run.new.out) run.ensures.put)

pub returns-clause-refused : goal.returns-clause-refused
returns-clause-refused g c =
    let put = c.args.self in
    let run = c.put_disk in
    let none = run.new.out ≡ c.args.out.now in
    let same : c.as_slice.result.now ≡ put.bytes.items = search rules in
    subst (λ bytes. IfErr run.result.0 (IsUnputOver g.D.Disk put.inum bytes put.last none c.args.disk run.result.1)) same
    (unput_over g.D.Disk put.inum c.as_slice.result.now put.last c.args.disk run.result.1 run.ensures.leaves run.result.0 none run.ensures.refused)
