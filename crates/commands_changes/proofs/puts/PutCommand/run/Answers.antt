use Rattle.std.proofs.Common.{◌≡◌, Bool, inl, inr, subst}
use Rattle.cmd.specs.Lemmas.Disks.{file_disk}
use Rattle.cmd.specs.Opened.{OpensDisk}
use Rattle.cmd.specs.Over.{IsRefusedOn}
use Rattle.commands_changes.specs.PutsAnew.{HasPutIfSo}
use Rattle.commands_changes.specs.PutsOver.{IsUnputOver, PutsOver}
use Rattle.commands_changes.proofs.puts.PutCommand.run.Goals as goal

pub returns-in-Ok-clause-done : goal.returns-in-Ok-clause-done
returns-in-Ok-clause-done g c =
    let put = c.args.self in
    let contents = g.O.Write.contents in
    let out = c.args.out.now in
    let remaining = g.R.File.Read.remaining in
    let same = subst (λ (whole : Bool). HasPutIfSo remaining put.inum c.as_slice.result.now (contents out) (contents c.put_whole.new.out) (c.put_whole.new.out ≡ out) whole) c.in-Ok-false.field-0-test c.in-Ok-false.ensures.put in
    record {
      bytes = c.in_ok-bytes.bytes.items;
      put = inl (subst (λ o. OpensDisk remaining file_disk put.sync (λ d e. PutsOver file_disk put.inum c.in_ok-bytes.bytes.items put.last d e (contents o) (contents c.run.new.out))) same c.in-Ok.ensures.done);
    }

pub returns-in-Ok-false-clause-refused : goal.returns-in-Ok-false-clause-refused
returns-in-Ok-false-clause-refused g c =
    let put = c.args.self in
    let contents = g.O.Write.contents in
    let out = c.args.out.now in
    let remaining = g.R.File.Read.remaining in
    let same = subst (λ (whole : Bool). HasPutIfSo remaining put.inum c.as_slice.result.now (contents out) (contents c.put_whole.new.out) (c.put_whole.new.out ≡ out) whole) c.in-Ok-false.field-0-test c.in-Ok-false.ensures.put in
    record {
      bytes = c.in_ok-bytes.bytes.items;
      refused = inl (subst (λ o. IsRefusedOn remaining put.sync (c.run.new.out ≡ o) (λ d e. IsUnputOver file_disk put.inum c.in_ok-bytes.bytes.items put.last (c.run.new.out ≡ o) d e) c.in-Err-run.refusal) same c.in-Err-run.ensures.refused);
    }

pub returns-clause-refused : goal.returns-clause-refused
returns-clause-refused g c = record {
  bytes = c.as_slice.result.now;
  refused = inr (c.in-Err.ensures.only, c.in-Err.ensures.refused);
}
