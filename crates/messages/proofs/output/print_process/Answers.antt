use Rattle.std.proofs.Common.{subst, sym}
use Rattle.std.specs.Io.KnownBytes.{Appends}
use Rattle.std.proofs.lemmas.Fmt.{decimal_digit}
use Rattle.std.proofs.lemmas.Result.{on_ok_weaker}
use Rattle.messages.proofs.output.print_process.Goals as goal

pub returns-then-pid-lt10 : goal.returns-then-pid-lt10
returns-then-pid-lt10 g c = record {
  ok = on_ok_weaker c.write_bytes.result (subst (Appends (g.O.Write.contents c.args.out.now) (g.O.Write.contents c.write_bytes.new.out)) (sym (decimal_digit c.args.pid c.if-pid-lt10.true))) c.write_bytes.ensures.ok;
}
