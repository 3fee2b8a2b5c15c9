use Rattle.std.proofs.Common.{append_assoc}
use Rattle.std.proofs.KnownBytes.{Appends-trans}
use Rattle.std.proofs.lemmas.Result.{on_ok_weaker}
use Rattle.messages.proofs.answers.print_answer.Goals as goal

pub returns : goal.returns
returns g c = record {
  ok = on_ok_weaker c.write_bytes.result
      (λ end. let all = Appends-trans _ _ _ _ _ c.in_ok-print_process.ensures.ok (Appends-trans _ _ _ _ _ c.in_ok-print_places.ensures.ok (Appends-trans _ _ _ _ _ c.in_ok-print_reply.ensures.ok end)) in simp append_assoc (simp append_assoc at all))
      c.write_bytes.ensures.ok;
}
