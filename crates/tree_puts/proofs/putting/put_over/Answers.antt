use Rattle.std.proofs.Common.{◌<◌, ◌∙◌, ℕ, [], arith, false, refl, subst}
use Rattle.cmd.specs.Lemmas.Disks.{file_disk}
use Rattle.cmd.specs.Opened.{OpensDisk}
use Rattle.model.specs.Operations.{transfer_limit}
use Rattle.tree_changes.specs.Room.{HasRoomFor}
use Rattle.tree_puts.proofs.putting.put_over.Goals as goal

-- no file was opened, and so nothing tells how many bytes were to be put
pub returns-in-Err-clause-refused : goal.returns-in-Err-clause-refused
returns-in-Err-clause-refused g c = record {
  bytes = [];
  refused = refl;
  room = λ many. absurd (omega (arith, many));
}

pub returns-in-Ok-run_over-clause-put : goal.returns-in-Ok-run_over-clause-put
returns-in-Ok-run_over-clause-put g c = record {
  put = c.in-Ok-run_over.ensures.done;
  room = subst (λ (n : ℕ). transfer_limit < n → OpensDisk g.R.File.Read.remaining file_disk false (HasRoomFor file_disk n)) (c.len.ensures ∙ c.args.put.bytes.ok.0) c.in_default.ensures.room;
}

pub returns-clause-refused : goal.returns-clause-refused
returns-clause-refused g c = record {
  bytes = c.args.put.bytes.items;
  refused = c.in-Err-run_over.ensures.refused;
  room = subst (λ (n : ℕ). transfer_limit < n → OpensDisk g.R.File.Read.remaining file_disk false (HasRoomFor file_disk n)) (c.len.ensures ∙ c.args.put.bytes.ok.0) c.in_default.ensures.room;
}
