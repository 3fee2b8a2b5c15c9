use Rattle.messages.proofs.Digits.{IsUtf8-encode_lower}
use Rattle.messages.proofs.hex_digits.digits_as_text.Goals as goal

pub unreachable-requires : goal.unreachable-requires
unreachable-requires c = c.in_default.ensures.cases.0 (rw c.digits_of.ensures (IsUtf8-encode_lower c.args.bytes.now))
