use Rattle.std.proofs.Common.{◌∙◌, ap}
use Rattle.std.specs.Prelude.{flat_map}
use Rattle.messages.proofs.Digits.{pairs_joined}
use Rattle.messages.proofs.hex_digits.digits_of.Goals as goal

pub returns : goal.returns
returns c = c.as_flattened.ensures.value ∙ ap (flat_map (λ pair. pair)) c.write_pairs.ensures ∙ pairs_joined c.args.bytes.now
