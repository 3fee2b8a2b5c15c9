use Rattle.std.proofs.Common.{◌∙◌, None, Some}
use Rattle.scripts.proofs.FieldLemmas.{byte_of-decoded}
use Rattle.scripts.proofs.field.byte.Goals as goal

pub returns-in_err-byte : goal.returns-in_err-byte
returns-in_err-byte c =
    c.from_residual.ensures ∙ byte_of-decoded c.args.text.now c.from_hex.result None c.from_hex.ensures c.in_err-byte.ensures.value

pub returns : goal.returns
returns c =
    byte_of-decoded c.args.text.now c.from_hex.result (Some c.in_ok-byte.field-0) c.from_hex.ensures c.in_ok-byte.ensures.value
