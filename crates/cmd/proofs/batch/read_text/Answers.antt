use Rattle.std.proofs.Common.{◌≡◌, rules, take, subst}
use Rattle.std.specs.Prelude.{IfSome, option_map, string_bytes}
use Rattle.cmd.specs.declared.input.InputFault.TheVariants as fault
use Rattle.cmd.specs.declared.batch.TheConstants.{LIMIT}
use Rattle.cmd.proofs.Reading.{whole_read}
use Rattle.cmd.proofs.batch.read_text.Goals as goal

pub returns : goal.returns
returns g c =
    let items = c.read_to_end.new.buf.items in
    let taken = option_map (take c.take.result.limit) (g.I.Read.remaining c.take.result.inner) in
    let read : IfSome taken (λ xs. items ≡ xs) = search rules in
    whole_read string_bytes c.text_of.result fault.TooLarge (g.I.Read.remaining c.args.input) items LIMIT c.take.result.limit c.take.ensures.limit
    (subst (λ inner. IfSome (option_map (take c.take.result.limit) (g.I.Read.remaining inner)) (λ xs. items ≡ xs)) c.take.ensures.inner read)
    c.text_of.ensures.ok c.text_of.ensures.large
