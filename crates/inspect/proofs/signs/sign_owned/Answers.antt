use Rattle.std.proofs.Common.{get_or, refl, arith}
use Rattle.inspect.specs.declared.owned.Owned.{Owned}
use Rattle.inspect.proofs.SignLemmas.{signed_more}
use Rattle.inspect.proofs.signs.sign_owned.Goals as goal

pub loop-block-preserved : goal.loop-block-preserved
loop-block-preserved c =
    let owned = c.args.owned.now in
    let signs = c.loop-block.signs in
    let k = c.loop-block.block-index in
    let none : Owned = record { file = 0; block = 0; depth = 0 } in
    let top = get_or owned k none in
    let low = c.loop-block-test.true in
    let inside = c.requires.inside k none low in
    record {
      signed = rw c.owned_sign.ensures
          (signed_more owned signs k none top low refl (omega (arith, inside, c.loop-block.auto.signs)) c.requires.once c.loop-block.invariant.signed);
    }
