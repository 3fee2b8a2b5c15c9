use Rattle.std.proofs.lemmas.Result.{on_ok_weaker}
use Rattle.mounting.proofs.listings.add.Goals as goal

pub returns-in-Ok-clause-tells : goal.returns-in-Ok-clause-tells
returns-in-Ok-clause-tells g c = on_ok_weaker c.add_name.result (λ name. (c.in-Ok.kind, (c.add_told.new.out.items, (c.in-Ok.ensures.tells, name)))) c.add_name.ensures.tells
