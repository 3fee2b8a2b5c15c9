use Rattle.std.proofs.Common.{refl, sym, subst}
use Rattle.inodes.specs.Common.{HasPlaceFor, LockAt, LockState, Progress, Refers}
use Rattle.inodes.proofs.ilock.Ilock.refer.Goals as goal

pub refer-place-requires : goal.refer-place-requires
refer-place-requires c = subst (λ (o : LockState). HasPlaceFor c.args.table.now o.number) (sym c.self.view_is) c.requires

pub returns : goal.returns
returns c = subst (λ (o : LockState). Refers c.args.table.now o Progress.Moved c.refer-place.new.self (record { number = c.self.inside.number; at = LockAt.Lock c.refer-place.result })) c.self.view_is (c.refer-place.result, sym c.refer-place.ensures.place, refl, c.refer-place.ensures.table, refl)
