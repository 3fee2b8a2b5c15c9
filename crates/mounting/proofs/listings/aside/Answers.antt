use Rattle.std.proofs.Common.{◌∙◌, ◌/◌}
use Rattle.mounting.proofs.AsideNames.{aside_fits}
use Rattle.mounting.proofs.Asking.{aside_is}
use Rattle.mounting.proofs.listings.aside.Goals as goal

pub returns : goal.returns
returns g =
    g.in-Ok.ensures.name
    ∙ aside_is g.args.number g.digit.result g.digit-2.result g.digit-3.result g.digit-4.result g.digit-5.result g.digit-6.result g.digit-7.result
    g.digit.ensures g.digit-2.ensures g.digit-3.ensures g.digit-4.ensures g.digit-5.ensures g.digit-6.ensures g.digit-7.ensures

pub unreachable-requires : goal.unreachable-requires
unreachable-requires g =
    aside_fits (g.args.number / 1000000) (g.args.number / 100000) (g.args.number / 10000) (g.args.number / 1000) (g.args.number / 100) (g.args.number / 10) g.args.number
    g.digit.result g.digit-2.result g.digit-3.result g.digit-4.result g.digit-5.result g.digit-6.result g.digit-7.result
    g.digit.ensures g.digit-2.ensures g.digit-3.ensures g.digit-4.ensures g.digit-5.ensures g.digit-6.ensures g.digit-7.ensures g.in-Err.field-0 g.in-Err.ensures.cause
