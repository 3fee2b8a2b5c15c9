use Rattle.std.proofs.Common.{rules, refl, inr, ◌≡◌, false, Some, None, ◌∙◌, ap}
use Rattle.kernel.specs.Common.{Acts, State, Step}
use Rattle.kernel.specs.Begins.{Begins}
use Rattle.kernel.proofs.Acting.{acts_begun, sides_same}
use Rattle.kernel.proofs.stepping.Kernel.begin.Given.{Over}
use Rattle.kernel.proofs.stepping.Kernel.begin.Goals.{After-waiting}
use Rattle.kernel.proofs.stepping.Kernel.begin.Goals as goal

-- what was looked up begins, or is left
begun : (g : Over) (c : After-waiting g) (r : Step) (m : State _ _ _) → Begins g.I.Intake c.waiting.result c.args.pid r c.waiting.new.self m → Acts g.D.Disk g.I.Intake g.H.Herald c.args.pid r c.args.self.now m
begun g c r m made =
    let k = c.args.self.now in
    let quiet : c.hears_shutdown.result ≡ false = search rules in
    acts_begun g.D.Disk g.I.Intake g.H.Herald c.args.pid k c.hears_shutdown.new.self c.waiting.new.self m c.requires.fault c.requires.at r c.waiting.result
    c.hears_shutdown.ensures.store c.hears_shutdown.ensures.opening c.hears_shutdown.ensures.intake
    (c.hears_shutdown.ensures.world ∙ ap (λ b. record k.world { is_shut = b }) quiet) c.hears_shutdown.ensures.board (c.hears_shutdown.ensures.open quiet) (c.hears_shutdown.ensures.asked (c.hears_shutdown.ensures.open quiet).0) c.waiting.ensures.same c.waiting.ensures.asks c.waiting.ensures.waiting made

pub returns-in_default : goal.returns-in_default
returns-in_default g c =
    let is : c.waiting.result ≡ None = search rules in
    begun g (goal.at.returns-in_default g c).After-waiting Step.Idle c.waiting.new.self
    (rw is (record { next = inr (inr (inr (record { same = (refl, refl); ahead_stays = refl; answer = refl }))); sides = sides_same g.I.Intake c.args.pid c.waiting.new.self.intake; herald = refl; opening = refl }))

pub returns : goal.returns
returns g c =
    let is : c.waiting.result ≡ Some c.in-Some.what = search rules in
    begun g (goal.at.returns g c).After-waiting c.begin_first.result c.begin_first.new.self (rw is c.begin_first.ensures)
