use Rattle.std.proofs.Common.{◌≡◌, ◌∙◌, ◌-◌, ◌+◌, ℕ, List, [], ◌∷◌, ◌++◌, length, take, get_or, Ok, Err, refl, sym, ap, rules, arith}
use Rattle.std.proofs.lemmas.Grind.{common_steps}
use Rattle.names.specs.Inside.{files_seen}
use Rattle.directories.specs.Walks.{walked}
use Rattle.names.proofs.Blocked.{answers_err, answers_on, led_no}
use Rattle.names.proofs.Leading.{happens_at, split_last, unled_at}
use Rattle.names.proofs.Going.{proceeds_or}
use Rattle.names.proofs.changing.LastChange.apply.Goals as goal

pub returns-in-Ok-clause-made : goal.returns-in-Ok-clause-made
returns-in-Ok-clause-made g c =
    let names : List (List ℕ) = c.args.names.now in
    let last : ℕ = length names - 1 in
    let some : (length names - 1) + 1 ≡ length names = first_of (search rules, grind (arith, common_steps)) in
    let led : walked (files_seen g.D.Disk.image c.args.tree.now.kernel) 1 (take last names) ≡ Ok c.in-Ok.from = sym c.in_ok-from.ensures.led ∙ c.in-Ok.is in
    happens_at (g.C.ChangeIn.makes c.args.self.now.change) (g.C.ChangeIn.refuses c.args.self.now.change) names (take last names) c.index-names-last.result c.in-Ok.from (files_seen g.D.Disk.image c.args.tree.now.kernel)
    (files_seen g.D.Disk.image c.walk.new.self.kernel) (files_seen g.D.Disk.image c.apply_in.new.tree.kernel)
    (split_last names last c.index-names-last.result some
    ∙ ap (λ (n : List ℕ). take last names ++ n ∷ []) (sym c.index-names-last.is)) led
    c.in_ok-from.ensures.same c.apply_in.result c.apply_in.ensures.made

pub returns-in-Err-clause-made : goal.returns-in-Err-clause-made
returns-in-Err-clause-made g c =
    let names : List (List ℕ) = c.args.names.now in
    let last : ℕ = length names - 1 in
    let some : (length names - 1) + 1 ≡ length names = first_of (search rules, grind (arith, common_steps)) in
    let led : walked (files_seen g.D.Disk.image c.args.tree.now.kernel) 1 (take last names) ≡ Err c.in-Err.refusal = sym c.in_ok-from.ensures.led ∙ c.in-Err.is in (
      c.in_ok-from.ensures.same,
      unled_at (g.C.ChangeIn.refuses c.args.self.now.change) names (take last names) (get_or names last []) (files_seen g.D.Disk.image c.args.tree.now.kernel) c.in-Err.refusal
          (split_last names last [] some) led,
    )

pub returns-in-Ok-clause-no_block : goal.returns-in-Ok-clause-no_block
returns-in-Ok-clause-no_block g c = λ tells.
    answers_on g.D.Disk c.args.tree.now.kernel c.walk.new.self.kernel c.apply_in.new.tree.kernel c.walk.new.self.calls_left c.apply_in.result c.in_ok-from.ensures.goes.on
    (c.apply_in.ensures.no_block tells)

pub returns-in-Err-clause-no_block : goal.returns-in-Err-clause-no_block
returns-in-Err-clause-no_block g c = λ tells.
    answers_err g.D.Disk c.args.tree.now.kernel c.walk.new.self.kernel c.in-Err.refusal
    (led_no (files_seen g.D.Disk.image c.args.tree.now.kernel) (take (length c.args.names.now - 1) c.args.names.now) c.in-Err.refusal (sym c.in_ok-from.ensures.led ∙ c.in-Err.is))

pub returns-in-Ok-clause-goes : goal.returns-in-Ok-clause-goes
returns-in-Ok-clause-goes g c =
    proceeds_or g.D.Disk (g.C.ChangeIn.hinders c.args.self.now.change) c.args.tree.now.kernel c.walk.new.self.kernel c.apply_in.new.tree.kernel c.apply_in.result c.args.tree.now.calls_left c.walk.new.self.calls_left
    c.apply_in.new.tree.calls_left c.requires.way c.in_ok-from.ensures.goes.on c.walk.ensures.goes.stays c.apply_in.ensures.goes
