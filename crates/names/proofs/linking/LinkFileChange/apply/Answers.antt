use Rattle.std.proofs.Common.{◌≡◌, ◌∙◌, ◌-◌, ◌+◌, ℕ, List, [], length, take, get_or, Ok, Err, refl, sym, subst, inl, inr, rules, arith}
use Rattle.std.proofs.lemmas.Grind.{common_steps}
use Rattle.model.specs.Files.{Files}
use Rattle.names.specs.Inside.{files_seen}
use Rattle.directories.specs.Walks.{walked}
use Rattle.names.proofs.Going.{goes_on, proceeds_on, stays_on}
use Rattle.names.proofs.Blocked.{answers_err, answers_on, led_no}
use Rattle.names.proofs.Leading.{split_last, unled_by}
use Rattle.names.proofs.NewNames.{linked_at}
use Rattle.directories.specs.Lemmas.PathLaws.{walk_told}
use Rattle.names.proofs.linking.LinkFileChange.apply.Goals as goal

pub returns-in-Err-clause-made : goal.returns-in-Err-clause-made
returns-in-Err-clause-made g c = (c.in_ok-number.ensures.same, inl (sym c.in_ok-number.ensures.led ∙ c.in-Err.is))

pub returns-in-Err-2-clause-made : goal.returns-in-Err-2-clause-made
returns-in-Err-2-clause-made g c =
    let into : List (List ℕ) = c.args.self.now.into.now in
    let any : (length into - 1) + 1 ≡ length into = first_of (search rules, grind (arith, common_steps)) in (
      c.in_ok-to.ensures.same ∙ c.in_ok-number.ensures.same,
      inr (inl (unled_by into (take (length into - 1) into) (get_or into (length into - 1) []) (files_seen g.D.Disk.image c.args.tree.now.kernel) c.in-Err-2.refusal
          (split_last into (length into - 1) [] any)
          (subst (λ (f : Files). walked f 1 (take (length into - 1) into) ≡ Err c.in-Err-2.refusal) c.in_ok-number.ensures.same
          (sym c.in_ok-to.ensures.led ∙ c.in-Err-2.is)))),
    )

pub linked-requires-clause-there : goal.linked-requires-clause-there
linked-requires-clause-there g c =
    walk_told (files_seen g.D.Disk.image c.args.tree.now.kernel) (files_seen g.D.Disk.image c.walk-2.new.self.kernel) c.args.names.now c.in_ok-number.field-0
    c.in-Ok.number c.requires.tree (c.in_ok-to.ensures.same ∙ c.in_ok-number.ensures.same) c.in_ok-number.ensures.led c.in-Ok.is

pub returns-clause-made : goal.returns-clause-made
returns-clause-made g c =
    let into : List (List ℕ) = c.args.self.now.into.now in
    let any : (length into - 1) + 1 ≡ length into = first_of (search rules, grind (arith, common_steps)) in
    let led_to : walked (files_seen g.D.Disk.image c.args.tree.now.kernel) 1 (take (length into - 1) into) ≡ Ok c.in-Ok-2.to =
    subst (λ (f : Files). walked f 1 (take (length into - 1) into) ≡ Ok c.in-Ok-2.to) c.in_ok-number.ensures.same (sym c.in_ok-to.ensures.led ∙ c.in-Ok-2.is) in
    linked_at c.args.names.now into (take (length into - 1) into) (get_or into (length into - 1) c.index-self-end.result) c.in-Ok.number c.in-Ok-2.to
    (files_seen g.D.Disk.image c.args.tree.now.kernel) (files_seen g.D.Disk.image c.walk-2.new.self.kernel) (files_seen g.D.Disk.image c.linked.new.self.kernel)
    (sym c.in_ok-number.ensures.led ∙ c.in-Ok.is) (split_last into (length into - 1) c.index-self-end.result any) led_to
    (c.in_ok-to.ensures.same ∙ c.in_ok-number.ensures.same) c.linked.result c.linked.ensures.linked

pub returns-in-Err-clause-no_block : goal.returns-in-Err-clause-no_block
returns-in-Err-clause-no_block g c = λ tells.
    answers_err g.D.Disk c.args.tree.now.kernel c.walk.new.self.kernel c.in-Err.refusal
    (led_no (files_seen g.D.Disk.image c.args.tree.now.kernel) c.args.names.now c.in-Err.refusal (sym c.in_ok-number.ensures.led ∙ c.in-Err.is))

pub returns-in-Err-2-clause-no_block : goal.returns-in-Err-2-clause-no_block
returns-in-Err-2-clause-no_block g c = λ tells.
    answers_err g.D.Disk c.args.tree.now.kernel c.walk-2.new.self.kernel c.in-Err-2.refusal
    (led_no (files_seen g.D.Disk.image c.walk.new.self.kernel) (take (length c.args.self.now.into.now - 1) c.args.self.now.into.now) c.in-Err-2.refusal (sym c.in_ok-to.ensures.led ∙ c.in-Err-2.is))

pub returns-clause-no_block : goal.returns-clause-no_block
returns-clause-no_block g c = λ tells.
    answers_on g.D.Disk c.args.tree.now.kernel c.walk-2.new.self.kernel c.linked.new.self.kernel c.walk-2.new.self.calls_left c.linked.result
    (goes_on g.D.Disk c.args.tree.now.kernel c.walk.new.self.kernel c.walk-2.new.self.kernel c.walk.new.self.calls_left c.walk-2.new.self.calls_left c.in_ok-number.ensures.goes.on c.in_ok-to.ensures.goes.on)
    c.linked.ensures.no_block

pub returns-clause-goes : goal.returns-clause-goes
returns-clause-goes g c =
    let k = c.args.tree.now.kernel in
    let a = c.walk.new.self.kernel in
    let b = c.walk-2.new.self.kernel in
    proceeds_on g.D.Disk k b c.linked.new.self.kernel c.linked.result c.args.tree.now.calls_left c.walk-2.new.self.calls_left c.linked.new.self.calls_left c.requires.way
    (goes_on g.D.Disk k a b c.walk.new.self.calls_left c.walk-2.new.self.calls_left c.in_ok-number.ensures.goes.on c.in_ok-to.ensures.goes.on)
    (stays_on g.D.Disk k a b c.walk.new.self.calls_left c.in_ok-number.ensures.goes.on c.walk.ensures.goes.stays c.walk-2.ensures.goes.stays)
    c.linked.ensures.goes
