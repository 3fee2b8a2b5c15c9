use Rattle.std.proofs.Common.{◌≡◌, ◌∙◌, ◌-◌, ◌+◌, ℕ, List, [], ◌∷◌, ◌++◌, length, take, get_or, Ok, Err, refl, sym, ap, subst, inl, inr, rules, arith}
use Rattle.std.proofs.lemmas.Grind.{common_steps}
use Rattle.model.specs.Files.{Files}
use Rattle.names.specs.Inside.{files_seen}
use Rattle.directories.specs.Walks.{walked}
use Rattle.names.specs.Renaming.{IsUnrenamed, Renames}
use Rattle.names.proofs.Blocked.{answers_err, answers_not, answers_on, led_no}
use Rattle.names.proofs.Going.{goes_on, proceeds_on, stays_on}
use Rattle.names.proofs.Leading.{split_last, unled_by}
use Rattle.names.proofs.Renamed.{renamed_at}
use Rattle.names.proofs.renaming.RenameFileChange.apply.Given.{Over}
use Rattle.names.proofs.renaming.RenameFileChange.apply.Goals.{In-Ok-2}
use Rattle.names.proofs.renaming.RenameFileChange.apply.Goals as goal

pub returns-in-Err-clause-made : goal.returns-in-Err-clause-made
returns-in-Err-clause-made g c =
    let names : List (List ℕ) = c.args.names.now in
    let some : (length names - 1) + 1 ≡ length names = first_of (search rules, grind (arith, common_steps)) in (
      c.in_ok-from.ensures.same,
      inl (unled_by names (take (length names - 1) names) (get_or names (length names - 1) []) (files_seen g.D.Disk.image c.args.tree.now.kernel) c.in-Err.refusal
          (split_last names (length names - 1) [] some) (sym c.in_ok-from.ensures.led ∙ c.in-Err.is)),
    )

pub returns-in-Err-2-clause-made : goal.returns-in-Err-2-clause-made
returns-in-Err-2-clause-made g c =
    let into : List (List ℕ) = c.args.self.now.into.now in
    let any : (length into - 1) + 1 ≡ length into = first_of (search rules, grind (arith, common_steps)) in (
      c.in_ok-to.ensures.same ∙ c.in_ok-from.ensures.same,
      inr (inl (unled_by into (take (length into - 1) into) (get_or into (length into - 1) []) (files_seen g.D.Disk.image c.args.tree.now.kernel) c.in-Err-2.refusal
          (split_last into (length into - 1) [] any)
          (subst (λ (f : Files). walked f 1 (take (length into - 1) into) ≡ Err c.in-Err-2.refusal) c.in_ok-from.ensures.same
          (sym c.in_ok-to.ensures.led ∙ c.in-Err-2.is)))),
    )

-- both walks came to directories
module _ (g : Over) (c : In-Ok-2 g) where
  abbrev names : List (List ℕ)
  names = c.args.names.now

  abbrev into : List (List ℕ)
  into = c.args.self.now.into.now

  abbrev files : Files
  files = files_seen g.D.Disk.image c.args.tree.now.kernel

  some : (length names - 1) + 1 ≡ length names
  some = first_of (search rules, grind (arith, common_steps))

  any : (length into - 1) + 1 ≡ length into
  any = first_of (search rules, grind (arith, common_steps))

  led : walked files 1 (take (length names - 1) names) ≡ Ok c.in-Ok.from
  led = sym c.in_ok-from.ensures.led ∙ c.in-Ok.is

pub returns-then-from-to-clause-made : goal.returns-then-from-to-clause-made
returns-then-from-to-clause-made g c =
    let a = (goal.at.returns-then-from-to-clause-made g c).In-Ok-2 in
    let led_to : walked (files g a) 1 (take (length (into g a) - 1) (into g a)) ≡ Ok c.in-Ok.from =
    subst (λ (f : Files). walked f 1 (take (length (into g a) - 1) (into g a)) ≡ Ok c.in-Ok.from) c.in_ok-from.ensures.same (sym c.in_ok-to.ensures.led ∙ c.in-Ok-2.is ∙ ap (λ (n : ℕ). Ok n) (sym c.if-from-to.true)) in
    renamed_at (names g a) (into g a) (take (length (names g a) - 1) (names g a)) (take (length (into g a) - 1) (into g a)) c.index-names-last.result (get_or (into g a) (length (into g a) - 1) c.index-self-end.result) c.in-Ok.from c.in-Ok.from (files g a)
    (files_seen g.D.Disk.image c.walk-2.new.self.kernel) (files_seen g.D.Disk.image c.renamed.new.self.kernel)
    (split_last (names g a) (length (names g a) - 1) c.index-names-last.result (some g a) ∙ ap (λ (n : List ℕ). take (length (names g a) - 1) (names g a) ++ n ∷ []) (sym c.index-names-last.is)) (led g a)
    (split_last (into g a) (length (into g a) - 1) c.index-self-end.result (any g a)) led_to
    (c.in_ok-to.ensures.same ∙ c.in_ok-from.ensures.same) c.renamed.result c.renamed.ensures.renamed

pub returns-else-from-to-clause-made : goal.returns-else-from-to-clause-made
returns-else-from-to-clause-made g c =
    let a = (goal.at.returns-else-from-to-clause-made g c).In-Ok-2 in
    let led_to : walked (files g a) 1 (take (length (into g a) - 1) (into g a)) ≡ Ok c.in-Ok-2.to =
    subst (λ (f : Files). walked f 1 (take (length (into g a) - 1) (into g a)) ≡ Ok c.in-Ok-2.to) c.in_ok-from.ensures.same (sym c.in_ok-to.ensures.led ∙ c.in-Ok-2.is) in
    renamed_at (names g a) (into g a) (take (length (names g a) - 1) (names g a)) (take (length (into g a) - 1) (into g a)) c.index-names-last-else-from-to.result (get_or (into g a) (length (into g a) - 1) c.index-self-end-else-from-to.result) c.in-Ok.from c.in-Ok-2.to (files g a)
    (files_seen g.D.Disk.image c.walk-2.new.self.kernel) (files_seen g.D.Disk.image c.moved.new.self.kernel)
    (split_last (names g a) (length (names g a) - 1) c.index-names-last-else-from-to.result (some g a) ∙ ap (λ (n : List ℕ). take (length (names g a) - 1) (names g a) ++ n ∷ []) (sym c.index-names-last-else-from-to.is)) (led g a)
    (split_last (into g a) (length (into g a) - 1) c.index-self-end-else-from-to.result (any g a)) led_to
    (c.in_ok-to.ensures.same ∙ c.in_ok-from.ensures.same) c.moved.result c.moved.ensures.moved

pub returns-else-from-to-clause-goes : goal.returns-else-from-to-clause-goes
returns-else-from-to-clause-goes g c =
    let k = c.args.tree.now.kernel in
    let a = c.walk.new.self.kernel in
    let b = c.walk-2.new.self.kernel in
    proceeds_on g.D.Disk k b c.moved.new.self.kernel c.moved.result c.args.tree.now.calls_left c.walk-2.new.self.calls_left c.moved.new.self.calls_left c.requires.way
    (goes_on g.D.Disk k a b c.walk.new.self.calls_left c.walk-2.new.self.calls_left c.in_ok-from.ensures.goes.on c.in_ok-to.ensures.goes.on)
    (stays_on g.D.Disk k a b c.walk.new.self.calls_left c.in_ok-from.ensures.goes.on c.walk.ensures.goes.stays c.walk-2.ensures.goes.stays)
    c.moved.ensures.goes

pub returns-in-Err-clause-no_block : goal.returns-in-Err-clause-no_block
returns-in-Err-clause-no_block g c = λ tells.
    answers_err g.D.Disk c.args.tree.now.kernel c.walk.new.self.kernel c.in-Err.refusal
    (led_no (files_seen g.D.Disk.image c.args.tree.now.kernel) (take (length c.args.names.now - 1) c.args.names.now) c.in-Err.refusal (sym c.in_ok-from.ensures.led ∙ c.in-Err.is))

pub returns-in-Err-2-clause-no_block : goal.returns-in-Err-2-clause-no_block
returns-in-Err-2-clause-no_block g c = λ tells.
    answers_err g.D.Disk c.args.tree.now.kernel c.walk-2.new.self.kernel c.in-Err-2.refusal
    (led_no (files_seen g.D.Disk.image c.walk.new.self.kernel) (take (length c.args.self.now.into.now - 1) c.args.self.now.into.now) c.in-Err-2.refusal (sym c.in_ok-to.ensures.led ∙ c.in-Err-2.is))

pub returns-then-from-to-clause-goes : goal.returns-then-from-to-clause-goes
returns-then-from-to-clause-goes g c =
    let k = c.args.tree.now.kernel in
    let a = c.walk.new.self.kernel in
    let b = c.walk-2.new.self.kernel in
    proceeds_on g.D.Disk k b c.renamed.new.self.kernel c.renamed.result c.args.tree.now.calls_left c.walk-2.new.self.calls_left c.renamed.new.self.calls_left c.requires.way
    (goes_on g.D.Disk k a b c.walk.new.self.calls_left c.walk-2.new.self.calls_left c.in_ok-from.ensures.goes.on c.in_ok-to.ensures.goes.on)
    (stays_on g.D.Disk k a b c.walk.new.self.calls_left c.in_ok-from.ensures.goes.on c.walk.ensures.goes.stays c.walk-2.ensures.goes.stays)
    c.renamed.ensures.goes

pub returns-then-from-to-clause-no_block : goal.returns-then-from-to-clause-no_block
returns-then-from-to-clause-no_block g c = λ tells.
    let into = c.args.self.now.into.now in
    let old = c.index-names-last.result in
    let name = get_or into (length into - 1) c.index-self-end.result in
    answers_not g.D.Disk (Renames c.in-Ok.from old c.in-Ok.from name) (λ files. IsUnrenamed files c.in-Ok.from old c.in-Ok.from name) (files_seen g.D.Disk.image c.walk-2.new.self.kernel)
    (files_seen g.D.Disk.image c.renamed.new.self.kernel) c.args.tree.now.kernel c.renamed.new.self.kernel c.renamed.result (λ why. why.0 refl) c.renamed.ensures.renamed

pub returns-else-from-to-clause-no_block : goal.returns-else-from-to-clause-no_block
returns-else-from-to-clause-no_block g c = λ tells.
    answers_on g.D.Disk c.args.tree.now.kernel c.walk-2.new.self.kernel c.moved.new.self.kernel c.walk-2.new.self.calls_left c.moved.result
    (goes_on g.D.Disk c.args.tree.now.kernel c.walk.new.self.kernel c.walk-2.new.self.kernel c.walk.new.self.calls_left c.walk-2.new.self.calls_left c.in_ok-from.ensures.goes.on c.in_ok-to.ensures.goes.on)
    c.moved.ensures.no_block
