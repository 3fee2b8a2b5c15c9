use Rattle.std.proofs.Common.{◌∙◌, ◌++◌, ℕ, List, inl, inr, refl, ap, sym}
use Rattle.std.proofs.lemmas.List.{append-nil}
use Rattle.std.proofs.lemmas.Result.{IfErr-weaker, on_ok_weaker}
use Rattle.names.specs.Inside.{Never}
use Rattle.names.specs.Numbered.{IsNoDirectory, ListsAt}
use Rattle.tree_changes.specs.Removing.{Stays}
use Rattle.tree_changes.specs.declared.removing.Below.{Below}
use Rattle.tree_changes.proofs.Entered.{refused_ready, refused_same}
use Rattle.tree_changes.specs.Lemmas.Lefts.{look_leaves}
use Rattle.tree_changes.proofs.Removals.{listed_named, listed_names, of_no_memory, on_any, refused_is, unlisted_broken, unlisted_names}
use Rattle.tree_changes.proofs.removing.add_names.Goals as goal

pub add_entries-requires : goal.add_entries-requires
add_entries-requires g c = listed_named g.D.Disk c.args.tree.now.kernel c.list_at.new.self.kernel c.args.number c.in-Ok.bytes c.as_slice.result.now c.list_at.new.self.calls_left c.in-Ok.ensures.done c.in-Ok.ensures.lists c.as_slice.ensures

pub returns-in-Ok-clause-done : goal.returns-in-Ok-clause-done
returns-in-Ok-clause-done g c = on_any c.add_entries.result _ c.in-Ok.ensures.done

pub returns-in-Ok-clause-adds : goal.returns-in-Ok-clause-adds
returns-in-Ok-clause-adds g c =
    let names = listed_names g.D.Disk c.args.tree.now.kernel c.list_at.new.self.kernel c.args.number c.in-Ok.bytes c.as_slice.result.now c.in-Ok.ensures.lists c.as_slice.ensures in
    on_ok_weaker c.add_entries.result (λ adds. adds ∙ ap (λ (l : List Below). c.args.below.now.items ++ l) names) c.add_entries.ensures.adds

pub returns-in-Ok-clause-same : goal.returns-in-Ok-clause-same
returns-in-Ok-clause-same g c = on_any c.add_entries.result _ c.in-Ok.ensures.lists.same

pub returns-in-Ok-clause-undone : goal.returns-in-Ok-clause-undone
returns-in-Ok-clause-undone g c = λ ready. IfErr-weaker c.add_entries.result _ _ (λ r is. inr (c.in-Ok.ensures.lists.same, is)) c.add_entries.ensures.refused

pub returns-in-Ok-clause-cause : goal.returns-in-Ok-clause-cause
returns-in-Ok-clause-cause g c = IfErr-weaker c.add_entries.result _ _ of_no_memory c.add_entries.ensures.refused

pub returns-in-Ok-clause-leaves : goal.returns-in-Ok-clause-leaves
returns-in-Ok-clause-leaves g c =
    inr (look_leaves g.D.Disk (ListsAt c.args.number) Stays c.args.tree.now.kernel c.list_at.new.self.kernel (λ made z is. is.same) (c.list_at.ensures.leaves (c.if-not-may_call.ensures.0 refl)))

pub returns-then-is_refused-clause-done : goal.returns-then-is_refused-clause-done
returns-then-is_refused-clause-done g c =
    let is = refused_is c.in-Err.fault (sym c.is_refused.ensures ∙ c.if-is_refused.true) in
    refused_ready (List ℕ) g.D.Disk c.list_at.new.self.kernel c.list_at.new.self.calls_left c.in-Err.fault is.0 is.1 c.in-Err.ensures.done

pub returns-then-is_refused-clause-adds : goal.returns-then-is_refused-clause-adds
returns-then-is_refused-clause-adds g c =
    let is = refused_is c.in-Err.fault (sym c.is_refused.ensures ∙ c.if-is_refused.true) in
    let none = unlisted_names g.D.Disk c.args.tree.now.kernel c.list_at.new.self.kernel c.args.number c.in-Err.fault is.0 is.1 (c.in-Err.ensures.refused (c.requires.ready (c.if-not-may_call.ensures.0 refl))) in
    sym (ap (λ (l : List Below). c.args.below.now.items ++ l) none ∙ append-nil c.args.below.now.items)

pub returns-then-is_refused-clause-same : goal.returns-then-is_refused-clause-same
returns-then-is_refused-clause-same g c =
    let is = refused_is c.in-Err.fault (sym c.is_refused.ensures ∙ c.if-is_refused.true) in
    refused_same g.D.Disk Never (IsNoDirectory c.args.number) c.args.tree.now.kernel c.list_at.new.self.kernel c.in-Err.fault is.0 is.1 (c.in-Err.ensures.refused (c.requires.ready (c.if-not-may_call.ensures.0 refl)))

pub returns-then-is_refused-clause-leaves : goal.returns-then-is_refused-clause-leaves
returns-then-is_refused-clause-leaves g c =
    inr (look_leaves g.D.Disk (ListsAt c.args.number) Stays c.args.tree.now.kernel c.list_at.new.self.kernel (λ made z is. is.same) (c.list_at.ensures.leaves (c.if-not-may_call.ensures.0 refl)))

pub returns-else-is_refused-clause-undone : goal.returns-else-is_refused-clause-undone
returns-else-is_refused-clause-undone g c = λ ready.
    inl (unlisted_broken g.D.Disk c.args.tree.now.kernel c.list_at.new.self.kernel c.args.number c.in-Err.fault (sym c.is_refused.ensures ∙ c.if-is_refused.false) (c.in-Err.ensures.refused ready))

pub returns-else-is_refused-clause-leaves : goal.returns-else-is_refused-clause-leaves
returns-else-is_refused-clause-leaves g c =
    inr (look_leaves g.D.Disk (ListsAt c.args.number) Stays c.args.tree.now.kernel c.list_at.new.self.kernel (λ made z is. is.same) (c.list_at.ensures.leaves (c.if-not-may_call.ensures.0 refl)))
