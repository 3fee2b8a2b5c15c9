use Rattle.std.proofs.Common.{◌≡◌, false, subst}
use Rattle.std.specs.Prelude.{IfErr, OnOk, Result, Some}
use Rattle.commands.specs.Copied.{memory}
use Rattle.directories.specs.Paths.{names_of}
use Rattle.tree_changes.specs.Changes.{HasChanged, HasNotChanged, StopsChange, Turn}
use Rattle.tree_changes.specs.Filling.{Fills, FillsSome, IsUnfilledAt}
use Rattle.tree_changes.specs.declared.faults.ChangeRefusal.{ChangeRefusal}
use Rattle.tree_puts.proofs.Anyhow.{unchanged_anyhow}
use Rattle.tree_puts.proofs.Long.{two_blocks}
use Rattle.tree_puts.proofs.folders.FillInMemory.make_in.Goals as goal

pub returns-in-Err-default-clause-undone : goal.returns-in-Err-default-clause-undone
returns-in-Err-default-clause-undone c =
    let run = c.change_disk in
    let none = run.new.out ≡ c.new-text.result in
    let path = c.args.self.now.path.now in
    let items = c.args.self.now.items.now in
    let makes = Fills path items in
    let undone : Turn → ChangeRefusal → Type 0 = λ t. IsUnfilledAt t.disk path items t.was t.now in
    let refused = subst (λ (r : Result (Unit {0}) ChangeRefusal). IfErr r (λ why. HasNotChanged memory makes undone false c.args.image run.result.1 none why × StopsChange memory (λ form. FillsSome form (names_of path) items) c.args.image run.result.1)) c.in-Err-default.is-0 run.ensures.refused in
    record {
      now = run.result.1;
      why = unchanged_anyhow memory makes undone false c.args.image run.result.1 none c.in-Err-default.refusal refused.0;
    }

pub returns-in-Ok-default-clause-long : goal.returns-in-Ok-default-clause-long
returns-in-Ok-default-clause-long c =
    let run = c.change_disk in
    let path = c.args.self.now.path.now in
    let items = c.args.self.now.items.now in
    let done = subst (λ (r : Result (Unit {0}) ChangeRefusal). OnOk r (HasChanged memory (Fills path items) false c.args.image run.result.1 (Some c.new-text.result.items) (Some run.new.out.items) × StopsChange memory (λ form. FillsSome form (names_of path) items) c.args.image run.result.1)) c.in-Ok-default.is-0 run.ensures.done in
    two_blocks _ done.0.made.left_sound
