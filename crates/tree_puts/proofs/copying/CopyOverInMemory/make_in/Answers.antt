use Rattle.std.proofs.Common.{◌≡◌, subst}
use Rattle.std.specs.Prelude.{IfErr, OnOk, Result, Some}
use Rattle.commands.specs.Copied.{memory}
use Rattle.tree_changes.specs.Copying.{asked_by, HasCopied, HasNotCopied}
use Rattle.tree_changes.specs.declared.copying.CopyRefusal.{CopyRefusal}
use Rattle.tree_puts.proofs.Anyhow.{uncopied_anyhow}
use Rattle.tree_puts.proofs.Long.{two_blocks}
use Rattle.tree_puts.proofs.copying.CopyOverInMemory.make_in.Goals as goal

pub returns-in-Err-default-clause-undone : goal.returns-in-Err-default-clause-undone
returns-in-Err-default-clause-undone c =
    let run = c.copy_disk in
    let none = run.new.out ≡ c.new-text.result in
    let asked = asked_by c.args.self.now in
    let refused = subst (λ (r : Result (Unit {0}) CopyRefusal). IfErr r (HasNotCopied memory asked c.args.image run.result.1 none)) c.in-Err-default.is-0 run.ensures.refused in
    record {
      now = run.result.1;
      why = uncopied_anyhow memory asked c.args.image run.result.1 none c.in-Err-default.refusal refused;
    }

pub returns-in-Ok-default-clause-long : goal.returns-in-Ok-default-clause-long
returns-in-Ok-default-clause-long c =
    let run = c.copy_disk in
    let done = subst (λ (r : Result (Unit {0}) CopyRefusal). OnOk r (HasCopied memory (asked_by c.args.self.now) c.args.image run.result.1 (Some c.new-text.result.items) (Some run.new.out.items))) c.in-Ok-default.is-0 run.ensures.done in
    two_blocks _ done.changed.made.left_sound
