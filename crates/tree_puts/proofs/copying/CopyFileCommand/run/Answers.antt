use Rattle.std.proofs.Common.{◌≡◌, Bool, true, inl, subst}
use Rattle.std.proofs.lemmas.Result.{IfErr-weaker, on_ok_weaker}
use Rattle.cmd.specs.Lemmas.Disks.{file_disk}
use Rattle.cmd.specs.Opened.{OpensDisk}
use Rattle.cmd.specs.Over.{IsRefusedOn}
use Rattle.tree_changes.specs.Copying.{asked, HasCopied, HasNotCopied}
use Rattle.tree_puts.specs.Anew.{HasChangedIfSo}
use Rattle.tree_puts.specs.Copies.{asked_anew, CopiesIn, IsUncopiedFile}
use Rattle.tree_puts.proofs.copying.CopyFileCommand.run.Goals as goal

-- nothing was printed on the way that was not taken
pub returns-in-Ok-false-clause-done : goal.returns-in-Ok-false-clause-done
returns-in-Ok-false-clause-done g c =
    let copy = c.args.self in
    let before = c.copy_anew.new.out in
    let contents = g.O.Write.contents in
    let silent : before ≡ c.args.out.now = subst (λ (b : Bool). HasChangedIfSo g.R.File.Read.remaining (CopiesIn (asked_anew copy.from.now copy.to.now)) (contents c.args.out.now) (contents before) (before ≡ c.args.out.now) b) c.in-Ok-false.field-0-test c.in-Ok-false.ensures.copied in
    on_ok_weaker c.run.result
    (λ done. inl (subst (λ out. OpensDisk g.R.File.Read.remaining file_disk copy.sync (λ d e. HasCopied file_disk (asked copy.from.now copy.to.now true copy.last) d e (contents out) (contents c.run.new.out))) silent done))
    c.run.ensures.done

pub returns-in-Ok-false-clause-refused : goal.returns-in-Ok-false-clause-refused
returns-in-Ok-false-clause-refused g c =
    let copy = c.args.self in
    let before = c.copy_anew.new.out in
    let contents = g.O.Write.contents in
    let remaining = g.R.File.Read.remaining in
    let silent : before ≡ c.args.out.now = subst (λ (b : Bool). HasChangedIfSo remaining (CopiesIn (asked_anew copy.from.now copy.to.now)) (contents c.args.out.now) (contents before) (before ≡ c.args.out.now) b) c.in-Ok-false.field-0-test c.in-Ok-false.ensures.copied in
    IfErr-weaker c.run.result
    (IsRefusedOn remaining copy.sync (c.run.new.out ≡ before) (λ d e why. HasNotCopied file_disk (asked copy.from.now copy.to.now true copy.last) d e (c.run.new.out ≡ before) why))
    (IsUncopiedFile remaining copy.from.now copy.to.now copy.sync copy.last (c.run.new.out ≡ c.args.out.now))
    (λ r why. inl (subst (λ out. IsRefusedOn remaining copy.sync (c.run.new.out ≡ out) (λ d e cause. HasNotCopied file_disk (asked copy.from.now copy.to.now true copy.last) d e (c.run.new.out ≡ out) cause) r) silent why))
    c.run.ensures.refused
