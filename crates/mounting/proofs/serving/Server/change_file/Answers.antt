use Rattle.mounting.proofs.TreeCalls.{both_ok}
use Rattle.mounting.specs.Tells.{TellsAttributes}
use Rattle.fuse.specs.Requests.{asked}
use Rattle.mounting.specs.Causes.{Hinders, IsUnwritten}
use Rattle.mounting.proofs.Hindering.{err_by}
use Rattle.calls.specs.Files.{IsFull}
use Rattle.std.proofs.Common.{◌∙◌, subst, sym, List, ℕ}
use Rattle.mounting.specs.Changes.{HasLength}
use Rattle.std.proofs.lemmas.Result.{on_ok_weaker}
use Rattle.calls.specs.Calls.{image_on}
use Rattle.model.specs.Files.{Files, files_of}
use Rattle.names.specs.Inside.{form_seen}
use Rattle.mounting.proofs.Asking.{asked_as, done_as, hinders_as}
use Rattle.mounting.proofs.serving.Server.change_file.Goals as goal

pub returns-in_err-set_size-in-SetAttributes-clause-makes : goal.returns-in_err-set_size-in-SetAttributes-clause-makes
returns-in_err-set_size-in-SetAttributes-clause-makes g c =
    λ task o first within before. c.set_size.ensures.makes task o first (λ x z is. within x z (asked_as (form_seen g.D.Disk.image o) c.args.node _ _ x z c.in-SetAttributes.is is)) before

pub returns-in_ok-set_size-in-SetAttributes-clause-makes : goal.returns-in_ok-set_size-in-SetAttributes-clause-makes
returns-in_ok-set_size-in-SetAttributes-clause-makes g c =
    λ task o first within before. c.tell.ensures.looks task o first (c.set_size.ensures.makes task o first (λ x z is. within x z (asked_as (form_seen g.D.Disk.image o) c.args.node _ _ x z c.in-SetAttributes.is is)) before)

pub returns-in-Write-clause-makes : goal.returns-in-Write-clause-makes
returns-in-Write-clause-makes g c =
    λ task o first within before. c.write.ensures.makes task o first (λ x z is. within x z (asked_as (form_seen g.D.Disk.image o) c.args.node _ _ x z c.in-Write.is is)) before

pub returns-in_ok-set_size-in-SetAttributes-clause-does : goal.returns-in_ok-set_size-in-SetAttributes-clause-does
returns-in_ok-set_size-in-SetAttributes-clause-does g c =
    let new = files_of (image_on g.D.Disk.image c.tell.new.tree.kernel) in
    both_ok c.tell.result c.tell.ensures.same c.tell.ensures.tells
    (λ same tells empty. done_as (form_seen g.D.Disk.image c.tell.new.tree.kernel) (IsFull (image_on g.D.Disk.image c.tell.new.tree.kernel)) c.args.node c.tell.new.out.items _ _ (files_of (image_on g.D.Disk.image c.args.tree.now.kernel)) (files_of (image_on g.D.Disk.image c.tell.new.tree.kernel)) c.in-SetAttributes.is (
      λ unset. same ∙ c.in_ok-set_size-in-SetAttributes.ensures.same unset,
      λ sets. subst (λ (files : Files). HasLength files c.args.node c.in-SetAttributes.size) (sym same) (c.in_ok-set_size-in-SetAttributes.ensures.end sets),
      subst (λ (old : List ℕ). TellsAttributes new c.args.node old c.tell.new.out.items) empty tells,
    ))

pub returns-in-Write-clause-does : goal.returns-in-Write-clause-does
returns-in-Write-clause-does g c =
    on_ok_weaker c.write.result (λ does empty. done_as (form_seen g.D.Disk.image c.write.new.tree.kernel) (IsFull (image_on g.D.Disk.image c.write.new.tree.kernel)) c.args.node c.write.new.out.items _ _ (files_of (image_on g.D.Disk.image c.args.tree.now.kernel)) (files_of (image_on g.D.Disk.image c.write.new.tree.kernel)) c.in-Write.is
    (does empty)) c.write.ensures.does

pub returns-in-Write-clause-hindered : goal.returns-in-Write-clause-hindered
returns-in-Write-clause-hindered g c =
    err_by g.D.Disk (IsUnwritten c.args.node c.in-Write.offset c.in-Write.bytes.now) (Hinders c.args.node (asked c.args.request.now))
    (λ form x e is. hinders_as form c.args.node _ _ x e c.in-Write.is is)
    c.write.new.tree.kernel c.write.new.tree.calls_left c.write.result c.write.ensures.hindered
