use Rattle.mounting.proofs.TreeCalls.{all_ok}
use Rattle.mounting.specs.Tells.{TellsEntry}
use Rattle.fuse.specs.Requests.{asked}
use Rattle.mounting.specs.Causes.{Hinders, IsNotLinked, IsUnmadeDirectory}
use Rattle.std.proofs.lemmas.Result.{on_ok_weaker}
use Rattle.mounting.proofs.Hindering.{err_by}
use Rattle.model.specs.Files.{files_of}
use Rattle.calls.specs.Files.{IsFull}
use Rattle.calls.specs.Calls.{image_on}
use Rattle.std.proofs.Common.{ℕ, subst, inr, List, []}
use Rattle.directories.specs.Entries.{padded}
use Rattle.mounting.specs.Changes.{Links}
use Rattle.names.specs.Inside.{form_seen}
use Rattle.mounting.proofs.Asking.{asked_as, done_as, hinders_as}
use Rattle.mounting.proofs.serving.Server.add_file.Goals as goal

pub returns-in_err-_number-in-MakeNode-clause-makes : goal.returns-in_err-_number-in-MakeNode-clause-makes
returns-in_err-_number-in-MakeNode-clause-makes g c =
    λ task o first within before. c.make.ensures.makes task o first (λ x z is. within x z (asked_as (form_seen g.D.Disk.image o) c.args.node _ _ x z c.in-MakeNode.is is)) before

pub returns-in_err-number-in-Create-clause-makes : goal.returns-in_err-number-in-Create-clause-makes
returns-in_err-number-in-Create-clause-makes g c =
    λ task o first within before. c.make-in-Create.ensures.makes task o first (λ x z is. within x z (asked_as (form_seen g.D.Disk.image o) c.args.node _ _ x z c.in-Create.is is)) before

pub returns-in_ok-_number-in-MakeNode-clause-makes : goal.returns-in_ok-_number-in-MakeNode-clause-makes
returns-in_ok-_number-in-MakeNode-clause-makes g c =
    λ task o first within before. c.make.ensures.makes task o first (λ x z is. within x z (asked_as (form_seen g.D.Disk.image o) c.args.node _ _ x z c.in-MakeNode.is is)) before

pub returns-in_ok-number-in-Create-clause-makes : goal.returns-in_ok-number-in-Create-clause-makes
returns-in_ok-number-in-Create-clause-makes g c =
    λ task o first within before. c.make-in-Create.ensures.makes task o first (λ x z is. within x z (asked_as (form_seen g.D.Disk.image o) c.args.node _ _ x z c.in-Create.is is)) before

pub returns-in-MakeDirectory-clause-makes : goal.returns-in-MakeDirectory-clause-makes
returns-in-MakeDirectory-clause-makes g c =
    λ task o first within before. c.make_directory.ensures.makes task o first (λ x z is. within x z (asked_as (form_seen g.D.Disk.image o) c.args.node _ _ x z c.in-MakeDirectory.is is)) before

pub returns-in-Ok-clause-makes : goal.returns-in-Ok-clause-makes
returns-in-Ok-clause-makes g c =
    λ task o first within before. c.link.ensures.makes task o first (λ x z is. within x z (asked_as (form_seen g.D.Disk.image o) c.args.node _ _ x z c.in-Link.is (subst (λ (n : ℕ). Links n c.args.node (padded c.in-Link.name.now) (form_seen g.D.Disk.image o) x z) c.in-Ok.ensures.1 is))) before

pub returns-in_ok-number-in-Create-clause-does : goal.returns-in_ok-number-in-Create-clause-does
returns-in_ok-number-in-Create-clause-does g c =
    let new = files_of (image_on g.D.Disk.image c.make-in-Create.new.tree.kernel) in
    on_ok_weaker c.tell_opened.result
    (λ opened empty. done_as (form_seen g.D.Disk.image c.make-in-Create.new.tree.kernel) (IsFull (image_on g.D.Disk.image c.make-in-Create.new.tree.kernel)) c.args.node c.tell_opened.new.out.items _ _ (files_of (image_on g.D.Disk.image c.args.tree.now.kernel)) (files_of (image_on g.D.Disk.image c.make-in-Create.new.tree.kernel)) c.in-Create.is (
      c.in_ok-number-in-Create.ensures.seen,
      (
        c.make-in-Create.new.out.items,
        ((c.in_ok-number-in-Create.number, (c.in_ok-number-in-Create.ensures.makes_it, subst (λ (old : List ℕ). TellsEntry new c.in_ok-number-in-Create.number old c.make-in-Create.new.out.items) empty c.in_ok-number-in-Create.ensures.tells)), opened),
      ),
    ))
    c.tell_opened.ensures.tells

pub returns-in-MakeDirectory-clause-hindered : goal.returns-in-MakeDirectory-clause-hindered
returns-in-MakeDirectory-clause-hindered g c =
    err_by g.D.Disk (IsUnmadeDirectory c.args.node c.in-MakeDirectory.name.now) (Hinders c.args.node (asked c.args.request.now))
    (λ form x e is. hinders_as form c.args.node _ _ x e c.in-MakeDirectory.is is)
    c.make_directory.new.tree.kernel c.make_directory.new.tree.calls_left c.make_directory.result c.make_directory.ensures.hindered

pub returns-in-Ok-clause-does : goal.returns-in-Ok-clause-does
returns-in-Ok-clause-does g c =
    let new = files_of (image_on g.D.Disk.image c.link.new.tree.kernel) in
    all_ok c.link.result c.link.ensures.seen c.link.ensures.does c.link.ensures.tells
    (λ seen does tells empty. done_as (form_seen g.D.Disk.image c.link.new.tree.kernel) (IsFull (image_on g.D.Disk.image c.link.new.tree.kernel)) c.args.node c.link.new.out.items _ _ (files_of (image_on g.D.Disk.image c.args.tree.now.kernel)) (files_of (image_on g.D.Disk.image c.link.new.tree.kernel)) c.in-Link.is (
      seen,
      subst (λ (n : ℕ). Links n c.args.node (padded c.in-Link.name.now) (form_seen g.D.Disk.image c.args.tree.now.kernel) (files_of (image_on g.D.Disk.image c.args.tree.now.kernel)) new) c.in-Ok.ensures.1 does,
      subst (λ (n : ℕ). TellsEntry new n [] c.link.new.out.items) c.in-Ok.ensures.1 (subst (λ (old : List ℕ). TellsEntry new c.in-Ok.file old c.link.new.out.items) empty tells),
    ))

pub returns-in-Ok-clause-hindered : goal.returns-in-Ok-clause-hindered
returns-in-Ok-clause-hindered g c =
    err_by g.D.Disk (IsNotLinked c.in-Ok.file c.args.node c.in-Link.name.now) (Hinders c.args.node (asked c.args.request.now))
    (λ form x e is. hinders_as form c.args.node _ _ x e c.in-Link.is (inr (subst (λ (n : ℕ). IsNotLinked n c.args.node c.in-Link.name.now form x e) c.in-Ok.ensures.1 is)))
    c.link.new.tree.kernel c.link.new.tree.calls_left c.link.result c.link.ensures.hindered
