use Rattle.mounting.specs.declared.errno.Errno.{Errno}
use Rattle.names.specs.Linking.{IsNotLinkedAs}
use Rattle.mounting.specs.Causes.{IsHindered, IsNotLinked, IsRefusedBy, link_errno}
use Rattle.mounting.proofs.Hindering.{hindered_by, undone_errno}
use Rattle.std.proofs.Common.{ℕ, List, subst, inl, inr, sym}
use Rattle.mounting.specs.Changes.{Links}
use Rattle.names.specs.Inside.{form_seen}
use Rattle.mounting.proofs.serving.Server.link.Goals as goal

pub returns-in-Err-clause-makes : goal.returns-in-Err-clause-makes
returns-in-Err-clause-makes g c =
    λ task o first within before. c.link_in.ensures.makes task o first (λ x z is. within x z (subst (λ (name : List ℕ). Links c.args.file c.args.to name (form_seen g.D.Disk.image o) x z) c.in_ok-name.ensures.is is)) (c.has_aside.ensures.looks task o first before)

pub returns-in_err-found-clause-makes : goal.returns-in_err-found-clause-makes
returns-in_err-found-clause-makes g c =
    λ task o first within before. c.look_at.ensures.looks task o first (c.link_in.ensures.makes task o first (λ x z is. within x z (subst (λ (name : List ℕ). Links c.args.file c.args.to name (form_seen g.D.Disk.image o) x z) c.in_ok-name.ensures.is is)) (c.has_aside.ensures.looks task o first before))

pub returns-clause-makes : goal.returns-clause-makes
returns-clause-makes g c =
    λ task o first within before. c.look_at.ensures.looks task o first (c.link_in.ensures.makes task o first (λ x z is. within x z (subst (λ (name : List ℕ). Links c.args.file c.args.to name (form_seen g.D.Disk.image o) x z) c.in_ok-name.ensures.is is)) (c.has_aside.ensures.looks task o first before))

pub returns-in_err-has_aside-clause-makes : goal.returns-in_err-has_aside-clause-makes
returns-in_err-has_aside-clause-makes g c = λ task o first within before. c.has_aside.ensures.looks task o first before

pub returns-then-branch-clause-makes : goal.returns-then-branch-clause-makes
returns-then-branch-clause-makes g c = λ task o first within before. c.has_aside.ensures.looks task o first before

pub returns-in-Err-clause-hindered : goal.returns-in-Err-clause-hindered
returns-in-Err-clause-hindered g c =
    hindered_by g.D.Disk (IsRefusedBy link_errno (IsNotLinkedAs c.args.file c.args.to c.in_ok-name.name)) (IsNotLinked c.args.file c.args.to c.args.name.now)
    (λ form x e is. inr (inr (inl (subst (λ (n : List ℕ). IsRefusedBy link_errno (IsNotLinkedAs c.args.file c.args.to n) form x e) c.in_ok-name.ensures.is is))))
    c.link_in.new.tree.kernel c.link_in.new.tree.calls_left c.link_errno.result
    (subst (λ (e : Errno). IsHindered g.D.Disk (IsRefusedBy link_errno (IsNotLinkedAs c.args.file c.args.to c.in_ok-name.name)) c.link_in.new.tree.kernel c.link_in.new.tree.calls_left e) (sym c.link_errno.ensures)
    (undone_errno g.D.Disk link_errno (IsNotLinkedAs c.args.file c.args.to c.in_ok-name.name) c.link_in.new.tree.kernel c.link_in.new.tree.calls_left c.in-Err.fault c.in-Err.ensures.hindered))
