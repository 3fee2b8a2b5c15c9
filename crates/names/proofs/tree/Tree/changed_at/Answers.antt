use Rattle.std.proofs.Common.{◌∙◌, ◌<◌, Err, ap, rules, subst, sym, refl, inr, arith}
use Rattle.std.proofs.lemmas.Result.{err_from_is_err_and}
use Rattle.model.specs.Files.{Files}
use Rattle.model.specs.Layout.{form_of}
use Rattle.model.specs.declared.types.image.Form.{Form}
use Rattle.names.specs.declared.refusal.TreeFault.{TreeFault}
use Rattle.names.specs.Inside.{files_seen, form_seen, Never, TellsFull}
use Rattle.std.specs.Prelude.{IfErr}
use Rattle.directories.specs.Counts.{AreCounted}
use Rattle.names.specs.Ready.{Happens, IsReadyBehind, LeavesTree}
use Rattle.names.proofs.Blocked.{blocks_err, tells_by}
use Rattle.names.proofs.Behind.{ends_behind, ready_behind}
use Rattle.names.proofs.Transacting.{full_by, made_of, unchanged_leaves, whole_by, whole_leaves}
use Rattle.names.proofs.tree.Tree.changed_at.Given.{Over}
use Rattle.names.proofs.tree.Tree.changed_at.Goals.{After-committed}
use Rattle.names.proofs.tree.Tree.changed_at.Goals as goal

-- what the call leaves, whether it ends well or not
module _ (g : Over) (c : After-committed g) where
  whole : 0 < c.args.self.now.calls_left → LeavesTree g.D.Disk (g.C.Change.makes c.args.change.now (form_seen g.D.Disk.image c.args.self.now.kernel) c.args.names.now) c.args.self.now.kernel c.committed.new.self.kernel
  whole some =
      let change = g.C.Change.makes c.args.change.now (form_seen g.D.Disk.image c.args.self.now.kernel) c.args.names.now in
      let why = g.C.Change.refuses c.args.change.now c.args.names.now in
      let is =
      whole_by g.D.Disk change why c.args.self.now.kernel c.begun.new.self.kernel c.apply.new.tree.kernel c.args.self.now.calls_left c.begun.new.self.calls_left
      c.in_ok-made.made (c.requires.ready some) c.in_ok-begun.ensures.begins c.begun.ensures.leaves c.in_ok-made.ensures.goes.on.same c.apply.ensures.goes.stays
      c.in_ok-made.ensures.tree
      (subst (λ (f : Form). Happens (g.C.Change.makes c.args.change.now f c.args.names.now) why
      (files_seen g.D.Disk.image c.begun.new.self.kernel) (files_seen g.D.Disk.image c.apply.new.tree.kernel) c.in_ok-made.made)
      (ap (λ d. form_of (g.D.Disk.image d)) c.in_ok-begun.ensures.begins.goes.opening) c.in_ok-made.ensures.made) in
      whole_leaves g.D.Disk change why c.args.self.now.kernel c.apply.new.tree.kernel c.committed.new.self.kernel c.in_ok-made.made is c.committed.ensures.leaves

pub returns-in_err-made-clause-leaves : goal.returns-in_err-made-clause-leaves
returns-in_err-made-clause-leaves g c = λ some.
    unchanged_leaves g.D.Disk (g.C.Change.makes c.args.change.now (form_seen g.D.Disk.image c.args.self.now.kernel) c.args.names.now)
    (g.C.Change.refuses c.args.change.now c.args.names.now) c.args.self.now.kernel c.apply.new.tree.kernel (c.requires.ready some).tree (c.requires.ready some).counted
    (c.apply.ensures.goes.stays.on c.args.self.now.kernel c.in_ok-begun.ensures.begins.goes.same c.begun.ensures.leaves)

pub returns-in_err-committed-clause-leaves : goal.returns-in_err-committed-clause-leaves
returns-in_err-committed-clause-leaves g c = λ some. whole g (goal.at.returns-in_err-committed-clause-leaves g c).After-committed some

pub returns-clause-leaves : goal.returns-clause-leaves
returns-clause-leaves g c = λ some. whole g (goal.at.returns-clause-leaves g c).After-committed some

pub returns-clause-blocks : goal.returns-clause-blocks
returns-clause-blocks g c = record {
  full = λ made is fills.
      full_by g.D.Disk c.args.self.now.kernel c.begun.new.self.kernel c.apply.new.tree.kernel c.committed.new.self.kernel c.begun.new.self.calls_left c.apply.new.tree.calls_left
      c.committed.new.self.calls_left c.in_ok-begun.ensures.begins c.in_ok-made.ensures.goes.on c.in_ok-committed.ensures.commits
      (c.in_ok-made.ensures.full made (made_of c.in_ok-made.made made (sym c.answer_of.ensures ∙ is)) fills);
  no_block = λ tells.
      subst (λ r. IfErr r (TellsFull g.D.Disk c.args.self.now.kernel c.committed.new.self.kernel)) (sym c.answer_of.ensures)
      (tells_by g.D.Disk c.args.self.now.kernel c.begun.new.self.kernel c.apply.new.tree.kernel c.committed.new.self.kernel c.begun.new.self.calls_left c.in_ok-made.made
      c.in_ok-begun.ensures.begins.goes c.in_ok-committed.ensures.commits.reached (c.in_ok-made.ensures.no_block tells));
}

pub apply-requires-clause-counted : goal.apply-requires-clause-counted
apply-requires-clause-counted g c =
    let some : 0 < c.args.self.now.calls_left = search rules in
    subst (λ (f : Files). AreCounted f) (sym c.in_ok-begun.ensures.begins.files) (c.requires.ready some).counted

pub committed-requires-clause-counted : goal.committed-requires-clause-counted
committed-requires-clause-counted g c =
    let some : 0 < c.args.self.now.calls_left = search rules in
    c.in_ok-made.ensures.tree.counted (subst (λ (f : Files). AreCounted f) (sym c.in_ok-begun.ensures.begins.files) (c.requires.ready some).counted)

pub returns-then-self-eq0-clause-refused : goal.returns-then-self-eq0-clause-refused
returns-then-self-eq0-clause-refused g c = λ ready. (record { image = refl; faults = refl }, inr (omega (arith, ready.many, c.if-self-eq0.true)))

pub returns-in_err-begun-clause-done : goal.returns-in_err-begun-clause-done
returns-in_err-begun-clause-done g c =
    let p = err_from_is_err_and c.from_residual.result c.from_residual.ensures.1 in
    ends_behind g.D.Disk Never _ _ _ _ c.in_err-begun.field-0.0 (p.1 ∙ ap (λ (e : TreeFault). Err e) p.2) c.in_err-begun.ensures.ends

pub returns-in_err-made-clause-done : goal.returns-in_err-made-clause-done
returns-in_err-made-clause-done g c =
    let p = err_from_is_err_and c.from_residual-in_err-made.result c.from_residual-in_err-made.ensures.1 in
    ends_behind g.D.Disk _ _ _ _ _ c.in_err-made.field-0.0 (p.1 ∙ ap (λ (e : TreeFault). Err e) p.2) c.in_err-made.ensures.goes.ends

pub returns-in_err-committed-clause-done : goal.returns-in_err-committed-clause-done
returns-in_err-committed-clause-done g c =
    let p = err_from_is_err_and c.from_residual-in_err-committed.result c.from_residual-in_err-committed.ensures.1 in
    ends_behind g.D.Disk Never _ _ _ _ c.in_err-committed.field-0.0 (p.1 ∙ ap (λ (e : TreeFault). Err e) p.2) c.in_err-committed.ensures.ends

pub returns-clause-done : goal.returns-clause-done
returns-clause-done g c =
    subst (λ r. IsReadyBehind g.D.Disk c.committed.new.self.kernel c.committed.new.self.calls_left r) (sym c.answer_of.ensures)
    (ready_behind g.D.Disk c.committed.new.self.kernel c.committed.new.self.calls_left c.in_ok-made.made c.in_ok-committed.ensures.commits.ready)

pub returns-in_err-begun-clause-blocks : goal.returns-in_err-begun-clause-blocks
returns-in_err-begun-clause-blocks g c =
    let p = err_from_is_err_and c.from_residual.result c.from_residual.ensures.1 in
    blocks_err g.D.Disk _ _ Never _ _ c.args.self.now.kernel c.begun.new.self.kernel _ c.in_err-begun.field-0.0 c.in_err-begun.ensures.ends _ (p.1 ∙ ap (λ (e : TreeFault). Err e) p.2)

pub returns-in_err-made-clause-blocks : goal.returns-in_err-made-clause-blocks
returns-in_err-made-clause-blocks g c =
    let p = err_from_is_err_and c.from_residual-in_err-made.result c.from_residual-in_err-made.ensures.1 in
    blocks_err g.D.Disk _ _ _ _ _ c.args.self.now.kernel c.apply.new.tree.kernel _ c.in_err-made.field-0.0 c.in_err-made.ensures.goes.ends _ (p.1 ∙ ap (λ (e : TreeFault). Err e) p.2)

pub returns-in_err-committed-clause-blocks : goal.returns-in_err-committed-clause-blocks
returns-in_err-committed-clause-blocks g c =
    let p = err_from_is_err_and c.from_residual-in_err-committed.result c.from_residual-in_err-committed.ensures.1 in
    blocks_err g.D.Disk _ _ Never _ _ c.args.self.now.kernel c.committed.new.self.kernel _ c.in_err-committed.field-0.0 c.in_err-committed.ensures.ends _ (p.1 ∙ ap (λ (e : TreeFault). Err e) p.2)
