use Rattle.std.proofs.Common.{ℕ, List, inr, subst, sym}
use Rattle.std.specs.Prelude.{IfErr}
use Rattle.directories.specs.Paths.{names_of}
use Rattle.names.specs.Inside.{form_seen}
use Rattle.names.specs.Ready.{LeavesMidst}
use Rattle.tree_changes.specs.Filling.{EntersAt, IsNotEnteredAt, IsUnputWhat, PutsWhatSome}
use Rattle.tree_changes.specs.Puts.{IsUnputAt}
use Rattle.tree_changes.specs.declared.filling.What.{What}
use Rattle.tree_changes.proofs.Pieces.{left_as_given}
use Rattle.tree_changes.proofs.filling.put_item.Goals as goal

pub returns-in-Directory-clause-undone : goal.returns-in-Directory-clause-undone
returns-in-Directory-clause-undone g c = λ ready.
    let k = c.args.tree.now.kernel in
    let m = c.enter_at.new.tree.kernel in
    subst (λ (what : What). IfErr c.enter_at.result (IsUnputWhat g.D.Disk c.args.item.now.path.items what k m)) (sym c.in-Directory.is)
    (subst (λ (path : List ℕ). IfErr c.enter_at.result (IsNotEnteredAt g.D.Disk path k m)) c.as_slice-path.ensures.value c.enter_at.ensures.undone)

pub returns-in-Directory-clause-leaves : goal.returns-in-Directory-clause-leaves
returns-in-Directory-clause-leaves g c =
    let k = c.args.tree.now.kernel in
    let m = c.enter_at.new.tree.kernel in
    let form = form_seen g.D.Disk.image k in
    inr (subst (λ (what : What). LeavesMidst g.D.Disk (PutsWhatSome form c.args.item.now.path.items what) k m) (sym c.in-Directory.is)
    (subst (λ (path : List ℕ). LeavesMidst g.D.Disk (EntersAt (names_of path)) k m) c.as_slice-path.ensures.value c.enter_at.ensures.leaves))

pub returns-in-Ok-clause-leaves : goal.returns-in-Ok-clause-leaves
returns-in-Ok-clause-leaves g c =
    let k = c.args.tree.now.kernel in
    let m = c.put_whole.new.tree.kernel in
    let form = form_seen g.D.Disk.image k in
    let path = c.args.item.now.path.items in
    inr (subst (λ (what : What). LeavesMidst g.D.Disk (PutsWhatSome form path what) k m) (sym c.in-Bytes.is)
    (left_as_given g.D.Disk k m form c.as_slice-path.result.now path c.as_slice.result.now c.in-Bytes.bytes.items c.as_slice-path.ensures.value c.as_slice.ensures.value c.put_whole.ensures.leaves))

pub returns-in-Err-clause-leaves : goal.returns-in-Err-clause-leaves
returns-in-Err-clause-leaves g c =
    let k = c.args.tree.now.kernel in
    let m = c.put_whole.new.tree.kernel in
    let form = form_seen g.D.Disk.image k in
    let path = c.args.item.now.path.items in
    inr (subst (λ (what : What). LeavesMidst g.D.Disk (PutsWhatSome form path what) k m) (sym c.in-Bytes.is)
    (left_as_given g.D.Disk k m form c.as_slice-path.result.now path c.as_slice.result.now c.in-Bytes.bytes.items c.as_slice-path.ensures.value c.as_slice.ensures.value c.put_whole.ensures.leaves))

pub returns-in-Err-clause-undone : goal.returns-in-Err-clause-undone
returns-in-Err-clause-undone g c = λ ready.
    let k = c.args.tree.now.kernel in
    let m = c.put_whole.new.tree.kernel in
    let refusal = c.in-Err.refusal in
    subst (λ (what : What). IsUnputWhat g.D.Disk c.args.item.now.path.items what k m refusal) (sym c.in-Bytes.is)
    (subst (λ (path : List ℕ). IsUnputAt g.D.Disk path c.in-Bytes.bytes.items k m refusal) c.as_slice-path.ensures.value
    (subst (λ (bytes : List ℕ). IsUnputAt g.D.Disk c.as_slice-path.result.now bytes k m refusal) c.as_slice.ensures.value c.in-Err.ensures.undone))
