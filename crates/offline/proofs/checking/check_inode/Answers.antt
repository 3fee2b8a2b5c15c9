use Rattle.std.proofs.Common.{◌≡◌, ◌<◌, ◌≤◌, ◌≢◌, inl, sym, Ok, Err, ◌∙◌, subst}
use Rattle.offline.specs.Common.{depths, Dinode, err_from_is_err_and, greatest_size, ltb-false, ltb_from_iff, pointers_along, recovered}
use Rattle.offline.specs.Taking.{Claims, TakesAll}
use Rattle.offline.proofs.InodeLemmas.{IsUsed, bad_type, bad_size, judged_free, judged_used, cause_used}
use Rattle.offline.proofs.checking.check_inode.Given.{Over}
use Rattle.offline.proofs.checking.check_inode.Goals.{After-take_pointers}
use Rattle.offline.proofs.checking.check_inode.Goals as goal

pub returns-then-inode-gt3-clause-judged : goal.returns-then-inode-gt3-clause-judged
returns-then-inode-gt3-clause-judged g c = λ stand.
    inl (bad_type (recovered (g.D.Disk.image c.args.disk.now)) c.args.i (subst (λ (d : Dinode). 3 < d.kind) c.requires.inode c.if-inode-gt3.true))

pub returns-then-inode-eq0-clause-judged : goal.returns-then-inode-eq0-clause-judged
returns-then-inode-eq0-clause-judged g c = λ stand.
    judged_free (recovered (g.D.Disk.image c.args.disk.now)) c.args.i (g.D.Disk.fault_count c.args.disk.now) (g.D.Disk.fault_count c.args.disk.now) c.args.owners.now
    c.requires.some (subst (λ (d : Dinode). d.kind ≡ 0) c.requires.inode c.if-inode-eq0.true) stand

pub returns-then-is_too_large-clause-judged : goal.returns-then-is_too_large-clause-judged
returns-then-is_too_large-clause-judged g c = λ stand.
    let y = recovered (g.D.Disk.image c.args.disk.now) in
    inl (bad_size y c.args.i c.args.image.now.form c.requires.judging.is_form (subst (λ (d : Dinode). d.kind ≤ 3) c.requires.inode c.if-inode-gt3.false)
    (subst (λ (d : Dinode). d.kind ≢ 0) c.requires.inode c.if-inode-eq0.false)
    (subst (λ (d : Dinode). greatest_size c.args.image.now.form < d.size) c.requires.inode (c.is_too_large.ensures.0 c.if-is_too_large.true)))

-- its pointers were judged
used : (g : Over) (c : After-take_pointers g) → IsUsed (recovered (g.D.Disk.image c.args.disk.now)) c.args.i c.args.image.now.form
used g c = record {
  is_form = c.requires.judging.is_form;
  kind = subst (λ (d : Dinode). d.kind ≤ 3) c.requires.inode c.if-inode-gt3.false;
  used = subst (λ (d : Dinode). d.kind ≢ 0) c.requires.inode c.if-inode-eq0.false;
  size = subst (λ (d : Dinode). d.size ≤ greatest_size c.args.image.now.form) c.requires.inode
      (ltb-false (greatest_size c.args.image.now.form) c.args.inode.now.size (sym (ltb_from_iff c.is_too_large.ensures) ∙ c.if-is_too_large.false));
}

pub returns-in_err-take_pointers-clause-judged : goal.returns-in_err-take_pointers-clause-judged
returns-in_err-take_pointers-clause-judged g c = λ stand.
    let y = recovered (g.D.Disk.image c.args.disk.now) in
    let form = c.args.image.now.form in
    let old = g.D.Disk.fault_count c.args.disk.now in
    let new = g.D.Disk.fault_count c.take_pointers.new.disk in
    let fault = c.in_err-take_pointers.field-0.0 in
    let p = err_from_is_err_and c.from_residual.result c.from_residual.ensures.1 in
    rw (p.1, p.2)
    (cause_used y c.args.i form old new c.args.owners.now c.take_pointers.new.taker fault (used g (goal.at.returns-in_err-take_pointers-clause-judged g c).After-take_pointers)
    (subst (λ (d : Dinode). TakesAll Claims c.args.i (pointers_along y d.size 0 (depths form) d.addrs) old new c.args.owners.now c.take_pointers.new.taker (Err fault))
    c.requires.inode c.in_err-take_pointers.ensures.taken) stand)

pub returns-clause-judged : goal.returns-clause-judged
returns-clause-judged g c = λ stand.
    let y = recovered (g.D.Disk.image c.args.disk.now) in
    let form = c.args.image.now.form in
    let old = g.D.Disk.fault_count c.args.disk.now in
    let new = g.D.Disk.fault_count c.take_pointers.new.disk in
    judged_used y c.args.i form old new c.args.owners.now c.take_pointers.new.taker c.requires.some (used g (goal.at.returns-clause-judged g c).After-take_pointers)
    (subst (λ (d : Dinode). TakesAll Claims c.args.i (pointers_along y d.size 0 (depths form) d.addrs) old new c.args.owners.now c.take_pointers.new.taker (Ok tt))
    c.requires.inode c.in_ok-take_pointers.ensures.taken) stand
