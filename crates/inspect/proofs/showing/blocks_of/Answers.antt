use Rattle.std.proofs.Common.{◌≡◌, ◌∙◌, ◌++◌, ap, subst, arith}
use Rattle.blocks.specs.Disk.{Image}
use Rattle.model.specs.Layout.{inode_of}
use Rattle.model.specs.Log.{recovered}
use Rattle.model.specs.declared.types.image.Dinode.{Dinode}
use Rattle.inspect.specs.Owned.{owned_in}
use Rattle.inspect.proofs.CauseLemmas.{failed_on, passed_on}
use Rattle.inspect.proofs.FileLemmas.{free_number, no_number, used_number}
use Rattle.offline.specs.Lemmas.Checked.{count_recovered}
use Rattle.inspect.proofs.PlaceLemmas.{names_at}
use Rattle.inspect.proofs.showing.blocks_of.Goals as goal

pub returns-then-number-eq0-clause-blocks : goal.returns-then-number-eq0-clause-blocks
returns-then-number-eq0-clause-blocks g c =
    let x = g.D.Disk.image c.args.disk.now in
    let image = c.in_ok-image.image in
    no_number (recovered x) c.args.number image.sup.ninodes (count_recovered x image c.in_ok-image.ensures.ok.recovered) c.then-number-eq0.either

pub returns-then-inode-eq0-clause-blocks : goal.returns-then-inode-eq0-clause-blocks
returns-then-inode-eq0-clause-blocks g c =
    let x = g.D.Disk.image c.args.disk.now in
    let number = c.args.number in
    let is = c.in_ok-inode.ensures.ok ∙ ap (λ (z : Image). inode_of (recovered z) number) c.open_checked.ensures.reads.image in
    free_number (recovered x) number c.in_ok-inode.inode is
    (omega (arith, c.if-number-image.false, count_recovered x c.in_ok-image.image c.in_ok-image.ensures.ok.recovered)) c.if-inode-eq0.true

pub add_owned-requires-clause-behind : goal.add_owned-requires-clause-behind
add_owned-requires-clause-behind g c =
    let d = g.D.Disk in
    let x = d.image c.args.disk.now in
    let number = c.args.number in
    let same = c.open_checked.ensures.reads.image in
    names_at x (d.image c.inode.new.disk) number c.in_ok-inode.inode c.in_ok-image.ensures.ok.sound (c.inode.ensures.reads.image ∙ same)
    (c.in_ok-inode.ensures.ok ∙ ap (λ (z : Image). inode_of (recovered z) number) same) (omega (arith, c.if-number-eq0.false))
    (omega (arith, c.if-number-image.false, count_recovered x c.in_ok-image.image c.in_ok-image.ensures.ok.recovered))

pub returns-clause-blocks : goal.returns-clause-blocks
returns-clause-blocks g c =
    let d = g.D.Disk in
    let x = d.image c.args.disk.now in
    let y = recovered x in
    let number = c.args.number in
    let same = c.open_checked.ensures.reads.image in
    let is = c.in_ok-inode.ensures.ok ∙ ap (λ (z : Image). inode_of (recovered z) number) same in
    let added = subst (λ (z : Image). c.add_owned.new.owned.items ≡ c.new-owned.result.items ++ owned_in (recovered z) number c.in_ok-inode.inode)
    (c.inode.ensures.reads.image ∙ same) c.in_ok-add_owned.ensures.added in
    record {
      there = used_number y number c.in_ok-inode.inode is c.if-number-eq0.false
          (omega (arith, c.if-number-image.false, count_recovered x c.in_ok-image.image c.in_ok-image.ensures.ok.recovered)) c.if-inode-eq0.false;
      all = added ∙ ap (λ l. l ++ owned_in y number c.in_ok-inode.inode) c.new-owned.ensures.items ∙ ap (λ (e : Dinode). owned_in y number e) is;
    }

pub returns-in_err-inode-clause-faults : goal.returns-in_err-inode-clause-faults
returns-in_err-inode-clause-faults g c =
    let count = g.D.Disk.fault_count in
    failed_on c.from_residual-in_err-inode.result (count c.args.disk.now) (count c.open_checked.new.disk) (count c.inode.new.disk) c.from_residual-in_err-inode.ensures.1 c.in_ok-image.ensures.faults c.in_err-inode.ensures.faults

pub returns-in_err-add_owned-clause-faults : goal.returns-in_err-add_owned-clause-faults
returns-in_err-add_owned-clause-faults g c =
    let count = g.D.Disk.fault_count in
    passed_on c.from_residual-in_err-add_owned.result c.in_err-add_owned.field-0.0 (count c.args.disk.now) (count c.inode.new.disk) (count c.add_owned.new.disk) c.from_residual-in_err-add_owned.ensures.1
    (c.in_ok-inode.ensures.faults ∙ c.in_ok-image.ensures.faults) c.in_err-add_owned.ensures.faults
