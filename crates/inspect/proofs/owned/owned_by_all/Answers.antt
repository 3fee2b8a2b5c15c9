use Rattle.std.proofs.Common.{◌≡◌, ◌∙◌, ◌++◌, ap, subst, arith}
use Rattle.blocks.specs.Disk.{Image}
use Rattle.blocks.specs.Lemmas.Reads.{reads_then}
use Rattle.model.specs.Layout.{inode_count_of, inode_of}
use Rattle.model.specs.Log.{recovered}
use Rattle.model.specs.declared.types.image.Dinode.{Dinode}
use Rattle.inspect.specs.Owned.{owned_in, owned_of}
use Rattle.inspect.proofs.CauseLemmas.{failed_on, passed_on}
use Rattle.inspect.specs.Lemmas.Gathered.{all_done, next_done, range_end, range_step}
use Rattle.offline.specs.Lemmas.Checked.{count_recovered}
use Rattle.inspect.proofs.PlaceLemmas.{names_at}
use Rattle.inspect.proofs.owned.owned_by_all.Goals as goal

pub add_owned-requires-clause-behind : goal.add_owned-requires-clause-behind
add_owned-requires-clause-behind g c =
    let d = g.D.Disk in
    let x = d.image c.args.disk.now in
    let i = c.loop-i.i in
    let same = c.loop-i.invariant.reads.image in
    names_at x (d.image c.inode.new.disk) i c.in_ok-inode.inode c.requires.checked.sound (c.inode.ensures.reads.image ∙ same)
    (c.in_ok-inode.ensures.ok ∙ ap (λ (z : Image). inode_of (recovered z) i) same) c.loop-i.auto.i
    (omega (arith, c.loop-i-test.true, count_recovered x c.args.image.now c.requires.checked.recovered))

pub loop-i-preserved : goal.loop-i-preserved
loop-i-preserved g c =
    let x = g.D.Disk.image c.args.disk.now in
    let before = c.loop-i.invariant in
    let added = subst (λ (z : Image). c.add_owned.new.owned.items ≡ c.loop-i.owned.items ++ owned_in (recovered z) c.loop-i.i c.in_ok-inode.inode)
    (c.inode.ensures.reads.image ∙ before.reads.image) c.in_ok-add_owned.ensures.added in
    record {
      reads = reads_then g.D.Disk _ _ _ (reads_then g.D.Disk _ _ _ before.reads c.inode.ensures.reads) c.add_owned.ensures.reads;
      faults = c.in_ok-add_owned.ensures.faults ∙ c.in_ok-inode.ensures.faults ∙ before.faults;
      added = next_done _ _ _ _ _ _ before.added
          (range_step (owned_of (recovered x)) c.loop-i.i (inode_count_of (recovered x)) (omega (arith, c.loop-i-test.true, count_recovered x c.args.image.now c.requires.checked.recovered)))
          (added ∙ ap (λ (e : Dinode). c.loop-i.owned.items ++ owned_in (recovered x) c.loop-i.i e)
          (c.in_ok-inode.ensures.ok ∙ ap (λ (z : Image). inode_of (recovered z) c.loop-i.i) before.reads.image));
    }

pub returns-clause-all : goal.returns-clause-all
returns-clause-all g c =
    let x = g.D.Disk.image c.args.disk.now in
    all_done _ _ _ c.loop-i.invariant.added
    (range_end (owned_of (recovered x)) c.loop-i.i (inode_count_of (recovered x)) (omega (arith, c.loop-i-test.false, count_recovered x c.args.image.now c.requires.checked.recovered)))

pub returns-in_err-inode-clause-faults : goal.returns-in_err-inode-clause-faults
returns-in_err-inode-clause-faults g c =
    let count = g.D.Disk.fault_count in
    failed_on c.from_residual-in_err-inode.result (count c.args.disk.now) (count c.loop-i.disk) (count c.inode.new.disk) c.from_residual-in_err-inode.ensures.1 c.loop-i.invariant.faults c.in_err-inode.ensures.faults

pub returns-in_err-add_owned-clause-faults : goal.returns-in_err-add_owned-clause-faults
returns-in_err-add_owned-clause-faults g c =
    let count = g.D.Disk.fault_count in
    passed_on c.from_residual-in_err-add_owned.result c.in_err-add_owned.field-0.0 (count c.args.disk.now) (count c.inode.new.disk) (count c.add_owned.new.disk) c.from_residual-in_err-add_owned.ensures.1
    (c.in_ok-inode.ensures.faults ∙ c.loop-i.invariant.faults) c.in_err-add_owned.ensures.faults
