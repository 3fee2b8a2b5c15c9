use Rattle.std.proofs.Common.{◌∙◌, ◌++◌, length, ap, refl, sym, subst, arith}
use Rattle.std.proofs.lemmas.List.{append-nil}
use Rattle.blocks.specs.Disk.{Image}
use Rattle.model.specs.Log.{recovered}
use Rattle.model.specs.Places.{addresses_in, pointers_in}
use Rattle.offline.specs.Checked.{IsCheckedOf}
use Rattle.inspect.specs.declared.fault.GatherFault.TheVariants.{NoMemory}
use Rattle.inspect.proofs.CauseLemmas.{failed_on, passed_on}
use Rattle.inspect.proofs.FileLemmas.{rows_free, rows_used}
use Rattle.offline.specs.Lemmas.Checked.{count_recovered}
use Rattle.inspect.proofs.PlaceLemmas.{names_at}
use Rattle.inspect.proofs.listing.add_row.Goals as goal

pub returns-in_err-inode-clause-faults : goal.returns-in_err-inode-clause-faults
returns-in_err-inode-clause-faults g c =
    let count = g.D.Disk.fault_count in
    failed_on c.from_residual.result (count c.args.disk.now) (count c.args.disk.now) (count c.inode.new.disk) c.from_residual.ensures.1 refl c.in_err-inode.ensures.faults

pub returns-then-inode-eq0-clause-added : goal.returns-then-inode-eq0-clause-added
returns-then-inode-eq0-clause-added g c =
    let y = recovered (g.D.Disk.image c.args.disk.now) in
    let rows = c.args.rows.now.items in
    sym (append-nil rows) ∙ ap (λ l. rows ++ l) (sym (rows_free y c.args.i c.in_ok-inode.inode c.in_ok-inode.ensures.ok c.if-inode-eq0.true))

pub count_blocks-requires-clause-checked : goal.count_blocks-requires-clause-checked
count_blocks-requires-clause-checked g c = subst (λ (z : Image). IsCheckedOf z c.args.image.now) (sym c.inode.ensures.reads.image) c.requires.checked

pub count_blocks-requires-clause-behind : goal.count_blocks-requires-clause-behind
count_blocks-requires-clause-behind g c =
    let x = g.D.Disk.image c.args.disk.now in
    names_at x (g.D.Disk.image c.inode.new.disk) c.args.i c.in_ok-inode.inode c.requires.checked.sound c.inode.ensures.reads.image c.in_ok-inode.ensures.ok c.requires.some
    (omega (arith, c.requires.below, count_recovered x c.args.image.now c.requires.checked.recovered))

pub returns-in_err-blocks-clause-faults : goal.returns-in_err-blocks-clause-faults
returns-in_err-blocks-clause-faults g c =
    let count = g.D.Disk.fault_count in
    passed_on c.from_residual-in_err-blocks.result c.in_err-blocks.field-0.0 (count c.args.disk.now) (count c.inode.new.disk) (count c.count_blocks.new.disk) c.from_residual-in_err-blocks.ensures.1 c.in_ok-inode.ensures.faults c.in_err-blocks.ensures.faults

pub returns-in_err-push-clause-faults : goal.returns-in_err-push-clause-faults
returns-in_err-push-clause-faults g c =
    let count = g.D.Disk.fault_count in
    passed_on c.from_residual-in_err-push.result NoMemory (count c.args.disk.now) (count c.args.disk.now) (count c.count_blocks.new.disk) c.from_residual-in_err-push.ensures.1 refl (c.in_ok-blocks.ensures.faults ∙ c.in_ok-inode.ensures.faults)

pub returns-clause-added : goal.returns-clause-added
returns-clause-added g c =
    let y = recovered (g.D.Disk.image c.args.disk.now) in
    let rows = c.args.rows.now.items in
    let inode = c.in_ok-inode.inode in
    let counted = c.in_ok-blocks.ensures.count ∙ ap (λ (z : Image). length (addresses_in (pointers_in (recovered z) inode))) c.inode.ensures.reads.image in
    c.in_ok-push.ensures.items ∙ ap (λ l. rows ++ l) (sym (rows_used y c.args.i c.in_ok-blocks.blocks inode c.in_ok-inode.ensures.ok c.if-inode-eq0.false counted))

pub returns-clause-faults : goal.returns-clause-faults
returns-clause-faults g c = c.in_ok-blocks.ensures.faults ∙ c.in_ok-inode.ensures.faults
