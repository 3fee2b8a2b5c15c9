use Rattle.std.proofs.Common.{◌<◌, inr, refl, arith, length}
use Rattle.model.specs.Operations.{transfer_limit}
use Rattle.names.specs.Inside.{form_seen}
use Rattle.tree_changes.proofs.Pieces.{emptied_left, put_left}
use Rattle.tree_changes.proofs.puts.put_whole.Goals as goal

pub returns-in-Err-clause-undone : goal.returns-in-Err-clause-undone
returns-in-Err-clause-undone g c =
    let many : transfer_limit < length c.args.bytes.now = omega (arith, c.if-bytes-le-PIECE.false) in
    inr (many, inr (c.in_ok-number.number, (c.put_few-2.new.tree.kernel, c.in_ok-number.ensures.puts, c.in-Err.ensures.undone c.in_ok-number.ensures.done)))

pub returns-in-Ok-clause-leaves : goal.returns-in-Ok-clause-leaves
returns-in-Ok-clause-leaves g c =
    put_left g.D.Disk c.args.tree.now.kernel c.put_few-2.new.tree.kernel c.append_all.new.tree.kernel c.args.path.now _ c.args.bytes.now _ c.in_ok-number.number refl refl (omega (arith, c.if-bytes-le-PIECE.false))
    c.put_few-2.ensures.stays c.in_ok-number.ensures.puts (c.put_few-2.ensures.leaves c.requires.some) c.append_all.ensures.leaves

pub returns-in-Err-clause-leaves : goal.returns-in-Err-clause-leaves
returns-in-Err-clause-leaves g c =
    put_left g.D.Disk c.args.tree.now.kernel c.put_few-2.new.tree.kernel c.append_all.new.tree.kernel c.args.path.now _ c.args.bytes.now _ c.in_ok-number.number refl refl (omega (arith, c.if-bytes-le-PIECE.false))
    c.put_few-2.ensures.stays c.in_ok-number.ensures.puts (c.put_few-2.ensures.leaves c.requires.some) c.append_all.ensures.leaves

pub returns-in_err-number-clause-leaves : goal.returns-in_err-number-clause-leaves
returns-in_err-number-clause-leaves g c =
    emptied_left g.D.Disk c.args.tree.now.kernel c.put_few-2.new.tree.kernel c.args.path.now c.args.bytes.now (form_seen g.D.Disk.image c.args.tree.now.kernel) (omega (arith, c.if-bytes-le-PIECE.false)) (c.put_few-2.ensures.leaves c.requires.some)
