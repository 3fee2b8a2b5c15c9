use Rattle.std.proofs.Common.{◌≡◌, ap, ◌∙◌, ◌≤◌, ℕ, ◌+◌, ◌*◌, List, length, inl, refl, rules, subst, arith}
use Rattle.std.proofs.lemmas.Result.{err_from_is_err_and}
use Rattle.std.specs.Int.{div_ceil}
use Rattle.calls.specs.Calls.{image_on}
use Rattle.model.specs.Files.{files_of}
use Rattle.names.specs.Inside.{form_seen}
use Rattle.names.specs.Lemmas.Over.{over_on}
use Rattle.tree_changes.specs.Puts.{IsUnappended, StopsWriting, WritesPieces, piece_count}
use Rattle.tree_changes.proofs.Pieces.{first_unappended, left_by, no_pieces, piece_is, piece_left, piece_written}
use Rattle.tree_changes.proofs.puts.append_all.Goals as goal

pub loop-piece-init : goal.loop-piece-init
loop-piece-init g c = record { ready = c.requires.ready; kept = λ is. is; none = λ zero. (refl, refl); stays = record { opening = refl; name = refl }; leaves = inl refl; writes = refl }

pub loop-piece-preserved : goal.loop-piece-preserved
loop-piece-preserved g c =
    let k = c.args.tree.now.kernel in
    let m = c.loop-piece.tree.kernel in
    let e = c.append.new.tree.kernel in
    let so_far = c.loop-piece.invariant in
    record {
      ready = c.append.ensures.ready;
      kept = λ is. c.in_ok-append.ensures.done;
      none = λ zero. absurd (c.in_ok-append.ensures.none (ap (λ t. t.calls_left) (so_far.none zero).1 ∙ zero));
      stays = over_on g.D.Disk k m e so_far.stays c.append.ensures.stays;
      leaves = piece_left g.D.Disk k m e c.args.path.now c.args.bytes.now c.loop-piece.piece c.min-to.result so_far.stays c.min-to.ensures so_far.writes so_far.leaves c.append.ensures.leaves;
      writes = piece_written g.D.Disk k m c.args.path.now c.args.bytes.now c.loop-piece.piece c.min-to.result so_far.stays c.min-to.ensures _ _ so_far.writes c.in_ok-append.ensures.writes;
    }

pub returns-in_err-append-clause-stays : goal.returns-in_err-append-clause-stays
returns-in_err-append-clause-stays g c = over_on g.D.Disk _ c.loop-piece.tree.kernel _ c.loop-piece.invariant.stays c.append.ensures.stays

pub returns-in_err-append-clause-undone : goal.returns-in_err-append-clause-undone
returns-in_err-append-clause-undone g c = λ ready.
    let i = c.loop-piece.piece in
    let mid = c.loop-piece.tree.kernel in
    let stops : StopsWriting g.D.Disk c.args.path.now c.args.bytes.now c.args.tree.now.kernel c.append.new.tree.kernel c.in_err-append.field-0.0
    = record {
      piece = i;
      mid = mid;
      written = c.loop-piece.invariant.writes;
      why = subst (λ (piece : List ℕ). IsUnappended g.D.Disk c.args.path.now (i * 3072) piece mid c.append.new.tree.kernel c.in_err-append.field-0.0) (piece_is c.args.bytes.now (i * 3072) c.min-to.result c.min-to.ensures) (c.in_err-append.ensures.undone (c.loop-piece.invariant.kept ready));
    } in
    search rules

pub returns-in_err-append-clause-leaves : goal.returns-in_err-append-clause-leaves
returns-in_err-append-clause-leaves g c =
    let so_far = c.loop-piece.invariant in
    let k = c.args.tree.now.kernel in
    let count = piece_count c.args.bytes.now in
    let low : c.loop-piece.piece + 1 ≤ count = omega (arith, c.loop-piece-test.true, c.div_ceil-piece-end.ensures) in
    left_by g.D.Disk k c.append.new.tree.kernel (form_seen g.D.Disk.image k) c.args.path.now c.args.bytes.now (c.loop-piece.piece + 1) count low
    (piece_left g.D.Disk k c.loop-piece.tree.kernel c.append.new.tree.kernel c.args.path.now c.args.bytes.now c.loop-piece.piece c.min-to.result so_far.stays c.min-to.ensures so_far.writes so_far.leaves c.append.ensures.leaves)

pub returns-clause-leaves : goal.returns-clause-leaves
returns-clause-leaves g c =
    let k = c.args.tree.now.kernel in
    let low : c.loop-piece.piece ≤ piece_count c.args.bytes.now = omega (arith, c.loop-piece-test.false, c.loop-piece.auto.piece-end, c.div_ceil-piece-end.ensures) in
    left_by g.D.Disk k c.loop-piece.tree.kernel (form_seen g.D.Disk.image k) c.args.path.now c.args.bytes.now c.loop-piece.piece (piece_count c.args.bytes.now) low c.loop-piece.invariant.leaves

pub returns-clause-writes : goal.returns-clause-writes
returns-clause-writes g c =
    let all : c.loop-piece.piece ≡ div_ceil (length c.args.bytes.now) 3072 = omega (arith, c.loop-piece-test.false, c.loop-piece.auto.piece-end, c.div_ceil-piece-end.ensures) in
    let k = c.args.tree.now.kernel in
    subst (λ (n : ℕ). WritesPieces (form_seen g.D.Disk.image k) c.args.path.now c.args.bytes.now n (files_of (image_on g.D.Disk.image k)) (files_of (image_on g.D.Disk.image c.loop-piece.tree.kernel))) all c.loop-piece.invariant.writes

pub returns-in_err-append-clause-none : goal.returns-in_err-append-clause-none
returns-in_err-append-clause-none g c = λ zero.
    let first = c.loop-piece.invariant.none zero in
    let from : c.loop-piece.piece * 3072 ≡ 0 = let at = first.0 in omega (arith, at) in
    let p = err_from_is_err_and c.from_residual.result c.from_residual.ensures.1 in
    rw (p.1, p.2) (
    first_unappended c.args.bytes.now (c.loop-piece.piece * 3072) c.args.tree.now c.loop-piece.tree c.append.new.tree c.in_err-append.field-0.0 from first.1
    (c.in_err-append.ensures.none (ap (λ t. t.calls_left) first.1 ∙ zero)))

pub returns-clause-none : goal.returns-clause-none
returns-clause-none g c = λ zero.
    let first = c.loop-piece.invariant.none zero in
    let all : c.loop-piece.piece ≡ div_ceil (length c.args.bytes.now) 3072 = omega (arith, c.loop-piece-test.false, c.loop-piece.auto.piece-end, c.div_ceil-piece-end.ensures) in
    (no_pieces c.args.bytes.now c.loop-piece.piece all first.0, first.1)
