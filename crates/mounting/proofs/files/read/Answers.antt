use Rattle.mounting.specs.Causes.{IsUnread}
use Rattle.std.proofs.lemmas.Result.{err_from_is_err_and}
use Rattle.mounting.proofs.Hindering.{left_by}
use Rattle.std.proofs.Common.{◌≡◌, ◌∙◌, ℕ, ◌+◌, ◌-◌, ◌≤◌, List, ◌++◌, ap, arith, inl, inr, ⊎_elim}
use Rattle.directories.specs.Trees.{bytes_of}
use Rattle.model.specs.Files.{Files, file_in}
use Rattle.model.specs.Operations.{part_of}
use Rattle.mounting.specs.Changes.{bytes_on}
use Rattle.mounting.proofs.ReadParts.{added_on, part_all, short_part}
use Rattle.mounting.proofs.files.read.Goals as goal

pub returns-in_err-read_piece-clause-looks : goal.returns-in_err-read_piece-clause-looks
returns-in_err-read_piece-clause-looks g c = λ task o first before. c.read_piece.ensures.looks task o first (c.loop-piece.invariant.looks task o first before)

pub returns-then-not-branch-clause-looks : goal.returns-then-not-branch-clause-looks
returns-then-not-branch-clause-looks g c = λ task o first before. c.read_piece.ensures.looks task o first (c.loop-piece.invariant.looks task o first before)

pub loop-piece-preserved : goal.loop-piece-preserved
loop-piece-preserved g c =
    let count = c.loop-piece.invariant.count in
    let most = c.min-most.ensures in
    let on : (c.args.size - c.loop-piece.left) + c.min-most.result ≡ c.args.size - (c.loop-piece.left - c.min-most.result) = omega (arith, count, most) in
    record {
      ready = c.read_piece.ensures.ready;
      count = omega (arith, count, most);
      same = c.in_ok-read_piece.ensures.same ∙ c.loop-piece.invariant.same;
      looks = λ task o first before. c.read_piece.ensures.looks task o first (c.loop-piece.invariant.looks task o first before);
      reads = added_on c.args.out.now.items c.loop-piece.out.items c.read_piece.new.out.items (bytes_on g.D.Disk c.args.number c.args.tree.now.kernel) (bytes_on g.D.Disk c.args.number c.loop-piece.tree.kernel) c.in-Ok.offset (c.args.size - c.loop-piece.left) c.min-most.result
          c.loop-piece.invariant.reads (ap (λ (f : Files). bytes_of (file_in f c.args.number)) c.loop-piece.invariant.same) c.in_ok-read_piece.ensures.reads ∙ ap (λ (n : ℕ). c.args.out.now.items ++ part_of (bytes_on g.D.Disk c.args.number c.args.tree.now.kernel) c.in-Ok.offset n) on;
    }

pub returns-then-not-branch-clause-reads : goal.returns-then-not-branch-clause-reads
returns-then-not-branch-clause-reads g c = λ narrow.
    let count = c.loop-piece.invariant.count in
    let most = c.min-most.ensures in
    let low : (c.args.size - c.loop-piece.left) + c.min-most.result ≤ c.args.size = omega (arith, count, most) in
    let short = short_part (bytes_on g.D.Disk c.args.number c.args.tree.now.kernel) (bytes_on g.D.Disk c.args.number c.loop-piece.tree.kernel) (c.in-Ok.offset + (c.args.size - c.loop-piece.left)) c.min-most.result c.in_ok-read_piece.field-0
    (ap (λ (f : Files). bytes_of (file_in f c.args.number)) c.loop-piece.invariant.same) c.in_ok-read_piece.ensures.whole c.if-not-branch.true in
    added_on c.args.out.now.items c.loop-piece.out.items c.read_piece.new.out.items (bytes_on g.D.Disk c.args.number c.args.tree.now.kernel) (bytes_on g.D.Disk c.args.number c.loop-piece.tree.kernel) c.in-Ok.offset (c.args.size - c.loop-piece.left) c.min-most.result
    c.loop-piece.invariant.reads (ap (λ (f : Files). bytes_of (file_in f c.args.number)) c.loop-piece.invariant.same) c.in_ok-read_piece.ensures.reads
    ∙ ap (λ (l : List ℕ). c.args.out.now.items ++ l) (part_all (bytes_on g.D.Disk c.args.number c.args.tree.now.kernel) c.in-Ok.offset (c.args.size - c.loop-piece.left) c.min-most.result c.args.size short low)
    ∙ ap (λ (at : ℕ). c.args.out.now.items ++ part_of (bytes_on g.D.Disk c.args.number c.args.tree.now.kernel) at c.args.size) c.in-Ok.ensures.1

pub returns-clause-reads : goal.returns-clause-reads
returns-clause-reads g c = λ narrow.
    let count = c.loop-piece.invariant.count in
    let all : c.args.size - c.loop-piece.left ≡ c.args.size = omega (arith, count, c.loop-piece-test.false, c.loop-piece.auto._piece-end, c.div_ceil-piece-end.ensures) in
    c.loop-piece.invariant.reads
    ∙ ap (λ (n : ℕ). c.args.out.now.items ++ part_of (bytes_on g.D.Disk c.args.number c.args.tree.now.kernel) c.in-Ok.offset n) all
    ∙ ap (λ (at : ℕ). c.args.out.now.items ++ part_of (bytes_on g.D.Disk c.args.number c.args.tree.now.kernel) at c.args.size) c.in-Ok.ensures.1

pub returns-in_err-read_piece-clause-hindered : goal.returns-in_err-read_piece-clause-hindered
returns-in_err-read_piece-clause-hindered g c =
    let p = err_from_is_err_and c.from_residual.result c.from_residual.ensures.1 in
    let m = c.read_piece.new.tree.kernel in
    let count = c.loop-piece.invariant.count in
    let most = c.min-most.ensures in
    let from = c.in-Ok.ensures.1 in
    left_by g.D.Disk (IsUnread c.args.number c.in-Ok.offset ((c.args.size - c.loop-piece.left) + c.min-most.result)) (IsUnread c.args.number c.args.offset c.args.size)
    (λ form x e is. ⊎_elim (λ a. inl a) (λ b. inr (b.0, (let far = b.1 in omega (arith, far, count, most, from)))) is)
    m c.read_piece.new.tree.calls_left c.from_residual.result p.0 c.in_err-read_piece.field-0.0 p.1 p.2 c.in_err-read_piece.ensures.hindered
