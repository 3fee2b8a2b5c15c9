use Rattle.std.proofs.Common.{◌≡◌, ◌∙◌, ℕ, length, take, ap, arith, sym}
use Rattle.std.proofs.lemmas.List.{length-take}
use Rattle.blocks.specs.Lemmas.Reads.{reads_then}
use Rattle.blocks.specs.Disk.{Image}
use Rattle.model.specs.Files.{bytes_in}
use Rattle.model.specs.Log.{recovered}
use Rattle.model.specs.Operations.{part_of}
use Rattle.second_lines.proofs.BeginningLemmas.{all_same, piece_differs, piece_same}
use Rattle.second_lines.proofs.standing.has_bytes.Given.{Over}
use Rattle.second_lines.proofs.standing.has_bytes.Goals.{After-are_same-same}
use Rattle.second_lines.proofs.standing.has_bytes.Goals as goal

-- the piece that was read
piece : (g : Over) (c : After-are_same-same g) → c.read.new.into ≡ part_of (bytes_in (recovered (g.D.Disk.image c.args.disk.now)) c.args.inode.now) c.loop-at.at c.min-count.result
piece g c =
    let inode = c.args.inode.now in
    let at = c.loop-at.at in
    let count = c.min-count.result in
    let long : length (take count c.loop-at.piece) ≡ count = omega (arith, c.min-count.array_long, length-take count c.loop-at.piece) in
    c.in_ok-read.ensures.ok ∙ ap (λ (n : ℕ). part_of (bytes_in (recovered (g.D.Disk.image c.loop-at.disk)) inode) at n) long
    ∙ ap (λ (y : Image). part_of (bytes_in (recovered y) inode) at count) c.loop-at.invariant.reads.image

pub loop-at-preserved : goal.loop-at-preserved
loop-at-preserved g c =
    let before = c.loop-at.invariant in
    record {
      reads = reads_then g.D.Disk c.args.disk.now c.loop-at.disk c.read.new.disk before.reads c.read.ensures.reads;
      inside = omega arith;
      same = piece_same _ c.args.bytes.now c.read.new.into c.loop-at.at c.min-count.result (piece g (goal.at.loop-at-preserved g c).After-are_same-same)
          (sym c.are_same-same.ensures ∙ c.if-not-same.false) before.same;
    }

pub returns-then-not-same-clause-same : goal.returns-then-not-same-clause-same
returns-then-not-same-clause-same g c =
    piece_differs _ c.args.bytes.now c.read.new.into c.loop-at.at c.min-count.result (piece g (goal.at.returns-then-not-same-clause-same g c).After-are_same-same)
    (sym c.are_same-same.ensures ∙ c.if-not-same.true)

pub returns-clause-same : goal.returns-clause-same
returns-clause-same g c =
    all_same (recovered (g.D.Disk.image c.args.disk.now)) c.args.inode.now c.args.bytes.now c.loop-at.at (omega arith) c.requires.size c.loop-at.invariant.same
