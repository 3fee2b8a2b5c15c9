use Rattle.std.proofs.Common.{◌≡◌, ◌∙◌, ℕ, length, take, ap, arith}
use Rattle.std.proofs.lemmas.List.{length-take}
use Rattle.blocks.specs.Lemmas.Reads.{reads_then}
use Rattle.blocks.specs.Disk.{Image}
use Rattle.model.specs.Files.{bytes_in}
use Rattle.model.specs.Log.{recovered}
use Rattle.model.specs.Operations.{part_of}
use Rattle.disk_commands.proofs.Shown.{all_written, piece_more}
use Rattle.disk_commands.proofs.showing.write_file.Goals as goal

pub loop-at-preserved : goal.loop-at-preserved
loop-at-preserved g c =
    let d = g.D.Disk in
    let x = d.image c.args.disk.now in
    let before = c.loop-at.invariant in
    let count = c.min-count.result in
    let all = bytes_in (recovered x) c.args.inode.now in
    let long : length (take count c.loop-at.piece) ≡ count = omega (arith, c.min-count.array_long, length-take count c.loop-at.piece) in
    let piece : c.read.new.into ≡ part_of all c.loop-at.at count =
    c.in_ok-read.ensures.ok ∙ ap (λ (n : ℕ). part_of (bytes_in (recovered (d.image c.loop-at.disk)) c.args.inode.now) c.loop-at.at n) long
    ∙ ap (λ (y : Image). part_of (bytes_in (recovered y) c.args.inode.now) c.loop-at.at count) before.reads.image in
    record {
      reads = reads_then d c.args.disk.now c.loop-at.disk c.read.new.disk before.reads c.read.ensures.reads;
      faults = c.in_ok-read.ensures.faults ∙ before.faults;
      inside = omega arith;
      written = piece_more all c.loop-at.at count c.read.new.into _ _ _ piece before.written c.in_ok-write_bytes.ensures.ok;
    }

pub returns-clause-all : goal.returns-clause-all
returns-clause-all g c =
    let d = g.D.Disk in
    let x = d.image c.args.disk.now in
    all_written (recovered x) c.args.inode.now c.loop-at.at _ _ (omega arith) c.loop-at.invariant.written
