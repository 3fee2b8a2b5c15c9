use Rattle.std.proofs.Common.{◌≡◌, ◌∙◌, List, ℕ, ◌+◌, ◌++◌, length, ap, sym, arith}
use Rattle.std.proofs.lemmas.List.{length-append}
use Rattle.std.specs.Prelude.{slice_get}
use Rattle.blocks.specs.Disk.{Image}
use Rattle.blocks.specs.Lemmas.Reads.{reads_then}
use Rattle.cmd.specs.Lemmas.Disks.{file_disk}
use Rattle.commands.proofs.CopiedBlocks.{copied_more}
use Rattle.commands.proofs.copied.Copied.of.Goals as goal

pub loop-b-preserved : goal.loop-b-preserved
loop-b-preserved g c =
    let before = c.loop-b.invariant in
    let x = file_disk.image c.args.disk.now in
    let bytes = c.loop-b.bytes.items in
    let block = c.read.new.into in
    let items : c.extend_from_slice.new.self.items ≡ bytes ++ block
    = c.in_ok-extend_from_slice-in-Ok.ensures.items ∙ ap (λ (l : List ℕ). bytes ++ l) c.as_slice.ensures.value in
    let long : length c.extend_from_slice.new.self.items ≡ length bytes + length block = ap length items ∙ length-append bytes block in
    record {
      reads = reads_then file_disk _ _ _ before.reads c.in-Ok.ensures.reads.only;
      file = c.in-Ok.ensures.file ∙ before.file;
      size = omega (arith, long, before.size, c.as_slice.ensures.block.size);
      blocks = copied_more x c.loop-b.b bytes block _ (omega (arith, c.loop-b-test.true, c.size-size.ensures)) before.size before.blocks c.as_slice.ensures.block.size
          (ap (λ (y : Image). slice_get y c.loop-b.b) (sym before.reads.image) ∙ c.in-Ok.ensures.reads.ok) items;
    }
