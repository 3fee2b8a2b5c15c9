use Rattle.std.proofs.Common.{◌≡◌, ◌∙◌, ◌+◌, ◌/◌, subst, arith}
use Rattle.offline.specs.Common.{block_at, Image, lawful_geometry, reads_then, recovered}
use Rattle.model.specs.Places.{address_in}
use Rattle.offline.proofs.BytesLemmas.{read_more}
use Rattle.offline.proofs.recovered.Recovered.read.Goals as goal

pub loop-done-preserved : goal.loop-done-preserved
loop-done-preserved g c =
    let d = g.D.Disk in
    let x = d.image c.args.disk.now in
    let inode = c.args.inode.now in
    let before = c.loop-done.invariant in
    let done = c.loop-done.done in
    let f = lawful_geometry x c.requires.recovered.geometry in
    let block = subst (λ (z : Image). c.data.new.into ≡ block_at (recovered z) (address_in (recovered z) inode ((c.args.at + done) / 1024))) before.reads.image c.in_ok-data.ensures.ok in
    record {
      reads = reads_then d c.args.disk.now c.loop-done.disk c.data.new.disk before.reads c.data.ensures.reads;
      faults = c.in_ok-data.ensures.faults ∙ before.faults;
      few = omega (arith, c.put.auto.into, c.min-n.ensures, before.few);
      read = read_more x inode (g.met.D.Disk.is_image c.args.disk.now) (omega (arith, f.room, f.size)) c.requires.file c.args.at done c.min-n.result
          c.loop-done.into c.put.new.into c.as_slice.result.now before.few (omega (arith, c.min-n.ensures, c.loop-done-test.true))
          (omega (arith, c.min-n.ensures, c.requires.inside, c.loop-done.auto.into)) (omega (arith, c.min-n.ensures)) before.read (c.as_slice.ensures.value ∙ block) c.put.ensures;
    }
