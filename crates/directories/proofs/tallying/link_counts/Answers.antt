use Rattle.std.proofs.Common.{◌≡◌, ◌∙◌, ◌+◌, ap, length, arith}
use Rattle.std.proofs.lemmas.List.{length_push}
use Rattle.blocks.specs.Disk.{Image}
use Rattle.blocks.specs.Lemmas.Reads.{reads_then}
use Rattle.model.specs.Files.{file_in, files_of, Files}
use Rattle.model.specs.Log.{recovered}
use Rattle.directories.specs.Trees.{links_of}
use Rattle.directories.proofs.Takings.{counted_files, links_all, links_more}
use Rattle.directories.proofs.tallying.link_counts.Goals as goal

pub loop-i-preserved : goal.loop-i-preserved
loop-i-preserved g c =
    let files : Files = files_of (recovered (g.D.Disk.image c.args.disk.now)) in
    let here : c.in_ok-links.links ≡ links_of (file_in files c.loop-i.i) =
    c.in_ok-links.ensures.links ∙ ap (λ (y : Image). links_of (file_in (files_of (recovered y)) c.loop-i.i)) c.loop-i.invariant.reads.image in
    record {
      reads = reads_then g.D.Disk c.args.disk.now c.loop-i.disk c.links_at.new.disk c.loop-i.invariant.reads c.links_at.ensures.reads;
      faults = c.in_ok-links.ensures.faults ∙ c.loop-i.invariant.faults;
      long = ap length c.in_ok-push.ensures.items ∙ length_push c.loop-i.counts.items c.in_ok-links.links ∙ ap (λ n. n + 1) c.loop-i.invariant.long;
      links = links_more files c.loop-i.i c.in_ok-links.links c.loop-i.counts.items c.push.new.self.items c.loop-i.invariant.long c.loop-i.invariant.links here c.in_ok-push.ensures.items;
    }

pub returns-clause-links : goal.returns-clause-links
returns-clause-links g c =
    let x = g.D.Disk.image c.args.disk.now in
    links_all (files_of (recovered x)) c.loop-i.i c.loop-i.counts.items c.loop-i.invariant.long
    (omega (arith, counted_files x c.args.image.now c.requires.recovered, c.loop-i-test.false, c.loop-i.auto.i-end)) c.loop-i.invariant.links
