use Rattle.std.proofs.Common.{◌∙◌, ◌<◌, ◌^◌, ℕ, List, length, rules, subst, arith}
use Rattle.blocks.specs.Disk.{Image}
use Rattle.model.specs.Files.{files_of}
use Rattle.model.specs.Log.{recovered}
use Rattle.names.specs.Recounting.{AreDiffering}
use Rattle.directories.specs.Tallying.{AreLinks, AreNameCounts}
use Rattle.names.proofs.Recounts.{differing_wrong}
use Rattle.names.proofs.recounting.wrong_counts.Goals as goal

pub returns-clause-wrong : goal.returns-clause-wrong
returns-clause-wrong g c =
    let files = files_of (recovered (g.D.Disk.image c.args.disk.now)) in
    let counts = c.in-Some.counts.items in
    let links = c.in_ok-links.links.items in
    let wrong = c.in_ok-wrong.wrong.items in
    let named : AreNameCounts files counts = rw c.in-Some.is at c.in_ok-counts.ensures.told in
    let linked : AreLinks files links =
    subst (λ (y : Image). AreLinks (files_of (recovered y)) links) (c.open_checked.ensures.reads.image ∙ c.name_counts.ensures.reads.image) c.in_ok-links.ensures.links in
    let fits : c.in_ok-image.image.sup.ninodes < 2 ^ 32 = search rules in
    let few : length counts < 2 ^ 32 = omega (arith, fits, named.long, linked.long, c.in_ok-links.ensures.long) in
    differing_wrong files counts links c.requires.tree named linked wrong few
    (subst (λ (l : List ℕ). AreDiffering counts l wrong) c.as_slice-2.ensures.value
    (subst (λ (l : List ℕ). AreDiffering l c.as_slice-2.result.now wrong) c.as_slice.ensures.value c.in_ok-wrong.ensures))
