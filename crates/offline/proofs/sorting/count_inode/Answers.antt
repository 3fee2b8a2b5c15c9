use Rattle.std.proofs.Common.{◌≡◌, ◌∙◌, ◌++◌, List, ap, subst}
use Rattle.blocks.specs.Disk.{Image}
use Rattle.model.specs.Places.{pointers_in}
use Rattle.offline.specs.Common.{addresses_in, places_below, Pointer, pointers_of, recovered}
use Rattle.offline.specs.Clean.{Counts}
use Rattle.offline.proofs.SortingLemmas.{counts_next}
use Rattle.offline.proofs.sorting.count_inode.Goals as goal

pub returns-clause-counted : goal.returns-clause-counted
returns-clause-counted g c =
    let x = g.D.Disk.image c.args.disk.now in
    let y = recovered x in
    let i = c.args.i in
    let all : c.as_slice.result.now ≡ pointers_of y i
    = c.as_slice.ensures.value ∙ c.in_ok-pointers.ensures.pointers ∙ ap (λ (z : Image). pointers_in (recovered z) c.in_ok-inode.inode) c.inode.ensures.reads.image ∙ ap (pointers_in y) c.in_ok-inode.ensures.ok in
    counts_next y i c.count_all.new.self c.requires.some
    (subst (λ (ps : List Pointer). Counts c.count_all.new.self y (places_below y i ++ addresses_in ps)) all (c.count_all.ensures y (places_below y i) c.requires.counts))
