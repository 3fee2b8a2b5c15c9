use Rattle.std.proofs.Common.{◌∙◌, [], ap, sym}
use Rattle.offline.specs.Common.{block_at, get_or_from_slice_get, on_ok_weaker, source_among}
use Rattle.offline.proofs.CheckLemmas.{recovered_source}
use Rattle.offline.proofs.recovered.Recovered.block.Goals as goal

pub returns-clause-ok : goal.returns-clause-ok
returns-clause-ok g c =
    let x = g.D.Disk.image c.args.disk.now in
    let homes = c.as_slice.ensures.value ∙ c.requires.recovered.header.homes in
    on_ok_weaker c.read.result
    (λ got. sym (get_or_from_slice_get x c.source_of-source.result c.read.new.into [] got)
    ∙ ap (block_at x) (c.source_of-source.ensures.source ∙ ap (λ hs. source_among hs c.args.b) homes)
    ∙ sym (recovered_source x c.args.b c.requires.other c.requires.inside))
    c.read.ensures.ok
