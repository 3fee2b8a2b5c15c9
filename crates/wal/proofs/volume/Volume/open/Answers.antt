use Rattle.std.proofs.Common.{◌∙◌, ap, subst, sym, None}
use Rattle.wal.specs.Common.{AreBlocks, is_syncing, LogState, seen}
use Rattle.wal.proofs.BlocksLemmas.{blocks_fresh}
use Rattle.wal.proofs.VolumeLemmas.{any_afloat, if_whole}
use Rattle.wal.specs.Lemmas.Commits.{empty_lawful}
use Rattle.wal.proofs.OpeningLemmas.{joint_opened}
use Rattle.wal.specs.Lemmas.Volume.{fresh_seen}
use Rattle.wal.proofs.volume.Volume.open.Goals as goal

pub invariant_of-result : goal.invariant_of-result
invariant_of-result g c =
    if_whole None (joint_opened (g.D.Disk.image c.args.disk) c.args.cache c.args.log c.requires.memory.cache c.requires.memory.log c.known.ensures.big c.known.ensures.small c.requires.none)
    (subst AreBlocks (sym c.requires.memory.cache) blocks_fresh)
    (record { each = any_afloat _ _ _ _ (empty_lawful (g.D.Disk.image c.args.disk) c.requires.none) c.requires.settled; plain = λ free. ap (λ (l : LogState). is_syncing l.commit) c.requires.memory.log })

pub returns-clause-current : goal.returns-clause-current
returns-clause-current g c = ap (seen (g.D.Disk.image c.args.disk)) c.requires.memory.cache ∙ fresh_seen (g.D.Disk.image c.args.disk)
