use Rattle.std.proofs.Common.{rules}
use Rattle.blocks.specs.Lemmas.Moments.{stays}
use Rattle.offline.specs.Making.{IsMadeInPartAs}
use Rattle.disk_commands.proofs.making.make_disk.Goals as goal

pub returns-clause-synced : goal.returns-clause-synced
returns-clause-synced g c = record {
  unsynced = c.mkfs_as.new.disk;
  image = c.sync.ensures.image;
  writes = c.sync.ensures.writes;
  settles = record { settled = search rules; syncs = search rules };
}

pub returns-clause-order : goal.returns-clause-order
returns-clause-order g c =
    let d = g.D.Disk in
    λ plain. stays d.moment d.leaves c.args.disk.now c.mkfs_as.new.disk c.sync.new.self (IsMadeInPartAs c.args.form (d.image c.args.disk.now) c.args.size c.args.ninodes) (c.mkfs_as.ensures.writes.order plain) c.sync.ensures.time
