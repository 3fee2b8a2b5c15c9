use Rattle.names.specs.Inside.{files_seen, form_seen}
use Rattle.names.proofs.Leaving.{drop_fits, drop_leads, unlinked_drops, dropped_links}
use Rattle.names.proofs.tree.Tree.dropped.Goals as goal

pub unlink-requires : goal.unlink-requires
unlink-requires g c =
    drop_fits (form_seen g.D.Disk.image c.args.self.now.kernel) (files_seen g.D.Disk.image c.args.self.now.kernel) c.args.from c.args.number c.args.bytes.now
    c.args.name.now c.requires.way.sized c.requires.drops

pub unreachable-requires : goal.unreachable-requires
unreachable-requires g c =
    drop_leads (files_seen g.D.Disk.image c.args.self.now.kernel) c.args.from c.args.number c.args.bytes.now c.args.name.now c.requires.drops c.in_default.ensures.absent

pub returns-clause-drops : goal.returns-clause-drops
returns-clause-drops g c =
    unlinked_drops g.D.Disk c.args.self.now.kernel c.entered.new.self.kernel c.called.new.self.kernel c.args.from c.args.number c.args.bytes.now c.args.name.now c.in-Some.write
    c.in_ok-_whole._whole c.in_ok-_done._done c.requires.tree c.requires.drops c.in-Some.ensures.unlinks c.in_ok-_whole.ensures.entered c.in_ok-_whole.ensures.goes.on.opening
    c.in_ok-_done.ensures.answers

pub returns-clause-links : goal.returns-clause-links
returns-clause-links g c =
    dropped_links g.D.Disk c.args.self.now.kernel c.entered.new.self.kernel c.called.new.self.kernel c.args.from c.args.number c.args.bytes.now c.args.name.now c.in-Some.write
    c.in_ok-_whole._whole c.in_ok-_done._done c.requires.tree c.requires.drops c.in_ok-_whole.ensures.entered c.in_ok-_done.ensures.answers
