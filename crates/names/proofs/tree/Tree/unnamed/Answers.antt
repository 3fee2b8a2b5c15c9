use Rattle.names.specs.Inside.{files_seen, form_seen}
use Rattle.names.proofs.Leaving.{lose_fits, lose_leads, unnamed_loses, unnamed_stays, unnamed_there}
use Rattle.names.proofs.tree.Tree.unnamed.Goals as goal

pub unlink-requires : goal.unlink-requires
unlink-requires g c =
    lose_fits (form_seen g.D.Disk.image c.args.self.now.kernel) (files_seen g.D.Disk.image c.args.self.now.kernel) c.args.from c.args.number c.args.left
    c.args.bytes.now c.args.name.now c.requires.way.sized c.requires.loses

pub unreachable-requires : goal.unreachable-requires
unreachable-requires g c =
    lose_leads (files_seen g.D.Disk.image c.args.self.now.kernel) c.args.from c.args.number c.args.left c.args.bytes.now c.args.name.now c.requires.loses c.in_default.ensures.absent

pub relinked-requires-clause-there : goal.relinked-requires-clause-there
relinked-requires-clause-there g c =
    unnamed_there g.D.Disk c.args.self.now.kernel c.entered.new.self.kernel c.args.from c.args.number c.args.left c.args.bytes.now c.args.name.now c.in-Some.write
    c.in_ok-_whole._whole c.requires.tree c.requires.loses c.in-Some.ensures.unlinks c.in_ok-_whole.ensures.entered

pub returns-clause-tree : goal.returns-clause-tree
returns-clause-tree g c =
    unnamed_stays g.D.Disk c.args.self.now.kernel c.entered.new.self.kernel c.args.from c.args.number c.args.left c.args.bytes.now c.args.name.now c.in-Some.write
    c.in_ok-_whole._whole c.requires.tree c.requires.loses c.in-Some.ensures.unlinks c.in_ok-_whole.ensures.entered
    c.relinked.new.self.kernel c.in_ok-relinked.ensures.relinks

pub returns-clause-loses : goal.returns-clause-loses
returns-clause-loses g c =
    unnamed_loses g.D.Disk c.args.self.now.kernel c.entered.new.self.kernel c.args.from c.args.number c.args.left c.args.bytes.now c.args.name.now c.in-Some.write
    c.in_ok-_whole._whole c.requires.tree c.requires.loses c.in-Some.ensures.unlinks c.in_ok-_whole.ensures.entered
    c.relinked.new.self.kernel c.in_ok-relinked.ensures.relinks
