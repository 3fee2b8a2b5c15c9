use Rattle.std.proofs.Common.{◌≡◌, ◌∙◌, Ok, sym}
use Rattle.std.proofs.lemmas.Result.{on_ok_weaker}
use Rattle.names.specs.Contents.{Reads, ReadsOf}
use Rattle.names.specs.Inside.{files_seen, SeesSame}
use Rattle.directories.specs.Walks.{walked}
use Rattle.directories.specs.Lemmas.PathLaws.{walk_told}
use Rattle.names.proofs.PlainFiles.{happens_plain}
use Rattle.names.proofs.Staying.{stays_same}
use Rattle.names.proofs.Going.{proceeds_on}
use Rattle.names.proofs.contents.ReadFileChange.apply.Goals as goal

pub read_of-requires-clause-there : goal.read_of-requires-clause-there
read_of-requires-clause-there g c =
    walk_told (files_seen g.D.Disk.image c.args.tree.now.kernel) _ c.args.names.now c.in_ok-number.field-0 c.in-Ok.number c.requires.tree c.in_ok-number.ensures.same
    c.in_ok-number.ensures.led c.in-Ok.is

pub returns-in-Ok-clause-made : goal.returns-in-Ok-clause-made
returns-in-Ok-clause-made g c =
    let led : walked (files_seen g.D.Disk.image c.args.tree.now.kernel) 1 c.args.names.now ≡ Ok c.in-Ok.number = sym c.in_ok-number.ensures.led ∙ c.in-Ok.is in
    happens_plain (ReadsOf c.in-Ok.number c.args.self.now.offset c.args.self.now.count) (Reads c.args.names.now c.args.self.now.offset c.args.self.now.count) c.args.names.now c.in-Ok.number (files_seen g.D.Disk.image c.args.tree.now.kernel)
    (files_seen g.D.Disk.image c.walk.new.self.kernel) (files_seen g.D.Disk.image c.read_of.new.self.kernel) led c.in_ok-number.ensures.same
    (λ bytes read. record { number = c.in-Ok.number; led = led; read = read }) c.read_of.result c.read_of.ensures.read

pub returns-in-Ok-clause-tree : goal.returns-in-Ok-clause-tree
returns-in-Ok-clause-tree g c =
    on_ok_weaker c.read_of.result
    (λ (same : SeesSame g.D.Disk.image c.walk.new.self.kernel c.read_of.new.self.kernel).
    stays_same (files_seen g.D.Disk.image c.args.tree.now.kernel) (files_seen g.D.Disk.image c.read_of.new.self.kernel) (same ∙ c.in_ok-number.ensures.same)
    c.requires.tree)
    c.read_of.ensures.same

pub returns-in-Ok-clause-goes : goal.returns-in-Ok-clause-goes
returns-in-Ok-clause-goes g c =
    proceeds_on g.D.Disk c.args.tree.now.kernel c.walk.new.self.kernel c.read_of.new.self.kernel c.read_of.result c.args.tree.now.calls_left c.walk.new.self.calls_left
    c.read_of.new.self.calls_left c.requires.way c.in_ok-number.ensures.goes.on c.walk.ensures.goes.stays c.read_of.ensures.goes
