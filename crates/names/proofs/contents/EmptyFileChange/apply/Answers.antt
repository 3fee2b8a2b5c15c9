use Rattle.std.proofs.Common.{[], ◌≡◌, ◌∙◌, Ok, sym, subst}
use Rattle.model.specs.Files.{Files}
use Rattle.names.specs.Contents.{Empties, HasOnly}
use Rattle.names.specs.Inside.{files_seen}
use Rattle.directories.specs.Trees.{IsTree}
use Rattle.directories.specs.Walks.{walked}
use Rattle.directories.specs.Lemmas.PathLaws.{walk_told}
use Rattle.names.proofs.PlainFiles.{happens_plain}
use Rattle.names.proofs.Going.{proceeds_on}
use Rattle.names.proofs.contents.EmptyFileChange.apply.Goals as goal

pub emptied-requires-clause-there : goal.emptied-requires-clause-there
emptied-requires-clause-there g c =
    walk_told (files_seen g.D.Disk.image c.args.tree.now.kernel) _ c.args.names.now c.in_ok-number.field-0 c.in-Ok.number c.requires.tree c.in_ok-number.ensures.same
    c.in_ok-number.ensures.led c.in-Ok.is

pub emptied-requires-clause-tree : goal.emptied-requires-clause-tree
emptied-requires-clause-tree g c = subst (λ (f : Files). IsTree f) (sym c.in_ok-number.ensures.same) c.requires.tree

pub returns-in-Ok-clause-made : goal.returns-in-Ok-clause-made
returns-in-Ok-clause-made g c =
    let files : Files = files_seen g.D.Disk.image c.args.tree.now.kernel in
    let led : walked files 1 c.args.names.now ≡ Ok c.in-Ok.number = sym c.in_ok-number.ensures.led ∙ c.in-Ok.is in
    happens_plain (λ done. HasOnly c.in-Ok.number []) (Empties c.args.names.now) c.args.names.now c.in-Ok.number files
    (files_seen g.D.Disk.image c.walk.new.self.kernel) (files_seen g.D.Disk.image c.emptied.new.self.kernel) led c.in_ok-number.ensures.same
    (λ done emptied. record { number = c.in-Ok.number; led = led; emptied = emptied }) c.emptied.result c.emptied.ensures.emptied

pub returns-in-Ok-clause-goes : goal.returns-in-Ok-clause-goes
returns-in-Ok-clause-goes g c =
    proceeds_on g.D.Disk c.args.tree.now.kernel c.walk.new.self.kernel c.emptied.new.self.kernel c.emptied.result c.args.tree.now.calls_left c.walk.new.self.calls_left
    c.emptied.new.self.calls_left c.requires.way c.in_ok-number.ensures.goes.on c.walk.ensures.goes.stays c.emptied.ensures.goes
