use Rattle.std.proofs.Common.{◌≡◌, ◌∙◌, Ok, sym, ap, subst}
use Rattle.std.specs.Prelude.{IfOk}
use Rattle.model.specs.Layout.{form_of}
use Rattle.model.specs.declared.types.image.Form.{Form}
use Rattle.model.specs.Files.{Files}
use Rattle.names.specs.Contents.{IsNoPlain}
use Rattle.names.specs.Inside.{files_seen, form_seen, Fills}
use Rattle.names.specs.Ready.{Happens}
use Rattle.names.specs.Writing.{Writes, WritesOf}
use Rattle.directories.specs.Trees.{IsTree}
use Rattle.directories.specs.Walks.{walked}
use Rattle.directories.specs.Lemmas.PathLaws.{walk_told}
use Rattle.names.proofs.PlainFiles.{happens_plain}
use Rattle.names.proofs.Going.{proceeds_or}
use Rattle.names.proofs.writing.WriteFileChange.apply.Goals as goal

pub write_of-requires-clause-there : goal.write_of-requires-clause-there
write_of-requires-clause-there g c =
    walk_told (files_seen g.D.Disk.image c.args.tree.now.kernel) _ c.args.names.now c.in_ok-number.field-0 c.in-Ok.number c.requires.tree c.in_ok-number.ensures.same
    c.in_ok-number.ensures.led c.in-Ok.is

pub returns-in-Ok-clause-made : goal.returns-in-Ok-clause-made
returns-in-Ok-clause-made g c =
    let files : Files = files_seen g.D.Disk.image c.args.tree.now.kernel in
    let led : walked files 1 c.args.names.now ≡ Ok c.in-Ok.number = sym c.in_ok-number.ensures.led ∙ c.in-Ok.is in
    let form : Form = form_seen g.D.Disk.image c.args.tree.now.kernel in
    happens_plain (WritesOf form c.in-Ok.number c.args.self.now.offset c.args.self.now.bytes.now) (Writes form c.args.names.now c.args.self.now.offset c.args.self.now.bytes.now) c.args.names.now c.in-Ok.number files
    (files_seen g.D.Disk.image c.walk.new.self.kernel) (files_seen g.D.Disk.image c.write_of.new.self.kernel) led c.in_ok-number.ensures.same
    (λ done wrote. record { number = c.in-Ok.number; led = led; wrote = wrote }) c.write_of.result
    (subst (λ (f : Form). IfOk c.write_of.result (Happens (WritesOf f c.in-Ok.number c.args.self.now.offset c.args.self.now.bytes.now) (IsNoPlain c.in-Ok.number)
    (files_seen g.D.Disk.image c.walk.new.self.kernel) (files_seen g.D.Disk.image c.write_of.new.self.kernel)))
    (ap (λ d. form_of (g.D.Disk.image d)) c.in_ok-number.ensures.goes.on.opening) c.write_of.ensures.wrote)

pub write_of-requires-clause-tree : goal.write_of-requires-clause-tree
write_of-requires-clause-tree g c = subst (λ (f : Files). IsTree f) (sym c.in_ok-number.ensures.same) c.requires.tree

pub returns-in-Ok-clause-goes : goal.returns-in-Ok-clause-goes
returns-in-Ok-clause-goes g c =
    proceeds_or g.D.Disk Fills c.args.tree.now.kernel c.walk.new.self.kernel c.write_of.new.self.kernel c.write_of.result c.args.tree.now.calls_left c.walk.new.self.calls_left
    c.write_of.new.self.calls_left c.requires.way c.in_ok-number.ensures.goes.on c.walk.ensures.goes.stays c.write_of.ensures.goes
