use Rattle.std.proofs.Common.{◌≡◌, ◌∙◌, Err, sym, ap, subst, rules}
use Rattle.model.specs.Files.{Files}
use Rattle.names.specs.Inside.{files_seen, Proceeds}
use Rattle.directories.specs.Trees.{directory_in, IsDirectory}
use Rattle.names.proofs.Going.{ends_on, stays_on}
use Rattle.names.proofs.SeenLooks.{stat_same, stat_size, stat_tells}
use Rattle.directories.specs.Lemmas.TreeBy.{directory_is_file}
use Rattle.names.proofs.tree.Tree.tidy_directory.Goals as goal

pub unreachable-requires : goal.unreachable-requires
unreachable-requires g c =
    let told = stat_tells g.D.Disk c.args.self.now.kernel c.called.new.self.kernel c.args.number c.in_ok-_kind.field-0 c.in_ok-_kind.ensures.answers
    (directory_is_file (files_seen g.D.Disk.image c.args.self.now.kernel) c.args.number c.requires.there) in
    c.in_default.not-StatOf told.2.kind told.2.links told.2.size told.2.is

pub whole_directory-requires-clause-there : goal.whole_directory-requires-clause-there
whole_directory-requires-clause-there g c =
    subst (λ (f : Files). IsDirectory f c.args.number)
    (sym (stat_same g.D.Disk c.args.self.now.kernel c.called.new.self.kernel c.args.number c.in_ok-_kind.field-0 c.in_ok-_kind.ensures.answers))
    c.requires.there

pub whole_directory-requires-clause-size : goal.whole_directory-requires-clause-size
whole_directory-requires-clause-size g c =
    stat_size g.D.Disk c.args.self.now.kernel c.called.new.self.kernel c.args.number c.in_ok-_kind.field-0 c.in-StatOf._kind c.in-StatOf._links c.in-StatOf.size
    c.in_ok-_kind.ensures.answers c.in-StatOf.is c.requires.there

pub returns-in_err-bytes-clause-goes : goal.returns-in_err-bytes-clause-goes
returns-in_err-bytes-clause-goes g c =
    let is : c.from_residual-in_err-bytes.result ≡ Err c.in_err-bytes.field-0.0 = search rules in
    subst (λ r. Proceeds g.D.Disk r c.args.self.now.kernel c.whole_directory.new.self.kernel c.whole_directory.new.self.calls_left) (sym is) (record {
      on = tt;
      stays = stays_on g.D.Disk c.args.self.now.kernel c.called.new.self.kernel c.whole_directory.new.self.kernel c.called.new.self.calls_left
          c.in_ok-_kind.ensures.goes.on c.called.ensures.goes.stays c.whole_directory.ensures.goes.stays;
      ends = ends_on g.D.Disk c.args.self.now.kernel c.called.new.self.kernel c.whole_directory.new.self.kernel c.args.self.now.calls_left
          c.called.new.self.calls_left c.whole_directory.new.self.calls_left c.in_err-bytes.field-0.0 c.requires.way c.in_ok-_kind.ensures.goes.on
          c.in_err-bytes.ensures.goes.ends;
    })

pub returns-clause-same : goal.returns-clause-same
returns-clause-same g c =
    c.in_ok-bytes.ensures.same
    ∙ stat_same g.D.Disk c.args.self.now.kernel c.called.new.self.kernel c.args.number c.in_ok-_kind.field-0 c.in_ok-_kind.ensures.answers

pub returns-clause-bytes : goal.returns-clause-bytes
returns-clause-bytes g c =
    c.in_ok-bytes.ensures.bytes
    ∙ ap (λ (f : Files). directory_in f c.args.number)
    (stat_same g.D.Disk c.args.self.now.kernel c.called.new.self.kernel c.args.number c.in_ok-_kind.field-0 c.in_ok-_kind.ensures.answers)
