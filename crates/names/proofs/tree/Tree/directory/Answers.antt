use Rattle.std.proofs.Common.{◌≡◌, ◌≢◌, ◌∙◌, Err, sym, ap, subst, rules, arith}
use Rattle.model.specs.Files.{Files}
use Rattle.names.specs.Inside.{files_seen, Proceeds}
use Rattle.directories.specs.Trees.{directory_in, IsDirectory}
use Rattle.names.proofs.FileLooks.{kind_told, untold, untold_directory}
use Rattle.names.proofs.Going.{ends_on, stays_on}
use Rattle.names.proofs.SeenLooks.{stat_kind, stat_same, stat_size}
use Rattle.names.proofs.tree.Tree.directory.Given.{Over}
use Rattle.names.proofs.tree.Tree.directory.Goals as goal

module _ (g : Over) (c : goal.Then-kind-ne-DIRECTORY_KIND g) where
  other : kind_told c.in_ok-kind.field-0 ≢ 1
  other one = c.if-kind-ne-DIRECTORY_KIND.true (sym (ap kind_told c.in-StatOf.is) ∙ one)

pub returns-in_default : goal.returns-in_default
returns-in_default g c =
    let none : kind_told c.in_ok-kind.field-0 ≡ 0 = untold c.in_ok-kind.field-0 c.in_default.not-StatOf in
    record {
      goes = record { on = c.in_ok-kind.ensures.goes.on; stays = c.called.ensures.goes.stays; ends = tt };
      same = stat_same g.D.Disk c.args.self.now.kernel c.called.new.self.kernel c.args.number c.in_ok-kind.field-0 c.in_ok-kind.ensures.answers;
      found = untold_directory (files_seen g.D.Disk.image c.args.self.now.kernel) c.args.number c.in_ok-kind.field-0
          (stat_kind g.D.Disk c.args.self.now.kernel c.called.new.self.kernel c.args.number c.in_ok-kind.field-0 c.in_ok-kind.ensures.answers)
          (λ one. absurd (omega arith));
      answered = omega (arith, c.in_ok-kind.ensures.cause.answered);
    }

pub returns-then-kind-ne-DIRECTORY_KIND-clause-same : goal.returns-then-kind-ne-DIRECTORY_KIND-clause-same
returns-then-kind-ne-DIRECTORY_KIND-clause-same g c =
    stat_same g.D.Disk c.args.self.now.kernel c.called.new.self.kernel c.args.number c.in_ok-kind.field-0 c.in_ok-kind.ensures.answers

pub returns-then-kind-ne-DIRECTORY_KIND-clause-found : goal.returns-then-kind-ne-DIRECTORY_KIND-clause-found
returns-then-kind-ne-DIRECTORY_KIND-clause-found g c =
    untold_directory (files_seen g.D.Disk.image c.args.self.now.kernel) c.args.number c.in_ok-kind.field-0
    (stat_kind g.D.Disk c.args.self.now.kernel c.called.new.self.kernel c.args.number c.in_ok-kind.field-0 c.in_ok-kind.ensures.answers)
    (other g c)

pub whole_directory-requires-clause-there : goal.whole_directory-requires-clause-there
whole_directory-requires-clause-there g c =
    subst (λ (f : Files). IsDirectory f c.args.number)
    (sym (stat_same g.D.Disk c.args.self.now.kernel c.called.new.self.kernel c.args.number c.in_ok-kind.field-0 c.in_ok-kind.ensures.answers))
    (stat_kind g.D.Disk c.args.self.now.kernel c.called.new.self.kernel c.args.number c.in_ok-kind.field-0 c.in_ok-kind.ensures.answers
    ∙ ap kind_told c.in-StatOf.is ∙ c.if-kind-ne-DIRECTORY_KIND.false)

pub whole_directory-requires-clause-size : goal.whole_directory-requires-clause-size
whole_directory-requires-clause-size g c =
    stat_size g.D.Disk c.args.self.now.kernel c.called.new.self.kernel c.args.number c.in_ok-kind.field-0 c.in-StatOf.kind c.in-StatOf._links c.in-StatOf.size
    c.in_ok-kind.ensures.answers c.in-StatOf.is
    (stat_kind g.D.Disk c.args.self.now.kernel c.called.new.self.kernel c.args.number c.in_ok-kind.field-0 c.in_ok-kind.ensures.answers
    ∙ ap kind_told c.in-StatOf.is ∙ c.if-kind-ne-DIRECTORY_KIND.false)

pub returns-in_err-bytes-clause-goes : goal.returns-in_err-bytes-clause-goes
returns-in_err-bytes-clause-goes g c =
    let is : c.from_residual-in_err-bytes.result ≡ Err c.in_err-bytes.field-0.0 = search rules in
    subst (λ r. Proceeds g.D.Disk r c.args.self.now.kernel c.whole_directory.new.self.kernel c.whole_directory.new.self.calls_left) (sym is) (record {
      on = tt;
      stays = stays_on g.D.Disk c.args.self.now.kernel c.called.new.self.kernel c.whole_directory.new.self.kernel c.called.new.self.calls_left
          c.in_ok-kind.ensures.goes.on c.called.ensures.goes.stays c.whole_directory.ensures.goes.stays;
      ends = ends_on g.D.Disk c.args.self.now.kernel c.called.new.self.kernel c.whole_directory.new.self.kernel c.args.self.now.calls_left
          c.called.new.self.calls_left c.whole_directory.new.self.calls_left c.in_err-bytes.field-0.0 c.requires.way c.in_ok-kind.ensures.goes.on
          c.in_err-bytes.ensures.goes.ends;
    })

pub returns-clause-same : goal.returns-clause-same
returns-clause-same g c =
    c.in_ok-bytes.ensures.same
    ∙ stat_same g.D.Disk c.args.self.now.kernel c.called.new.self.kernel c.args.number c.in_ok-kind.field-0 c.in_ok-kind.ensures.answers

pub returns-clause-found : goal.returns-clause-found
returns-clause-found g c = (
  stat_kind g.D.Disk c.args.self.now.kernel c.called.new.self.kernel c.args.number c.in_ok-kind.field-0 c.in_ok-kind.ensures.answers
      ∙ ap kind_told c.in-StatOf.is ∙ c.if-kind-ne-DIRECTORY_KIND.false,
  c.in_ok-bytes.ensures.bytes
      ∙ ap (λ (f : Files). directory_in f c.args.number)
      (stat_same g.D.Disk c.args.self.now.kernel c.called.new.self.kernel c.args.number c.in_ok-kind.field-0 c.in_ok-kind.ensures.answers),
)
