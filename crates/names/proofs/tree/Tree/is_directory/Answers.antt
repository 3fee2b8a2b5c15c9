use Rattle.std.proofs.Common.{◌≡◌, ◌∙◌, sym, ap, arith}
use Rattle.std.proofs.lemmas.Bool.{eq-eqb, eqb-true}
use Rattle.model.specs.Files.{file_in}
use Rattle.names.specs.Inside.{files_seen}
use Rattle.directories.specs.Trees.{kind_of}
use Rattle.names.proofs.FileLooks.{kind_told, untold, untold_directory}
use Rattle.names.proofs.SeenLooks.{stat_kind, stat_same}
use Rattle.names.proofs.tree.Tree.is_directory.Given.{Over}
use Rattle.names.proofs.tree.Tree.is_directory.Goals as goal

pub returns-in_default : goal.returns-in_default
returns-in_default g c =
    record {
      goes = record { on = c.in_ok-kind.ensures.goes.on; stays = c.called.ensures.goes.stays; ends = tt };
      same = stat_same g.D.Disk c.args.self.now.kernel c.called.new.self.kernel c.args.number c.in_ok-kind.field-0 c.in_ok-kind.ensures.answers;
      told = (
        λ yes. absurd (cc yes),
        λ is. absurd (untold_directory (files_seen g.D.Disk.image c.args.self.now.kernel) c.args.number c.in_ok-kind.field-0
            (stat_kind g.D.Disk c.args.self.now.kernel c.called.new.self.kernel c.args.number c.in_ok-kind.field-0 c.in_ok-kind.ensures.answers)
            (λ one. absurd (omega (arith, one, untold c.in_ok-kind.field-0 c.in_default.not-StatOf))) is),
      );
    }

pub returns-clause-same : goal.returns-clause-same
returns-clause-same g c = stat_same g.D.Disk c.args.self.now.kernel c.called.new.self.kernel c.args.number c.in_ok-kind.field-0 c.in_ok-kind.ensures.answers

module _ (g : Over) (c : goal.In-StatOf g) where
  kind_is : kind_of (file_in (files_seen g.D.Disk.image c.args.self.now.kernel) c.args.number) ≡ c.in-StatOf.kind
  kind_is =
      stat_kind g.D.Disk c.args.self.now.kernel c.called.new.self.kernel c.args.number c.in_ok-kind.field-0 c.in_ok-kind.ensures.answers
      ∙ ap kind_told c.in-StatOf.is

pub returns-clause-told : goal.returns-clause-told
returns-clause-told g c = (λ yes. kind_is g c ∙ eqb-true c.in-StatOf.kind 1 yes, λ is. eq-eqb c.in-StatOf.kind 1 (sym (kind_is g c) ∙ is))
