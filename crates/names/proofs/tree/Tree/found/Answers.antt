use Rattle.std.proofs.Common.{◌≡◌, ◌∙◌, ℕ, refl, sym}
use Rattle.model.specs.declared.types.operations.Reply.TheVariants.{StatOf}
use Rattle.names.proofs.SeenLooks.{stat_same, stat_tells}
use Rattle.names.proofs.tree.Tree.found.Goals as goal

kind_same : (a b c d e f : ℕ) → StatOf a b c ≡ StatOf d e f → a ≡ d
kind_same a b c d e f same = cc

links_same : (a b c d e f : ℕ) → StatOf a b c ≡ StatOf d e f → b ≡ e
links_same a b c d e f same = cc

size_same : (a b c d e f : ℕ) → StatOf a b c ≡ StatOf d e f → c ≡ f
size_same a b c d e f same = cc

pub unreachable-requires : goal.unreachable-requires
unreachable-requires g c =
    let told = stat_tells g.D.Disk c.args.self.now.kernel c.called.new.self.kernel c.args.number c.in_ok-kind.field-0 c.in_ok-kind.ensures.answers c.requires.there in
    c.in_default.not-StatOf told.2.kind told.2.links told.2.size told.2.is

pub returns-clause-same : goal.returns-clause-same
returns-clause-same g c = stat_same g.D.Disk c.args.self.now.kernel c.called.new.self.kernel c.args.number c.in_ok-kind.field-0 c.in_ok-kind.ensures.answers

pub returns-clause-found : goal.returns-clause-found
returns-clause-found g c =
    let told = stat_tells g.D.Disk c.args.self.now.kernel c.called.new.self.kernel c.args.number c.in_ok-kind.field-0 c.in_ok-kind.ensures.answers c.requires.there in
    let both : StatOf c.in-StatOf.kind c.in-StatOf.links c.in-StatOf.size ≡ StatOf told.2.kind told.2.links told.2.size = sym c.in-StatOf.is ∙ told.2.is in
    record {
      is = refl;
      file = told.0;
      there = told.1;
      kind = kind_same c.in-StatOf.kind c.in-StatOf.links c.in-StatOf.size told.2.kind told.2.links told.2.size both ∙ told.2.kind_is;
      links = links_same c.in-StatOf.kind c.in-StatOf.links c.in-StatOf.size told.2.kind told.2.links told.2.size both ∙ told.2.links_is;
      size = size_same c.in-StatOf.kind c.in-StatOf.links c.in-StatOf.size told.2.kind told.2.links told.2.size both ∙ told.2.size_is;
    }
