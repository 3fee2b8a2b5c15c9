use Rattle.std.proofs.Common.{◌≡◌, ◌∙◌, ℕ, sym, ap}
use Rattle.model.specs.declared.types.operations.Reply.TheVariants.{StatOf}
use Rattle.directories.specs.Trees.{links_of}
use Rattle.names.proofs.SeenLooks.{stat_same, stat_tells}
use Rattle.names.proofs.tree.Tree.links_of.Goals as goal

links_same : (a b c d e f : ℕ) → StatOf a b c ≡ StatOf d e f → b ≡ e
links_same a b c d e f same = cc

pub unreachable-requires : goal.unreachable-requires
unreachable-requires g c =
    let told = stat_tells g.D.Disk c.args.self.now.kernel c.called.new.self.kernel c.args.number c.in_ok-_kind.field-0 c.in_ok-_kind.ensures.answers c.requires.there in
    c.in_default.not-StatOf told.2.kind told.2.links told.2.size told.2.is

pub returns-clause-same : goal.returns-clause-same
returns-clause-same g c = stat_same g.D.Disk c.args.self.now.kernel c.called.new.self.kernel c.args.number c.in_ok-_kind.field-0 c.in_ok-_kind.ensures.answers

pub returns-clause-links : goal.returns-clause-links
returns-clause-links g c =
    let told = stat_tells g.D.Disk c.args.self.now.kernel c.called.new.self.kernel c.args.number c.in_ok-_kind.field-0 c.in_ok-_kind.ensures.answers c.requires.there in
    links_same c.in-StatOf._kind c.in-StatOf.links c.in-StatOf._size told.2.kind told.2.links told.2.size (sym c.in-StatOf.is ∙ told.2.is) ∙ told.2.links_is
    ∙ sym (ap links_of told.1)
