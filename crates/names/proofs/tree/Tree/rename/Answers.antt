use Rattle.std.proofs.Common.{◌∙◌}
use Rattle.directories.specs.Paths.{names_of}
use Rattle.names.specs.Renaming.{IsUndoneAt}
use Rattle.names.proofs.Behind.{none_both}
use Rattle.names.proofs.Renamed.{undone_both}
use Rattle.names.proofs.tree.Tree.rename.Goals as goal

pub returns-in-Ok-clause-refused : goal.returns-in-Ok-clause-refused
returns-in-Ok-clause-refused g c = λ ready.
    undone_both g.D.Disk c.args.path.now c.args.into.now (IsUndoneAt (names_of c.args.path.now)) (names_of c.args.into.now) c.as_slice.result.now c.args.self.now.kernel
    c.changed.new.self.kernel c.changed.result (c.as_slice.ensures.value ∙ c.in-Ok.ensures.names) (c.changed.ensures.refused ready)

pub returns-in-Ok-clause-none : goal.returns-in-Ok-clause-none
returns-in-Ok-clause-none g c = λ zero. none_both c.args.path.now c.args.into.now c.args.self.now c.changed.new.self c.changed.result (c.changed.ensures.none zero)
