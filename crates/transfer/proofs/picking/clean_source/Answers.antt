use Rattle.std.proofs.Common.{refl}
use Rattle.transfer.proofs.SourceLemmas.{copies_clean, source_of_clean}
use Rattle.transfer.proofs.picking.clean_source.Goals as goal

pub returns-clause-source : goal.returns-clause-source
returns-clause-source c = λ x image is sorts.
    source_of_clean x _ c.args.sorted c.clean_files_are_whole.ensures image refl is sorts c.cut_kinds.ensures.few c.cut_kinds.ensures.same

pub returns-clause-clean : goal.returns-clause-clean
returns-clause-clean c = λ x is sorts.
    copies_clean x _ c.args.sorted refl is sorts c.cut_kinds.ensures.same
