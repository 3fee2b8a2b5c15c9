use Rattle.std.proofs.Common.{subst}
use Rattle.blocks.specs.Disk.{Image}
use Rattle.model.specs.Log.{recovered}
use Rattle.model.specs.Places.{numbers_of}
use Rattle.offline.specs.Clean.{Sorts}
use Rattle.transfer.specs.Rescues.{opening_fault}
use Rattle.transfer.proofs.SourceLemmas.{break_cause}
use Rattle.transfer.proofs.picking.read_clean.Given.{Over}
use Rattle.transfer.proofs.picking.read_clean.Goals.{In-Ok-sort_numbers}
use Rattle.transfer.proofs.picking.read_clean.Goals as goal

pub returns-in-Err-sort_numbers-clause-refused : goal.returns-in-Err-sort_numbers-clause-refused
returns-in-Err-sort_numbers-clause-refused g c =
    let count = g.D.Disk.fault_count in
    break_cause (opening_fault (g.D.Disk.image c.args.old.now)) (count c.args.old.now) (count c.open.new.disk) (count c.sort_numbers.new.disk) c.in-Err-sort_numbers.fault
    c.in-Ok.ensures.faults c.in-Err-sort_numbers.ensures.faults

-- the numbers were sorted
sorts : (g : Over) (c : In-Ok-sort_numbers g) → Sorts (recovered (g.D.Disk.image c.args.old.now)) (numbers_of (recovered (g.D.Disk.image c.args.old.now))) c.in-Ok-sort_numbers.sorted
sorts g c = subst (λ (z : Image). Sorts (recovered z) (numbers_of (recovered z)) c.in-Ok-sort_numbers.sorted) c.open.ensures.reads.image c.in-Ok-sort_numbers.ensures.sorted

pub returns-clause-source : goal.returns-clause-source
returns-clause-source g c =
    let here = (goal.at.returns-clause-source g c).In-Ok-sort_numbers in
    c.clean_source.ensures.source (g.D.Disk.image c.args.old.now) (g.met.D.Disk.is_image c.args.old.now) c.in-Ok.ensures.ok (sorts g here)

pub returns-clause-clean : goal.returns-clause-clean
returns-clause-clean g c =
    let here = (goal.at.returns-clause-clean g c).In-Ok-sort_numbers in
    c.clean_source.ensures.clean (g.D.Disk.image c.args.old.now) c.in-Ok.ensures.ok (sorts g here)

pub returns-clause-told : goal.returns-clause-told
returns-clause-told g c =
    let here = (goal.at.returns-clause-told g c).In-Ok-sort_numbers in
    c.clean_source.ensures.told (g.D.Disk.image c.args.old.now) (sorts g here)
