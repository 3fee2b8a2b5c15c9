use Rattle.blocks.specs.contracts.memory.MemDiskDisk.TheImpl.{ghosts}
use Rattle.model.specs.Log.{recovered}
use Rattle.transfer.specs.Source.{chosen_files}
use Rattle.transfer.proofs.CopierLemmas.{all_out}
use Rattle.transfer.proofs.copying.copy_chosen.Goals as goal

pub returns-clause-filled : goal.returns-clause-filled
returns-clause-filled g c =
    all_out g.E.Disk c.args.size c.args.source.now.form (chosen_files (recovered (g.D.Disk.image c.args.old.now)) c.args.source.now.kinds.items) c.args.new.now c.write_out.new.disk
    c.args.sync (ghosts.image c.in_ok-memory.memory) c.in_ok-memory.ensures.filled c.in_ok-write_out.ensures.written c.in_ok-write_out.ensures.stops
