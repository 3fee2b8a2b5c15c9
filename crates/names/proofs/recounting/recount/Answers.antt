use Rattle.std.proofs.Common.{sym, subst}
use Rattle.blocks.specs.Disk.{Image}
use Rattle.model.specs.Files.{files_of}
use Rattle.directories.specs.Trees.{IsTree}
use Rattle.names.proofs.Openings.{opened_behind, unopened_behind}
use Rattle.names.proofs.Recounts.{stops_read, stops_recovered}
use Rattle.names.proofs.recounting.recount.Goals as goal

pub returns-then-is_empty-clause-stops : goal.returns-then-is_empty-clause-stops
returns-then-is_empty-clause-stops g c = stops_read g.D.Disk c.args.disk c.judge.new.disk c.judge.ensures.reads

pub returns-in-Ok-open_pair-clause-done : goal.returns-in-Ok-open_pair-clause-done
returns-in-Ok-open_pair-clause-done g c =
    let opened = opened_behind g.D.Disk c.args.disk c.judge.new.disk c.in-Ok-open_pair.kernel c.judge.ensures.reads c.in-Ok.ensures.faults c.in-Ok-open_pair.ensures.opened in
    c.put_right.ensures.done c.args.disk opened (subst (λ (y : Image). IsTree (files_of y)) (sym opened.image) c.in-Ok.ensures.tree)

pub returns-in-Ok-open_pair-clause-refused : goal.returns-in-Ok-open_pair-clause-refused
returns-in-Ok-open_pair-clause-refused g c =
    c.put_right.ensures.refused c.args.disk
    (opened_behind g.D.Disk c.args.disk c.judge.new.disk c.in-Ok-open_pair.kernel c.judge.ensures.reads c.in-Ok.ensures.faults c.in-Ok-open_pair.ensures.opened)

pub returns-in-Ok-open_pair-clause-stops : goal.returns-in-Ok-open_pair-clause-stops
returns-in-Ok-open_pair-clause-stops g c =
    c.put_right.ensures.stops c.args.disk
    (opened_behind g.D.Disk c.args.disk c.judge.new.disk c.in-Ok-open_pair.kernel c.judge.ensures.reads c.in-Ok.ensures.faults c.in-Ok-open_pair.ensures.opened)

pub returns-in-Ok-clause-refused : goal.returns-in-Ok-clause-refused
returns-in-Ok-clause-refused g c =
    unopened_behind g.D.Disk c.args.disk c.judge.new.disk c.in-Err-open_pair.disk c.in-Err-open_pair.fault c.in-Ok.ensures.sound c.judge.ensures.reads c.in-Ok.ensures.faults c.in-Err-open_pair.ensures.refused

pub returns-in-Ok-clause-stops : goal.returns-in-Ok-clause-stops
returns-in-Ok-clause-stops g c =
    let why = unopened_behind g.D.Disk c.args.disk c.judge.new.disk c.in-Err-open_pair.disk c.in-Err-open_pair.fault c.in-Ok.ensures.sound c.judge.ensures.reads c.in-Ok.ensures.faults c.in-Err-open_pair.ensures.refused in
    stops_recovered g.D.Disk c.args.disk c.in-Err-open_pair.disk why.leaves

pub returns-clause-stops : goal.returns-clause-stops
returns-clause-stops g c = stops_read g.D.Disk c.args.disk c.judge.new.disk c.judge.ensures.reads
