use Rattle.std.proofs.Common.{◌≡◌, ◌∙◌, ap, length, set, subst, arith}
use Rattle.blocks.specs.Calls.{WritesOne}
use Rattle.blocks.specs.Disk.{Image, block_at, one_more}
use Rattle.blocks.specs.contracts.memory.MemDiskDisk.TheImpl.{ghosts}
use Rattle.wal.specs.Recovery.{LeavesIfCalm}
use Rattle.transfer.specs.Writing.{IsNoneOr}
use Rattle.transfer.proofs.WritingLemmas.{counted_all, ended, ended_image, stops_after_sync, stops_synced, written_all}
use Rattle.transfer.proofs.writing_out.write_image.Given.{Over}
use Rattle.transfer.proofs.writing_out.write_image.Goals.{After-write_block}
use Rattle.transfer.proofs.writing_out.write_image.Goals as goal

-- what a stop leaves once block 1 was written, or not
stopped : (g : Over) (c : After-write_block g) → LeavesIfCalm g.E.Disk c.args.disk.now c.write_block.new.disk (IsNoneOr (g.E.Disk.image c.args.disk.now) (ghosts.image c.args.memory.now))
stopped g c =
    let rest = c.in_ok-write_rest.ensures in
    stops_after_sync g.E.Disk c.write_block.result (ghosts.image c.args.memory.now) c.args.disk.now c.write_rest.new.disk c.sync.new.self c.write_block.new.disk c.requires.size c.requires.some
    rest.written.image rest.stops c.sync.ensures.image c.sync.ensures.time c.in_ok-sync.ensures.ok
    (subst (λ (x : Image). WritesOne g.E.Disk 1 (block_at x 1) c.write_block.result c.sync.new.self c.write_block.new.disk) rest.keeps c.write_block.ensures.writes)

pub returns-in_err-write_block-clause-stops : goal.returns-in_err-write_block-clause-stops
returns-in_err-write_block-clause-stops g c = stopped g (goal.at.returns-in_err-write_block-clause-stops g c).After-write_block

pub returns-in_err-sync_if-clause-stops : goal.returns-in_err-sync_if-clause-stops
returns-in_err-sync_if-clause-stops g c =
    stops_synced g.E.Disk _ c.args.disk.now c.write_block.new.disk c.sync_if.new.disk c.sync_if.ensures.time (stopped g (goal.at.returns-in_err-sync_if-clause-stops g c).After-write_block)

pub returns-clause-written : goal.returns-clause-written
returns-clause-written g c =
    let d = g.E.Disk in
    let old = c.args.disk.now in
    let whole = ghosts.image c.args.memory.now in
    let rest = c.in_ok-write_rest.ensures in
    let done = subst (λ (x : Image). d.image c.write_block.new.disk ≡ set (d.image c.sync.new.self) 1 (block_at x 1)) rest.keeps c.in_ok-write_block.ensures.writes.ok
    ∙ ap (λ (x : Image). set x 1 (block_at whole 1)) c.sync.ensures.image in
    let syncs = c.in_ok-sync_if.ensures.syncs in
    let left = ended_image d c.args.sync c.write_block.new.disk c.sync_if.new.disk syncs in
    record {
      image = left.0 ∙ written_all whole (d.image old) (d.image c.write_rest.new.disk) (d.image c.write_block.new.disk) c.requires.size c.requires.some rest.written.image done;
      writes = left.1 ∙ c.in_ok-write_block.ensures.writes.writes ∙ ap one_more (c.sync.ensures.writes ∙ rest.written.writes) ∙ counted_all (d.write_count old) (length whole) (omega (arith, c.requires.some));
      faults = left.2 ∙ c.in_ok-write_block.ensures.writes.faults ∙ c.in_ok-sync.ensures.faults ∙ rest.written.faults;
      settles = ended d c.args.sync old c.write_block.new.disk c.sync_if.new.disk (c.write_block.ensures.writes.syncs ∙ c.in_ok-sync.ensures.syncs ∙ ap one_more rest.written.syncs) syncs;
    }

pub returns-clause-stops : goal.returns-clause-stops
returns-clause-stops g c =
    stops_synced g.E.Disk _ c.args.disk.now c.write_block.new.disk c.sync_if.new.disk c.sync_if.ensures.time (stopped g (goal.at.returns-clause-stops g c).After-write_block)
