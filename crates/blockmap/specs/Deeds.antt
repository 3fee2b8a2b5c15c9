-- What the next step of a machine does on its way to a block of a file.
use Rattle.wal.specs.Deeds.{with_block}
use Rattle.wal.specs.declared.deeds.TaskDeed.{TaskDeed}
use Rattle.blockmap.specs.Balloc.{AllocState}
use Rattle.blockmap.specs.Bmap.{EntryState}
use Rattle.blockmap.specs.declared.balloc.AllocAt.{AllocAt}
use Rattle.blockmap.specs.declared.bmap_alloc.MapAt.{MapAt}
use Rattle.blockmap.specs.declared.target.Target.{Target}

-- the bitmap's block is got and used, and then the block that was taken
abbrev pub deed_of_alloc : AllocState → AllocAt → TaskDeed
deed_of_alloc t (AllocAt.Looking slot) = with_block slot t.bitmap
deed_of_alloc t (AllocAt.Zeroing b slot) = with_block slot b

abbrev pub deed_of_entry : EntryState → TaskDeed
deed_of_entry m = with_block m.slot m.node.block

-- a kept block of addresses is used when its entry is set
abbrev pub deed_on_way : MapAt → TaskDeed
deed_on_way (MapAt.Address t) = deed_of_alloc t t.at
deed_on_way (MapAt.Entry n slot) = with_block slot n.block
deed_on_way (MapAt.Behind n i t) = deed_of_alloc t t.at
deed_on_way (MapAt.Setting n i found) = TaskDeed.Use n.block

abbrev pub deed_of_target : Target → TaskDeed
deed_of_target (Target.Entry entry) = deed_of_entry entry
deed_of_target (Target.Block b slot) = with_block slot b
