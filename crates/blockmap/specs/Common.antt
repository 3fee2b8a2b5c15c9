-- The names that most proofs of this crate cite, passed on from one place. Declares nothing.
pub use Rattle.std.proofs.lemmas.Bool.{cases_eq, cases_lt, eq-eqb, eqb-false, eqb-true, ltb-false, ltb-true, ne_eqb, not-false, not-true, or_cases, or_parts}
pub use Rattle.std.proofs.lemmas.List.{drop_all, get_or-set_other, get_or-set_same, get_or_past, length-drop, take_all, take_min}
pub use Rattle.bcache.specs.Buffers.{block_or_zero, buffer, Buffers}
pub use Rattle.blocks.specs.Block.{overwritten, zero_block}
pub use Rattle.blocks.specs.Disk.{block_at, Image}
pub use Rattle.blocks.specs.declared.disk.Disk.{Ghosts}
pub use Rattle.in_flight.specs.Held.{Claim, names_claimed, with_address}
pub use Rattle.in_flight.specs.Lemmas.KeptTrees.{SameInside}
pub use Rattle.in_flight.specs.Lemmas.Ways.{address_led, along_at, entries_way_to, led_along, led_further, led_none, led_step, length-way_to, place_way_to}
pub use Rattle.in_flight.specs.Loose.{IsFit, LiesInData}
pub use Rattle.in_flight.specs.Trees.{entry_of, led_to, place_along, place_under, way_to}
pub use Rattle.model.specs.Codec.{with_bit, with_entry}
pub use Rattle.model.specs.Fields.{words_of}
pub use Rattle.model.specs.Layout.{depths, direct_count, form_of, greatest_size, inode_of, reach}
pub use Rattle.model.specs.Lemmas.Codecs.{entry-with_entry, overwritten_one, overwritten_zeroes, with_bit_written}
pub use Rattle.model.specs.Lemmas.Wholes.{reach_pos, thirteen_depths}
pub use Rattle.model.specs.Names.{names_along}
pub use Rattle.model.specs.Places.{address_along, address_under}
pub use Rattle.model.specs.Soundness.{count_of}
pub use Rattle.model.specs.declared.types.image.Dinode.{Dinode}
pub use Rattle.model.specs.declared.types.image.Form.{Form}
pub use Rattle.model.specs.declared.types.image.Form.TheVariants.{One, Two}
pub use Rattle.model.specs.declared.types.progress.Progress.{Progress}
pub use Rattle.wal.specs.Get.{Get}
pub use Rattle.wal.specs.Joint.{seen}
pub use Rattle.wal.specs.Machine.{appended, is_among, LogState, noted, one_used, SameGroups, used_by}
pub use Rattle.wal.specs.Volume.{FailsToFill, Gets, GetsFor, Holds, OnFault, progress_of, ReadsFor, slot_of, VolumeState}
pub use Rattle.blockmap.specs.Balloc.{AllocState, AreFull, byte_with, IsLowestClear, lowest_clear, lowest_in, LowestClear, MayAlloc, MayAllocAt, TakesLowest, with_taken, Zeroes}
pub use Rattle.blockmap.specs.Branch.{address_on, block_limit, branch_of, deepest, entry_under, LiesOnWay, named_by, node_at, rest_under}
pub use Rattle.blockmap.specs.declared.balloc.AllocAt.{AllocAt}
pub use Rattle.blockmap.specs.declared.bmap_alloc.MapAt.{MapAt}
pub use Rattle.blockmap.specs.declared.branch.Branch.{Branch}
pub use Rattle.blockmap.specs.declared.branch.Node.{Node}
pub use Rattle.blockmap.specs.declared.target.Target.{Target}
