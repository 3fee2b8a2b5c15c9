-- The names that most proofs of this crate cite, passed on from one place. Declares nothing.
pub use Rattle.std.proofs.lemmas.Bool.{both_ways, cases_Bool, cases_eq, cases_lt, cond-false, cond-true, eq-eqb, eqb-false, eqb-true, false≢true, le-ltb, leb-false, leb-true, lt-ltb, ltb-false, ltb-true, ne_eqb, not-false, not-true, or_parts}
pub use Rattle.std.proofs.lemmas.List.{append-nil, ext_get_or, get_or-replicate, get_or-set_other, get_or-set_same, get_or_past, length-drop, length-map, length-replicate, length-take-le, map-set, set-get_or, set-set}
pub use Rattle.std.proofs.lemmas.List.Quantifiers.{position-Some}
pub use Rattle.bcache.specs.Buffers.{block_or_zero, buffer, Buffers, fresh_buffers, victim}
pub use Rattle.bcache.specs.Lemmas.Current.{length-current}
pub use Rattle.bcache.specs.Lemmas.Order.{counted_below, none_passes}
pub use Rattle.blockmap.specs.Balloc.{Allocs, AllocState, first_alloc, IsLowestClear, lowest_in, MayAlloc, MayAllocAt, TakesLowest, with_taken}
pub use Rattle.blockmap.specs.Bmap.{Ends, EntryState, GoesBelow, IsNode, LooksUp, some_address, with_slot}
pub use Rattle.blockmap.specs.BmapAlloc.{address_at, after_address, after_behind, behind_at, come_to, ComesBelow, FindsEntry, MapState, MapSteps, MayMapAt, naming, place_in, SetsEntry, TakesOne, with_entry_under}
pub use Rattle.blockmap.specs.Branch.{block_limit, branch_of, deepest, entry_under, LiesOnWay, named_by, node_at, rest_under}
pub use Rattle.blockmap.specs.Getting.{HoldsWhereGot, Releases, WritesBlock}
pub use Rattle.blockmap.specs.Lemmas.Bitmap.{lowest_clear_found, lowest_clear_is_lowest}
pub use Rattle.blockmap.specs.Lemmas.Branches.{address_there, branch_shallow, is_branch, KeepsBehind, led_behind, lies_behind, lies_first, lies_last, lies_next, lies_none, lies_short, lies_still, none_there, same_keeps, within_limit}
pub use Rattle.blockmap.specs.Lemmas.Others.{gets_fails, groups_noted, groups_same, stays_got, stays_left, stays_noted, stays_same, StaysForOthers}
pub use Rattle.blockmap.specs.Lemmas.Reading.{length-bytes, part_cut, part_in_block, part_past}
pub use Rattle.blockmap.specs.Lemmas.Resting.{resting_may_be_read}
pub use Rattle.blockmap.specs.Lemmas.Targets.{few_at, few_first, first_slot, leads_for, leads_still, needed_within, node_there, steps_enough, steps_grow, steps_more, steps_most}
pub use Rattle.blockmap.specs.Map.{IsBranchOf, mapped_for_writing}
pub use Rattle.blockmap.specs.Reading.{MayRead}
pub use Rattle.blockmap.specs.Target.{block_of, got_slot, HoldsTarget, IsSought, LeadsTo, LeadsToBlock, LooksUpFor, Seeks, slot_in, steps_at, steps_for, target_behind, target_for}
pub use Rattle.blockmap.specs.declared.balloc.AllocAt.{AllocAt}
pub use Rattle.blockmap.specs.declared.bmap_alloc.MapAt.{MapAt}
pub use Rattle.blockmap.specs.declared.branch.Branch.{Branch}
pub use Rattle.blockmap.specs.declared.branch.Node.{Node}
pub use Rattle.blockmap.specs.declared.mapping.MappedForWriting.{MappedForWriting}
pub use Rattle.blockmap.specs.declared.target.Target.{Target}
pub use Rattle.blocks.specs.Block.{overwritten, zero_block}
pub use Rattle.blocks.specs.Calls.{OnlyReads}
pub use Rattle.blocks.specs.Disk.{block_at, Image, IsImage}
pub use Rattle.blocks.specs.declared.disk.Disk.{Ghosts}
pub use Rattle.blocks.specs.declared.errors.DiskFault.{DiskFault}
pub use Rattle.in_flight.specs.Claims.{HasClaimed, with_new_file}
pub use Rattle.in_flight.specs.GrowthLaws.{files_grown, LeadsToNone}
pub use Rattle.in_flight.specs.Held.{Claim, Claims, file_left, FitsHeld, frees, grows, Growth, Held, IsClaimedNow, IsFine, IsGrowing, IsHeld, last_inode, listed, most_left, names_claimed, placing, reaching, unmarked, without_address, zeroed}
pub use Rattle.in_flight.specs.HeldLaws.{FitsThen, HasSameFile, IsGivenUp, IsHeldIn, IsMarkedData, StaysHeld}
pub use Rattle.in_flight.specs.Lemmas.Apart.{copy_marked, data_apart, data_marked, named_held, named_mine, taken_apart, taken_marked, way_inside, way_named}
pub use Rattle.in_flight.specs.Lemmas.BlocksTaken.{block_taken, taken_owned, taken_zeroed, turn_grows}
pub use Rattle.in_flight.specs.Lemmas.Claims.{apart, claims, IsApart}
pub use Rattle.in_flight.specs.Lemmas.FewLeft.{few_left}
pub use Rattle.in_flight.specs.Lemmas.GivenUp.{bits, block_given_up, direct_given_up, direct_left, first_alone, first_left, first_twice, leaves_as_many, tree_given_up}
pub use Rattle.in_flight.specs.Lemmas.GrowthEnds.{growth_answers, growth_rests, resting_refuses}
pub use Rattle.in_flight.specs.Lemmas.HeldFrames.{claimed_in_data, growing_of, held_alike, inode_elsewhere, owned_by_one, whole_names}
pub use Rattle.in_flight.specs.Lemmas.HeldLooks.{free_tells, held_has_blocks, resting_tells}
pub use Rattle.in_flight.specs.Lemmas.HeldMarks.{cleared_bit_keeps, data_keeps, growth_keeps, set_bit_keeps, write_back_keeps}
pub use Rattle.in_flight.specs.Lemmas.HeldOutsideLog.{held_outside}
pub use Rattle.in_flight.specs.Lemmas.KeptTrees.{SameInside}
pub use Rattle.in_flight.specs.Lemmas.LeftInTrees.{alone, begun_left}
pub use Rattle.in_flight.specs.Lemmas.LeftOnWays.{ahead_at, ahead_of, begun_alike, gives_on_way, passed_alike}
pub use Rattle.in_flight.specs.Lemmas.Attributes.{set_answers, set_refuses, set_rests, turn_sets}
pub use Rattle.in_flight.specs.Lemmas.Looks.{between}
pub use Rattle.in_flight.specs.Lemmas.Placing.{address_placed, entry_placed, taken_lies}
pub use Rattle.in_flight.specs.Lemmas.Remapped.{inode_same, IsMapped, mapped, test}
pub use Rattle.in_flight.specs.Lemmas.Turns.{entry_passed, turn_answers, turn_holds}
pub use Rattle.in_flight.specs.Lemmas.Ways.{ahead_root, entries_way_to, led_further, led_none, led_step, length-way_to}
pub use Rattle.in_flight.specs.Lemmas.Wholes.{direct_depth, tree_depth}
pub use Rattle.in_flight.specs.Lemmas.WriteBacks.{claim_fits, last_fields, write_back_rests}
pub use Rattle.in_flight.specs.AttributeLaws.{files_set, unwritten, with_value}
pub use Rattle.in_flight.specs.Loose.{Fits, LiesInData}
pub use Rattle.in_flight.specs.Trees.{depth_of, entry_of, Gives, IsFirstTree, LeavesAlike, led_to, left_under, names_left, way_to}
pub use Rattle.model.specs.Agreement.{IsSameOutsideLog}
pub use Rattle.model.specs.Codec.{IsDinode, new_inode, with_bit, with_entry, with_inode, with_inode_bytes, without_bit}
pub use Rattle.model.specs.Fields.{has_bit, u32_at, words_of}
pub use Rattle.model.specs.Files.{bytes_in, file_in, Files, files_of}
pub use Rattle.model.specs.Gathered.{gathered_with, GatheredBytes}
pub use Rattle.model.specs.Journal.{is_making, is_number}
pub use Rattle.model.specs.Layout.{bitmap_block, depths, direct_count, first_data_block, form_of, greatest_size, HasNoFreeInode, inode_block, inode_bytes_in, inode_count_of, inode_in, is_known_magic, is_lawful_super, magic_of, reach, super_in, super_of}
pub use Rattle.model.specs.Lemmas.Bytes.{length-part, part_in_two}
pub use Rattle.model.specs.Lemmas.Frames.{form_agree, form_same}
pub use Rattle.model.specs.Lemmas.Inodes.{inode_of-with_inode, inode_of-with_inode_other, IsPlaced}
pub use Rattle.model.specs.Lemmas.Log.{both_of}
pub use Rattle.model.specs.Lemmas.Soundness.{facts_of}
pub use Rattle.model.specs.Operations.{after, is_kind, part_of, transfer_limit}
pub use Rattle.model.specs.Places.{address_in, address_under, addresses_in, pointers_in}
pub use Rattle.model.specs.Progress.{one_more}
pub use Rattle.model.specs.Soundness.{count_of, IsLawfulGeometry}
pub use Rattle.model.specs.Tasks.{Answers, FilesThen, Marks, reply_at_turn, TurnsTo}
pub use Rattle.model.specs.declared.types.image.Dinode.{Dinode}
pub use Rattle.model.specs.declared.types.image.File.{File}
pub use Rattle.model.specs.declared.types.image.Form.{Form}
pub use Rattle.model.specs.declared.types.image.Form.TheVariants.{One, Two}
pub use Rattle.model.specs.declared.types.operations.Op.{Op}
pub use Rattle.model.specs.declared.types.operations.Op.TheVariants.{Create, SetAttribute, Read, Remove, Stat, Trunc, Write}
pub use Rattle.model.specs.declared.types.operations.Reply.{Reply}
pub use Rattle.model.specs.declared.types.operations.Reply.TheVariants.{BadOffset, BadType, Bytes, Done, Made, NoFile, NoInode, StatOf, TooBig, TooLong, Wrote}
pub use Rattle.model.specs.declared.types.operations.TaskProgress.{TaskProgress}
pub use Rattle.model.specs.declared.types.operations.Why.{Why}
pub use Rattle.model.specs.declared.types.progress.Progress.{Progress}
pub use Rattle.wal.specs.Get.{Get}
pub use Rattle.wal.specs.Held.{GetsLock, GivesUpLock, HasLock, HoldsBlock, IsLocked, LeavesLocks, LocksAfter, WaitsFor}
pub use Rattle.wal.specs.Joint.{Joint, seen, stepped_at}
pub use Rattle.wal.specs.Lemmas.Held.{held_is, none_locked}
pub use Rattle.wal.specs.Lemmas.Rooms.{begun_grows, ended_grows, GrowsHomes, noted_among, noted_grows, noted_home, used_begun, used_ended, used_first, used_noted, used_noted_new}
pub use Rattle.wal.specs.Machine.{begun, is_among, is_quiet, IsLogAt, LogState, new_log, noted, SameGroups, used_by}
pub use Rattle.wal.specs.Volume.{cause_of_get, cause_to_get, FailsToFill, fault_of_get, fault_of_task, faults_after, get_answer, get_answer_by, GetsFor, Holds, OnFault, OnSleeping, progress_of, UnlessFault, VolumeState}
pub use Rattle.wal.specs.declared.types.DeviceFault.{DeviceFault}
pub use Rattle.inodes.specs.Creation.{AreUsed, is_free_in, lowest_free}
pub use Rattle.inodes.specs.Freeing.{after_use, answer_by, block_by, block_next, Changes, entries_kept, first_freeing, FreesOn, GetsNext, got_in, got_or, HasBit, HasOne, HoldsBlocks, HoldsGot, image_by, IsGot, IsKept, kept_then, MayFree, MayGet, no_block_kept, now_by, now_of, slot_kept, taken, UsesBlock, when_got}
pub use Rattle.inodes.specs.Goes.{FindsNone, free_at, GetsBlock, GivesUp, Goes, GoesFrom, IsTurn, LooksAtBlock, over, stage_by, stage_of_lock, stage_of_reading, stage_of_trunc, stage_of_writing, progress_by, progress_of_lock, progress_of_read, progress_of_search, progress_of_trunc, progress_of_write, Shown, shown_of, ShowsSame, table_by, table_of_trunc, table_of_writing, Truncates, WritesOn, SetsOn, progress_of_setting, stage_of_setting, table_of_setting}
pub use Rattle.inodes.specs.Grips.{Grip, grip, HasNumber, HasPlaceForEach, HolderIsAnother, IsCopy, IsTable, IsTableAtOpening, KeepsTable, KeepsUsedInodes, KeptByImage, KeptByLeave, KeptByLock, KeptByRefer, KeptByRenew, locked_grip, LocksExclude, named, Stays, TableIs, unlocked_grip, with_grip}
pub use Rattle.inodes.specs.Growing.{bytes_by, bytes_of, growth_of, HasComeTo, HasNoEntry, IsMapping, IsOnWay, next_block, taken_at, taken_by, taken_on_way, TakesIn}
pub use Rattle.inodes.specs.Holding.{above_by, above_hand, AreGivenUp, block_of_got, claim_by, claim_of, claims_of, first_kept, hand_in, HasGivenUp, held_of, IsAtDirect, IsAtEntry, IsInHand, IsTruncating, Keeps, last_kept, made_so_far, one_for, root_of, stage_left, trunc_op, truncs_left, uses_left, way_of, IsSetting}
pub use Rattle.inodes.specs.Ialloc.{at_next_block, at_slot, BuffersAfter, current_after, fault_in, finds, is_last_block, IsFree, IsReady, log_after, MayStep, OnMore, SearchGoes, SearchLocks, SearchState, SearchSteps, SeesNoneFree, with_new_inode, with_released}
pub use Rattle.inodes.specs.Ilock.{at_lock, Locks, LockSteps, MayLock, MayLockAt, ReadsInode, Refers}
pub use Rattle.inodes.specs.Itrunc.{address_left, address_or_on, after_trunc, at_address, at_block, at_branches, at_entries, branch_or_on, entry_or_on, first_trunc, FitsAt, freed_by, hand_by, inode_left, inode_without, IsBelow, last_inode_of, leads_to_data, left_by, present_from, unbegun}
pub use Rattle.inodes.specs.Iupdate.{first_update, Updates, UpdateState}
pub use Rattle.inodes.specs.LockState.{locks_left, LockState, place_of, slot_of}
pub use Rattle.inodes.specs.Looks.{AreLooking, CanLook, CanTake, HasAllRead, HasFiles, HasRead, HasRoom, HoldsInode, IsAtRead, IsLate, IsRead, IsTaking, IsWrite, LooksAt, WasAnswered}
pub use Rattle.inodes.specs.Stages.{asked, asked_by, block_at_stage, grip_at, grip_by, grip_of, grips_of, HasSlot, is_over, is_unturned, looks_left, most_behind, owes_reply, steps_left}
pub use Rattle.inodes.specs.Readi.{first_read, Gathers, HasRoomLeft, is_done, IsMade, IsReading, reads_left, ReadState, ReadSteps, Works}
pub use Rattle.inodes.specs.Steps.{Commits, is_made, IsHeldByAnother, LeavesLate, LeavesNumber, LeavesShares, Reads, SameShare, Steps, Waits, LogsBlock, LogsAtMost}
pub use Rattle.inodes.specs.Store.{Agrees, CanBegin, current_of, first_stage, first_taking, HasLogged, HaveLogged, HoldsAt, HoldsForFreeing, HoldsForWriting, IsOpenFor, IsSearching, IsStore, LoggedAt, reply_of, Stands, StoreState, with_begun, HoldsForSetting}
pub use Rattle.inodes.specs.Table.{AreCounted, copy_at, copy_in, entry_at, HasNot, HasPlace, HasPlaceFor, holder_at, holder_in, is_of, IsNumbered, kept, left, locked, new_table, or_else, place_for, references_at, references_in, referred, renewed, TableState, with_copy, with_holder, with_reference, without_reference}
pub use Rattle.inodes.specs.Tasks.{no_task, task, TaskState}
pub use Rattle.inodes.specs.Writei.{first_write, MapsOn, MayWrite, MayWriteAt, next_byte, next_place, piece, piece_of, place_of_mapped, with_piece, with_written, write_mapped, WritesNext, WriteState, WriteSteps}
pub use Rattle.inodes.specs.Writing.{alloc_left, at_hand, block_of_alloc, block_of_write, block_on_way, blocks_behind, blocks_left, counted, counted_of, extent_of, first_branch, hand_on_way, HasLoggedWrite, HasOpen, homes_beside, IsWriting, kept_by_write, kept_on_way, last_branch, most_beside, node_of_write, node_on_way, routes_of, slot_of_alloc, used_by_write, used_on_way, way_left, writes_for, writes_left, writes_left_at, most_logged}
pub use Rattle.inodes.specs.declared.freeing.Freeing.{Freeing}
pub use Rattle.inodes.specs.declared.freeing.Got.{Got}
pub use Rattle.inodes.specs.declared.freeing.Kept.{Kept}
pub use Rattle.inodes.specs.declared.ilock.LockAt.{LockAt}
pub use Rattle.inodes.specs.declared.itrunc.Itrunc.{Itrunc}
pub use Rattle.inodes.specs.declared.itrunc.TruncAt.{TruncAt}
pub use Rattle.inodes.specs.declared.table.InMemory.{InMemory}
pub use Rattle.inodes.specs.declared.tasks.Stage.{Stage}
pub use Rattle.inodes.specs.declared.writei.Extent.{Extent}
pub use Rattle.inodes.specs.declared.writei.WriteAt.{WriteAt}
