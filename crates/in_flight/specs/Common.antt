-- The names that most proofs of this crate cite, passed on from one place. Declares nothing.
pub use Rattle.std.proofs.lemmas.Bool.{cases_eq, cases_lt, eq-eqb, false≢true, le-leb, le-ltb, leb-true, lt-ltb, ltb-true, ne_eqb, or_from, or_right}
pub use Rattle.std.proofs.lemmas.List.{ext_get_or, get_or-set_other, get_or-set_same, get_or_past, length-replicate, length-set, length-take-le, set_past}
pub use Rattle.std.proofs.lemmas.Nat.{div-add-mod', div-mul-add, div_below, mod-mul-add}
pub use Rattle.blocks.specs.Block.{overwritten}
pub use Rattle.blocks.specs.Disk.{block_at, Image, IsImage}
pub use Rattle.model.specs.Agreement.{Agrees, AgreesFor, all_pass, is_outside_log, IsSameOutsideLog}
pub use Rattle.model.specs.Codec.{dinode_bytes, IsDinode, made_image, new_inode, with_bit, with_entry, with_inode, with_inode_bytes, without_bit}
pub use Rattle.model.specs.Crash.{labels_of}
pub use Rattle.model.specs.Fields.{has_bit, u32_at, words_of}
pub use Rattle.model.specs.Files.{blocks_for, data_at, file_at, file_in, Files, files_of}
pub use Rattle.model.specs.Journal.{is_number}
pub use Rattle.model.specs.Layout.{depths, direct_count, first_data_block, form_of, greatest_size, inode_block, inode_bytes, inode_bytes_in, inode_count_of, inode_in, is_known_magic, is_lawful_super, is_marked, meta_count, reach, super_in, super_of}
pub use Rattle.model.specs.Lemmas.Bits.{has_bit-with_bit_other, has_bit-with_bit_same, has_bit-without_bit_other, has_bit-without_bit_same, length-with_bit, length-without_bit}
pub use Rattle.model.specs.Lemmas.Bytes.{byte_at, file_used, IsFullAt, length-bytes_in}
pub use Rattle.model.specs.Lemmas.Codecs.{get_or-overwritten_before, get_or-overwritten_behind, get_or-overwritten_in, length-dinode_bytes, length-overwritten, overwritten-join, words_of-with_entry}
pub use Rattle.model.specs.Lemmas.Counts.{All-range, All-range_at, all_weaker, AllByRecursion-append, AllByRecursion-parts, count_flat, count_flat_one, count_of-All, count_of-append, count_two, flat_at}
pub use Rattle.model.specs.Lemmas.Frames.{address_agree, Agrees-set, all_pass-append, along_address, bytes_agree, file_agree, form_agree, pointers_agree, pointers_free, pointers_used, under_zero}
pub use Rattle.model.specs.Lemmas.Inodes.{inode_bytes-with_inode_other, inode_of-with_inode, inode_of-with_inode_other, is_dinode-inode_of, is_dinode-new_inode, IsPlaced}
pub use Rattle.model.specs.Lemmas.Log.{both_of, none_cleared}
pub use Rattle.model.specs.Lemmas.Names.{pointers_named}
pub use Rattle.model.specs.Lemmas.OutsideLog.{behind_log, cleared_outside, flat_map_range_same, inode_agree}
pub use Rattle.model.specs.Lemmas.Runs.{after-made}
pub use Rattle.model.specs.Lemmas.Soundness.{facts_of, inode_in_data, IsInData, long_geometry}
pub use Rattle.model.specs.Lemmas.Wholes.{filled_whole, names_used, reach_pos, thirteen_depths}
pub use Rattle.model.specs.Lemmas.Words.{length-words_of-block}
pub use Rattle.model.specs.Names.{names_along, names_under}
pub use Rattle.model.specs.Operations.{may_have_written, part_of, transfer_limit, with_bytes}
pub use Rattle.model.specs.Places.{address_along, address_under, addresses_in, places_of, pointers_along, pointers_behind, pointers_in, pointers_of, pointers_under}
pub use Rattle.model.specs.Soundness.{count_of, IsFilled, IsLawfulGeometry, IsLawfulInode, IsSound}
pub use Rattle.model.specs.declared.types.image.Dinode.{Dinode}
pub use Rattle.model.specs.declared.types.image.File.{File}
pub use Rattle.model.specs.declared.types.image.Form.{Form}
pub use Rattle.model.specs.declared.types.image.Form.TheVariants.{One, Two}
pub use Rattle.model.specs.declared.types.image.Super.{Super}
pub use Rattle.model.specs.declared.types.operations.Op.TheVariants.{Read, Stat, Write}
pub use Rattle.model.specs.declared.types.operations.Reply.TheVariants.{Bytes, StatOf, Wrote}
pub use Rattle.in_flight.specs.GrowthLaws.{AddressPlaced, BlockTaken, BytesWritten, DataKeeps, EntryPlaced, GrowthAnswers, GrowthHasBlocks, GrowthKeeps, GrowthRests, HasGrowthBlocks, LeadsToNone, RestingRefuses, SetBitKeeps, TakenZeroed, TurnGrows, WritesNext}
pub use Rattle.in_flight.specs.Held.{AreAtRest, blocks_left, Claim, Claims, file_left, FitsHeld, frees, grows, Growth, Held, IsClaimedNow, IsFine, IsGrowing, IsHeld, last_inode, listed, marked, most_left, names_claimed, names_held, owned, placed_behind, placing, reaching, taking, unmarked, without_address}
pub use Rattle.in_flight.specs.HeldLaws.{BlockGivenUp, ClaimFits, ClearedBitKeeps, DirectGivenUp, EntryPassed, FewLeft, FitsAtRest, FitsThen, FreeTells, HasSameFile, HeldHasBlocks, HeldOutsideLog, IsGivenUp, IsHeldIn, IsMarkedData, KeepsGrown, LeavesAsMany, RestingTells, RestsSoundly, StaysHeld, TreeGivenUp, TurnAnswers, TurnHolds, WriteBackKeeps, WriteBackRests}
pub use Rattle.in_flight.specs.Loose.{AreFull, Fits, IsAtRest, IsFit, IsLoose, IsWhole, LiesInData}
pub use Rattle.in_flight.specs.Trees.{depth_of, entry_of, Gives, IsFirstTree, LeavesAlike, led_to, left_along, left_under, names_left, place_along, place_of, place_under, way_to}
