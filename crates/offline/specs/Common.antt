-- The names that most proofs of this crate cite, passed on from one place. Declares nothing.
pub use Rattle.std.proofs.lemmas.Bool.{cases_eq, cases_lt, le-ltb, lt-ltb, ltb-false, ltb_from_iff, ne_eqb}
pub use Rattle.std.proofs.lemmas.List.{append-nil, append_assoc, at_drop_all, at_drop_more, drop_all, drop_more, get_or-replicate, get_or-set_other, get_or-set_same, get_or_past, get_or_read, length-append, length-replicate, length-set, length-take-le, take-append-le, take_all, take_more}
pub use Rattle.std.proofs.lemmas.Option.{get_or_from_slice_get}
pub use Rattle.std.proofs.lemmas.Result.{err_from_is_err_and, IfOk-weaker, on_ok_weaker}
pub use Rattle.blocks.specs.Block.{IsBlock, overwritten}
pub use Rattle.blocks.specs.Calls.{OnlyReads, UnlessHolds}
pub use Rattle.blocks.specs.Disk.{block_at, counted, Elapses, Image, IsImage, IsOldOrNew, IsSettled, LeavesOnly, one_more, Rose}
pub use Rattle.blocks.specs.Lemmas.Reads.{reads_none, reads_then}
pub use Rattle.model.specs.Codec.{first_bits, made_block, super_block}
pub use Rattle.model.specs.Faults.{inodes_faults, listed, marks_faults, pointer_faults}
pub use Rattle.model.specs.Fields.{u32_at, words_of}
pub use Rattle.model.specs.Files.{bytes_in, file_at, file_count, files_of}
pub use Rattle.model.specs.Layout.{depths, form_of, greatest_size, has_known_magic, inode_block, inode_count_of, inode_of, is_known_magic, is_lawful_super, magic_of, meta_count, reach, super_in, super_of}
pub use Rattle.model.specs.Lemmas.Frames.{address_block, under_zero}
pub use Rattle.model.specs.Lemmas.Log.{length-recovered, recovered_at, recovered_block-header, recovered_empty, recovered_low}
pub use Rattle.model.specs.Lemmas.Names.{addresses_in-append, pointers_named}
pub use Rattle.model.specs.Lemmas.Recovery.{few_homes, no_homes, place_below}
pub use Rattle.model.specs.Lemmas.Soundness.{facts_of, inode_in_data, IsInData, long_geometry, places_below_next, verdict_sound}
pub use Rattle.model.specs.Lemmas.Steps.{flat_mapped_more, flat_mapped_next, mapped_more}
pub use Rattle.model.specs.Lemmas.Super.{lawful_geometry, super_of-recovered}
pub use Rattle.model.specs.Lemmas.Verdict.{first_here, first_later, first_none, or_else-assoc}
pub use Rattle.model.specs.Lemmas.Wholes.{filled_whole, names_used, reach_pos}
pub use Rattle.model.specs.Log.{block_from_log, homes_of, is_lawful_log, logged_count, place_among, recovered}
pub use Rattle.model.specs.Operations.{part_of}
pub use Rattle.model.specs.Places.{address_along, address_under, addresses_in, places_of, pointer_of, pointers_along, pointers_behind, pointers_of, pointers_under}
pub use Rattle.model.specs.Verdict.{address_fault, first_of, first_pointer_fault, geometry_fault, inodes_fault, log_fault, mark_fault, marks_fault, or_else, places_below, pointer_fault}
pub use Rattle.model.specs.declared.types.fault.CheckFault.{CheckFault}
pub use Rattle.model.specs.declared.types.fault.CheckFault.TheVariants.{BadGeometry, BadLog, BadMagic, BadSize, BadType, Disk, NoMemory}
pub use Rattle.model.specs.declared.types.image.Dinode.{Dinode}
pub use Rattle.model.specs.declared.types.image.Form.{Form}
pub use Rattle.model.specs.declared.types.image.Pointer.{Pointer}
pub use Rattle.model.specs.declared.types.image.Super.{Super}
pub use Rattle.offline.specs.Cause.{GoesThrough, IsBreak, IsCause, source_among, source_at}
pub use Rattle.offline.specs.Hearing.{BreaksOff, HearsFirst, TellsAll, TellsAlone}
pub use Rattle.offline.specs.Notes.{early_fault, HasNoted, judged_faults, NotesInode, NotesPointers, NotesUpTo}
pub use Rattle.offline.specs.Owners.{entry_pointers, Judges, JudgesAddress, JudgesInode, JudgesInodes, SameLimits, Stand, there}
pub use Rattle.offline.specs.Recovered.{IsHeaderOf, IsRecoveredOf, LeadsAlong, LeadsUnder, LiesBehindLog, MayReadFile}
pub use Rattle.offline.specs.declared.owners.Owners.{Owners}
