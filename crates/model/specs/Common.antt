-- The names that most proofs of this crate cite, passed on from one place. Declares nothing.
pub use Rattle.std.proofs.lemmas.Bool.{and_cases, and_parts, both_ways, cases_Bool, cases_eq, cases_lt, eq-eqb, eqb-false, eqb-true, le-leb, le-ltb, leb-true, lt-leb, lt-ltb, ltb-false, ltb-true, ne_eqb, not-false, not-true, or_parts}
pub use Rattle.std.proofs.lemmas.List.{append-nil, append_assoc, drop-drop, drop-replicate, drop-take, drop_all, drop_at, ext_get_or, get_or-append_right, get_or-drop, get_or-replicate, get_or-set_other, get_or-set_same, get_or-take, get_or_append_left, get_or_past, length-append, length-drop, length-replicate, length-set, length-take, length-take-le, map-append, same_lists, set_past, set_split, take-append-drop, take-replicate, take-take, take_at, take_more}
pub use Rattle.std.proofs.lemmas.List.Edits.{get_or-between, length-between}
pub use Rattle.std.proofs.lemmas.List.Elements.{All-from_recursion, filter-append, recursion_from_All}
pub use Rattle.std.proofs.lemmas.List.Folds.{list_all-append, list_any_at}
pub use Rattle.std.proofs.lemmas.List.FromFn.{get_or-map-range_with_len, get_or-range_with_len, length-map-range_with_len, length-range_with_len, map-range_with_len_more}
pub use Rattle.std.proofs.lemmas.Nat.{div-add-mod', div_below, or_lt, pow_below}
pub use Rattle.blocks.specs.Block.{IsBlock, overwritten}
pub use Rattle.blocks.specs.Disk.{block_at, Image, IsImage}
pub use Rattle.blocks.specs.Lemmas.Blocks.{is_block-zero_block, length-zero_block}
pub use Rattle.byteorder.specs.Numbers.{little_from-lt, little_number-reads_back}
pub use Rattle.model.specs.Fields.{words_of}
pub use Rattle.model.specs.Files.{blocks_for, data_at, file_at, file_count, file_in, Files, files_of}
pub use Rattle.model.specs.Laws.{AtOnceIsNotChanging, AtOnceIsRefused, CountStays, FirstBits, FramesContents, HomesAreRewritten, HomeWritesKeep, is_home, is_still, RecoversOnce, RefusalsFirst, RefusalsKeep, ReplaysInParts, SameOutsideLog, SameWhenCleared, SameWhenRecovered, VerdictIsFirst, VerdictIsSound}
pub use Rattle.model.specs.Layout.{are_alike, depths, first_data_block, form_of, greatest_size, has_known_magic, inode_block, inode_bytes, inode_bytes_in, inode_count_of, is_inode_count, is_known_magic, is_lawful_super, is_marked, is_size, magic_at, magic_of, meta_count, planned_super, reach, super_of}
pub use Rattle.model.specs.Log.{are_distinct, are_in_place, block_from_log, cleared, homes_in, homes_of, is_lawful_log, logged_count, logged_in, place_among}
pub use Rattle.model.specs.Places.{address_along, address_under, addresses_in, numbers_of, places_of, pointer_of, pointers_along, pointers_behind, pointers_of, pointers_under}
pub use Rattle.model.specs.declared.types.fault.CheckFault.{CheckFault}
pub use Rattle.model.specs.declared.types.fault.CheckFault.TheVariants.{BadAddress, BadGeometry, BadLog, BadMagic, BadSize, BadType, LostBlock, TwiceUsed, UsedButFree}
pub use Rattle.model.specs.declared.types.image.Dinode.{Dinode}
pub use Rattle.model.specs.declared.types.image.File.{File}
pub use Rattle.model.specs.declared.types.image.Form.{Form}
pub use Rattle.model.specs.declared.types.image.Form.TheVariants.{One, Two}
pub use Rattle.model.specs.declared.types.image.Pointer.{Pointer}
pub use Rattle.model.specs.declared.types.image.Super.{Super}
pub use Rattle.model.specs.declared.types.operations.Op.{Op}
pub use Rattle.model.specs.declared.types.operations.Reply.{Reply}
pub use Rattle.model.specs.declared.types.operations.Reply.TheVariants.{BadOffset, Bytes, Done, Made, NoFile, NoInode, StatOf, TooBig, TooLong, Wrote}
