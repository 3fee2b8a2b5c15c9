-- The names that most proofs of this crate cite, passed on from one place. Declares nothing.
pub use Rattle.blocks.specs.Disk.{block_at, Image, IsImage}
pub use Rattle.conversion.specs.Converted.{chosen_size, FilesComeOver, is_room, IsConverted, IsRefusal, IsUnmoved, least_size}
pub use Rattle.conversion.specs.Moving.{goal_in, is_moved_mark, is_node, is_node_in, moved, moved_block, moved_data, moved_inode, moved_inode_bytes, moved_marks, source_in}
pub use Rattle.conversion.specs.Older.{behind_log, bitmap_behind, is_log_length, is_older_super, is_size_with, meta_with, older_file, older_files, older_labels, super_with}
pub use Rattle.conversion.specs.Prepared.{AreNoted, IsPlanned, IsPlanOf, IsPrepared, NotesNode}
pub use Rattle.blocks.specs.Block.{overwritten}
pub use Rattle.blocks.specs.Calls.{OnlyReads}
pub use Rattle.blocks.specs.Lemmas.Reads.{reads_none, reads_then}
pub use Rattle.model.specs.Codec.{bytes_of_words}
pub use Rattle.model.specs.Fields.{words_of}
