-- The names that most proofs of this crate cite, passed on from one place. Declares nothing.
pub use Rattle.blocks.specs.Block.{overwritten, zero_block}
pub use Rattle.model.specs.Codec.{bytes_of_words, super_words}
pub use Rattle.model.specs.Fields.{u32_at, words_of}
pub use Rattle.model.specs.Lemmas.Codecs.{block_of_words_written, homes_in-header_block, inode_bytes_in-with_inode_bytes_other, inode_in-with_inode_bytes, logged_in-header_block, magic-super_block, overwritten_zeroes, super_in-super_block, words_of-with_entry}
