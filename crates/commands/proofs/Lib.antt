pub mod CopiedBlocks
