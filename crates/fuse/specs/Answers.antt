-- The bytes of answers.
use Rattle.std.specs.Prelude.{ℕ, List, ◌++◌, replicate}
use Rattle.byteorder.specs.Endian.{little_bytes}
use Rattle.fuse.specs.declared.answers.Attributes.{Attributes}
use Rattle.fuse.specs.declared.answers.FileSystem.{FileSystem}
use Rattle.fuse.specs.declared.answers.Opened.{Opened}

-- the header of an answer
unfoldable pub answer_header_bytes : ℕ → ℕ → ℕ → List ℕ
answer_header_bytes size error unique =
    little_bytes 4 size ++ (little_bytes 4 error ++ little_bytes 8 unique)

-- number, lengths and times of a file
unfoldable pub first_bytes : Attributes → List ℕ
first_bytes a =
    little_bytes 8 a.number ++ (little_bytes 8 a.size ++ (little_bytes 8 a.pieces
    ++ (little_bytes 8 a.seconds ++ (little_bytes 8 a.seconds ++ little_bytes 8 a.seconds))))

-- nanoseconds, mode, links, owner and group, and how long a block is
unfoldable pub second_bytes : Attributes → List ℕ
second_bytes a =
    little_bytes 4 a.nanoseconds ++ (little_bytes 4 a.nanoseconds ++ (little_bytes 4 a.nanoseconds
    ++ (little_bytes 4 a.mode ++ (little_bytes 4 a.links ++ (little_bytes 4 a.owner
    ++ (little_bytes 4 a.group ++ (replicate 4 0 ++ (little_bytes 4 1024 ++ replicate 4 0))))))))

-- what is told of a file
unfoldable pub attributes_bytes : Attributes → List ℕ
attributes_bytes a = first_bytes a ++ second_bytes a

-- what stands before it for a file of a name
unfoldable pub entry_head_bytes : ℕ → ℕ → ℕ → List ℕ
entry_head_bytes number generation valid =
    little_bytes 8 number ++ (little_bytes 8 generation ++ (little_bytes 8 valid
    ++ (little_bytes 8 valid ++ replicate 8 0)))

unfoldable pub attributes_head_bytes : ℕ → List ℕ
attributes_head_bytes valid = little_bytes 8 valid ++ replicate 8 0

-- a file of a name
unfoldable pub entry_answer_bytes : Attributes → ℕ → ℕ → List ℕ
entry_answer_bytes a generation valid =
    entry_head_bytes a.number generation valid ++ attributes_bytes a

unfoldable pub attributes_answer_bytes : Attributes → ℕ → List ℕ
attributes_answer_bytes a valid = attributes_head_bytes valid ++ attributes_bytes a

unfoldable pub opened_answer_bytes : Opened → List ℕ
opened_answer_bytes o = little_bytes 8 o.handle ++ (little_bytes 4 o.flags ++ replicate 4 0)

unfoldable pub wrote_answer_bytes : ℕ → List ℕ
wrote_answer_bytes count = little_bytes 4 count ++ replicate 4 0

unfoldable pub statfs_answer_bytes : FileSystem → List ℕ
statfs_answer_bytes f =
    little_bytes 8 f.blocks ++ (little_bytes 8 f.free ++ (little_bytes 8 f.free
    ++ (little_bytes 8 f.files ++ (little_bytes 8 f.free_files ++ (little_bytes 4 f.block_size
    ++ (little_bytes 4 f.name_size ++ (little_bytes 4 f.block_size ++ replicate 28 0)))))))

unfoldable pub init_answer_bytes : ℕ → ℕ → ℕ → ℕ → List ℕ
init_answer_bytes readahead flags most pages =
    little_bytes 4 7 ++ (little_bytes 4 31 ++ (little_bytes 4 readahead ++ (little_bytes 4 flags
    ++ (little_bytes 2 16 ++ (little_bytes 2 12 ++ (little_bytes 4 most ++ (little_bytes 4 1
    ++ (little_bytes 2 pages ++ replicate 34 0))))))))

unfoldable pub directory_entry_bytes : ℕ → ℕ → ℕ → ℕ → List ℕ
directory_entry_bytes number next name_size kind =
    little_bytes 8 number ++ (little_bytes 8 next ++ (little_bytes 4 name_size
    ++ little_bytes 4 kind))
