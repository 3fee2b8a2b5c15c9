-- The page of a run: the constant page, and in it the run as lines of JSON.
use Rattle.std.specs.Prelude.{ℕ, Bool, ◌==◌, if◌then◌else◌, List, [], ◌++◌, codes, length, Option}
use Rattle.std.specs.List.{flat_map, list_all, range_with_len}
use Rattle.blocks.specs.Disk.{Image, block_at}
use Rattle.json_lines.specs.Blocks.{block_field}
use Rattle.json_lines.specs.Fields.{first_number, number_field}
use Rattle.pictures.specs.declared.types.FileLine.{FileLine}
use Rattle.pictures.specs.declared.types.FilesThen.{FilesThen}
use Rattle.pictures.specs.declared.stops.Column.{Column}
use Rattle.pictures.specs.declared.stops.Lost.{Lost}
use Rattle.scripts.specs.declared.script.Task.{Task}
use Rattle.explorer_page.specs.Operations.{task_object}
use Rattle.explorer_page.specs.Texts.{disk_text, ending_text, opening_text, page_text}
use Rattle.explorer_page.specs.Tried.{tried_text}

-- ---- the image as the disk was opened

unfoldable pub image_line : ℕ → ℕ → Bool → List ℕ
image_line size inode_count holds =
    first_number (codes "image") size ++ number_field (codes "inodes") inode_count
    ++ number_field (codes "holds") (if holds then 1 else 0) ++ codes "}\n"

unfoldable pub block_object : ℕ → List ℕ → List ℕ
block_object b bytes = first_number (codes "block") b ++ block_field bytes ++ codes "}\n"

abbrev pub is_zero : List ℕ → Bool
is_zero bytes = list_all (λ byte. byte == 0) bytes

-- nothing of a block that has zeroes alone
abbrev pub block_line : ℕ → List ℕ → List ℕ
block_line b bytes = if is_zero bytes then [] else block_object b bytes

-- those of all blocks
abbrev pub block_lines : Image → List ℕ
block_lines x = flat_map (λ b. block_line b (block_at x b)) (range_with_len 0 (length x))

unfoldable pub image_text : ℕ → Bool → Image → List ℕ
image_text inode_count holds x = image_line (length x) inode_count holds ++ block_lines x

-- ---- the files that recovery gives where the run stops

-- behind so many writes
unfoldable pub stop_object : ℕ → List ℕ
stop_object writes = first_number (codes "behind") writes ++ codes "}\n"

unfoldable pub file_object : FileLine → List ℕ
file_object line =
    first_number (codes "file") line.number ++ number_field (codes "type") line.kind
    ++ number_field (codes "size") line.size ++ codes "}\n"

unfoldable pub stop_text : FilesThen → List ℕ
stop_text stop = stop_object stop.column ++ flat_map file_object stop.lines.items

-- ---- the page

-- THE LINES OF JSON of a run: over a disk of this image, which holds writes back or doesn't, of these
-- operations, with what was told of its turns, the files at its stops, and those stops that were tried
unfoldable pub data_text : ℕ → Bool → Image → List Task → List ℕ → List FilesThen → List Column
    → Option Lost → List ℕ
data_text inode_count holds x tasks told files tried lost =
    image_text inode_count holds x ++ flat_map task_object tasks ++ told
    ++ flat_map stop_text files ++ tried_text tried lost

-- THE PAGE with these lines of JSON in it
abbrev pub explorer_text : List ℕ → List ℕ
explorer_text lines = opening_text ++ lines ++ disk_text ++ page_text ++ ending_text
