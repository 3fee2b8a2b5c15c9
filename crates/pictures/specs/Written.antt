-- The row of the writes.
use Rattle.std.specs.Prelude.{ℕ, ◌+◌, List, [], ◌++◌, codes, Option, Some, None}
use Rattle.wal.specs.declared.deeds.CommitDeed.{CommitDeed}
use Rattle.messages.specs.Deeds.{made_deed, role_text}
use Rattle.pictures.specs.Places.{column_x, row_y}
use Rattle.pictures.specs.Shapes.{counted_text, label_text, spot}
use Rattle.pictures.specs.declared.types.Frame.{Frame}
use Rattle.pictures.specs.declared.types.Moment.{Moment}

-- the block that is written
abbrev pub block_of : CommitDeed → ℕ
block_of (CommitDeed.LogBlock place home) = 3 + place
block_of (CommitDeed.Header count group) = 2
block_of (CommitDeed.Home b) = b
block_of CommitDeed.Clear = 2
block_of (CommitDeed.Sync part) = 2

-- the number of a write, as a stop counts it, and its block
unfoldable pub block_text : Frame → ℕ → ℕ → ℕ → List ℕ
block_text f x number b =
    counted_text (codes "m") (spot x (row_y f 22)) [] number
    ++ counted_text (codes "d") (spot x (row_y f 37)) (codes "block ") b

-- what it is
unfoldable pub role_rows : Frame → ℕ → CommitDeed → List ℕ
role_rows f x (CommitDeed.LogBlock place home) =
    counted_text (codes "d") (spot x (row_y f 50)) (codes "log ") place
    ++ counted_text (codes "d") (spot x (row_y f 63)) (codes "of ") home
role_rows f x (CommitDeed.Header count group) =
    label_text (codes "d") (spot x (row_y f 50)) (codes "header")
    ++ counted_text (codes "d") (spot x (row_y f 63)) (codes "n ") count
role_rows f x (CommitDeed.Home b) =
    label_text (codes "d") (spot x (row_y f 50)) (codes "home")
    ++ label_text (codes "d") (spot x (row_y f 63)) (role_text f.inode_count b)
role_rows f x CommitDeed.Clear = label_text (codes "d") (spot x (row_y f 50)) (codes "clear")
role_rows f x (CommitDeed.Sync part) = []

abbrev pub write_rows : Frame → Moment → CommitDeed → List ℕ
write_rows f m deed =
    block_text f (column_x m.column + 36) m.note.writes (block_of deed)
    ++ role_rows f (column_x m.column + 36) deed

unfoldable pub written_rows : Frame → Moment → CommitDeed → List ℕ
written_rows f m (CommitDeed.LogBlock place home) =
    write_rows f m (CommitDeed.LogBlock place home)
written_rows f m (CommitDeed.Header count group) = write_rows f m (CommitDeed.Header count group)
written_rows f m (CommitDeed.Home b) = write_rows f m (CommitDeed.Home b)
written_rows f m CommitDeed.Clear = write_rows f m CommitDeed.Clear
written_rows f m (CommitDeed.Sync part) =
    counted_text (codes "s") (spot (column_x m.column + 36) (row_y f 22)) (codes "sync ")
    m.note.syncs

abbrev pub rows_by : Option CommitDeed → Frame → Moment → List ℕ
rows_by None f m = []
rows_by (Some deed) f m = written_rows f m deed

-- WHAT STANDS BELOW A STEP in the row of the writes
unfoldable pub written_text : Frame → Moment → List ℕ
written_text f m = rows_by (made_deed m.note.step m.note.deed) f m
