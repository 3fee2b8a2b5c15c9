-- Where the parts of a run's drawing stand, in pixels.
use Rattle.std.specs.Prelude.{ℕ, ◌+◌, ◌*◌, if◌then◌else◌}
use Rattle.pictures.specs.declared.types.Frame.{Frame}

-- the left edge of a column
abbrev pub column_x : ℕ → ℕ
column_x column = 72 * column

-- the upper edge of a process's lane
abbrev pub lane_y : ℕ → ℕ
lane_y process = 56 + 40 * process

-- what is so far below the lanes
abbrev pub row_y : Frame → ℕ → ℕ
row_y f below = lane_y f.processes + below

-- the columns, and one behind them
abbrev pub sheet_width : Frame → ℕ
sheet_width f = column_x f.columns + 72

abbrev pub drawing_height : Frame → ℕ
drawing_height f = if f.has_files then row_y f 222 else row_y f 106
