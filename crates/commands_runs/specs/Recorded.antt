-- The steps of a run that were recorded, and their picture.
use Rattle.std.specs.Prelude.{ℕ, ◌+◌, Bool, true, List, [], length, min}
use Rattle.pictures.specs.Along.{left_along}
use Rattle.pictures.specs.Recorders.{heard}
use Rattle.pictures.specs.Timeline.{timeline_text}
use Rattle.pictures.specs.declared.recorder.Recorder.{Recorder}
use Rattle.pictures.specs.declared.types.FilesThen.{FilesThen}
use Rattle.pictures.specs.declared.types.Frame.{Frame}
use Rattle.player.specs.Told.{Told}

-- what a recorder has that heard of no turn
abbrev pub none_recorded : Recorder
none_recorded = record { moments = []; steps = 0 }

abbrev pub hear_of : Recorder → Told → Recorder
hear_of r told = heard told.event told.notes r

-- what it has that heard of these turns
abbrev pub recorded : List Told → Recorder
recorded tolds = left_along hear_of none_recorded tolds

-- the frame of a run of so many processes, over an image of so many inode numbers, on a disk that holds
-- writes back or doesn't: two columns are left free for the last files
abbrev pub frame_of : Bool → ℕ → ℕ → ℕ → Frame
frame_of holds processes inode_count columns = record {
  columns = min (columns + 2) 4294967295;
  processes = processes;
  inode_count = inode_count;
  holds = holds;
  has_files = true;
}

-- the picture of its steps, and of the files
abbrev pub run_picture : Bool → ℕ → ℕ → Recorder → List FilesThen → List ℕ
run_picture holds processes inode_count r files =
    timeline_text (frame_of holds processes inode_count (length r.moments)) r.moments files
