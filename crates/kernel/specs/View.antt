-- A store as the facts of journal and store see it.
use Rattle.std.specs.Option.{option_map}
use Rattle.std.specs.Prelude.{if◌then◌else◌, Option, None}
use Rattle.blocks.specs.Disk.{Image}
use Rattle.inodes.specs.Store.{StoreState, FitsFiles, current_of}
use Rattle.inodes.specs.Stages.{owes_reply}
use Rattle.inodes.specs.Tasks.{TaskState, task}
use Rattle.history.specs.Open.{Held, held_by}
use Rattle.history.specs.Views.{View}

-- what a task holds: its inode where its reply is still to come behind its turn, else nothing
abbrev pub held_at : TaskState → Option Held
held_at t = if owes_reply t.stage then option_map held_by t.op else None

abbrev pub view_of : {D : Type 0} → (D → Image) → StoreState D → View
view_of image s = record {
  disk = image s.volume.device;
  current = current_of image s.volume;
  log = s.volume.log;
  holds = λ q. held_at (task s.tasks q);
  fits = λ m. FitsFiles image s m;
}
