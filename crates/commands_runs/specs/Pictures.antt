-- What became of the disk in a file over which a script's operations were made, and drawn or not.
use Rattle.std.specs.Prelude.{◌≡◌, ◌<◌, ◌≤◌, ⊤, ℕ, min, Bool, List, Option, Some, None, codes}
use Rattle.blocks.specs.Disk.{Image}
use Rattle.blocks.specs.declared.file.FileDisk.{FileDisk}
use Rattle.cmd.specs.Lemmas.Disks.{file_disk}
use Rattle.cmd.specs.Opened.{OpensDisk}
use Rattle.messages.specs.declared.deeds.Detail.{Detail}
use Rattle.messages.specs.Telling.{Telling, naming, plain}
use Rattle.model.specs.Layout.{inode_count_of}
use Rattle.pictures.specs.Along.{left_along}
use Rattle.pictures.specs.declared.recorder.Recorder.{Recorder}
use Rattle.pictures.specs.declared.types.FilesThen.{FilesThen}
use Rattle.player.specs.Told.{Told, in_lines}
use Rattle.scripts.specs.declared.schedule.Word.{Word}
use Rattle.scripts.specs.declared.script.Task.{Task}
use Rattle.commands_runs.specs.Images.{opened_image}
use Rattle.commands_drawing.specs.Drawn.{IsDrawn, picture_telling}
use Rattle.commands_runs.specs.Filed.{AreFiled, HasFiles, stops_of}
use Rattle.commands_runs.specs.Recorded.{hear_of, recorded, run_picture}
use Rattle.commands_runs.specs.Runs.{IsReplayed, IsReplayedSo, IsUnreplayed, replay_files_telling}
use Rattle.commands_runs.specs.declared.anew.Anew.{Anew}
use Rattle.commands_drawing.specs.declared.drawing.PictureFault.{PictureFault}
use Rattle.commands_runs.specs.declared.picturing.PicturedRefusal.{PicturedRefusal}
use Rattle.commands_runs.specs.declared.picturing.PicturedRefusal.TheVariants.{NoMemory, Replay, TooLong, Unfiled, Picture}
use Rattle.commands_runs.specs.declared.scene.Scene.{Scene}

-- how the refusals are told
abbrev pub pictured_telling : PicturedRefusal → Telling
pictured_telling NoMemory = plain (codes "picture") 1 (codes "NoMemory")
pictured_telling (Replay r) = replay_files_telling r
pictured_telling Unfiled = plain (codes "picture") 1 (codes "NoMemory")
pictured_telling (TooLong steps) = naming (codes "picture") 2 (codes "TooLong") steps
pictured_telling (Picture f) = picture_telling f

-- ---- a run

-- this is what it was made of: these operations, in the turns of these words, over a disk of such an
-- image, which holds writes back or doesn't
pub record IsMadeOf (anew : Anew) (sync : Bool) (x : Image) (ops : List Task) (count : ℕ)
    (turns : List Word) : Type 0 where
  pub image : opened_image anew.opened ≡ x
  pub holds : anew.holds ≡ sync
  pub tasks : anew.tasks.items ≡ ops
  pub processes : anew.processes ≡ count
  pub words : anew.words.items ≡ turns

-- This is told of it besides its steps, and who had heard of so much before its turns heard of these,
-- too.
pub record IsSceneOf {F : Type 0} (old new : Recorder) (holds : Bool) (scene : Scene)
    (tasks : List Task) (processes : ℕ) (words : List Word) (tolds : List Told) (d e : FileDisk F)
    : Type 0 where
  pub made : IsMadeOf scene.anew holds (file_disk.image d) tasks processes words
  pub count : scene.inode_count ≡ inode_count_of (file_disk.image e)
  pub heard : new ≡ left_along hear_of old tolds

-- a file got the picture of a run of these operations, in the turns of these words, over a disk whose
-- image was x: of its steps that were recorded, and of the files at the opening and behind each step
-- with which a group was committed, each time those that a stop there leaves
pub record IsPictured {F : Type 0} (contents : F → Option (List ℕ)) (holds : Bool) (x : Image)
    (tasks : List Task) (processes : ℕ) (words : List Word) (inode_count : ℕ) (r : Recorder)
    : Type 0 where
  pub files : List FilesThen
  pub filed : AreFiled (HasFiles holds x tasks processes words) (stops_of r.moments) files
  pub drawn : IsDrawn contents (run_picture holds processes inode_count r files)

-- a picture has so many steps, and a file got that of the run
abbrev pub HasPicture : {F : Type 0} → (F → Option (List ℕ)) → Bool → List Task → ℕ → List Word
    → List Told → FileDisk F → FileDisk F → Type 0
HasPicture contents holds tasks processes words tolds d e = ((recorded tolds).steps ≤ 2000)
    × IsPictured contents holds (file_disk.image d) tasks processes words
    (inode_count_of (file_disk.image e)) (recorded tolds)

-- why none did
abbrev pub IsUndrawn : PicturedRefusal → Recorder → Type 0
IsUndrawn NoMemory r = ⊥
IsUndrawn (Replay refusal) r = ⊥
IsUndrawn (TooLong steps) r = (2000 < r.steps) × (steps ≡ min r.steps 4294967295)
IsUndrawn Unfiled r = r.steps ≤ 2000
IsUndrawn (Picture f) r = r.steps ≤ 2000

abbrev pub HasNoPicture : {F : Type 0} → PicturedRefusal → List Task → ℕ → List Word → List Told
    → FileDisk F → FileDisk F → Type 0
HasNoPicture refusal tasks processes words tolds d e = IsUndrawn refusal (recorded tolds)

-- with this none was begun
abbrev pub IsUnbegun : PicturedRefusal → Type 0
IsUnbegun NoMemory = ⊤
IsUnbegun (Replay refusal) = ⊤
IsUnbegun (TooLong steps) = ⊤
IsUnbegun Unfiled = ⊤
IsUnbegun (Picture f) = ⊥

-- why it wasn't replayed and drawn: nothing was done, the replay was refused, or it was made and printed,
-- and not drawn
abbrev pub IsUnpictured : {F : Type 0} → (F → Option (List ℕ)) → Bool → Detail → ℕ
    → Option (List ℕ) → Option (List ℕ) → Type 0 → PicturedRefusal → Type 0
IsUnpictured remaining holds detail stop old new none NoMemory = none
IsUnpictured remaining holds detail stop old new none (Replay r) =
    IsUnreplayed remaining holds (in_lines detail) stop old new none r
IsUnpictured remaining holds detail stop old new none refusal =
    OpensDisk remaining file_disk holds
    (IsReplayedSo (in_lines detail) stop old new (HasNoPicture refusal))
