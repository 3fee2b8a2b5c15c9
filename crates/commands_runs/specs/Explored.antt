-- A run that one walks through, stop by stop: what was gathered of it, and its page.
use Rattle.std.specs.Prelude.{◌≡◌, ◌≤◌, ◌<◌, ℕ, ◌+◌, ◌==◌, ◌&&◌, not, min, Bool, true, false, if◌then◌else◌, List, [], ◌∷◌, ◌++◌, length, Option, Some, None, slice_index}
use Rattle.std.specs.List.{flat_map}
use Rattle.blocks.specs.Disk.{Image, one_more}
use Rattle.blocks.specs.declared.file.FileDisk.{FileDisk}
use Rattle.cmd.specs.Lemmas.Disks.{file_disk}
use Rattle.cmd.specs.Opened.{OpensDisk}
use Rattle.explorer_page.specs.Page.{data_text, explorer_text}
use Rattle.json_lines.specs.declared.written.Written.{Written}
use Rattle.messages.specs.declared.deeds.Detail.{Detail}
use Rattle.model.specs.Layout.{inode_count_of}
use Rattle.pictures.specs.Along.{left_along}
use Rattle.pictures.specs.declared.stops.Column.{Column}
use Rattle.pictures.specs.declared.stops.Lost.{Lost}
use Rattle.pictures.specs.declared.types.FilesThen.{FilesThen}
use Rattle.player.specs.Told.{Told, in_lines, in_objects}
use Rattle.scripts.specs.declared.schedule.Word.{Word}
use Rattle.scripts.specs.declared.script.Task.{Task}
use Rattle.commands_runs.specs.Images.{opened_image}
use Rattle.commands_drawing.specs.Drawn.{IsDrawn}
use Rattle.commands_runs.specs.Filed.{AreFiled, HasFiles, first_stop}
use Rattle.commands_runs.specs.Runs.{IsReplayedSo, IsUnreplayed}
use Rattle.commands_runs.specs.Writes.{AreItsWrites}
use Rattle.commands_runs.specs.declared.changes.Stop.{Stop}
use Rattle.commands_runs.specs.declared.gathered.Gathered.{Gathered}
use Rattle.commands_runs.specs.declared.picturing.PicturedRefusal.{PicturedRefusal}
use Rattle.commands_runs.specs.declared.picturing.PicturedRefusal.TheVariants.{NoMemory, Replay, TooLong, Unfiled, Picture}
use Rattle.commands_runs.specs.declared.scene.Scene.{Scene}

-- ---- what is gathered turn by turn

-- nothing yet, of a run over an image of so many inode numbers that makes these writes
pub record IsUnheard (inode_count : ℕ) (written : List Written) (g : Gathered) : Type 0 where
  pub count : g.inode_count ≡ inode_count
  pub writes : g.written.items ≡ written
  pub text : g.text.items ≡ []
  pub steps : g.steps ≡ 0

-- so many steps, and those of a turn
abbrev pub steps_then : ℕ → Told → ℕ
steps_then steps told = min (steps + length told.notes) 18446744073709551615

-- the objects of a turn
abbrev pub turn_objects : Gathered → Told → List ℕ
turn_objects g told = (in_objects g.written.items).of_turn g.inode_count told

-- a turn was heard of: its steps are counted, and its objects there, unless memory was refused
pub record HearsObjects (told : Told) (old new : Gathered) : Type 0 where
  pub count : new.inode_count ≡ old.inode_count
  pub writes : new.written.items ≡ old.written.items
  pub steps : new.steps ≡ steps_then old.steps told
  pub text : new.short ≡ false
      → (old.short ≡ false) × (new.text.items ≡ old.text.items ++ turn_objects old told)

-- the objects of turns, in a run of these writes over an image of n inode numbers
abbrev pub told_objects : List Written → ℕ → List Told → List ℕ
told_objects written n tolds = flat_map ((in_objects written).of_turn n) tolds

-- turns were heard of
pub record HeardAll (tolds : List Told) (a b : Gathered) : Type 0 where
  pub count : b.inode_count ≡ a.inode_count
  pub writes : b.written.items ≡ a.written.items
  pub steps : b.steps ≡ left_along steps_then a.steps tolds
  pub text : b.short ≡ false → (a.short ≡ false)
      × (b.text.items ≡ a.text.items ++ told_objects a.written.items a.inode_count tolds)

-- ---- the stops at which the files change

-- the write of a header that names homes: they are at most 30, so one byte has their number
abbrev pub commits : Written → Bool
commits w = (w.block == 2) && not (slice_index w.bytes 0 == 0)

-- behind so many writes, before the next
abbrev pub stop_after : ℕ → Stop
stop_after n = record { column = min n 4294967295; write = one_more n }

-- behind the n-th write, where a group is committed with it
abbrev pub stops_with : ℕ → Written → List Stop
stops_with n w = if commits w then stop_after n ∷ [] else []

-- those of writes that are numbered from n on
abbrev pub stops_from : ℕ → List Written → List Stop
stops_from n [] = []
stops_from n (w ∷ ws) = stops_with n w ++ stops_from (n + 1) ws

-- at the opening, and behind each write with which a group was committed
abbrev pub stops_among : List Written → List Stop
stops_among written = first_stop ∷ stops_from 1 written

-- ---- the page of a run

-- how many steps they had
abbrev pub steps_of : List Told → ℕ
steps_of tolds = left_along steps_then 0 tolds

-- A file got the page of a run of these operations, in the turns of these words, over a disk whose image
-- was x: of the turns that were told, with the bytes of its writes, and with the files at the opening and
-- behind each write with which a group was committed, each time those that a stop there leaves; and of
-- stops that were tried.
pub record IsExplored {F : Type 0} (contents : F → Option (List ℕ)) (holds : Bool) (x : Image)
    (tasks : List Task) (processes : ℕ) (words : List Word) (stop inode_count : ℕ) (tolds : List Told)
    (tried : List Column) (lost : Option Lost) : Type 0 where
  pub written : List Written
  pub files : List FilesThen
  pub writes : AreItsWrites holds x tasks processes words stop written
  pub filed : AreFiled (HasFiles holds x tasks processes words) (stops_among written) files
  pub drawn : IsDrawn contents (explorer_text
      (data_text inode_count holds x tasks (told_objects written inode_count tolds) files tried
      lost))

-- it has so many steps, and a file got it; no stop of it was tried
abbrev pub HasExplorer : {F : Type 0} → (F → Option (List ℕ)) → Bool → ℕ → List Task → ℕ → List Word
    → List Told → FileDisk F → FileDisk F → Type 0
HasExplorer contents holds stop tasks processes words tolds d e = (steps_of tolds ≤ 10000)
    × IsExplored contents holds (file_disk.image d) tasks processes words stop
    (inode_count_of (file_disk.image d)) tolds [] None

-- ---- a run before it, and its page before it is known what was told

-- nothing was heard of a run yet, and these are its writes
pub record IsBegun (holds : Bool) (x : Image) (tasks : List Task) (processes : ℕ) (words : List Word)
    (stop inode_count : ℕ) (g : Gathered) : Type 0 where
  pub written : List Written
  pub unheard : IsUnheard inode_count written g
  pub writes : AreItsWrites holds x tasks processes words stop written

-- a file got the page of what was gathered of a run, and of stops that were tried
pub record IsPage {F : Type 0} (contents : F → Option (List ℕ)) (scene : Scene) (g : Gathered)
    (tried : List Column) (lost : Option Lost) : Type 0 where
  pub files : List FilesThen
  pub whole : g.short ≡ false
  pub filed : AreFiled (HasFiles scene.anew.holds (opened_image scene.anew.opened)
      scene.anew.tasks.items scene.anew.processes scene.anew.words.items)
      (stops_among g.written.items) files
  pub drawn : IsDrawn contents (explorer_text (data_text scene.inode_count scene.anew.holds
      (opened_image scene.anew.opened) scene.anew.tasks.items g.text.items files tried
      lost))

-- ---- why none did

abbrev pub IsUntold : PicturedRefusal → ℕ → Type 0
IsUntold NoMemory n = ⊥
IsUntold (Replay refusal) n = ⊥
IsUntold (TooLong steps) n = (10000 < n) × (steps ≡ min n 4294967295)
IsUntold Unfiled n = n ≤ 10000
IsUntold (Picture f) n = n ≤ 10000

abbrev pub HasNoExplorer : {F : Type 0} → PicturedRefusal → List Task → ℕ → List Word → List Told
    → FileDisk F → FileDisk F → Type 0
HasNoExplorer refusal tasks processes words tolds d e = IsUntold refusal (steps_of tolds)

-- nothing was done, the replay was refused, or it was made and printed, and there is no page of it
abbrev pub IsUnexplored : {F : Type 0} → (F → Option (List ℕ)) → Bool → Detail → ℕ
    → Option (List ℕ) → Option (List ℕ) → Type 0 → PicturedRefusal → Type 0
IsUnexplored remaining holds detail stop old new none NoMemory = none
IsUnexplored remaining holds detail stop old new none (Replay r) =
    IsUnreplayed remaining holds (in_lines detail) stop old new none r
IsUnexplored remaining holds detail stop old new none refusal =
    OpensDisk remaining file_disk holds
    (IsReplayedSo (in_lines detail) stop old new (HasNoExplorer refusal))
