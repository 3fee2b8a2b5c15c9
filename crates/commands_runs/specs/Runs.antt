-- What became of the disk in a file over which a script's operations were made, or were not.
use Rattle.std.specs.Prelude.{◌≡◌, ◌<◌, ⊤, ℕ, Bool, true, List, All, IsTrue, Option, None}
use Rattle.std.specs.List.{list_all}
use Rattle.blocks.specs.declared.file.FileDisk.{FileDisk}
use Rattle.cmd.specs.Lemmas.Disks.{faulty_disk, file_disk}
use Rattle.cmd.specs.Opened.{OpensDisk}
use Rattle.messages.specs.Telling.{Telling, file_telling, schedule_telling, script_telling}
use Rattle.player.specs.Opening.{IsNotReplayed, Replays}
use Rattle.player.specs.Refusals.{replay_telling}
use Rattle.player.specs.Told.{Saying, Told}
use Rattle.player.specs.declared.refusals.ReplayRefusal.{ReplayRefusal}
use Rattle.player.specs.declared.replaying.Scenario.{Scenario}
use Rattle.runner.specs.Refusals.{run_telling}
use Rattle.runner.specs.Running.{IsNotRun as IsNotRunOver, Runs}
use Rattle.runner.specs.declared.refusals.RunRefusal.{RunRefusal}
use Rattle.scripts.specs.Schedule.{is_word_of}
use Rattle.scripts.specs.declared.schedule.Word.{Word}
use Rattle.scripts.specs.declared.script.Task.{Task}
use Rattle.commands_runs.specs.declared.runs.ReplayFilesRefusal.{ReplayFilesRefusal}
use Rattle.commands_runs.specs.declared.runs.ReplayFilesRefusal.TheVariants as replay
use Rattle.commands_runs.specs.declared.runs.RunFilesRefusal.{RunFilesRefusal}
use Rattle.commands_runs.specs.declared.runs.RunFilesRefusal.TheVariants as run

-- how the refusals are told
abbrev pub replay_files_telling : ReplayFilesRefusal → Telling
replay_files_telling (replay.Script fault) = script_telling fault
replay_files_telling (replay.Schedule fault) = schedule_telling fault
replay_files_telling (replay.File fault) = file_telling fault
replay_files_telling (replay.Replay refusal) = replay_telling refusal

abbrev pub run_files_telling : RunFilesRefusal → Telling
run_files_telling (run.Script fault) = script_telling fault
run_files_telling (run.File fault) = file_telling fault
run_files_telling (run.Run refusal) = run_telling refusal

-- the operations are of its processes, the turns too, and it stops there
pub record IsScenario (stop : Option ℕ) (scenario : Scenario) : Type 0 where
  pub stops : scenario.stop ≡ stop
  pub tasks : All (λ task. task.pid < scenario.processes) scenario.tasks.items
  pub words : IsTrue (list_all (is_word_of scenario.processes) scenario.words.items)

-- why a replay could not be read, or its disk not opened
abbrev pub IsUnread : ReplayFilesRefusal → Type 0
IsUnread (replay.Script fault) = ⊤
IsUnread (replay.Schedule fault) = ⊤
IsUnread (replay.File fault) = ⊤
IsUnread (replay.Replay refusal) = ⊥

-- It was recovered, a player of some operations was opened over it, and the turns of some words made.
-- Printed is what `says` has of them, and of the end. P says more of these, and of what was told.
pub record IsReplayedSo {F : Type 0} (says : Saying) (stop : ℕ) (old new : Option (List ℕ))
    (P : List Task → ℕ → List Word → List Told → FileDisk F → FileDisk F → Type 0) (d e : FileDisk F)
    : Type 0 where
  pub tasks : List Task
  pub processes : ℕ
  pub words : List Word
  pub tolds : List Told
  pub replays : Replays file_disk faulty_disk d e tasks processes words stop says None old new tolds
  pub more : P tasks processes words tolds d e

abbrev pub IsReplayed : {F : Type 0} → Saying → ℕ → Option (List ℕ) → Option (List ℕ) → FileDisk F
    → FileDisk F → Type 0
IsReplayed says stop old new = IsReplayedSo says stop old new (λ tasks processes words tolds d e. ⊤)

-- it was recovered, the operations of a script were run over it by threads, and what they came to
-- printed
pub record IsRun {F : Type 0} (old new : Option (List ℕ)) (d e : FileDisk F) : Type 0 where
  pub tasks : List Task
  pub processes : ℕ
  pub runs : Runs file_disk d e tasks processes None true old new

-- why some operations were not replayed over it in the turns of some words, and what was printed
pub record IsUnreplayedFor {F : Type 0} (says : Saying) (stop : ℕ) (old new : Option (List ℕ))
    (none : Type 0) (r : ReplayRefusal) (d e : FileDisk F) : Type 0 where
  pub tasks : List Task
  pub processes : ℕ
  pub words : List Word
  pub refused : IsNotReplayed file_disk faulty_disk d e tasks processes words stop says old new none r

-- why some operations were not run over it by threads, and what was printed
pub record IsNotRunFor {F : Type 0} (old new : Option (List ℕ)) (none : Type 0) (r : RunRefusal)
    (d e : FileDisk F) : Type 0 where
  pub tasks : List Task
  pub processes : ℕ
  pub refused : IsNotRunOver file_disk d e tasks processes old new none r

-- why a script was not replayed over the disk in a file: one of its files could not be had, or this
-- was the disk's refusal; `none` says that nothing was printed, here and below
abbrev pub IsUnreplayed : {F : Type 0} → (F → Option (List ℕ)) → Bool → Saying → ℕ
    → Option (List ℕ) → Option (List ℕ) → Type 0 → ReplayFilesRefusal → Type 0
IsUnreplayed remaining holds says stop old new none (replay.Script fault) = none
IsUnreplayed remaining holds says stop old new none (replay.Schedule fault) = none
IsUnreplayed remaining holds says stop old new none (replay.File fault) = none
IsUnreplayed remaining holds says stop old new none (replay.Replay r) =
    OpensDisk remaining file_disk holds (IsUnreplayedFor says stop old new none r)

-- why a script was not run over it
abbrev pub IsNotRun : {F : Type 0} → (F → Option (List ℕ)) → Bool → Option (List ℕ)
    → Option (List ℕ) → Type 0 → RunFilesRefusal → Type 0
IsNotRun remaining holds old new none (run.Script fault) = none
IsNotRun remaining holds old new none (run.File fault) = none
IsNotRun remaining holds old new none (run.Run r) =
    OpensDisk remaining file_disk holds (IsNotRunFor old new none r)
