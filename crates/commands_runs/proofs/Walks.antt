-- A run that was replayed, and its page made, or not.
use Rattle.std.proofs.Common.{◌∙◌, ◌≡◌, ◌≤◌, ℕ, Bool, List, [], Option, None, refl, sym, subst}
use Rattle.blocks.specs.Disk.{Image}
use Rattle.blocks.specs.declared.file.FileDisk.{FileDisk}
use Rattle.cmd.specs.Lemmas.Disks.{faulty_disk, file_disk}
use Rattle.cmd.specs.Opened.{IsOpened}
use Rattle.messages.specs.declared.deeds.Detail.{Detail}
use Rattle.model.specs.Layout.{inode_count_of}
use Rattle.player.specs.Opening.{Replays}
use Rattle.player.specs.Told.{Told, in_lines}
use Rattle.scripts.specs.declared.schedule.Word.{Word}
use Rattle.scripts.specs.declared.script.Task.{Task}
use Rattle.commands_runs.proofs.Gathering.{explored_so, few_steps, of_steps}
use Rattle.commands_runs.specs.Explored.{HasExplorer, HasNoExplorer, HeardAll, IsBegun, IsPage, IsUnexplored, IsUntold}
use Rattle.commands_runs.specs.Pictures.{IsMadeOf}
use Rattle.commands_runs.specs.Runs.{IsReplayedSo}
use Rattle.commands_runs.specs.declared.gathered.Gathered.{Gathered}
use Rattle.commands_runs.specs.declared.picturing.PicturedRefusal.{PicturedRefusal}
use Rattle.commands_runs.specs.declared.picturing.PicturedRefusal.TheVariants.{NoMemory, Replay, TooLong, Unfiled, Picture}
use Rattle.commands_runs.specs.declared.scene.Scene.{Scene}

-- a was the disk when it was opened, d behind a copy of it, and e behind the run
module _ {F : Type 0} (contents : F → Option (List ℕ)) (holds : Bool) (a d e : FileDisk F) (tasks : List Task) (processes : ℕ) (words : List Word) (stop : ℕ)
    (heard_by asked : Detail) (old new : Option (List ℕ)) (tolds : List Told) (scene : Scene) (was is : Gathered)
    (made : IsMadeOf scene.anew holds (file_disk.image a) tasks processes words) (count : scene.inode_count ≡ inode_count_of (file_disk.image a))
    (begun : IsBegun holds (file_disk.image a) tasks processes words stop scene.inode_count was) (detail : heard_by ≡ asked) (image : file_disk.image d ≡ file_disk.image a)
    (heard : HeardAll tolds was is) (told : Replays file_disk faulty_disk d e tasks processes words stop (in_lines heard_by) None old new tolds) where
  replayed : Replays file_disk faulty_disk d e tasks processes words stop (in_lines asked) None old new tolds
  replayed = subst (λ (o : Detail). Replays file_disk faulty_disk d e tasks processes words stop (in_lines o) None old new tolds) detail told

  pub explored_all : is.steps ≤ 10000 → IsPage contents scene is [] None → IsReplayedSo (in_lines asked) stop old new (HasExplorer contents holds stop) d e
  explored_all few page = record {
    tasks = tasks;
    processes = processes;
    words = words;
    tolds = tolds;
    replays = replayed;
    more = (
      few_steps contents holds (file_disk.image a) tasks processes words stop scene was is tolds made begun heard few,
      explored_so contents holds (file_disk.image d) tasks processes words stop scene was is tolds
          (subst (λ (x : Image). IsMadeOf scene.anew holds x tasks processes words) (sym image) made)
          (subst (λ (x : Image). IsBegun holds x tasks processes words stop scene.inode_count was) (sym image) begun) heard [] None page _
          (subst (λ (x : Image). scene.inode_count ≡ inode_count_of x) (sym image) count),
    );
  }

  unexplored : (refusal : PicturedRefusal) → IsUntold refusal is.steps → IsReplayedSo (in_lines asked) stop old new (HasNoExplorer refusal) d e
  unexplored refusal why = record {
    tasks = tasks;
    processes = processes;
    words = words;
    tolds = tolds;
    replays = replayed;
    more = of_steps contents holds (file_disk.image a) tasks processes words stop scene was is tolds made begun heard (IsUntold refusal) why;
  }

  pub unexplored_for : (remaining : F → Option (List ℕ)) (silent : Type 0) → IsOpened remaining file_disk holds d → (refusal : PicturedRefusal) → IsUntold refusal is.steps → IsUnexplored remaining holds asked stop old new silent refusal
  unexplored_for remaining silent opened NoMemory why = absurd why
  unexplored_for remaining silent opened (Replay refusal) why = absurd why
  unexplored_for remaining silent opened (TooLong steps) why = (d, (e, opened, unexplored (TooLong steps) why))
  unexplored_for remaining silent opened Unfiled why = (d, (e, opened, unexplored Unfiled why))
  unexplored_for remaining silent opened (Picture fault) why = (d, (e, opened, unexplored (Picture fault) why))
