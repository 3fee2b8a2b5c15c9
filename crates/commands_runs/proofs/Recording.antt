-- The steps of a run that were recorded, and drawn.
use Rattle.std.proofs.Common.{◌∙◌, ◌≡◌, ◌≤◌, ◌<◌, ℕ, Bool, true, false, List, [], ◌∷◌, length, Option, refl, sym, ap, subst, arith}
use Rattle.std.specs.Prelude.{Result, Ok, Err, OnOk}
use Rattle.blocks.specs.Disk.{Image}
use Rattle.blocks.specs.declared.file.FileDisk.{FileDisk}
use Rattle.cmd.specs.Lemmas.Disks.{file_disk}
use Rattle.cmd.specs.Opened.{IsOpened}
use Rattle.messages.specs.declared.deeds.Detail.{Detail}
use Rattle.model.specs.Fields.{u32_at}
use Rattle.model.specs.Layout.{inode_count_of, super_in}
use Rattle.pictures.specs.Along.{left_along}
use Rattle.pictures.specs.declared.recorder.Recorder.{Recorder}
use Rattle.player.specs.Told.{Told, in_lines, is_last_told}
use Rattle.player.specs.Turns.{IfLast, Turns}
use Rattle.scripts.specs.declared.schedule.Word.{Word}
use Rattle.scripts.specs.declared.script.Task.{Task}
use Rattle.commands_runs.specs.Images.{opened_image}
use Rattle.commands_runs.specs.Pictures.{HasNoPicture, HasPicture, IsMadeOf, IsPictured, IsSceneOf, IsUndrawn, IsUnpictured}
use Rattle.commands_runs.specs.Recorded.{hear_of, none_recorded, recorded}
use Rattle.commands_runs.specs.Runs.{IsReplayedSo}
use Rattle.commands_runs.specs.declared.anew.Anew.{Anew}
use Rattle.commands_runs.specs.declared.picturing.PicturedRefusal.{PicturedRefusal}
use Rattle.commands_runs.specs.declared.picturing.PicturedRefusal.TheVariants.{NoMemory, Replay, TooLong, Unfiled, Picture}
use Rattle.commands_runs.specs.declared.scene.Scene.{Scene}

-- what who heard of turns has is left along them
module _ {T S : Type 0} (hears : Word → Told → T → T → Type 0) (state_of : T → S) (hear : S → Told → S)
    (each : (w : Word) (told : Told) (a b : T) → hears w told a b → state_of b ≡ hear (state_of a) told) where
  pub all_heard : (words : List Word) (tolds : List Told) (t u : T) → Turns is_last_told hears words tolds t u → state_of u ≡ left_along hear (state_of t) tolds
  all_heard [] tolds t u heard = ap state_of heard.1 ∙ ap (left_along hear (state_of t)) (sym heard.0)
  all_heard (w ∷ words) [] t u heard = absurd heard
  all_heard (w ∷ words) (told ∷ tolds) t u (mid, turn, rest) = on (is_last_told told) (λ more. all_heard words tolds mid u more) rest
    where
      on : (b : Bool) → (Turns is_last_told hears words tolds mid u → state_of u ≡ left_along hear (state_of mid) tolds)
          → IfLast b ((tolds ≡ []) × (u ≡ mid)) (Turns is_last_told hears words tolds mid u) → state_of u ≡ left_along hear (hear (state_of t) told) tolds
      on true go ends = ap state_of ends.1 ∙ each w told t mid turn ∙ ap (left_along hear (hear (state_of t) told)) (sym ends.0)
      on false go more = go more ∙ ap (λ (s : S). left_along hear s tolds) (each w told t mid turn)

-- what was drawn of a run that this was made of
pub pictured_of : {F : Type 0} (contents : F → Option (List ℕ)) (anew : Anew) (holds : Bool) (x : Image) (tasks : List Task) (processes : ℕ) (words : List Word) (n m : ℕ) (r s : Recorder) →
    IsMadeOf anew holds x tasks processes words → n ≡ m → r ≡ s →
    IsPictured contents anew.holds (opened_image anew.opened) anew.tasks.items anew.processes anew.words.items n r →
    IsPictured contents holds x tasks processes words m s
pictured_of contents anew holds x tasks processes words n m r s made count same drawn =
    subst (λ (ts : List Task). IsPictured contents holds x ts processes words m s) made.tasks
    (subst (λ (ws : List Word). IsPictured contents holds x anew.tasks.items processes ws m s) made.words
    (subst (λ (k : ℕ). IsPictured contents holds x anew.tasks.items k anew.words.items m s) made.processes
    (subst (λ (y : Image). IsPictured contents holds y anew.tasks.items anew.processes anew.words.items m s) made.image
    (subst (λ (h : Bool). IsPictured contents h (opened_image anew.opened) anew.tasks.items anew.processes anew.words.items m s) made.holds
    (subst (λ (k : ℕ). IsPictured contents anew.holds (opened_image anew.opened) anew.tasks.items anew.processes anew.words.items k s) count
    (subst (λ (q : Recorder). IsPictured contents anew.holds (opened_image anew.opened) anew.tasks.items anew.processes anew.words.items n q) same drawn))))))

-- a replay by a teller with this detail, of which this is recorded
pub heard_so : {F : Type 0} (told asked : Detail) (stop : ℕ) (old new : Option (List ℕ)) (was heard is : Recorder) (holds : Bool) (scene : Scene) (d e : FileDisk F) → told ≡ asked → is ≡ heard → IsReplayedSo (in_lines told) stop old new (IsSceneOf was heard holds scene) d e
    → IsReplayedSo (in_lines asked) stop old new (IsSceneOf was is holds scene) d e
heard_so told asked stop old new was heard is holds scene d e same_detail same so =
    subst (λ (r : Recorder). IsReplayedSo (in_lines asked) stop old new (IsSceneOf was r holds scene) d e) (sym same)
    (subst (λ (o : Detail). IsReplayedSo (in_lines o) stop old new (IsSceneOf was heard holds scene) d e) same_detail so)

module _ {F : Type 0} (contents : F → Option (List ℕ)) (detail : Detail) (stop : ℕ) (old new : Option (List ℕ)) (was is : Recorder) (holds : Bool) (scene : Scene) (d e : FileDisk F)
    (none : was ≡ none_recorded) (so : IsReplayedSo (in_lines detail) stop old new (IsSceneOf was is holds scene) d e) where
  same : is ≡ recorded so.tolds
  same = so.more.heard ∙ ap (λ r. left_along hear_of r so.tolds) none

  -- the run was drawn
  pub pictured : is.steps ≤ 2000 → IsPictured contents scene.anew.holds (opened_image scene.anew.opened) scene.anew.tasks.items scene.anew.processes scene.anew.words.items scene.inode_count is → IsReplayedSo (in_lines detail) stop old new (HasPicture contents holds) d e
  pictured fits drawn = record {
    tasks = so.tasks;
    processes = so.processes;
    words = so.words;
    tolds = so.tolds;
    replays = so.replays;
    more = (
      subst (λ (r : Recorder). r.steps ≤ 2000) same fits,
      pictured_of contents scene.anew holds (file_disk.image d) so.tasks so.processes so.words scene.inode_count _ is (recorded so.tolds) so.more.made so.more.count same drawn,
    );
  }

  -- or wasn't
  pub unpictured : (refusal : PicturedRefusal) → IsUndrawn refusal is → IsReplayedSo (in_lines detail) stop old new (HasNoPicture refusal) d e
  unpictured refusal why = record {
    tasks = so.tasks;
    processes = so.processes;
    words = so.words;
    tolds = so.tolds;
    replays = so.replays;
    more = subst (IsUndrawn refusal) same why;
  }

  module _ (remaining : F → Option (List ℕ)) (silent : Type 0) (opened : IsOpened remaining file_disk holds d) where
    -- and this is why
    pub unpictured_for : (refusal : PicturedRefusal) → IsUndrawn refusal is → IsUnpictured remaining holds detail stop old new silent refusal
    unpictured_for NoMemory why = absurd why
    unpictured_for (Replay refusal) why = absurd why
    unpictured_for (TooLong steps) why = (d, (e, opened, unpictured (TooLong steps) why))
    unpictured_for Unfiled why = (d, (e, opened, unpictured Unfiled why))
    unpictured_for (Picture fault) why = (d, (e, opened, unpictured (Picture fault) why))

-- what follows where two facts are known of what was done
pub both_done : {T E : Type 0} (r : Result T E) (P Q S : Type 0) → (P → Q → S) → OnOk r P → OnOk r Q → OnOk r S
both_done (Ok done) P Q S follows p q = follows p q
both_done (Err e) P Q S follows p q = tt

-- an image of one block has no superblock
pub no_super : (x : Image) → length x < 2 → inode_count_of x ≡ 0
unfolding super_in u32_at
no_super [] few = refl
no_super (boot ∷ []) few = refl
no_super (boot ∷ other ∷ rest) few = absurd (omega (arith, few))
