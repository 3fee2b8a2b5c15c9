-- A whole replay in memory of which a teller heard, and its page.
use Rattle.std.proofs.Common.{◌≡◌, ◌∙◌, ◌≤◌, ◌<◌, ℕ, Bool, true, false, List, Option, None, Ok, Err, refl, sym, ap, subst}
use Rattle.std.specs.Prelude.{IsOk, OnOk, Result, min, unwrap_or}
use Rattle.blocks.specs.Disk.{Image}
use Rattle.blocks.specs.declared.disk.Disk.{Ghosts}
use Rattle.crash_check.specs.Images.{new_image}
use Rattle.json_lines.specs.declared.written.Written.{Written}
use Rattle.model.specs.Layout.{inode_count_of}
use Rattle.pictures.specs.Along.{left_along}
use Rattle.pictures.specs.declared.stops.Column.{Column}
use Rattle.pictures.specs.declared.stops.Lost.{Lost}
use Rattle.player.specs.Disks.{faulty}
use Rattle.player.specs.Opening.{Replays}
use Rattle.player.specs.Told.{HearsTurns, Saying, Told}
use Rattle.player.specs.declared.replaying.Scenario.{Scenario}
use Rattle.scripts.specs.declared.schedule.Word.{Word}
use Rattle.scripts.specs.declared.script.Task.{Task}
use Rattle.commands_runs.proofs.Gathering.{all_gathered, explored_so, few_steps, of_steps}
use Rattle.commands_runs.proofs.Recording.{all_heard}
use Rattle.commands_runs.specs.Explored.{HearsObjects, IsPage, IsUnheard, IsUntold}
use Rattle.commands_runs.specs.Filed.{wants_then}
use Rattle.commands_runs.specs.Images.{opened_image}
use Rattle.commands_runs.specs.Pictures.{IsMadeOf}
use Rattle.commands_runs.specs.Tried.{HearsOf, HearsOfRun, IsExploredNew, IsHeardOf, IsUnexploredNew}
use Rattle.commands_runs.specs.Writes.{AreItsWrites}
use Rattle.commands_runs.specs.declared.anew.Anew.{Anew}
use Rattle.commands_runs.specs.declared.gathered.Gathered.{Gathered}
use Rattle.commands_runs.specs.declared.picturing.PicturedRefusal.{PicturedRefusal}
use Rattle.commands_runs.specs.declared.picturing.PicturedRefusal.TheVariants.{NoMemory, Replay, TooLong, Unfiled, Picture}
use Rattle.commands_runs.specs.declared.scene.Scene.{Scene}

-- who hears of turns gathers their objects, and knows whether memory was refused to an operation
module _ {A : Type 0} (hears : Word → Told → A → A → Type 0) (run_of : A → Gathered) (refused_of : A → Bool)
    (gathers : (w : Word) (told : Told) (a b : A) → hears w told a b → HearsObjects told (run_of a) (run_of b))
    (wants : (w : Word) (told : Told) (a b : A) → hears w told a b → refused_of b ≡ wants_then (refused_of a) told) where
  pub heard_of : {D N T E V W : Type 0} (ran : Result T E) (r : Result V W) (below : Ghosts D N) (start left : D) (tasks : List Task) (processes : ℕ) (words : List Word) (stop : Option ℕ) (says : Saying) (old new : Option (List ℕ)) (t u : A) →
      stop ≡ None → refused_of t ≡ false → OnOk ran (HearsTurns hears words t u (Replays below (faulty below) start left tasks processes words (unwrap_or stop 0) says None old new)) →
      OnOk r (IsOk ran) → OnOk r (refused_of u ≡ false) → OnOk r (HearsOf below (below.image start) tasks processes words (run_of t) (run_of u))
  heard_of (Ok done) (Ok v) below start left tasks processes words stop says old new t u whole first told is_ok served = (
    told.tolds,
    record {
      start = start;
      left = left;
      says = says;
      text = old;
      printed = new;
      same = refl;
      replays = subst (λ (o : Option ℕ). Replays below (faulty below) start left tasks processes words (unwrap_or o 0) says None old new told.tolds) whole told.told;
      served = ap (λ (b : Bool). left_along wants_then b told.tolds) (sym first) ∙ sym (all_heard hears refused_of wants_then wants words told.tolds t u told.heard) ∙ served;
    },
    all_gathered hears run_of gathers words told.tolds t u told.heard,
  )
  heard_of (Err e) (Ok v) below start left tasks processes words stop says old new t u whole first told is_ok served =
      let no : false ≡ true = is_ok in absurd (cc no)
  heard_of ran (Err e) below start left tasks processes words stop says old new t u whole first told is_ok served = tt

-- the same of what a scenario has
pub heard_scenario : {D N V W : Type 0} (r : Result V W) (below : Ghosts D N) (x y : Image) (s : Scenario) (tasks : List Task) (processes : ℕ) (words : List Word) (old new : Gathered) →
    x ≡ y → s.tasks.items ≡ tasks → s.processes ≡ processes → s.words.items ≡ words →
    OnOk r (HearsOf below x s.tasks.items s.processes s.words.items old new) → OnOk r (HearsOf below y tasks processes words old new)
heard_scenario r below x y s tasks processes words old new image ops count turns heard =
    subst (λ (z : Image). OnOk r (HearsOf below z tasks processes words old new)) image
    (subst (λ (ts : List Task). OnOk r (HearsOf below x ts processes words old new)) ops
    (subst (λ (n : ℕ). OnOk r (HearsOf below x s.tasks.items n words old new)) count
    (subst (λ (ws : List Word). OnOk r (HearsOf below x s.tasks.items s.processes ws old new)) turns heard)))

-- what is so of what a run is made of is so of this run
pub of_made : (anew : Anew) (holds : Bool) (x : Image) (tasks : List Task) (processes : ℕ) (words : List Word) → IsMadeOf anew holds x tasks processes words →
    (P : Bool → Image → List Task → ℕ → List Word → Type 0) → P anew.holds (opened_image anew.opened) anew.tasks.items anew.processes anew.words.items → P holds x tasks processes words
of_made anew holds x tasks processes words made P so =
    subst (λ (ts : List Task). P holds x ts processes words) made.tasks
    (subst (λ (ws : List Word). P holds x anew.tasks.items processes ws) made.words
    (subst (λ (k : ℕ). P holds x anew.tasks.items k anew.words.items) made.processes
    (subst (λ (y : Image). P holds y anew.tasks.items anew.processes anew.words.items) made.image
    (subst (λ (h : Bool). P h (opened_image anew.opened) anew.tasks.items anew.processes anew.words.items) made.holds so))))

-- a teller that heard of nothing heard of the run over a new image
pub heard_whole : (anew : Anew) (holds : Bool) (tasks : List Task) (processes : ℕ) (words : List Word) (n : ℕ) (written : List Written) (was is : Gathered) → IsMadeOf anew holds new_image tasks processes words →
    AreItsWrites anew.holds (opened_image anew.opened) anew.tasks.items anew.processes anew.words.items 0 written → IsUnheard n written was →
    HearsOfRun anew.holds (opened_image anew.opened) anew.tasks.items anew.processes anew.words.items was is → IsHeardOf holds tasks processes words n is
heard_whole anew holds tasks processes words n written was is made writes unheard heard = record {
  was = was;
  begun = record {
    written = written;
    unheard = unheard;
    writes = of_made anew holds new_image tasks processes words made (λ h x ts k ws. AreItsWrites h x ts k ws 0 written) writes;
  };
  heard = of_made anew holds new_image tasks processes words made (λ h x ts k ws. HearsOfRun h x ts k ws was is) heard;
}

module _ {F : Type 0} (contents : F → Option (List ℕ)) (holds : Bool) (tasks : List Task) (processes : ℕ) (words : List Word) (scene : Scene) (is : Gathered)
    (made : IsMadeOf scene.anew holds new_image tasks processes words) (count : scene.inode_count ≡ inode_count_of new_image) (heard : IsHeardOf holds tasks processes words scene.inode_count is) where
  -- a file got the page of that run
  pub explored_new : (tried : List Column) (lost : Option Lost) → is.steps ≤ 10000 → IsPage contents scene is tried lost → IsExploredNew contents holds tasks processes words tried lost
  explored_new tried lost few page = let (tolds, runs, all) = heard.heard in record {
    tolds = tolds;
    runs = runs;
    few = few_steps contents holds new_image tasks processes words 0 scene heard.was is tolds made heard.begun all few;
    page = explored_so contents holds new_image tasks processes words 0 scene heard.was is tolds made heard.begun all tried lost page _ count;
  }

  -- or didn't, for this reason
  pub unexplored_new : (refusal : PicturedRefusal) → IsUntold refusal is.steps → IsUnexploredNew holds tasks processes words refusal
  unexplored_new NoMemory why = absurd why
  unexplored_new (Replay refusal) why = absurd why
  unexplored_new (TooLong steps) why = let (tolds, runs, all) = heard.heard in record {
    tolds = tolds;
    runs = runs;
    many = of_steps contents holds new_image tasks processes words 0 scene heard.was is tolds made heard.begun all (λ n. 10000 < n) why.0;
    count = of_steps contents holds new_image tasks processes words 0 scene heard.was is tolds made heard.begun all (λ n. steps ≡ min n 4294967295) why.1;
  }
  unexplored_new Unfiled why = tt
  unexplored_new (Picture fault) why = tt
