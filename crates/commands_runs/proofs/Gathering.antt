-- The objects of turns, turn by turn, and the page of a run.
use Rattle.std.proofs.Common.{◌∙◌, ◌≡◌, ◌≤◌, ℕ, Bool, true, false, List, [], ◌∷◌, ◌++◌, Option, refl, sym, ap, subst}
use Rattle.std.proofs.lemmas.List.{append-nil, append_assoc}
use Rattle.blocks.specs.Disk.{Image}
use Rattle.json_lines.specs.declared.written.Written.{Written}
use Rattle.model.specs.Layout.{inode_count_of}
use Rattle.pictures.specs.Along.{left_along}
use Rattle.pictures.specs.declared.stops.Column.{Column}
use Rattle.pictures.specs.declared.stops.Lost.{Lost}
use Rattle.player.specs.Told.{Told, in_objects, is_last_told}
use Rattle.player.specs.Turns.{IfLast, Turns}
use Rattle.scripts.specs.declared.schedule.Word.{Word}
use Rattle.scripts.specs.declared.script.Task.{Task}
use Rattle.commands_runs.specs.Images.{opened_image}
use Rattle.commands_drawing.specs.Drawn.{IsDrawn}
use Rattle.explorer_page.specs.Page.{data_text, explorer_text}
use Rattle.commands_runs.specs.Explored.{HeardAll, HearsObjects, IsBegun, IsExplored, IsPage, steps_of, steps_then, stops_among, told_objects}
use Rattle.commands_runs.specs.Filed.{AreFiled, HasFiles}
use Rattle.commands_runs.specs.Pictures.{IsMadeOf}
use Rattle.commands_runs.specs.declared.gathered.Gathered.{Gathered}
use Rattle.commands_runs.specs.declared.scene.Scene.{Scene}

heard_none : (a : Gathered) → HeardAll [] a a
heard_none a = record { count = refl; writes = refl; steps = refl; text = λ whole. (whole, sym (append-nil a.text.items)) }

heard_then : (told : Told) (tolds : List Told) (a b c : Gathered) → HearsObjects told a b → HeardAll tolds b c → HeardAll (told ∷ tolds) a c
heard_then told tolds a b c one rest = record {
  count = rest.count ∙ one.count;
  writes = rest.writes ∙ one.writes;
  steps = rest.steps ∙ ap (λ (n : ℕ). left_along steps_then n tolds) one.steps;
  text = λ whole.
      let then = rest.text whole in
      let here = one.text then.0 in
      let turn = (in_objects a.written.items).of_turn a.inode_count told in
      let same : told_objects b.written.items b.inode_count tolds ≡ told_objects a.written.items a.inode_count tolds
      = ap (λ (ws : List Written). told_objects ws b.inode_count tolds) one.writes ∙ ap (λ (n : ℕ). told_objects a.written.items n tolds) one.count in (
        here.0,
        then.1 ∙ ap (λ (l : List ℕ). l ++ told_objects b.written.items b.inode_count tolds) here.1 ∙ ap (λ (l : List ℕ). (a.text.items ++ turn) ++ l) same
            ∙ append_assoc a.text.items turn (told_objects a.written.items a.inode_count tolds),
      );
}

-- all turns of some words
module _ {T : Type 0} (hears : Word → Told → T → T → Type 0) (run_of : T → Gathered)
    (each : (w : Word) (told : Told) (a b : T) → hears w told a b → HearsObjects told (run_of a) (run_of b)) where
  heard_end : (tolds : List Told) (t u : T) → (tolds ≡ []) × (u ≡ t) → HeardAll tolds (run_of t) (run_of u)
  heard_end tolds t u ends = subst (λ (ts : List Told). HeardAll ts (run_of t) (run_of u)) (sym ends.0) (subst (λ (v : T). HeardAll [] (run_of t) (run_of v)) (sym ends.1) (heard_none (run_of t)))

  pub all_gathered : (words : List Word) (tolds : List Told) (t u : T) → Turns is_last_told hears words tolds t u → HeardAll tolds (run_of t) (run_of u)
  all_gathered [] tolds t u heard = heard_end tolds t u heard
  all_gathered (w ∷ words) [] t u heard = absurd heard
  all_gathered (w ∷ words) (told ∷ tolds) t u (mid, turn, rest) =
      heard_then told tolds (run_of t) (run_of mid) (run_of u) (each w told t mid turn) (on (is_last_told told) (λ more. all_gathered words tolds mid u more) rest)
    where
      on : (b : Bool) → (Turns is_last_told hears words tolds mid u → HeardAll tolds (run_of mid) (run_of u))
          → IfLast b ((tolds ≡ []) × (u ≡ mid)) (Turns is_last_told hears words tolds mid u) → HeardAll tolds (run_of mid) (run_of u)
      on true go ends = heard_end tolds mid u ends
      on false go more = go more

-- the page of what was gathered is that of the turns
module _ {F : Type 0} (contents : F → Option (List ℕ)) (holds : Bool) (x : Image) (tasks : List Task) (processes : ℕ) (words : List Word) (stop : ℕ) (scene : Scene) (a b : Gathered) (tolds : List Told)
    (made : IsMadeOf scene.anew holds x tasks processes words) (begun : IsBegun holds x tasks processes words stop scene.inode_count a) (heard : HeardAll tolds a b) where
  steps_same : b.steps ≡ steps_of tolds
  steps_same = heard.steps ∙ ap (λ (n : ℕ). left_along steps_then n tolds) begun.unheard.steps

  pub few_steps : b.steps ≤ 10000 → steps_of tolds ≤ 10000
  few_steps few = subst (λ (n : ℕ). n ≤ 10000) steps_same few

  pub of_steps : (P : ℕ → Type 0) → P b.steps → P (steps_of tolds)
  of_steps P so = subst P steps_same so

  module _ (tried : List Column) (lost : Option Lost) (page : IsPage contents scene b tried lost) where
    writes_same : b.written.items ≡ begun.written
    writes_same = heard.writes ∙ begun.unheard.writes

    text_same : b.text.items ≡ told_objects begun.written scene.inode_count tolds
    text_same = (heard.text page.whole).1
        ∙ ap (λ (l : List ℕ). l ++ told_objects a.written.items a.inode_count tolds) begun.unheard.text
        ∙ ap (λ (ws : List Written). told_objects ws a.inode_count tolds) begun.unheard.writes
        ∙ ap (λ (n : ℕ). told_objects begun.written n tolds) begun.unheard.count

    pub explored_so : (n : ℕ) → scene.inode_count ≡ n → IsExplored contents holds x tasks processes words stop n tolds tried lost
    explored_so n count = let run = scene.anew in subst (λ (m : ℕ). IsExplored contents holds x tasks processes words stop m tolds tried lost) count (record {
      written = begun.written;
      files = page.files;
      writes = begun.writes;
      filed = subst (λ (ts : List Task). AreFiled (HasFiles holds x ts processes words) (stops_among begun.written) page.files) made.tasks
          (subst (λ (ws : List Word). AreFiled (HasFiles holds x run.tasks.items processes ws) (stops_among begun.written) page.files) made.words
          (subst (λ (k : ℕ). AreFiled (HasFiles holds x run.tasks.items k run.words.items) (stops_among begun.written) page.files) made.processes
          (subst (λ (y : Image). AreFiled (HasFiles holds y run.tasks.items run.processes run.words.items) (stops_among begun.written) page.files) made.image
          (subst (λ (h : Bool). AreFiled (HasFiles h (opened_image run.opened) run.tasks.items run.processes run.words.items) (stops_among begun.written) page.files) made.holds
          (subst (λ (ws : List Written). AreFiled (HasFiles run.holds (opened_image run.opened) run.tasks.items run.processes run.words.items) (stops_among ws) page.files) writes_same page.filed)))));
      drawn = subst (λ (ts : List Task). IsDrawn contents (explorer_text (data_text scene.inode_count holds x ts (told_objects begun.written scene.inode_count tolds) page.files tried lost))) made.tasks
          (subst (λ (y : Image). IsDrawn contents (explorer_text (data_text scene.inode_count holds y run.tasks.items (told_objects begun.written scene.inode_count tolds) page.files tried lost))) made.image
          (subst (λ (h : Bool). IsDrawn contents (explorer_text (data_text scene.inode_count h (opened_image run.opened) run.tasks.items (told_objects begun.written scene.inode_count tolds) page.files tried lost))) made.holds
          (subst (λ (l : List ℕ). IsDrawn contents (explorer_text (data_text scene.inode_count run.holds (opened_image run.opened) run.tasks.items l page.files tried lost))) text_same page.drawn)));
    })
