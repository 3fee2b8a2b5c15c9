-- What a change of files over a disk comes to, from its opening to its end.
use Rattle.std.proofs.Common.{◌≡◌, ◌∙◌, ◌≤◌, ℕ, Bool, true, false, List, Option, None, sym, ap, subst, inl}
use Rattle.std.specs.Prelude.{Result, Ok, Err, IfErr, OnOk}
use Rattle.blocks.specs.Disk.{AddsNone, Image, LeavesOnly}
use Rattle.blocks.specs.Lemmas.Moments.{stays}
use Rattle.blocks.specs.declared.disk.Disk.{Ghosts}
use Rattle.calls.specs.Calls.{image_on}
use Rattle.calls.specs.Opening.{IsOpenedPair}
use Rattle.calls.specs.Stepping.{Plain}
use Rattle.history.specs.Lemmas.Leaving.{leaves_wider}
use Rattle.model.specs.Files.{Files, files_of}
use Rattle.model.specs.Layout.{form_of}
use Rattle.model.specs.Lemmas.Soundness.{verdict_sound}
use Rattle.model.specs.Log.{recovered}
use Rattle.model.specs.Soundness.{IsSound}
use Rattle.model.specs.Verdict.{verdict}
use Rattle.model.specs.declared.types.image.Form.{Form}
use Rattle.names.specs.Inside.{form_seen}
use Rattle.names.specs.Opening.{IsUnopened}
use Rattle.names.specs.Ready.{KeepsTree, LeavesMidst}
use Rattle.directories.specs.Counts.{AreCounted}
use Rattle.directories.specs.Trees.{IsTree}
use Rattle.names.specs.declared.opening.TreeOpenFault.{TreeOpenFault}
use Rattle.names.specs.declared.opening.TreeOpenFault.TheVariants as opening
use Rattle.transfer.specs.Ending.{SyncsIf}
use Rattle.wal.specs.Lemmas.Stops.{if_synced, if_synced_wider, run_leaves}
use Rattle.wal.specs.Recovery.{RecoversAs}
use Rattle.tree_changes.specs.Changes.{HasChanged, HasMade, HasNotChanged, IsOfTree, IsUnended, StopsChange, Tells, Turn, turn}
use Rattle.tree_changes.specs.declared.faults.ChangeRefusal.{ChangeRefusal}
use Rattle.tree_changes.specs.declared.faults.ChangeRefusal.TheVariants.{Unopened, Tree, Unwritten, Disk, Output}

-- recovery leaves a sound image, and its files are a tree whose counts are right
pub record IsWhole (x : Image) : Type 0 where
  pub sound : IsSound (recovered x)
  pub tree : IsTree (files_of (recovered x))
  pub counted : AreCounted (files_of (recovered x))

-- a disk has the same image, whether it was synced or left alone
left_same : {D N : Type 0} (disk : Ghosts D N) (last : Bool) (d e : D) → SyncsIf last disk d e → disk.image e ≡ disk.image d
left_same disk true d e syncs = syncs.image
left_same disk false d e same = ap disk.image same

module _ {D N : Type 0} (disk : Ghosts D N) (midst : Form → Files → Files → Type 0) (d : D) where
  abbrev Keeps : Image → Type 0
  Keeps = KeepsTree (λ (made : Unit {0}). midst (form_of (recovered (disk.image d)))) (recovered (disk.image d))

  keeps : verdict (disk.image d) ≡ None → IsTree (files_of (recovered (disk.image d))) → AreCounted (files_of (recovered (disk.image d))) → (z : Image) → RecoversAs (disk.image d) z → Keeps z
  keeps sound tree counted z same =
      let is = verdict_sound (disk.image d) sound in
      record {
        log = same.lawful ∙ is.1;
        sound = subst IsSound (sym same.image) is.2;
        tree = subst (λ (y : Image). IsTree (files_of y)) (sym same.image) tree;
        counted = subst (λ (y : Image). AreCounted (files_of y)) (sym same.image) counted;
        files = inl (ap files_of same.image);
      }

  -- no tree was opened
  pub unopened_stops : (e : D) (cause : TreeOpenFault) → IsUnopened disk d e cause → StopsChange disk midst d e
  unopened_stops e (opening.Kernel fault) why = λ sound tree counted. if_synced_wider disk d e (RecoversAs (disk.image d)) Keeps (keeps sound tree counted) why.leaves
  unopened_stops e opening.NoTree why = λ sound tree counted. absurd (why.none tree)
  unopened_stops e (opening.Miscounted number) why = λ sound tree counted. absurd (why.wrong (counted number))

  module _ (k m : Plain D) (opened : IsOpenedPair disk d k) where
    opening_is : disk.image k.opening ≡ recovered (disk.image d)
    opening_is = ap disk.image (sym opened.device) ∙ opened.image

    pub form_is : form_seen disk.image k ≡ form_of (recovered (disk.image d))
    form_is = ap form_of opening_is

    run : LeavesMidst disk (midst (form_seen disk.image k)) k m → LeavesOnly disk.moment disk.leaves k.opening m.store.volume.device Keeps
    run leaves =
        subst (λ (o : D). LeavesOnly disk.moment disk.leaves o m.store.volume.device Keeps) opened.device
        (leaves_wider disk.moment disk.leaves k.store.volume.device m.store.volume.device (KeepsTree (λ (made : Unit {0}). midst (form_seen disk.image k)) (image_on disk.image k)) Keeps
        (λ z kept. subst (λ (x : Image). KeepsTree (λ (made : Unit {0}). midst (form_of (recovered (disk.image d)))) x z) opened.image
        (subst (λ (form : Form). KeepsTree (λ (made : Unit {0}). midst form) (image_on disk.image k) z) form_is kept)) leaves)

    since : (e : D) → verdict (disk.image d) ≡ None → IsTree (files_of (recovered (disk.image d))) → AreCounted (files_of (recovered (disk.image d))) → LeavesOnly disk.moment disk.leaves k.opening e Keeps → (StopsChange disk midst d e)
    since e sound tree counted only = λ _ _ _.
        if_synced disk d e Keeps (run_leaves disk d k.opening e (RecoversAs (disk.image d)) Keeps (keeps sound tree counted) opened.leaves only)

    -- a tree was opened, and the change made or not
    pub changed_stops : LeavesMidst disk (midst (form_seen disk.image k)) k m → IsTree (files_of (recovered (disk.image d))) → AreCounted (files_of (recovered (disk.image d))) → (dev : D) → dev ≡ m.store.volume.device → StopsChange disk midst d dev
    changed_stops leaves tree counted dev same = subst (λ (o : D). StopsChange disk midst d o) (sym same) (since m.store.volume.device opened.sound tree counted (run leaves))

    -- and then it was synced, or left alone
    pub ended_stops : LeavesMidst disk (midst (form_seen disk.image k)) k m → IsTree (files_of (recovered (disk.image d))) → AreCounted (files_of (recovered (disk.image d))) → (dev e : D) → dev ≡ m.store.volume.device → AddsNone (disk.moment dev) (disk.moment e) (disk.leaves dev) (disk.leaves e) → StopsChange disk midst d e
    ended_stops leaves tree counted dev e same time =
        since e opened.sound tree counted (stays disk.moment disk.leaves k.opening dev e Keeps
        (subst (λ (o : D). LeavesOnly disk.moment disk.leaves k.opening o Keeps) (sym same) (run leaves)) time)

module _ {D N : Type 0} (disk : Ghosts D N) (makes : Form → Option ℕ → Files → Files → Type 0) (undone : Turn → ChangeRefusal → Type 0) (last : Bool) (d : D) (k m : Plain D) (opened : IsOpenedPair disk d k) (tree : IsTree (files_of (recovered (disk.image d)))) (right : AreCounted (files_of (recovered (disk.image d)))) where
  -- it was made
  pub made_so : (number : Option ℕ) (dev : D) → dev ≡ m.store.volume.device → makes (form_seen disk.image k) number (files_of (image_on disk.image k)) (files_of (image_on disk.image m)) → IsWhole (image_on disk.image m) → HasMade disk makes d dev number
  made_so number dev same made whole = record {
    sound = opened.sound;
    tree = tree;
    right = right;
    made = subst (λ (o : D). makes (form_of (recovered (disk.image d))) number (files_of (recovered (disk.image d))) (files_of (disk.image o))) (sym same)
        (subst (λ (x : Image). makes (form_of (recovered (disk.image d))) number (files_of x) (files_of (image_on disk.image m))) opened.image
        (subst (λ (form : Form). makes form number (files_of (image_on disk.image k)) (files_of (image_on disk.image m))) (form_is disk (λ form files new. Unit {0}) d k m opened) made));
    left_sound = subst (λ (o : D). IsSound (recovered (disk.image o))) (sym same) whole.sound;
    left_tree = subst (λ (o : D). IsTree (files_of (recovered (disk.image o)))) (sym same) whole.tree;
    counted = subst (λ (o : D). AreCounted (files_of (recovered (disk.image o)))) (sym same) whole.counted;
  }

  -- or was not
  pub failed_so : (dev : D) (none : Type 0) → dev ≡ m.store.volume.device → none → (r : ChangeRefusal) → IsOfTree r → undone (turn disk k m) r → HasNotChanged disk makes undone last d dev none r
  failed_so dev none same silent (Tree fault) of why = (record { first = k; opened = opened; tree = tree; last = m; why = why; device = sym same }, silent)
  failed_so dev none same silent (Unwritten fault) of why = (record { first = k; opened = opened; tree = tree; last = m; why = why; device = sym same }, silent)
  failed_so dev none same silent (Unopened fault) of why = absurd of
  failed_so dev none same silent (Disk fault) of why = absurd of
  failed_so dev none same silent Output of why = absurd of

  module _ (number : Option ℕ) (dev e : D) (first : HasMade disk makes d dev number) where
    then_on : SyncsIf last disk dev e → HasMade disk makes d e number
    then_on syncs = record {
      sound = first.sound;
      tree = first.tree;
      right = first.right;
      made = subst (λ (y : Image). makes (form_of (recovered (disk.image d))) number (files_of (recovered (disk.image d))) (files_of y)) (sym (left_same disk last dev e syncs)) first.made;
      left_sound = subst (λ (y : Image). IsSound (recovered y)) (sym (left_same disk last dev e syncs)) first.left_sound;
      left_tree = subst (λ (y : Image). IsTree (files_of (recovered y))) (sym (left_same disk last dev e syncs)) first.left_tree;
      counted = subst (λ (y : Image). AreCounted (files_of (recovered y))) (sym (left_same disk last dev e syncs)) first.counted;
    }

    pub changed_so : (r : Result (Unit {0}) ChangeRefusal) (old new : Option (List ℕ)) → OnOk r (SyncsIf last disk dev e) → OnOk r (Tells number old new) → OnOk r (HasChanged disk makes last d e old new)
    changed_so (Ok _) old new syncs told = record { number = number; made = then_on syncs; unsynced = dev; syncs = syncs; told = told }
    changed_so (Err r) old new syncs told = tt

    unended_so : (none : Type 0) (r : ChangeRefusal) → IsUnended disk last dev e none r → HasNotChanged disk makes undone last d e none r
    unended_so none (Disk fault) why = (record { number = number; unsynced = dev; made = first; asked = why.0; faults = why.2 }, why.1, why.3)
    unended_so none Output syncs = record { number = number; made = then_on syncs; unsynced = dev; syncs = syncs }
    unended_so none (Unopened fault) why = absurd why
    unended_so none (Tree fault) why = absurd why
    unended_so none (Unwritten fault) why = absurd why

    pub not_told : (r : Result (Unit {0}) ChangeRefusal) (none : Type 0) → IfErr r (IsUnended disk last dev e none) → IfErr r (HasNotChanged disk makes undone last d e none)
    not_told (Ok _) none why = tt
    not_told (Err r) none why = unended_so none r why

-- the files are a tree, as recovery leaves them
pub tree_was : {D N : Type 0} (disk : Ghosts D N) (d : D) (k : Plain D) → IsOpenedPair disk d k → IsTree (files_of (image_on disk.image k)) → IsTree (files_of (recovered (disk.image d)))
tree_was disk d k opened tree = subst (λ (x : Image). IsTree (files_of x)) opened.image tree

-- and their counts are right
pub right_was : {D N : Type 0} (disk : Ghosts D N) (d : D) (k : Plain D) → IsOpenedPair disk d k → AreCounted (files_of (image_on disk.image k)) → AreCounted (files_of (recovered (disk.image d)))
right_was disk d k opened counted = subst (λ (x : Image). AreCounted (files_of x)) opened.image counted

-- What a stop leaves, now too: a sound image on the disk, a tree whose counts are right.
pub whole_now : {D N : Type 0} (disk : Ghosts D N)
    → ((e : D) (t : ℕ) (x : Image) → t ≤ disk.moment e → disk.leaves e (disk.moment e) x → disk.leaves e t x)
    → ((e : D) → disk.leaves e (disk.moment e) (disk.image e)) → (midst : Files → Files → Type 0) (k m : Plain D)
    → LeavesMidst disk midst k m → IsWhole (image_on disk.image m)
whole_now disk counts_now has_now midst k m leaves =
    let dev = m.store.volume.device in
    let kept = leaves.each (disk.image dev) (counts_now dev (disk.moment k.store.volume.device) (disk.image dev) leaves.later (has_now dev)) in
    record { sound = kept.sound; tree = kept.tree; counted = kept.counted }

-- both answers of a command, of which one is asked for
pub both_done : (r : Result (Unit {0}) ChangeRefusal) (P Q : Type 0) → OnOk r P → Q → OnOk r (P × Q)
both_done (Ok _) P Q p q = (p, q)
both_done (Err r) P Q p q = tt

pub both_refused : (r : Result (Unit {0}) ChangeRefusal) (P : ChangeRefusal → Type 0) (Q : Type 0) → IfErr r P → Q → IfErr r (λ why. P why × Q)
both_refused (Ok _) P Q p q = tt
both_refused (Err r) P Q p q = (p, q)
