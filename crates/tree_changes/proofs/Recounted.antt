-- What the command that puts counts right comes to, from its opening to its end.
use Rattle.std.proofs.Common.{◌≡◌, ◌≢◌, ◌∙◌, ℕ, Bool, false, List, Option, Some, None, ap, sym, subst, ⊎_elim}
use Rattle.std.specs.Prelude.{Result, Ok, Err, IfErr, OnOk}
use Rattle.blocks.specs.Calls.{OnlyReads}
use Rattle.blocks.specs.Disk.{AddsNone, Image}
use Rattle.blocks.specs.Lemmas.Moments.{stays}
use Rattle.blocks.specs.declared.disk.Disk.{Ghosts}
use Rattle.calls.specs.Files.{with_count}
use Rattle.model.specs.Files.{file_in, files_of}
use Rattle.model.specs.Lemmas.Soundness.{verdict_sound}
use Rattle.model.specs.Log.{recovered}
use Rattle.model.specs.Soundness.{IsSound}
use Rattle.model.specs.Verdict.{verdict}
use Rattle.names.specs.Recounting.{HasRun, IsRecounted, IsUnrecounted, KeepsButCounts, StopsRecount}
use Rattle.names.specs.declared.recounting.RecountFault.{RecountFault}
use Rattle.names.specs.declared.recounting.RecountFault.TheVariants as recount
use Rattle.transfer.specs.Ending.{SyncsIf}
use Rattle.wal.specs.Lemmas.Stops.{if_synced, if_synced_wider, read_if_synced, run_leaves}
use Rattle.wal.specs.Recovery.{LeavesIfSynced, RecoversAs}
use Rattle.tree_changes.specs.Changes.{IsUnended, Tells}
use Rattle.tree_changes.specs.Recounts.{HasNotRecounted, HasRecounted, TellsRecount, refusal_of}
use Rattle.tree_changes.specs.declared.faults.ChangeRefusal.{ChangeRefusal}
use Rattle.tree_changes.specs.declared.faults.ChangeRefusal.TheVariants.{Unopened, Tree, Unwritten, Disk, Output}

module _ {D N : Type 0} (disk : Ghosts D N) (last : Bool) (d dev e : D) (count : ℕ) (done : IsRecounted disk d dev count) where
  -- nothing was wrong
  none_so : count ≡ 0 → SyncsIf false disk dev e → HasRecounted disk last d e count
  none_so zero same = record { unsynced = dev; recounted = done; syncs = λ some. absurd (some zero); same = λ none. same }

  some_so : count ≢ 0 → SyncsIf last disk dev e → HasRecounted disk last d e count
  some_so some syncs = record { unsynced = dev; recounted = done; syncs = λ any. syncs; same = λ zero. absurd (some zero) }

  pub none_told : (r : Result (Unit {0}) ChangeRefusal) (old new : Option (List ℕ)) → count ≡ 0 → OnOk r (SyncsIf false disk dev e) → OnOk r (Tells (Some count) old new) → OnOk r (TellsRecount disk last d e old new)
  none_told (Ok _) old new zero same told = record { wrong = count; recounted = none_so zero same; told = told }
  none_told (Err r) old new zero same told = tt

  pub some_told : (r : Result (Unit {0}) ChangeRefusal) (old new : Option (List ℕ)) → count ≢ 0 → OnOk r (SyncsIf last disk dev e) → OnOk r (Tells (Some count) old new) → OnOk r (TellsRecount disk last d e old new)
  some_told (Ok _) old new some syncs told = record { wrong = count; recounted = some_so some syncs; told = told }
  some_told (Err r) old new some syncs told = tt

  none_unended : (none : Type 0) (r : ChangeRefusal) → count ≡ 0 → IsUnended disk false dev e none r → HasNotRecounted disk last d e none r
  none_unended none (Disk fault) zero why = absurd (cc why.0)
  none_unended none Output zero same = (count, none_so zero same)
  none_unended none (Unopened fault) zero why = absurd why
  none_unended none (Tree fault) zero why = absurd why
  none_unended none (Unwritten fault) zero why = absurd why

  some_unended : (none : Type 0) (r : ChangeRefusal) → count ≢ 0 → IsUnended disk last dev e none r → HasNotRecounted disk last d e none r
  some_unended none (Disk fault) some why = (record { wrong = count; unsynced = dev; recounted = done; asked = why.0; faults = why.2 }, why.1, why.3)
  some_unended none Output some syncs = (count, some_so some syncs)
  some_unended none (Unopened fault) some why = absurd why
  some_unended none (Tree fault) some why = absurd why
  some_unended none (Unwritten fault) some why = absurd why

  pub none_untold : (r : Result (Unit {0}) ChangeRefusal) (none : Type 0) → count ≡ 0 → IfErr r (IsUnended disk false dev e none) → IfErr r (HasNotRecounted disk last d e none)
  none_untold (Ok _) none zero why = tt
  none_untold (Err r) none zero why = none_unended none r zero why

  pub some_untold : (r : Result (Unit {0}) ChangeRefusal) (none : Type 0) → count ≢ 0 → IfErr r (IsUnended disk last dev e none) → IfErr r (HasNotRecounted disk last d e none)
  some_untold (Ok _) none some why = tt
  some_untold (Err r) none some why = some_unended none r some why

  -- the disk is as it was where nothing was wrong
  pub none_same : (r : Result (Unit {0}) ChangeRefusal) (none : Type 0) → OnOk r (SyncsIf false disk dev e) → IfErr r (IsUnended disk false dev e none) → e ≡ dev
  none_same (Ok _) none same why = same
  none_same (Err (Disk fault)) none same why = absurd (cc why.0)
  none_same (Err Output) none same why = why
  none_same (Err (Unopened fault)) none same why = absurd why
  none_same (Err (Tree fault)) none same why = absurd why
  none_same (Err (Unwritten fault)) none same why = absurd why

  keeps : verdict (disk.image d) ≡ None → (z : Image) → RecoversAs (disk.image d) z → KeepsButCounts (recovered (disk.image d)) z
  keeps sound z same =
      let is = verdict_sound (disk.image d) sound in
      record {
        log = same.lawful ∙ is.1;
        sound = subst IsSound (sym same.image) is.2;
        files = λ i. ap (λ (y : Image). with_count (file_in (files_of y) i) 0) same.image;
      }

  -- and whatever a stop leaves, up to its end
  pub ended_stops : AddsNone (disk.moment dev) (disk.moment e) (disk.leaves dev) (disk.leaves e) → (count ≡ 0 → e ≡ dev) → StopsRecount disk d e
  ended_stops time same sound =
      ⊎_elim
      (λ (read : (count ≡ 0) × OnlyReads disk d dev).
      subst (λ (o : D). LeavesIfSynced disk d o (KeepsButCounts (recovered (disk.image d)))) (sym (same read.0))
      (if_synced_wider disk d dev (RecoversAs (disk.image d)) (KeepsButCounts (recovered (disk.image d))) (keeps sound) (read_if_synced disk d dev read.1)))
      (λ (ran : (count ≢ 0) × HasRun disk d dev).
      if_synced disk d e (KeepsButCounts (recovered (disk.image d)))
      (run_leaves disk d ran.1.first.opening e (RecoversAs (disk.image d)) (KeepsButCounts (recovered (disk.image d))) (keeps sound) ran.1.opened.leaves
      (stays disk.moment disk.leaves ran.1.first.opening dev e (KeepsButCounts (recovered (disk.image d))) ran.1.leaves time)))
      done.way

-- why they are not right, as it is told
pub unset_so : {D N : Type 0} (disk : Ghosts D N) (last : Bool) (d e : D) (none : Type 0) (fault : RecountFault) → IsUnrecounted disk d e fault → none → HasNotRecounted disk last d e none (refusal_of fault)
unset_so disk last d e none (recount.Unopened cause) why silent = (why, silent)
unset_so disk last d e none recount.TooMany why silent = (why, silent)
unset_so disk last d e none (recount.Call fault) why silent = (why, silent)
