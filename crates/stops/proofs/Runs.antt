-- Whether a run kept its files.
use Rattle.std.proofs.Common.{◌≡◌, ℕ, ◌∙◌, false, List, Option, Ok, Err, subst, inl}
use Rattle.std.specs.Prelude.{IfErr, IfOk, Result, option_map}
use Rattle.std.specs.Result.{IsErrAnd, IsOkAnd}
use Rattle.blocks.specs.contracts.memory.MemDiskDisk.TheImpl.{ghosts}
use Rattle.blocks.specs.declared.disk.Disk.{Ghosts}
use Rattle.blocks.specs.declared.errors.NoMemory.{NoMemory as MemoryRefused}
use Rattle.blocks.specs.declared.faulty.FaultyDisk.{FaultyDisk}
use Rattle.blocks.specs.declared.faulty.Trap.{Trap}
use Rattle.blocks.specs.declared.memory.MemDisk.{MemDisk}
use Rattle.model.specs.Files.{Files}
use Rattle.player.specs.Afterwards.{IsUnopenedOver}
use Rattle.player.specs.Opening.{IsArmed, IsOpenedOver}
use Rattle.scripts.specs.declared.schedule.Word.{Word}
use Rattle.scripts.specs.declared.script.Task.{Task}
use Rattle.crash_check.specs.declared.fault.StopsFault.{StopsFault}
use Rattle.crash_check.specs.Lemmas.Faults.{OnMismatch-weaker}
use Rattle.crash_check.specs.Mismatches.{LacksFiles, OnMismatch}
use Rattle.crash_check.specs.declared.mismatch.Mismatch.{Mismatch}
use Rattle.kernel.specs.declared.types.OpenFault.{OpenFault}
use Rattle.crash_check.specs.Images.{HasFiles, is_want_of_memory, kept_files, new_image}
use Rattle.stops.specs.Trials.{Fails, HasPlayedOn, IsKeptOf, IsLostOf, IsTried, IsUnopenedNew, MemoryPlayer, RunsTo, TellsLoss, TellsUnopened, memory}
use Rattle.stops.specs.declared.trial.Played.{Played}

module _ (words : List Word) (stop : ℕ) (player last : MemoryPlayer) (disk : MemDisk) (is_disk : disk ≡ last.kernel.store.volume.device.inner) where
  abbrev due_of : Played → Option Files
  due_of made = option_map (λ f. f.items) made.files

  abbrev due : Option Files
  due = kept_files last.kernel.world.journal.list last.kernel.store.volume.log.committed

  -- the turns were made, and the disk that was handed back has the files that are due
  pub run_kept : (played : Result Played MemoryRefused) (count : ℕ) → IfOk played (HasPlayedOn words stop player last) → IsOkAnd played (IsKeptOf disk count) → RunsTo words stop player count
  run_kept (Ok made) count plays kept = record {
    last = last;
    events = plays.turns.events;
    makes = plays.turns.makes;
    writes = kept.0 ∙ plays.turns.writes;
    kept = subst (λ d. HasFiles (ghosts.image d) due) is_disk (subst (λ f. HasFiles (ghosts.image disk) f) plays.files kept.1);
  }
  run_kept (Err _) count plays kept = absurd kept

  -- they were, and it has not
  pub run_lost : (m : Mismatch) (played : Result Played MemoryRefused) → IfOk played (HasPlayedOn words stop player last) → IsOkAnd played (IsLostOf disk m) → TellsLoss words stop player m
  run_lost m (Ok made) plays lost = (
    lost.0,
    record {
      last = last;
      events = plays.turns.events;
      makes = plays.turns.makes;
      lost = subst (λ d. LacksFiles (ghosts.image d) due m.cause) is_disk (subst (λ f. LacksFiles (ghosts.image disk) f m.cause) plays.files lost.1);
    },
  )
  run_lost m (Err _) plays lost = absurd lost

module _ (tasks : List Task) (processes : ℕ) (words : List Word) (stop : ℕ) (player : MemoryPlayer) (opened : IsOpenedOver memory.image new_image tasks processes player)
    (armed : IsArmed memory stop player.kernel.store.volume.device) where
  pub tried_so : (count : ℕ) → RunsTo words stop player count → IsTried tasks processes words stop count
  tried_so count runs = record {
    player = player;
    last = runs.last;
    run = record { opened = opened; armed = armed; events = runs.events; makes = runs.makes };
    writes = runs.writes;
    kept = runs.kept;
  }

  pub lost_so : (m : Mismatch) → TellsLoss words stop player m → Fails tasks processes words stop m
  lost_so m tells = let loses = tells.1 in
      inl (tells.0, record { player = player; last = loses.last; run = record { opened = opened; armed = armed; events = loses.events; makes = loses.makes }; lost = loses.lost })

-- what is known of a player that was opened is known of the one that is handed on
pub handed_on : {A E F : Type 0} (made : Result A E) (r : Result A F) (P : A → Type 0) → IfOk r (λ x. made ≡ Ok x) → IfOk made P → IfOk r P
handed_on made (Ok x) P is has = subst (λ m. IfOk m P) is has
handed_on made (Err _) P is has = tt

-- over a new image no player was opened: a mismatch is a refusal for another cause than want of memory
pub unopened_new : {A D N : Type 0} (below : Ghosts D N) (disk : Ghosts (FaultyDisk D) (N × Trap)) (IsKind : D → Type 0) (processes stop : ℕ) (before : D) (made : Result A (OpenFault × D)) (r : Result A StopsFault) → below.image before ≡ new_image → IsKind before
    → IfErr r (λ f. OnMismatch f (λ m. TellsUnopened m × IsErrAnd made (λ e. is_want_of_memory e.0 ≡ false))) → IfErr made (λ e. IsUnopenedOver disk processes stop before e.1 e.0)
    → IfErr r (λ f. OnMismatch f (λ m. TellsUnopened m × IsUnopenedNew below disk IsKind processes stop))
unopened_new below disk IsKind processes stop before made (Ok _) new kind other refused = tt
unopened_new below disk IsKind processes stop before (Ok _) (Err f) new kind other refused = OnMismatch-weaker f _ _ (λ m told. absurd told.1) other
unopened_new below disk IsKind processes stop before (Err e) (Err f) new kind other refused = OnMismatch-weaker f _ _ (λ m told. (
  told.0,
  record {
    before = before;
    now = e.1;
    fault = e.0;
    new = new;
    kind = kind;
    unopened = refused;
    other = told.1;
  },
)) other
