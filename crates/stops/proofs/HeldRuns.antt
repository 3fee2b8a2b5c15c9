-- Whether a run over a disk that holds writes back kept its files.
use Rattle.std.proofs.Common.{◌≡◌, ◌∙◌, ℕ, Bool, List, Option, Ok, Err, ap, inl, subst, sym, length}
use Rattle.std.specs.Prelude.{IfOk, Result, option_map}
use Rattle.std.specs.Result.{IsOkAnd}
use Rattle.blocks.specs.FaultyDisk.{inner_of}
use Rattle.blocks.specs.contracts.sync.SyncDiskDisk.TheImpl.{ghosts}
use Rattle.scripts.specs.declared.schedule.Word.{Word}
use Rattle.scripts.specs.declared.script.Task.{Task}
use Rattle.crash_check.specs.Mismatches.{LacksFiles}
use Rattle.crash_check.specs.declared.mismatch.Cause.{Cause}
use Rattle.crash_check.specs.declared.mismatch.Mismatch.{Mismatch}
use Rattle.blocks.specs.SyncDisk.{held_of}
use Rattle.blocks.specs.declared.errors.NoMemory.{NoMemory as MemoryRefused}
use Rattle.blocks.specs.declared.sync.SyncDisk.{SyncDisk}
use Rattle.model.specs.Files.{Files}
use Rattle.crash_check.specs.Choices.{HasAllDue, HasDue, IsChoice, LacksDue, choice_count, due_files, left_by}
use Rattle.stops.specs.Holding.{FailsHeld, FailsSync, HasPlayedHeld, HeldPlayer, IsJudged, IsKeptBy, IsLostBy, IsTriedHeld, KeepsAll, LosesSome, RunsHeld, TellsHeldLoss, disk_of, over, sync_behind, write_behind}
use Rattle.player.specs.Opening.{IsArmed, IsOpenedOver}
use Rattle.crash_check.specs.Images.{HasFiles, kept_files, new_image}
use Rattle.crash_check.specs.declared.choices.Due.{Due}
use Rattle.stops.specs.declared.held_trial.Calls.{Calls}
use Rattle.stops.specs.declared.held_trial.HeldRun.{HeldRun}
use Rattle.stops.specs.declared.held_trial.Played.{Played}

module _ (last : HeldPlayer) (d : SyncDisk) (due : Due) (is_disk : d ≡ disk_of last)
    (committed : option_map (λ f. f.items) due.committed ≡ kept_files last.kernel.world.journal.list last.kernel.store.volume.log.committed)
    (opened : option_map (λ f. f.items) due.opened ≡ kept_files last.kernel.world.journal.list last.kernel.store.volume.log.opened) where
  abbrev of_files : SyncDisk → List Bool → Option Files → Option Files → Type 0
  of_files e keep one more = HasFiles (left_by e keep) (due_files one more (left_by e keep))

  abbrev here : Option Files
  here = option_map (λ f. f.items) due.committed

  abbrev there : Option Files
  there = kept_files last.kernel.world.journal.list last.kernel.store.volume.log.committed

  abbrev more_here : Option Files
  more_here = option_map (λ f. f.items) due.opened

  abbrev more_there : Option Files
  more_there = kept_files last.kernel.world.journal.list last.kernel.store.volume.log.opened

  to_kept : (keep : List Bool) → HasDue d due keep → IsKeptBy last keep
  to_kept keep has = subst (λ e. of_files e keep there more_there) is_disk (subst (λ f. of_files d keep there f) opened (subst (λ f. of_files d keep f more_here) committed has))

  abbrev lacks : Cause → SyncDisk → List Bool → Option Files → Option Files → Type 0
  lacks cause e keep one more = LacksFiles (left_by e keep) (due_files one more (left_by e keep)) cause

  to_lost : (keep : List Bool) (cause : Cause) → lacks cause d keep here more_here → IsLostBy last keep cause
  to_lost keep cause has = subst (λ e. lacks cause e keep there more_there) is_disk (subst (λ f. lacks cause d keep there f) opened (subst (λ f. lacks cause d keep f more_here) committed has))

  -- each image has its files
  pub keeps_all : HasAllDue d due → KeepsAll last
  keeps_all all keep choice = to_kept keep (all keep (subst (λ e. IsChoice (length (held_of e)) keep) (sym is_disk) choice))

  -- one has not
  pub loses_some : (m : Mismatch) → LacksDue d due m → LosesSome last m.choice m.cause
  loses_some m lost = (lost.0, subst (λ e. IsChoice (length (held_of e)) lost.0) is_disk lost.1, lost.2.choice, to_lost lost.0 m.cause lost.2.cause)

module _ (words : List Word) (write : ℕ) (player last : HeldPlayer) (d : SyncDisk) (is_disk : d ≡ disk_of last) where
  -- the turns were made, and each image that the disk may leave has its files
  pub run_held : (played : Result Played MemoryRefused) (count : HeldRun) → IfOk played (HasPlayedHeld words write player last) → IsOkAnd played (IsJudged d count) → RunsHeld words write player count
  run_held (Ok made) count plays judged = record {
    last = last;
    events = plays.turns.events;
    makes = plays.turns.makes;
    writes = judged.writes ∙ plays.turns.writes;
    syncs = judged.syncs ∙ ap ghosts.sync_count is_disk;
    images = judged.images ∙ ap (λ e. choice_count (length (held_of e))) is_disk;
    kept = keeps_all last d made.due is_disk plays.due.committed plays.due.opened judged.all;
  }
  run_held (Err _) count plays judged = absurd judged

  -- they were, and one has not
  pub run_lost : (m : Mismatch) (played : Result Played MemoryRefused) → IfOk played (HasPlayedHeld words write player last) → IsOkAnd played (λ made. LacksDue d made.due m) → TellsHeldLoss words write player m
  run_lost m (Ok made) plays lacks = record {
    last = last;
    events = plays.turns.events;
    makes = plays.turns.makes;
    lost = loses_some last d made.due is_disk plays.due.committed plays.due.opened m lacks;
  }
  run_lost m (Err _) plays lacks = absurd lacks

module _ (tasks : List Task) (processes : ℕ) (words : List Word) (write sync : ℕ) (player : HeldPlayer) (opened : IsOpenedOver over.image new_image tasks processes player)
    (armed : IsArmed over write player.kernel.store.volume.device) (trap : FailsSync sync (inner_of player.kernel.store.volume.device)) where
  pub tried_held : (count : HeldRun) → RunsHeld words write player count → IsTriedHeld tasks processes words write sync count
  tried_held count runs = record {
    player = player;
    last = runs.last;
    run = record { run = record { opened = opened; armed = armed; events = runs.events; makes = runs.makes }; trap = trap };
    writes = runs.writes;
    syncs = runs.syncs;
    images = runs.images;
    kept = runs.kept;
  }

  pub lost_held : (m : Mismatch) → TellsHeldLoss words write player m → FailsHeld tasks processes words write sync m
  lost_held m loses = inl (record { player = player; last = loses.last; run = record { run = record { opened = opened; armed = armed; events = loses.events; makes = loses.makes }; trap = trap }; lost = loses.lost })

-- a run that was stopped by these numbers, and doesn't pass
pub failed_behind : (tasks : List Task) (processes : ℕ) (words : List Word) (calls : Calls) (before write sync : ℕ) (m : Mismatch) → write ≡ write_behind calls before → sync ≡ sync_behind calls before
    → FailsHeld tasks processes words write sync m → FailsHeld tasks processes words (write_behind calls before) (sync_behind calls before) m
failed_behind tasks processes words calls before write sync m is_write is_sync fails =
    subst (λ (n : ℕ). FailsHeld tasks processes words n (sync_behind calls before) m) is_write (subst (λ (n : ℕ). FailsHeld tasks processes words write n m) is_sync fails)
