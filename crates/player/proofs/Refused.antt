-- What was printed where a replay ended, or was refused.
use Rattle.std.proofs.Common.{ℕ, List, subst}
use Rattle.std.specs.Prelude.{◌≡◌, ◌++◌, flat_map, Option, Some}
use Rattle.std.specs.Io.KnownBytes.{Appends}
use Rattle.std.proofs.KnownBytes.{Appends-trans}
use Rattle.blocks.specs.declared.disk.Disk.{Ghosts}
use Rattle.wal.specs.declared.types.DeviceFault.{DeviceFault}
use Rattle.blocks.specs.declared.faulty.FaultyDisk.{FaultyDisk}
use Rattle.blocks.specs.declared.faulty.Trap.{Trap}
use Rattle.scripts.specs.declared.schedule.Word.{Word}
use Rattle.scripts.specs.declared.script.Task.{Task}
use Rattle.player.specs.Opening.{IsNotBegun, IsNotReplayed, IsPlayedOn, IsReadyOver, Replays}
use Rattle.player.specs.declared.noting.Base.{Base}
use Rattle.player.specs.declared.player.Player.{Player}
use Rattle.player.specs.declared.refusals.ReplayRefusal.{ReplayRefusal}
use Rattle.player.specs.declared.refusals.ReplayRefusal.TheVariants.{Unrecovered, Unopened, Disk, Output}
use Rattle.player.specs.Stepping.{BreaksOff, IsNotClosed, end_text, kernel_fault}
use Rattle.player.specs.Told.{HearsTurns, IsBrokenOff, PlaysTo, RunsTo, Saying, Told, base_of}

module _ {D N : Type 0} (disk : Ghosts (FaultyDisk D) (N × Trap)) (base : Base) (stop n : ℕ) (says : Saying) (words : List Word) (old new : Player D N) (text mid printed : Option (List ℕ)) (same : n ≡ old.kernel.store.table.inode_count) where
  -- the counts behind the turns
  pub counts_printed : (fault : Option DeviceFault) (tolds : List Told) → PlaysTo disk base stop (says.of_turn n) words old new text mid tolds → kernel_fault new.kernel ≡ fault → Appends mid printed (end_text disk base.writes says.of_end new.kernel) → RunsTo disk base stop says words old new fault text printed tolds
  counts_printed fault tolds plays told counts = record {
    makes = plays.makes;
    tells = told;
    lines = subst (λ many. Appends text printed (flat_map (says.of_turn many) tolds ++ end_text disk base.writes says.of_end new.kernel)) same (Appends-trans text mid printed _ _ plays.lines counts);
  }

  -- a run whose turns were played, and whose end was refused
  pub broken_off : (tolds : List Told) → PlaysTo disk base stop (says.of_turn n) words old new text mid tolds → BreaksOff disk stop words old new → (r : ReplayRefusal) → IsNotClosed disk base.writes says.of_end new.kernel mid printed r → IsBrokenOff disk base stop says words old new text printed r
  broken_off tolds plays breaks (Disk fault) why = (tolds, counts_printed (Some fault) tolds plays why.0 why.1)
  broken_off tolds plays breaks Output why = breaks
  broken_off tolds plays breaks (Unrecovered refusal) why = absurd why
  broken_off tolds plays breaks (Unopened fault) why = absurd why

-- what was told is known of the same turns that were heard of
pub heard_as : {T : Type 0} (hears : Word → Told → T → T → Type 0) (words : List Word) (t u : T) (P Q : List Told → Type 0) → ((tolds : List Told) → P tolds → Q tolds) → HearsTurns hears words t u P → HearsTurns hears words t u Q
heard_as hears words t u P Q each heard = record { tolds = heard.tolds; told = each heard.tolds heard.told; heard = heard.heard }

-- where a replay was not begun
pub not_begun : {D N : Type 0} (below : Ghosts D N) (disk : Ghosts (FaultyDisk D) (N × Trap)) (processes : ℕ) (d e : D) (tasks : List Task) (words : List Word) (s stop : ℕ) (same : s ≡ stop) (says : Saying) (text printed : Option (List ℕ)) (none : Type 0)
    → (r : ReplayRefusal) → IsNotBegun below disk processes s d e r → none → IsNotReplayed below disk d e tasks processes words stop says text printed none r
not_begun below disk processes d e tasks words s stop same says text printed none (Unrecovered refusal) why nothing = (why, nothing)
not_begun below disk processes d e tasks words s stop same says text printed none (Unopened fault) why nothing = (subst (λ n. IsNotBegun below disk processes n d e (Unopened fault)) same why, nothing)
not_begun below disk processes d e tasks words s stop same says text printed none (Disk fault) why nothing = absurd why
not_begun below disk processes d e tasks words s stop same says text printed none Output why nothing = absurd why

-- what a run that was refused is to the whole replay
module _ {D N : Type 0} (below : Ghosts D N) (disk : Ghosts (FaultyDisk D) (N × Trap)) (d e : D) (tasks : List Task) (processes : ℕ) (words : List Word) (stop s : ℕ) (base : Base) (same : s ≡ stop) (says : Saying) (text printed : Option (List ℕ)) (player last : Player D N)
    (ready : IsReadyOver below disk d tasks processes s player) (counts : base ≡ base_of disk player.kernel.store.volume.device) (played : IsPlayedOn below disk d e tasks processes player last) where
  pub replayed : (fault : Option DeviceFault) (tolds : List Told) → RunsTo disk base s says words player last fault text printed tolds → Replays below disk d e tasks processes words stop says fault text printed tolds
  replayed fault tolds runs = record {
    player = player;
    last = last;
    ready = subst (λ n. IsReadyOver below disk d tasks processes n player) same ready;
    runs = subst (λ n. RunsTo disk (base_of disk player.kernel.store.volume.device) n says words player last fault text printed tolds) same (subst (λ b. RunsTo disk b s says words player last fault text printed tolds) counts runs);
    played = played;
  }

  pub run_refused : (none : Type 0) (r : ReplayRefusal) → IsBrokenOff disk base s says words player last text printed r → IsNotReplayed below disk d e tasks processes words stop says text printed none r
  run_refused none (Disk fault) why = (why.0, replayed (Some fault) why.0 why.1)
  run_refused none Output why = record {
    player = player;
    last = last;
    ready = subst (λ n. IsReadyOver below disk d tasks processes n player) same ready;
    breaks = subst (λ n. BreaksOff disk n words player last) same why;
    played = played;
  }
  run_refused none (Unrecovered refusal) why = absurd why
  run_refused none (Unopened fault) why = absurd why
