-- What a run of turns keeps.
use Rattle.std.proofs.Common.{◌≡◌, ◌∙◌, ℕ, zero, suc, Bool, true, false, List, [], ◌∷◌, length, refl, sym, ap, subst, arith, inl, inr, ⊎_elim}
use Rattle.blocks.specs.Disk.{Image, LeavesOnly}
use Rattle.blocks.specs.declared.disk.Disk.{Ghosts}
use Rattle.blocks.specs.declared.faulty.FaultyDisk.{FaultyDisk}
use Rattle.blocks.specs.declared.faulty.Trap.{Trap}
use Rattle.model.specs.Layout.{inode_count_of}
use Rattle.model.specs.Log.{recovered}
use Rattle.model.specs.Lemmas.Recovery.{recovers_once}
use Rattle.wal.specs.Recovery.{LeavesFromSync, RecoversAs}
use Rattle.history.specs.Keeps.{KeepsBetween}
use Rattle.history.specs.Most.{most_of}
use Rattle.history.specs.Own.{KeepsOwn}
use Rattle.wal.specs.Lemmas.Stops.{run_leaves}
use Rattle.clients.specs.Backlogs.{ops_of}
use Rattle.model.specs.declared.types.operations.Step.{Step}
use Rattle.model.specs.declared.types.operations.Step.TheVariants as step
use Rattle.kernel.specs.Lemmas.Turns.{Keeps, runs_on_none, runs_on_step, runs_on_then}
use Rattle.kernel.specs.Runs.{RunsOn}
use Rattle.kernel.specs.Moves.{MakesSteps, Moves}
use Rattle.history.specs.Lemmas.Leaving.{kept_alike}
use Rattle.scripts.specs.declared.schedule.Word.{Word}
use Rattle.scripts.specs.declared.schedule.Word.TheVariants as word
use Rattle.scripts.specs.declared.script.Task.{Task}
use Rattle.messages.specs.declared.events.Event.{Event}
use Rattle.player.specs.declared.player.Player.{Player}
use Rattle.messages.specs.Events.{is_last}
use Rattle.player.specs.Opening.{IsPlayedOn, IsReadyOver, KeepsSome}
use Rattle.player.specs.Stepping.{KeepOps, KeepsOfFeeders, Ringed, MakesRingedStep, MakesTurn, MakesTurns, board_herald, ring_ends}
use Rattle.player.specs.Turns.{IfLast}
use Rattle.player.specs.Disks.{faulty}

-- no committed group is lost, and the disk is the same one
pub record KeepsOn {D N : Type 0} (disk : Ghosts D N) (k m : Ringed D) : Type 0 where
  pub runs : RunsOn disk k m
  pub name : disk.name m.store.volume.device ≡ disk.name k.store.volume.device

module _ {D N : Type 0} (disk : Ghosts D N) where
  keeps_none : (k : Ringed D) → Keeps disk ring_ends board_herald k → KeepsOn disk k k
  keeps_none k keeps = record { runs = runs_on_none disk ring_ends board_herald k keeps; name = refl }

  -- where only the queues changed
  keeps_queues : (k m n : Ringed D) → KeepsOn disk k m → n ≡ record m { intake = n.intake } → KeepsOn disk k n
  keeps_queues k m n kept same = subst (λ (o : Ringed D). KeepsOn disk k o) (sym same) (record {
    runs = record { opening = kept.runs.opening; many = kept.runs.many; shut = kept.runs.shut; grows = kept.runs.grows; stop = kept.runs.stop };
    name = kept.name;
  })

  keeps_step : (p : ℕ) (r : Step) (k m n : Ringed D) → KeepsOn disk k m → MakesRingedStep disk p r m n → KeepsOn disk k n
  keeps_step p r k m n kept made = record {
    runs = runs_on_then disk ring_ends board_herald k m n kept.runs (runs_on_step disk ring_ends board_herald p r m n made);
    name = made.acts.device.name ∙ kept.name;
  }

  keeps_moves : (p count : ℕ) (k m n : Ringed D) → KeepsOn disk k m → Moves (MakesRingedStep disk p) count m n → KeepsOn disk k n
  unfolding Moves
  keeps_moves p zero k m n kept moves = subst (λ (o : Ringed D). KeepsOn disk k o) (sym moves) kept
  keeps_moves p (suc count) k m n kept (mid, made, moves) = keeps_moves p count k mid n (keeps_step p step.Moved k m mid kept made) moves

  keeps_steps : (p : ℕ) (r : Step) (k m n : Ringed D) → KeepsOn disk k m → MakesSteps disk ring_ends board_herald p r m n → KeepsOn disk k n
  keeps_steps p r k m n kept makes = keeps_step p r k makes.mid n (keeps_moves p makes.moved k m makes.mid kept makes.moves) makes.made

module _ {D N : Type 0} (disk : Ghosts (FaultyDisk D) (N × Trap)) (stop : ℕ) where
  keeps_turn : (w : Word) (event : Event) (k : Ringed (FaultyDisk D)) (old new : Player D N) → KeepsOn disk k old.kernel → MakesTurn disk stop w event old new → KeepsOn disk k new.kernel
  keeps_turn (word.Step p) event k old new kept turn =
      keeps_queues disk k turn.stepped new.kernel (keeps_step disk p turn.answer k turn.handed turn.stepped (keeps_queues disk k old.kernel turn.handed kept turn.hands_in.same) turn.steps) turn.polls.same
  keeps_turn (word.Steps p) event k old new kept turn =
      keeps_queues disk k turn.stepped new.kernel (keeps_steps disk p turn.answer k turn.handed turn.stepped (keeps_queues disk k old.kernel turn.handed kept turn.hands_in.same) turn.steps) turn.polls.same
  keeps_turn word.Shutdown event k old new kept turn = subst (λ (o : Ringed (FaultyDisk D)). KeepsOn disk k o) (sym turn.2) kept

  keeps_turns : (words : List Word) (events : List Event) (k : Ringed (FaultyDisk D)) (old new : Player D N) → KeepsOn disk k old.kernel → MakesTurns disk stop words events old new → KeepsOn disk k new.kernel
  keeps_turns [] events k old new so makes = subst (λ (o : Player D N). KeepsOn disk k o.kernel) (sym makes.1) so
  keeps_turns (w ∷ words) [] k old new so makes = absurd makes
  keeps_turns (w ∷ words) (event ∷ events) k old new so (mid, turn, rest) = here (is_last event) (keeps_turn w event k old mid so turn) (λ kept_mid more. keeps_turns words events k mid new kept_mid more) rest
    where
      here : (b : Bool) → KeepsOn disk k mid.kernel → (KeepsOn disk k mid.kernel → MakesTurns disk stop words events mid new → KeepsOn disk k new.kernel) → IfLast b ((events ≡ []) × (new ≡ mid)) (MakesTurns disk stop words events mid new) → KeepsOn disk k new.kernel
      here true so_mid on ends = subst (λ (o : Player D N). KeepsOn disk k o.kernel) (sym ends.1) so_mid
      here false so_mid on more = on so_mid more

  -- what turns keep of a player's kernel
  pub turns_keep : (words : List Word) (events : List Event) (old new : Player D N) → Keeps disk ring_ends board_herald old.kernel → MakesTurns disk stop words events old new → KeepsOn disk old.kernel new.kernel
  turns_keep words events old new keeps makes = keeps_turns words events old.kernel old new (keeps_none disk old.kernel keeps) makes

module _ {D N : Type 0} (below : Ghosts D N) (has_now : (d : D) → below.leaves d (below.moment d) (below.image d)) (d : D) (tasks : List Task) (processes stop : ℕ) (player last : Player D N)
    (ready : IsReadyOver below (faulty below) d tasks processes stop player) (runs : RunsOn (faulty below) player.kernel last.kernel) where
  abbrev first : D
  first = player.kernel.store.volume.device.inner

  recovers_first : below.image first ≡ recovered (below.image d)
  recovers_first = ap (λ s. below.image s.volume.device.inner) ready.opened.store ∙ ready.opened.recovers ∙ recovers_once (below.image d)

  -- what a run makes of a disk that a player was opened over
  pub played_on : (e : D) → e ≡ last.kernel.store.volume.device.inner → (faulty below).name last.kernel.store.volume.device ≡ (faulty below).name player.kernel.store.volume.device
      → length player.kernel.world.processes ≡ processes → KeepOps player.feeders.items last.feeders.items → KeepsOfFeeders (faulty below) last.kernel (length last.kernel.world.processes) last.feeders.items
      → IsPlayedOn below (faulty below) d e tasks processes player last
  played_on e is name many ops own = record {
    now = is;
    keeps = runs;
    own = subst (λ n. KeepsOwn (inode_count_of ((faulty below).image last.kernel.opening)) last.kernel.world.journal.list n (λ p. ops_of p tasks)) (runs.many ∙ many)
        (own (λ p. ops_of p tasks) (ops (λ p. ops_of p tasks) (λ p s at. (ready.opened.feeders.each p s at).all)));
    name = ap below.name is ∙ ap (λ n. n.0) name ∙ ready.name;
    leaves = subst (λ o. LeavesFromSync below d o P) (sym is)
        (run_leaves below d first last.kernel.store.volume.device.inner (RecoversAs (below.image d)) P
        (kept_alike below has_now d first last.kernel.store.volume.device.inner (most_of last.kernel.store.volume) ((faulty below).image last.kernel.opening) last.kernel.world.journal.list ready.sound recovers_first on)
        ready.leaves on);
  }
    where
      P : Image → Type 0
      P = KeepsSome (faulty below) last.kernel

      lower : (x : Image) → KeepsBetween player.kernel.store.volume.log.committed (most_of last.kernel.store.volume) ((faulty below).image last.kernel.opening) last.kernel.world.journal.list x → P x
      lower x k = record { groups = k.groups; low = omega arith; high = k.high; keeps = k.keeps }

      on : LeavesOnly below.moment below.leaves first last.kernel.store.volume.device.inner P
      on = record {
        later = runs.stop.leaves.later;
        each = λ x left. lower x (runs.stop.leaves.each x left);
        before = λ t x le left. ⊎_elim (λ was. inl was) (λ k. inr (lower x k)) (runs.stop.leaves.before t x le left);
        keeps = runs.stop.leaves.keeps;
      }
