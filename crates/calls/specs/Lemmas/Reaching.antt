-- How a kernel over plain queues goes on, call after call.
use Rattle.std.specs.Prelude.{IfSome, IsSome, List, Bool}
use Rattle.std.proofs.Common.{◌≡◌, ◌∙◌, zero, suc, ℕ, Option, Some, None, refl, sym, ap, subst}
use Rattle.blocks.specs.declared.disk.Disk.{Ghosts}
use Rattle.model.specs.declared.types.operations.Op.{Op}
use Rattle.model.specs.declared.types.operations.Step.{Step}
use Rattle.model.specs.declared.types.operations.Step.TheVariants as step
use Rattle.wal.specs.declared.types.DeviceFault.{DeviceFault}
use Rattle.inodes.specs.Store.{StoreState}
use Rattle.ports.specs.History.{Side}
use Rattle.history.specs.Processes.{World, process}
use Rattle.kernel.specs.Device.{CountsItsFault, FailsSo, counts_of}
use Rattle.kernel.specs.Lemmas.Turns.{runs_on_none, runs_on_ports, runs_on_step, runs_on_then}
use Rattle.kernel.specs.Moves.{MakesSteps, Moves}
use Rattle.kernel.specs.Next.{NextIf}
use Rattle.kernel.specs.Runs.{RunsOn}
use Rattle.calls.specs.Stepping.{GoesOn, HasMet, IsReached, IsSafe, MakesPlainStep, MeetsFault, Plain, plain_herald, plain_queues}

-- after a fault a step does nothing to the store
halted_same : {D N : Type 0} (disk : Ghosts D N) (f : Option DeviceFault) (s : StoreState D) (w : World) (p : ℕ) (ahead : List Op) (side : Side) (told : Bool) (r : Step) (t : StoreState D) (z : World)
    → IsSome f → NextIf disk f s w p ahead side told r t z → t ≡ s
halted_same disk None s w p ahead side told r t z is next = absurd (cc is)
halted_same disk (Some fault) s w p ahead side told r t z is (answer, (same, still)) = same

-- no fault is none
none_met : {f : Option DeviceFault} {A : Type 0} (fault : DeviceFault) → f ≡ None → f ≡ Some fault → A
none_met fault well is = let no : None ≡ Some fault = sym well ∙ is in absurd (cc no)

module _ {D N : Type 0} (disk : Ghosts D N) where
  abbrev pub Runs : Plain D → Plain D → Type 0
  Runs k m = IsSafe disk k → RunsOn disk k m

  abbrev pub Meets : Plain D → Plain D → Type 0
  Meets k m = (fault : DeviceFault) → k.store.volume.fault ≡ None → m.store.volume.fault ≡ Some fault → HasMet disk fault k m

  abbrev pub Halts : Plain D → Plain D → Type 0
  Halts k m = IsSome k.store.volume.fault → m.store ≡ k.store

  goes_by : (k m : Plain D) → Runs k m → GoesOn disk k m
  unfolding GoesOn
  goes_by k m runs = runs

  goes_to : (k m : Plain D) → GoesOn disk k m → Runs k m
  unfolding GoesOn
  goes_to k m goes = goes

  reached_by : (k m : Plain D) → Runs k m → Meets k m → Halts k m → IsReached disk k m
  unfolding MeetsFault
  reached_by k m runs meets halts = record { goes = goes_by k m runs; fault = (meets, halts) }

  -- of a kernel that is known, what a stop leaves of the way from it
  pub runs_reached : (k m : Plain D) → IsReached disk k m → Runs k m
  runs_reached k m reached = goes_to k m reached.goes

  -- a fault is one that a step met
  pub meets_reached : (k m : Plain D) → IsReached disk k m → Meets k m
  unfolding MeetsFault
  meets_reached k m reached = reached.fault.0

  -- behind a fault nothing is done
  pub halts_reached : (k m : Plain D) → IsReached disk k m → Halts k m
  unfolding MeetsFault
  halts_reached k m reached = reached.fault.1

  -- and no group is lost before its step, or from it on
  pub runs_met : (fault : DeviceFault) (k m : Plain D) → (met : HasMet disk fault k m) → Runs k met.before × Runs met.before m
  runs_met fault k m met = (goes_to k met.before met.comes, goes_to met.before m met.goes)

  -- no turn
  pub reached_none : (k : Plain D) → IsReached disk k k
  reached_none k = reached_by k k (runs_on_none disk plain_queues plain_herald k) (λ fault well is. none_met fault well is) (λ is. refl)

  pub reached_then : (k l m : Plain D) → IsReached disk k l → IsReached disk l m → IsReached disk k m
  reached_then k l m first next =
      reached_by k m (behind m (runs_reached l m next)) (λ fault well is. by fault well is l.store.volume.fault refl)
      (λ is. halts_reached l m next (subst (λ (s : StoreState D). IsSome s.volume.fault) (sym (halts_reached k l first is)) is) ∙ halts_reached k l first is)
    where
      behind : (n : Plain D) → Runs l n → Runs k n
      behind n runs safe = let here = runs_reached k l first safe in runs_on_then disk plain_queues plain_herald k l n here (runs here.stop.keeps)

      then_goes : (n : Plain D) → Runs n l → Runs n m
      then_goes n runs safe = let here = runs safe in runs_on_then disk plain_queues plain_herald n l m here (runs_reached l m next here.stop.keeps)

      by : (fault : DeviceFault) → k.store.volume.fault ≡ None → m.store.volume.fault ≡ Some fault → (f : Option DeviceFault) → l.store.volume.fault ≡ f → HasMet disk fault k m
      by fault well is None at =
          let met = meets_reached l m next fault at is in
          record { before = met.before; comes = goes_by k met.before (behind met.before (goes_to l met.before met.comes)); goes = met.goes; well = met.well; number = met.number; block = met.block; counts = met.counts }
      by fault well is (Some other) at =
          let same : m.store ≡ l.store = halts_reached l m next (subst IsSome (sym at) refl) in
          let met = meets_reached k l first fault well (ap (λ (s : StoreState D). s.volume.fault) (sym same) ∙ is) in
          record { before = met.before; comes = met.comes; goes = goes_by met.before m (then_goes met.before (goes_to met.before l met.goes)); well = met.well; number = met.number; block = met.block; counts = ap (λ (s : StoreState D). disk.fault_count s.volume.device) same ∙ met.counts }

  -- an operation is handed in, or an answer is fetched
  pub reached_ports : (k m : Plain D) → m ≡ record k { intake = m.intake } → IsReached disk k m
  reached_ports k m same =
      reached_by k m (λ safe. runs_on_ports disk plain_queues plain_herald k m m.intake k.herald safe same)
      (λ fault well is. (let still : m.store.volume.fault ≡ k.store.volume.fault = ap (λ (n : Plain D). n.store.volume.fault) same in none_met fault well (sym still ∙ is)))
      (λ is. ap (λ (n : Plain D). n.store) same)

  -- a step of a process
  pub reached_step : (p : ℕ) (r : Step) (k m : Plain D) → MakesPlainStep disk p r k m → IsReached disk k m
  reached_step p r k m made =
      reached_by k m (λ safe. runs_on_step disk plain_queues plain_herald p r k m made)
      (λ fault well is. record {
        before = k;
        comes = goes_by k k (runs_on_none disk plain_queues plain_herald k);
        goes = goes_by k m (λ safe. runs_on_step disk plain_queues plain_herald p r k m made);
        well = well;
        number = p;
        block = subst (λ (f : Option DeviceFault). IfSome f (FailsSo (process k.world p).at k.store p)) is (made.acts.device.block well);
        counts = (subst (λ (f : Option DeviceFault). CountsItsFault f (counts_of disk k.store.volume.device) (counts_of disk m.store.volume.device) (disk.fault_count k.store.volume.device) (disk.fault_count m.store.volume.device)) is
            (made.acts.device.faults well)).1;
      })
      (λ is. halted_same disk k.store.volume.fault k.store k.world p _ _ _ r m.store m.world is made.acts.next)

  reached_moves : (p : ℕ) (n : ℕ) (k m : Plain D) → Moves (MakesPlainStep disk p) n k m → IsReached disk k m
  unfolding Moves
  reached_moves p zero k m is = subst (IsReached disk k) (sym is) (reached_none k)
  reached_moves p (suc n) k m (mid, made, moves) = reached_then k mid m (reached_step p step.Moved k mid made) (reached_moves p n mid m moves)

  -- steps
  pub reached_steps : (p : ℕ) (r : Step) (k m : Plain D) → MakesSteps disk plain_queues plain_herald p r k m → IsReached disk k m
  reached_steps p r k m makes = reached_then k makes.mid m (reached_moves p makes.moved k makes.mid makes.moves) (reached_step p r makes.mid m makes.made)
