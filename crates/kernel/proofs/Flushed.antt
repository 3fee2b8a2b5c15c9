-- Steps of processes with an operation under way: each that need not wait takes one that is left.
use Rattle.std.proofs.Common.{◌≡◌, ◌≢◌, ◌⊎◌, inl, inr, ℕ, zero, suc, ◌+◌, ◌*◌, ◌<◌, ◌≤◌, true, false, List, [], ◌∷◌, ◌++◌, length, length-append, refl, sym, ◌∙◌, ap, subst, arith, mul-le-mul_left, mul-suc, Option, Some, None}
use Rattle.std.specs.Prelude.{IfNone, IsSome}
use Rattle.kernel.specs.Common.{ats_of, cases_eq, DeviceFault, is_busy_at, left_of, MakesStep, NextIf, process, Proc, Runs, State, Step, StoreState, Turn, where_none, Why, World}
use Rattle.blocks.specs.declared.disk.Disk as disk_trait
use Rattle.ports.specs.declared.herald.Herald as herald_trait
use Rattle.ports.specs.declared.intake.Intake as intake_trait
use Rattle.model.specs.Layout.{form_of}
use Rattle.kernel.specs.Next.{Same}
use Rattle.kernel.specs.Awake.{AreIdle, IsAwake, IsBusy, cause_of}
use Rattle.kernel.specs.Bound.{step_bound}
use Rattle.kernel.specs.Flush.{AreOver, EndsOnly, Flushes, GoesOn}
use Rattle.kernel.specs.Known.{Known}
use Rattle.kernel.specs.Rounds.{BeginsNone, all_left, sum_below}
use Rattle.kernel.specs.Sleeping.{SleepsForCause, WaitsWithCause}
use Rattle.kernel.proofs.Awaking.{asleep_same, next_of}
use Rattle.kernel.proofs.Begun.{begins_none}
use Rattle.kernel.proofs.Rounds.{Someone, Takes, Waits, busy_inside, cause_stays, one_turn, someone, stays_with, sum_falls, sum_stays}
use Rattle.kernel.proofs.Turns.{runs_more}

-- a sum of so many values, each below b, is below as many times b by as many at least
sum_under : (f : ℕ → ℕ) (n b : ℕ) → ((q : ℕ) → f q < b) → sum_below f n + n ≤ n * b
sum_under f zero b few = omega arith
sum_under f (suc n) b few =
    let rest = sum_under f n b few in
    let here = few n in
    grind (arith, rest, here)

-- with one more at most as many times n
one_fewer : (n a b : ℕ) → a < b → n * a + n ≤ n * b
one_fewer n a b lt = let le : n * suc a ≤ n * b = mul-le-mul_left n lt in let is = mul-suc n a in omega (arith, le, is)

no_fault : (o : Option DeviceFault) → (IsSome o → ⊥) → o ≡ None
no_fault None none = refl
no_fault (Some fault) none = absurd (none refl)

module _ {D N I M H : Type 0} (disk : disk_trait.Ghosts D N) (intake : intake_trait.Ghosts I M) (herald : herald_trait.Ghosts H) where
  -- turns behind turns
  runs_then : (ts us : List Turn) (k m n : State D I H) → Runs disk intake herald ts k m → Runs disk intake herald us m n → Runs disk intake herald (ts ++ us) k n
  runs_then [] us k m n is more = subst (λ (o : State D I H). Runs disk intake herald us o n) is more
  runs_then (t ∷ ts) us k m n is more = (is.0, is.1, runs_then ts us is.0 m n is.2 more)

  -- ---- one step of a process with an operation under way

  module _ (k m : State D I H) (p : ℕ) (r : Step) (makes : MakesStep disk intake herald p r k m) where
    halts : (fault : DeviceFault) → k.store.volume.fault ≡ Some fault → (r ≡ Step.Halted) × Same k.store k.world m.store m.world
    halts fault is = subst (λ (o : Option DeviceFault). NextIf disk o k.store k.world p (intake.side k.intake p).ahead (intake.side m.intake p) (herald.told m.herald) r m.store m.world) is makes.acts.next

    well : r ≢ Step.Halted → k.store.volume.fault ≡ None
    well going = by k.store.volume.fault refl
      where
        by : (o : Option DeviceFault) → k.store.volume.fault ≡ o → k.store.volume.fault ≡ None
        by None is = is
        by (Some fault) is = absurd (going (halts fault is).0)

    still : r ≢ Step.Halted → m.store.volume.fault ≡ None
    still going = no_fault m.store.volume.fault (λ (some : IsSome m.store.volume.fault). going (makes.acts.device.halted.1 some))

    -- it begins none
    none_begun : IsBusy k p → BeginsNone k.world m.world
    none_begun busy = by k.store.volume.fault refl
      where
        by : (o : Option DeviceFault) → k.store.volume.fault ≡ o → BeginsNone k.world m.world
        by None is = begins_none disk k.store m.store k.world m.world p (intake.side k.intake p).ahead (intake.side m.intake p) (herald.told m.herald) r (ats_of k.world p) busy (next_of disk intake herald k m p r is makes)
        by (Some fault) is = λ q. ap (λ (w : World). (process w q).begun) (halts fault is).1.1

    -- one that has to wait changes nothing
    slept : (cause : Why) → r ≡ Step.Sleeping cause → Same k.store k.world m.store m.world
    slept cause is =
        let made : MakesStep disk intake herald p (Step.Sleeping cause) k m = subst (λ (o : Step). MakesStep disk intake herald p o k m) is makes in
        asleep_same disk intake herald k m p cause (intake.side k.intake p).ahead (intake.side m.intake p) (herald.told m.herald) (ats_of k.world p)
        (next_of disk intake herald k m p (Step.Sleeping cause) (well (λ (halted : r ≡ Step.Halted). let unlike : Step.Halted ≡ Step.Sleeping cause = sym halted ∙ is in cc unlike)) made)

    -- any other, unless it halts, takes one that is left
    took : SleepsForCause disk intake herald → WaitsWithCause disk intake herald → Known disk intake herald k → IsBusy k p → r ≢ Step.Halted → ((cause : Why) → r ≢ Step.Sleeping cause) → all_left disk.image m < all_left disk.image k
    took sleeps waits known busy going awake =
        by (one_turn disk intake herald sleeps k m p r (well going) (still going) (where_none k.store.volume.fault (well going) known.awake) makes (busy_inside k p busy) (none_begun busy p))
      where
        no_cause : (o : Option Why) → cause_of k p ≡ o → cause_of k p ≡ None
        no_cause None is = is
        no_cause (Some cause) is = absurd (awake cause (waits k m p r cause (well going) is makes))

        by : Takes disk.image p k m ⊎ Waits disk intake herald sleeps p k m → all_left disk.image m < all_left disk.image k
        by (inl takes) = subst (λ (n : ℕ). sum_below (left_of disk.image m) n < all_left disk.image k) (sym makes.progress.many) (sum_falls (left_of disk.image m) (left_of disk.image k) (length k.world.processes) p (busy_inside k p busy) takes.falls takes.others)
        by (inr (stays, had)) = absurd (had busy (no_cause (cause_of k p) refl))

  -- ---- one of each process, until one goes on

  -- of the first processes each with an operation under way was tried, and had to wait
  pub record HaveWaited (i : ℕ) (k m : State D I H) : Type 0 where
    pub turns : List Turn
    pub runs : Runs disk intake herald turns k m
    pub few : length turns ≤ i
    pub store : m.store ≡ k.store
    pub world : m.world ≡ k.world
    pub waited : (q : ℕ) → q < i → IsBusy k q → cause_of k q ≢ None

  pub none_waited : (k : State D I H) → HaveWaited 0 k k
  none_waited k = record { turns = []; runs = refl; few = omega arith; store = refl; world = refl; waited = λ q lt busy free. omega (arith, lt) }

  -- those below i and i itself
  with_next : (i : ℕ) (k : State D I H) → ((q : ℕ) → q < i → IsBusy k q → cause_of k q ≢ None) → (IsBusy k i → cause_of k i ≢ None) → (q : ℕ) → q < i + 1 → IsBusy k q → cause_of k q ≢ None
  with_next i k below here q lt busy free = elim (cases_eq q i) [
    | inl same ↦ here (subst (λ (o : ℕ). IsBusy k o) same busy) (subst (λ (o : ℕ). cause_of k o ≡ None) same free)
    | inr other ↦ below q (omega (arith, lt, other)) busy free
  ]

  busy_before : (k m : State D I H) (p : ℕ) → m.world ≡ k.world → IsBusy k p → IsBusy m p
  busy_before k m p world busy = ap (λ (w : World). is_busy_at (ats_of w p)) world ∙ busy

  -- a process without an operation is passed over
  pub one_idle : (i : ℕ) (k m : State D I H) → HaveWaited i k m → is_busy_at (ats_of m.world i) ≡ false → HaveWaited (i + 1) k m
  one_idle i k m was idle = record {
    turns = was.turns;
    runs = was.runs;
    few = let le = was.few in omega (arith, le);
    store = was.store;
    world = was.world;
    waited = with_next i k was.waited (λ (busy : IsBusy k i) (free : cause_of k i ≡ None). let unlike : false ≡ true = sym idle ∙ busy_before k m i was.world busy in cc unlike);
  }

  abbrev Tried : List Turn → ℕ → List Turn
  Tried ts i = ts ++ Proc i ∷ []

  tried_few : (ts : List Turn) (i n : ℕ) → length ts ≤ n → length (Tried ts i) ≤ n + 1
  tried_few ts i n le = let is = length-append ts (Proc i ∷ []) in omega (arith, le, is)

  -- one that is tried and has to wait
  pub one_asleep : SleepsForCause disk intake herald → (i : ℕ) (cause : Why) (k m n : State D I H) → HaveWaited i k m → MakesStep disk intake herald i (Step.Sleeping cause) m n → IsBusy m i → HaveWaited (i + 1) k n
  one_asleep sleeps i cause k m n was makes busy =
      let same = slept m n i (Step.Sleeping cause) makes cause refl in
      record {
        turns = Tried was.turns i;
        runs = runs_more disk intake herald was.turns (Proc i) k m n was.runs (Step.Sleeping cause, makes);
        few = tried_few was.turns i i was.few;
        store = same.0 ∙ was.store;
        world = same.1 ∙ was.world;
        waited = with_next i k was.waited (λ (there : IsBusy k i) (free : cause_of k i ≡ None).
            let had : cause_of m i ≡ Some cause = sleeps m n i cause busy makes in
            let stays = stays_with k m was.store (ap (λ (w : World). w.processes) was.world) in
            let unlike : None ≡ Some cause = sym free ∙ sym (cause_stays k m i stays) ∙ had in cc unlike);
      }

  -- one that is tried and does not
  pub one_more : SleepsForCause disk intake herald → (i : ℕ) (r : Step) (k m n : State D I H) → HaveWaited i k m → MakesStep disk intake herald i r m n → IsBusy m i → i < length k.world.processes → EndsOnly disk intake herald (length k.world.processes) k n
  one_more sleeps i r k m n was makes busy lt = record {
    turns = Tried was.turns i;
    runs = runs_more disk intake herald was.turns (Proc i) k m n was.runs (r, makes);
    few = let le = tried_few was.turns i i was.few in omega (arith, le, lt);
    none = λ q. none_begun m n i r makes busy q ∙ ap (λ (w : World). (process w q).begun) was.world;
  }

  -- it takes a step, unless it halts
  pub more_taken : SleepsForCause disk intake herald → WaitsWithCause disk intake herald → (i : ℕ) (r : Step) (k m n : State D I H) → HaveWaited i k m → MakesStep disk intake herald i r m n → Known disk intake herald m → IsBusy m i →
      r ≢ Step.Halted → ((cause : Why) → r ≢ Step.Sleeping cause) → all_left disk.image n < all_left disk.image k
  more_taken sleeps waits i r k m n was makes known busy going awake =
      let same = sum_stays disk intake herald sleeps (length k.world.processes) k m (stays_with k m was.store (ap (λ (w : World). w.processes) was.world)) in
      let many = ap (λ (w : World). sum_below (left_of disk.image m) (length w.processes)) was.world in
      let less = took m n i r makes sleeps waits known busy going awake in
      omega (arith, same, many, less)

  -- where each was tried and had to wait, none is under way: one would go on
  pub all_over : SleepsForCause disk intake herald → (k m : State D I H) → HaveWaited (length k.world.processes) k m → Known disk intake herald k → AreOver m
  all_over sleeps k m was known =
      subst (λ (o : Option DeviceFault). IfNone o (AreIdle m.world)) (ap (λ (s : StoreState D). s.volume.fault) (sym was.store))
      (subst (λ (w : World). IfNone k.store.volume.fault (AreIdle w)) (sym was.world) (over k.store.volume.fault known.awake))
    where
      by : Someone disk intake herald sleeps k → IsAwake disk.image k → AreIdle k.world
      by (inr idle) awake = idle
      by (inl (p, busy)) awake = let one = awake.under_way p busy in absurd (was.waited one.pid (busy_inside k one.pid one.busy) one.busy one.goes)

      over : (o : Option DeviceFault) → IfNone o (IsAwake disk.image k) → IfNone o (AreIdle k.world)
      over None awake = by (someone disk intake herald sleeps k) awake
      over (Some fault) awake = tt

  -- ---- one after the other

  -- turns in which none began were made, as many for each step that is no longer left as there are
  -- processes
  pub record HasEnded (k m : State D I H) : Type 0 where
    pub turns : List Turn
    pub runs : Runs disk intake herald turns k m
    pub few : length turns + length k.world.processes * all_left disk.image m ≤ length k.world.processes * all_left disk.image k
    pub none : BeginsNone k.world m.world
    pub many : length m.world.processes ≡ length k.world.processes

  pub none_ended : (k : State D I H) → HasEnded k k
  none_ended k = record { turns = []; runs = refl; few = omega arith; none = λ q. refl; many = refl }

  turns_behind : (ts us : List Turn) → length (ts ++ us) ≡ length ts + length us
  turns_behind ts us = length-append ts us

  -- and so it is where one more went on
  pub more_ended : (k m n : State D I H) → HasEnded k m → EndsOnly disk intake herald (length m.world.processes) m n → length n.world.processes ≡ length m.world.processes → all_left disk.image n < all_left disk.image m → HasEnded k n
  more_ended k m n was more many less = record {
    turns = was.turns ++ more.turns;
    runs = runs_then was.turns more.turns k m n was.runs more.runs;
    few =
        let sum = turns_behind was.turns more.turns in
        let count = was.few in
        let one = subst (λ (c : ℕ). length more.turns ≤ c) was.many more.few in
        let falls = one_fewer (length k.world.processes) (all_left disk.image n) (all_left disk.image m) less in
        omega (arith, sum, count, one, falls);
    none = λ q. more.none q ∙ was.none q;
    many = many ∙ was.many;
  }

  -- none goes on any more
  pub flushed : (k m n : State D I H) → HasEnded k m → EndsOnly disk intake herald (length m.world.processes) m n → Known disk intake herald k → Flushes disk intake herald k n
  flushed k m n was more known = record {
    turns = was.turns ++ more.turns;
    runs = runs_then was.turns more.turns k m n was.runs more.runs;
    few =
        let count = length k.world.processes in
        let bound = step_bound (form_of (disk.image k.opening)) in
        let sum = turns_behind was.turns more.turns in
        let was_few = was.few in
        let one = subst (λ (c : ℕ). length more.turns ≤ c) was.many more.few in
        let under = sum_under (left_of disk.image k) count bound known.left in
        let some = known.some in
        let most = one_fewer count (all_left disk.image k) (count * bound) (omega (arith, under, some)) in
        omega (arith, sum, was_few, one, most);
    none = λ q. more.none q ∙ was.none q;
  }

  -- ---- what a try comes to

  pub halted_goes : (k m : State D I H) (p : ℕ) (j : State D I H) → MakesStep disk intake herald p Step.Halted j m → GoesOn disk.image false k m
  halted_goes k m p j makes = record {
    falls = λ is. absurd (cc is);
    over = λ is. by m.store.volume.fault (makes.acts.device.halted.0 refl);
  }
    where
      by : (o : Option DeviceFault) → IsSome o → IfNone o (AreIdle m.world)
      by None some = absurd (cc some)
      by (Some fault) some = tt

  abbrev pub GoesFrom : Step → Type 0
  GoesFrom r = (r ≡ Step.Moved) ⊎ ((r ≡ Step.Answered) ⊎ ((r ≡ Step.Idle) ⊎ ((r ≡ Step.NoMemory) ⊎ (r ≡ Step.ShutDown))))

  unlike_all : (r s : Step) → GoesFrom r → Step.Moved ≢ s → Step.Answered ≢ s → Step.Idle ≢ s → Step.NoMemory ≢ s → Step.ShutDown ≢ s → r ≢ s
  unlike_all r s (inl is) a b c d e same = a (sym is ∙ same)
  unlike_all r s (inr (inl is)) a b c d e same = b (sym is ∙ same)
  unlike_all r s (inr (inr (inl is))) a b c d e same = c (sym is ∙ same)
  unlike_all r s (inr (inr (inr (inl is)))) a b c d e same = d (sym is ∙ same)
  unlike_all r s (inr (inr (inr (inr is)))) a b c d e same = e (sym is ∙ same)

  pub not_halted : (r : Step) → GoesFrom r → r ≢ Step.Halted
  not_halted r goes = unlike_all r Step.Halted goes (λ e. cc e) (λ e. cc e) (λ e. cc e) (λ e. cc e) (λ e. cc e)

  pub not_asleep : (r : Step) → GoesFrom r → (cause : Why) → r ≢ Step.Sleeping cause
  not_asleep r goes cause = unlike_all r (Step.Sleeping cause) goes (λ e. cc e) (λ e. cc e) (λ e. cc e) (λ e. cc e) (λ e. cc e)
