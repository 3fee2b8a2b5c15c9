-- Turns that go round all processes end every operation that is under way: in each round one goes
-- on, and takes one of the steps that are left.
use Rattle.std.proofs.Common.{◌≡◌, ◌≢◌, ◌⊎◌, inl, inr, ⊎_elim, ℕ, zero, suc, ◌<◌, ◌≤◌, Bool, true, false, IsTrue, List, [], ◌∷◌, ◌++◌, length, get_or, set, refl, sym, ◌∙◌, ap, subst, arith, Option, Some, None}
use Rattle.std.specs.Prelude.{IfNone, IsSome}
use Rattle.std.specs.List.{list_all, All, Contains}
use Rattle.kernel.specs.Common.{all_steps_left, and_parts, answered, ats_of, both_ways, cases_eq, cases_lt, Committed, decided, DeviceFault, end_answer, Ended, get_or_past, GivesNone, idle, Image, is_busy_at, is_turn_of, left_of, ltb-true, Makes, MakesLater, MakesStep, NextAt, NextIf, Op, Phase, Proc, Process, process, Reply, Session, Shut, sleep_cause, sought, State, Step, step_behind, step_of, step_of_end, step_of_last, step_of_told, step_of_write, Steps, StoreState, task_left, TaskProgress, Turn, where_none, Why, with_ports, with_shutdown, World, world_after, world_behind, world_ended, world_of_last, world_of_told, world_written}
use Rattle.blocks.specs.declared.disk.Disk as disk_trait
use Rattle.ports.specs.declared.herald.Herald as herald_trait
use Rattle.ports.specs.declared.intake.Intake as intake_trait
use Rattle.kernel.specs.Awake.{AreIdle, IsAwake, IsBusy, cause_by, cause_of}
use Rattle.kernel.specs.Rounds.{IsRound, turns_of, sum_below, all_left, BeginsNone, RoundsEndAll}
use Rattle.kernel.specs.Sleeping.{SleepsForCause}
use Rattle.kernel.proofs.Awaking.{next_of, idle_not}
use Rattle.kernel.proofs.Begun.{Grows, next_grows, took_none}

-- ---- sums

sum_same : (f g : ℕ → ℕ) (n : ℕ) → ((q : ℕ) → f q ≡ g q) → sum_below f n ≡ sum_below g n
sum_same f g zero same = refl
sum_same f g (suc n) same = let rest = sum_same f g n same in let here = same n in omega (arith, rest, here)

sum_less : (f g : ℕ → ℕ) (n p : ℕ) → f p < g p → ((q : ℕ) → q ≢ p → f q ≤ g q) → sum_below f n ≤ sum_below g n
sum_less f g zero p falls others = omega arith
sum_less f g (suc n) p falls others =
    let rest = sum_less f g n p falls others in
    elim (cases_eq n p) [
      | inl same ↦ let here : f n < g n = subst (λ (q : ℕ). f q < g q) (sym same) falls in omega (arith, rest, here)
      | inr other ↦ let here = others n other in omega (arith, rest, here)
    ]

pub sum_falls : (f g : ℕ → ℕ) (n p : ℕ) → p < n → f p < g p → ((q : ℕ) → q ≢ p → f q ≤ g q) → sum_below f n < sum_below g n
sum_falls f g zero p lt falls others = absurd (omega (arith, lt))
sum_falls f g (suc n) p lt falls others =
    elim (cases_eq n p) [
      | inl same ↦
          omega (arith, (sum_less f g n p falls others), (subst (λ (q : ℕ). f q < g q) (sym same) falls))
      | inr other ↦
          omega (arith, (sum_falls f g n p (omega (arith, lt, other)) falls others), (others n other))
    ]

pub part_of_sum : (f : ℕ → ℕ) (n p : ℕ) → p < n → f p ≤ sum_below f n
part_of_sum f zero p lt = absurd (omega (arith, lt))
part_of_sum f (suc n) p lt = elim (cases_eq n p) [
  | inl same ↦ let here : f p ≡ f n = ap f (sym same) in omega (arith, here)
  | inr other ↦ let rest = part_of_sum f n p (omega (arith, lt, other)) in omega (arith, rest)
]

none_left : (f : ℕ → ℕ) (n : ℕ) → ((q : ℕ) → f q ≡ 0) → sum_below f n ≡ 0
none_left f zero none = refl
none_left f (suc n) none = let rest = none_left f n none in let here = none n in omega (arith, rest, here)

-- ---- what a turn makes

-- store and phases stay
pub record Stays {D I H : Type 0} (k m : State D I H) : Type 0 where
  pub store : m.store ≡ k.store
  pub ats : (q : ℕ) → ats_of m.world q ≡ ats_of k.world q

module _ {D I H : Type 0} where
  stays_refl : (k m : State D I H) → m ≡ k → Stays k m
  stays_refl k m is = record { store = ap (λ (j : State D I H). j.store) is; ats = λ q. ap (λ (j : State D I H). ats_of j.world q) is }

  -- whatever happened at the ports before it
  stays_ports : (k m : State D I H) (i : I) (h : H) → Stays (with_ports k i h) m → Stays k m
  stays_ports k m i h stays = record { store = stays.store; ats = stays.ats }

  stays_then : (k j m : State D I H) → Stays k j → Stays j m → Stays k m
  stays_then k j m one two = record { store = two.store ∙ one.store; ats = λ q. two.ats q ∙ one.ats q }

  pub stays_with : (k m : State D I H) → m.store ≡ k.store → m.world.processes ≡ k.world.processes → Stays k m
  stays_with k m store same = record { store = store; ats = λ q. ap (λ (ps : List Process). (get_or ps q idle).at) same }

  busy_stays : (k m : State D I H) (q : ℕ) → Stays k m → IsBusy k q → IsBusy m q
  busy_stays k m q stays busy = ap is_busy_at (stays.ats q) ∙ busy

  pub cause_stays : (k m : State D I H) (q : ℕ) → Stays k m → cause_of m q ≡ cause_of k q
  cause_stays k m q stays =
      ap (λ (a : Phase). cause_by a (sleep_cause m.store q)) (stays.ats q)
      ∙ ap (λ (s : StoreState D). cause_by (ats_of k.world q) (sleep_cause s q)) stays.store

  pub busy_inside : (k : State D I H) (p : ℕ) → IsBusy k p → p < length k.world.processes
  busy_inside k p busy = elim (cases_lt p (length k.world.processes)) [
    | inl lt ↦ lt
    | inr past ↦
        let none : process k.world p ≡ idle = get_or_past k.world.processes p idle past in
        let unlike : false ≡ true = sym (ap (λ (t : Process). is_busy_at t.at) none) ∙ busy in absurd (cc unlike)
  ]

module _ {D I H : Type 0} (image : D → Image) where
  -- no step is given, and process p took one
  pub record Takes (p : ℕ) (k m : State D I H) : Type 0 where
    pub falls : left_of image m p < left_of image k p
    pub others : GivesNone image k p m

  pub left_stays : (k m : State D I H) (q : ℕ) → Stays k m → left_of image m q ≡ left_of image k q
  left_stays k m q stays =
      ap (λ (a : Phase). all_steps_left a (task_left image m.store q) m.store.volume.log) (stays.ats q)
      ∙ ap (λ (s : StoreState D). all_steps_left (ats_of k.world q) (task_left image s q) s.volume.log) stays.store

  pub idle_left : (k : State D I H) (q : ℕ) → ats_of k.world q ≡ Phase.Idle → left_of image k q ≡ 0
  idle_left k q is = ap (λ (a : Phase). all_steps_left a (task_left image k.store q) k.store.volume.log) is

  -- a shutdown leaves who goes on
  shut_awake : (k : State D I H) (o : Option DeviceFault) → IfNone o (IsAwake image k) → IfNone o (IsAwake image (with_shutdown k))
  shut_awake k None was = record {
    under_way = λ p busy. let one = was.under_way p busy in record { pid = one.pid; busy = one.busy; goes = one.goes };
    begins = was.begins;
    left = was.left;
  }
  shut_awake k (Some fault) was = tt

  -- so does what happens at the ports
  ports_awake : (k : State D I H) (i : I) (h : H) (o : Option DeviceFault) → IfNone o (IsAwake image k) → IfNone o (IsAwake image (with_ports k i h))
  ports_awake k i h None was = record {
    under_way = λ p busy. let one = was.under_way p busy in record { pid = one.pid; busy = one.busy; goes = one.goes };
    begins = was.begins;
    left = was.left;
  }
  ports_awake k i h (Some fault) was = tt

-- ---- one turn

answered_list : (ps : List Process) (p : ℕ) (t : Process) → t.at ≡ Phase.Idle → (get_or (set ps p t) p idle).at ≡ Phase.Idle
answered_list [] p t is = refl
answered_list (s ∷ ps) zero t is = is
answered_list (s ∷ ps) (suc p) t is = answered_list ps p t is

answered_idle : (v w : World) (p : ℕ) → w ≡ answered v p → ats_of w p ≡ Phase.Idle
answered_idle v w p is = ap (λ (u : World). ats_of u p) is ∙ answered_list v.processes p (record (process v p) { at = Phase.Idle; room = None }) refl

some_fault : (o : Option DeviceFault) → o ≡ None → IsSome o → ⊥
some_fault None none some = cc some
some_fault (Some fault) none some = cc none

module _ {D N I M H : Type 0} (disk : disk_trait.Ghosts D N) (intake : intake_trait.Ghosts I M) (herald : herald_trait.Ghosts H) (sleeps : SleepsForCause disk intake herald) where
  -- no step was made, and who has an operation under way had a cause
  abbrev pub Waits : ℕ → State D I H → State D I H → Type 0
  Waits p k m = Stays k m × (IsBusy k p → cause_of k p ≢ None)

  module _ (k m : State D I H) (p : ℕ) (r : Step) (well : k.store.volume.fault ≡ None) (still : m.store.volume.fault ≡ None) (awake : IsAwake disk.image k) (makes : MakesStep disk intake herald p r k m) where
    abbrev pub Goes : Type 0
    Goes = Takes disk.image p k m ⊎ Waits p k m

    moved : IsBusy k p → r ≡ Step.Moved → Goes
    moved busy is = inl (record { falls = (makes.progress.bound is).falls busy; others = makes.progress.others })

    given : IsBusy k p → ats_of m.world p ≡ Phase.Idle → Goes
    given busy is =
        inl (record { falls = omega (arith, (idle_left disk.image m p is), (awake.left p busy)); others = makes.progress.others })

    slept : (cause : Why) → IsBusy k p → r ≡ Step.Sleeping cause → m.store ≡ k.store → m.world ≡ k.world → Goes
    slept cause busy is store world = inr (
      stays_with k m store (ap (λ (w : World). w.processes) world),
      λ (b : IsBusy k p) (none : cause_of k p ≡ None). let unlike : None ≡ Some cause = sym none ∙ sleeps k m p cause busy (subst (λ (o : Step). MakesStep disk intake herald p o k m) is makes) in cc unlike,
    )

    halted : r ≡ Step.Halted → Goes
    halted is = absurd (some_fault m.store.volume.fault still (makes.acts.device.halted.0 is))

    works : (op : Op) (t : TaskProgress) (b : Bool) → IsBusy k p → Steps disk k.store p op t m.store → r ≡ step_of t → m.world ≡ world_after t b k.world p → Goes
    works op TaskProgress.Moved b busy steps is world = moved busy is
    works op (TaskProgress.Turned reply) b busy steps is world = moved busy is
    works op (TaskProgress.Decided reply) b busy steps is world = moved busy is
    works op TaskProgress.Over b busy steps is world = moved busy is
    works op (TaskProgress.Sleeping cause) b busy steps is world = slept cause busy is (steps.waits.sleeping cause refl) world
    works op (TaskProgress.Fault fault) b busy steps is world = halted is

    told : (group : ℕ) (reply : Reply) → IsBusy k p → r ≡ step_of_told group → m.world ≡ world_of_told group k.world p reply → Goes
    told zero reply busy is world = given busy (answered_idle (decided k.world p reply) m.world p world)
    told (suc group) reply busy is world = moved busy is

    last : (group : ℕ) → IsBusy k p → r ≡ step_of_last group → m.world ≡ world_of_last group k.world p → Goes
    last zero busy is world = given busy (answered_idle k.world m.world p world)
    last (suc group) busy is world = moved busy is

    finishes : (group : ℕ) (op : Op) (t : TaskProgress) → IsBusy k p → Steps disk k.store p op t m.store → r ≡ step_behind group t → m.world ≡ world_behind group t k.world p → Goes
    finishes group op TaskProgress.Moved busy steps is world = moved busy is
    finishes group op (TaskProgress.Turned reply) busy steps is world = moved busy is
    finishes group op (TaskProgress.Decided reply) busy steps is world = told group reply busy is world
    finishes group op TaskProgress.Over busy steps is world = last group busy is world
    finishes group op (TaskProgress.Sleeping cause) busy steps is world = slept cause busy is (steps.waits.sleeping cause refl) world
    finishes group op (TaskProgress.Fault fault) busy steps is world = halted is

    ends : (e : Ended) → IsBusy k p → r ≡ step_of_end e → m.world ≡ world_ended e k.world p → Goes
    ends Ended.Commit busy is world = moved busy is
    ends Ended.Left busy is world = given busy (answered_idle k.world m.world p world)

    writes : (w : Committed) → IsBusy k p → r ≡ step_of_write w → m.world ≡ world_written w k.world p → Goes
    writes Committed.More busy is world = moved busy is
    writes (Committed.Durable group) busy is world = moved busy is
    writes Committed.Done busy is world = given busy (answered_idle k.world m.world p world)
    writes (Committed.Fault fault) busy is world = halted is

    -- process p takes one of its steps, or nothing changes; and then it had to wait or is idle
    pub one_turn : p < length k.world.processes → (process m.world p).begun ≡ (process k.world p).begun → Goes
    one_turn lt same = by (ats_of k.world p) refl (next_of disk intake herald k m p r well makes)
      where
        busy : (a : Phase) → ats_of k.world p ≡ a → is_busy_at a ≡ true → IsBusy k p
        busy a is there = ap is_busy_at is ∙ there

        by : (a : Phase) → ats_of k.world p ≡ a → NextAt disk a k.store k.world p (intake.side k.intake p).ahead (intake.side m.intake p) (herald.told m.herald) r m.store m.world → Goes
        by Phase.Idle is next =
            let none = took_none disk k.store m.store k.world m.world p (intake.side k.intake p).ahead (intake.side m.intake p) (herald.told m.herald) r lt same next in
            inr (stays_with k m none.0 none.1, λ (b : IsBusy k p) (free : cause_of k p ≡ None). both_ways _ (ap is_busy_at is) b)
        by (Phase.BeforeTurn group op) is next = works op next.progress _ (busy (Phase.BeforeTurn group op) is refl) next.steps next.answer next.world
        by (Phase.AfterTurn group j) is next = finishes group _ next.progress (busy (Phase.AfterTurn group j) is refl) next.steps next.answer next.world
        by (Phase.Ending group j) is next = ends (end_answer k.store.volume.log) (busy (Phase.Ending group j) is refl) next.answer next.world
        by (Phase.Committing group j) is next = writes next.result (busy (Phase.Committing group j) is refl) next.answer next.world

  -- ---- turns

  -- before a step that leaves the disk without a fault it had none
  well_before : (p : ℕ) (r : Step) (k m : State D I H) → MakesStep disk intake herald p r k m → m.store.volume.fault ≡ None → (o : Option DeviceFault) → k.store.volume.fault ≡ o → k.store.volume.fault ≡ None
  well_before p r k m makes still None e = e
  well_before p r k m makes still (Some fault) e =
      let next : NextIf disk (Some fault) k.store k.world p (intake.side k.intake p).ahead (intake.side m.intake p) (herald.told m.herald) r m.store m.world =
      subst (λ (o : Option DeviceFault). NextIf disk o k.store k.world p (intake.side k.intake p).ahead (intake.side m.intake p) (herald.told m.herald) r m.store m.world) e makes.acts.next in
      sym (ap (λ (s : StoreState D). s.volume.fault) next.1.0) ∙ still

  -- what any turns keep
  record Keeps (k m : State D I H) : Type 0 where
    many : length m.world.processes ≡ length k.world.processes
    grows : Grows k.world m.world
    well : m.store.volume.fault ≡ None → k.store.volume.fault ≡ None
    awake : IfNone k.store.volume.fault (IsAwake disk.image k) → IfNone m.store.volume.fault (IsAwake disk.image m)

  turn_keeps : (t : Turn) (k m : State D I H) → Makes disk intake herald t k m → Keeps k m
  turn_keeps (Proc p) k m made =
      let makes = made.1 in
      record {
        many = makes.progress.many;
        grows = next_grows disk k.store m.store k.world m.world p (intake.side k.intake p).ahead (intake.side m.intake p) (herald.told m.herald) made.0 k.store.volume.fault makes.acts.next;
        well = λ still. well_before p made.0 k m makes still k.store.volume.fault refl;
        awake = λ was. makes.progress.awake;
      }
  turn_keeps Shut k m made = record {
    many = ap (λ (j : State D I H). length j.world.processes) made;
    grows = λ q. let same = ap (λ (j : State D I H). (process j.world q).begun) made in omega (arith, same);
    well = λ still. ap (λ (j : State D I H). j.store.volume.fault) (sym made) ∙ still;
    awake = λ was. subst (λ (j : State D I H). IfNone j.store.volume.fault (IsAwake disk.image j)) (sym made) (shut_awake disk.image k k.store.volume.fault was);
  }

  -- also with anything at the ports before it
  later_keeps : (t : Turn) (k m : State D I H) → MakesLater disk intake herald t k m → Keeps k m
  later_keeps t k m (i, h, made) =
      let one = turn_keeps t (with_ports k i h) m made in
      record { many = one.many; grows = one.grows; well = one.well; awake = λ was. one.awake (ports_awake disk.image k i h k.store.volume.fault was) }

  runs_keep : (ts : List Turn) (k m : State D I H) → Session disk intake herald ts k m → Keeps k m
  runs_keep [] k m (i, h, is) = record {
    many = ap (λ (j : State D I H). length j.world.processes) is;
    grows = λ q. let same = ap (λ (j : State D I H). (process j.world q).begun) is in omega (arith, same);
    well = λ still. ap (λ (j : State D I H). j.store.volume.fault) (sym is) ∙ still;
    awake = λ was. subst (λ (j : State D I H). IfNone j.store.volume.fault (IsAwake disk.image j)) (sym is) (ports_awake disk.image k i h k.store.volume.fault was);
  }
  runs_keep (t ∷ ts) k m run =
      let one = later_keeps t k run.0 run.1 in
      let rest = runs_keep ts run.0 m run.2 in
      record {
        many = rest.many ∙ one.many;
        grows = λ q. let here = one.grows q in let there = rest.grows q in omega (arith, here, there);
        well = λ still. one.well (rest.well still);
        awake = λ was. rest.awake (one.awake was);
      }

  -- ---- a list of turns: a step is taken, or nothing changes

  abbrev Same : State D I H → State D I H → Type 0
  Same k m = BeginsNone k.world m.world

  -- who begins none over turns begins none in each
  same_first : (k j m : State D I H) → Grows k.world j.world → Grows j.world m.world → Same k m → Same k j
  same_first k j m one rest same q = let a = one q in let b = rest q in let c = same q in omega (arith, a, b, c)

  same_rest : (k j m : State D I H) → Grows k.world j.world → Grows j.world m.world → Same k m → Same j m
  same_rest k j m one rest same q = let a = one q in let b = rest q in let c = same q in omega (arith, a, b, c)

  -- who has a turn among these, and an operation under way, had a cause to wait
  abbrev AllWait : List Turn → State D I H → Type 0
  AllWait ts k = (q : ℕ) → Contains ts (Proc q) → IsBusy k q → cause_of k q ≢ None

  abbrev Outcome : ℕ → List Turn → State D I H → State D I H → Type 0
  Outcome n ts k m = (sum_below (left_of disk.image m) n < sum_below (left_of disk.image k) n) ⊎ (Stays k m × AllWait ts k)

  pub sum_stays : (n : ℕ) (k m : State D I H) → Stays k m → sum_below (left_of disk.image m) n ≡ sum_below (left_of disk.image k) n
  sum_stays n k m stays = sum_same (left_of disk.image m) (left_of disk.image k) n (λ q. left_stays disk.image k m q stays)

  only_turn : (p q : ℕ) → Contains (Proc p ∷ []) (Proc q) → p ≡ q
  only_turn p q (zero, lt, is) = cc is
  only_turn p q (suc i, lt, is) = absurd (omega (arith, lt))

  no_turn : (q : ℕ) → Contains (Shut ∷ []) (Proc q) → ⊥
  no_turn q (zero, lt, is) = cc is
  no_turn q (suc i, lt, is) = omega (arith, lt)

  one_of : (n : ℕ) (t : Turn) (k m : State D I H) → length k.world.processes ≡ n → is_turn_of n t ≡ true → k.store.volume.fault ≡ None → m.store.volume.fault ≡ None →
      IfNone k.store.volume.fault (IsAwake disk.image k) → Makes disk intake herald t k m → Same k m → Outcome n (t ∷ []) k m
  one_of n (Proc p) k m many inside well still awake made same =
      let lt : p < n = ltb-true p n inside in
      ⊎_elim
      (λ (takes : Takes disk.image p k m). inl (sum_falls (left_of disk.image m) (left_of disk.image k) n p lt takes.falls takes.others))
      (λ (waits : Waits p k m). inr (
        waits.0,
        λ (q : ℕ) (has : Contains (Proc p ∷ []) (Proc q)) (busy : IsBusy k q) (none : cause_of k q ≡ None).
            let only : q ≡ p = sym (only_turn p q has) in
            waits.1 (subst (λ (o : ℕ). IsBusy k o) only busy) (subst (λ (o : ℕ). cause_of k o ≡ None) only none),
      ))
      (one_turn k m p made.0 well still (where_none k.store.volume.fault well awake) made.1 (omega (arith, many, lt)) (same p))
  one_of n Shut k m many inside well still awake made same = inr (
    stays_with k m (ap (λ (j : State D I H). j.store) made) (ap (λ (j : State D I H). j.world.processes) made),
    λ (q : ℕ) (has : Contains (Shut ∷ []) (Proc q)) (busy : IsBusy k q) (none : cause_of k q ≡ None). no_turn q has,
  )

  -- who waits at the first turn and, the same state then, at the others
  all_wait : (t : Turn) (ts : List Turn) (k j : State D I H) → Stays k j → AllWait (t ∷ []) k → AllWait ts j → AllWait (t ∷ ts) k
  all_wait t ts k j stays one rest q (zero, lt, is) busy none = one q (0, omega arith, is) busy none
  all_wait t ts k j stays one rest q (suc i, lt, is) busy none = rest q (i, omega (arith, lt), is) (busy_stays k j q stays busy) (cause_stays k j q stays ∙ none)

  turns_go : (n : ℕ) (ts : List Turn) (k m : State D I H) → length k.world.processes ≡ n → IsTrue (list_all (is_turn_of n) ts) → IfNone k.store.volume.fault (IsAwake disk.image k) →
      Session disk intake herald ts k m → Same k m → m.store.volume.fault ≡ None → Outcome n ts k m
  turns_go n [] k m many inside awake (i, h, is) same still = inr (stays_ports k m i h (stays_refl (with_ports k i h) m is), λ (q : ℕ) (has : Contains [] (Proc q)) (busy : IsBusy k q) (none : cause_of k q ≡ None). omega (arith, has.1))
  turns_go n (t ∷ ts) k m many inside awake run same still =
      let j = run.0 in
      let one = later_keeps t k run.0 run.1 in
      let rest = runs_keep ts run.0 m run.2 in
      let parts = and_parts (is_turn_of n t) (list_all (is_turn_of n) ts) inside in
      let first = ports_first n t k run.0 run.1.0 run.1.1 (one_of n t (with_ports k run.1.0 run.1.1) run.0 many parts.0 (one.well (rest.well still)) (rest.well still)
      (ports_awake disk.image k run.1.0 run.1.1 k.store.volume.fault awake) run.1.2 (same_first k run.0 m one.grows rest.grows same)) in
      join n t ts k run.0 m first (turns_go n ts run.0 m (one.many ∙ many) parts.1 (one.awake awake) run.2 (same_rest k run.0 m one.grows rest.grows same) still)
    where
      ports_first : (n : ℕ) (t : Turn) (k j : State D I H) (i : I) (h : H) → Outcome n (t ∷ []) (with_ports k i h) j → Outcome n (t ∷ []) k j
      ports_first n t k j i h (inl falls) = inl falls
      ports_first n t k j i h (inr (stays, waits)) = inr (stays_ports k j i h stays, waits)

      join : (n : ℕ) (t : Turn) (ts : List Turn) (k j m : State D I H) → Outcome n (t ∷ []) k j → Outcome n ts j m → Outcome n (t ∷ ts) k m
      join n t ts k j m (inl falls) (inl more) = inl (omega (arith, falls, more))
      join n t ts k j m (inl falls) (inr (stays, waits)) = let same = sum_stays n j m stays in inl (omega (arith, falls, same))
      join n t ts k j m (inr (stays, waits)) (inl more) = let same = sum_stays n k j stays in inl (omega (arith, more, same))
      join n t ts k j m (inr (stays, one)) (inr (then, rest)) = inr (stays_then k j m stays then, all_wait t ts k j stays one rest)

  -- ---- rounds

  -- a round takes a step, where an operation is under way
  round_falls : (ts : List Turn) (k m : State D I H) → IsRound (length k.world.processes) ts → IsAwake disk.image k → IfNone k.store.volume.fault (IsAwake disk.image k) →
      Session disk intake herald ts k m → Same k m → m.store.volume.fault ≡ None → (p : ℕ) → IsBusy k p → sum_below (left_of disk.image m) (length k.world.processes) < all_left disk.image k
  round_falls ts k m round awake all run same still p busy =
      let one = awake.under_way p busy in
      ⊎_elim
      (λ (falls : sum_below (left_of disk.image m) (length k.world.processes) < all_left disk.image k). falls)
      (λ (waits : Stays k m × AllWait ts k). absurd (waits.1 one.pid (round.each one.pid (busy_inside k one.pid one.busy)) one.busy one.goes))
      (turns_go (length k.world.processes) ts k m refl round.turns all run same still)

  -- some process has an operation under way, or none has
  abbrev pub Someone : State D I H → Type 0
  Someone k = ((p : ℕ) × IsBusy k p) ⊎ AreIdle k.world

  pub someone : (k : State D I H) → Someone k
  someone k = elim (sought (λ (t : Process). is_busy_at t.at) idle k.world.processes refl) [
    | inl found ↦ inl found
    | inr none ↦ inr (λ p. idle_not (ats_of k.world p) (none p))
  ]

  idle_sum : (k : State D I H) (n : ℕ) → AreIdle k.world → sum_below (left_of disk.image k) n ≡ 0
  idle_sum k n all = none_left (left_of disk.image k) n (λ q. idle_left disk.image k q (all q))

  split : (ts us : List Turn) (k m : State D I H) → Session disk intake herald (ts ++ us) k m → (j : State D I H) × Session disk intake herald ts k j × Session disk intake herald us j m
  split [] us k m run = (k, (k.intake, k.herald, refl), run)
  split (t ∷ ts) us k m run = let rest = split ts us run.0 m run.2 in (rest.0, (run.0, run.1, rest.1), rest.2)

  rounds_end : (n : ℕ) (rounds : List (List Turn)) (k m : State D I H) → length k.world.processes ≡ n → IfNone k.store.volume.fault (IsAwake disk.image k) → All (IsRound n) rounds →
      sum_below (left_of disk.image k) n ≤ length rounds → Session disk intake herald (turns_of rounds) k m → Same k m → m.store.volume.fault ≡ None → AreIdle m.world
  rounds_end n [] k m many awake all few run same still = by (someone m)
    where
      by : Someone m → AreIdle m.world
      by (inr idle) = idle
      by (inl (q, busy)) =
          let here : IsBusy k q = subst (λ (j : State D I H). IsBusy j q) run.2 busy in
          let part = part_of_sum (left_of disk.image k) n q (omega (arith, many, busy_inside k q here)) in
          absurd (omega (arith, few, ((where_none k.store.volume.fault (ap (λ (j : State D I H). j.store.volume.fault) (sym run.2) ∙ still) awake).left q here), part))
  rounds_end n (ts ∷ rounds) k m many awake all few run same still =
      let parts = split ts (turns_of rounds) k m run in
      let one = runs_keep ts k parts.0 parts.1 in
      let rest = runs_keep (turns_of rounds) parts.0 m parts.2 in
      rounds_end n rounds parts.0 m (one.many ∙ many) (one.awake awake) (λ i d lt. all (suc i) d (omega (arith, lt)))
      (fewer parts.0 parts.1 (one.well (rest.well still)) (rest.well still) (same_first k parts.0 m one.grows rest.grows same) (someone k))
      parts.2 (same_rest k parts.0 m one.grows rest.grows same) still
    where
      round : IsRound n ts
      round = all 0 [] (omega arith)

      fewer : (j : State D I H) → Session disk intake herald ts k j → k.store.volume.fault ≡ None → j.store.volume.fault ≡ None → Same k j → Someone k → sum_below (left_of disk.image j) n ≤ length rounds
      fewer j first well there unchanged (inl (p, busy)) =
          let falls = round_falls ts k j (subst (λ (c : ℕ). IsRound c ts) (sym many) round) (where_none k.store.volume.fault well awake) awake first unchanged there p busy in
          omega (arith, (subst (λ (c : ℕ). sum_below (left_of disk.image j) c < sum_below (left_of disk.image k) c) many falls), few)
      fewer j first well there unchanged (inr idle) =
          let none = idle_sum k n idle in
          ⊎_elim
          (λ (falls : sum_below (left_of disk.image j) n < sum_below (left_of disk.image k) n). absurd (omega (arith, falls, none)))
          (λ (waits : Stays k j × AllWait ts k). let stays = sum_stays n k j waits.0 in omega (arith, stays, none))
          (turns_go n ts k j many round.turns awake first unchanged there)

  pub rounds_end_all : RoundsEndAll disk intake herald
  rounds_end_all rounds k m known all few run same still = rounds_end (length k.world.processes) rounds k m refl known.awake all few run same still
