-- The causes of answers that give less than was asked for: what the turns of a run saw.
use Rattle.std.proofs.Common.{◌≡◌, ◌≢◌, ◌⊎◌, ◌<◌, ◌≤◌, ◌+◌, inl, inr, ℕ, zero, suc, Bool, true, false, cond, List, [], ◌∷◌, ◌++◌, length, get_or, set, refl, sym, ◌∙◌, ap, subst, ⊎_elim, arith, Option, Some, None, length-set}
use Rattle.std.specs.Prelude.{IsTrue}
use Rattle.std.proofs.Math.Seq.{get_or-append_seam}
use Rattle.blocks.specs.declared.disk.Disk as disk_trait
use Rattle.inodes.specs.Runs.{SeesTaken}
use Rattle.ports.specs.declared.herald.Herald as herald_trait
use Rattle.ports.specs.declared.intake.Intake as intake_trait
use Rattle.std.specs.Option.{option_map}
use Rattle.kernel.specs.Common.{at_once_reply, ats_of, BadType, Becomes, BeginsWith, cases_eq, cases_lt, Create, DeviceFault, Entry, entry_new, entry_next, entry_of, entry_same, Extends, extends_same, extends_then, first_in, get_or_past, Goes, idle, is_at_once, is_number, is_over, IsAhead, IsEntry, IsPassedBy, length-append, SetAttribute, Made, MakesStep, NextAt, NextIf, no_entry, Op, others_stay, Phase, phase_behind, Proc, Process, process, Read, Remove, Reply, reply_of, search_begins, search_sees, SearchesOn, Session, Shut, Side, Stage, Stat, State, Step, Steps, StoreState, task, TaskProgress, TaskState, there_now, Trunc, Turn, turned_from, OpClass, class_of, with_begun, with_ports, with_shutdown, Works, World, world_after, Write}
use Rattle.kernel.specs.Causes.{IsAnswered, MadeHasCause, NoInodeHasCause, SomeTurnMakes, TurnMakes}
use Rattle.kernel.proofs.Turned.{AddsEntry, JournalBy, Turned, turned_by}

-- ---- the journal

-- an entry stays at its index, but for a reply that comes
pub extends_entry : (es fs : List Entry) (k : ℕ) (e : Entry) → Extends es fs → IsEntry es k e → (f : Entry) × IsEntry fs k f × Becomes e f
extends_entry [] fs k e more at = let lt = at.inside in absurd (omega (arith, lt))
extends_entry (d ∷ es) [] k e more at = absurd more
extends_entry (d ∷ es) (f ∷ fs) zero e more at = (f, record { inside = omega arith; is = refl }, subst (λ (x : Entry). Becomes x f) at.is more.0)
extends_entry (d ∷ es) (f ∷ fs) (suc k) e more at =
    let r = extends_entry es fs k e more.1 (entry_next d es k e at) in
    (r.0, record { inside = omega (arith, r.1.inside); is = r.1.is }, r.2)

pub same_op : (e f : Entry) → Becomes e f → f.op ≡ e.op
same_op e f (inl is) = ap (λ (x : Entry). x.op) is
same_op e f (inr is) = ap (λ (x : Entry). x.op) is.1.1

pub same_pid : (e f : Entry) → Becomes e f → f.pid ≡ e.pid
same_pid e f (inl is) = ap (λ (x : Entry). x.pid) is
same_pid e f (inr is) = ap (λ (x : Entry). x.pid) is.1.1

-- lists that end with one element more, after the same ones
pub last_same : (es : List Entry) (e f : Entry) → es ++ e ∷ [] ≡ es ++ f ∷ [] → e ≡ f
last_same es e f is = sym (get_or-append_seam es e [] no_entry) ∙ ap (λ (l : List Entry). get_or l (length es) no_entry) is ∙ get_or-append_seam es f [] no_entry

-- it had that reply, or none
pub reply_before : (e f : Entry) (r : Reply) → Becomes e f → f.reply ≡ Some r → (e.reply ≡ Some r) ⊎ (e.reply ≡ None)
reply_before e f r (inl is) has = inl (ap (λ (x : Entry). x.reply) (sym is) ∙ has)
reply_before e f r (inr is) has = inr is.0

-- the entry at an index at the end, as a turn added it
pub record Added (q : ℕ) (a : Phase) (es fs : List Entry) (index : ℕ) (e : Entry) : Type 0 where
  pub adds : AddsEntry q a es fs
  pub here : index ≡ length es
  pub becomes : Becomes adds.entry e

-- an entry that comes behind a journal comes behind the next one, or with this turn
pub added : (q : ℕ) (a : Phase) (es fs gs : List Entry) (index : ℕ) (e : Entry) → JournalBy q a es fs → Extends fs gs → length es ≤ index → IsEntry gs index e
    → (length fs ≤ index) ⊎ Added q a es fs index e
added q a es fs gs index e (inl same) more later at = inl (subst (λ (l : List Entry). length l ≤ index) (sym same) later)
added q a es fs gs index e (inr (inr tells)) more later at =
    inl (omega (arith, (ap length tells.list ∙ length-set es tells.index _), later))
added q a es fs gs index e (inr (inl adds)) more later at = ⊎_elim
    (λ (other : index ≢ length es).
    inl (omega (arith, (ap length adds.list ∙ length-append es (adds.entry ∷ [])), later, other)))
    (λ (same : index ≡ length es).
    let on = extends_entry fs gs (length es) adds.entry more (subst (λ (l : List Entry). IsEntry l (length es) adds.entry) (sym adds.list) (entry_new es adds.entry)) in
    let is : on.0 ≡ e = entry_same gs (length es) on.0 e on.1 (subst (λ (n : ℕ). IsEntry gs n e) same at) in
    inr (record { adds = adds; here = same; becomes = subst (Becomes adds.entry) is on.2 }))
    (⊎_elim (λ (same : index ≡ length es). inr same) (λ (other : index ≢ length es). inl other) (cases_eq index (length es)))

-- process p is idle past the last one
pub none_past : (w : World) (p : ℕ) → length w.processes ≤ p → process w p ≡ idle
none_past w p past = get_or_past w.processes p idle past

-- process p becomes that, or there is none
pub becomes_now : (w z : World) (p : ℕ) (t : Process) → z.processes ≡ set w.processes p t → (process z p ≡ t) ⊎ (process z p ≡ idle)
becomes_now w z p t is = ⊎_elim
    (λ (lt : p < length w.processes). inl (there_now w z p t is lt))
    (λ (past : length w.processes ≤ p).
    inr (none_past z p (omega (arith, (ap length is ∙ length-set w.processes p t), past))))
    (cases_lt p (length w.processes))

module _ {D N I M H : Type 0} (disk : disk_trait.Ghosts D N) (intake : intake_trait.Ghosts I M) (herald : herald_trait.Ghosts H) where
  -- no entry of a run is lost
  pub runs_extend : (ts : List Turn) (k m : State D I H) → Session disk intake herald ts k m → Extends k.world.journal.list m.world.journal.list
  runs_extend [] k m run = subst (λ (o : State D I H). Extends k.world.journal.list o.world.journal.list) (sym run.2) (extends_same k.world.journal.list)
  runs_extend (Shut ∷ ts) k m run = subst (λ (o : State D I H). Extends o.world.journal.list m.world.journal.list) run.1.2 (runs_extend ts run.0 m run.2)
  runs_extend (Proc p ∷ ts) k m run = extends_then k.world.journal.list run.0.world.journal.list m.world.journal.list run.1.2.1.progress.grows.journal (runs_extend ts run.0 m run.2)

  -- a turn of process q
  pub turned : (q : ℕ) (r : Step) (k m : State D I H) → MakesStep disk intake herald q r k m → Turned q (ats_of k.world q) k.store k.world m.store m.world
  turned q r k m made = turned_by disk q k.store k.world m.store m.world k.store.volume.fault _ _ _ r made.acts.next

  -- ---- a creation

  module _ (p n j : ℕ) (number : IsTrue (is_number n j)) (o : Option ℕ) (passed : IsPassedBy o j) where
    -- a creation of process p that waits for its turn may still come to number j's block, or has no task
    abbrev Tracks : StoreState D → World → Type 0
    Tracks s w = (group kind : ℕ) → (process w p).at ≡ Phase.BeforeTurn group (Create kind) → IsAhead p j s ⊎ ((task s.tasks p).stage ≡ Stage.Nowhere)

    -- no creation is answered with this turn so that it passes the number by, now or later
    abbrev Spares : Entry → Type 0
    Spares e = (kind : ℕ) → e.op ≡ Create kind → (e.reply ≡ Some (reply_of o)) ⊎ (e.reply ≡ None) → ⊥

    abbrev Saw : StoreState D → StoreState D → Type 0
    Saw s u = TurnMakes disk (SeesTaken disk.image p j) p (Proc p) s u

    -- its own turn
    record Passes (s u : StoreState D) (w z : World) : Type 0 where
      pub tracks : Tracks u z
      pub spares : (adds : AddsEntry p (process w p).at w.journal.list z.journal.list) → Spares adds.entry

    abbrev Own : StoreState D → StoreState D → World → World → Type 0
    Own s u w z = Saw s u ⊎ Passes s u w z

    module _ (s t : StoreState D) (w z : World) (count : s.table.inode_count ≡ n) (tracks : Tracks s w) where
      -- a longer list is another
      longer : (e : Entry) → w.journal.list ≡ w.journal.list ++ e ∷ [] → ⊥
      longer e is = let long : length w.journal.list ≡ length w.journal.list + 1 = ap length is ∙ length-append w.journal.list (e ∷ []) in omega (arith, long)

      none_added : z.journal.list ≡ w.journal.list → (adds : AddsEntry p (process w p).at w.journal.list z.journal.list) → Spares adds.entry
      none_added same adds kind is has = longer adds.entry (sym same ∙ adds.list)

      -- process p waits no more, or for another operation
      gone : ((group kind : ℕ) → (process z p).at ≡ Phase.BeforeTurn group (Create kind) → ⊥) → Tracks t z
      gone none group kind is = absurd (none group kind is)

      same_now : t ≡ s → (process z p).at ≡ (process w p).at → Tracks t z
      same_now store stands group kind is = subst (λ (o : StoreState D). IsAhead p j o ⊎ ((task o.tasks p).stage ≡ Stage.Nowhere)) (sym store) (tracks group kind (sym stands ∙ is))

      -- it becomes one of which that is true, or there is none
      now_gone : (u : Process) → z.processes ≡ set w.processes p u → ((group kind : ℕ) → u.at ≡ Phase.BeforeTurn group (Create kind) → ⊥) → Tracks t z
      now_gone u is none = gone (λ group kind stands. by_process group kind stands (becomes_now w z p u is))
        where
          by_process : (group kind : ℕ) → (process z p).at ≡ Phase.BeforeTurn group (Create kind) → (process z p ≡ u) ⊎ (process z p ≡ idle) → ⊥
          by_process group kind stands (inl same) = none group kind (ap (λ (x : Process). x.at) (sym same) ∙ stands)
          by_process group kind stands (inr same) = let no = ap (λ (x : Process). x.at) (sym same) ∙ stands in cc no

      never_look : (kind : ℕ) (b : Bool) (c : Option ℕ) → cond b OpClass.Refused OpClass.Change ≡ OpClass.Look c → ⊥
      never_look kind true c is = cc is
      never_look kind false c is = cc is

      -- the task that begins stands at the first block, where there is one
      begun_ahead : (op : Op) (group kind : ℕ) → Phase.BeforeTurn (Rattle.wal.specs.Machine.begun s.volume.log p).opened op ≡ Phase.BeforeTurn group (Create kind) → IsAhead p j (with_begun s p op) ⊎ ((task (with_begun s p op).tasks p).stage ≡ Stage.Nowhere)
      begun_ahead op group kind is =
          let same : op ≡ Create kind = cc is in
          subst (λ (o : Op). IsAhead p j (with_begun s p o) ⊎ ((task (with_begun s p o).tasks p).stage ≡ Stage.Nowhere)) (sym same) (search_begins p j kind s)

      never_refused : (q : Option ℕ) → Some BadType ≡ Some (reply_of q) → ⊥
      never_refused None is = cc is
      never_refused (Some i) is = cc is

      at_once_apart : (op : Op) → Spares (Rattle.history.specs.Processes.refusal w p op (at_once_reply op))
      at_once_apart op kind is (inl has) = never_refused o (sym (ap (λ (q : Op). Some (at_once_reply q)) is) ∙ has)
      at_once_apart op kind is (inr has) = cc has

      -- a number that is not higher passes none by
      never_passed : (q : Option ℕ) → IsPassedBy q j → (i : ℕ) → i ≤ j → Some (Made i) ≡ Some (reply_of q) → ⊥
      never_passed None by i low is = cc is
      never_passed (Some k) by i low is = let same : i ≡ k = cc is in omega (arith, same, low, by)

      own_begins : (what : Option OpClass) (ahead : List Op) (side : Side) (r : Step) → (process w p).at ≡ Phase.Idle → BeginsWith what s w p ahead side r t z → Own s t w z
      own_begins what ahead side r stands (inl made) = inr (record {
        tracks = λ group kind is. by_process group kind is (becomes_now w z p u (ap (λ (o : World). o.processes) made.world));
        spares = none_added (ap (λ (o : World). o.journal.list) made.world);
      })
        where
          u : Process
          u = record { begun = (process w p).begun + 1; at = Phase.BeforeTurn (Rattle.wal.specs.Machine.begun s.volume.log p).opened made.op; room = None }

          by_process : (group kind : ℕ) → (process z p).at ≡ Phase.BeforeTurn group (Create kind) → (process z p ≡ u) ⊎ (process z p ≡ idle) → IsAhead p j t ⊎ ((task t.tasks p).stage ≡ Stage.Nowhere)
          by_process group kind is (inl same) = subst (λ (o : StoreState D). IsAhead p j o ⊎ ((task o.tasks p).stage ≡ Stage.Nowhere)) (sym made.store) (begun_ahead made.op group kind (ap (λ (x : Process). x.at) (sym same) ∙ is))
          by_process group kind is (inr same) = let no = ap (λ (x : Process). x.at) (sym same) ∙ is in absurd (cc no)
      own_begins what ahead side r stands (inr (inl made)) = inr (record {
        tracks = now_gone _ (ap (λ (o : World). o.processes) made.world)
            (λ group kind is.
            let same : made.op ≡ Create kind = cc is in
            never_look kind (is_at_once s.table.inode_count (Create kind)) made.count (ap (class_of s.table.inode_count) (sym same) ∙ made.taken.1));
        spares = none_added (ap (λ (o : World). o.journal.list) made.world);
      })
      own_begins what ahead side r stands (inr (inr (inl made))) = inr (record {
        tracks = now_gone (record (process w p) { begun = (process w p).begun + 1 }) (ap (λ (o : World). o.processes) made.world) (λ group kind is. let no = sym stands ∙ is in cc no);
        spares = λ adds. subst Spares (last_same w.journal.list _ adds.entry (sym (ap (λ (o : World). o.journal.list) made.world) ∙ adds.list)) (at_once_apart made.op);
      })
      own_begins what ahead side r stands (inr (inr (inr made))) = inr (record {
        tracks = same_now made.same.0 (ap (λ (o : World). (process o p).at) made.same.1);
        spares = none_added (ap (λ (o : World). o.journal.list) made.same.1);
      })

      -- a step of its task, where it waits for its turn
      own_step : (group kind : ℕ) → (process w p).at ≡ Phase.BeforeTurn group (Create kind) → (x : TaskProgress) → Steps disk s p (Create kind) x t → z ≡ world_after x (is_over (task t.tasks p).stage) w p → IsAhead p j s ⊎ ((task s.tasks p).stage ≡ Stage.Nowhere) → Own s t w z
      own_step group kind stands x steps to (inl ahead) = ⊎_elim
          (λ saw. inl (record { turn = refl; op = Create kind; answer = x; steps = steps; holds = saw }))
          (λ on. inr (passes x to on))
          (search_sees disk p n j (Create kind) number (record { before = s; answer = x; after = t }) ahead.search ahead.stands ahead.ahead count steps)
        where
          stays : (y : TaskProgress) → ((reply : Option Reply) → y ≢ TaskProgress.Turned reply) → z ≡ w → SearchesOn p j y t → Passes s t w z
          stays y unturned same (inl is) = absurd (unturned (Some (Made is.0)) is.1)
          stays y unturned same (inr is) = record { tracks = λ g m at. inl is.1; spares = none_added (ap (λ (o : World). o.journal.list) same) }

          passes : (y : TaskProgress) → z ≡ world_after y (is_over (task t.tasks p).stage) w p → SearchesOn p j y t → Passes s t w z
          passes TaskProgress.Moved same on = stays TaskProgress.Moved (λ r e. cc e) same on
          passes (TaskProgress.Turned reply) same (inr is) = absurd (is.0 reply refl)
          passes (TaskProgress.Turned reply) same (inl is) = turns (is_over (task t.tasks p).stage) (same ∙ ap (λ (a : Phase). turned_from a w p reply (is_over (task t.tasks p).stage)) stands)
            where
              told : reply ≡ Some (Made is.0)
              told = let e = is.1 in cc e

              never : (over : Bool) (k g : ℕ) (o : Op) → phase_behind over group k ≡ Phase.BeforeTurn g o → ⊥
              never true k g o e = cc e
              never false k g o e = cc e

              apart : Spares (entry_of p (process w p).begun (Create kind) group reply)
              apart c same_kind (inl has) = never_passed o passed is.0 is.2 (sym told ∙ has)
              apart c same_kind (inr has) = let no = sym told ∙ has in cc no

              turns : (over : Bool) → z ≡ turned_from (Phase.BeforeTurn group (Create kind)) w p reply over → Passes s t w z
              turns over now = record {
                tracks = now_gone (record (process w p) { at = phase_behind over group (length w.journal.list) }) (ap (λ (o : World). o.processes) now) (λ g m e. never over (length w.journal.list) g (Create m) e);
                spares = λ adds. subst Spares (last_same w.journal.list _ adds.entry (sym (ap (λ (o : World). o.journal.list) now) ∙ adds.list)) apart;
              }
          passes (TaskProgress.Decided reply) same on = stays (TaskProgress.Decided reply) (λ r e. cc e) same on
          passes TaskProgress.Over same on = stays TaskProgress.Over (λ r e. cc e) same on
          passes (TaskProgress.Sleeping why) same on = stays (TaskProgress.Sleeping why) (λ r e. cc e) same on
          passes (TaskProgress.Fault fault) same on = stays (TaskProgress.Fault fault) (λ r e. cc e) same on
      own_step group kind stands x steps to (inr none) =
          let goes = subst (λ (a : Stage). Goes disk a s p (Create kind) x t) none steps.goes in
          let same : z ≡ w = to ∙ ap (λ (y : TaskProgress). world_after y (is_over (task t.tasks p).stage) w p) goes.0 in
          inr (record {
            tracks = λ g m at. inr (ap (λ (o : StoreState D). (task o.tasks p).stage) goes.1 ∙ none);
            spares = none_added (ap (λ (o : World). o.journal.list) same);
          })

      -- of another operation
      own_other : (group : ℕ) (op : Op) (r : Step) → (process w p).at ≡ Phase.BeforeTurn group op → ((kind : ℕ) → op ≡ Create kind → ⊥) → Turned p (process w p).at s w t z → Works disk s w p op r t z → Own s t w z
      own_other group op r stands other turn made = inr (record {
        tracks = now_gone turn.now turn.processes (λ g m is. by_before g m is (turn.before g (Create m) is));
        spares = λ adds. by_progress made.progress made.world adds;
      })
        where
          by_before : (g m : ℕ) → turn.now.at ≡ Phase.BeforeTurn g (Create m) → ((process w p).at ≡ Phase.Idle) ⊎ ((process w p).at ≡ turn.now.at) → ⊥
          by_before g m is (inl idle_now) = let no = sym stands ∙ idle_now in cc no
          by_before g m is (inr same) = let both = sym stands ∙ same ∙ is in other m (cc both)

          by_progress : (x : TaskProgress) → z ≡ world_after x (is_over (task t.tasks p).stage) w p → (adds : AddsEntry p (process w p).at w.journal.list z.journal.list) → Spares adds.entry
          by_progress TaskProgress.Moved to adds = none_added (ap (λ (o : World). o.journal.list) to) adds
          by_progress (TaskProgress.Turned reply) to adds =
              let now = to ∙ ap (λ (a : Phase). turned_from a w p reply (is_over (task t.tasks p).stage)) stands in
              subst Spares (last_same w.journal.list (entry_of p (process w p).begun op group reply) adds.entry (sym (ap (λ (o : World). o.journal.list) now) ∙ adds.list)) (λ kind is has. other kind is)
          by_progress (TaskProgress.Decided reply) to adds = none_added (ap (λ (o : World). o.journal.list) to) adds
          by_progress TaskProgress.Over to adds = none_added (ap (λ (o : World). o.journal.list) to) adds
          by_progress (TaskProgress.Sleeping why) to adds = none_added (ap (λ (o : World). o.journal.list) to) adds
          by_progress (TaskProgress.Fault fault) to adds = none_added (ap (λ (o : World). o.journal.list) to) adds

      own_works : (group : ℕ) (op : Op) (r : Step) → (process w p).at ≡ Phase.BeforeTurn group op → Turned p (process w p).at s w t z → Works disk s w p op r t z → Own s t w z
      own_works group (Create kind) r stands turn made = own_step group kind stands made.progress made.steps made.world (tracks group kind stands)
      own_works group (Write i off bytes) r stands turn made = own_other group (Write i off bytes) r stands (λ kind is. cc is) turn made
      own_works group (Read i off m) r stands turn made = own_other group (Read i off m) r stands (λ kind is. cc is) turn made
      own_works group (Trunc i) r stands turn made = own_other group (Trunc i) r stands (λ kind is. cc is) turn made
      own_works group (Remove i) r stands turn made = own_other group (Remove i) r stands (λ kind is. cc is) turn made
      own_works group (Stat i) r stands turn made = own_other group (Stat i) r stands (λ kind is. cc is) turn made
      own_works group (SetAttribute i a) r stands turn made = own_other group (SetAttribute i a) r stands (λ kind is. cc is) turn made

      -- behind its turn
      own_behind : (a : Phase) → (process w p).at ≡ a → (a ≢ Phase.Idle) → ((group : ℕ) (op : Op) → a ≢ Phase.BeforeTurn group op) → Turned p (process w p).at s w t z → Own s t w z
      own_behind a stands busy unbefore turn = inr (record {
        tracks = now_gone turn.now turn.processes (λ g m is. by_before g m is (turn.before g (Create m) is));
        spares = λ adds. absurd (by_from adds.from);
      })
        where
          by_before : (g m : ℕ) → turn.now.at ≡ Phase.BeforeTurn g (Create m) → ((process w p).at ≡ Phase.Idle) ⊎ ((process w p).at ≡ turn.now.at) → ⊥
          by_before g m is (inl idle_now) = busy (sym stands ∙ idle_now)
          by_before g m is (inr same) = unbefore g (Create m) (sym stands ∙ same ∙ is)

          by_from : ((process w p).at ≡ Phase.Idle) ⊎ ((group : ℕ) × (op : Op) × ((process w p).at ≡ Phase.BeforeTurn group op)) → ⊥
          by_from (inl idle_now) = busy (sym stands ∙ idle_now)
          by_from (inr was) = unbefore was.0 was.1 (sym stands ∙ was.2)

      own_at : (a : Phase) (ahead : List Op) (side : Side) (b : Bool) (r : Step) → (process w p).at ≡ a → Turned p (process w p).at s w t z → NextAt disk a s w p ahead side b r t z → Own s t w z
      own_at Phase.Idle ahead side b r stands turn (inl heard) = inr (record {
        tracks = same_now heard.store (ap (λ (o : World). (process o p).at) heard.world);
        spares = none_added (ap (λ (o : World). o.journal.list) heard.world);
      })
      own_at Phase.Idle ahead side b r stands turn (inr none) = own_begins (option_map (class_of s.table.inode_count) (first_in none.ahead)) none.ahead side r stands none.begins
      own_at (Phase.BeforeTurn group op) ahead side b r stands turn next = own_works group op r stands turn next
      own_at (Phase.AfterTurn group k) ahead side b r stands turn next = own_behind (Phase.AfterTurn group k) stands (λ e. cc e) (λ g o e. cc e) turn
      own_at (Phase.Ending group k) ahead side b r stands turn next = own_behind (Phase.Ending group k) stands (λ e. cc e) (λ g o e. cc e) turn
      own_at (Phase.Committing group k) ahead side b r stands turn next = own_behind (Phase.Committing group k) stands (λ e. cc e) (λ g o e. cc e) turn

      own_turn : (o : Option DeviceFault) (ahead : List Op) (side : Side) (b : Bool) (r : Step) → Turned p (process w p).at s w t z → NextIf disk o s w p ahead side b r t z → Own s t w z
      own_turn None ahead side b r turn next = own_at (process w p).at ahead side b r refl turn next
      own_turn (Some fault) ahead side b r turn next = inr (record {
        tracks = same_now next.1.0 (ap (λ (o : World). (process o p).at) next.1.1);
        spares = none_added (ap (λ (o : World). o.journal.list) next.1.1);
      })

    -- a run saw the number taken where it ends with such an entry
    passed_in_run : (ts : List Turn) (k m : State D I H) (run : Session disk intake herald ts k m) (kind at_index : ℕ) (e : Entry) → k.store.table.inode_count ≡ n → Tracks k.store k.world
        → length k.world.journal.list ≤ at_index → IsEntry m.world.journal.list at_index e → e.pid ≡ p → e.op ≡ Create kind → e.reply ≡ Some (reply_of o)
        → SomeTurnMakes disk intake herald (SeesTaken disk.image p j) p ts k m run
    passed_in_run [] k m run kind at_index e count tracks later stands mine asked told =
        omega (arith, stands.inside, (ap (λ (o : State D I H). length o.world.journal.list) run.2), later)
    passed_in_run (Shut ∷ ts) k m run kind at_index e count tracks later stands mine asked told =
        let back : with_shutdown (with_ports k run.1.0 run.1.1) ≡ run.0 = sym run.1.2 in
        inr (passed_in_run ts run.0 m run.2 kind at_index e
        (subst (λ (o : State D I H). o.store.table.inode_count ≡ n) back count)
        (subst (λ (o : State D I H). Tracks o.store o.world) back tracks)
        (subst (λ (o : State D I H). length o.world.journal.list ≤ at_index) back later) stands mine asked told)
    passed_in_run (Proc q ∷ ts) k m run kind at_index e count tracks later stands mine asked told =
        by_process (λ now many low. passed_in_run ts run.0 m run.2 kind at_index e many now low stands mine asked told) (cases_eq q p)
      where
        mid : State D I H
        mid = run.0

        turn : Turned q (ats_of k.world q) k.store k.world mid.store mid.world
        turn = turned q run.1.2.0 (with_ports k run.1.0 run.1.1) mid run.1.2.1

        Rest : Type 0
        Rest = Tracks mid.store mid.world → mid.store.table.inode_count ≡ n → length mid.world.journal.list ≤ at_index → SomeTurnMakes disk intake herald (SeesTaken disk.image p j) p ts mid m run.2

        many : mid.store.table.inode_count ≡ n
        many = turn.store.numbers ∙ count

        comes : (length mid.world.journal.list ≤ at_index) ⊎ Added q (ats_of k.world q) k.world.journal.list mid.world.journal.list at_index e
        comes = added q (ats_of k.world q) k.world.journal.list mid.world.journal.list m.world.journal.list at_index e turn.journal (runs_extend ts mid m run.2) later stands

        theirs : q ≢ p → Tracks mid.store mid.world
        theirs apart group c is =
            let same : process mid.world p ≡ process k.world p = others_stay k.world mid.world q turn.now turn.processes p (λ e. apart (sym e)) in
            let task_same = turn.store.tasks p (λ e. apart (sym e)) in
            moved (tracks group c (ap (λ (u : Process). u.at) (sym same) ∙ is)) (ap (λ (u : TaskState). u.stage) task_same)
          where
            moved : IsAhead p j k.store ⊎ ((task k.store.tasks p).stage ≡ Stage.Nowhere) → (task mid.store.tasks p).stage ≡ (task k.store.tasks p).stage → IsAhead p j mid.store ⊎ ((task mid.store.tasks p).stage ≡ Stage.Nowhere)
            moved (inl is) same = inl (record { search = is.search; stands = same ∙ is.stands; ahead = is.ahead })
            moved (inr is) same = inr (same ∙ is)

        goes_by : Rest → Passes k.store mid.store k.world mid.world → q ≡ p → (length mid.world.journal.list ≤ at_index) ⊎ Added q (ats_of k.world q) k.world.journal.list mid.world.journal.list at_index e → SomeTurnMakes disk intake herald (SeesTaken disk.image p j) p ts mid m run.2
        goes_by rest own same (inl low) = rest own.tracks many low
        goes_by rest own same (inr new) =
            let adds : AddsEntry p (process k.world p).at k.world.journal.list mid.world.journal.list = subst (λ (o : ℕ). AddsEntry o (process k.world o).at k.world.journal.list mid.world.journal.list) same new.adds in
            absurd (own.spares adds kind
            (ap (λ (x : Entry). x.op) (entry_of_adds same new) ∙ sym (same_op new.adds.entry e new.becomes) ∙ asked)
            (subst (λ (x : Entry). (x.reply ≡ Some (reply_of o)) ⊎ (x.reply ≡ None)) (sym (entry_of_adds same new)) (reply_before new.adds.entry e (reply_of o) new.becomes told)))
          where
            entry_of_adds : (is : q ≡ p) (x : Added q (ats_of k.world q) k.world.journal.list mid.world.journal.list at_index e) → (subst (λ (o : ℕ). AddsEntry o (process k.world o).at k.world.journal.list mid.world.journal.list) is x.adds).entry ≡ x.adds.entry
            entry_of_adds is x = last_same k.world.journal.list _ x.adds.entry (sym (subst (λ (o : ℕ). AddsEntry o (process k.world o).at k.world.journal.list mid.world.journal.list) is x.adds).list ∙ x.adds.list)

        by_process : Rest → (q ≡ p) ⊎ (q ≢ p) → SomeTurnMakes disk intake herald (SeesTaken disk.image p j) p (Proc q ∷ ts) k m run
        by_process rest (inl same) = by_own (own_turn k.store mid.store k.world mid.world count tracks k.store.volume.fault _ _ _ made.0
            (subst (λ (o : ℕ). Turned o (ats_of k.world o) k.store k.world mid.store mid.world) same turn) made.1.acts.next)
          where
            made : (r : Step) × MakesStep disk intake herald p r (with_ports k run.1.0 run.1.1) mid
            made = subst (λ (o : ℕ). (r : Step) × MakesStep disk intake herald o r (with_ports k run.1.0 run.1.1) mid) same run.1.2

            by_own : Own k.store mid.store k.world mid.world → SomeTurnMakes disk intake herald (SeesTaken disk.image p j) p (Proc q ∷ ts) k m run
            by_own (inl saw) = inl (subst (λ (o : ℕ). TurnMakes disk (SeesTaken disk.image p j) p (Proc o) k.store mid.store) (sym same) saw)
            by_own (inr own) = inr (goes_by rest own same comes)
        by_process rest (inr apart) = by_new comes
          where
            by_new : (length mid.world.journal.list ≤ at_index) ⊎ Added q (ats_of k.world q) k.world.journal.list mid.world.journal.list at_index e → SomeTurnMakes disk intake herald (SeesTaken disk.image p j) p (Proc q ∷ ts) k m run
            by_new (inl low) = inr (rest (theirs apart) many low)
            by_new (inr new) = absurd (apart (sym new.adds.mine ∙ sym (same_pid new.adds.entry e new.becomes) ∙ mine))

  passed_has_cause : (o : Option ℕ) (ts : List Turn) (k m : State D I H) (run : Session disk intake herald ts k m) (p kind j : ℕ) → IsAnswered k m p (Create kind) (reply_of o) → IsTrue (is_number k.store.table.inode_count j) → IsPassedBy o j → SomeTurnMakes disk intake herald (SeesTaken disk.image p j) p ts k m run
  passed_has_cause o ts k m run p kind j told number passed =
      passed_in_run p k.store.table.inode_count j number o passed ts k m run kind told.index told.entry refl
      (λ group c is. absurd (let no = sym told.idle ∙ is in cc no)) told.later told.stands told.mine told.same told.told

  pub no_inode_has_cause : NoInodeHasCause disk intake herald
  no_inode_has_cause ts k m run p kind i told number = passed_has_cause None ts k m run p kind i told number tt

  pub made_has_cause : MadeHasCause disk intake herald
  made_has_cause ts k m run p kind i j told number lower = passed_has_cause (Some i) ts k m run p kind j told number lower
