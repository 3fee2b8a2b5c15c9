-- Each process has its task, also after an event.
use Rattle.std.proofs.Common.{◌≡◌, ◌≢◌, ℕ, ◌<◌, true, List, length, length-set, set, refl, sym, ◌∙◌, ap, subst, arith, ⊎_elim, Option, Some}
use Rattle.kernel.specs.Common.{ArePaired, CanBegin, cases_eq, Create, Entry, first_stage, GatheredBytes, get_or-set_same, is_unturned, IsEntry, IsItsRoom, IsPaired, SetAttribute, no_task, Op, others_stay, Phase, Process, process, Read, Remove, Stage, Stat, StoreState, task, TaskStands, TaskState, there_now, Trunc, World, Write}

-- a process goes on with its task where its own entry stays
stands_back : (es fs : List Entry) (v : TaskState) (a : Phase) → ((g k : ℕ) (e : Entry) → a ≡ Phase.AfterTurn g k → IsEntry fs k e → IsEntry es k e) → TaskStands es v a → TaskStands fs v a
stands_back es fs v Phase.Idle back had = had
stands_back es fs v (Phase.BeforeTurn group op) back had = had
stands_back es fs v (Phase.AfterTurn group k) back had = λ e there. had e (back group k e refl there)
stands_back es fs v (Phase.Ending group k) back had = had
stands_back es fs v (Phase.Committing group k) back had = had

-- behind its turn, each other process than p has its entry where it had it
abbrev pub KeepsBehind : World → World → ℕ → Type 0
KeepsBehind w z p = (q : ℕ) → q ≢ p → (g k : ℕ) (e : Entry) → (process w q).at ≡ Phase.AfterTurn g k → IsEntry z.journal.list k e → IsEntry w.journal.list k e

-- so it is where the journal stays
pub keeps_behind : (w z : World) (p : ℕ) → z.journal.list ≡ w.journal.list → KeepsBehind w z p
keeps_behind w z p same q apart g k e stands there = subst (λ (es : List Entry). IsEntry es k e) same there

module _ {D : Type 0} (s t : StoreState D) (w z : World) (p : ℕ) (u : Process) where
  -- process p and its task go on, and the others stay
  pub paired_goes : ArePaired s w → p < length w.processes → z.processes ≡ set w.processes p u → length t.tasks ≡ length s.tasks
      → ((q : ℕ) → q ≢ p → task t.tasks q ≡ task s.tasks q) → KeepsBehind w z p → IsPaired z.journal.list (task t.tasks p) u.at u.room → ArePaired t z
  paired_goes had lt is many others back mine =
      let size : length z.processes ≡ length w.processes = ap (λ (ps : List Process). length ps) is ∙ length-set w.processes p u in
      record {
        many = many ∙ had.many ∙ sym size;
        some = omega (arith, size, had.some);
        few = omega (arith, size, had.few);
        stand = λ q. ⊎_elim
            (λ (same : q ≡ p). subst (λ (r : ℕ). IsPaired z.journal.list (task t.tasks r) (process z r).at (process z r).room) (sym same)
            (subst (λ (v : Process). IsPaired z.journal.list (task t.tasks p) v.at v.room) (sym (there_now w z p u is lt)) mine))
            (λ (apart : q ≢ p). subst (λ (v : Process). IsPaired z.journal.list (task t.tasks q) v.at v.room) (sym (others_stay w z p u is q apart))
            (subst (λ (v : TaskState). IsPaired z.journal.list v (process w q).at (process w q).room) (sym (others q apart))
            (record { stands = stands_back w.journal.list z.journal.list (task s.tasks q) (process w q).at (λ g k e. back q apart g k e) (had.stand q).stands; room_is = (had.stand q).room_is })))
            (cases_eq q p);
      }

-- a task that begins has not had its turn
pub begins_unturned : (op : Op) (n : ℕ) → CanBegin n op → is_unturned (first_stage op n) ≡ true
begins_unturned (Create kind) n can = refl
begins_unturned (Write i off bytes) n can = refl
begins_unturned (Read i off m) n can = absurd can
begins_unturned (Trunc i) n can = refl
begins_unturned (Remove i) n can = refl
begins_unturned (Stat i) n can = absurd can
begins_unturned (SetAttribute i a) n can = refl

-- the task of an operation that begins
pub task_begun : {D : Type 0} (s : StoreState D) (es : List Entry) (p group : ℕ) (op : Op) (a : Stage) (bytes room : Option GatheredBytes) → p < length s.tasks → is_unturned a ≡ true → IsItsRoom (Some op) room
    → IsPaired es (task (set s.tasks p (record { op = Some op; stage = a; gathered = bytes })) p) (Phase.BeforeTurn group op) room
task_begun s es p group op a bytes room lt unturned its =
    subst (λ (t : TaskState). IsPaired es t (Phase.BeforeTurn group op) room) (sym (get_or-set_same s.tasks p (record { op = Some op; stage = a; gathered = bytes }) no_task lt)) (record { stands = (refl, unturned); room_is = λ busy. its })
