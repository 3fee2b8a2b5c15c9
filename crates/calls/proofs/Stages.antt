-- An operation of a process, step by step: what is kept of the store, by where the operation stands,
-- and what its steps leave of the journal.
use Rattle.std.proofs.Common.{◌≡◌, ◌≢◌, ◌∙◌, ◌<◌, inl, inr, ◌⊎◌, ℕ, zero, suc, Bool, true, false, List, [], ◌∷◌, ◌++◌, length, set, Option, Some, None, refl, sym, ap, subst, ⊎_elim}
use Rattle.std.specs.Prelude.{if◌then◌else◌, slice_set}
use Rattle.std.specs.Option.{option_map}
use Rattle.std.proofs.Math.Seq.{get_or-append_seam, set-append_seam}
use mathlib.Core.List.{IsPrefix}
use Rattle.blocks.specs.declared.disk.Disk.{Ghosts}
use Rattle.wal.specs.declared.types.DeviceFault.{DeviceFault}
use Rattle.model.specs.declared.types.operations.Entry.{Entry}
use Rattle.model.specs.declared.types.operations.Op.{Op}
use Rattle.model.specs.declared.types.operations.Reply.{Reply}
use Rattle.model.specs.declared.types.operations.TaskProgress.{TaskProgress}
use Rattle.model.specs.declared.types.operations.TaskProgress.TheVariants as progress
use Rattle.model.specs.declared.types.operations.Why.{Why}
use Rattle.wal.specs.Machine.{LogState, begun, end_answer, ended}
use Rattle.wal.specs.declared.types.Committed.{Committed}
use Rattle.wal.specs.declared.types.Committed.TheVariants as committed
use Rattle.wal.specs.declared.types.Ended.{Ended}
use Rattle.wal.specs.declared.types.Ended.TheVariants as ended_as
use Rattle.inodes.specs.Stages.{is_over}
use Rattle.inodes.specs.Steps.{Commits, Steps}
use Rattle.inodes.specs.Store.{StoreState, with_begun, with_log, with_look}
use Rattle.inodes.specs.Tasks.{task}
use Rattle.ports.specs.History.{Side, first_in}
use Rattle.history.specs.declared.types.Phase.{Phase}
use Rattle.history.specs.declared.types.Phase.TheVariants as at
use Rattle.history.specs.declared.types.Process.{Process}
use Rattle.history.specs.AtOnce.{at_once_reply}
use Rattle.history.specs.Bound.{is_busy_at}
use Rattle.history.specs.Grows.{Becomes, Extends}
use Rattle.history.specs.Journal.{entry_in, entry_of, no_entry}
use Rattle.history.specs.Lemmas.Phases.{there_now}
use Rattle.history.specs.Open.{told}
use Rattle.history.specs.Processes.{World, answered, at_phase, committing_at, entry_index, idle, over_at, process, refusal, told_at, turned_from, with_more_room}
use Rattle.model.specs.declared.types.operations.Step.{Step}
use Rattle.model.specs.declared.types.operations.Step.TheVariants as step
use Rattle.kernel.specs.declared.class.OpClass.{OpClass}
use Rattle.kernel.specs.declared.class.OpClass.TheVariants as waiting_as
use Rattle.kernel.specs.Next.{BeginsNext, BeginsWith, IsNotTaken, NextAt, NextIf, step_behind, step_of, step_of_end, step_of_write, world_after, world_behind, world_ended, world_written}
use Rattle.kernel.specs.State.{class_of, room_for}

-- ---- what is to be kept

-- Where an operation stands, with its group and the reply that its entry has: it waits, it was taken,
-- it had its turn, its task is over and it ends in the log next, its group is being committed, or it
-- was answered.
pub data Where : Type 0 where
  Waits : Where
  BeforeTurn : (group : ℕ) → Where
  AfterTurn : (group : ℕ) → (reply : Option Reply) → Where
  Over : (group : ℕ) → (reply : Option Reply) → Where
  Committing : (reply : Option Reply) → Where
  Answered : (reply : Option Reply) → Where

-- a step of a task is not its turn
abbrev pub IsUnturned : TaskProgress → Type 0
IsUnturned x = (reply : Option Reply) → x ≢ progress.Turned reply

-- a step behind it decides no reply, and is not the last
abbrev pub IsGoing : TaskProgress → Type 0
IsGoing x = ((reply : Reply) → x ≢ progress.Decided reply) × (x ≢ progress.Over)

-- EACH EVENT of the operation of process p keeps P: what is to be shown for P to be true from its
-- submission to its answer
pub record IsKept {D N : Type 0} (disk : Ghosts D N) (p : ℕ) (op : Op) (P : Where → StoreState D → Type 0) : Type 0 where
  -- it is taken, or refused at once
  pub begins : (s : StoreState D) → class_of s.table.inode_count op ≡ waiting_as.Change → P Waits s → P (BeforeTurn (begun s.volume.log p).opened) (with_begun s p op)
  pub looks : (s : StoreState D) (count : Option ℕ) → class_of s.table.inode_count op ≡ waiting_as.Look count → P Waits s → P (BeforeTurn 0) (with_look s p op (room_for count))
  pub refused : (s : StoreState D) → P Waits s → P (Answered (Some (at_once_reply op))) s
  -- its task makes a step before its turn, with it (the task goes on, or is over), and behind it
  pub works : (g : ℕ) (s t : StoreState D) (x : TaskProgress) → IsUnturned x → Steps disk s p op x t → P (BeforeTurn g) s → P (BeforeTurn g) t
  pub turns : (g : ℕ) (s t : StoreState D) (r : Option Reply) → Steps disk s p op (progress.Turned r) t → P (BeforeTurn g) s → P (AfterTurn g r) t
  pub turns_over : (g : ℕ) (s t : StoreState D) (r : Option Reply) → is_over (task t.tasks p).stage ≡ true → Steps disk s p op (progress.Turned r) t → P (BeforeTurn g) s → P (Over g r) t
  pub goes : (g : ℕ) (s t : StoreState D) (r : Option Reply) (x : TaskProgress) → IsGoing x → Steps disk s p op x t → P (AfterTurn g r) s → P (AfterTurn g r) t
  pub decides : (g : ℕ) (s t : StoreState D) (r : Option Reply) (reply : Reply) → (r ≡ None) ⊎ (r ≡ Some reply) → Steps disk s p op (progress.Decided reply) t → P (AfterTurn g r) s → P (AfterTurn g (Some reply)) t
  pub ends : (g : ℕ) (s t : StoreState D) (r : Option Reply) → Steps disk s p op progress.Over t → P (AfterTurn (suc g) r) s → P (Over (suc g) r) t
  -- one of no group is answered with its reply, or with its last step
  pub decides_alone : (s t : StoreState D) (r : Option Reply) (reply : Reply) → (r ≡ None) ⊎ (r ≡ Some reply) → Steps disk s p op (progress.Decided reply) t → P (AfterTurn 0 r) s → P (Answered (Some reply)) t
  pub ends_alone : (s t : StoreState D) (r : Option Reply) → Steps disk s p op progress.Over t → P (AfterTurn 0 r) s → P (Answered r) t
  -- others end in the log, and may commit their group
  pub leaves : (g : ℕ) (s : StoreState D) (r : Option Reply) → P (Over g r) s → P (Answered r) (with_log s (ended s.volume.log p))
  pub closes : (g : ℕ) (s : StoreState D) (r : Option Reply) → end_answer s.volume.log ≡ ended_as.Commit → P (Over g r) s → P (Committing r) (with_log s (ended s.volume.log p))
  pub commits : (s t : StoreState D) (r : Option Reply) (x : Committed) → Commits disk s x t → P (Committing r) s → P (Committing r) t
  pub committed : (s : StoreState D) (r : Option Reply) → P (Committing r) s → P (Answered r) s

-- ---- where it stands

-- the journal has one entry more, of process p's operation, at that index
pub record HasMore (p : ℕ) (op : Op) (es : List Entry) (k : ℕ) (list : List Entry) : Type 0 where
  pub entry : Entry
  pub index : k ≡ length es
  pub is : list ≡ es ++ entry ∷ []
  pub mine : entry.pid ≡ p
  pub same : entry.op ≡ op

-- the journal is as it was, or has that entry more
abbrev pub ListIs : ℕ → Op → List Entry → List Entry → Type 0
ListIs p op es list = (list ≡ es) ⊎ HasMore p op es (length es) list

module _ {D : Type 0} (p : ℕ) (op : Op) (P : Where → StoreState D → Type 0) (es : List Entry) where
  -- the operation is the only one that waits, or it is under way, and P is true
  abbrev pub StandsAt : Phase → List Op → StoreState D → List Entry → Type 0
  StandsAt at.Idle waits s list = (waits ≡ op ∷ []) × (list ≡ es) × P Waits s
  StandsAt (at.BeforeTurn group o) waits s list = (o ≡ op) × (list ≡ es) × P (BeforeTurn group) s
  StandsAt (at.AfterTurn group k) waits s list = (more : HasMore p op es k list) × P (AfterTurn group more.entry.reply) s
  StandsAt (at.Ending group k) waits s list = (more : HasMore p op es k list) × P (Over group more.entry.reply) s
  StandsAt (at.Committing group k) waits s list = (more : HasMore p op es k list) × P (Committing more.entry.reply) s

  -- it was answered
  pub record IsOver (s : StoreState D) (w : World) : Type 0 where
    pub idle : (process w p).at ≡ at.Idle
    pub more : HasMore p op es (length es) w.journal.list
    pub holds : P (Answered more.entry.reply) s

  -- whatever became of it
  pub record IsLeft (s : StoreState D) (list : List Entry) : Type 0 where
    pub stand : Where
    pub holds : P stand s
    pub lists : ListIs p op es list

  -- WHAT A STEP LEAVES that answers so: it never finds a shutdown, or nothing that waits
  abbrev pub Comes : Step → List Op → StoreState D → World → Type 0
  Comes step.Moved waits t z = StandsAt (process z p).at waits t z.journal.list
  Comes step.Answered waits t z = IsOver t z
  Comes (step.Sleeping cause) waits t z = IsLeft t z.journal.list
  Comes step.Idle waits t z = ⊥
  Comes step.NoMemory waits t z = P Waits t × (z.journal.list ≡ es)
  Comes step.ShutDown waits t z = ⊥
  Comes step.Halted waits t z = IsLeft t z.journal.list

  -- which index that is, its list says
  abbrev at_end : (k : ℕ) (list : List Entry) → HasMore p op es k list → HasMore p op es (length es) list
  at_end k list more = record { entry = more.entry; index = refl; is = more.is; mine = more.mine; same = more.same }

  stands_left : (a : Phase) (waits : List Op) (s : StoreState D) (list : List Entry) → StandsAt a waits s list → IsLeft s list
  stands_left at.Idle waits s list stands = record { stand = Waits; holds = stands.2; lists = inl stands.1 }
  stands_left (at.BeforeTurn group o) waits s list stands = record { stand = BeforeTurn group; holds = stands.2; lists = inl stands.1 }
  stands_left (at.AfterTurn group k) waits s list (more, holds) = record { stand = AfterTurn group more.entry.reply; holds = holds; lists = inr (at_end k list more) }
  stands_left (at.Ending group k) waits s list (more, holds) = record { stand = Over group more.entry.reply; holds = holds; lists = inr (at_end k list more) }
  stands_left (at.Committing group k) waits s list (more, holds) = record { stand = Committing more.entry.reply; holds = holds; lists = inr (at_end k list more) }

  pub is_left : (r : Step) (waits : List Op) (t : StoreState D) (z : World) → Comes r waits t z → IsLeft t z.journal.list
  is_left step.Moved waits t z stands = stands_left (process z p).at waits t z.journal.list stands
  is_left step.Answered waits t z over = record { stand = Answered over.more.entry.reply; holds = over.holds; lists = inr over.more }
  is_left (step.Sleeping cause) waits t z left = left
  is_left step.Idle waits t z none = absurd none
  is_left step.NoMemory waits t z (holds, list) = record { stand = Waits; holds = holds; lists = inl list }
  is_left step.ShutDown waits t z none = absurd none
  is_left step.Halted waits t z left = left

  -- it waits, or it is under way
  pub waits_or_busy : (a : Phase) (waits : List Op) (s : StoreState D) (list : List Entry) → StandsAt a waits s list → ((a ≡ at.Idle) × (waits ≡ op ∷ []) × (list ≡ es) × P Waits s) ⊎ (is_busy_at a ≡ true)
  waits_or_busy at.Idle waits s list stands = inl (refl, stands.0, stands.1, stands.2)
  waits_or_busy (at.BeforeTurn group o) waits s list stands = inr refl
  waits_or_busy (at.AfterTurn group k) waits s list stands = inr refl
  waits_or_busy (at.Ending group k) waits s list stands = inr refl
  waits_or_busy (at.Committing group k) waits s list stands = inr refl

  -- the entry at its index
  entry_there : (k : ℕ) (list : List Entry) (more : HasMore p op es k list) → entry_in list k ≡ more.entry
  entry_there k list more = ap (λ (l : List Entry). entry_in l k) more.is ∙ ap (λ (i : ℕ). entry_in (es ++ more.entry ∷ []) i) more.index ∙ get_or-append_seam es more.entry [] no_entry

  -- is told its reply
  abbrev told_more : (k : ℕ) (list : List Entry) (reply : Reply) → HasMore p op es k list → HasMore p op es k (slice_set list k (told (entry_in list k) reply))
  told_more k list reply more = record {
    entry = told more.entry reply;
    index = more.index;
    is = ap (λ (f : Entry). slice_set list k (told f reply)) (entry_there k list more) ∙ ap (λ (l : List Entry). slice_set l k (told more.entry reply)) more.is
        ∙ ap (λ (i : ℕ). slice_set (es ++ more.entry ∷ []) i (told more.entry reply)) more.index ∙ set-append_seam es more.entry [] (told more.entry reply);
    mine = more.mine;
    same = more.same;
  }

-- the last entry goes on as all do
becomes_last : (es : List Entry) (e f : Entry) → Extends (es ++ e ∷ []) (es ++ f ∷ []) → Becomes e f
becomes_last [] e f more = more.0
becomes_last (d ∷ es) e f more = becomes_last es e f more.1

-- what waits first is that which waited
pub first_waits : (op : Op) (before ahead : List Op) → before ≡ op ∷ [] → IsPrefix before ahead → first_in ahead ≡ Some op
first_waits op before ahead was prefix = let is : ahead ≡ op ∷ prefix.0 = cc (was, prefix.1) in ap first_in is

-- an operation that is not refused at once is what its kind says
pub kind_then : (refused : Bool) (kind what : OpClass) → what ≢ waiting_as.Refused → (if refused then waiting_as.Refused else kind) ≡ what → (refused ≡ false) × (kind ≡ what)
kind_then true kind what other is = absurd (other (sym is))
kind_then false kind what other is = (refl, is)

-- ---- a step of it

module _ {D N : Type 0} (disk : Ghosts D N) (p : ℕ) (op : Op) (P : Where → StoreState D → Type 0) (keeps : IsKept disk p op P) (es : List Entry) (before after : List Op) (side : Side) (s t : StoreState D) (w : World) (inside : p < length w.processes) where
  -- a step to world z
  abbrev To : Step → World → Type 0
  To r z = Comes p op P es r after t z

  to_so : (r q : Step) (z o : World) → r ≡ q → z ≡ o → To q o → To r z
  to_so r q z o says is to = subst (λ (y : Step). To y z) (sym says) (subst (λ (v : World). To q v) (sym is) to)

  -- the process stands elsewhere, or where it stood
  went : (z : World) (u : Process) → z.processes ≡ set w.processes p u → StandsAt p op P es u.at after t z.journal.list → To step.Moved z
  went z u is stands = subst (λ (v : Process). StandsAt p op P es v.at after t z.journal.list) (sym (there_now w z p u is inside)) stands

  stays : (z : World) → z.processes ≡ w.processes → (a : Phase) → (process w p).at ≡ a → StandsAt p op P es a after t z.journal.list → To step.Moved z
  stays z same a at_a stands = subst (λ (b : Phase). StandsAt p op P es b after t z.journal.list) (sym (ap (λ (ps : List Process). (Rattle.std.specs.Prelude.slice_index_or ps p idle).at) same ∙ at_a)) stands

  -- or it was answered
  over_now : (v : World) → v.processes ≡ w.processes → (k : ℕ) (more : HasMore p op es k v.journal.list) → P (Answered more.entry.reply) t → IsOver p op P es t (answered v p)
  over_now v same k more holds = record {
    idle = ap (λ (u : Process). u.at) (there_now v (answered v p) p (record (process v p) { at = at.Idle; room = None }) refl (subst (λ (ps : List Process). p < length ps) (sym same) inside));
    more = at_end p op P es k v.journal.list more;
    holds = holds;
  }

  module _ (list : w.journal.list ≡ es) where
    asleep : (r : Step) (cause : Why) → P Waits t → r ≡ step.Sleeping cause → To r w
    asleep r cause holds is = to_so r (step.Sleeping cause) _ _ is refl (record { stand = Waits; holds = holds; lists = inl list })

    refused : (r : Step) → P Waits t → r ≡ step.NoMemory → To r w
    refused r holds is = to_so r step.NoMemory _ _ is refl (holds, list)

    -- it is not taken
    unbegun : (what : OpClass) (l : LogState) (room : Bool) (r : Step) → P Waits t → IsNotTaken (Some what) l room r → To r w
    unbegun waiting_as.Refused l room r holds why = ⊎_elim (λ full. asleep r _ holds full.0) (λ none. refused r holds none.0) why
    unbegun (waiting_as.Look count) l room r holds why = ⊎_elim (λ full. asleep r _ holds full.0) (λ none. refused r holds none.0) why
    unbegun waiting_as.Change l room r holds why = ⊎_elim (λ full. asleep r _ holds full.0) (λ o. ⊎_elim (λ out. asleep r out.0 holds out.1) (λ none. refused r holds none.0.0) o) why

    -- by what waits first
    begins : (r : Step) (z : World) (ahead rest : List Op) → (process w p).at ≡ at.Idle → ahead ≡ op ∷ rest → P Waits s → BeginsWith (option_map (class_of s.table.inode_count) (first_in ahead)) s w p ahead side r t z → To r z
    begins r z ahead rest at_idle waits holds (inl made) =
        let same : made.op ≡ op = cc (waits, made.taken.0) in
        let g = (begun s.volume.log p).opened in
        let stands : P (BeforeTurn g) t = subst (P (BeforeTurn g)) (sym (made.store ∙ ap (with_begun s p) same)) (keeps.begins s (ap (class_of s.table.inode_count) (sym same) ∙ made.taken.1) holds) in
        to_so r step.Moved z z made.answer refl (went z _ (ap (λ (v : World). v.processes) made.world) (same, ap (λ (v : World). v.journal.list) made.world ∙ list, stands))
    begins r z ahead rest at_idle waits holds (inr (inl made)) =
        let same : made.op ≡ op = cc (waits, made.taken.0) in
        let stands : P (BeforeTurn 0) t = subst (P (BeforeTurn 0)) (sym (made.store ∙ ap (λ (o : Op). with_look s p o (room_for made.count)) same)) (keeps.looks s made.count (ap (class_of s.table.inode_count) (sym same) ∙ made.taken.1) holds) in
        to_so r step.Moved z z made.answer refl (went z _ (ap (λ (v : World). v.processes) made.world) (same, ap (λ (v : World). v.journal.list) made.world ∙ list, stands))
    begins r z ahead rest at_idle waits holds (inr (inr (inl made))) =
        let same : made.op ≡ op = cc (waits, made.taken.0) in
        let e = refusal (with_more_room w) p made.op (at_once_reply made.op) in
        let more : HasMore p op es (length es) z.journal.list = record { entry = e; index = refl; is = ap (λ (v : World). v.journal.list) made.world ∙ ap (λ (l : List Entry). l ++ e ∷ []) list; mine = refl; same = same } in
        to_so r step.Answered z z made.answer refl (record {
          idle = ap (λ (u : Process). u.at) (there_now w z p _ (ap (λ (v : World). v.processes) made.world) inside) ∙ at_idle;
          more = more;
          holds = subst (λ (o : Op). P (Answered (Some (at_once_reply o))) t) (sym same) (subst (P (Answered (Some (at_once_reply op)))) (sym made.store) (keeps.refused s holds));
        })
    begins r z ahead rest at_idle waits holds (inr (inr (inr none))) =
        let why : IsNotTaken (Some (class_of s.table.inode_count op)) s.volume.log side.has_room r = subst (λ (o : Option Op). IsNotTaken (option_map (class_of s.table.inode_count) o) s.volume.log side.has_room r) (ap first_in waits) none.answer in
        to_so r r z w refl none.same.1 (unbegun (class_of s.table.inode_count op) s.volume.log side.has_room r (subst (P Waits) (sym none.same.0) holds) why)

    -- nobody told of a shutdown
    begun_now : (r : Step) (z : World) (told : Bool) → w.is_shut ≡ false → told ≡ false → (process w p).at ≡ at.Idle → before ≡ op ∷ [] → P Waits s → BeginsNext s w p before side told r t z → To r z
    begun_now r z told unshut untold at_idle was holds (inl shut) = absurd (⊎_elim (λ e. cc (e, unshut)) (λ e. cc (e, untold)) shut.heard)
    begun_now r z told unshut untold at_idle was holds (inr none) = begins r z none.ahead none.prefix.0 at_idle (cc (was, none.prefix.1)) holds none.begins

    -- a step of its task before its turn, or with it
    worked : (group : ℕ) (x : TaskProgress) (o : Op) → (process w p).at ≡ at.BeforeTurn group o → o ≡ op → P (BeforeTurn group) s → Steps disk s p op x t → To (step_of x) (world_after x (is_over (task t.tasks p).stage) w p)
    worked group progress.Moved o at_a same holds steps = stays w refl (at.BeforeTurn group o) at_a (same, list, keeps.works group s t progress.Moved (λ r e. cc e) steps holds)
    worked group (progress.Turned reply) o at_a same holds steps =
        subst (λ (a : Phase). To step.Moved (turned_from a w p reply (is_over (task t.tasks p).stage))) (sym at_a) (turned (is_over (task t.tasks p).stage) refl)
      where
        e : Entry
        e = entry_of p (process w p).begun o group reply

        more : HasMore p op es (length w.journal.list) (w.journal.list ++ e ∷ [])
        more = record { entry = e; index = ap (λ (l : List Entry). length l) list; is = ap (λ (l : List Entry). l ++ e ∷ []) list; mine = refl; same = same }

        turned : (over : Bool) → is_over (task t.tasks p).stage ≡ over → To step.Moved (turned_from (at.BeforeTurn group o) w p reply over)
        turned true is = went (turned_from (at.BeforeTurn group o) w p reply true) (record (process w p) { at = at.Ending group (length w.journal.list) }) refl (more, keeps.turns_over group s t reply is steps holds)
        turned false is = went (turned_from (at.BeforeTurn group o) w p reply false) (record (process w p) { at = at.AfterTurn group (length w.journal.list) }) refl (more, keeps.turns group s t reply steps holds)
    worked group (progress.Decided reply) o at_a same holds steps = stays w refl (at.BeforeTurn group o) at_a (same, list, keeps.works group s t (progress.Decided reply) (λ r e. cc e) steps holds)
    worked group progress.Over o at_a same holds steps = stays w refl (at.BeforeTurn group o) at_a (same, list, keeps.works group s t progress.Over (λ r e. cc e) steps holds)
    worked group (progress.Sleeping cause) o at_a same holds steps = record { stand = BeforeTurn group; holds = keeps.works group s t (progress.Sleeping cause) (λ r e. cc e) steps holds; lists = inl list }
    worked group (progress.Fault fault) o at_a same holds steps = record { stand = BeforeTurn group; holds = keeps.works group s t (progress.Fault fault) (λ r e. cc e) steps holds; lists = inl list }

  module _ (k : ℕ) (more : HasMore p op es k w.journal.list) where
    abbrev r : Option Reply
    r = more.entry.reply

    -- its entry had no reply before it is told one, or had it
    untold : (reply : Reply) → Extends w.journal.list (slice_set w.journal.list k (told (entry_in w.journal.list k) reply)) → (r ≡ None) ⊎ (r ≡ Some reply)
    untold reply grows = by_entry (becomes_last es more.entry (told more.entry reply)
        (subst (Extends (es ++ more.entry ∷ [])) (told_more p op P es k w.journal.list reply more).is (subst (λ (l : List Entry). Extends l (slice_set w.journal.list k (told (entry_in w.journal.list k) reply))) more.is grows)))
      where
        by_entry : Becomes more.entry (told more.entry reply) → (r ≡ None) ⊎ (r ≡ Some reply)
        by_entry (inl same) = inr (ap (λ (f : Entry). f.reply) (sym same))
        by_entry (inr none) = inl none.0

    -- a step of its task behind its turn
    finished : (group : ℕ) (x : TaskProgress) → (process w p).at ≡ at.AfterTurn group k → P (AfterTurn group r) s → Steps disk s p op x t → Extends w.journal.list (world_behind group x w p).journal.list → To (step_behind group x) (world_behind group x w p)
    finished group progress.Moved at_a holds steps grows = stays w refl (at.AfterTurn group k) at_a (more, keeps.goes group s t r progress.Moved ((λ q e. cc e), λ e. cc e) steps holds)
    finished group (progress.Turned reply) at_a holds steps grows = stays w refl (at.AfterTurn group k) at_a (more, keeps.goes group s t r (progress.Turned reply) ((λ q e. cc e), λ e. cc e) steps holds)
    finished zero (progress.Decided reply) at_a holds steps grows =
        let was = untold reply (subst (λ (a : Phase). Extends w.journal.list (told_at (entry_index a) w reply).journal.list) at_a grows) in
        subst (λ (a : Phase). To step.Answered (answered (told_at (entry_index a) w reply) p)) (sym at_a)
        (over_now (told_at (Some k) w reply) refl k (told_more p op P es k w.journal.list reply more) (keeps.decides_alone s t r reply was steps holds))
    finished (suc group) (progress.Decided reply) at_a holds steps grows =
        let was = untold reply (subst (λ (a : Phase). Extends w.journal.list (told_at (entry_index a) w reply).journal.list) at_a grows) in
        subst (λ (a : Phase). To step.Moved (told_at (entry_index a) w reply)) (sym at_a)
        (stays (told_at (Some k) w reply) refl (at.AfterTurn (suc group) k) at_a (told_more p op P es k w.journal.list reply more, keeps.decides (suc group) s t r reply was steps holds))
    finished zero progress.Over at_a holds steps grows = over_now w refl k more (keeps.ends_alone s t r steps holds)
    finished (suc group) progress.Over at_a holds steps grows =
        subst (λ (a : Phase). To step.Moved (at_phase w p (over_at a))) (sym at_a)
        (went (at_phase w p (at.Ending (suc group) k)) (record (process w p) { at = at.Ending (suc group) k }) refl (more, keeps.ends group s t r steps holds))
    finished group (progress.Sleeping cause) at_a holds steps grows = record { stand = AfterTurn group r; holds = keeps.goes group s t r (progress.Sleeping cause) ((λ q e. cc e), λ e. cc e) steps holds; lists = inr (at_end p op P es k w.journal.list more) }
    finished group (progress.Fault fault) at_a holds steps grows = record { stand = AfterTurn group r; holds = keeps.goes group s t r (progress.Fault fault) ((λ q e. cc e), λ e. cc e) steps holds; lists = inr (at_end p op P es k w.journal.list more) }

    -- its end in the log
    ended_now : (group : ℕ) (x : Ended) → (process w p).at ≡ at.Ending group k → end_answer s.volume.log ≡ x → t ≡ with_log s (ended s.volume.log p) → P (Over group r) s → To (step_of_end x) (world_ended x w p)
    ended_now group ended_as.Commit at_a is store holds =
        subst (λ (a : Phase). To step.Moved (at_phase w p (committing_at a))) (sym at_a)
        (went (at_phase w p (at.Committing group k)) (record (process w p) { at = at.Committing group k }) refl (more, subst (P (Committing r)) (sym store) (keeps.closes group s r is holds)))
    ended_now group ended_as.Left at_a is store holds = over_now w refl k more (subst (P (Answered r)) (sym store) (keeps.leaves group s r holds))

    -- its commit
    written : (group : ℕ) (x : Committed) → (process w p).at ≡ at.Committing group k → Commits disk s x t → P (Committing r) s → To (step_of_write x) (world_written x w p)
    written group committed.More at_a commits holds = stays w refl (at.Committing group k) at_a (more, keeps.commits s t r committed.More commits holds)
    written group (committed.Durable g) at_a commits holds = stays w refl (at.Committing group k) at_a (more, keeps.commits s t r (committed.Durable g) commits holds)
    written group committed.Done at_a commits holds = over_now w refl k more (keeps.committed t r (keeps.commits s t r committed.Done commits holds))
    written group (committed.Fault fault) at_a commits holds = record { stand = Committing r; holds = keeps.commits s t r (committed.Fault fault) commits holds; lists = inr (at_end p op P es k w.journal.list more) }

  module _ (told : Bool) (unshut : w.is_shut ≡ false) (untold : told ≡ false) where
    -- by where its process stands
    next_at : (a : Phase) (r : Step) (z : World) → (process w p).at ≡ a → NextAt disk a s w p before side told r t z → Extends w.journal.list z.journal.list → StandsAt p op P es a before s w.journal.list → To r z
    next_at at.Idle r z at_a next grows (was, list, holds) = begun_now list r z told unshut untold at_a was holds next
    next_at (at.BeforeTurn group o) r z at_a next grows (same, list, holds) =
        to_so r _ z _ next.answer next.world (worked list group next.progress o at_a same holds (subst (λ (q : Op). Steps disk s p q next.progress t) same next.steps))
    next_at (at.AfterTurn group k) r z at_a next grows (more, holds) =
        let made : Steps disk s p op next.progress t = subst (λ (q : Op). Steps disk s p q next.progress t) (ap (λ (e : Entry). e.op) (entry_there p op P es k w.journal.list more) ∙ more.same) next.steps in
        to_so r _ z _ next.answer next.world (finished k more group next.progress at_a holds made (subst (λ (v : World). Extends w.journal.list v.journal.list) next.world grows))
    next_at (at.Ending group k) r z at_a next grows (more, holds) = to_so r _ z _ next.answer next.world (ended_now k more group (end_answer s.volume.log) at_a refl next.store holds)
    next_at (at.Committing group k) r z at_a next grows (more, holds) = to_so r _ z _ next.answer next.world (written k more group next.result at_a next.commits holds)

    -- A STEP OF ITS PROCESS
    pub step_comes : (f : Option DeviceFault) (r : Step) (z : World) → NextIf disk f s w p before side told r t z → Extends w.journal.list z.journal.list → StandsAt p op P es (process w p).at before s w.journal.list → To r z
    step_comes None r z next grows stands = next_at (process w p).at r z refl next grows stands
    step_comes (Some fault) r z next grows stands =
        to_so r step.Halted z w next.0 next.1.1 (subst (λ (o : StoreState D). IsLeft p op P es o w.journal.list) (sym next.1.0) (stands_left p op P es (process w p).at before s w.journal.list stands))
