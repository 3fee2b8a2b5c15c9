-- What any turn of a process makes of the others, of the journal, and of where it stands.
use Rattle.std.proofs.Common.{◌≡◌, ◌≢◌, ◌⊎◌, inl, inr, ℕ, ◌+◌, zero, suc, Bool, true, false, List, [], ◌∷◌, ◌++◌, length, set, refl, sym, ◌∙◌, ap, Option, Some, None}
use Rattle.blocks.specs.declared.disk.Disk as disk_trait
use Rattle.std.specs.Option.{option_map}
use Rattle.kernel.specs.Common.{at_once_reply, BeginsWith, begun, Commit, commit_log, Commits, Committed, committing_at, decided, DeviceFault, end_answer, Ended, ended, ended_keeps, Ends, Entry, entry_in, entry_of, entry_index, Finishes, first_in, first_stage, get_or-set_other, idle, is_over, LogState, NextAt, NextIf, no_task, Op, over_at, Part, Phase, phase_behind, Process, process, refusal, Reply, room_for, set-get_or, Side, Step, stepped_at, Steps, StoreState, task, TaskProgress, TaskState, told, told_at, turned_from, OpClass, class_of, with_begun, with_log, with_look, Works, World, world_after, world_behind, world_ended, world_written}
use Rattle.kernel.specs.Next.{Writes}

-- what becomes of the store beside the task of process q
pub record LeavesStore {D : Type 0} (q : ℕ) (s t : StoreState D) : Type 0 where
  pub tasks : (p : ℕ) → p ≢ q → task t.tasks p ≡ task s.tasks p
  pub numbers : t.table.inode_count ≡ s.table.inode_count
  pub form : t.table.form ≡ s.table.form
  pub size : t.volume.log.size ≡ s.volume.log.size

-- a new entry of process q comes into the journal, which stood there
pub record AddsEntry (q : ℕ) (a : Phase) (es fs : List Entry) : Type 0 where
  pub entry : Entry
  pub mine : entry.pid ≡ q
  pub from : (a ≡ Phase.Idle) ⊎ ((group : ℕ) × (op : Op) × (a ≡ Phase.BeforeTurn group op))
  pub list : fs ≡ es ++ entry ∷ []

-- the entry of a process that stands there is told a reply
pub record TellsEntry (a : Phase) (es fs : List Entry) : Type 0 where
  pub index : ℕ
  pub reply : Reply
  pub at : entry_index a ≡ Some index
  pub list : fs ≡ set es index (told (entry_in es index) reply)

abbrev pub JournalBy : ℕ → Phase → List Entry → List Entry → Type 0
JournalBy q a es fs = (fs ≡ es) ⊎ (AddsEntry q a es fs ⊎ TellsEntry a es fs)

-- where the process then stands: its entry is as it was, or a new one
abbrev pub EntryIndexes : ℕ → Phase → Phase → List Entry → List Entry → Type 0
EntryIndexes q a b es fs = (i : ℕ) → entry_index b ≡ Some i →
    (entry_index a ≡ Some i) ⊎ ((i ≡ length es) × AddsEntry q a es fs)

-- it waits for its turn, as it did before or because it was idle
abbrev pub BeforeFrom : Phase → Phase → Type 0
BeforeFrom a b = (group : ℕ) (op : Op) → b ≡ Phase.BeforeTurn group op → (a ≡ Phase.Idle) ⊎ (a ≡ b)

-- a turn of process q, which stood there
pub record Turned {D : Type 0} (q : ℕ) (a : Phase) (s : StoreState D) (w : World) (t : StoreState D)
    (z : World) : Type 0 where
  pub now : Process
  pub processes : z.processes ≡ set w.processes q now
  pub journal : JournalBy q a w.journal.list z.journal.list
  pub places : EntryIndexes q a now.at w.journal.list z.journal.list
  pub before : BeforeFrom a now.at
  pub store : LeavesStore q s t

-- ---- the store

module _ {D : Type 0} (q : ℕ) (s t : StoreState D) where
  store_same : t ≡ s → LeavesStore q s t
  store_same is = record {
    tasks = λ p apart. ap (λ (o : StoreState D). task o.tasks p) is;
    numbers = ap (λ (o : StoreState D). o.table.inode_count) is;
    form = ap (λ (o : StoreState D). o.table.form) is;
    size = ap (λ (o : StoreState D). o.volume.log.size) is;
  }

  store_begins : (o : StoreState D) (u : TaskState) → t ≡ o → o.tasks ≡ set s.tasks q u → o.table ≡ s.table → o.volume.log.size ≡ s.volume.log.size → LeavesStore q s t
  store_begins o u to tasks table size = record {
    tasks = λ p apart. ap (λ (v : StoreState D). task v.tasks p) to ∙ ap (λ (ts : List TaskState). task ts p) tasks ∙ get_or-set_other s.tasks q p u no_task apart;
    numbers = ap (λ (v : StoreState D). v.table.inode_count) to ∙ ap (λ v. v.inode_count) table;
    form = ap (λ (v : StoreState D). v.table.form) to ∙ ap (λ v. v.form) table;
    size = ap (λ (v : StoreState D). v.volume.log.size) to ∙ size;
  }

  store_steps : {N : Type 0} (disk : disk_trait.Ghosts D N) (op : Op) (r : TaskProgress) → Steps disk s q op r t → LeavesStore q s t
  store_steps disk op r steps = record { tasks = steps.tasks.others; numbers = steps.tasks.numbers; form = steps.tasks.form; size = steps.groups.size }

  size_ended : (l : LogState) (p : ℕ) → (ended l p).size ≡ l.size
  size_ended l p = ended_keeps (λ (m : LogState). m.size) l p refl refl refl

  store_ended : t ≡ with_log s (ended s.volume.log q) → LeavesStore q s t
  store_ended to = record {
    tasks = λ p apart. ap (λ (v : StoreState D). task v.tasks p) to;
    numbers = ap (λ (v : StoreState D). v.table.inode_count) to;
    form = ap (λ (v : StoreState D). v.table.form) to;
    size = ap (λ (v : StoreState D). v.volume.log.size) to ∙ size_ended s.volume.log q;
  }

  size_stepped : (h : Bool) (k : Commit) (l : LogState) → (stepped_at h k l).size ≡ l.size
  size_stepped h Commit.Quiet l = refl
  size_stepped h (Commit.Logging k) l = refl
  size_stepped h Commit.Heading l = refl
  size_stepped h (Commit.Homing k) l = refl
  size_stepped h Commit.Clearing l = refl
  size_stepped h (Commit.Syncing Part.Log) l = refl
  size_stepped h (Commit.Syncing Part.Header) l = refl
  size_stepped h (Commit.Syncing Part.Homes) l = refl
  size_stepped h (Commit.Syncing Part.Clear) l = refl

  store_commits : {N : Type 0} (disk : disk_trait.Ghosts D N) (r : Committed) → Commits disk s r t → LeavesStore q s t
  store_commits disk r commits = record {
    tasks = λ p apart. ap (λ (ts : List TaskState). task ts p) commits.tasks;
    numbers = ap (λ v. v.inode_count) commits.table;
    form = ap (λ v. v.form) commits.table;
    size = by_log (commit_log disk s.volume.device s.volume.buffers s.volume.log t.volume.device t.volume.buffers t.volume.log r commits.volume.write);
  }
    where
      by_log : (t.volume.log ≡ stepped_at (disk.holding (disk.name s.volume.device)) s.volume.log.commit s.volume.log) ⊎ (t.volume.log ≡ s.volume.log) → t.volume.log.size ≡ s.volume.log.size
      by_log (inl is) = ap (λ (l : LogState). l.size) is ∙ size_stepped (disk.holding (disk.name s.volume.device)) s.volume.log.commit s.volume.log
      by_log (inr same) = ap (λ (l : LogState). l.size) same

-- ---- the turn

module _ {D N : Type 0} (disk : disk_trait.Ghosts D N) (q : ℕ) (s : StoreState D) (w : World) (t : StoreState D) (z : World) where
  abbrev To : Phase → Type 0
  To a = Turned q a s w t z

  -- the processes are as in o, where process q is u
  becomes : (a : Phase) (o : World) (u : Process) → z ≡ o → o.processes ≡ set w.processes q u → JournalBy q a w.journal.list o.journal.list → EntryIndexes q a u.at w.journal.list o.journal.list → BeforeFrom a u.at → LeavesStore q s t → To a
  becomes a o u to here journal places before store = record {
    now = u;
    processes = ap (λ (v : World). v.processes) to ∙ here;
    journal = moved journal;
    places = moved_places places;
    before = before;
    store = store;
  }
    where
      same : z.journal.list ≡ o.journal.list
      same = ap (λ (v : World). v.journal.list) to

      adds : AddsEntry q a w.journal.list o.journal.list → AddsEntry q a w.journal.list z.journal.list
      adds is = record { entry = is.entry; mine = is.mine; from = is.from; list = same ∙ is.list }

      moved : JournalBy q a w.journal.list o.journal.list → JournalBy q a w.journal.list z.journal.list
      moved (inl is) = inl (same ∙ is)
      moved (inr (inl is)) = inr (inl (adds is))
      moved (inr (inr is)) = inr (inr (record { index = is.index; reply = is.reply; at = is.at; list = same ∙ is.list }))

      moved_places : EntryIndexes q a u.at w.journal.list o.journal.list → EntryIndexes q a u.at w.journal.list z.journal.list
      moved_places places i at = by_place (places i at)
        where
          by_place : (entry_index a ≡ Some i) ⊎ ((i ≡ length w.journal.list) × AddsEntry q a w.journal.list o.journal.list) → (entry_index a ≡ Some i) ⊎ ((i ≡ length w.journal.list) × AddsEntry q a w.journal.list z.journal.list)
          by_place (inl is) = inl is
          by_place (inr is) = inr (is.0, adds is.1)

  -- process q stays where it stands
  rests : (a : Phase) (o : World) → (process w q).at ≡ a → z ≡ o → o.processes ≡ w.processes → o.journal.list ≡ w.journal.list → LeavesStore q s t → To a
  rests a o stands to here list store = becomes a o (process w q) to (here ∙ sym (set-get_or w.processes q idle)) (inl list) (λ i at. inl (ap entry_index (sym stands) ∙ at)) (λ group op is. inr (sym stands)) store

  begins : (what : Option OpClass) (ahead : List Op) (side : Side) (r : Step) → (process w q).at ≡ Phase.Idle → BeginsWith what s w q ahead side r t z → To Phase.Idle
  begins what ahead side r stands (inl made) =
      becomes Phase.Idle _ (record { begun = (process w q).begun + 1; at = Phase.BeforeTurn (begun s.volume.log q).opened made.op; room = None }) made.world refl (inl refl) (λ i no. absurd (cc no)) (λ group op is. inl refl)
      (store_begins q s t (with_begun s q made.op) (record { op = Some made.op; stage = first_stage made.op s.table.inode_count; gathered = None }) made.store refl refl refl)
  begins what ahead side r stands (inr (inl made)) =
      becomes Phase.Idle _ _ made.world refl (inl refl) (λ i no. absurd (cc no)) (λ group op is. inl refl)
      (store_begins q s t (with_look s q made.op (room_for made.count)) _ made.store refl refl refl)
  begins what ahead side r stands (inr (inr (inl made))) =
      becomes Phase.Idle _ _ made.world refl (inr (inl (record { entry = refusal w q made.op (at_once_reply made.op); mine = refl; from = inl refl; list = refl })))
      (λ i at. inl (ap entry_index (sym stands) ∙ at)) (λ group op is. inl refl) (store_same q s t made.store)
  begins what ahead side r stands (inr (inr (inr made))) = rests Phase.Idle w stands made.same.1 refl refl (store_same q s t made.same.0)

  works : (group : ℕ) (op : Op) (r : Step) → (process w q).at ≡ Phase.BeforeTurn group op → Works disk s w q op r t z → To (Phase.BeforeTurn group op)
  works group op r stands made = by_progress made.progress made.world
    where
      store : LeavesStore q s t
      store = store_steps q s t disk op made.progress made.steps

      by_over : (over : Bool) (k i : ℕ) → entry_index (phase_behind over group k) ≡ Some i → k ≡ i
      by_over true k i is = cc is
      by_over false k i is = cc is

      never : (over : Bool) (k g : ℕ) (o : Op) → phase_behind over group k ≡ Phase.BeforeTurn g o → ⊥
      never true k g o is = cc is
      never false k g o is = cc is

      by_progress : (x : TaskProgress) → z ≡ world_after x (is_over (task t.tasks q).stage) w q → To (Phase.BeforeTurn group op)
      by_progress TaskProgress.Moved to = rests (Phase.BeforeTurn group op) w stands to refl refl store
      by_progress (TaskProgress.Turned reply) to =
          let over : Bool = is_over (task t.tasks q).stage in
          let k = length w.journal.list in
          let adds : AddsEntry q (Phase.BeforeTurn group op) w.journal.list (turned_from (Phase.BeforeTurn group op) w q reply over).journal.list
          = record { entry = entry_of q (process w q).begun op group reply; mine = refl; from = inr (group, op, refl); list = refl } in
          becomes (Phase.BeforeTurn group op) (turned_from (Phase.BeforeTurn group op) w q reply over) (record (process w q) { at = phase_behind over group k })
          (to ∙ ap (λ (a : Phase). turned_from a w q reply over) stands) refl (inr (inl adds)) (λ i is. inr (sym (by_over over k i is), adds)) (λ g o is. absurd (never over k g o is)) store
      by_progress (TaskProgress.Decided reply) to = rests (Phase.BeforeTurn group op) w stands to refl refl store
      by_progress TaskProgress.Over to = rests (Phase.BeforeTurn group op) w stands to refl refl store
      by_progress (TaskProgress.Sleeping cause) to = rests (Phase.BeforeTurn group op) w stands to refl refl store
      by_progress (TaskProgress.Fault fault) to = rests (Phase.BeforeTurn group op) w stands to refl refl store

  finishes : (group k : ℕ) (r : Step) → (process w q).at ≡ Phase.AfterTurn group k → Finishes disk s w q group k r t z → To (Phase.AfterTurn group k)
  finishes group k r stands made = by_progress made.progress group refl made.world
    where
      store : LeavesStore q s t
      store = store_steps q s t disk _ made.progress made.steps

      told_here : (reply : Reply) → decided w q reply ≡ told_at (Some k) w reply
      told_here reply = ap (λ (a : Phase). told_at (entry_index a) w reply) stands

      tells : (reply : Reply) → TellsEntry (Phase.AfterTurn group k) w.journal.list (told_at (Some k) w reply).journal.list
      tells reply = record { index = k; reply = reply; at = refl; list = refl }

      over_here : over_at (process w q).at ≡ Phase.Ending group k
      over_here = ap over_at stands

      by_progress : (x : TaskProgress) (g : ℕ) → g ≡ group → z ≡ world_behind g x w q → To (Phase.AfterTurn group k)
      by_progress TaskProgress.Moved g same to = rests (Phase.AfterTurn group k) w stands to refl refl store
      by_progress (TaskProgress.Turned reply) g same to = rests (Phase.AfterTurn group k) w stands to refl refl store
      by_progress (TaskProgress.Decided reply) zero same to =
          becomes (Phase.AfterTurn group k) _ (record (process w q) { at = Phase.Idle; room = None }) (to ∙ ap (λ (o : World). Rattle.history.specs.Processes.answered o q) (told_here reply)) refl (inr (inr (tells reply))) (λ i no. absurd (cc no)) (λ g o is. absurd (cc is)) store
      by_progress (TaskProgress.Decided reply) (suc g) same to =
          becomes (Phase.AfterTurn group k) (told_at (Some k) w reply) (process w q) (to ∙ told_here reply) (sym (set-get_or w.processes q idle)) (inr (inr (tells reply))) (λ i at. inl (ap entry_index (sym stands) ∙ at)) (λ g o is. inr (sym stands)) store
      by_progress TaskProgress.Over zero same to =
          becomes (Phase.AfterTurn group k) _ (record (process w q) { at = Phase.Idle; room = None }) to refl (inl refl) (λ i no. absurd (cc no)) (λ g o is. absurd (cc is)) store
      by_progress TaskProgress.Over (suc g) same to =
          becomes (Phase.AfterTurn group k) _ (record (process w q) { at = over_at (process w q).at }) to refl (inl refl) (λ i at. inl (ap entry_index (sym over_here) ∙ at)) (λ g o is. absurd (let no = sym over_here ∙ is in cc no)) store
      by_progress (TaskProgress.Sleeping cause) g same to = rests (Phase.AfterTurn group k) w stands to refl refl store
      by_progress (TaskProgress.Fault fault) g same to = rests (Phase.AfterTurn group k) w stands to refl refl store

  ends : (group k : ℕ) (r : Step) → (process w q).at ≡ Phase.Ending group k → Ends s w q r t z → To (Phase.Ending group k)
  ends group k r stands made = by_answer (end_answer s.volume.log) made.world
    where
      committing_here : committing_at (process w q).at ≡ Phase.Committing group k
      committing_here = ap committing_at stands

      by_answer : (x : Ended) → z ≡ world_ended x w q → To (Phase.Ending group k)
      by_answer Ended.Commit to =
          becomes (Phase.Ending group k) _ (record (process w q) { at = committing_at (process w q).at }) to refl (inl refl) (λ i at. inl (ap entry_index (sym committing_here) ∙ at)) (λ g o is. absurd (let no = sym committing_here ∙ is in cc no)) (store_ended q s t made.store)
      by_answer Ended.Left to =
          becomes (Phase.Ending group k) _ (record (process w q) { at = Phase.Idle; room = None }) to refl (inl refl) (λ i no. absurd (cc no)) (λ g o is. absurd (cc is)) (store_ended q s t made.store)

  writes : (group k : ℕ) (r : Step) → (process w q).at ≡ Phase.Committing group k → Writes disk s w q r t z → To (Phase.Committing group k)
  writes group k r stands made = by_answer made.result made.world
    where
      store : LeavesStore q s t
      store = store_commits q s t disk made.result made.commits

      by_answer : (x : Committed) → z ≡ world_written x w q → To (Phase.Committing group k)
      by_answer Committed.More to = rests (Phase.Committing group k) w stands to refl refl store
      by_answer (Committed.Durable g) to = rests (Phase.Committing group k) w stands to refl refl store
      by_answer Committed.Done to =
          becomes (Phase.Committing group k) _ (record (process w q) { at = Phase.Idle; room = None }) to refl (inl refl) (λ i no. absurd (cc no)) (λ g o is. absurd (cc is)) store
      by_answer (Committed.Fault fault) to = rests (Phase.Committing group k) w stands to refl refl store

  turned_at : (a : Phase) (ahead : List Op) (side : Side) (b : Bool) (r : Step) → (process w q).at ≡ a → NextAt disk a s w q ahead side b r t z → To a
  turned_at Phase.Idle ahead side b r stands (inl heard) = rests Phase.Idle _ stands heard.world refl refl (store_same q s t heard.store)
  turned_at Phase.Idle ahead side b r stands (inr none) = begins (option_map (class_of s.table.inode_count) (first_in none.ahead)) none.ahead side r stands none.begins
  turned_at (Phase.BeforeTurn group op) ahead side b r stands next = works group op r stands next
  turned_at (Phase.AfterTurn group k) ahead side b r stands next = finishes group k r stands next
  turned_at (Phase.Ending group k) ahead side b r stands next = ends group k r stands next
  turned_at (Phase.Committing group k) ahead side b r stands next = writes group k r stands next

  pub turned_by : (o : Option DeviceFault) (ahead : List Op) (side : Side) (b : Bool) (r : Step) → NextIf disk o s w q ahead side b r t z → To (process w q).at
  turned_by None ahead side b r next = turned_at (process w q).at ahead side b r refl next
  turned_by (Some fault) ahead side b r next = rests (process w q).at w refl next.1.1 refl refl (store_same q s t next.1.0)
