-- Whose operation is over has its answer, for which there is room.
use Rattle.std.proofs.Common.{◌≡◌, ℕ, ◌<◌, true, false, List, set, refl, sym, ◌∙◌, ap, subst, Option, Some, None}
use Rattle.std.specs.Prelude.{IsSome, is_none}
use Rattle.kernel.specs.Common.{answer_at_commit, answer_at_end, answer_there, answered, behind_there, CanAnswer, decided, ending_there, Entry, entry_in, entry_inside, entry_index, entry_set, false≢true, files_of, form_of, Ghosts, HasEntry, HasFacts, inode_count_of, is_behind, is_busy_at, is_ending, IsBehind, IsEntry, IsItsRoom, IsRight, last_answer, Op, operation_at, Phase, process, replay, Reply, StandsAt, StoreState, task, TaskStands, told, told_at, view_of, where_none, World}

-- process p stands behind its turn, with its entry and its task
pub record IsThere {D : Type 0} (s : StoreState D) (w : World) (p : ℕ) : Type 0 where
  pub group : ℕ
  pub k : ℕ
  pub stands : (process w p).at ≡ Phase.AfterTurn group k
  pub entry : Entry
  pub has : HasEntry w.journal.list p k group entry
  pub its : IsBehind (task s.tasks p) entry

pub some_reply : (o : Option Reply) → is_none o ≡ false → IsSome o
some_reply None is = absurd (false≢true (sym is))
some_reply (Some r) is = refl

-- so it is in every kernel whose disk has not failed
module _ {D N : Type 0} (disk : Ghosts D N) (opening : D) (s : StoreState D) (w : World) (p : ℕ) (right : IsRight disk opening s w) (well : s.volume.fault ≡ None) where
  known_there : HasFacts disk.image (disk.image opening) s w
  known_there = where_none s.volume.fault well right.facts

  pub answer_ends : is_ending (process w p).at ≡ true → CanAnswer (last_answer w (process w p).at) (process w p).room
  answer_ends ends =
      let i = known_there.facts in
      let there = ending_there (process w p).at ends in
      answer_at_end (inode_count_of (disk.image opening)) (view_of disk.image s) (form_of (disk.image opening)) (files_of (disk.image opening)) i.follows.files w p there.0 there.1 i.follows.run i.journal.changing
      there.2 i.valid.log (i.stands p)

  pub answer_commits : (group k : ℕ) → (process w p).at ≡ Phase.Committing group k → 0 < group → CanAnswer (last_answer w (process w p).at) (process w p).room
  answer_commits group k stands later =
      let i = known_there.facts in
      answer_at_commit (inode_count_of (disk.image opening)) (view_of disk.image s) (form_of (disk.image opening)) (files_of (disk.image opening)) i.follows.files w p group k i.follows.run i.journal.changing
      stands later (i.stands p)

  pub is_there : is_behind (process w p).at ≡ true → IsThere s w p
  is_there behind =
      let there = behind_there (process w p).at behind in
      let stood : StandsAt (inode_count_of (disk.image opening)) (view_of disk.image s) w.journal.list p (Phase.AfterTurn there.0 there.1)
      = subst (λ (a : Phase). StandsAt (inode_count_of (disk.image opening)) (view_of disk.image s) w.journal.list p a) there.2 (known_there.facts.stands p) in
      let own : TaskStands w.journal.list (task s.tasks p) (Phase.AfterTurn there.0 there.1) = subst (λ (a : Phase). TaskStands w.journal.list (task s.tasks p) a) there.2 (right.paired.stand p).stands in
      record { group = there.0; k = there.1; stands = there.2; entry = stood.1.0; has = stood.1.1; its = own stood.1.0 stood.1.1.at }

  module _ (i : IsThere s w p) where
    -- the operation that is looked up is its task's
    pub op_is : (op : Op) → Some op ≡ operation_at w (entry_index (process w p).at) → op ≡ (entry_in w.journal.list i.k).op
    op_is op is = let both : Some op ≡ Some (entry_in w.journal.list i.k).op = is ∙ ap (λ (a : Phase). operation_at w (entry_index a)) i.stands in cc both

    pub mine_is : (op : Op) → Some op ≡ operation_at w (entry_index (process w p).at) → (task s.tasks p).op ≡ Some op
    mine_is op is = i.its.same ∙ ap (λ (e : Entry). Some e.op) (sym (entry_inside w.journal.list i.k i.entry i.has.at)) ∙ ap (λ (o : Op). Some o) (sym (op_is op is))

    its_room : IsItsRoom (Some i.entry.op) (process w p).room
    its_room = subst (λ (o : Option Op). IsItsRoom o (process w p).room) i.its.same ((right.paired.stand p).room_is (ap is_busy_at i.stands))

    -- who has its reply can be answered
    pub answer_over : IsSome i.entry.reply → CanAnswer (last_answer w (process w p).at) (process w p).room
    answer_over some =
        let f = known_there.facts.follows in
        subst (λ (a : Phase). CanAnswer (last_answer w a) (process w p).room) (sym i.stands)
        (answer_there (form_of (disk.image opening)) (files_of (disk.image opening)) f.files w.journal.list i.k i.entry (process w p).room f.run i.has.at some its_room)

    -- and who was told it
    pub answer_told : (reply : Reply) (t : StoreState D) → t.volume.fault ≡ None → IsRight disk opening t (answered (decided w p reply) p)
        → CanAnswer (last_answer (decided w p reply) (process (decided w p reply) p).at) (process (decided w p reply) p).room
    answer_told reply t still now =
        let y = told_at (Some i.k) w reply in
        let same : decided w p reply ≡ y = ap (λ (a : Phase). told_at (entry_index a) w reply) i.stands in
        let f = (where_none t.volume.fault still now.facts).facts.follows in
        let run : replay (form_of (disk.image opening)) (files_of (disk.image opening)) (Rattle.model.specs.Journal.answered y.journal.list) ≡ Some f.files
        = subst (λ (o : World). replay (form_of (disk.image opening)) (files_of (disk.image opening)) (Rattle.model.specs.Journal.answered o.journal.list) ≡ Some f.files) same f.run in
        let list : y.journal.list ≡ set w.journal.list i.k (told i.entry reply) = ap (λ (e : Entry). set w.journal.list i.k (told e reply)) (entry_inside w.journal.list i.k i.entry i.has.at) in
        let there : IsEntry y.journal.list i.k (told i.entry reply) = subst (λ (l : List Entry). IsEntry l i.k (told i.entry reply)) (sym list) (entry_set w.journal.list i.k i.entry (told i.entry reply) i.has.at) in
        subst (λ (o : World). CanAnswer (last_answer o (process o p).at) (process o p).room) (sym same)
        (subst (λ (a : Phase). CanAnswer (last_answer y a) (process w p).room) (sym i.stands)
        (answer_there (form_of (disk.image opening)) (files_of (disk.image opening)) f.files y.journal.list i.k (told i.entry reply) (process w p).room run there refl its_room))
