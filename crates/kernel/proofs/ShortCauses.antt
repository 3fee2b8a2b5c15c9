-- The cause of a short write: what the turns of a run saw.
use Rattle.std.proofs.Common.{◌≡◌, ◌≢◌, ◌⊎◌, ◌<◌, ◌≤◌, inl, inr, ℕ, zero, suc, Bool, true, false, cond, ltb, List, [], ◌∷◌, ◌++◌, length, set, refl, sym, ◌∙◌, ap, subst, ⊎_elim, arith, Option, Some, None}
use Rattle.blocks.specs.declared.disk.Disk as disk_trait
use Rattle.inodes.specs.Lemmas.WriteRuns.{IsGoingOn}
use Rattle.inodes.specs.WriteRuns.{SeesFull}
use Rattle.inodes.specs.Writei.{WriteState}
use Rattle.inodes.specs.declared.writei.Extent.{Extent}
use Rattle.ports.specs.declared.herald.Herald as herald_trait
use Rattle.ports.specs.declared.intake.Intake as intake_trait
use Rattle.kernel.specs.Causes.{ShortHasCause, SomeTurnMakes, TurnMakes}
use Rattle.kernel.specs.Known.{Known}
use Rattle.std.specs.Option.{option_map}
use Rattle.kernel.specs.Common.{at_once_reply, ats_of, Becomes, BeginsWith, BeginsWriting, cases_eq, cases_lt, decided, DeviceFault, Entry, entry_inside, entry_more, entry_new, entry_of, entry_index, entry_same, entry_set, entry_set_other, Extends, extent_of, Finishes, first_in, Form, idle, is_over, IsEntry, length-append, MakesStep, NextAt, NextIf, NoFile, Op, others_stay, Owed, Phase, phase_behind, Proc, Process, process, refusal, Reply, Session, Shut, Side, Stage, State, Step, Steps, StoreState, task, TaskProgress, TaskState, there_now, told, told_at, TooLong, transfer_limit, Turn, turned_from, class_of, with_ports, with_shutdown, Works, World, world_after, world_behind, Write, write_sees, write_turns, WritesOn, Wrote}
use Rattle.kernel.proofs.Causes.{Added, added, becomes_now, extends_entry, last_same, none_past, reply_before, runs_extend, same_op, same_pid, turned}
use Rattle.kernel.proofs.Turned.{AddsEntry, JournalBy, Turned}

-- ---- each process has its own entry

-- the entry at an index is that of process q
record HasOwn (q : ℕ) (es : List Entry) (i : ℕ) : Type 0 where
  pub entry : Entry
  pub at : IsEntry es i entry
  pub mine : entry.pid ≡ q

abbrev HaveEntries : World → Type 0
HaveEntries w = (q i : ℕ) → entry_index (process w q).at ≡ Some i → HasOwn q w.journal.list i

own_later : (q i : ℕ) (es fs : List Entry) → Extends es fs → HasOwn q es i → HasOwn q fs i
own_later q i es fs more has =
    let on = extends_entry es fs i has.entry more has.at in
    record { entry = on.0; at = on.1; mine = same_pid has.entry on.0 on.2 ∙ has.mine }

own_owed : (q i : ℕ) (a : Phase) (es given : List Entry) → Owed a q es given → entry_index a ≡ Some i → HasOwn q es i
own_owed q i Phase.Idle es given owed is = absurd (cc is)
own_owed q i (Phase.BeforeTurn group op) es given owed is = absurd (cc is)
own_owed q i (Phase.AfterTurn group k) es given owed is = let same : k ≡ i = cc is in record { entry = owed.entry; at = subst (λ (n : ℕ). IsEntry es n owed.entry) same owed.at; mine = owed.mine }
own_owed q i (Phase.Ending group k) es given owed is = let same : k ≡ i = cc is in record { entry = owed.entry; at = subst (λ (n : ℕ). IsEntry es n owed.entry) same owed.at; mine = owed.mine }
own_owed q i (Phase.Committing group k) es given owed is = let same : k ≡ i = cc is in record { entry = owed.entry; at = subst (λ (n : ℕ). IsEntry es n owed.entry) same owed.at; mine = owed.mine }

own_idle : (w : World) (q i : ℕ) → process w q ≡ idle → entry_index (process w q).at ≡ Some i → ⊥
own_idle w q i same is = let no = ap (λ (u : Process). entry_index u.at) (sym same) ∙ is in cc no

-- and keeps it through any turn
have_stays : {D : Type 0} (q : ℕ) (s t : StoreState D) (w z : World) → Turned q (process w q).at s w t z → Extends w.journal.list z.journal.list → HaveEntries w → HaveEntries z
have_stays q s t w z turn more have p i at = by_process (cases_eq p q)
  where
    own_now : entry_index turn.now.at ≡ Some i → HasOwn q z.journal.list i
    own_now is = by_place (turn.places i is)
      where
        by_place : (entry_index (process w q).at ≡ Some i) ⊎ ((i ≡ length w.journal.list) × AddsEntry q (process w q).at w.journal.list z.journal.list) → HasOwn q z.journal.list i
        by_place (inl was) = own_later q i w.journal.list z.journal.list more (have q i was)
        by_place (inr new) = record {
          entry = new.1.entry;
          at = subst (λ (l : List Entry). IsEntry l i new.1.entry) (sym new.1.list) (subst (λ (n : ℕ). IsEntry (w.journal.list ++ new.1.entry ∷ []) n new.1.entry) (sym new.0) (entry_new w.journal.list new.1.entry));
          mine = new.1.mine;
        }

    by_now : (process z q ≡ turn.now) ⊎ (process z q ≡ idle) → entry_index (process z q).at ≡ Some i → HasOwn q z.journal.list i
    by_now (inl same) is = own_now (ap (λ (u : Process). entry_index u.at) (sym same) ∙ is)
    by_now (inr same) is = absurd (own_idle z q i same is)

    by_process : (p ≡ q) ⊎ (p ≢ q) → HasOwn p z.journal.list i
    by_process (inl same) = subst (λ (n : ℕ). HasOwn n z.journal.list i) (sym same) (by_now (becomes_now w z q turn.now turn.processes) (subst (λ (n : ℕ). entry_index (process z n).at ≡ Some i) same at))
    by_process (inr apart) = own_later p i w.journal.list z.journal.list more (have p i (ap (λ (u : Process). entry_index u.at) (sym (others_stay w z q turn.now turn.processes p apart)) ∙ at))

module _ {D N I M H : Type 0} (disk : disk_trait.Ghosts D N) (intake : intake_trait.Ghosts I M) (herald : herald_trait.Ghosts H) where
  have_known : (k : State D I H) → Known disk intake herald k → HaveEntries k.world
  have_known k known q i is = ⊎_elim
      (λ (lt : q < length k.world.processes). let has = known.histories q lt in own_owed q i (process k.world q).at k.world.journal.list has.is.answered has.is.owed is)
      (λ (past : length k.world.processes ≤ q). absurd (own_idle k.world q i (none_past k.world q past) is))
      (cases_lt q (length k.world.processes))

  module _ (p i off done : ℕ) (bytes : List ℕ) (e : Extent) (short : done < length bytes) where
    abbrev op : Op
    op = Write i off bytes

    -- the write of process p, whose entry stands there, goes on behind its turn
    record StillWrites (s : StoreState D) (w : World) (at_index : ℕ) : Type 0 where
      pub group : ℕ
      pub stands : (process w p).at ≡ Phase.AfterTurn group at_index
      pub entry : Entry
      pub there : IsEntry w.journal.list at_index entry
      pub mine : entry.pid ≡ p
      pub asked : entry.op ≡ op
      pub untold : entry.reply ≡ None
      pub number : ℕ
      pub writing : WriteState
      pub at : (task s.tasks p).stage ≡ Stage.Writing number writing
      pub on : IsGoingOn e (length bytes) writing

    -- it was told another reply
    record IsToldOther (w : World) (at_index : ℕ) : Type 0 where
      pub entry : Entry
      pub reply : Reply
      pub there : IsEntry w.journal.list at_index (told entry reply)
      pub other : reply ≢ Wrote done

    abbrev Saw : StoreState D → StoreState D → Type 0
    Saw s u = TurnMakes disk (SeesFull disk.image p e) p (Proc p) s u

    module _ (s t : StoreState D) (w z : World) (at_index : ℕ) where
      abbrev Then : Type 0
      Then = Saw s t ⊎ (StillWrites t z at_index ⊎ IsToldOther z at_index)

      -- nothing of it changed
      still : (was : StillWrites s w at_index) → (process z p).at ≡ (process w p).at → IsEntry z.journal.list at_index was.entry → (task t.tasks p).stage ≡ (task s.tasks p).stage → StillWrites t z at_index
      still was stands there same = record { group = was.group; stands = stands ∙ was.stands; entry = was.entry; there = there; mine = was.mine; asked = was.asked; untold = was.untold; number = was.number; writing = was.writing; at = same ∙ was.at; on = was.on }

      -- a turn of another process
      theirs : (q : ℕ) → q ≢ p → HaveEntries w → Turned q (process w q).at s w t z → StillWrites s w at_index → StillWrites t z at_index
      theirs q apart have turn was =
          still was (ap (λ (u : Process). u.at) (others_stay w z q turn.now turn.processes p (λ e. apart (sym e)))) (by_journal turn.journal)
          (ap (λ (u : TaskState). u.stage) (turn.store.tasks p (λ e. apart (sym e))))
        where
          by_journal : JournalBy q (process w q).at w.journal.list z.journal.list → IsEntry z.journal.list at_index was.entry
          by_journal (inl same) = subst (λ (l : List Entry). IsEntry l at_index was.entry) (sym same) was.there
          by_journal (inr (inl adds)) = subst (λ (l : List Entry). IsEntry l at_index was.entry) (sym adds.list) (entry_more w.journal.list at_index was.entry adds.entry was.there)
          by_journal (inr (inr tells)) =
              let own = have q tells.index tells.at in
              subst (λ (l : List Entry). IsEntry l at_index was.entry) (sym tells.list)
              (entry_set_other w.journal.list at_index tells.index was.entry own.entry _ was.there own.at (λ same. apart (sym own.mine ∙ sym same ∙ was.mine)))

      -- its own
      finishes : (group : ℕ) (r : Step) (was : StillWrites s w at_index) → (process w p).at ≡ Phase.AfterTurn group at_index → Finishes disk s w p group at_index r t z → Then
      finishes group r was stands made = ⊎_elim
          (λ saw. inl (record { turn = refl; op = op; answer = made.progress; steps = steps; holds = saw }))
          (λ on. inr (by_progress made.progress made.world on))
          (write_sees disk p was.number (length bytes) done e op short (record { before = s; answer = made.progress; after = t }) was.writing was.at was.on steps)
        where
          steps : Steps disk s p op made.progress t
          steps = subst (λ (o : Op). Steps disk s p o made.progress t) (ap (λ (x : Entry). x.op) (entry_inside w.journal.list at_index was.entry was.there) ∙ was.asked) made.steps

          goes : (x : TaskProgress) → z ≡ w → ((reply : Reply) → x ≢ TaskProgress.Decided reply) → WritesOn p was.number (length bytes) done e (record { before = s; answer = x; after = t }) → StillWrites t z at_index
          goes x same undecided on = by_next on.next
            where
              by_next : ((reply : Reply) × (x ≡ TaskProgress.Decided reply)) ⊎ ((m : WriteState) × ((task t.tasks p).stage ≡ Stage.Writing was.number m) × IsGoingOn e (length bytes) m) → StillWrites t z at_index
              by_next (inl is) = absurd (undecided is.0 is.1)
              by_next (inr is) = record {
                group = group;
                stands = ap (λ (o : World). (process o p).at) same ∙ stands;
                entry = was.entry;
                there = subst (λ (o : World). IsEntry o.journal.list at_index was.entry) (sym same) was.there;
                mine = was.mine;
                asked = was.asked;
                untold = was.untold;
                number = was.number;
                writing = is.0;
                at = is.1;
                on = is.2;
              }

          tells : (reply : Reply) (o : World) → z ≡ o → o.journal.list ≡ (decided w p reply).journal.list → reply ≢ Wrote done → IsToldOther z at_index
          tells reply o to list other =
              let here : decided w p reply ≡ told_at (Some at_index) w reply = ap (λ (a : Phase). told_at (entry_index a) w reply) stands in
              let now : z.journal.list ≡ set w.journal.list at_index (told was.entry reply) =
              ap (λ (v : World). v.journal.list) to ∙ list ∙ ap (λ (v : World). v.journal.list) here
              ∙ ap (λ (x : Entry). set w.journal.list at_index (told x reply)) (entry_inside w.journal.list at_index was.entry was.there) in
              record {
                entry = was.entry;
                reply = reply;
                there = subst (λ (l : List Entry). IsEntry l at_index (told was.entry reply)) (sym now) (entry_set w.journal.list at_index was.entry (told was.entry reply) was.there);
                other = other;
              }

          by_group : (g : ℕ) (reply : Reply) → z ≡ world_behind g (TaskProgress.Decided reply) w p → reply ≢ Wrote done → IsToldOther z at_index
          by_group zero reply to other = tells reply _ to refl other
          by_group (suc g) reply to other = tells reply _ to refl other

          by_progress : (x : TaskProgress) → z ≡ world_behind group x w p → WritesOn p was.number (length bytes) done e (record { before = s; answer = x; after = t }) → StillWrites t z at_index ⊎ IsToldOther z at_index
          by_progress TaskProgress.Moved to on = inl (goes TaskProgress.Moved to (λ r e. cc e) on)
          by_progress (TaskProgress.Turned reply) to on = inl (goes (TaskProgress.Turned reply) to (λ r e. cc e) on)
          by_progress (TaskProgress.Decided reply) to on = inr (by_group group reply to (λ same. on.other (ap TaskProgress.Decided same)))
          by_progress TaskProgress.Over to on = absurd (on.unfinished refl)
          by_progress (TaskProgress.Sleeping why) to on = inl (goes (TaskProgress.Sleeping why) to (λ r e. cc e) on)
          by_progress (TaskProgress.Fault fault) to on = inl (goes (TaskProgress.Fault fault) to (λ r e. cc e) on)

      own_turn : (o : Option DeviceFault) (ahead : List Op) (side : Side) (b : Bool) (r : Step) → StillWrites s w at_index → NextIf disk o s w p ahead side b r t z → Then
      own_turn None ahead side b r was next = finishes was.group r was was.stands (subst (λ (a : Phase). NextAt disk a s w p ahead side b r t z) was.stands next)
      own_turn (Some fault) ahead side b r was next = inr (inl (still was (ap (λ (o : World). (process o p).at) next.1.1)
          (subst (λ (o : World). IsEntry o.journal.list at_index was.entry) (sym next.1.1) was.there) (ap (λ (o : StoreState D). (task o.tasks p).stage) next.1.0)))

    -- a run saw that no block was left, where such a write is answered with too few bytes
    behind_in_run : (ts : List Turn) (k m : State D I H) (run : Session disk intake herald ts k m) (at_index : ℕ) (f : Entry) → HaveEntries k.world → StillWrites k.store k.world at_index → IsEntry m.world.journal.list at_index f → f.reply ≡ Some (Wrote done)
        → SomeTurnMakes disk intake herald (SeesFull disk.image p e) p ts k m run
    behind_in_run [] k m run at_index f have was stands has =
        let same : was.entry ≡ f = entry_same k.world.journal.list at_index was.entry f was.there (subst (λ (o : State D I H). IsEntry o.world.journal.list at_index f) run.2 stands) in
        cc (sym was.untold ∙ ap (λ (x : Entry). x.reply) same ∙ has)
    behind_in_run (Shut ∷ ts) k m run at_index f have was stands has =
        let back : with_shutdown (with_ports k run.1.0 run.1.1) ≡ run.0 = sym run.1.2 in
        let here : StillWrites (with_shutdown k).store (with_shutdown k).world at_index = still k.store k.store k.world (with_shutdown k).world at_index was refl was.there refl in
        inr (behind_in_run ts run.0 m run.2 at_index f
        (subst (λ (o : State D I H). HaveEntries o.world) back have)
        (subst (λ (o : State D I H). StillWrites o.store o.world at_index) back here) stands has)
    behind_in_run (Proc q ∷ ts) k m run at_index f have was stands has =
        by_process (λ now. behind_in_run ts run.0 m run.2 at_index f (have_stays q k.store run.0.store k.world run.0.world turn run.1.2.1.progress.grows.journal have) now stands has) (cases_eq q p)
      where
        mid : State D I H
        mid = run.0

        turn : Turned q (ats_of k.world q) k.store k.world run.0.store run.0.world
        turn = turned disk intake herald q run.1.2.0 (with_ports k run.1.0 run.1.1) run.0 run.1.2.1

        told_other : IsToldOther mid.world at_index → ⊥
        told_other other = by_entry (extends_entry mid.world.journal.list m.world.journal.list at_index (told other.entry other.reply) (runs_extend disk intake herald ts mid m run.2) other.there)
          where
            by_entry : (g : Entry) × IsEntry m.world.journal.list at_index g × Becomes (told other.entry other.reply) g → ⊥
            by_entry (g, at, becomes) = by_reply (reply_before (told other.entry other.reply) f (Wrote done) (subst (Becomes (told other.entry other.reply)) (entry_same m.world.journal.list at_index g f at stands) becomes) has)
              where
                by_reply : (Some other.reply ≡ Some (Wrote done)) ⊎ (Some other.reply ≡ None) → ⊥
                by_reply (inl same) = other.other (cc same)
                by_reply (inr none) = cc none

        by_process : (StillWrites mid.store mid.world at_index → SomeTurnMakes disk intake herald (SeesFull disk.image p e) p ts mid m run.2) → (q ≡ p) ⊎ (q ≢ p) → SomeTurnMakes disk intake herald (SeesFull disk.image p e) p (Proc q ∷ ts) k m run
        by_process rest (inr apart) = inr (rest (theirs k.store mid.store k.world mid.world at_index q apart have turn was))
        by_process rest (inl same) = by_own (own_turn k.store mid.store k.world mid.world at_index k.store.volume.fault _ _ _ made.0 was made.1.acts.next)
          where
            made : (r : Step) × MakesStep disk intake herald p r (with_ports k run.1.0 run.1.1) mid
            made = subst (λ (o : ℕ). (r : Step) × MakesStep disk intake herald o r (with_ports k run.1.0 run.1.1) mid) same run.1.2

            by_own : Then k.store mid.store k.world mid.world at_index → SomeTurnMakes disk intake herald (SeesFull disk.image p e) p (Proc q ∷ ts) k m run
            by_own (inl saw) = inl (subst (λ (o : ℕ). TurnMakes disk (SeesFull disk.image p e) p (Proc o) k.store mid.store) (sym same) saw)
            by_own (inr (inl now)) = inr (rest now)
            by_own (inr (inr other)) = absurd (told_other other)

    -- ---- its turn

    module _ (s t : StoreState D) (w z : World) (extent : extent_of s.table.form s.table.inode_count s.volume.log.size ≡ e) where
      abbrev Adds : Type 0
      Adds = AddsEntry p (process w p).at w.journal.list z.journal.list

      abbrev Starts : Entry → Type 0
      Starts x = x.pid ≡ p → x.op ≡ op → (x.reply ≡ Some (Wrote done)) ⊎ (x.reply ≡ None) → IsEntry z.journal.list (length w.journal.list) x → StillWrites t z (length w.journal.list)

      none_added : z.journal.list ≡ w.journal.list → Adds → ⊥
      none_added same adds =
          omega (arith, (ap length (sym same ∙ adds.list) ∙ length-append w.journal.list (adds.entry ∷ [])))

      starts : (group : ℕ) (reply : Option Reply) → (process w p).at ≡ Phase.BeforeTurn group op → Steps disk s p op (TaskProgress.Turned reply) t → z ≡ turned_from (Phase.BeforeTurn group op) w p reply (is_over (task t.tasks p).stage) → Starts (entry_of p (process w p).begun op group reply)
      starts group reply stands steps to mine asked has there = by_reply has
        where
          lt : p < length w.processes
          lt = ⊎_elim (λ (low : p < length w.processes). low)
              (λ (past : length w.processes ≤ p). absurd (let no = sym (ap (λ (u : Process). u.at) (none_past w p past)) ∙ stands in cc no))
              (cases_lt p (length w.processes))

          by_reply : (reply ≡ Some (Wrote done)) ⊎ (reply ≡ None) → StillWrites t z (length w.journal.list)
          by_reply (inl wrote) = absurd ((write_turns disk s p i off bytes t reply steps).other done wrote)
          by_reply (inr none) =
              let b : BeginsWriting p i (length bytes) e t = subst (λ (x : Extent). BeginsWriting p i (length bytes) x t) extent ((write_turns disk s p i off bytes t reply steps).begins none) in
              let more : is_over (task t.tasks p).stage ≡ false = ap is_over b.stands in
              let here : process z p ≡ record (process w p) { at = phase_behind (is_over (task t.tasks p).stage) group (length w.journal.list) } =
              there_now w z p _ (ap (λ (o : World). o.processes) to) lt in
              record {
                group = group;
                stands = ap (λ (u : Process). u.at) here ∙ ap (λ (over : Bool). phase_behind over group (length w.journal.list)) more;
                entry = entry_of p (process w p).begun op group reply;
                there = there;
                mine = mine;
                asked = asked;
                untold = none;
                number = b.entry;
                writing = b.writing;
                at = b.stands;
                on = b.on;
              }

      works : (group : ℕ) (o : Op) (r : Step) → (process w p).at ≡ Phase.BeforeTurn group o → Works disk s w p o r t z → (adds : Adds) → Starts adds.entry
      works group o r stands made adds mine asked has there = by_progress made.progress made.steps made.world
        where
          by_progress : (x : TaskProgress) → Steps disk s p o x t → z ≡ world_after x (is_over (task t.tasks p).stage) w p → StillWrites t z (length w.journal.list)
          by_progress TaskProgress.Moved steps to = absurd (none_added (ap (λ (v : World). v.journal.list) to) adds)
          by_progress (TaskProgress.Turned reply) steps to =
              let now = to ∙ ap (λ (a : Phase). turned_from a w p reply (is_over (task t.tasks p).stage)) stands in
              let is : entry_of p (process w p).begun o group reply ≡ adds.entry = last_same w.journal.list _ adds.entry (sym (ap (λ (v : World). v.journal.list) now) ∙ adds.list) in
              let same : o ≡ op = ap (λ (x : Entry). x.op) is ∙ asked in
              let back : adds.entry ≡ entry_of p (process w p).begun op group reply = sym is ∙ ap (λ (q : Op). entry_of p (process w p).begun q group reply) same in
              starts group reply (stands ∙ ap (Phase.BeforeTurn group) same) (subst (λ (q : Op). Steps disk s p q (TaskProgress.Turned reply) t) same steps)
              (now ∙ ap (λ (q : Op). turned_from (Phase.BeforeTurn group q) w p reply (is_over (task t.tasks p).stage)) same)
              refl refl (subst (λ (x : Entry). (x.reply ≡ Some (Wrote done)) ⊎ (x.reply ≡ None)) back has) (subst (λ (x : Entry). IsEntry z.journal.list (length w.journal.list) x) back there)
          by_progress (TaskProgress.Decided reply) steps to = absurd (none_added (ap (λ (v : World). v.journal.list) to) adds)
          by_progress TaskProgress.Over steps to = absurd (none_added (ap (λ (v : World). v.journal.list) to) adds)
          by_progress (TaskProgress.Sleeping why) steps to = absurd (none_added (ap (λ (v : World). v.journal.list) to) adds)
          by_progress (TaskProgress.Fault fault) steps to = absurd (none_added (ap (λ (v : World). v.journal.list) to) adds)

      never_refused : (b : Bool) → (cond b TooLong NoFile) ≡ Wrote done → ⊥
      never_refused true is = cc is
      never_refused false is = cc is

      refuses : (o : Op) (adds : Adds) → refusal w p o (at_once_reply o) ≡ adds.entry → Starts adds.entry
      refuses o adds is mine asked has there = absurd (by_reply has)
        where
          same : o ≡ op
          same = ap (λ (x : Entry). x.op) is ∙ asked

          tells : Some (cond (ltb transfer_limit (length bytes)) TooLong NoFile) ≡ adds.entry.reply
          tells = ap (λ (q : Op). Some (at_once_reply q)) (sym same) ∙ ap (λ (x : Entry). x.reply) is

          by_reply : (adds.entry.reply ≡ Some (Wrote done)) ⊎ (adds.entry.reply ≡ None) → ⊥
          by_reply (inl wrote) = let both = tells ∙ wrote in never_refused (ltb transfer_limit (length bytes)) (cc both)
          by_reply (inr none) = let both = tells ∙ none in cc both

      starts_at : (a : Phase) (ahead : List Op) (side : Side) (b : Bool) (r : Step) → (process w p).at ≡ a → NextAt disk a s w p ahead side b r t z → (adds : Adds) → Starts adds.entry
      starts_at Phase.Idle ahead side b r stands (inl heard) adds = absurd (none_added (ap (λ (v : World). v.journal.list) heard.world) adds)
      starts_at Phase.Idle ahead side b r stands (inr none) adds = by_begins none.begins
        where
          by_begins : BeginsWith (option_map (class_of s.table.inode_count) (first_in none.ahead)) s w p none.ahead side r t z → Starts adds.entry
          by_begins (inl made) = absurd (none_added (ap (λ (v : World). v.journal.list) made.world) adds)
          by_begins (inr (inl made)) = absurd (none_added (ap (λ (v : World). v.journal.list) made.world) adds)
          by_begins (inr (inr (inl made))) = refuses made.op adds (last_same w.journal.list _ adds.entry (sym (ap (λ (v : World). v.journal.list) made.world) ∙ adds.list))
          by_begins (inr (inr (inr made))) = absurd (none_added (ap (λ (v : World). v.journal.list) made.same.1) adds)
      starts_at (Phase.BeforeTurn group o) ahead side b r stands next adds = works group o r stands next adds
      starts_at (Phase.AfterTurn group k) ahead side b r stands next adds = absurd (late adds.from)
        where
          late : ((process w p).at ≡ Phase.Idle) ⊎ ((g : ℕ) × (o : Op) × ((process w p).at ≡ Phase.BeforeTurn g o)) → ⊥
          late (inl is) = let no = sym stands ∙ is in cc no
          late (inr is) = let no = sym stands ∙ is.2 in cc no
      starts_at (Phase.Ending group k) ahead side b r stands next adds = absurd (late adds.from)
        where
          late : ((process w p).at ≡ Phase.Idle) ⊎ ((g : ℕ) × (o : Op) × ((process w p).at ≡ Phase.BeforeTurn g o)) → ⊥
          late (inl is) = let no = sym stands ∙ is in cc no
          late (inr is) = let no = sym stands ∙ is.2 in cc no
      starts_at (Phase.Committing group k) ahead side b r stands next adds = absurd (late adds.from)
        where
          late : ((process w p).at ≡ Phase.Idle) ⊎ ((g : ℕ) × (o : Op) × ((process w p).at ≡ Phase.BeforeTurn g o)) → ⊥
          late (inl is) = let no = sym stands ∙ is in cc no
          late (inr is) = let no = sym stands ∙ is.2 in cc no

      starts_by : (o : Option DeviceFault) (ahead : List Op) (side : Side) (b : Bool) (r : Step) → NextIf disk o s w p ahead side b r t z → (adds : Adds) → Starts adds.entry
      starts_by None ahead side b r next adds = starts_at (process w p).at ahead side b r refl next adds
      starts_by (Some fault) ahead side b r next adds = absurd (none_added (ap (λ (v : World). v.journal.list) next.1.1) adds)

    short_in_run : (ts : List Turn) (k m : State D I H) (run : Session disk intake herald ts k m) (at_index : ℕ) (f : Entry) → HaveEntries k.world → extent_of k.store.table.form k.store.table.inode_count k.store.volume.log.size ≡ e
        → length k.world.journal.list ≤ at_index → IsEntry m.world.journal.list at_index f → f.pid ≡ p → f.op ≡ op → f.reply ≡ Some (Wrote done)
        → SomeTurnMakes disk intake herald (SeesFull disk.image p e) p ts k m run
    short_in_run [] k m run at_index f have extent later stands mine asked has =
        omega (arith, stands.inside, (ap (λ (o : State D I H). length o.world.journal.list) run.2), later)
    short_in_run (Shut ∷ ts) k m run at_index f have extent later stands mine asked has =
        let back : with_shutdown (with_ports k run.1.0 run.1.1) ≡ run.0 = sym run.1.2 in
        inr (short_in_run ts run.0 m run.2 at_index f
        (subst (λ (o : State D I H). HaveEntries o.world) back have)
        (subst (λ (o : State D I H). extent_of o.store.table.form o.store.table.inode_count o.store.volume.log.size ≡ e) back extent)
        (subst (λ (o : State D I H). length o.world.journal.list ≤ at_index) back later) stands mine asked has)
    short_in_run (Proc q ∷ ts) k m run at_index f have extent later stands mine asked has =
        inr (by_list (λ low. short_in_run ts run.0 m run.2 at_index f now same_extent low stands mine asked has) (added q (ats_of k.world q) k.world.journal.list run.0.world.journal.list m.world.journal.list at_index f turn.journal (runs_extend disk intake herald ts run.0 m run.2) later stands))
      where
        mid : State D I H
        mid = run.0

        turn : Turned q (ats_of k.world q) k.store k.world run.0.store run.0.world
        turn = turned disk intake herald q run.1.2.0 (with_ports k run.1.0 run.1.1) run.0 run.1.2.1

        now : HaveEntries run.0.world
        now = have_stays q k.store run.0.store k.world run.0.world turn run.1.2.1.progress.grows.journal have

        same_extent : extent_of run.0.store.table.form run.0.store.table.inode_count run.0.store.volume.log.size ≡ e
        same_extent =
            ap (λ (f : Form). extent_of f run.0.store.table.inode_count run.0.store.volume.log.size) turn.store.form
            ∙ ap (λ (n : ℕ). extent_of k.store.table.form n run.0.store.volume.log.size) turn.store.numbers
            ∙ ap (extent_of k.store.table.form k.store.table.inode_count) turn.store.size ∙ extent

        by_list : (length mid.world.journal.list ≤ at_index → SomeTurnMakes disk intake herald (SeesFull disk.image p e) p ts mid m run.2) → (length mid.world.journal.list ≤ at_index) ⊎ Added q (ats_of k.world q) k.world.journal.list mid.world.journal.list at_index f → SomeTurnMakes disk intake herald (SeesFull disk.image p e) p ts mid m run.2
        by_list rest (inl low) = rest low
        by_list rest (inr new) = behind_in_run ts mid m run.2 at_index f now
            (subst (StillWrites mid.store mid.world) (sym new.here)
            (starts_by k.store mid.store k.world mid.world extent k.store.volume.fault _ _ _ made.0 made.1.acts.next adds
            (ap (λ (x : Entry). x.pid) is ∙ sym (same_pid new.adds.entry f new.becomes) ∙ mine)
            (ap (λ (x : Entry). x.op) is ∙ sym (same_op new.adds.entry f new.becomes) ∙ asked)
            (subst (λ (x : Entry). (x.reply ≡ Some (Wrote done)) ⊎ (x.reply ≡ None)) (sym is) (reply_before new.adds.entry f (Wrote done) new.becomes has))
            (subst (λ (l : List Entry). IsEntry l (length k.world.journal.list) adds.entry) (sym adds.list) (entry_new k.world.journal.list adds.entry))))
            stands has
          where
            same : q ≡ p
            same = sym new.adds.mine ∙ sym (same_pid new.adds.entry f new.becomes) ∙ mine

            made : (r : Step) × MakesStep disk intake herald p r (with_ports k run.1.0 run.1.1) mid
            made = subst (λ (o : ℕ). (r : Step) × MakesStep disk intake herald o r (with_ports k run.1.0 run.1.1) mid) same run.1.2

            adds : AddsEntry p (process k.world p).at k.world.journal.list mid.world.journal.list
            adds = subst (λ (o : ℕ). AddsEntry o (process k.world o).at k.world.journal.list mid.world.journal.list) same new.adds

            is : adds.entry ≡ new.adds.entry
            is = last_same k.world.journal.list adds.entry new.adds.entry (sym adds.list ∙ new.adds.list)

  pub short_has_cause : ShortHasCause disk intake herald
  short_has_cause ts k m run p i off done bytes known told short =
      short_in_run p i off done bytes (extent_of k.store.table.form k.store.table.inode_count k.store.volume.log.size) short ts k m run told.index told.entry
      (have_known k known) refl told.later told.stands told.mine told.same told.told
