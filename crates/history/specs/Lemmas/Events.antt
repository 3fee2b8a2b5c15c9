-- Each step of a task keeps what is true of every kernel.
use Rattle.std.proofs.Common.{◌≡◌, ◌≢◌, ⊎_elim, ℕ, zero, suc, ◌<◌, Bool, true, false, not, ◌&&◌, ltb, List, [], ◌∷◌, ◌++◌, length, set, refl, sym, ◌∙◌, ap, subst, arith, Option, Some, None}
use Rattle.std.specs.Prelude.{is_some}
use Rattle.history.specs.Common.{answered, at_once_is_not_changing, cases_eq, Decides, Entry, file_in-files_of_zero, files_of, Follows, form_of, HasEntry, Held, Image, in_reads, InGroup, inode_count_of, is_at_once, is_changing, is_making, is_number, is_writing, IsEntry, IsIn, IsJournal, IsValidView, KernelFacts, Leaves, LeavesRest, length-files_of, LogState, ltb-true, Marks, Moves, number_of, Op, Opens, Phase, replay, replay_more, Reply, SameGroups, StandsAt, Survives, Takes, told, Turns, View}
use Rattle.history.specs.Journal.{entry_of}
use Rattle.history.specs.AtOnce.{at_once_reply}
use Rattle.history.specs.Lemmas.AtOnce.{at_once_apart, at_once_takes, unmade}
use Rattle.history.specs.Lemmas.Following.{answered_some, follows_moved, follows_left, follows_turned, follows_opened, follows_told}
use Rattle.history.specs.Lemmas.Groups.{group_up, group_newest, group_unread}
use Rattle.history.specs.Lemmas.Lists.{last_more, last_set, last_new, entry_more, entry_new, entry_set, entry_set_other, entry_same}
use Rattle.history.specs.Lemmas.Opens.{open_more}
use Rattle.history.specs.Lemmas.Shapes.{journal_more, journal_told}
use Rattle.history.specs.Lemmas.Stops.{untouched_same, reads_same, recovers_moved, recovers_turned, recovers_told}

in_group : (l m : LogState) (q g : ℕ) → SameGroups l m → InGroup l q g → InGroup m q g
in_group l m q zero same is = same.used q ∙ is
in_group l m q (suc g) same is = (same.used q ∙ is.0, is.1 ∙ sym same.opened)

-- where a process stands, after what another did
stands_goes : (n : ℕ) (s t : View) (es fs : List Entry) (q : ℕ) (a : Phase) → SameGroups s.log t.log → t.holds q ≡ s.holds q → ((k g : ℕ) (e : Entry) → HasEntry es q k g e → HasEntry fs q k g e) → StandsAt n s es q a → StandsAt n t fs q a
stands_goes n s t es fs q Phase.Idle same holds goes is = (holds ∙ is.0, in_group s.log t.log q 0 same is.1)
stands_goes n s t es fs q (Phase.BeforeTurn group op) same holds goes is = (holds ∙ is.0, in_group s.log t.log q group same is.1, is.2, is.3)
stands_goes n s t es fs q (Phase.AfterTurn group k) same holds goes is = (in_group s.log t.log q group same is.0, (is.1.0, goes k group is.1.0 is.1.1))
stands_goes n s t es fs q (Phase.Ending group k) same holds goes is = (holds ∙ is.0, (same.used q ∙ is.1.0, is.1.1 ∙ sym same.opened), (is.2.0, goes k group is.2.0 is.2.1, is.2.2))
stands_goes n s t es fs q (Phase.Committing group k) same holds goes is = (holds ∙ is.0, in_group s.log t.log q 0 same is.1, (is.2.0, goes k group is.2.0 is.2.1, is.2.2))

has_more : (es : List Entry) (f : Entry) (q k g : ℕ) (e : Entry) → f.pid ≢ q → HasEntry es q k g e → HasEntry (es ++ f ∷ []) q k g e
has_more es f q k g e other h = record { at = entry_more es k e f h.at; mine = h.mine; last = last_more q es k f h.last other; same = h.same }

has_told : (es : List Entry) (j : ℕ) (f : Entry) (r : Reply) (q k g : ℕ) (e : Entry) → IsEntry es j f → f.pid ≢ q → HasEntry es q k g e → HasEntry (set es j (told f r)) q k g e
has_told es j f r q k g e there other h = record { at = entry_set_other es k j e f (told f r) h.at there (λ same. other (sym same ∙ h.mine)); mine = h.mine; last = last_set q es k j f r h.last there; same = h.same }

-- an operation that has a group is open
is_in : (l : LogState) (q g : ℕ) → 0 < g → InGroup l q g → IsIn l q g
is_in l q zero some is = absurd (omega (arith, some))
is_in l q (suc g) some is = is

-- what a process holds where it holds nothing
held_none : (o : Option Held) (h : Held) → o ≡ None → o ≡ Some h → ⊥
held_none o h none some = let t = sym none ∙ some in cc t

module _ (opening : Image) (s t : View) (es : List Entry) (ats : ℕ → Phase) (i : KernelFacts opening s es ats) (v : IsValidView (inode_count_of opening) t) (p : ℕ) where
  abbrev n : ℕ
  n = inode_count_of opening

  -- who held goes on holding
  keeps_held : t.holds p ≡ s.holds p → ((q : ℕ) → q ≢ p → t.holds q ≡ s.holds q) → (q : ℕ) → t.holds q ≡ s.holds q
  keeps_held mine others q = ⊎_elim (λ (e : q ≡ p). ap t.holds e ∙ mine ∙ ap s.holds (sym e)) (λ (e : q ≢ p). others q e) (cases_eq q p)

  recovers_rest : (made : Option Reply) → (st : LeavesRest made p s t) → (fs : List Entry) → Survives opening s.disk t.current t.log fs → Survives opening t.disk t.current t.log fs
  recovers_rest made st fs r = subst (λ (x : Image). Survives opening x t.current t.log fs) (sym st.disk) r

  journal_rest : (g : SameGroups s.log t.log) (fs : List Entry) → IsJournal n s.log.opened fs → IsJournal n t.log.opened fs
  journal_rest g fs j = subst (λ (k : ℕ). IsJournal n k fs) (sym g.opened) j

  -- a step that has no turn and tells no reply
  pub inv_moved : Moves p s t → KernelFacts opening t es ats
  inv_moved m =
      let st = m.rest in
      let same = keeps_held m.mine st.others in
      record {
        valid = v;
        journal = journal_rest st.groups es i.journal;
        follows = follows_moved (form_of opening) (files_of opening) s.holds s.fits es i.follows t.holds t.fits (λ q h held. same q ∙ held) m.files;
        recovers = recovers_rest None st es (recovers_moved opening s.disk s.current s.log es i.recovers t.current t.log (reads_same s.log t.log st.groups.committed st.groups.commit) st.marks);
        stands = λ q. stands_goes n s t es es q (ats q) st.groups (same q) (λ k g e h. h) (i.stands q);
      }

  -- a number of the files is one of the image
  count_same : length (files_of opening) ≡ n
  count_same = length-files_of opening

  module _ (new : ℕ → Phase) (others_at : (q : ℕ) → q ≢ p → new q ≡ ats q) where
    -- where the processes stand: p there, and the others where they stood
    stands_by : (st_groups : SameGroups s.log t.log) (others : (q : ℕ) → q ≢ p → t.holds q ≡ s.holds q) (fs : List Entry) → ((q k g : ℕ) (e : Entry) → q ≢ p → HasEntry es q k g e → HasEntry fs q k g e) → StandsAt n t fs p (new p)
        → (q : ℕ) → StandsAt n t fs q (new q)
    stands_by groups others fs goes mine q = ⊎_elim
        (λ (e : q ≡ p). subst (λ (x : ℕ). StandsAt n t fs x (new x)) (sym e) mine)
        (λ (e : q ≢ p). subst (λ (a : Phase). StandsAt n t fs q a) (sym (others_at q e)) (stands_goes n s t es fs q (ats q) groups (others q e) (λ k g f h. goes q k g f e h) (i.stands q)))
        (cases_eq q p)

    module _ (group seq : ℕ) (op : Op) (stood : ats p ≡ Phase.BeforeTurn group op) where
      was : StandsAt n s es p (Phase.BeforeTurn group op)
      was = subst (λ (a : Phase). StandsAt n s es p a) stood (i.stands p)

      -- who holds something is another
      other_of : (q : ℕ) (h : Held) → s.holds q ≡ Some h → q ≢ p
      other_of q h held same = held_none (s.holds q) h (ap s.holds same ∙ was.0) held

      goes_on : ((q : ℕ) → q ≢ p → t.holds q ≡ s.holds q) → (q : ℕ) (h : Held) → s.holds q ≡ Some h → t.holds q ≡ Some h
      goes_on others q h held = others q (other_of q h held) ∙ held

      later_if : is_changing n op ≡ true → 0 < group
      later_if c = ltb-true 0 group (was.2 ∙ c)

      -- the group of a changing operation is not committed
      pub later_group : is_changing n op ≡ true → in_reads s.log < group
      later_group changing = group_unread s.log p group i.valid.log was.1 (later_if changing)

      -- its entry is its last
      entry_turned : (reply : Option Reply) → HasEntry (es ++ entry_of p seq op group reply ∷ []) p (length es) group (entry_of p seq op group reply)
      entry_turned reply = let e = entry_of p seq op group reply in record { at = entry_new es e; mine = refl; last = last_new es e; same = refl }

      stands_turned : SameGroups s.log t.log → (reply : Option Reply) → new p ≡ Phase.AfterTurn group (length es) → StandsAt n t (es ++ entry_of p seq op group reply ∷ []) p (new p)
      stands_turned groups reply now =
          let e = entry_of p seq op group reply in
          subst (λ (a : Phase). StandsAt n t (es ++ e ∷ []) p a) (sym now) (in_group s.log t.log p group groups was.1, (e, entry_turned reply))

      journal_turned : SameGroups s.log t.log → (reply : Option Reply) → IsJournal n t.log.opened (es ++ (entry_of p seq op group reply) ∷ [])
      journal_turned groups reply =
          journal_rest groups _ (journal_more n s.log.opened es i.journal (entry_of p seq op group reply) (group_up s.log p group was.1) (λ c. group_newest s.log p group was.1 (later_if c)) was.2)

      turned_with : (r : Reply) → Turns (form_of opening) p op r s t → StandsAt n t (es ++ entry_of p seq op group (Some r) ∷ []) p (new p) → KernelFacts opening t (es ++ entry_of p seq op group (Some r) ∷ []) new
      turned_with r turn mine =
          let st = turn.rest in
          let e = entry_of p seq op group (Some r) in
          record {
            valid = v;
            journal = journal_turned st.groups (Some r);
            follows = follows_turned (form_of opening) (files_of opening) s.holds s.fits es i.follows t.holds t.fits e r refl (goes_on st.others) (λ q h held. ((λ same. other_of q h held (sym same)), turn.apart q h held)) turn.files;
            recovers = recovers_rest (Some r) st (es ++ e ∷ []) (recovers_turned opening s.disk s.current s.log es i.recovers t.current t.log e (reads_same s.log t.log st.groups.committed st.groups.commit) later_group st.marks);
            stands = stands_by st.groups st.others (es ++ e ∷ []) (λ q k g f other h. has_more es e q k g f (λ same. other (sym same)) h) mine;
          }

      -- a turn whose reply stands, and whose task goes on
      pub inv_turned : (r : Reply) → new p ≡ Phase.AfterTurn group (length es) → Turns (form_of opening) p op r s t → KernelFacts opening t (es ++ entry_of p seq op group (Some r) ∷ []) new
      inv_turned r now turn = turned_with r turn (stands_turned turn.rest.groups (Some r) now)

      -- a turn with which the task is over
      pub inv_turned_over : (r : Reply) → new p ≡ Phase.Ending group (length es) → is_changing n op ≡ true → t.holds p ≡ None → Turns (form_of opening) p op r s t
          → KernelFacts opening t (es ++ entry_of p seq op group (Some r) ∷ []) new
      inv_turned_over r now changing free turn = turned_with r turn
          (subst (λ (a : Phase). StandsAt n t (es ++ entry_of p seq op group (Some r) ∷ []) p a) (sym now)
          (free, is_in t.log p group (later_if changing) (in_group s.log t.log p group turn.rest.groups was.1), (entry_of p seq op group (Some r), entry_turned (Some r), refl)))

      -- a turn whose reply is still to come
      pub inv_opened : new p ≡ Phase.AfterTurn group (length es) → Opens n p op s t → KernelFacts opening t (es ++ (entry_of p seq op group None) ∷ []) new
      inv_opened now o =
          let st = o.rest in
          let e = entry_of p seq op group None in
          record {
            valid = v;
            journal = journal_turned st.groups None;
            follows = follows_opened (form_of opening) (files_of opening) s.holds s.fits es i.follows t.holds t.fits e refl (goes_on st.others) (λ q h held same. other_of q h held (sym same))
                (record { late = o.late; number = subst (λ (k : ℕ). is_number k (number_of op) ≡ true) (sym count_same) o.number; held = o.held; last = refl; apart = refl }) o.files;
            recovers = recovers_rest None st (es ++ e ∷ []) (recovers_turned opening s.disk s.current s.log es i.recovers t.current t.log e (reads_same s.log t.log st.groups.committed st.groups.commit) later_group st.marks);
            stands = stands_by st.groups st.others (es ++ e ∷ []) (λ q k g f other h. has_more es e q k g f (λ same. other (sym same)) h) (stands_turned st.groups None now);
          }

    module _ (group k : ℕ) (e : Entry) (stood : ats p ≡ Phase.AfterTurn group k) (at_k : IsEntry es k e) where
      here : StandsAt n s es p (Phase.AfterTurn group k)
      here = subst (λ (a : Phase). StandsAt n s es p a) stood (i.stands p)

      -- the entry is the process's last
      pub mine_is : HasEntry es p k group e
      mine_is = let h = here.1.1 in let same = entry_same es k here.1.0 e h.at at_k in
          record { at = at_k; mine = ap (λ (f : Entry). f.pid) (sym same) ∙ h.mine; last = h.last; same = ap (λ (f : Entry). f.group) (sym same) ∙ h.same }

      changing_some : is_changing n e.op ≡ true → 0 < group
      changing_some c =
          let its : ltb 0 e.group ≡ is_changing n e.op = subst (λ (f : Entry). ltb 0 f.group ≡ is_changing n f.op) at_k.is (i.journal.changing k e at_k.inside) in
          let g = ltb-true 0 e.group (its ∙ c) in omega (arith, g, mine_is.same)

      -- and its group, where it has one, is not committed
      pub changing_later : is_changing n e.op ≡ true → in_reads s.log < e.group
      changing_later c =
          let later = group_unread s.log p group i.valid.log here.0 (changing_some c) in omega (arith, later, mine_is.same)

      told_entry : (r : Reply) → HasEntry (set es k (told e r)) p k group (told e r)
      told_entry r = record { at = entry_set es k e (told e r) at_k; mine = mine_is.mine; last = last_set p es k k e r mine_is.last at_k; same = mine_is.same }

      -- a reply comes, and what was held until then is let go
      told_with : (r : Reply) → e.reply ≡ None → LeavesRest None p s t → ((j : ℕ) → is_making j (Some r) ≡ false) → Takes (form_of opening) s t e.op r → StandsAt n t (set es k (told e r)) p (new p) → KernelFacts opening t (set es k (told e r)) new
      told_with r none st made files mine =
          let f = follows_told (form_of opening) (files_of opening) s.holds s.fits es i.follows t.fits k e r i.valid.store.alone made at_k none files in
          record {
            valid = v;
            journal = journal_rest st.groups _ (journal_told n s.log.opened es i.journal k e r at_k);
            follows = follows_left (form_of opening) (files_of opening) s.holds t.fits (set es k (told e r)) f t.holds t.fits p k (told e r) r (told_entry r).last (told_entry r).at refl (λ q h other held. st.others q other ∙ held) (λ m fit. fit);
            recovers = recovers_rest None st _ (recovers_told opening s.disk s.current s.log es i.recovers t.current t.log k e r at_k none made (reads_same s.log t.log st.groups.committed st.groups.commit) changing_later st.marks);
            stands = stands_by st.groups st.others (set es k (told e r)) (λ q j g f other h. has_told es k e r q j g f at_k (λ mine. other (sym mine ∙ mine_is.mine)) h) mine;
          }

      -- the reply of an operation whose task goes on
      pub inv_decided : (r : Reply) → new p ≡ Phase.AfterTurn group k → e.reply ≡ None → Decides (form_of opening) p e.op r s t → KernelFacts opening t (set es k (told e r)) new
      inv_decided r now none d = told_with r none d.rest d.made d.files
          (subst (λ (a : Phase). StandsAt n t (set es k (told e r)) p a) (sym now) (in_group s.log t.log p group d.rest.groups here.0, (told e r, told_entry r)))

      module _ (leaves : Leaves p s t) where
        left_follows : (r : Reply) → e.reply ≡ Some r → Follows (form_of opening) (files_of opening) t.holds t.fits es
        left_follows r has = follows_left (form_of opening) (files_of opening) s.holds s.fits es i.follows t.holds t.fits p k e r mine_is.last at_k has (λ q h other held. leaves.rest.others q other ∙ held) leaves.files

        inv_left : (r : Reply) → e.reply ≡ Some r → StandsAt n t es p (new p) → KernelFacts opening t es new
        inv_left r has mine =
            let st = leaves.rest in
            record {
              valid = v;
              journal = journal_rest st.groups es i.journal;
              follows = left_follows r has;
              recovers = recovers_rest None st es (recovers_moved opening s.disk s.current s.log es i.recovers t.current t.log (reads_same s.log t.log st.groups.committed st.groups.commit) st.marks);
              stands = stands_by st.groups st.others es (λ q j g f other h. h) mine;
            }

        -- the finish of a changing operation, which ends next
        pub inv_ending : (r : Reply) → e.reply ≡ Some r → is_changing n e.op ≡ true → new p ≡ Phase.Ending group k → KernelFacts opening t es new
        inv_ending r has changing now = inv_left r has (subst (λ (a : Phase). StandsAt n t es p a) (sym now) (leaves.mine, is_in t.log p group (changing_some changing) (in_group s.log t.log p group leaves.rest.groups here.0), (e, mine_is, ap is_some has)))

        -- the finish of another, which is answered
        pub inv_over : (r : Reply) → e.reply ≡ Some r → group ≡ 0 → new p ≡ Phase.Idle → KernelFacts opening t es new
        inv_over r has zero_group now = inv_left r has (subst (λ (a : Phase). StandsAt n t es p a) (sym now) (leaves.mine, in_group s.log t.log p 0 leaves.rest.groups (subst (λ (g : ℕ). InGroup s.log p g) zero_group here.0)))

      -- the finish of a read, with its reply
      pub inv_read : (r : Reply) → e.reply ≡ None → group ≡ 0 → new p ≡ Phase.Idle → LeavesRest None p s t → t.holds p ≡ None → ((j : ℕ) → is_making j (Some r) ≡ false) → Takes (form_of opening) s t e.op r → KernelFacts opening t (set es k (told e r)) new
      inv_read r none zero_group now st free made files = told_with r none st made files
          (subst (λ (a : Phase). StandsAt n t (set es k (told e r)) p a) (sym now) (free, in_group s.log t.log p 0 st.groups (subst (λ (g : ℕ). InGroup s.log p g) zero_group here.0)))

-- what is answered at once is not a changing operation
pub at_once_still : (n : ℕ) (op : Op) → is_at_once n op ≡ true → is_changing n op ≡ false
at_once_still n op once = at_once_is_not_changing n op ∙ ap (λ (b : Bool). is_writing op && not b) once ∙ both (is_writing op)
  where
    both : (b : Bool) → (b && false) ≡ false
    both true = refl
    both false = refl

-- an operation is taken and answered at once: the store is as it was
pub inv_at_once : (opening : Image) (s : View) (es : List Entry) (ats : ℕ → Phase) → KernelFacts opening s es ats → (p seq : ℕ) (op : Op) → ats p ≡ Phase.Idle → is_at_once (inode_count_of opening) op ≡ true
    → KernelFacts opening s (es ++ (entry_of p seq op 0 (Some (at_once_reply op))) ∷ []) ats
inv_at_once opening s es ats i p seq op stood once = record {
  valid = i.valid;
  journal = journal_more n s.log.opened es i.journal e (omega arith) (λ c. absurd (changing_not c)) (sym not_changing);
  follows = record {
    files = i.follows.files;
    run = ap (replay (form_of opening) (files_of opening)) (answered_some es e (at_once_reply op) refl)
        ∙ replay_more (form_of opening) (files_of opening) i.follows.files i.follows.files (answered es) e i.follows.run
        (at_once_takes (form_of opening) (files_of opening) s.holds s.fits es i.follows op (file_in-files_of_zero opening) (ap (λ (k : ℕ). is_at_once k op) (length-files_of opening) ∙ once));
    are = open_more (length (files_of opening)) s.holds s.holds es e i.follows.are (λ q h held. held)
        (λ q h held. ((λ same. held_none (s.holds q) h (ap s.holds (sym same) ∙ was.0) held), rw (at_once_apart n h.number e once refl (i.valid.numbers q h held)) refl)) tt;
    fits = i.follows.fits;
  };
  recovers = recovers_turned opening s.disk s.current s.log es i.recovers s.current s.log e (reads_same s.log s.log refl refl) (λ c. absurd (changing_not c)) marks_none;
  stands = λ q. ⊎_elim
      (λ (same : q ≡ p). subst (λ (a : Phase). StandsAt n s (es ++ e ∷ []) q a) (sym (ap ats same ∙ stood)) (subst (λ (x : ℕ). StandsAt n s (es ++ e ∷ []) x Phase.Idle) (sym same) was))
      (λ (other : q ≢ p). stands_goes n s s es (es ++ e ∷ []) q (ats q) (record { size = refl; outstanding = refl; opened = refl; committed = refl; commit = refl; used = λ r. refl }) refl (λ k g f h. has_more es e q k g f (λ same. other (sym same)) h) (i.stands q))
      (cases_eq q p);
}
  where
    n : ℕ
    n = inode_count_of opening

    e : Entry
    e = entry_of p seq op 0 (Some (at_once_reply op))

    was : StandsAt n s es p Phase.Idle
    was = subst (λ (a : Phase). StandsAt n s es p a) stood (i.stands p)

    not_changing : is_changing n op ≡ false
    not_changing = at_once_still n op once

    changing_not : is_changing n op ≡ true → ⊥
    changing_not c = let t : true ≡ false = sym c ∙ not_changing in cc t

    marks_none : Marks (Some (at_once_reply op)) s.current s.current
    marks_none = record {
      size = refl;
      untouched = untouched_same s.current;
      others = λ j number made used. (used, refl);
      fresh = λ j number made. let t : true ≡ false = sym made ∙ unmade j op in absurd (cc t);
    }
