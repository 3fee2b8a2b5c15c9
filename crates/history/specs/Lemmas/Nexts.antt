-- One step of a task, whatever it answers.
use Rattle.std.proofs.Common.{◌≡◌, ◌≢◌, inl, inr, ⊎_elim, ℕ, true, List, [], ◌∷◌, ◌++◌, length, set, refl, sym, ◌∙◌, ap, subst, Option, Some, None}
use Rattle.std.specs.Prelude.{IsSome, is_some}
use Rattle.history.specs.Common.{Answer, Bytes, cases_eq, Entry, false≢true, form_of, gives, History, Image, in_reads, inode_count_of, is_at_once, IsEntry, IsValidView, KernelFacts, Op, Phase, Reply, StandsAt, TaskProgress, told, View}
use Rattle.history.specs.Journal.{entry_of}
use Rattle.history.specs.AtOnce.{at_once_reply}
use Rattle.history.specs.Bound.{is_busy_at}
use Rattle.history.specs.Grows.{IsLonger, IsTold, JournalGoes}
use Rattle.history.specs.Histories.{entry_answer, IsHistory}
use Rattle.history.specs.Next.{TaskNext}
use Rattle.history.specs.Lemmas.Events.{at_once_still, inv_moved, inv_turned, inv_turned_over, inv_opened, inv_decided, inv_ending, inv_over, inv_read, later_group, mine_is, changing_later}
use Rattle.history.specs.Lemmas.Growing.{goes_back}
use Rattle.history.specs.Lemmas.Histories.{history_turned, history_turned_over, history_replied, history_ending, history_answered}
use Rattle.history.specs.Lemmas.Lists.{entry_set}

-- what is answered at once makes of the journal
pub at_once_journal : (n p committed seq : ℕ) (es : List Entry) (op : Op) → is_at_once n op ≡ true → JournalGoes n p committed es (es ++ entry_of p seq op 0 (Some (at_once_reply op)) ∷ [])
at_once_journal n p committed seq es op once = inr (inl (record {
  entry = entry_of p seq op 0 (Some (at_once_reply op));
  mine = refl;
  later = λ changing. absurd (false≢true (sym (at_once_still n op once) ∙ changing));
  list = refl;
}))

-- where another process stands behind its turn, its entry is the same one after a step of process p
pub others_back : (opening : Image) (s : View) (es fs : List Entry) (ats : ℕ → Phase) (i : KernelFacts opening s es ats) (n p committed : ℕ) → JournalGoes n p committed es fs → (q : ℕ) → q ≢ p → (g k : ℕ) (f : Entry) → ats q ≡ Phase.AfterTurn g k → IsEntry fs k f
    → IsEntry es k f
others_back opening s es fs ats i n p committed goes q other g k f stood there =
    let stands = subst (λ (a : Phase). StandsAt (inode_count_of opening) s es q a) stood (i.stands q) in
    goes_back n p committed es fs goes k stands.1.0 f (λ mine. other (sym stands.1.1.mine ∙ mine)) stands.1.1.at there

-- where the processes stand, whichever function tells it
pub at_same : (opening : Image) (t : View) (es : List Entry) (ats new : ℕ → Phase) → ((q : ℕ) → new q ≡ ats q) → KernelFacts opening t es ats → KernelFacts opening t es new
at_same opening t es ats new same i = record { valid = i.valid; journal = i.journal; follows = i.follows; recovers = i.recovers; stands = λ q. subst (λ (a : Phase). StandsAt (inode_count_of opening) t es q a) (sym (same q)) (i.stands q) }

module _ (opening : Image) (s t : View) (es fs : List Entry) (ats new : ℕ → Phase) (i : KernelFacts opening s es ats) (v : IsValidView (inode_count_of opening) t) (p seq : ℕ) (others : (q : ℕ) → q ≢ p → new q ≡ ats q) where
  list_is : (gs : List Entry) → fs ≡ gs → KernelFacts opening t gs new → KernelFacts opening t fs new
  list_is gs same inv = subst (λ (hs : List Entry). KernelFacts opening t hs new) (sym same) inv

  moved : (a : Phase) → ats p ≡ a → new p ≡ a → KernelFacts opening t es ats → KernelFacts opening t es new
  moved a was now inv = at_same opening t es ats new (λ q. ⊎_elim (λ (e : q ≡ p). ap new e ∙ now ∙ sym was ∙ ap ats (sym e)) (λ (e : q ≢ p). others q e) (cases_eq q p)) inv

  longer : (group : ℕ) (op : Op) (reply : Option Reply) → ats p ≡ Phase.BeforeTurn group op → fs ≡ es ++ entry_of p seq op group reply ∷ [] → IsLonger (inode_count_of opening) p (in_reads s.log) es fs
  longer group op reply stood list = record { entry = entry_of p seq op group reply; mine = refl; later = later_group opening s t es ats i v p new others group seq op stood; list = list }

  tells : (group k : ℕ) (e : Entry) (r : Reply) → ats p ≡ Phase.AfterTurn group k → IsEntry es k e → e.reply ≡ None → fs ≡ set es k (told e r) → IsTold (inode_count_of opening) p (in_reads s.log) es fs
  tells group k e r stood there none list = record {
    index = k;
    entry = e;
    reply = r;
    at = there;
    none = none;
    list = list;
    mine = (mine_is opening s t es ats i v p new others group k e stood there).mine;
    later = changing_later opening s t es ats i v p new others group k e stood there;
  }

  -- WHATEVER A STEP ANSWERS, it keeps what is true of the kernel
  pub task_next : (a : Phase) (r : TaskProgress) → ats p ≡ a → TaskNext a r (inode_count_of opening) (form_of opening) p seq s es t fs (new p) → KernelFacts opening t fs new
  task_next (Phase.BeforeTurn group op) TaskProgress.Moved stood x = list_is es x.1 (moved (Phase.BeforeTurn group op) stood x.2 (inv_moved opening s t es ats i v p x.0))
  task_next (Phase.BeforeTurn group op) (TaskProgress.Turned None) stood x = list_is _ x.1 (inv_opened opening s t es ats i v p new others group seq op stood x.2 x.0)
  task_next (Phase.BeforeTurn group op) (TaskProgress.Turned (Some r)) stood (turn, list, inl now) = list_is _ list (inv_turned opening s t es ats i v p new others group seq op stood r now turn)
  task_next (Phase.BeforeTurn group op) (TaskProgress.Turned (Some r)) stood (turn, list, inr (now, changing, free)) = list_is _ list (inv_turned_over opening s t es ats i v p new others group seq op stood r now changing free turn)
  task_next (Phase.AfterTurn group k) TaskProgress.Moved stood x = list_is es x.1 (moved (Phase.AfterTurn group k) stood x.2 (inv_moved opening s t es ats i v p x.0))
  task_next (Phase.AfterTurn group k) (TaskProgress.Decided r) stood (e, there, none, d, list, now) = list_is _ list (inv_decided opening s t es ats i v p new others group k e stood there r now none d)
  task_next (Phase.AfterTurn group k) TaskProgress.Over stood (e, there, inl o) =
      list_is _ o.list (inv_read opening s t es ats i v p new others group k e stood there (Bytes o.bytes) o.open_still o.none o.now o.rest o.free (λ j. refl) o.files)
  task_next (Phase.AfterTurn group k) TaskProgress.Over stood (e, there, inr (inl o)) = list_is es o.list (inv_ending opening s t es ats i v p new others group k e stood there o.leaves o.reply o.has o.changing o.now)
  task_next (Phase.AfterTurn group k) TaskProgress.Over stood (e, there, inr (inr o)) = list_is es o.list (inv_over opening s t es ats i v p new others group k e stood there o.leaves o.reply o.has o.none o.now)
  task_next a r stood x = absurd x

  -- what it makes of the journal
  pub task_journal : (a : Phase) (r : TaskProgress) → ats p ≡ a → TaskNext a r (inode_count_of opening) (form_of opening) p seq s es t fs (new p) → JournalGoes (inode_count_of opening) p (in_reads s.log) es fs
  task_journal (Phase.BeforeTurn group op) TaskProgress.Moved stood x = inl x.1
  task_journal (Phase.BeforeTurn group op) (TaskProgress.Turned None) stood x = inr (inl (longer group op None stood x.1))
  task_journal (Phase.BeforeTurn group op) (TaskProgress.Turned (Some r)) stood x = inr (inl (longer group op (Some r) stood x.1))
  task_journal (Phase.AfterTurn group k) TaskProgress.Moved stood x = inl x.1
  task_journal (Phase.AfterTurn group k) (TaskProgress.Decided r) stood (e, there, none, d, list, now) = inr (inr (tells group k e r stood there none list))
  task_journal (Phase.AfterTurn group k) TaskProgress.Over stood (e, there, inl o) = inr (inr (tells group k e (Bytes o.bytes) stood there o.open_still o.list))
  task_journal (Phase.AfterTurn group k) TaskProgress.Over stood (e, there, inr (inl o)) = inl o.list
  task_journal (Phase.AfterTurn group k) TaskProgress.Over stood (e, there, inr (inr o)) = inl o.list
  task_journal a r stood x = absurd x
