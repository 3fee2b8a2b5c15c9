-- Each event keeps the histories of the processes.
use Rattle.std.proofs.Common.{◌≡◌, ◌≢◌, ℕ, ◌+◌, List, [], ◌∷◌, ◌++◌, length, map, set, refl, sym, ◌∙◌, ap, subst, arith, Option, Some}
use Rattle.std.specs.List.{range_with_len}
use Rattle.std.proofs.lemmas.List.FromFn.{map-range_with_len_more}
use Rattle.history.specs.Common.{Answer, append-nil, Entry, gives, History, IsEntry, IsLast, length-append, length-map, map-append, map-id, nothing_yet, Op, own, Phase, Reply, takes, told}
use Rattle.history.specs.Histories.{entry_answer, pending_at, Owes, Owed, IsHistory}
use Rattle.history.specs.Lemmas.Lists.{own_mine, own_other, own_told_other, own_last, last_more, last_set, last_new, entry_more, entry_new, entry_set, entry_set_other, entry_same, snoc_same}

-- an entry's operation
abbrev op_of : Entry → Op
op_of e = e.op

-- an answer that there is
abbrev some_answer : Answer → Option Answer
some_answer a = Some a

-- an entry's number among its process's
abbrev seq_of : Entry → ℕ
seq_of e = e.seq

-- what another process does
owed_by : (p : ℕ) (es fs given : List Entry) → own p fs ≡ own p es → ((k : ℕ) → Owes p k es given → Owes p k fs given) → (a : Phase) → Owed a p es given → Owed a p fs given
owed_by p es fs given same goes Phase.Idle is = same ∙ is
owed_by p es fs given same goes (Phase.BeforeTurn group op) is = same ∙ is
owed_by p es fs given same goes (Phase.AfterTurn group k) is = goes k is
owed_by p es fs given same goes (Phase.Ending group k) is = goes k is
owed_by p es fs given same goes (Phase.Committing group k) is = goes k is

history_other : (es fs : List Entry) (a : Phase) (begun p : ℕ) (h : History) → own p fs ≡ own p es → ((k : ℕ) (given : List Entry) → Owes p k es given → Owes p k fs given) → IsHistory es a begun p h → IsHistory fs a begun p h
history_other es fs a begun p h same goes is = record {
  answered = is.answered;
  owed = owed_by p es fs is.answered same (λ k. goes k is.answered) a is.owed;
  taken = is.taken ∙ ap (λ (l : List Entry). map op_of l ++ pending_at a) (sym same);
  given = is.given;
  count = is.count;
  numbered = ap (map seq_of) same ∙ is.numbered ∙ ap (λ (l : List Entry). range_with_len 1 (length l)) (sym same);
}

-- it has an entry more
pub history_more : (es : List Entry) (e : Entry) (a : Phase) (begun q : ℕ) (h : History) → e.pid ≢ q → IsHistory es a begun q h → IsHistory (es ++ e ∷ []) a begun q h
history_more es e a begun q h other is = history_other es (es ++ e ∷ []) a begun q h (own_other q es e other)
    (λ k given o. record { entry = o.entry; at = entry_more es k o.entry e o.at; mine = o.mine; last = last_more q es k e o.last other; own = own_other q es e other ∙ o.own }) is

-- one of its entries is told its reply
pub history_told : (es : List Entry) (j : ℕ) (e : Entry) (r : Reply) (a : Phase) (begun q : ℕ) (h : History) → IsEntry es j e → e.pid ≢ q → IsHistory es a begun q h → IsHistory (set es j (told e r)) a begun q h
history_told es j e r a begun q h there other is = history_other es (set es j (told e r)) a begun q h (own_told_other q es j e r there other)
    (λ k given o. record {
      entry = o.entry;
      at = entry_set_other es k j o.entry e (told e r) o.at there (λ same. other (sym same ∙ o.mine));
      mine = o.mine;
      last = last_set q es k j e r o.last there;
      own = own_told_other q es j e r there other ∙ o.own;
    }) is

-- an operation is taken
pub history_taken : (es : List Entry) (begun group p : ℕ) (op : Op) (h : History) → IsHistory es Phase.Idle begun p h → IsHistory es (Phase.BeforeTurn group op) (begun + 1) p (takes (Some op) h)
history_taken es begun group p op h is = record {
  answered = is.answered;
  owed = is.owed;
  taken = ap (λ (l : List Op). l ++ op ∷ []) (is.taken ∙ append-nil (map op_of (own p es)));
  given = is.given;
  count = ap (λ (k : ℕ). k + 1) is.count ∙ sym (length-append h.taken (op ∷ []));
  numbered = is.numbered;
}

-- one more number at the end
range_more : (a n : ℕ) → range_with_len a (n + 1) ≡ range_with_len a n ++ (a + n) ∷ []
range_more a n = sym (map-id (range_with_len a (n + 1))) ∙ map-range_with_len_more (λ (k : ℕ). k) a n (a + n) refl ∙ ap (λ (l : List ℕ). l ++ (a + n) ∷ []) (map-id (range_with_len a n))

numbers_more : (es fs : List Entry) (e : Entry) → fs ≡ es ++ e ∷ [] → e.seq ≡ length es + 1 → map seq_of es ≡ range_with_len 1 (length es) → map seq_of fs ≡ range_with_len 1 (length fs)
numbers_more es fs e more next numbered =
    ap (map seq_of) more ∙ map-append seq_of es (e ∷ []) ∙ ap (λ (l : List ℕ). l ++ e.seq ∷ []) numbered ∙ ap (λ (k : ℕ). range_with_len 1 (length es) ++ k ∷ []) (omega (arith, next))
    ∙ sym (ap (λ (l : List Entry). range_with_len 1 (length l)) more ∙ ap (range_with_len 1) (length-append es (e ∷ [])) ∙ range_more 1 (length es))

-- it has its turn
pub history_turned : (es : List Entry) (begun group p : ℕ) (e : Entry) (h : History) → e.pid ≡ p → e.seq ≡ begun → IsHistory es (Phase.BeforeTurn group e.op) begun p h → IsHistory (es ++ e ∷ []) (Phase.AfterTurn group (length es)) begun p h
history_turned es begun group p e h mine seq is =
    let more = own_mine p es e mine in
    record {
      answered = is.answered;
      owed = record { entry = e; at = entry_new es e; mine = mine; last = subst (λ (q : ℕ). IsLast q (es ++ e ∷ []) (length es)) mine (last_new es e); own = more ∙ ap (λ (l : List Entry). l ++ e ∷ []) is.owed };
      taken = is.taken ∙ sym (append-nil (map op_of (own p (es ++ e ∷ []))) ∙ ap (map op_of) more ∙ map-append op_of (own p es) (e ∷ []));
      given = is.given;
      count = is.count;
      numbered = numbers_more (own p es) (own p (es ++ e ∷ [])) e more
          (seq ∙ is.count ∙ ap (λ (l : List Op). length l) is.taken ∙ length-append (map op_of (own p es)) (e.op ∷ []) ∙ ap (λ (k : ℕ). k + 1) (length-map (own p es) op_of)) is.numbered;
    }

-- its reply comes
pub history_replied : (es : List Entry) (k begun group p : ℕ) (e : Entry) (r : Reply) (h : History) → IsEntry es k e → IsHistory es (Phase.AfterTurn group k) begun p h → IsHistory (set es k (told e r)) (Phase.AfterTurn group k) begun p h
history_replied es k begun group p e r h there is =
    let o = is.owed in
    let same : o.entry ≡ e = entry_same es k o.entry e o.at there in
    let mine : e.pid ≡ p = ap (λ (f : Entry). f.pid) (sym same) ∙ o.mine in
    let parts = own_last p es k e o.last there in
    let before : parts.0 ≡ is.answered = snoc_same parts.0 is.answered e o.entry (sym parts.1 ∙ o.own) in
    let now : own p (set es k (told e r)) ≡ is.answered ++ told e r ∷ [] = parts.2 (told e r) mine ∙ ap (λ (l : List Entry). l ++ told e r ∷ []) before in
    let was : own p es ≡ is.answered ++ e ∷ [] = o.own ∙ ap (λ (f : Entry). is.answered ++ f ∷ []) same in
    let ops : map op_of (own p (set es k (told e r))) ≡ map op_of (own p es) = ap (map op_of) now ∙ map-append op_of is.answered (told e r ∷ []) ∙ sym (ap (map op_of) was ∙ map-append op_of is.answered (e ∷ [])) in
    let seqs : map seq_of (own p (set es k (told e r))) ≡ map seq_of (own p es) = ap (map seq_of) now ∙ map-append seq_of is.answered (told e r ∷ []) ∙ sym (ap (map seq_of) was ∙ map-append seq_of is.answered (e ∷ [])) in
    let count : length (own p (set es k (told e r))) ≡ length (own p es) = sym (length-map (own p (set es k (told e r))) op_of) ∙ ap (λ (l : List Op). length l) ops ∙ length-map (own p es) op_of in
    record {
      answered = is.answered;
      owed = record { entry = told e r; at = entry_set es k e (told e r) there; mine = mine; last = last_set p es k k e r o.last there; own = now };
      taken = is.taken ∙ ap (λ (l : List Op). l ++ []) (sym ops);
      given = is.given;
      count = is.count;
      numbered = seqs ∙ is.numbered ∙ ap (range_with_len 1) (sym count);
    }

-- it goes on to its end, and to its group's commit, and the same answer is owed
pub history_ending : (es : List Entry) (k begun group p : ℕ) (h : History) → IsHistory es (Phase.AfterTurn group k) begun p h → IsHistory es (Phase.Ending group k) begun p h
history_ending es k begun group p h is = record { answered = is.answered; owed = is.owed; taken = is.taken; given = is.given; count = is.count; numbered = is.numbered }

-- it goes on to its group's commit
pub history_committing : (es : List Entry) (k begun group p : ℕ) (h : History) → IsHistory es (Phase.Ending group k) begun p h → IsHistory es (Phase.Committing group k) begun p h
history_committing es k begun group p h is = record { answered = is.answered; owed = is.owed; taken = is.taken; given = is.given; count = is.count; numbered = is.numbered }

-- it has its turn, and its task is over with it
pub history_turned_over : (es : List Entry) (begun group p : ℕ) (e : Entry) (h : History) → e.pid ≡ p → e.seq ≡ begun → IsHistory es (Phase.BeforeTurn group e.op) begun p h → IsHistory (es ++ e ∷ []) (Phase.Ending group (length es)) begun p h
history_turned_over es begun group p e h mine seq is = history_ending (es ++ e ∷ []) (length es) begun group p h (history_turned es begun group p e h mine seq is)

-- it is answered, which it can be only with a reply; the phase is one in which an answer is owed
pub history_answered : (es : List Entry) (k begun p : ℕ) (a : Phase) (e : Entry) (answer : Answer) (h : History) → Owed a p es ≡ (λ (given : List Entry). Owes p k es given) → pending_at a ≡ [] → IsEntry es k e → entry_answer e ≡ Some answer
    → IsHistory es a begun p h → IsHistory es Phase.Idle begun p (gives answer h)
history_answered es k begun p a e answer h shape none there tells is =
    let o : Owes p k es is.answered = subst (λ (P : List Entry → Type 0). P is.answered) shape is.owed in
    let same : o.entry ≡ e = entry_same es k o.entry e o.at there in
    record {
      answered = is.answered ++ e ∷ [];
      owed = o.own ∙ ap (λ (f : Entry). is.answered ++ f ∷ []) same;
      taken = is.taken ∙ ap (λ (l : List Op). map op_of (own p es) ++ l) none;
      given = map-append some_answer h.given (answer ∷ []) ∙ ap (λ (l : List (Option Answer)). l ++ Some answer ∷ []) is.given
          ∙ ap (λ (o : Option Answer). map entry_answer is.answered ++ o ∷ []) (sym tells) ∙ sym (map-append entry_answer is.answered (e ∷ []));
      count = is.count;
      numbered = is.numbered;
    }

-- an operation is taken, and answered at once
pub history_at_once : (es : List Entry) (begun p : ℕ) (e : Entry) (answer : Answer) (h : History) → e.pid ≡ p → e.seq ≡ begun + 1 → entry_answer e ≡ Some answer → IsHistory es Phase.Idle begun p h
    → IsHistory (es ++ e ∷ []) Phase.Idle (begun + 1) p (gives answer (takes (Some e.op) h))
history_at_once es begun p e answer h mine seq tells is =
    history_answered (es ++ e ∷ []) (length es) (begun + 1) p (Phase.AfterTurn 0 (length es)) e answer (takes (Some e.op) h) refl refl (entry_new es e) tells
    (history_turned es (begun + 1) 0 p e (takes (Some e.op) h) mine seq (history_taken es begun 0 p e.op h is))

-- before anything was taken
pub history_new : (p : ℕ) → IsHistory [] Phase.Idle 0 p nothing_yet
history_new p = record { answered = []; owed = refl; taken = refl; given = refl; count = refl; numbered = refl }
