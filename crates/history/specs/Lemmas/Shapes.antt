-- What is kept of a journal, and its groups, at each event.
use Rattle.std.proofs.Common.{◌≡◌, ◌⊎◌, inl, inr, ℕ, zero, suc, ◌<◌, ◌≤◌, Bool, true, false, not, cond, ◌&&◌, ◌||◌, leb, List, [], ◌∷◌, ◌++◌, set, refl, ap, subst, ◌∙◌, arith, ⊎_elim}
use Rattle.std.specs.Prelude.{All}
use Rattle.std.specs.List.{list_all}
use mathlib.Core.List.{IsPrefix}
use Rattle.history.specs.Common.{All-append, All-cons, All-nil, All-set, append-nil, AreRising, AreUpTo, both_of, cases_lt, Entry, HasItsGroup, is_changing, IsEntry, IsJournal, KeepsBeginnings, kept, le-leb, leb-true, list_all-append, lt-leb, Reply, told}
use Rattle.history.specs.Lemmas.Kept.{kept-append, kept_up_to, kept_not_yet, up_to_one_more, up_to_later}
use Rattle.history.specs.Lemmas.Lists.{entry_next, filter_set_out, all_set_same}

-- a reply of a later group, or of an operation that changes nothing, is not kept
pub kept_told_later : (n c : ℕ) (es : List Entry) (k : ℕ) (e : Entry) (r : Reply) → IsEntry es k e → c < e.group → kept n (set es k (told e r)) c ≡ kept n es c
kept_told_later n c es k e r at later = filter_set_out (λ (f : Entry). is_changing n f.op && leb f.group c) es k e (told e r) at out out
  where
    out : (is_changing n e.op && leb e.group c) ≡ false
    out = by_op (is_changing n e.op)
      where
        by_op : (b : Bool) → (b && leb e.group c) ≡ false
        by_op true = lt-leb e.group c later
        by_op false = refl

-- a reply of an operation that changes nothing
pub kept_told_still : (n c : ℕ) (es : List Entry) (k : ℕ) (e : Entry) (r : Reply) → IsEntry es k e → is_changing n e.op ≡ false → kept n (set es k (told e r)) c ≡ kept n es c
kept_told_still n c es k e r at still = filter_set_out (λ (f : Entry). is_changing n f.op && leb f.group c) es k e (told e r) at (rw still refl) (rw still refl)

-- an entry of a later group
pub kept_one_later : (n c : ℕ) (es : List Entry) (e : Entry) → c < e.group → kept n (es ++ e ∷ []) c ≡ kept n es c
kept_one_later n c es e later = kept-append n c es (e ∷ []) ∙ ap (λ (l : List Entry). kept n es c ++ l) (kept_not_yet n c e later) ∙ append-nil (kept n es c)

-- what is kept of groups below all is nothing
none_below : (n g c : ℕ) (es : List Entry) → c < g → list_all (λ (f : Entry). not (is_changing n f.op) || leb g f.group) es ≡ true → kept n es c ≡ []
none_below n g c [] lt all = refl
none_below n g c (e ∷ es) lt all =
    let both = both_of (not (is_changing n e.op) || leb g e.group) (list_all (λ (f : Entry). not (is_changing n f.op) || leb g f.group) es) all in
    by_op (is_changing n e.op) both.0 (none_below n g c es lt both.1)
  where
    by_op : (b : Bool) → (not b || leb g e.group) ≡ true → kept n es c ≡ [] → cond (b && leb e.group c) (e ∷ kept n es c) (kept n es c) ≡ []
    by_op true high rest = let h = leb-true g e.group high in rw (lt-leb e.group c (omega (arith, h, lt))) rest
    by_op false high rest = rest

-- so what is kept of any count of groups is a beginning of what is kept of more
pub rising_prefix : (n c k : ℕ) (es : List Entry) → c ≤ k → AreRising n es → IsPrefix (kept n es c) (kept n es k)
rising_prefix n c k [] le rising = ([], refl)
rising_prefix n c k (e ∷ es) le rising = by_tests (is_changing n e.op) refl (⊎_elim (λ (late : c < e.group). inr late) (λ (early : e.group ≤ c). inl early) (cases_lt c e.group)) (rising_prefix n c k es le rising.1)
  where
    by_tests : (b : Bool) → is_changing n e.op ≡ b → ((e.group ≤ c) ⊎ (c < e.group)) → IsPrefix (kept n es c) (kept n es k) → IsPrefix (cond (b && leb e.group c) (e ∷ kept n es c) (kept n es c)) (cond (b && leb e.group k) (e ∷ kept n es k) (kept n es k))
    by_tests false is early rest = rest
    by_tests true is (inl early) (more, rest) = rw (le-leb e.group c early, le-leb e.group k (omega (arith, early, le))) (more, ap (λ (l : List Entry). e ∷ l) rest)
    by_tests true is (inr late) rest = rw (lt-leb e.group c late, none_below n e.group c es late (rising.0 is)) (cond (leb e.group k) (e ∷ kept n es k) (kept n es k), refl)

-- what is kept of any count is a beginning of what is kept of all
pub rising_beginnings : (n k : ℕ) (es : List Entry) → AreUpTo k es → AreRising n es → KeepsBeginnings n es k
rising_beginnings n k es all rising c = ⊎_elim
    (λ (lt : c < k). rising_prefix n c k es (omega (arith, lt)) rising)
    (λ (le : k ≤ c). ([], append-nil (kept n es c) ∙ kept_up_to n k c es all le))
    (cases_lt c k)

-- an entry more, of the newest group
pub rising_more : (n k : ℕ) (es : List Entry) (e : Entry) → AreUpTo k es → (is_changing n e.op ≡ true → k ≤ e.group) → AreRising n es → AreRising n (es ++ e ∷ [])
rising_more n k [] e all newest rising = ((λ c. refl), tt)
rising_more n k (d ∷ es) e all newest rising =
    let both = both_of (leb d.group k) (list_all (λ (f : Entry). leb f.group k) es) all in (
      (λ c. list_all-append (λ (f : Entry). not (is_changing n f.op) || leb d.group f.group) es (e ∷ []) ∙ rw (rising.0 c) (one (leb-true d.group k both.0) (is_changing n e.op) newest)),
      rising_more n k es e both.1 newest rising.1,
    )
  where
    one : d.group ≤ k → (b : Bool) → (b ≡ true → k ≤ e.group) → ((not b || leb d.group e.group) && true) ≡ true
    one low true newest = let h = newest refl in rw (le-leb d.group e.group (omega (arith, low, h))) refl
    one low false newest = refl

-- a reply leaves the groups
pub rising_told : (n : ℕ) (es : List Entry) (k : ℕ) (e : Entry) (r : Reply) → IsEntry es k e → AreRising n es → AreRising n (set es k (told e r))
rising_told n [] k e r at rising = tt
rising_told n (d ∷ es) zero e r at rising =
    ((λ c. subst (λ (f : Entry). list_all (λ (g : Entry). not (is_changing n g.op) || leb f.group g.group) es ≡ true) at.is (rising.0 (ap (λ (f : Entry). is_changing n f.op) at.is ∙ c))), rising.1)
rising_told n (d ∷ es) (suc k) e r at rising =
    ((λ c. all_set_same (λ (g : Entry). not (is_changing n g.op) || leb d.group g.group) es k e (told e r) (entry_next d es k e at) refl ∙ rising.0 c), rising_told n es k e r (entry_next d es k e at) rising.1)

its_group_told : (n : ℕ) (es : List Entry) (k : ℕ) (e : Entry) (r : Reply) → IsEntry es k e → All (HasItsGroup n) es → All (HasItsGroup n) (set es k (told e r))
its_group_told n es k e r at all = All-set (HasItsGroup n) es k (told e r) (subst (HasItsGroup n) at.is (all k e at.inside)) all

module _ (n k : ℕ) (es : List Entry) (j : IsJournal n k es) where
  pub journal_later : (m : ℕ) → k ≤ m → IsJournal n m es
  journal_later m le = record { groups = up_to_later k m es j.groups le; rising = j.rising; changing = j.changing }

  -- an entry of the newest group, or one that changes nothing and has none
  pub journal_more : (e : Entry) → e.group ≤ k → (is_changing n e.op ≡ true → k ≤ e.group) → HasItsGroup n e → IsJournal n k (es ++ e ∷ [])
  journal_more e low newest its = record {
    groups = up_to_one_more k es e j.groups low;
    rising = rising_more n k es e j.groups newest j.rising;
    changing = All-append (HasItsGroup n) es (e ∷ []) j.changing (All-cons (HasItsGroup n) e [] its (All-nil (HasItsGroup n)));
  }

  -- a reply comes
  pub journal_told : (i : ℕ) (e : Entry) (r : Reply) → IsEntry es i e → IsJournal n k (set es i (told e r))
  journal_told i e r at = record {
    groups = all_set_same (λ (f : Entry). leb f.group k) es i e (told e r) at refl ∙ j.groups;
    rising = rising_told n es i e r at j.rising;
    changing = its_group_told n es i e r at j.changing;
  }
