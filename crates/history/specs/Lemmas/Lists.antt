-- Lists one of whose elements is another.
use Rattle.std.proofs.Common.{◌≡◌, ◌≢◌, ℕ, zero, suc, Bool, true, false, cond, ◌&&◌, eqb, List, [], ◌∷◌, ◌++◌, length, set, refl, sym, ap, ◌∙◌, arith}
use Rattle.std.specs.List.{filter, list_all}
use Rattle.history.specs.Common.{append-nil, Entry, eq-eqb, filter-append, IsEntry, IsLast, ne_eqb, own, Reply, told}

-- an entry behind the first
pub entry_next : (d : Entry) (es : List Entry) (k : ℕ) (e : Entry) → IsEntry (d ∷ es) (suc k) e → IsEntry es k e
entry_next d es k e at = let lt = at.inside in record { inside = omega (arith, lt); is = at.is }

-- a list with another element that doesn't pass the test, in the place of one that didn't
pub filter_set_out : (test : Entry → Bool) (es : List Entry) (k : ℕ) (e f : Entry) → IsEntry es k e → test e ≡ false → test f ≡ false → filter test (set es k f) ≡ filter test es
filter_set_out test [] k e f at old new = refl
filter_set_out test (d ∷ es) zero e f at old new = ap (λ (b : Bool). cond b (f ∷ filter test es) (filter test es)) new ∙ sym (ap (λ (b : Bool). cond b (d ∷ filter test es) (filter test es)) (ap test at.is ∙ old))
filter_set_out test (d ∷ es) (suc k) e f at old new = ap (λ (l : List Entry). cond (test d) (d ∷ l) l) (filter_set_out test es k e f (entry_next d es k e at) old new)

-- a test that both pass, or neither does
pub all_set_same : (test : Entry → Bool) (es : List Entry) (k : ℕ) (e f : Entry) → IsEntry es k e → test f ≡ test e → list_all test (set es k f) ≡ list_all test es
all_set_same test [] k e f at same = refl
all_set_same test (d ∷ es) zero e f at same = ap (λ (b : Bool). b && list_all test es) (same ∙ sym (ap test at.is))
all_set_same test (d ∷ es) (suc k) e f at same = ap (λ (b : Bool). test d && b) (all_set_same test es k e f (entry_next d es k e at) same)

-- whose own nobody's entry is
pub own_none : (q : ℕ) (es : List Entry) (k : ℕ) (e : Entry) → own q es ≡ [] → IsEntry es k e → e.pid ≢ q
own_none q [] k e none at mine = let lt = at.inside in absurd (omega (arith, lt))
own_none q (d ∷ es) k e none at mine = by_test (eqb d.pid q) refl none k at (λ j there rest. own_none q es j e rest there mine)
  where
    by_test : (b : Bool) → eqb d.pid q ≡ b → cond b (d ∷ own q es) (own q es) ≡ [] → (k : ℕ) → IsEntry (d ∷ es) k e → ((j : ℕ) → IsEntry es j e → own q es ≡ [] → ⊥) → ⊥
    by_test true is none k at goes = absurd (cc none)
    by_test false is none zero at goes = let t : true ≡ false = sym (eq-eqb d.pid q (ap (λ (f : Entry). f.pid) at.is ∙ mine)) ∙ is in absurd (cc t)
    by_test false is none (suc k) at goes = goes k (entry_next d es k e at) none

-- another's own entries stay
pub own_told_other : (q : ℕ) (es : List Entry) (k : ℕ) (e : Entry) (r : Reply) → IsEntry es k e → e.pid ≢ q → own q (set es k (told e r)) ≡ own q es
own_told_other q es k e r at other = filter_set_out (λ (f : Entry). eqb f.pid q) es k e (told e r) at (ne_eqb e.pid q other) (ne_eqb e.pid q other)

-- the last entry of a process, and what stands before it
pub own_last : (p : ℕ) (es : List Entry) (k : ℕ) (e : Entry) → IsLast p es k → IsEntry es k e → (before : List Entry) × (own p es ≡ before ++ e ∷ []) × ((f : Entry) → f.pid ≡ p → own p (set es k f) ≡ before ++ f ∷ [])
own_last p [] k e last at = absurd last
own_last p (d ∷ es) zero e last at = (
  [],
  ap (λ (b : Bool). cond b (d ∷ own p es) (own p es)) (eq-eqb d.pid p last.0) ∙ (λ t. at.is t ∷ last.1 t),
  λ f mine. ap (λ (b : Bool). cond b (f ∷ own p es) (own p es)) (eq-eqb f.pid p mine) ∙ ap (λ (l : List Entry). f ∷ l) last.1,
)
own_last p (d ∷ es) (suc k) e last at = by_test (eqb d.pid p) refl (own_last p es k e last (entry_next d es k e at))
  where
    by_test : (b : Bool) → eqb d.pid p ≡ b → (before : List Entry) × (own p es ≡ before ++ e ∷ []) × ((f : Entry) → f.pid ≡ p → own p (set es k f) ≡ before ++ f ∷ [])
        → (before : List Entry) × (own p (d ∷ es) ≡ before ++ e ∷ []) × ((f : Entry) → f.pid ≡ p → own p (set (d ∷ es) (suc k) f) ≡ before ++ f ∷ [])
    by_test true is (before, old, new) = (
      d ∷ before,
      ap (λ (b : Bool). cond b (d ∷ own p es) (own p es)) is ∙ ap (λ (l : List Entry). d ∷ l) old,
      λ f mine. ap (λ (b : Bool). cond b (d ∷ own p (set es k f)) (own p (set es k f))) is ∙ ap (λ (l : List Entry). d ∷ l) (new f mine),
    )
    by_test false is (before, old, new) = (
      before,
      ap (λ (b : Bool). cond b (d ∷ own p es) (own p es)) is ∙ old,
      λ f mine. ap (λ (b : Bool). cond b (d ∷ own p (set es k f)) (own p (set es k f))) is ∙ new f mine,
    )

-- it is one
pub last_some : (p : ℕ) (es : List Entry) (k : ℕ) → IsLast p es k → own p es ≡ [] → ⊥
last_some p [] k last none = last
last_some p (d ∷ es) zero last none = let t = sym (ap (λ (b : Bool). cond b (d ∷ own p es) (own p es)) (eq-eqb d.pid p last.0)) ∙ none in cc t
last_some p (d ∷ es) (suc k) last none = by_test (eqb d.pid p) none (last_some p es k last)
  where
    by_test : (b : Bool) → cond b (d ∷ own p es) (own p es) ≡ [] → (own p es ≡ [] → ⊥) → ⊥
    by_test true none goes = absurd (cc none)
    by_test false none goes = goes none

-- there is one alone
pub last_one : (p : ℕ) (es : List Entry) (j k : ℕ) → IsLast p es j → IsLast p es k → j ≡ k
last_one p [] j k one other = absurd one
last_one p (d ∷ es) zero zero one other = refl
last_one p (d ∷ es) zero (suc k) one other = absurd (last_some p es k other one.1)
last_one p (d ∷ es) (suc j) zero one other = absurd (last_some p es j one other.1)
last_one p (d ∷ es) (suc j) (suc k) one other = ap (λ (n : ℕ). suc n) (last_one p es j k one other)

-- who has none has none after an entry of another
pub own_more : (q : ℕ) (es : List Entry) (e : Entry) → own q es ≡ [] → e.pid ≢ q → own q (es ++ e ∷ []) ≡ []
own_more q es e none other = filter-append (λ (f : Entry). eqb f.pid q) es (e ∷ []) ∙ ap (λ (b : Bool). own q es ++ cond b (e ∷ []) []) (ne_eqb e.pid q other) ∙ append-nil (own q es) ∙ none

-- it stays the last, whoever else appends one, and whatever it is told
pub last_more : (p : ℕ) (es : List Entry) (k : ℕ) (e : Entry) → IsLast p es k → e.pid ≢ p → IsLast p (es ++ e ∷ []) k
last_more p [] k e last other = absurd last
last_more p (d ∷ es) zero e last other = (last.0, own_more p es e last.1 other)
last_more p (d ∷ es) (suc k) e last other = last_more p es k e last other

-- whatever it is told
pub last_set : (p : ℕ) (es : List Entry) (k j : ℕ) (e : Entry) (r : Reply) → IsLast p es k → IsEntry es j e → IsLast p (set es j (told e r)) k
last_set p [] k j e r last at = absurd last
last_set p (d ∷ es) zero zero e r last at = (ap (λ (f : Entry). f.pid) (sym at.is) ∙ last.0, last.1)
last_set p (d ∷ es) zero (suc j) e r last at = (last.0, own_told_other p es j e r (entry_next d es j e at) (own_none p es j e last.1 (entry_next d es j e at)) ∙ last.1)
last_set p (d ∷ es) (suc k) zero e r last at = last
last_set p (d ∷ es) (suc k) (suc j) e r last at = last_set p es k j e r last (entry_next d es j e at)

-- a new entry is its process's last
pub last_new : (es : List Entry) (e : Entry) → IsLast e.pid (es ++ e ∷ []) (length es)
last_new [] e = (refl, refl)
last_new (d ∷ es) e = last_new es e

-- one more of a process, and of another
pub own_mine : (p : ℕ) (es : List Entry) (e : Entry) → e.pid ≡ p → own p (es ++ e ∷ []) ≡ own p es ++ e ∷ []
own_mine p es e mine = filter-append (λ (f : Entry). eqb f.pid p) es (e ∷ []) ∙ ap (λ (t : Bool). own p es ++ cond t (e ∷ []) []) (eq-eqb e.pid p mine)

-- another's own entries stay when one has one more
pub own_other : (q : ℕ) (es : List Entry) (e : Entry) → e.pid ≢ q → own q (es ++ e ∷ []) ≡ own q es
own_other q es e other = filter-append (λ (f : Entry). eqb f.pid q) es (e ∷ []) ∙ ap (λ (t : Bool). own q es ++ cond t (e ∷ []) []) (ne_eqb e.pid q other) ∙ append-nil (own q es)

-- an entry stays where it is when one comes more
pub entry_more : (es : List Entry) (k : ℕ) (e f : Entry) → IsEntry es k e → IsEntry (es ++ f ∷ []) k e
entry_more [] k e f at = let lt = at.inside in absurd (omega (arith, lt))
entry_more (d ∷ es) zero e f at = record { inside = omega arith; is = at.is }
entry_more (d ∷ es) (suc k) e f at = let r = entry_more es k e f (entry_next d es k e at) in let lt = r.inside in record { inside = omega (arith, lt); is = r.is }

-- the new one is the last
pub entry_new : (es : List Entry) (e : Entry) → IsEntry (es ++ e ∷ []) (length es) e
entry_new [] e = record { inside = omega arith; is = refl }
entry_new (d ∷ es) e = let r = entry_new es e in let lt = r.inside in record { inside = omega (arith, lt); is = r.is }

-- and when an entry of another process is told its reply
pub entry_set_other : (es : List Entry) (k j : ℕ) (e f g : Entry) → IsEntry es k e → IsEntry es j f → e.pid ≢ f.pid → IsEntry (set es j g) k e
entry_set_other [] k j e f g at there other = let lt = at.inside in absurd (omega (arith, lt))
entry_set_other (d ∷ es) zero zero e f g at there other = absurd (other (ap (λ (x : Entry). x.pid) (sym at.is ∙ there.is)))
entry_set_other (d ∷ es) zero (suc j) e f g at there other = record { inside = omega arith; is = at.is }
entry_set_other (d ∷ es) (suc k) zero e f g at there other = record { inside = at.inside; is = at.is }
entry_set_other (d ∷ es) (suc k) (suc j) e f g at there other =
    let r = entry_set_other es k j e f g (entry_next d es k e at) (entry_next d es j f there) other in let lt = r.inside in record { inside = omega (arith, lt); is = r.is }

-- the told one is there
pub entry_set : (es : List Entry) (k : ℕ) (e f : Entry) → IsEntry es k e → IsEntry (set es k f) k f
entry_set [] k e f at = let lt = at.inside in absurd (omega (arith, lt))
entry_set (d ∷ es) zero e f at = record { inside = omega arith; is = refl }
entry_set (d ∷ es) (suc k) e f at = let r = entry_set es k e f (entry_next d es k e at) in let lt = r.inside in record { inside = omega (arith, lt); is = r.is }

-- an index has one entry
pub entry_same : (es : List Entry) (k : ℕ) (e f : Entry) → IsEntry es k e → IsEntry es k f → e ≡ f
entry_same [] k e f at there = let lt = at.inside in absurd (omega (arith, lt))
entry_same (d ∷ es) zero e f at there = sym at.is ∙ there.is
entry_same (d ∷ es) (suc k) e f at there = entry_same es k e f (entry_next d es k e at) (entry_next d es k f there)

-- lists with one element more that are alike
pub snoc_same : (xs ys : List Entry) (x y : Entry) → xs ++ x ∷ [] ≡ ys ++ y ∷ [] → xs ≡ ys
snoc_same [] [] x y same = refl
snoc_same [] (b ∷ []) x y same = absurd (cc same)
snoc_same [] (b ∷ c ∷ ys) x y same = absurd (cc same)
snoc_same (a ∷ []) [] x y same = absurd (cc same)
snoc_same (a ∷ c ∷ xs) [] x y same = absurd (cc same)
snoc_same (a ∷ xs) (b ∷ ys) x y same =
    let head : a ≡ b = cc same in
    let rest : xs ++ x ∷ [] ≡ ys ++ y ∷ [] = cc same in
    (λ t. head t ∷ snoc_same xs ys x y rest t)
