-- The entries that are still to get their reply, at each event.
use Rattle.std.proofs.Common.{◌≡◌, ◌≢◌, ℕ, zero, suc, Bool, true, false, not, cond, eqb, List, [], ◌∷◌, ◌++◌, set, Option, Some, None, refl, sym, ap, subst, ◌∙◌, arith}
use Rattle.std.specs.Prelude.{is_some, IfNone}
use Rattle.history.specs.Common.{all_apart, answered, AreExclusive, AreOpen, both_of, Entry, eq-eqb, filter-append, Held, held_by, is_late, is_making, IsEntry, IsLast, IsOpen, list_all-append, ne_eqb, number_of, own, Reply, told, touches}
use Rattle.history.specs.Lemmas.Lists.{entry_next, own_more, own_none, own_told_other, last_some}

-- what an open entry has, which comes first
pub first_open : (n : ℕ) (holds : ℕ → Option Held) (d : Entry) (es : List Entry) (o : Option Reply) → o ≡ None → IfNone o (IsOpen n holds d es) → IsOpen n holds d es
first_open n holds d es o none is = subst (λ (p : Option Reply). IfNone p (IsOpen n holds d es)) none is

open_if : (n : ℕ) (holds more : ℕ → Option Held) (d : Entry) (behind after : List Entry) (o : Option Reply) → d.reply ≡ o → (d.reply ≡ None → IsOpen n holds d behind → IsOpen n more d after) → IfNone o (IsOpen n holds d behind) → IfNone o (IsOpen n more d after)
open_if n holds more d behind after None is goes had = goes is had
open_if n holds more d behind after (Some r) is goes had = tt

-- who holds goes on holding
pub open_goes : (n : ℕ) (holds more : ℕ → Option Held) (es : List Entry) → AreOpen n holds es → ((q : ℕ) (h : Held) → holds q ≡ Some h → more q ≡ Some h) → AreOpen n more es
open_goes n holds more [] are goes = tt
open_goes n holds more (d ∷ es) are goes = (
  open_if n holds more d es es d.reply refl (λ none had. record { late = had.late; number = had.number; held = goes d.pid (held_by d.op) had.held; last = had.last; apart = had.apart }) are.0,
  open_goes n holds more es are.1 goes,
)

-- who has no entry may hold something else
nobody : (n : ℕ) (holds more : ℕ → Option Held) (p : ℕ) (es : List Entry) → own p es ≡ [] → AreOpen n holds es → ((q : ℕ) (h : Held) → q ≢ p → holds q ≡ Some h → more q ≡ Some h) → AreOpen n more es
nobody n holds more p [] none are goes = tt
nobody n holds more p (f ∷ fs) none are goes = by_test (eqb f.pid p) refl none (λ rest. nobody n holds more p fs rest are.1 goes)
  where
    by_test : (b : Bool) → eqb f.pid p ≡ b → cond b (f ∷ own p fs) (own p fs) ≡ [] → (own p fs ≡ [] → AreOpen n more fs) → AreOpen n more (f ∷ fs)
    by_test true is none rest = absurd (cc none)
    by_test false is none rest = (
      open_if n holds more f fs fs f.reply refl (λ no had. record {
        late = had.late;
        number = had.number;
        held = goes f.pid (held_by f.op) (λ same. let t : true ≡ false = sym (eq-eqb f.pid p same) ∙ is in absurd (cc t)) had.held;
        last = had.last;
        apart = had.apart;
      }) are.0,
      rest none,
    )

-- process p lets go, where its last entry has a reply
pub open_left : (n : ℕ) (holds more : ℕ → Option Held) (es : List Entry) (p k : ℕ) (e : Entry) (r : Reply) → AreOpen n holds es → IsLast p es k → IsEntry es k e → e.reply ≡ Some r
    → ((q : ℕ) (h : Held) → q ≢ p → holds q ≡ Some h → more q ≡ Some h) → AreOpen n more es
open_left n holds more [] p k e r are last at has goes = tt
open_left n holds more (d ∷ es) p zero e r are last at has goes = (
  subst (λ (o : Option Reply). IfNone o (IsOpen n more d es)) (sym (ap (λ (f : Entry). f.reply) at.is ∙ has)) tt,
  nobody n holds more p es last.1 are.1 goes,
)
open_left n holds more (d ∷ es) p (suc k) e r are last at has goes = (
  open_if n holds more d es es d.reply refl (λ none had. record {
    late = had.late;
    number = had.number;
    held = goes d.pid (held_by d.op) (λ same. last_some p es k last (subst (λ (q : ℕ). own q es ≡ []) same had.last)) had.held;
    last = had.last;
    apart = had.apart;
  }) are.0,
  open_left n holds more es p k e r are.1 last (entry_next d es k e at) has goes,
)

apart_more : (i : ℕ) (es : List Entry) (e : Entry) → all_apart i (answered es) ≡ true → all_apart i (answered (e ∷ [])) ≡ true → all_apart i (answered (es ++ e ∷ [])) ≡ true
apart_more i es e all one = ap (all_apart i) (filter-append (λ (f : Entry). is_some f.reply) es (e ∷ [])) ∙ list_all-append (λ (f : Entry). not (touches i f)) (answered es) (answered (e ∷ [])) ∙ rw (all, one) refl

-- an entry more, with a reply or without
pub open_more : (n : ℕ) (holds more : ℕ → Option Held) (es : List Entry) (e : Entry) → AreOpen n holds es → ((q : ℕ) (h : Held) → holds q ≡ Some h → more q ≡ Some h)
    → ((q : ℕ) (h : Held) → holds q ≡ Some h → (e.pid ≢ q) × (all_apart h.number (answered (e ∷ [])) ≡ true)) → IfNone e.reply (IsOpen n more e []) → AreOpen n more (es ++ e ∷ [])
open_more n holds more [] e are goes apart new = (new, tt)
open_more n holds more (d ∷ es) e are goes apart new = (
  open_if n holds more d es (es ++ e ∷ []) d.reply refl (λ none had.
      let out = apart d.pid (held_by d.op) had.held in record {
        late = had.late;
        number = had.number;
        held = goes d.pid (held_by d.op) had.held;
        last = own_more d.pid es e had.last out.0;
        apart = apart_more (number_of d.op) es e had.apart out.1;
      }) are.0,
  open_more n holds more es e are.1 goes apart new,
)

-- an entry without a reply is a write or a read, whose process holds its number
pub open_entry : (n : ℕ) (holds : ℕ → Option Held) (es : List Entry) (k : ℕ) (e : Entry) → AreOpen n holds es → IsEntry es k e → e.reply ≡ None → (is_late e.op ≡ true) × (holds e.pid ≡ Some (held_by e.op))
open_entry n holds [] k e are at none = let lt = at.inside in absurd (omega (arith, lt))
open_entry n holds (d ∷ es) zero e are at none =
    let mine = first_open n holds d es d.reply (ap (λ (f : Entry). f.reply) at.is ∙ none) are.0 in
    subst (λ (f : Entry). (is_late f.op ≡ true) × (holds f.pid ≡ Some (held_by f.op))) at.is (mine.late, mine.held)
open_entry n holds (d ∷ es) (suc k) e are at none = open_entry n holds es k e are.1 (entry_next d es k e at) none

-- and it is the last entry of its process
pub open_last : (n : ℕ) (holds : ℕ → Option Held) (es : List Entry) (k : ℕ) (e : Entry) → AreOpen n holds es → IsEntry es k e → e.reply ≡ None → IsLast e.pid es k
open_last n holds [] k e are at none = let lt = at.inside in absurd (omega (arith, lt))
open_last n holds (d ∷ es) zero e are at none =
    let mine = first_open n holds d es d.reply (ap (λ (f : Entry). f.reply) at.is ∙ none) are.0 in
    subst (λ (f : Entry). (d.pid ≡ f.pid) × (own f.pid es ≡ [])) at.is (refl, mine.last)
open_last n holds (d ∷ es) (suc k) e are at none = open_last n holds es k e are.1 (entry_next d es k e at) none

apart_told : (i : ℕ) (es : List Entry) (k : ℕ) (e : Entry) (r : Reply) → IsEntry es k e → touches i (told e r) ≡ false → all_apart i (answered es) ≡ true → all_apart i (answered (set es k (told e r))) ≡ true
apart_told i [] k e r at out all = refl
apart_told i (d ∷ es) zero e r at out all = rw out (by_reply d.reply all)
  where
    by_reply : (o : Option Reply) → all_apart i (cond (is_some o) (d ∷ answered es) (answered es)) ≡ true → all_apart i (answered es) ≡ true
    by_reply None all = all
    by_reply (Some s) all = (both_of (not (touches i d)) (all_apart i (answered es)) all).1
apart_told i (d ∷ es) (suc k) e r at out all = by_reply d.reply all (apart_told i es k e r (entry_next d es k e at) out)
  where
    by_reply : (o : Option Reply) → all_apart i (cond (is_some o) (d ∷ answered es) (answered es)) ≡ true → (all_apart i (answered es) ≡ true → all_apart i (answered (set es k (told e r))) ≡ true)
        → all_apart i (cond (is_some o) (d ∷ answered (set es k (told e r))) (answered (set es k (told e r)))) ≡ true
    by_reply None all goes = goes all
    by_reply (Some s) all goes =
        let both = both_of (not (touches i d)) (all_apart i (answered es)) all in
        rw (both.0, goes both.1) refl

-- an open entry is told its reply
pub open_told : (n : ℕ) (holds : ℕ → Option Held) (es : List Entry) (k : ℕ) (e : Entry) (r : Reply) → AreExclusive holds → ((i : ℕ) → is_making i (Some r) ≡ false) → AreOpen n holds es → IsEntry es k e → e.reply ≡ None
    → AreOpen n holds (set es k (told e r))
open_told n holds [] k e r alone made are at none = tt
open_told n holds (d ∷ es) zero e r alone made are at none = (tt, are.1)
open_told n holds (d ∷ es) (suc k) e r alone made are at none =
    let there = entry_next d es k e at in
    let mine = (open_entry n holds es k e are.1 there none).1 in (
      open_if n holds holds d es (set es k (told e r)) d.reply refl (λ no had.
          let other = own_none d.pid es k e had.last there in
          record {
            late = had.late;
            number = had.number;
            held = had.held;
            last = own_told_other d.pid es k e r there other ∙ had.last;
            apart = apart_told (number_of d.op) es k e r there (rw (ne_eqb (number_of e.op) (number_of d.op) (λ same. other (alone e.pid d.pid (held_by e.op) (held_by d.op) mine had.held same))) (made (number_of d.op))) had.apart;
          }) are.0,
      open_told n holds es k e r alone made are.1 there none,
    )
