-- A reply that comes to an earlier entry.
use Rattle.std.proofs.Common.{◌≡◌, ℕ, zero, suc, ◌<◌, cond, ltb, List, [], ◌∷◌, length, set, Option, Some, None, refl, sym, ap, subst, ◌∙◌, arith}
use Rattle.std.specs.Prelude.{is_some}
use Rattle.history.specs.Common.{after_answer, and_then, and_then_some, answered, AreOpen, both_of, count_stays, Entry, Files, Form, Held, IsEntry, IsOpen, length-after, ltb-true, number_of, replay, Reply, told}
use Rattle.model.specs.Operations.{after}
use Rattle.history.specs.Lemmas.Opens.{first_open}
use Rattle.history.specs.Lemmas.Deciding.{decided}

-- an entry leaves the count of files
pub answer_length : (form : Form) (files new : Files) (e : Entry) → after_answer form files e.op e.reply ≡ Some new → length new ≡ length files
answer_length form files new e h = by_reply e.reply h
  where
    by_reply : (o : Option Reply) → after_answer form files e.op o ≡ Some new → length new ≡ length files
    by_reply None h = absurd (cc h)
    by_reply (Some r) h = length-after form files new e.op r h

-- whether the first entry has a reply or not, what comes behind it goes on
behind_run : (form : Form) (start files : Files) (d : Entry) (es : List Entry) → replay form start (answered (d ∷ es)) ≡ Some files
    → (f : Files) × (length f ≡ length start) × (replay form f (answered es) ≡ Some files) × ((gs : List Entry) (new : Files) → replay form f (answered gs) ≡ Some new → replay form start (answered (d ∷ gs)) ≡ Some new)
behind_run form start files d es run = by_reply d.reply refl
  where
    by_reply : (o : Option Reply) → d.reply ≡ o → (f : Files) × (length f ≡ length start) × (replay form f (answered es) ≡ Some files) × ((gs : List Entry) (new : Files) → replay form f (answered gs) ≡ Some new → replay form start (answered (d ∷ gs)) ≡ Some new)
    by_reply None is = (start, refl, sym (ap (λ (o : Option Reply). replay form start (cond (is_some o) (d ∷ answered es) (answered es))) is) ∙ run, λ gs new go. ap (λ (o : Option Reply). replay form start (cond (is_some o) (d ∷ answered gs) (answered gs))) is ∙ go)
    by_reply (Some r) is =
        let first = and_then_some (after_answer form start d.op d.reply) (λ f. replay form f (answered es)) files (sym (ap (λ (o : Option Reply). replay form start (cond (is_some o) (d ∷ answered es) (answered es))) is) ∙ run) in (
          first.0,
          answer_length form start first.0 d first.1,
          first.2,
          λ gs new go. ap (λ (o : Option Reply). replay form start (cond (is_some o) (d ∷ answered gs) (answered gs))) is ∙ ap (λ (o : Option Files). and_then o (λ f. replay form f (answered gs))) first.1 ∙ go,
        )

-- a reply that is put into an earlier entry is as good as one at the end of the journal
pub told_replays : (form : Form) (start files new : Files) (holds : ℕ → Option Held) (es : List Entry) (k : ℕ) (e : Entry) (r : Reply) → AreOpen (length start) holds es → IsEntry es k e → e.reply ≡ None
    → replay form start (answered es) ≡ Some files → after form files e.op r ≡ Some new → replay form start (answered (set es k (told e r))) ≡ Some new
told_replays form start files new holds [] k e r are at none run h = let lt = at.inside in absurd (omega (arith, lt))
told_replays form start files new holds (d ∷ es) zero e r are at none run h =
    let is = at.is in
    let mine : IsOpen (length start) holds d es = first_open (length start) holds d es d.reply (ap (λ (f : Entry). f.reply) is ∙ none) are.0 in
    let there : replay form start (answered es) ≡ Some files = sym (ap (λ (o : Option Reply). replay form start (cond (is_some o) (d ∷ answered es) (answered es))) (ap (λ (f : Entry). f.reply) is ∙ none)) ∙ run in
    let low : number_of d.op < length start = ltb-true (number_of d.op) (length start) (both_of (ltb 0 (number_of d.op)) (ltb (number_of d.op) (length start)) mine.number).1 in
    let same : length files ≡ length start = count_stays form start files (answered es) there in
    ap (λ (f : Entry). replay form start (told f r ∷ answered es)) (sym is)
    ∙ decided form start files new (answered es) d.op r mine.late (omega (arith, low, same)) mine.apart there (ap (λ (f : Entry). after form files f.op r) is ∙ h)
told_replays form start files new holds (d ∷ es) (suc k) e r are at none run h =
    let lt = at.inside in
    let goes = behind_run form start files d es run in
    goes.3 (set es k (told e r)) new (told_replays form goes.0 files new holds es k e r (subst (λ (n : ℕ). AreOpen n holds es) (sym goes.1) are.1) (record { inside = omega (arith, lt); is = at.is }) none goes.2 h)
