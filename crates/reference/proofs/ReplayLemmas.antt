-- A run of the entries that pass a test, one more entry at a time.
use Rattle.std.proofs.Common.{◌≡◌, ℕ, ◌+◌, ◌<◌, ◌≤◌, Bool, true, false, cond, List, [], ◌∷◌, ◌++◌, length, get_or, take, drop, None, Some, Result, Ok, Err, sym, ap, ◌∙◌, add-one, drop-cons}
use Rattle.std.specs.Prelude.{OnErr}
use Rattle.std.specs.List.{filter}
use Rattle.std.proofs.lemmas.List.{append-nil, drop_all, take-append-drop}
use Rattle.std.proofs.lemmas.List.Elements.{filter-append, filter_more}
use Rattle.model.specs.declared.types.operations.Entry.{Entry}
use Rattle.model.specs.declared.types.image.Form.{Form}
use Rattle.model.specs.Files.{Files}
use Rattle.model.specs.Journal.{after_answer, replay}
use Rattle.model.specs.Lemmas.Runs.{replay_more}
use Rattle.reference.specs.Replay.{IsOnTheWay, reached}

filter_left : (p : Entry → Bool) (entries : List Entry) (i : ℕ) (e : Entry) → i < length entries → e ≡ get_or entries i e →
    filter p (drop i entries) ≡ cond (p e) (e ∷ filter p (drop (i + 1) entries)) (filter p (drop (i + 1) entries))
filter_left p entries i e lt is = rw (add-one, drop-cons entries i e lt, ← is)

filter_done : (p : Entry → Bool) (entries : List Entry) (i : ℕ) (e : Entry) → i < length entries → e ≡ get_or entries i e →
    filter p (take (i + 1) entries) ≡ filter p (take i entries) ++ cond (p e) (e ∷ []) []
filter_done p entries i e lt is = rw (filter_more p entries i e lt, ← is)

-- the first i of the entries that pass are done, and the others are left
pub record Run (p : Entry → Bool) (form : Form) (old files : Files) (entries : List Entry) (i : ℕ) : Type 0 where
  pub rest : replay form files (filter p (drop i entries)) ≡ replay form old (filter p entries)
  pub reached : reached form files (filter p (drop i entries)) ≡ reached form old (filter p entries)
  pub before : replay form old (filter p (take i entries)) ≡ Some files

pub run_taken : (p : Entry → Bool) (form : Form) (old files new : Files) (entries : List Entry) (i : ℕ) (e : Entry) →
    Run p form old files entries i → i < length entries → e ≡ get_or entries i e → p e ≡ true →
    after_answer form files e.op e.reply ≡ Some new → Run p form old new entries (i + 1)
run_taken p form old files new entries i e run lt is here next = record {
  rest = rw (filter_left p entries i e lt is, here, next) at run.rest;
  reached = rw (filter_left p entries i e lt is, here, next) at run.reached;
  before = rw (filter_done p entries i e lt is, here) (replay_more form old files new (filter p (take i entries)) e run.before next);
}

pub run_passed : (p : Entry → Bool) (form : Form) (old files : Files) (entries : List Entry) (i : ℕ) (e : Entry) →
    Run p form old files entries i → i < length entries → e ≡ get_or entries i e → p e ≡ false →
    Run p form old files entries (i + 1)
run_passed p form old files entries i e run lt is here = record {
  rest = rw (filter_left p entries i e lt is, here) at run.rest;
  reached = rw (filter_left p entries i e lt is, here) at run.reached;
  before = rw (filter_done p entries i e lt is, here, append-nil) run.before;
}

pub run_on_the_way : {T E : Type 0} (p : Entry → Bool) (form : Form) (old files new : Files) (entries : List Entry) (i : ℕ) (r : Result T E) →
    Run p form old files entries i → new ≡ files → OnErr r (IsOnTheWay form old (filter p entries) new)
run_on_the_way p form old files new entries i (Ok a) run same = tt
run_on_the_way p form old files new entries i (Err e) run same = record {
  before = filter p (take i entries);
  rest = filter p (drop i entries);
  parts = ap (filter p) (sym (take-append-drop i entries)) ∙ filter-append p (take i entries) (drop i entries);
  done = rw same run.before;
}

-- all of them are done
pub run_ended : (p : Entry → Bool) (form : Form) (old files : Files) (entries : List Entry) (i : ℕ) → Run p form old files entries i → length entries ≤ i →
    (replay form old (filter p entries) ≡ Some files) × (files ≡ reached form old (filter p entries))
run_ended p form old files entries i run all =
    let none = drop_all i entries all in
    (sym (rw none at run.rest), rw none at run.reached)

-- the next one can't be
pub run_stopped : (p : Entry → Bool) (form : Form) (old files : Files) (entries : List Entry) (i : ℕ) (e : Entry) →
    Run p form old files entries i → i < length entries → e ≡ get_or entries i e → p e ≡ true → after_answer form files e.op e.reply ≡ None →
    (replay form old (filter p entries) ≡ None) × (files ≡ reached form old (filter p entries))
run_stopped p form old files entries i e run lt is here none =
    (sym (rw (filter_left p entries i e lt is, here, none) at run.rest), rw (filter_left p entries i e lt is, here, none) at run.reached)
