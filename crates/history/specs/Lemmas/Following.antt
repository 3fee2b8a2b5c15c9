-- Each event of a store keeps that the journal follows its files.
use Rattle.std.proofs.Common.{◌≡◌, ◌≢◌, ℕ, false, cond, List, [], ◌∷◌, ◌++◌, length, set, Option, Some, None, refl, sym, ap, subst, ◌∙◌}
use Rattle.std.specs.Prelude.{is_some, IfNone}
use Rattle.history.specs.Common.{all_apart, answered, append-nil, AreExclusive, Entry, Files, filter-append, Follows, Form, Held, is_making, IsEntry, IsLast, IsOpen, replay, replay_more, Reply, told, touches}
use Rattle.model.specs.Operations.{after}
use Rattle.history.specs.Lemmas.Told.{told_replays}
use Rattle.history.specs.Lemmas.Opens.{open_goes, open_left, open_more, open_told}

-- an operation with its reply takes some files to others
abbrev pub Takes : Form → (Files → Type 0) → (Files → Type 0) → Entry → Reply → Type 0
Takes form fit new e r = (m : Files) → fit m → (w : Files) × (after form m e.op r ≡ Some w) × new w

answered_none : (es : List Entry) (e : Entry) → e.reply ≡ None → answered (es ++ e ∷ []) ≡ answered es
answered_none es e none = filter-append (λ (f : Entry). is_some f.reply) es (e ∷ []) ∙ ap (λ (o : Option Reply). answered es ++ cond (is_some o) (e ∷ []) []) none ∙ append-nil (answered es)

-- one that has a reply is one more of those
pub answered_some : (es : List Entry) (e : Entry) (r : Reply) → e.reply ≡ Some r → answered (es ++ e ∷ []) ≡ answered es ++ e ∷ []
answered_some es e r has = filter-append (λ (f : Entry). is_some f.reply) es (e ∷ []) ∙ ap (λ (o : Option Reply). answered es ++ cond (is_some o) (e ∷ []) []) has

module _ (form : Form) (start : Files) (holds : ℕ → Option Held) (fit : Files → Type 0) (es : List Entry) (f : Follows form start holds fit es) where
  -- the store goes on, or fails
  pub follows_moved : (more : ℕ → Option Held) (new : Files → Type 0) → ((q : ℕ) (h : Held) → holds q ≡ Some h → more q ≡ Some h) → ((m : Files) → fit m → new m) → Follows form start more new es
  follows_moved more new goes same = record { files = f.files; run = f.run; are = open_goes (length start) holds more es f.are goes; fits = same f.files f.fits }

  -- process p lets go what it held, after its reply
  pub follows_left : (more : ℕ → Option Held) (new : Files → Type 0) (p k : ℕ) (e : Entry) (r : Reply) → IsLast p es k → IsEntry es k e → e.reply ≡ Some r
      → ((q : ℕ) (h : Held) → q ≢ p → holds q ≡ Some h → more q ≡ Some h) → ((m : Files) → fit m → new m) → Follows form start more new es
  follows_left more new p k e r last at has goes same = record { files = f.files; run = f.run; are = open_left (length start) holds more es p k e r f.are last at has goes; fits = same f.files f.fits }

  -- a turn with a reply, which has nothing to do with what others hold
  pub follows_turned : (more : ℕ → Option Held) (new : Files → Type 0) (e : Entry) (r : Reply) → e.reply ≡ Some r → ((q : ℕ) (h : Held) → holds q ≡ Some h → more q ≡ Some h)
      → ((q : ℕ) (h : Held) → holds q ≡ Some h → (e.pid ≢ q) × (touches h.number e ≡ false)) → Takes form fit new e r → Follows form start more new (es ++ e ∷ [])
  follows_turned more new e r has goes apart takes =
      let w = takes f.files f.fits in
      record {
        files = w.0;
        run = ap (replay form start) (answered_some es e r has) ∙ replay_more form start f.files w.0 (answered es) e f.run (rw has w.1);
        are = open_more (length start) holds more es e f.are goes
            (λ q h held. let out = apart q h held in (out.0, ap (λ (o : Option Reply). all_apart h.number (cond (is_some o) (e ∷ []) [])) has ∙ rw out.1 refl))
            (subst (λ (o : Option Reply). IfNone o (IsOpen (length start) more e [])) (sym has) tt);
        fits = w.2;
      }

  -- a turn whose reply is still to come
  pub follows_opened : (more : ℕ → Option Held) (new : Files → Type 0) (e : Entry) → e.reply ≡ None → ((q : ℕ) (h : Held) → holds q ≡ Some h → more q ≡ Some h)
      → ((q : ℕ) (h : Held) → holds q ≡ Some h → e.pid ≢ q) → IsOpen (length start) more e [] → ((m : Files) → fit m → new m) → Follows form start more new (es ++ e ∷ [])
  follows_opened more new e none goes apart is same = record {
    files = f.files;
    run = ap (replay form start) (answered_none es e none) ∙ f.run;
    are = open_more (length start) holds more es e f.are goes
        (λ q h held. (apart q h held, ap (λ (o : Option Reply). all_apart h.number (cond (is_some o) (e ∷ []) [])) none))
        (subst (λ (o : Option Reply). IfNone o (IsOpen (length start) more e [])) (sym none) is);
    fits = same f.files f.fits;
  }

  -- a reply comes
  pub follows_told : (new : Files → Type 0) (k : ℕ) (e : Entry) (r : Reply) → AreExclusive holds → ((i : ℕ) → is_making i (Some r) ≡ false) → IsEntry es k e → e.reply ≡ None → Takes form fit new e r → Follows form start holds new (set es k (told e r))
  follows_told new k e r alone made at none takes =
      let w = takes f.files f.fits in
      record {
        files = w.0;
        run = told_replays form start f.files w.0 holds es k e r f.are at none f.run w.1;
        are = open_told (length start) holds es k e r alone made f.are at none;
        fits = w.2;
      }
