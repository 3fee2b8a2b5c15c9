-- Where no changing operation is under way, the image has the files after what is kept of all groups.
use Rattle.std.proofs.Common.{◌≡◌, ℕ, Bool, true, false, not, cond, ◌&&◌, leb, List, [], ◌∷◌, length, Option, Some, None, refl, sym, ap, subst, ◌∙◌}
use Rattle.std.specs.Prelude.{is_some}
use Rattle.std.specs.List.{list_all}
use Rattle.model.specs.declared.types.operations.Attribute.TheVariants.{Links, Size}
use Rattle.history.specs.Common.{after_answer, after_at, after_refusal, and_then, and_then_some, answered, AreOpen, AreUpTo, at_once_is_not_changing, at_once_is_refused, both_of, Bytes, Create, Entry, File, file_in, Files, Follows, Form, Held, held_by, is_at_once, is_changing, is_late, is_write_op, is_writing, IsOpen, kept, SetAttribute, Op, Read, refusal_of, refusals_first, Remove, replay, Reply, Stat, StatOf, Trunc, where_true_some, Write, zero_stays}
use Rattle.model.specs.Operations.{after}
use Rattle.history.specs.Lemmas.Opens.{first_open}
use Rattle.history.specs.Lemmas.Told.{answer_length}

-- nobody writes
abbrev pub NobodyWrites : (ℕ → Option Held) → Type 0
NobodyWrites holds = (q : ℕ) (h : Held) → holds q ≡ Some h → h.writes ≡ false

-- then each changing entry has its reply
pub kept_answered : (n m c : ℕ) (holds : ℕ → Option Held) (es : List Entry) → AreOpen m holds es → NobodyWrites holds → kept n (answered es) c ≡ kept n es c
kept_answered n m c holds [] are none = refl
kept_answered n m c holds (d ∷ es) are none = by_reply d.reply refl (kept_answered n m c holds es are.1 none)
  where
    not_write : (op : Op) → is_late op ≡ true → is_write_op op ≡ false → is_changing n op ≡ false
    not_write (Create kind) late w = absurd (cc late)
    not_write (Write i off bytes) late w = absurd (cc w)
    not_write (Read i off k) late w = refl
    not_write (Trunc i) late w = absurd (cc late)
    not_write (Remove i) late w = absurd (cc late)
    not_write (Stat i) late w = absurd (cc late)
    not_write (SetAttribute i (Links v)) late w = absurd (cc late)
    not_write (SetAttribute i (Size v)) late w = absurd (cc w)

    by_reply : (o : Option Reply) → d.reply ≡ o → kept n (answered es) c ≡ kept n es c → kept n (cond (is_some o) (d ∷ answered es) (answered es)) c ≡ kept n (d ∷ es) c
    by_reply (Some r) is rest = ap (λ (l : List Entry). cond (is_changing n d.op && leb d.group c) (d ∷ l) l) rest
    by_reply None is rest =
        let mine : IsOpen m holds d es = first_open m holds d es d.reply is are.0 in
        let still = not_write d.op mine.late (none d.pid (held_by d.op) mine.held) in
        rest ∙ sym (ap (λ (b : Bool). cond (b && leb d.group c) (d ∷ kept n es c) (kept n es c)) still)

-- what is read or looked at stays
looked_same : (files new : Files) (i : ℕ) (o : Option File) (op : Op) (reply : Reply) → is_writing op ≡ false → after_at files i o op reply ≡ Some new → new ≡ files
looked_same files new i None op reply not h = absurd (cc h)
looked_same files new i (Some file) (Create kind) reply not h = absurd (cc not)
looked_same files new i (Some file) (Write j off bytes) reply not h = absurd (cc not)
looked_same files new i (Some file) (Trunc j) reply not h = absurd (cc not)
looked_same files new i (Some file) (Remove j) reply not h = absurd (cc not)
looked_same files new i (Some file) (SetAttribute j attribute) reply not h = absurd (cc not)
looked_same files new i (Some file) (Read j off k) (Bytes bytes) not h = (where_true_some _ files new h).1
looked_same files new i (Some file) (Stat j) (StatOf kind links size) not h = (where_true_some _ files new h).1
looked_same files new i (Some file) (Read j off k) reply not h = absurd (cc h)
looked_same files new i (Some file) (Stat j) reply not h = absurd (cc h)

not_changing : (w o : Bool) → (w && not o) ≡ false → o ≡ false → w ≡ false
not_changing true o h none = let t : true ≡ false = sym (rw none refl) ∙ h in absurd (cc t)
not_changing false o h none = refl

looked_at : (form : Form) (files new : Files) (op : Op) (reply : Reply) (o : Option Reply) → refusal_of form files op ≡ o → is_writing op ≡ false → after_refusal o files op reply ≡ Some new → new ≡ files
looked_at form files new op reply (Some refusal) is not h = (where_true_some _ files new h).1
looked_at form files new (Create kind) reply None is not h = absurd (cc not)
looked_at form files new (Write i off bytes) reply None is not h = absurd (cc not)
looked_at form files new (Trunc i) reply None is not h = absurd (cc not)
looked_at form files new (Remove i) reply None is not h = absurd (cc not)
looked_at form files new (SetAttribute i attribute) reply None is not h = absurd (cc not)
looked_at form files new (Read i off k) reply None is not h = looked_same files new i (file_in files i) (Read i off k) reply refl h
looked_at form files new (Stat i) reply None is not h = looked_same files new i (file_in files i) (Stat i) reply refl h

some_of : (o : Option Reply) → is_some o ≡ true → (r : Reply) × (o ≡ Some r)
some_of None h = absurd (cc h)
some_of (Some r) h = (r, refl)

-- an operation that is not changing leaves the files
pub still_op : (form : Form) (files new : Files) (op : Op) (reply : Reply) → is_changing (length files) op ≡ false → file_in files 0 ≡ None → after form files op reply ≡ Some new → new ≡ files
unfolding after
still_op form files new op reply still zero_none h = by_test (is_at_once (length files) op) refl
  where
    by_test : (b : Bool) → is_at_once (length files) op ≡ b → new ≡ files
    by_test true is =
        let r = some_of (refusal_of form files op) (at_once_is_refused form files op zero_none is) in
        ((refusals_first form files op r.0 r.1).1 reply new h).1
    by_test false is = looked_at form files new op reply (refusal_of form files op) refl (not_changing (is_writing op) (is_at_once (length files) op) (sym (at_once_is_not_changing (length files) op) ∙ still) is) h

-- a run is one of what is kept of all groups
pub kept_replays : (form : Form) (n o : ℕ) (start files : Files) (es : List Entry) → length start ≡ n → file_in start 0 ≡ None → AreUpTo o es → replay form start es ≡ Some files → replay form start (kept n es o) ≡ Some files
kept_replays form n o start files [] count none all h = h
kept_replays form n o start files (e ∷ es) count none all h =
    let both = both_of (leb e.group o) (list_all (λ (f : Entry). leb f.group o) es) all in
    let first = and_then_some (after_answer form start e.op e.reply) (λ f. replay form f es) files h in
    let rest = kept_replays form n o first.0 files es (answer_length form start first.0 e first.1 ∙ count)
    (zero_stays form start first.0 (e ∷ []) none (ap (λ (p : Option Files). and_then p (λ f. replay form f [])) first.1)) both.1 first.2 in
    by_op (is_changing n e.op) refl both.0 first.0 first.1 rest
  where
    by_op : (b : Bool) → is_changing n e.op ≡ b → leb e.group o ≡ true → (mid : Files) → after_answer form start e.op e.reply ≡ Some mid → replay form mid (kept n es o) ≡ Some files → replay form start (cond (b && leb e.group o) (e ∷ kept n es o) (kept n es o)) ≡ Some files
    by_op true is low mid first rest = rw low (ap (λ (p : Option Files). and_then p (λ f. replay form f (kept n es o))) first ∙ rest)
    by_op false is low mid first rest = subst (λ (f : Files). replay form f (kept n es o) ≡ Some files) (by_reply e.reply first) rest
      where
        by_reply : (r : Option Reply) → after_answer form start e.op r ≡ Some mid → mid ≡ start
        by_reply None h = absurd (cc h)
        by_reply (Some r) h = still_op form start mid e.op r (ap (λ (k : ℕ). is_changing k e.op) count ∙ is) none h

answered_up_to : (o : ℕ) (es : List Entry) → AreUpTo o es → AreUpTo o (answered es)
answered_up_to o [] all = refl
answered_up_to o (e ∷ es) all =
    let both = both_of (leb e.group o) (list_all (λ (f : Entry). leb f.group o) es) all in by_reply e.reply both.0 (answered_up_to o es both.1)
  where
    by_reply : (r : Option Reply) → leb e.group o ≡ true → AreUpTo o (answered es) → AreUpTo o (cond (is_some r) (e ∷ answered es) (answered es))
    by_reply None low rest = rest
    by_reply (Some r) low rest = rw low rest

-- the files that the store has are those after what is kept of all groups
pub quiet_replays : (form : Form) (start : Files) (holds : ℕ → Option Held) (fit : Files → Type 0) (o : ℕ) (es : List Entry) (f : Follows form start holds fit es) → NobodyWrites holds → file_in start 0 ≡ None → AreUpTo o es
    → replay form start (kept (length start) es o) ≡ Some f.files
quiet_replays form start holds fit o es f nobody none all =
    ap (replay form start) (sym (kept_answered (length start) (length start) o holds es f.are nobody))
    ∙ kept_replays form (length start) o start f.files (answered es) refl none (answered_up_to o es all) f.run
