-- What every kernel tells of itself.
use Rattle.std.proofs.Common.{◌≡◌, ℕ, Bool, true, false, cond, eqb, leb, List, [], ◌∷◌, ◌++◌, length, map, refl, sym, ◌∙◌, ap, subst, Option, Some, None}
use Rattle.std.specs.Prelude.{IsSome, is_some, All}
use Rattle.std.specs.List.{filter, list_all}
use mathlib.Core.List.{IsPrefix}
use Rattle.history.specs.Common.{after_answer, Agrees, All-cons, All-nil, and_then_some, answered, append_assoc, AreOpen, AreUpTo, block_at, both_of, cleared, CrashKeeps, DeviceFault, Entry, eqb-true, FailsAt, Files, files_of, filter-append, Form, form_of, HasFilesAfter, HasItsGroup, Held, held_by, History, Image, inode_count_of, is_changing, is_late, is_lawful_log, IsEntry, IsJournal, IsValidView, KeepsNow, kept, KernelFacts, LastingFacts, LogState, map-append, most_of, Op, own, Phase, place_at, replay, Reply, StandsAt, super_in, Survives, used_by, View, VolumeState}
use Rattle.model.specs.Lemmas.Frames.{form_agree}
use Rattle.wal.specs.Floats.{Survives as SurvivesAt}
use Rattle.wal.specs.Machine.{is_writing}
use Rattle.history.specs.Histories.{IsHistory, pending_at}
use Rattle.history.specs.Lemmas.Following.{follows_moved}
use Rattle.history.specs.Lemmas.Groups.{outstanding_none}
use Rattle.history.specs.Lemmas.Kept.{own_beginning}
use Rattle.history.specs.Lemmas.Shapes.{rising_beginnings}
use Rattle.history.specs.Lemmas.Stops.{quiet_files, left_keeps, write_fails}
use Rattle.history.specs.Lemmas.Opens.{first_open, open_entry}

-- each entry of a run has its reply: so has each that is kept of the committed groups, also after a fault
pub replayed_told : (form : Form) (start files : Files) (es : List Entry) → replay form start es ≡ Some files → All (λ (e : Entry). IsSome e.reply) es
replayed_told form start files [] run = All-nil (λ (e : Entry). IsSome e.reply)
replayed_told form start files (e ∷ es) run =
    let first = and_then_some (after_answer form start e.op e.reply) (λ f. replay form f es) files run in
    All-cons (λ (f : Entry). IsSome f.reply) e es (by_reply e.reply first.1) (replayed_told form first.0 files es first.2)
  where
    by_reply : {mid : Files} → (o : Option Reply) → after_answer form start e.op o ≡ Some mid → IsSome o
    by_reply None h = absurd (cc h)
    by_reply (Some r) h = refl

-- who holds something is behind its turn
pub holder_behind : (n : ℕ) (s : View) (es : List Entry) (q : ℕ) (h : Held) (a : Phase) → s.holds q ≡ Some h → StandsAt n s es q a → (g : ℕ) × (k : ℕ) × (a ≡ Phase.AfterTurn g k)
holder_behind n s es q h Phase.Idle held is = let t = sym is.0 ∙ held in absurd (cc t)
holder_behind n s es q h (Phase.BeforeTurn group op) held is = let t = sym is.0 ∙ held in absurd (cc t)
holder_behind n s es q h (Phase.AfterTurn group k) held is = (group, k, refl)
holder_behind n s es q h (Phase.Ending group k) held is = let t = sym is.0 ∙ held in absurd (cc t)
holder_behind n s es q h (Phase.Committing group k) held is = let t = sym is.0 ∙ held in absurd (cc t)

-- where nobody holds anything, each entry has its reply
pub all_answered : (n : ℕ) (holds : ℕ → Option Held) (es : List Entry) → AreOpen n holds es → ((q : ℕ) → holds q ≡ None) → answered es ≡ es
all_answered n holds [] are none = refl
all_answered n holds (d ∷ es) are none = by_reply d.reply refl (all_answered n holds es are.1 none)
  where
    by_reply : (o : Option Reply) → d.reply ≡ o → answered es ≡ es → answered (d ∷ es) ≡ d ∷ es
    by_reply None is rest = let mine = first_open n holds d es d.reply is are.0 in let t = sym (none d.pid) ∙ mine.held in absurd (cc t)
    by_reply (Some r) is rest = ap (λ (o : Option Reply). cond (is_some o) (d ∷ answered es) (answered es)) is ∙ ap (λ (l : List Entry). d ∷ l) rest

-- what lasts after a fault
module _ (opening : Image) (opened : ℕ) (holds : ℕ → Option Held) (es : List Entry) (ats : ℕ → Phase) (i : LastingFacts opening opened holds es ats) where
  -- the entries that have a reply replay
  pub lasting_run : (f : Files) × (replay (form_of opening) (files_of opening) (answered es) ≡ Some f)
  lasting_run = (i.follows.files, i.follows.run)

module _ (opening : Image) (s : View) (es : List Entry) (ats : ℕ → Phase) (i : KernelFacts opening s es ats) where
  -- after any fault the journal goes on to be a run, and its entries without a reply stay under way
  pub known_halted : LastingFacts opening s.log.opened s.holds es ats
  known_halted = record {
    journal = i.journal;
    follows = follows_moved (form_of opening) (files_of opening) s.holds s.fits es i.follows s.holds (λ m. Unit {0}) (λ q h held. held) (λ m fit. tt);
    behind = λ q h held. holder_behind (inode_count_of opening) s es q h (ats q) held (i.stands q);
  }

  -- the entries that have a reply replay, and each other one is under way
  pub known_run : (f : Files) × (replay (form_of opening) (files_of opening) (answered es) ≡ Some f)
  known_run = lasting_run opening s.log.opened s.holds es ats known_halted

  -- size, form and count of numbers are the opening's
  pub known_size : length s.current ≡ length opening
  known_size = i.recovers.marks.size

  -- while no changing operation is under way, the current image has the files after the changing entries
  pub known_current : s.log.outstanding ≡ 0 → HasFilesAfter opening (kept (inode_count_of opening) es s.log.opened) (cleared s.current)
  known_current none = quiet_files opening s.current s.log s.holds s.fits es i.follows i.journal.groups i.recovers.marks i.valid.store i.valid.log none

  -- while none is, it has those after all of the journal
  pub idle_used : (n : ℕ) (q : ℕ) (a : Phase) → a ≡ Phase.Idle → StandsAt n s es q a → is_some (used_by s.log q) ≡ false
  idle_used n q a is stands = let t : StandsAt n s es q Phase.Idle = subst (λ (b : Phase). StandsAt n s es q b) is stands in t.1

  idle_holds : (n : ℕ) (q : ℕ) (a : Phase) → a ≡ Phase.Idle → StandsAt n s es q a → s.holds q ≡ None
  idle_holds n q a is stands = let t : StandsAt n s es q Phase.Idle = subst (λ (b : Phase). StandsAt n s es q b) is stands in t.0

  -- while nothing is under way, the current image has the files after all of the journal
  pub known_files : ((q : ℕ) → ats q ≡ Phase.Idle) → replay (form_of opening) (files_of opening) es ≡ Some (files_of (cleared s.current))
  known_files idle =
      let none : s.log.outstanding ≡ 0 = outstanding_none s.log.commit s.log i.valid.log (λ q. idle_used (inode_count_of opening) q (ats q) (idle q) (i.stands q)) in
      ap (replay (form_of opening) (files_of opening)) (sym (all_answered (length (files_of opening)) s.holds es i.follows.are (λ q. idle_holds (inode_count_of opening) q (ats q) (idle q) (i.stands q))))
      ∙ i.follows.run ∙ ap (λ (f : Files). Some f) (i.valid.store.quiet none i.follows.files i.follows.fits).1

  -- What a stop leaves keeps the committed groups, also after a fault of a read or of a sync; while
  -- a header waits for its sync, one more where it got through.
  pub known_keeps : {D : Type 0} (u : VolumeState D) → u.log.committed ≡ s.log.committed → u.log.commit ≡ s.log.commit → (z : Image) → SurvivesAt s.log.commit s.disk z → KeepsNow u.log.committed (most_of u) opening es z
  known_keeps u committed commits z survives = left_keeps opening s.disk s.current s.log es i.recovers u committed commits z survives

  -- and after a write of a commit that failed at its place
  pub known_failed : {D : Type 0} (u : VolumeState D) (fault : DeviceFault) (y : Image) → u.fault ≡ Some fault → FailsAt (place_at s.log.commit s.log.homes) fault → u.log ≡ s.log → is_writing s.log.commit ≡ true → s.log.outstanding ≡ 0
      → CrashKeeps s.log.commit s.disk s.current y → is_lawful_log y ≡ true → KeepsNow u.log.committed (most_of u) opening es y
  known_failed u fault y fails place same writing none keeps lawful = write_fails opening s.disk s.current s.log es i.recovers (known_current none) u (ap (λ (l : LogState). l.committed) same) (ap (λ (l : LogState). l.commit) same) y fault fails place writing i.valid.log.counts keeps lawful

-- what is kept of all groups are the operations of the process that may change a file
kept_ops : (n p k : ℕ) (es : List Entry) → AreUpTo k es → map (λ (e : Entry). e.op) (own p (kept n es k)) ≡ filter (is_changing n) (map (λ (e : Entry). e.op) (own p es))
kept_ops n p k [] all = refl
kept_ops n p k (e ∷ es) all =
    let here = both_of (leb e.group k) (list_all (λ (f : Entry). leb f.group k) es) all in
    by_tests (is_changing n e.op) (eqb e.pid p) refl refl here.0 (kept_ops n p k es here.1)
  where
    by_tests : (c v : Bool) → is_changing n e.op ≡ c → eqb e.pid p ≡ v → leb e.group k ≡ true → map (λ (f : Entry). f.op) (own p (kept n es k)) ≡ filter (is_changing n) (map (λ (f : Entry). f.op) (own p es))
        → map (λ (f : Entry). f.op) (own p (kept n (e ∷ es) k)) ≡ filter (is_changing n) (map (λ (f : Entry). f.op) (own p (e ∷ es)))
    by_tests false false changing mine within rest = rw (changing, mine) rest
    by_tests false true changing mine within rest = rw (changing, mine) (rw changing rest)
    by_tests true false changing mine within rest = rw (changing, within, mine) rest
    by_tests true true changing mine within rest = rw (changing, within, mine) (rw changing (ap (λ (l : List Op). e.op ∷ l) rest))

-- what any count of groups keeps of a process's operations is a beginning of those that were taken
pub kept_of_taken : (n k p c begun : ℕ) (es : List Entry) (a : Phase) (h : History) → IsJournal n k es → IsHistory es a begun p h → IsPrefix (map (λ (e : Entry). e.op) (own p (kept n es c))) (filter (is_changing n) h.taken)
kept_of_taken n k p c begun es a h j is =
    let op_of : Entry → Op = λ e. e.op in
    let begins = own_beginning p (kept n es c) (kept n es k) (rising_beginnings n k es j.groups j.rising c) in (
      map op_of begins.0 ++ filter (is_changing n) (pending_at a),
      sym (append_assoc (map op_of (own p (kept n es c))) (map op_of begins.0) (filter (is_changing n) (pending_at a)))
          ∙ ap (λ (l : List Op). l ++ filter (is_changing n) (pending_at a)) (sym (map-append op_of (own p (kept n es c)) begins.0) ∙ ap (map op_of) begins.1 ∙ kept_ops n p k es j.groups)
          ∙ sym (ap (filter (is_changing n)) is.taken ∙ filter-append (is_changing n) (map op_of (own p es)) (pending_at a)),
    )

-- a kernel that was opened
pub inv_new : (opening : Image) (s : View) → IsValidView (inode_count_of opening) s → ((q : ℕ) → s.holds q ≡ None) → ((q : ℕ) → is_some (used_by s.log q) ≡ false) → s.fits (files_of opening) → Survives opening s.disk s.current s.log [] → KernelFacts opening s [] (λ q. Phase.Idle)
inv_new opening s v none unused fit r = record {
  valid = v;
  journal = record { groups = refl; rising = tt; changing = All-nil (HasItsGroup (inode_count_of opening)) };
  follows = record { files = files_of opening; run = refl; are = tt; fits = fit };
  recovers = r;
  stands = λ q. (none q, unused q);
}
