-- What the queues of a process count, and the answer that waits once its operation is over.
use Rattle.std.proofs.Common.{◌≡◌, ◌≢◌, ◌∙◌, ◌⊎◌, ◌<◌, ◌≤◌, ℕ, ◌+◌, ◌^◌, ◌-◌, zero, suc, Bool, true, false, cond, List, [], ◌∷◌, ◌++◌, length, map, Option, Some, None, refl, sym, ap, subst, inl, inr, arith}
use Rattle.std.specs.Prelude.{◌==◌, min, nat_lt, slice_get}
use Rattle.std.proofs.lemmas.List.{length-append, length-map, map-append, nil_from_length}
use Rattle.blocks.specs.declared.disk.Disk.{Ghosts}
use Rattle.model.specs.declared.types.operations.Answer.{Answer}
use Rattle.model.specs.declared.types.operations.Entry.{Entry}
use Rattle.model.specs.declared.types.operations.Op.{Op}
use Rattle.model.specs.Journal.{own}
use Rattle.ports.specs.History.{History, first_in}
use Rattle.ports.specs.Lanes.{polled_after}
use Rattle.ports.specs.Queues.{FitsAt, waiting, answers, polled, submitted, waiting_at, answers_at, polled_at, submitted_at}
use Rattle.ports.specs.declared.lane.Lane.{Lane}
use Rattle.ports.specs.declared.queues.QueueIntake.{QueueIntake}
use Rattle.inodes.specs.Store.{StoreState}
use Rattle.history.specs.declared.types.Phase.TheVariants as at
use Rattle.history.specs.declared.types.Phase.{Phase}
use Rattle.history.specs.Histories.{Owed, entry_answer, pending_at}
use Rattle.history.specs.Lemmas.Lists.{own_mine, own_other}
use Rattle.history.specs.Processes.{process}
use Rattle.kernel.specs.Known.{Known}
use Rattle.calls.specs.Lemmas.Entries.{last_same, replied}
use Rattle.calls.specs.Stepping.{Plain, plain_herald, plain_queues}
use Rattle.calls.specs.Transactions.{IsFetched}
use Rattle.calls.proofs.Going.{LeavesOthers}
use Rattle.calls.proofs.Stages.{IsOver, ListIs, Where}

lane_is : (lanes : List Lane) (p : ℕ) → p < length lanes → (l : Lane) × (slice_get lanes p ≡ Some l)
lane_is [] p inside = absurd (omega (arith, inside))
lane_is (l ∷ rest) zero inside = (l, refl)
lane_is (l ∷ rest) (suc p) inside = lane_is rest p (omega (arith, inside))

fits_in : (o : Option Lane) (l : Lane) (h : History) → o ≡ Some l → FitsAt o h
    → (submitted_at o ≡ length h.taken + length (waiting_at o)) × ((before : List Answer) × (h.given ≡ before ++ answers_at o) × (polled_at o ≡ min (length before) (2 ^ 64 - 1)))
fits_in None l h is fits = absurd (cc is)
fits_in (Some lane) l h is fits = (fits.submitted, fits.given)

-- an operation that has no entry yet, or none
abbrev pub IsFree : Phase → Type 0
IsFree at.Idle = Unit {0}
IsFree (at.BeforeTurn group op) = Unit {0}
IsFree (at.AfterTurn group k) = ⊥
IsFree (at.Ending group k) = ⊥
IsFree (at.Committing group k) = ⊥

owed_free : (p : ℕ) (a : Phase) (es given : List Entry) → IsFree a → Owed a p es given → own p es ≡ given
owed_free p at.Idle es given free owed = owed
owed_free p (at.BeforeTurn group op) es given free owed = owed
owed_free p (at.AfterTurn group k) es given free owed = absurd free
owed_free p (at.Ending group k) es given free owed = absurd free
owed_free p (at.Committing group k) es given free owed = absurd free

-- what the queues of process p count
pub record Counts (i : QueueIntake) (p : ℕ) (es : List Entry) (pending begun : ℕ) : Type 0 where
  pub begun_is : begun ≡ length (own p es) + pending
  pub handed : submitted i p ≡ length (own p es) + pending + length (waiting i p)
  pub given : List Answer
  pub before : List Answer
  pub split : given ≡ before ++ answers i p
  pub fetched : polled i p ≡ min (length before) (2 ^ 64 - 1)
  pub told : map (λ (a : Answer). Some a) given ≡ map entry_answer (own p es)

pub counts : {D N : Type 0} (disk : Ghosts D N) (k : Plain D) (p : ℕ) (a : Phase) → Known disk plain_queues plain_herald k → p < length k.world.processes → (process k.world p).at ≡ a → IsFree a → Counts k.intake p k.world.journal.list (length (pending_at a)) (process k.world p).begun
counts disk k p a known inside stands free =
    let es = k.world.journal.list in
    let has = known.histories p inside in
    let served : length k.intake.lanes.items ≡ length k.world.processes = known.served in
    let lane = lane_is k.intake.lanes.items p (omega (arith, inside, served)) in
    let fits = fits_in (slice_get k.intake.lanes.items p) lane.0 has.history lane.1 has.fit in
    let entries : own p es ≡ has.is.answered = owed_free p a es has.is.answered free (subst (λ (b : Phase). Owed b p es has.is.answered) stands has.is.owed) in
    let taken : length has.history.taken ≡ length (own p es) + length (pending_at a) = ap (λ (l : List Op). length l) has.is.taken ∙ ap (λ (b : Phase). length (map (λ (e : Entry). e.op) (own p es) ++ pending_at b)) stands
    ∙ length-append (map (λ (e : Entry). e.op) (own p es)) (pending_at a) ∙ ap (λ (n : ℕ). n + length (pending_at a)) (length-map (own p es) (λ (e : Entry). e.op)) in
    record {
      begun_is = has.is.count ∙ taken;
      handed = fits.0 ∙ ap (λ (n : ℕ). n + length (waiting k.intake p)) taken;
      given = has.history.given;
      before = fits.1.0;
      split = fits.1.1;
      fetched = fits.1.2;
      told = has.is.given ∙ ap (λ (l : List Entry). map entry_answer l) (sym entries);
    }

-- each entry's answer was fetched, or waits
pub all_given : (i : QueueIntake) (p : ℕ) (es : List Entry) (n b : ℕ) (c : Counts i p es n b) → length c.before + length (answers i p) ≡ length (own p es)
all_given i p es n b c =
    sym (ap (λ (l : List Answer). length l) c.split ∙ length-append c.before (answers i p)) ∙ sym (length-map c.given (λ (a : Answer). Some a)) ∙ ap (λ (l : List (Option Answer)). length l) c.told ∙ length-map (own p es) entry_answer

-- a process's own entries are no more than all
pub own_few : (p : ℕ) (es : List Entry) → length (own p es) ≤ length es
own_few p [] = omega arith
own_few p (e ∷ es) = by (e.pid == p) (own_few p es)
  where
    by : (b : Bool) → length (own p es) ≤ length es → length (cond b (e ∷ own p es) (own p es)) ≤ length (e ∷ es)
    by true rest = omega (arith, rest)
    by false rest = omega (arith, rest)

-- an operation is always handed in: none waits, and numbers are left
pub is_handed_in : {D N : Type 0} (disk : Ghosts D N) (k : Plain D) (p : ℕ) → Known disk plain_queues plain_herald k → p < length k.world.processes → (process k.world p).at ≡ at.Idle → IsFetched k p → length k.world.journal.list < 2 ^ 63 →
    (16 ≤ length (waiting k.intake p)) ⊎ ((process k.world p).begun + length (waiting k.intake p) + 1 ≡ 2 ^ 64) → ⊥
is_handed_in disk k p known inside idle fetched few full =
    let none : length (waiting k.intake p) ≡ 0 = ap (λ (l : List Op). length l) fetched.waits in
    let count = counts disk k p at.Idle known inside idle tt in
    let begun : (process k.world p).begun ≡ length (own p k.world.journal.list) + 0 = count.begun_is in
    let less = own_few p k.world.journal.list in
    elim full [
      | inl many ↦ omega (arith, many, none)
      | inr last ↦ omega (arith, last, none, begun, few, less)
    ]

-- where nothing became of the operation, room is left for its answer: all were fetched
pub room_left : {D N : Type 0} (disk : Ghosts D N) (k m : Plain D) (p : ℕ) → Known disk plain_queues plain_herald m → p < length k.world.processes → LeavesOthers p k m → polled k.intake p ≡ length (own p k.world.journal.list) → length k.world.journal.list < 2 ^ 63
    → (process m.world p).at ≡ at.Idle → m.world.journal.list ≡ k.world.journal.list → nat_lt (length (answers m.intake p)) 16 ≡ true
room_left disk k m p known inside rest fetched few idle list =
    let less = own_few p k.world.journal.list in
    let count = counts disk m p at.Idle known (subst (λ (n : ℕ). p < n) (sym rest.many) inside) idle tt in
    let given = all_given m.intake p m.world.journal.list 0 (process m.world p).begun count in
    let own_same : length (own p m.world.journal.list) ≡ length (own p k.world.journal.list) = ap (λ (es : List Entry). length (own p es)) list in
    let polled_m : min (length count.before) (2 ^ 64 - 1) ≡ length (own p k.world.journal.list) = sym count.fetched ∙ ap (λ (n : ℕ × ℕ). n.1) (rest.names p) ∙ fetched in
    let none : length (answers m.intake p) ≡ 0 = grind (arith, polled_m, few, less, given, own_same) in
    ap (λ (n : ℕ). nat_lt n 16) none

-- a list of one
only_one : {A : Type 0} (xs : List A) → length xs ≡ 1 → (x : A) × (xs ≡ x ∷ [])
only_one [] one = absurd (cc one)
only_one (x ∷ []) one = (x, refl)
only_one (x ∷ (y ∷ xs)) one = absurd (cc one)

-- what waits to be fetched, once the operation of process p is over, which was handed in to k or stood
-- at its beginning in it
pub record IsAnswered {D : Type 0} (p : ℕ) (op : Op) (k m : Plain D) : Type 0 where
  pub waits : waiting m.intake p ≡ []
  pub before : polled m.intake p ≡ length (own p k.world.journal.list)
  pub long : length (own p m.world.journal.list) ≡ length (own p k.world.journal.list) + 1
  pub answer : Answer
  pub only : answers m.intake p ≡ answer ∷ []
  pub entry : Entry
  pub list : m.world.journal.list ≡ k.world.journal.list ++ entry ∷ []
  pub mine : entry.pid ≡ p
  pub same : entry.op ≡ op
  pub replied : entry.reply ≡ Some answer.reply

module _ {D N : Type 0} (disk : Ghosts D N) (p : ℕ) (op : Op) (k m : Plain D) (inside : p < length k.world.processes) (a : Phase) (stands : (process k.world p).at ≡ a) (free : IsFree a)
    (known : Known disk plain_queues plain_herald k) (known_now : Known disk plain_queues plain_herald m) (polled_all : polled k.intake p ≡ length (own p k.world.journal.list)) (few : length k.world.journal.list < 2 ^ 63)
    (one_more : length (pending_at a) + length (waiting k.intake p) ≡ 1) (P : Where → StoreState D → Type 0) (rest : LeavesOthers p k m) (over : IsOver p op P k.world.journal.list m.store m.world) where
  pub is_answered : IsAnswered p op k m
  is_answered =
      let es = k.world.journal.list in
      let less = own_few p es in
      let e = over.more.entry in
      let list : m.world.journal.list ≡ es ++ e ∷ [] = over.more.is in
      let own_is : own p m.world.journal.list ≡ own p es ++ e ∷ [] = ap (λ (l : List Entry). own p l) list ∙ own_mine p es e over.more.mine in
      let was = counts disk k p a known inside stands free in
      let now = counts disk m p at.Idle known_now (subst (λ (n : ℕ). p < n) (sym rest.many) inside) over.idle tt in
      let long : length (own p m.world.journal.list) ≡ length (own p es) + 1 = ap (λ (l : List Entry). length l) own_is ∙ length-append (own p es) (e ∷ []) in
      let same_handed : submitted m.intake p ≡ submitted k.intake p = ap (λ (n : ℕ × ℕ). n.0) (rest.names p) in
      let same_polled : polled m.intake p ≡ length (own p es) = ap (λ (n : ℕ × ℕ). n.1) (rest.names p) ∙ polled_all in
      let handed_k = was.handed in
      let handed_m : submitted m.intake p ≡ length (own p m.world.journal.list) + 0 + length (waiting m.intake p) = now.handed in
      let none_waits = nil_from_length (waiting m.intake p) (omega (arith, handed_k, handed_m, one_more, same_handed, long)) in
      let given = all_given m.intake p m.world.journal.list 0 (process m.world p).begun now in
      let polled_m : min (length now.before) (2 ^ 64 - 1) ≡ length (own p es) = sym now.fetched ∙ same_polled in
      let one_waits : length (answers m.intake p) ≡ 1 = grind (arith, polled_m, few, less, given, long) in
      let answer = only_one (answers m.intake p) one_waits in
      let given_is : map (λ (b : Answer). Some b) now.given ≡ map (λ (b : Answer). Some b) now.before ++ Some answer.0 ∷ [] = ap (map (λ (b : Answer). Some b)) (now.split ∙ ap (λ (l : List Answer). now.before ++ l) answer.1) ∙ map-append (λ (b : Answer). Some b) now.before (answer.0 ∷ []) in
      let told_is : map entry_answer (own p m.world.journal.list) ≡ map entry_answer (own p es) ++ entry_answer e ∷ [] = ap (map entry_answer) own_is ∙ map-append entry_answer (own p es) (e ∷ []) in
      let last : Some answer.0 ≡ entry_answer e = last_same (map (λ (b : Answer). Some b) now.before) (map entry_answer (own p es)) (Some answer.0) (entry_answer e) (sym given_is ∙ now.told ∙ told_is) in
      record {
        waits = none_waits;
        before = same_polled;
        long = long;
        answer = answer.0;
        only = answer.1;
        entry = e;
        list = list;
        mine = over.more.mine;
        same = over.more.same;
        replied = replied e answer.0 last;
      }

-- once the answer is fetched, all are
pub fetched_again : {D : Type 0} (p : ℕ) (op : Op) (k m n : Plain D) → IsAnswered p op k m → length k.world.journal.list < 2 ^ 63 → n.world ≡ m.world → waiting n.intake p ≡ waiting m.intake p
    → polled n.intake p ≡ polled_after (first_in (answers m.intake p)) (polled m.intake p) → IsFetched n p
fetched_again p op k m n is few world waits fetched =
    let fetched_one : polled n.intake p ≡ min (polled m.intake p + 1) (2 ^ 64 - 1) = fetched ∙ ap (λ (l : List Answer). polled_after (first_in l) (polled m.intake p)) is.only in
    let before = is.before in
    let long = is.long in
    let less = own_few p k.world.journal.list in
    let all : polled n.intake p ≡ length (own p m.world.journal.list) = grind (arith, fetched_one, before, few, less, long) in
    record { waits = waits ∙ is.waits; fetched = all ∙ ap (λ w. length (own p w.journal.list)) (sym world) }

-- and those of another process stay so
pub fetched_still : {D : Type 0} (p q : ℕ) (op : Op) (k m : Plain D) → q ≢ p → IsFetched k q → LeavesOthers p k m → ListIs p op k.world.journal.list m.world.journal.list → IsFetched m q
fetched_still p q op k m apart was rest lists = record {
  waits = rest.sides q apart ∙ was.waits;
  fetched = ap (λ (n : ℕ × ℕ). n.1) (rest.names q) ∙ was.fetched ∙ ap (λ (l : List Entry). length l) (sym (by lists));
}
  where
    by : ListIs p op k.world.journal.list m.world.journal.list → own q m.world.journal.list ≡ own q k.world.journal.list
    by (inl same) = ap (λ (l : List Entry). own q l) same
    by (inr more) = ap (λ (l : List Entry). own q l) more.is ∙ own_other q k.world.journal.list more.entry (λ (mine : more.entry.pid ≡ q). apart (sym mine ∙ more.mine))
