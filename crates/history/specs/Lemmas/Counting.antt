-- What was counted of processes and groups stays true with each event.
use Rattle.std.proofs.Common.{◌≡◌, ◌≢◌, ℕ, ◌+◌, ◌-◌, ◌<◌, ◌≤◌, ◌^◌, Bool, true, false, cond, List, [], ◌∷◌, ◌++◌, length, set, refl, sym, ap, subst, arith, ⊎_elim, Option}
use Rattle.std.specs.Prelude.{count_by}
use Rattle.std.proofs.lemmas.List.Sums.{get_or-le-sum_by, sum_by-set}
use Rattle.history.specs.Common.{cases_eq, Entry, GatheredBytes, length-append, Op, Phase, Process, Reply}
use Rattle.history.specs.Processes.{World, process, idle, is_before, with_more_room, taken, refused, phase_behind, turned}
use Rattle.history.specs.Counting.{IsCounted}
use Rattle.history.specs.Lemmas.Phases.{there_now, others_stay}

-- one for the phase before a turn
abbrev pub one_before : Phase → ℕ
one_before a = cond (is_before a) 1 0

-- process p becomes t, and with it the journal goes on
pub record Counts (opened : ℕ) (w z : World) (p : ℕ) (t : Process) : Type 0 where
  pub inside : p < length w.processes
  pub processes : z.processes ≡ set w.processes p t
  pub room : z.journal.room + one_before (process w p).at ≡ w.journal.room + one_before t.at
  pub longer : length w.journal.list ≤ length z.journal.list
  pub begun : t.begun ≤ length z.journal.list + one_before t.at
  pub groups : opened ≤ length z.journal.list + z.journal.room

pub counted_goes : (before opened p : ℕ) (w z : World) (t : Process) → IsCounted before w → Counts opened w z p t → IsCounted opened z
counted_goes before opened p w z t had g = record {
  room = let moved = sum_by-set (λ (q : Process). cond {A = ℕ} (is_before q.at) 1 0) w.processes p t idle g.inside in
      let here = g.room in
      omega (arith, moved, (ap (λ (ps : List Process). count_by (λ (q : Process). is_before q.at) ps) g.processes), here, had.room);
  begun = λ q. ⊎_elim
      (λ (same : q ≡ p). subst (λ (r : ℕ). (process z r).begun ≤ length z.journal.list + one_before (process z r).at) (sym same)
      (subst (λ (s : Process). s.begun ≤ length z.journal.list + one_before s.at) (sym (there_now w z p t g.processes g.inside)) g.begun))
      (λ (apart : q ≢ p). subst (λ (s : Process). s.begun ≤ length z.journal.list + one_before s.at) (sym (others_stay w z p t g.processes q apart))
      (let old = had.begun q in omega (arith, old, g.longer)))
      (cases_eq q p);
  groups = g.groups;
}

-- there is room for the entry of an operation that has not had its turn
pub room_kept : (opened p : ℕ) (w : World) → IsCounted opened w → p < length w.processes → is_before (process w p).at ≡ true → 0 < w.journal.room
room_kept opened p w had lt is =
    omega (arith, (get_or-le-sum_by (λ (q : Process). cond {A = ℕ} (is_before q.at) 1 0) w.processes p idle lt), (ap (λ (b : Bool). cond {A = ℕ} b 1 0) is), had.room)

one_longer : (es : List Entry) (e : Entry) → length (es ++ e ∷ []) ≡ length es + 1
one_longer es e = length-append es (e ∷ [])

module _ (before p : ℕ) (w : World) (had : IsCounted before w) (lt : p < length w.processes) where
  begun_at : (a : Phase) → (process w p).at ≡ a → (process w p).begun ≤ length w.journal.list + one_before a
  begun_at a is = subst (λ (b : Phase). (process w p).begun ≤ length w.journal.list + one_before b) is (had.begun p)

  -- an operation was taken
  pub counted_taken : (opened group : ℕ) (op : Op) (kept : Option GatheredBytes) → (process w p).at ≡ Phase.Idle → opened ≤ before + 1 → IsCounted opened (taken (with_more_room w) p group op kept)
  counted_taken opened group op kept stands more = counted_goes before opened p w _ (record { begun = (process w p).begun + 1; at = Phase.BeforeTurn group op; room = kept }) had (record {
    inside = lt;
    processes = refl;
    room = let none = ap one_before stands in omega (arith, none);
    longer = omega arith;
    begun = let old = begun_at Phase.Idle stands in omega (arith, old);
    groups = let groups = had.groups in omega (arith, groups, more);
  })

  -- an operation was answered at once
  pub counted_refused : (op : Op) (reply : Reply) → (process w p).at ≡ Phase.Idle → IsCounted before (refused (with_more_room w) p op reply)
  counted_refused op reply stands = counted_goes before before p w _ (record (process w p) { begun = (process w p).begun + 1 }) had (record {
    inside = lt;
    processes = refl;
    room = omega arith;
    longer = let more = length-append w.journal.list ((record { pid = p; seq = (process w p).begun + 1; op = op; group = 0; reply = Rattle.std.proofs.Common.Some reply }) ∷ []) in omega (arith, more);
    begun = let more = length-append w.journal.list ((record { pid = p; seq = (process w p).begun + 1; op = op; group = 0; reply = Rattle.std.proofs.Common.Some reply }) ∷ []) in let old = begun_at Phase.Idle stands in omega (arith, old, more);
    groups = let more = length-append w.journal.list ((record { pid = p; seq = (process w p).begun + 1; op = op; group = 0; reply = Rattle.std.proofs.Common.Some reply }) ∷ []) in let groups = had.groups in omega (arith, groups, more);
  })

  behind_none : (over : Bool) (group k : ℕ) → one_before (phase_behind over group k) ≡ 0
  behind_none true group k = refl
  behind_none false group k = refl

  -- the turn
  pub counted_turned : (opened group : ℕ) (op : Op) (reply : Option Reply) (over : Bool) → (process w p).at ≡ Phase.BeforeTurn group op → opened ≡ before → IsCounted opened (turned w p reply over)
  counted_turned opened group op reply over stands same =
      let e : Entry = record { pid = p; seq = (process w p).begun; op = op; group = group; reply = reply } in
      let kept = room_kept before p w had lt (ap is_before stands) in
      let more = one_longer w.journal.list e in
      let none = behind_none over group (length w.journal.list) in
      let t : Process = record (process w p) { at = phase_behind over group (length w.journal.list) } in
      let made : turned w p reply over ≡ record w { processes = set w.processes p t; journal = record { list = w.journal.list ++ e ∷ []; room = w.journal.room - 1 } } =
      ap (λ (a : Phase). Rattle.history.specs.Processes.turned_from a w p reply over) stands in
      subst (λ (z : World). IsCounted opened z) (sym made) (counted_goes before opened p w _ t had (record {
        inside = lt;
        processes = refl;
        room = omega (arith, (ap one_before stands), none, kept);
        longer = omega (arith, more);
        begun = let old = begun_at (Phase.BeforeTurn group op) stands in omega (arith, old, more, none);
        groups = let groups = had.groups in omega (arith, groups, more, kept, same);
      }))

  -- the process goes on behind its turn
  pub counted_same : (opened : ℕ) (z : World) (a : Phase) (kept : Option GatheredBytes) → is_before (process w p).at ≡ false → is_before a ≡ false → z.processes ≡ set w.processes p (record (process w p) { at = a; room = kept }) → length z.journal.list ≡ length w.journal.list → z.journal.room ≡ w.journal.room → opened ≡ before → IsCounted opened z
  counted_same opened z a kept was now is list room still =
      let none : one_before (process w p).at ≡ 0 = ap (λ (b : Bool). cond {A = ℕ} b 1 0) was in
      let here : one_before a ≡ 0 = ap (λ (b : Bool). cond {A = ℕ} b 1 0) now in
      counted_goes before opened p w z (record (process w p) { at = a; room = kept }) had (record {
        inside = lt;
        processes = is;
        room = omega (arith, none, here, room);
        longer = omega (arith, list);
        begun = let old = had.begun p in omega (arith, old, list, none, here);
        groups = let groups = had.groups in omega (arith, groups, list, room, still);
      })
