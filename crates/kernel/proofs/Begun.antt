-- The operations that were begun of each process: a turn leaves their count, or adds one.
use Rattle.std.proofs.Common.{◌≡◌, inl, inr, ℕ, zero, suc, ◌+◌, ◌<◌, ◌≤◌, Bool, true, List, [], ◌∷◌, length, get_or, set, refl, sym, ◌∙◌, ap, subst, arith, Option, Some, None}
use Rattle.kernel.specs.Common.{answered, BeginsWith, Committed, committing, decided, DeviceFault, Ended, entry_index, idle, is_busy_at, NextAt, NextIf, Op, over, Phase, Process, process, refused, Reply, Side, Step, StoreState, TaskProgress, there_now, told_at, turned_from, OpClass, with_more_room, with_process, World, world_after, world_behind, world_ended, world_of_last, world_of_told, world_written}
use Rattle.blocks.specs.declared.disk.Disk as disk_trait

-- none of them falls
abbrev pub Grows : World → World → Type 0
Grows w z = (q : ℕ) → (process w q).begun ≤ (process z q).begun

-- What holds of each count before and after it: that it doesn't fall, or that it stays.
module _ (R : ℕ → ℕ → Type 0) (same : (n : ℕ) → R n n) (both : (a b c : ℕ) → R a b → R b c → R a c) where
  abbrev Keeps : World → World → Type 0
  Keeps w z = (q : ℕ) → R (process w q).begun (process z q).begun

  set_keeps : (ps : List Process) (p q : ℕ) (t : Process) → R (get_or ps p idle).begun t.begun → R (get_or ps q idle).begun (get_or (set ps p t) q idle).begun
  set_keeps [] p q t le = same _
  set_keeps (s ∷ ps) zero zero t le = le
  set_keeps (s ∷ ps) zero (suc q) t le = same _
  set_keeps (s ∷ ps) (suc p) zero t le = same _
  set_keeps (s ∷ ps) (suc p) (suc q) t le = set_keeps ps p q t le

  -- a process is another
  keeps_with : (w : World) (p : ℕ) (t : Process) → R (process w p).begun t.begun → Keeps w (with_process w p t)
  keeps_with w p t le q = set_keeps w.processes p q t le

  keeps_none : (w : World) → Keeps w w
  keeps_none w q = same _

  keeps_along : (w z y : World) → z ≡ y → Keeps w y → Keeps w z
  keeps_along w z y is keeps = subst (Keeps w) (sym is) keeps

  -- ---- by what a step makes of the processes

  turned_keeps : (a : Phase) (w : World) (p : ℕ) (reply : Option Reply) (b : Bool) → Keeps w (turned_from a w p reply b)
  turned_keeps Phase.Idle w p reply b q = same _
  turned_keeps (Phase.BeforeTurn group op) w p reply b q = keeps_with w p _ (same _) q
  turned_keeps (Phase.AfterTurn group k) w p reply b q = same _
  turned_keeps (Phase.Ending group k) w p reply b q = same _
  turned_keeps (Phase.Committing group k) w p reply b q = same _

  told_keeps : (o : Option ℕ) (w : World) (reply : Reply) → Keeps w (told_at o w reply)
  told_keeps None w reply q = same _
  told_keeps (Some k) w reply q = same _

  over_keeps : (w : World) (p : ℕ) → Keeps w (over w p)
  over_keeps w p = keeps_with w p _ (same _)

  answered_keeps : (w : World) (p : ℕ) → Keeps w (answered w p)
  answered_keeps w p = keeps_with w p _ (same _)

  committing_keeps : (w : World) (p : ℕ) → Keeps w (committing w p)
  committing_keeps w p = keeps_with w p _ (same _)

  after_keeps : (r : TaskProgress) (b : Bool) (w : World) (p : ℕ) → Keeps w (world_after r b w p)
  after_keeps TaskProgress.Moved b w p q = same _
  after_keeps (TaskProgress.Turned reply) b w p q = turned_keeps (process w p).at w p reply b q
  after_keeps (TaskProgress.Decided reply) b w p q = same _
  after_keeps TaskProgress.Over b w p q = same _
  after_keeps (TaskProgress.Sleeping cause) b w p q = same _
  after_keeps (TaskProgress.Fault fault) b w p q = same _

  last_keeps : (group : ℕ) (w : World) (p : ℕ) → Keeps w (world_of_last group w p)
  last_keeps zero w p = answered_keeps w p
  last_keeps (suc group) w p = over_keeps w p

  of_told_keeps : (group : ℕ) (w : World) (p : ℕ) (reply : Reply) → Keeps w (world_of_told group w p reply)
  of_told_keeps zero w p reply q =
      both _ _ _ (told_keeps (entry_index (process w p).at) w reply q) (answered_keeps (decided w p reply) p q)
  of_told_keeps (suc group) w p reply q = told_keeps (entry_index (process w p).at) w reply q

  behind_keeps : (group : ℕ) (r : TaskProgress) (w : World) (p : ℕ) → Keeps w (world_behind group r w p)
  behind_keeps group TaskProgress.Moved w p q = same _
  behind_keeps group (TaskProgress.Turned reply) w p q = same _
  behind_keeps group (TaskProgress.Decided reply) w p q = of_told_keeps group w p reply q
  behind_keeps group TaskProgress.Over w p q = last_keeps group w p q
  behind_keeps group (TaskProgress.Sleeping cause) w p q = same _
  behind_keeps group (TaskProgress.Fault fault) w p q = same _

  ended_keeps : (r : Ended) (w : World) (p : ℕ) → Keeps w (world_ended r w p)
  ended_keeps Ended.Commit w p = committing_keeps w p
  ended_keeps Ended.Left w p = answered_keeps w p

  written_keeps : (r : Committed) (w : World) (p : ℕ) → Keeps w (world_written r w p)
  written_keeps Committed.More w p q = same _
  written_keeps (Committed.Durable group) w p q = same _
  written_keeps Committed.Done w p q = answered_keeps w p q
  written_keeps (Committed.Fault fault) w p q = same _

  -- a step of an operation that is under way
  module _ {D N : Type 0} (disk : disk_trait.Ghosts D N) (s t : StoreState D) (w z : World) (p : ℕ) (before : List Op) (side : Side) (told : Bool) (r : Step) where
    busy_keeps : (a : Phase) → is_busy_at a ≡ true → NextAt disk a s w p before side told r t z → Keeps w z
    busy_keeps Phase.Idle busy next = absurd (cc busy)
    busy_keeps (Phase.BeforeTurn group op) busy works = keeps_along w z _ works.world (after_keeps works.progress _ w p)
    busy_keeps (Phase.AfterTurn group k) busy finishes = keeps_along w z _ finishes.world (behind_keeps group finishes.progress w p)
    busy_keeps (Phase.Ending group k) busy ends = keeps_along w z _ ends.world (ended_keeps _ w p)
    busy_keeps (Phase.Committing group k) busy writes = keeps_along w z _ writes.world (written_keeps writes.result w p)

abbrev AtMost : ℕ → ℕ → Type 0
AtMost a b = a ≤ b

abbrev Equals : ℕ → ℕ → Type 0
Equals a b = b ≡ a

at_least : (n : ℕ) → AtMost n n
at_least n = omega arith

at_most : (a b c : ℕ) → AtMost a b → AtMost b c → AtMost a c
at_most a b c one two = omega (arith, one, two)

begins_grows : {D : Type 0} {s t : StoreState D} {w z : World} {what : Option OpClass} {p : ℕ} {ahead : List Op} {side : Side} {r : Step} → BeginsWith what s w p ahead side r t z → Grows w z
begins_grows {w = w} {z = z} {p = p} (inl change) = keeps_along AtMost at_least at_most w z _ change.world (λ q. keeps_with AtMost at_least at_most (with_more_room w) p _ (omega arith) q)
begins_grows {w = w} {z = z} {p = p} (inr (inl look)) = keeps_along AtMost at_least at_most w z _ look.world (λ q. keeps_with AtMost at_least at_most (with_more_room w) p _ (omega arith) q)
begins_grows {w = w} {z = z} {p = p} (inr (inr (inl refused))) = keeps_along AtMost at_least at_most w z _ refused.world (λ q. keeps_with AtMost at_least at_most (with_more_room w) p _ (omega arith) q)
begins_grows {w = w} {z = z} (inr (inr (inr none))) = keeps_along AtMost at_least at_most w z w none.same.1 (keeps_none AtMost at_least at_most w)

module _ {D N : Type 0} (disk : disk_trait.Ghosts D N) (s t : StoreState D) (w z : World) (p : ℕ) (before : List Op) (side : Side) (told : Bool) (r : Step) where
  at_grows : (a : Phase) → NextAt disk a s w p before side told r t z → Grows w z
  at_grows Phase.Idle (inl shut) = keeps_along AtMost at_least at_most w z _ shut.world (λ q. keeps_none AtMost at_least at_most w q)
  at_grows Phase.Idle (inr hears) = begins_grows hears.begins
  at_grows (Phase.BeforeTurn group op) next = busy_keeps AtMost at_least at_most disk s t w z p before side told r (Phase.BeforeTurn group op) refl next
  at_grows (Phase.AfterTurn group k) next = busy_keeps AtMost at_least at_most disk s t w z p before side told r (Phase.AfterTurn group k) refl next
  at_grows (Phase.Ending group k) next = busy_keeps AtMost at_least at_most disk s t w z p before side told r (Phase.Ending group k) refl next
  at_grows (Phase.Committing group k) next = busy_keeps AtMost at_least at_most disk s t w z p before side told r (Phase.Committing group k) refl next

  pub next_grows : (o : Option DeviceFault) → NextIf disk o s w p before side told r t z → Grows w z
  next_grows None next = at_grows (process w p).at next
  next_grows (Some fault) next = keeps_along AtMost at_least at_most w z w next.1.1 (keeps_none AtMost at_least at_most w)

  -- an operation that is under way begins none
  pub begins_none : (a : Phase) → is_busy_at a ≡ true → NextAt disk a s w p before side told r t z → (q : ℕ) → (process z q).begun ≡ (process w q).begun
  begins_none = busy_keeps Equals (λ (n : ℕ). refl) (λ (a b c : ℕ) (one : b ≡ a) (two : c ≡ b). two ∙ one) disk s t w z p before side told r

  -- what takes an operation adds one
  one_more : (t : Process) → z.processes ≡ set w.processes p t → p < length w.processes → t.begun ≡ (process w p).begun + 1 → (process z p).begun ≡ (process w p).begun + 1
  one_more t is lt more = ap (λ (u : Process). u.begun) (there_now w z p t is lt) ∙ more

  -- so where a beginning leaves the count, it took none: store and processes stay
  pub took_none : p < length w.processes → (process z p).begun ≡ (process w p).begun → NextAt disk Phase.Idle s w p before side told r t z → (t ≡ s) × (z.processes ≡ w.processes)
  took_none lt same (inl shut) = (shut.store, ap (λ (v : World). v.processes) shut.world)
  took_none lt same (inr hears) = by hears.begins
    where
      by : {what : Option OpClass} {ahead : List Op} → BeginsWith what s w p ahead side r t z → (t ≡ s) × (z.processes ≡ w.processes)
      by (inl change) = let more = one_more _ (ap (λ (v : World). v.processes) change.world) lt refl in absurd (omega (arith, same, more))
      by (inr (inl look)) = let more = one_more _ (ap (λ (v : World). v.processes) look.world) lt refl in absurd (omega (arith, same, more))
      by (inr (inr (inl refused))) = let more = one_more _ (ap (λ (v : World). v.processes) refused.world) lt refl in absurd (omega (arith, same, more))
      by (inr (inr (inr none))) = (none.same.0, ap (λ (v : World). v.processes) none.same.1)
