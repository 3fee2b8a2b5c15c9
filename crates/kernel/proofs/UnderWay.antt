-- What is known of operations behind their turn.
use Rattle.std.proofs.Common.{◌≡◌, ℕ, true, false, cond, Bool, refl, ◌∙◌, ap, subst, Option, Some, None}
use Rattle.std.specs.Option.{option_map}
use Rattle.kernel.specs.Common.{AreLooking, ArePaired, asked, asked_by, ats_of, current_of, Entry, HasFacts, Held, held_at, held_by, holds_lock, HoldsInode, Image, inode_count_of, is_late, is_over, is_unturned, IsEntry, last_one, Op, owes_reply, Phase, Stage, StandsAt, StoreState, task, TaskStands, TaskState, view_of, World}
use Rattle.history.specs.Lemmas.Opens.{open_entry, open_last}
use Rattle.kernel.specs.Lasting.{IsUnderWay}

module _ {D : Type 0} (image : D → Image) (s : StoreState D) (w : World) (paired : ArePaired s w) where
  -- who is behind its turn has its inode's lock
  pub has_lock : AreLooking (current_of image s.volume) s.table s.tasks → (p group k : ℕ) (e : Entry) → ats_of w p ≡ Phase.AfterTurn group k → IsEntry w.journal.list k e → HoldsInode s.table p (asked e.op)
  has_lock looks p group k e stands is =
      let behind = subst (λ (a : Phase). TaskStands w.journal.list (task s.tasks p) a) stands (paired.stand p).stands e is in
      subst (λ (o : Option Op). HoldsInode s.table p (asked_by o)) behind.same (holds_lock (current_of image s.volume) s.table s.tasks looks p behind.unfinished behind.turned)

  -- who holds a number owes its reply, and is neither over nor before its turn
  reads : (t : TaskState) (h : Held) → held_at t ≡ Some h → owes_reply t.stage ≡ true
  reads t h holds = by_test (owes_reply t.stage) holds
    where
      by_test : (b : Bool) → cond b (option_map held_by t.op) None ≡ Some h → b ≡ true
      by_test true holds = refl
      by_test false holds = absurd (cc holds)

  not_over : (a : Stage) → owes_reply a ≡ true → is_over a ≡ true → ⊥
  not_over Stage.Nowhere reads over = absurd (cc reads)
  not_over (Stage.Creating m) reads over = absurd (cc reads)
  not_over (Stage.Taking m) reads over = absurd (cc reads)
  not_over (Stage.Reading k m) reads over = absurd (cc over)
  not_over (Stage.Delivering k) reads over = absurd (cc over)
  not_over (Stage.Truncating k m) reads over = absurd (cc reads)
  not_over (Stage.Writing k m) reads over = absurd (cc over)
  not_over (Stage.Setting k d u) reads over = absurd (cc reads)
  not_over (Stage.Leaving k) reads over = absurd (cc reads)

  not_before : (a : Stage) → owes_reply a ≡ true → is_unturned a ≡ true → ⊥
  not_before Stage.Nowhere reads before = absurd (cc reads)
  not_before (Stage.Creating m) reads before = absurd (cc reads)
  not_before (Stage.Taking m) reads before = absurd (cc reads)
  not_before (Stage.Reading k m) reads before = absurd (cc before)
  not_before (Stage.Delivering k) reads before = absurd (cc before)
  not_before (Stage.Truncating k m) reads before = absurd (cc reads)
  not_before (Stage.Writing k m) reads before = absurd (cc before)
  not_before (Stage.Setting k d u) reads before = absurd (cc reads)
  not_before (Stage.Leaving k) reads before = absurd (cc reads)

  -- an entry without a reply is under way
  pub under_way : (opening : Image) → HasFacts image opening s w → (k : ℕ) (e : Entry) → IsEntry w.journal.list k e → e.reply ≡ None → IsUnderWay w k e
  under_way opening has k e is none = by_place (ats_of w e.pid) refl (paired.stand e.pid).stands (has.facts.stands e.pid)
    where
      held : held_at (task s.tasks e.pid) ≡ Some (held_by e.op)
      held = (open_entry _ _ w.journal.list k e has.facts.follows.are is none).1

      reading : owes_reply (task s.tasks e.pid).stage ≡ true
      reading = reads (task s.tasks e.pid) (held_by e.op) held

      late : is_late e.op ≡ true
      late = (open_entry _ _ w.journal.list k e has.facts.follows.are is none).0

      by_place : (a : Phase) → ats_of w e.pid ≡ a → TaskStands w.journal.list (task s.tasks e.pid) a → StandsAt (inode_count_of opening) (view_of image s) w.journal.list e.pid a → IsUnderWay w k e
      by_place Phase.Idle here stands at_entry = absurd (not_over (task s.tasks e.pid).stage reading stands)
      by_place (Phase.BeforeTurn group op) here stands at_entry = absurd (not_before (task s.tasks e.pid).stage reading stands.1)
      by_place (Phase.AfterTurn group j) here stands at_entry =
          let same : j ≡ k = last_one e.pid w.journal.list j k at_entry.1.1.last (open_last _ _ w.journal.list k e has.facts.follows.are is none) in
          record { late = late; group = group; behind = here ∙ ap (Phase.AfterTurn group) same }
      by_place (Phase.Ending group j) here stands at_entry = absurd (not_over (task s.tasks e.pid).stage reading stands)
      by_place (Phase.Committing group j) here stands at_entry = absurd (not_over (task s.tasks e.pid).stage reading stands.0)
