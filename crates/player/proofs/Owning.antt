-- What is kept of each process is a beginning of the operations that its feeder had at first.
use Rattle.std.proofs.Common.{◌≡◌, ◌∙◌, ◌<◌, ℕ, Bool, true, false, List, [], ◌∷◌, ◌++◌, length, set, Option, Some, sym, ap, subst, append_assoc}
use Rattle.std.specs.Prelude.{slice_get}
use Rattle.blocks.specs.declared.disk.Disk.{Ghosts}
use Rattle.blocks.specs.declared.faulty.FaultyDisk.{FaultyDisk}
use Rattle.blocks.specs.declared.faulty.Trap.{Trap}
use Rattle.model.specs.Layout.{inode_count_of}
use Rattle.model.specs.declared.types.operations.Answer.{Answer}
use Rattle.model.specs.declared.types.operations.Op.{Op}
use Rattle.history.specs.Own.{KeepsFirst}
use Rattle.history.specs.Lemmas.Own.{keeps_first}
use Rattle.kernel.specs.Known.{Known}
use Rattle.rings.specs.Callers.{intake_side, submitted}
use Rattle.rings.specs.declared.intake.RingIntake.{RingIntake}
use Rattle.scripts.specs.declared.schedule.Word.{Word}
use Rattle.scripts.specs.declared.schedule.Word.TheVariants as word
use Rattle.clients.specs.Backlogs.{backlog_of}
use Rattle.clients.specs.Lemmas.Sets.{each_set}
use Rattle.clients.specs.Feeders.{feeder_ops}
use Rattle.clients.specs.declared.feeder.Feeder.{Feeder}
use Rattle.messages.specs.declared.events.Event.{Event}
use Rattle.messages.specs.Events.{is_last}
use Rattle.player.specs.Stepping.{HandsIn, HasSame, HaveOps, KeepOps, KeepsOfSource, MakesTurn, MakesTurns, ReconcilesAt, Polls, Ringed, board_herald, ring_ends}
use Rattle.player.specs.Turns.{IfLast}
use Rattle.player.specs.declared.player.Player.{Player}

-- one feeder is set, with the operations that it had
set_ops : (ops : ℕ → List Op) (b : List Feeder) (p : ℕ) (s t : Feeder) → slice_get b p ≡ Some s → feeder_ops t ≡ feeder_ops s → HaveOps ops b → HaveOps ops (set b p t)
set_ops ops b p s t here same have = each_set (λ q e. feeder_ops e ≡ ops q) b p s t here (same ∙ have p s here) have

-- a meeting, a handing in and a poll keep the operations of all
pub reconciles_ops : (p : ℕ) (i j : RingIntake) (b c : List Feeder) → ReconcilesAt p i b j c → KeepOps b c
reconciles_ops p i j b c at ops have = subst (HaveOps ops) (sym at.set)
    (set_ops ops b p at.feeder (record at.feeder { caller = at.met }) at.is (ap (λ xs. xs ++ backlog_of at.feeder.backlog) at.reconciles.submitted_stay) have)

hands_in_ops : {D : Type 0} (p : ℕ) (k m : Ringed D) (b c : List Feeder) → HandsIn p k b m c → KeepOps b c
hands_in_ops p k m b c at ops have = subst (HaveOps ops) (sym at.set)
    (set_ops ops b p at.feeder at.now at.is (at.ops ∙ ap (λ xs. xs ++ backlog_of at.feeder.backlog) at.reconciles.submitted_stay) have)

polls_ops : {D : Type 0} (p : ℕ) (answer : Option Answer) (k m : Ringed D) (b c : List Feeder) → Polls p answer k b m c → KeepOps b c
polls_ops p answer k m b c at ops have = subst (HaveOps ops) (sym at.set)
    (set_ops ops b p at.feeder at.now at.is (ap (λ xs. xs ++ backlog_of at.now.backlog) (at.untouched.0 ∙ at.reconciles.submitted_stay) ∙ ap (λ g. submitted at.feeder.caller ++ backlog_of g) at.untouched.1) have)

module _ {D N : Type 0} (disk : Ghosts (FaultyDisk D) (N × Trap)) (stop : ℕ) where
  turn_ops : (w : Word) (event : Event) (old new : Player D N) → MakesTurn disk stop w event old new → KeepOps old.feeders.items new.feeders.items
  turn_ops (word.Step p) event old new turn ops have =
      polls_ops p turn.polled turn.stepped new.kernel turn.feeders new.feeders.items turn.polls ops (hands_in_ops p old.kernel turn.handed old.feeders.items turn.feeders turn.hands_in ops have)
  turn_ops (word.Steps p) event old new turn ops have =
      polls_ops p turn.polled turn.stepped new.kernel turn.feeders new.feeders.items turn.polls ops (hands_in_ops p old.kernel turn.handed old.feeders.items turn.feeders turn.hands_in ops have)
  turn_ops word.Shutdown event old new turn ops have = subst (λ v. HaveOps ops v.items) (sym turn.3) have

  -- and so do turns
  pub turns_ops : (words : List Word) (events : List Event) (old new : Player D N) → MakesTurns disk stop words events old new → KeepOps old.feeders.items new.feeders.items
  turns_ops [] events old new makes ops have = subst (λ (o : Player D N). HaveOps ops o.feeders.items) (sym makes.1) have
  turns_ops (w ∷ words) [] old new makes ops have = absurd makes
  turns_ops (w ∷ words) (event ∷ events) old new (mid, turn, rest) ops have =
      here (is_last event) (turn_ops w event old mid turn ops have) (λ have_mid more. turns_ops words events mid new more ops have_mid) rest
    where
      here : (b : Bool) → HaveOps ops mid.feeders.items → (HaveOps ops mid.feeders.items → MakesTurns disk stop words events mid new → HaveOps ops new.feeders.items) → IfLast b ((events ≡ []) × (new ≡ mid)) (MakesTurns disk stop words events mid new) → HaveOps ops new.feeders.items
      here true have_mid on ends = subst (λ (o : Player D N). HaveOps ops o.feeders.items) (sym ends.1) have_mid
      here false have_mid on more = on have_mid more

-- where both ends of a process's rings met, what is kept of it is a beginning of its operations
pub met_own : {D N : Type 0} (disk : Ghosts D N) (p : ℕ) (k : Ringed D) (j : RingIntake) (b c : List Feeder) → Known disk ring_ends board_herald k → p < length k.world.processes → ReconcilesAt p k.intake b j c → KeepsOfSource disk p k b
met_own disk p k j b c known low at ops have =
    let mine = known.histories p low in
    let taken = mine.history.taken in
    let ahead = (intake_side j p).ahead in
    let rest = backlog_of at.feeder.backlog in
    keeps_first (inode_count_of (disk.image k.opening)) k.world.journal.list p taken (ahead ++ rest) (ops p) (λ n. known.beginnings p n mine.history mine.is)
    (sym (have p at.feeder at.is) ∙ ap (λ xs. xs ++ rest) (sym (at.reconciles.taken mine.history mine.fit ∙ at.reconciles.submitted_stay)) ∙ append_assoc taken ahead rest)

-- the same of the kernel and the feeders as they were before other meetings
pub own_still : {D N : Type 0} (disk : Ghosts D N) (p : ℕ) (k l : Ringed D) → HasSame k l → (b c : List Feeder) → KeepOps b c → KeepsOfSource disk p l c → KeepsOfSource disk p k b
own_still {D} {N} disk p k l same b c keep own ops have =
    subst (λ (s : Ringed D). KeepsFirst (inode_count_of (disk.image s.opening)) s.world.journal.list p (ops p)) same (own ops (keep ops have))
