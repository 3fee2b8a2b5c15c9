-- The steps of a kernel, carried to such a device.
use Rattle.std.proofs.Common.{◌≡◌, ◌≢◌, inl, inr, ⊎_elim, ℕ, ◌==◌, Bool, true, false, cond, length, Option, Some, None, refl, sym, ap, ◌∙◌, subst, arith}
use Rattle.std.specs.Option.{option_map}
use Rattle.std.proofs.lemmas.Bool.{eqb-true}
use Rattle.blocks.specs.declared.disk.Disk.{Ghosts}
use Rattle.ports.specs.declared.herald.Herald as herald_trait
use Rattle.ports.specs.declared.intake.Intake as intake_trait
use Rattle.model.specs.declared.types.operations.Step.{Step}
use Rattle.wal.specs.Common.{cases_lt, fault_of_step, get_or_past, Image, Joint, JointAt, LogState, seen, used_by}
use Rattle.wal.specs.Deeds.{commit_deed, commit_of}
use Rattle.wal.specs.Lemmas.Log.{is_open, quiet_of}
use Rattle.wal.specs.Machine.{begun, closed, ended, left_by}
use Rattle.wal.specs.declared.deeds.CommitDeed.{CommitDeed}
use Rattle.wal.specs.declared.deeds.Deed.{Deed}
use Rattle.wal.specs.declared.deeds.TaskDeed.{TaskDeed}
use Rattle.wal.specs.declared.types.Commit.{Commit}
use Rattle.wal.specs.declared.types.Committed.{Committed}
use Rattle.wal.specs.declared.types.DeviceFault.{DeviceFault}
use Rattle.inodes.specs.Deeds.{task_deed}
use Rattle.inodes.specs.Steps.{LogsAtMost}
use Rattle.inodes.specs.Store.{StoreState}
use Rattle.history.specs.declared.types.Phase.{Phase}
use Rattle.kernel.specs.Deeds.{deed_standing, deed_unless}
use Rattle.kernel.specs.Next.{BeginsNext, NextAt, NextIf, step_of_write}
use Rattle.kernel.specs.State.{State, ats_of}
use Rattle.lost_writes.specs.Carried.{Carries, CarriesAt, KernelCarries, Ledger, after_deed}
use Rattle.lost_writes.proofs.Carrying.{commit_carries}

task_tells_none : (o : Option TaskDeed) → None ≡ commit_of (option_map Deed.Task o)
task_tells_none None = refl
task_tells_none (Some deed) = refl

commit_is : (o : Option CommitDeed) → o ≡ commit_of (option_map Deed.Commit o)
commit_is None = refl
commit_is (Some deed) = refl

-- a commit's step that did not halt has no fault
unhalted : (c : Committed) (r : Step) → r ≡ step_of_write c → r ≢ Step.Halted → fault_of_step c ≡ None
unhalted Committed.More r is going = refl
unhalted (Committed.Durable group) r is going = refl
unhalted Committed.Done r is going = refl
unhalted (Committed.Fault fault) r is going = absurd (going is)

module _ (x : Image) (l : Ledger) where
  -- the homes and the commit are the same
  same_log : (a b : LogState) → b.commit ≡ a.commit → b.homes ≡ a.homes → Carries x a l → Carries x b l
  same_log a b commit homes carries = subst (λ (k : Commit). CarriesAt k b.homes x l) (sym commit) (subst (λ hs. CarriesAt a.commit hs x l) (sym homes) carries)

  -- while no commit is under way, whatever the homes are
  quiet_log : (a b : LogState) → a.commit ≡ Commit.Quiet → b.commit ≡ Commit.Quiet → Carries x a l → Carries x b l
  quiet_log a b quiet still carries =
      let c : CarriesAt Commit.Quiet a.homes x l = subst (λ (k : Commit). CarriesAt k a.homes x l) quiet carries in
      subst (λ (k : Commit). CarriesAt k b.homes x l) (sym still) (record { all = c.all; none = tt; each = c.each })

  -- and where one begins
  begins_log : (a b : LogState) → a.commit ≡ Commit.Quiet → b.commit ≡ Commit.Logging 0 → Carries x a l → Carries x b l
  begins_log a b quiet begins carries =
      let c : CarriesAt Commit.Quiet a.homes x l = subst (λ (k : Commit). CarriesAt k a.homes x l) quiet carries in
      subst (λ (k : Commit). CarriesAt k b.homes x l) (sym begins) (record { all = c.all; none = tt; each = c.each })

  -- a group that is closed
  closed_log : (a b : LogState) → a.commit ≡ Commit.Quiet → (t : Bool) → b ≡ cond t (record a { committed = a.opened }) (record a { commit = Commit.Logging 0 }) → Carries x a l → Carries x b l
  closed_log a b quiet true is carries = quiet_log a b quiet (ap (λ (i : LogState). i.commit) is ∙ quiet) carries
  closed_log a b quiet false is carries = begins_log a b quiet (ap (λ (i : LogState). i.commit) is) carries

  -- an operation that ends
  ended_log : (a b : LogState) (p : ℕ) → (a.outstanding ≡ 1 → a.commit ≡ Commit.Quiet) → b ≡ ended a p → Carries x a l → Carries x b l
  ended_log a b p quiet is carries = by_last (a.outstanding == 1) refl is
    where
      by_last : (t : Bool) → (a.outstanding == 1) ≡ t → b ≡ cond t (closed (left_by a p)) (left_by a p) → Carries x b l
      by_last true e now = closed_log (left_by a p) b (quiet (eqb-true a.outstanding 1 e)) (length a.homes == 0) now (same_log a (left_by a p) refl refl carries)
      by_last false e now = same_log a b (ap (λ (i : LogState). i.commit) now) (ap (λ (i : LogState). i.homes) now) carries

  -- one that logs a block at most
  logged_log : (c : _) (most : ℕ) (a b : LogState) (p : ℕ) → JointAt a.commit x c a → b.commit ≡ a.commit → LogsAtMost most a p b → Carries x a l → Carries x b l
  logged_log c most a b p j commit (inl same) carries = same_log a b commit (ap (λ (i : LogState). i.homes) same) carries
  logged_log c most a b p j commit (inr logs) carries = elim (cases_lt p 32) [
    | inl lt ↦
        let quiet = quiet_of a.commit a j.log (is_open a a.commit p logs.added j.log lt logs.used) in
        quiet_log a b quiet (commit ∙ quiet) carries
    | inr past ↦ absurd (let none : used_by a p ≡ None = get_or_past a.used p None (omega (arith, j.log.pids, past)) in cc (none, logs.used))
  ]

module _ {D N I M H : Type 0} (disk : Ghosts D N) (intake : intake_trait.Ghosts I M) (herald : herald_trait.Ghosts H) (k m : State D I H) (p : ℕ) (r : Step) (l : Ledger) (holds : disk.holding (disk.name k.store.volume.device) ≡ true) (going : r ≢ Step.Halted)
    (joint : Joint (disk.image k.store.volume.device) k.store.volume.buffers k.store.volume.log) (carries : Carries (disk.image k.store.volume.device) k.store.volume.log l) where
  abbrev After : Option CommitDeed → Type 0
  After o = Carries (disk.image m.store.volume.device) m.store.volume.log (after_deed k.store.volume.log.homes (seen (disk.image k.store.volume.device) k.store.volume.buffers) o l)

  -- where the disk is the same
  stays : disk.image m.store.volume.device ≡ disk.image k.store.volume.device → Carries (disk.image k.store.volume.device) m.store.volume.log l → Carries (disk.image m.store.volume.device) m.store.volume.log l
  stays image now = subst (λ (y : Image). Carries y m.store.volume.log l) (sym image) now

  of_store : (s : StoreState D) → m.store ≡ s → Carries (disk.image s.volume.device) s.volume.log l → Carries (disk.image m.store.volume.device) m.store.volume.log l
  of_store s is now = subst (λ (t : StoreState D). Carries (disk.image t.volume.device) t.volume.log l) (sym is) now

  begins : BeginsNext k.store k.world p (intake.side k.intake p).ahead (intake.side m.intake p) (herald.told m.herald) r m.store m.world → Carries (disk.image m.store.volume.device) m.store.volume.log l
  begins (inl shut) = of_store k.store shut.store carries
  begins (inr none) = ⊎_elim
      (λ change. subst (λ (t : StoreState D). Carries (disk.image t.volume.device) t.volume.log l) (sym change.store) (same_log (disk.image k.store.volume.device) l k.store.volume.log (begun k.store.volume.log p) refl refl carries))
      (λ more. ⊎_elim
      (λ look. subst (λ (t : StoreState D). Carries (disk.image t.volume.device) t.volume.log l) (sym look.store) carries)
      (λ rest. ⊎_elim (λ refused. of_store k.store refused.store carries) (λ kept. of_store k.store kept.same.0 carries) rest)
      more)
      none.begins

  closes : k.store.volume.log.outstanding ≡ 1 → k.store.volume.log.commit ≡ Commit.Quiet
  closes one = quiet_of k.store.volume.log.commit k.store.volume.log joint.log (omega (arith, one))

  by_phase : (a : Phase) → NextAt disk a k.store k.world p (intake.side k.intake p).ahead (intake.side m.intake p) (herald.told m.herald) r m.store m.world → After (commit_of (deed_standing a k.store p))
  by_phase Phase.Idle next = begins next
  by_phase (Phase.BeforeTurn group op) next = subst After (task_tells_none (task_deed k.store p))
      (stays next.steps.reads.device.image (logged_log (disk.image k.store.volume.device) l k.store.volume.buffers _ k.store.volume.log m.store.volume.log p joint next.steps.groups.commit next.steps.logs carries))
  by_phase (Phase.AfterTurn group j) next = subst After (task_tells_none (task_deed k.store p))
      (stays next.steps.reads.device.image (logged_log (disk.image k.store.volume.device) l k.store.volume.buffers _ k.store.volume.log m.store.volume.log p joint next.steps.groups.commit next.steps.logs carries))
  by_phase (Phase.Ending group j) next =
      of_store _ next.store (ended_log (disk.image k.store.volume.device) l k.store.volume.log (ended k.store.volume.log p) p closes refl carries)
  by_phase (Phase.Committing group j) next = subst After (commit_is (commit_deed k.store.volume.log))
      (commit_carries disk k.store.volume m.store.volume next.result l holds (unhalted next.result r next.answer going) joint next.commits.volume carries)

  by_fault : (o : Option DeviceFault) → NextIf disk o k.store k.world p (intake.side k.intake p).ahead (intake.side m.intake p) (herald.told m.herald) r m.store m.world → After (commit_of (deed_unless o (deed_standing (ats_of k.world p) k.store p)))
  by_fault None next = by_phase (ats_of k.world p) next
  by_fault (Some fault) next = absurd (going next.0)

pub kernel_carries : {D N I M H : Type 0} (disk : Ghosts D N) (intake : intake_trait.Ghosts I M) (herald : herald_trait.Ghosts H) → KernelCarries disk intake herald
kernel_carries disk intake herald k m p r l holds going joint step carries = by_fault disk intake herald k m p r l holds going joint carries k.store.volume.fault step.acts.next
