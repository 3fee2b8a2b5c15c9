-- A kernel that was opened and served, and what its clients came to.
use Rattle.std.proofs.Common.{◌≡◌, ◌∙◌, ◌<◌, ℕ, List, length, Option, Some, None, sym, ap, subst, arith, ⊎_elim}
use Rattle.std.specs.Prelude.{Bool, false}
use Rattle.std.proofs.lemmas.List.{length-replicate}
use Rattle.std.proofs.lemmas.Option.{slice_get_cases, slice_get_within}
use Rattle.blocks.specs.Disk.{Image, LeavesOnly}
use Rattle.blocks.specs.declared.disk.Disk.{Ghosts}
use Rattle.wal.specs.declared.types.DeviceFault.{DeviceFault}
use Rattle.model.specs.Layout.{inode_count_of}
use Rattle.wal.specs.Lemmas.Stops.{run_leaves}
use Rattle.wal.specs.Recovery.{LeavesFromSync, RecoversAs}
use Rattle.wal.specs.Volume.{faults_after}
use Rattle.ports.specs.declared.herald.Herald as herald_trait
use Rattle.ports.specs.declared.intake.Intake as intake_trait
use Rattle.rings.specs.Callers.{intake_names}
use Rattle.rings.specs.declared.intake.RingIntake.{RingIntake}
use Rattle.rings.specs.declared.name.Names.{Names}
use Rattle.scripts.specs.declared.script.Task.{Task}
use Rattle.history.specs.Keeps.{KeepsBetween, KeepsNow}
use Rattle.history.specs.Most.{most_of}
use Rattle.history.specs.Own.{KeepsFirst, KeepsOwn}
use Rattle.kernel.specs.Known.{Known}
use Rattle.kernel.specs.Opening.{IsOpened}
use Rattle.kernel.specs.State.{State}
use Rattle.sysring.specs.Origins.{HasOriginOf}
use Rattle.clients.specs.Backlogs.{ops_of}
use Rattle.clients.specs.Clients.{AreClients, HaveRings, ops_at, ops_in}
use Rattle.clients.specs.declared.client.Client.{Client}
use Rattle.history.specs.Lemmas.Leaving.{kept_alike}
use Rattle.kernel.specs.declared.types.OpenFault.{OpenFault}
use Rattle.opening.specs.Lemmas.Keeping.{not_opened_leaves, not_opened_name}
use Rattle.opening.specs.Openings.{IsNotOpened}
use Rattle.runner.specs.declared.refusals.RunRefusal.{RunRefusal}
use Rattle.runner.specs.declared.refusals.RunRefusal.TheVariants.{Unopened, Thread, Disk, Unanswered, NoMemory, Output}
use Rattle.runner.specs.Reports.{IsReport}
use Rattle.runner.specs.Sessions.{ComesBySession, RefusesSession}
use Rattle.runner.specs.Running.{Ends, HasNotBegun, IsEndedBy, IsNotRun, IsServed, KeepsTasks, Ringed}

-- the clients of a script have its operations
ops_are : (names : ℕ → Option Names) (tasks : List Task) (processes : ℕ) (cs : List Client) → AreClients names tasks processes cs → (p : ℕ) → p < length cs → ops_at cs p ≡ ops_of p tasks
ops_are names tasks processes cs are p low =
    ⊎_elim (λ here. ap ops_in here.2 ∙ (are.each p here.0 here.2).all) (λ past. let no = past.0 in absurd (omega (arith, low, no))) (slice_get_cases cs p).1

-- what they came to is what its processes did
pub ends_so : {D I H : Type 0} (n : ℕ) (k : State D I H) (names : ℕ → Option Names) (tasks : List Task) (processes : ℕ) (cs : List Client) (fault : Option DeviceFault) (all : Bool) (old new : Option (List ℕ)) → AreClients names tasks processes cs
    → Ends n k (ops_at cs) (length cs) fault all old new → Ends n k (λ p. ops_of p tasks) processes fault all old new
ends_so n k names tasks processes cs fault all old new are ends = record {
  tells = ends.tells;
  reported = record {
    reports = ends.reported.reports;
    count = ends.reported.count ∙ are.count;
    each = λ p r at. subst (λ ops. IsReport n k p ops r.0 r.1)
        (ops_are names tasks processes cs are p (subst (λ m. p < m) ends.reported.count (slice_get_within ends.reported.reports p r at)))
        (ends.reported.each p r at);
    whole = ends.reported.whole;
    printed = ends.reported.printed;
  };
}

-- and what is kept of its processes is a beginning of the script's operations
pub keeps_tasks : {D N H : Type 0} (disk : Ghosts D N) (m : State D RingIntake H) (names : ℕ → Option Names) (tasks : List Task) (processes : ℕ) (cs : List Client) → AreClients names tasks processes cs
    → KeepsOwn (inode_count_of (disk.image m.opening)) m.world.journal.list (length cs) (ops_at cs) → KeepsTasks disk tasks processes m
keeps_tasks disk m names tasks processes cs are own p low =
    let here : p < length cs = subst (λ n. p < n) (sym are.count) low in
    subst (KeepsFirst (inode_count_of (disk.image m.opening)) m.world.journal.list p) (ops_are names tasks processes cs are p here) (own p here)

module _ {D N H : Type 0} (disk : Ghosts D N) {heralds : herald_trait.Ghosts H} (d : D) (i : RingIntake) (h : H) (processes : ℕ) (k m : State D RingIntake H) (opened : IsOpened disk d i h processes k) (origin : HasOriginOf disk heralds k m) where
  pub many_are : length m.world.processes ≡ processes
  many_are = origin.runs.many ∙ ap (λ w. length w.processes) opened.world ∙ length-replicate processes _

  -- the clients have the kernel's rings
  pub have_rings : (tasks : List Task) (cs : List Client) → AreClients (intake_names i) tasks processes cs → HaveRings (intake_names m.intake) cs
  have_rings tasks cs are p c at = origin.rings p ∙ ap (λ j. intake_names j p) opened.intake ∙ (are.each p c at).rings

module _ {D N H : Type 0} (disk : Ghosts D N) {heralds : herald_trait.Ghosts H} (has_now : (d : D) → disk.leaves d (disk.moment d) (disk.image d)) (d : D) (i : RingIntake) (h : H) (processes : ℕ) (k m : State D RingIntake H)
    (opened : IsOpened disk d i h processes k) (origin : HasOriginOf disk heralds k m) where
  abbrev P : Image → Type 0
  P = KeepsBetween 0 (most_of m.store.volume) (disk.image m.opening) m.world.journal.list

  leaves_some : LeavesOnly disk.moment disk.leaves m.opening m.store.volume.device P → LeavesFromSync disk d m.store.volume.device P
  leaves_some since =
      let run = subst (λ o. LeavesOnly disk.moment disk.leaves o m.store.volume.device P) origin.runs.opening since in
      run_leaves disk d k.opening m.store.volume.device (RecoversAs (disk.image d)) P
      (kept_alike disk has_now d k.opening m.store.volume.device (most_of m.store.volume) (disk.image m.opening) m.world.journal.list opened.sound opened.opening run)
      opened.leaves run

  pub is_served : {M : Type 0} (intake : intake_trait.Ghosts RingIntake M) (herald : herald_trait.Ghosts H) → Known disk intake herald m → (e : D) → e ≡ m.store.volume.device → IsServed disk d e processes m
  is_served intake herald known e is = record {
    sound = opened.sound;
    opening = ap disk.image origin.runs.opening ∙ opened.opening;
    many = many_are disk d i h processes k m opened origin;
    now = is;
    keeps = subst (λ o. (x : Image) → disk.leaves o (disk.moment o) x → KeepsNow m.store.volume.log.committed (most_of m.store.volume) (disk.image m.opening) m.world.journal.list x) (sym is) known.stop.keeps;
    current = known.current;
    replays = known.replays;
    unanswered = known.unanswered;
    journal = known.journal;
    faults = ap disk.fault_count is ∙ known.faults ∙ ap (faults_after m.store.volume.fault) (ap disk.fault_count origin.runs.opening ∙ opened.faults);
    leaves = subst (λ o. LeavesFromSync disk d o P) (sym is) (leaves_some known.stop.since);
  }

module _ {D N : Type 0} (disk : Ghosts D N) (d e : D) (tasks : List Task) (processes : ℕ) (old new : Option (List ℕ)) (none : Type 0) where
  -- what a run that was refused came to
  pub not_run : (m : Ringed D) (names : ℕ → Option Names) (cs : List Client) → IsServed disk d e processes m → AreClients names tasks processes cs → KeepsTasks disk tasks processes m
      → (starved : Bool) (r : RunRefusal) → IsEndedBy (inode_count_of (disk.image m.opening)) m (ops_at cs) (length cs) starved old new r → IsNotRun disk d e tasks processes old new none r
  not_run m names cs served are own starved (Disk fault) (all, why) = (all, record { last = m; served = served; own = own; ends = ends_so (inode_count_of (disk.image m.opening)) m names tasks processes cs (Some fault) all old new are why })
  not_run m names cs served are own starved Unanswered why = record { last = m; served = served; own = own; ends = ends_so (inode_count_of (disk.image m.opening)) m names tasks processes cs None false old new are why.0 }
  not_run m names cs served are own starved NoMemory why = record { last = m; served = served; own = own; ends = ends_so (inode_count_of (disk.image m.opening)) m names tasks processes cs None false old new are why.0 }
  not_run m names cs served are own starved Output why = record { last = m; served = served; own = own }
  not_run m names cs served are own starved (Unopened fault) why = absurd why
  not_run m names cs served are own starved Thread why = absurd why

module _ {D N : Type 0} (disk : Ghosts D N) (d e : D) (tasks : List Task) (processes : ℕ) (old new : Option (List ℕ)) where
  -- of which session it was
  pub not_run_so : (m : Ringed D) (names : ℕ → Option Names) (cs : List Client) → ComesBySession disk d e processes m → AreClients names tasks processes cs
      → (starved : Bool) (r : RunRefusal) → IsEndedBy (inode_count_of (disk.image m.opening)) m (ops_at cs) (length cs) starved old new r → RefusesSession disk d e tasks processes old new r
  not_run_so m names cs comes are starved (Disk fault) (all, why) = (all, record { last = m; comes = comes; ends = ends_so (inode_count_of (disk.image m.opening)) m names tasks processes cs (Some fault) all old new are why })
  not_run_so m names cs comes are starved Unanswered why = record { last = m; comes = comes; ends = ends_so (inode_count_of (disk.image m.opening)) m names tasks processes cs None false old new are why.0 }
  not_run_so m names cs comes are starved NoMemory why = record { last = m; comes = comes; ends = ends_so (inode_count_of (disk.image m.opening)) m names tasks processes cs None false old new are why.0 }
  not_run_so m names cs comes are starved Output why = (m, comes)
  not_run_so m names cs comes are starved (Unopened fault) why = absurd why
  not_run_so m names cs comes are starved Thread why = absurd why

-- what it came to where no kernel was opened
pub not_begun : {D N : Type 0} (disk : Ghosts D N) (d e : D) (processes : ℕ) (fault : OpenFault) → IsNotOpened disk processes d e fault → HasNotBegun disk d e processes fault
not_begun disk d e processes fault why = record {
  cause = why;
  name = not_opened_name disk processes d e fault why;
  leaves = not_opened_leaves disk processes d e fault why;
}
