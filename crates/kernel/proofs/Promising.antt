-- From what a step does follows what it promises.
use Rattle.std.proofs.Common.{◌≡◌, ◌≢◌, ⊎_elim, ℕ, ◌<◌, ◌≤◌, length, sym, ◌∙◌, ap, subst, arith, None, Bool}
use Rattle.std.specs.Prelude.{IfNone}
use Rattle.kernel.specs.Common.{Acts, all_steps_left, as_many, cases_eq, Form, form_of, GivesNone, Image, inode_count_of, Inv, IsRight, IsStore, KeepsBetween, KeepsNow, leaves_between, leaves_on, LeavesOnly, LeavesSince, left_of, left_same, LogState, MakesStep, most_of, others_stay, Process, process, State, Step, step_bound, TakesOne, task_left, there_now, where_none}
use Rattle.blocks.specs.declared.disk.Disk as disk_trait
use Rattle.ports.specs.declared.herald.Herald as herald_trait
use Rattle.ports.specs.declared.intake.Intake as intake_trait
use Rattle.kernel.specs.Awake.{IsAwake}
use Rattle.kernel.specs.Progress.{IsJoint, KeepsShutdown}
use Rattle.kernel.proofs.Events.{Event, event_of}
use Rattle.kernel.proofs.Right.{Survive, keeps_now}
use Rattle.kernel.proofs.Well.{IsWell, few_numbers}

module _ {D I H : Type 0} (image : D → Image) (form : Form) (n : ℕ) (holds : Bool) (p : ℕ) (r : Step) (k m : State D I H) (lt : p < length k.world.processes) (e : Event image form n holds p k.store k.world m.store m.world r) where
  others_are : (q : ℕ) → q ≢ p → process m.world q ≡ process k.world q
  others_are q apart = others_stay k.world m.world p e.now e.processes q apart

  here : process m.world p ≡ e.now
  here = there_now k.world m.world p e.now e.processes lt

  keeps_shutdown : KeepsShutdown k.world m.world
  keeps_shutdown = record {
    stays = e.shut;
    none = λ shut q. ⊎_elim
        (λ (same : q ≡ p). subst (λ (o : ℕ). (process m.world o).begun ≡ (process k.world o).begun) (sym same) (ap (λ (v : Process). v.begun) here ∙ e.begun shut))
        (λ (apart : q ≢ p). ap (λ (v : Process). v.begun) (others_are q apart))
        (cases_eq q p);
  }

  takes_one : form_of (image m.opening) ≡ form → r ≡ Step.Moved → TakesOne image k p m
  takes_one its moved =
      let same : left_of image m p ≡ all_steps_left e.now.at (task_left image m.store p) m.store.volume.log = ap (λ (v : Process). all_steps_left v.at (task_left image m.store p) m.store.volume.log) here in
      let fewer = e.bound moved in
      let few = fewer.1 in
      let some = fewer.2 in
      record { falls = λ busy. let less = fewer.0 busy in omega (arith, same, less); few = subst (λ (f : Form). left_of image m p < step_bound f) (sym its) (omega (arith, same, few)); some = omega (arith, same, some) }

  gives_none : GivesNone image k p m
  gives_none q apart =
      let same = e.others.left q apart in
      subst (λ (u : Process). all_steps_left u.at (task_left image m.store q) m.store.volume.log ≤ left_of image k q) (sym (others_are q apart))
      (left_same (process k.world q).at (task_left image k.store q) (task_left image m.store q) k.store.volume.log m.store.volume.log (omega (arith, same))
      (λ commits. let log = e.others.log q apart commits in (ap (λ (l : LogState). l.commit) log, ap (λ (l : LogState). length l.homes) log)))

module _ {D N I M H : Type 0} (disk : disk_trait.Ghosts D N) (intake : intake_trait.Ghosts I M) (herald : herald_trait.Ghosts H) (p : ℕ) (r : Step) (k m : State D I H) where
  -- the facts of a kernel whose disk has not failed
  well_of : Inv disk intake herald k → IsStore disk.image k.store → p < length k.world.processes → k.store.volume.fault ≡ None → IsWell disk.image (disk.image k.opening) k.store k.world p
  well_of inv store lt well = record {
    well = well;
    inside = lt;
    paired = inv.right.paired;
    has = where_none k.store.volume.fault well inv.right.facts;
    agrees = where_none k.store.volume.fault well store.agrees;
    looks = where_none k.store.volume.fault well store.looks;
    few = few_numbers disk.image k.store store;
    numbers = store.numbers;
    count = inv.right.numbers;
  }

  event_here : Inv disk intake herald k → IsStore disk.image k.store → p < length k.world.processes → Acts disk intake herald p r k m
      → Event disk.image (form_of (disk.image k.opening)) (inode_count_of (disk.image k.opening)) (disk.holding (disk.name k.store.volume.device)) p k.store k.world m.store m.world r
  event_here inv store lt acts = event_of disk (disk.image k.opening) p k.store m.store k.world m.world _ _ _ r (well_of inv store lt) acts.next

  -- what a stop leaves in the time of the step
  leaves_here : Inv disk intake herald k → IsStore disk.image k.store → p < length k.world.processes
      → ((x : Image) → disk.leaves k.store.volume.device (disk.moment k.store.volume.device) x → KeepsNow k.store.volume.log.committed (most_of k.store.volume) (disk.image k.opening) k.world.journal.list x)
      → Acts disk intake herald p r k m
      → ((x : Image) → disk.leaves m.store.volume.device (disk.moment m.store.volume.device) x → KeepsNow m.store.volume.log.committed (most_of m.store.volume) (disk.image k.opening) m.world.journal.list x)
      → LeavesOnly disk.moment disk.leaves k.store.volume.device m.store.volume.device (KeepsBetween k.store.volume.log.committed (most_of m.store.volume) (disk.image k.opening) m.world.journal.list)
  leaves_here inv store lt before acts after =
      leaves_between (disk.image k.opening) k.store.volume m.store.volume k.world.journal.list m.world.journal.list (event_here inv store lt acts).grows disk.moment disk.leaves before after acts.device.time

  -- and what it has left since the opening
  pub since_step : Inv disk intake herald k → IsStore disk.image k.store → Survive disk k.store → p < length k.world.processes
      → Acts disk intake herald p r k m → IsRight disk k.opening m.store m.world → Survive disk m.store → LeavesSince disk k.opening m.store m.world
  since_step inv store survives lt acts right survive =
      leaves_on (disk.image k.opening) disk.moment disk.leaves k.opening 0 k.store.volume m.store.volume k.world.journal.list m.world.journal.list (omega arith) (event_here inv store lt acts).grows inv.since
      (leaves_here inv store lt (keeps_now disk k.opening k.store k.world k.store.volume.fault inv.right.facts inv.right.keeps survives) acts
      (keeps_now disk k.opening m.store m.world m.store.volume.fault right.facts right.keeps survive))

  pub makes_step : Inv disk intake herald k → IsStore disk.image k.store → p < length k.world.processes
      → ((x : Image) → disk.leaves k.store.volume.device (disk.moment k.store.volume.device) x → KeepsNow k.store.volume.log.committed (most_of k.store.volume) (disk.image k.opening) k.world.journal.list x)
      → Acts disk intake herald p r k m
      → ((x : Image) → disk.leaves m.store.volume.device (disk.moment m.store.volume.device) x → KeepsNow m.store.volume.log.committed (most_of m.store.volume) (disk.image m.opening) m.world.journal.list x)
      → IfNone m.store.volume.fault (IsAwake disk.image m) → IsJoint disk.image m
      → MakesStep disk intake herald p r k m
  makes_step inv store lt before acts after awake joint =
      let opening = disk.image k.opening in
      let n = inode_count_of opening in
      let holds = disk.holding (disk.name k.store.volume.device) in
      let e = event_here inv store lt acts in
      let leaves = leaves_here inv store lt before acts
      (subst (λ (o : D). (x : Image) → disk.leaves m.store.volume.device (disk.moment m.store.volume.device) x → KeepsNow m.store.volume.log.committed (most_of m.store.volume) (disk.image o) m.world.journal.list x) acts.opening after) in
      record {
        acts = acts;
        progress = record {
          many = as_many k.world m.world p e.now e.processes;
          committed = e.committed;
          shut = keeps_shutdown disk.image (form_of opening) n holds p r k m lt e;
          bound = takes_one disk.image (form_of opening) n holds p r k m lt e (ap (λ (o : D). form_of (disk.image o)) acts.opening);
          others = gives_none disk.image (form_of opening) n holds p r k m lt e;
          awake = awake;
          joint = joint;
          grows = e.grows;
        };
        stop = record {
          keeps = after;
          leaves = subst (λ (o : D). LeavesOnly disk.moment disk.leaves k.store.volume.device m.store.volume.device (KeepsBetween k.store.volume.log.committed (most_of m.store.volume) (disk.image o) m.world.journal.list)) (sym acts.opening) leaves;
        };
      }
