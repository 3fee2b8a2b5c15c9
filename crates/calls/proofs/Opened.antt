-- A kernel that was just opened.
use Rattle.std.proofs.Common.{◌≡◌, ◌∙◌, ℕ, [], length, sym, ap}
use Rattle.std.specs.Prelude.{slice_get}
use Rattle.std.specs.List.{list_all}
use Rattle.blocks.specs.declared.disk.Disk.{Ghosts}
use Rattle.model.specs.Journal.{own}
use Rattle.model.specs.Log.{logged_count, recovered}
use Rattle.model.specs.Lemmas.Recovery.{logged_count-left}
use Rattle.ports.specs.History.{nothing_yet}
use Rattle.ports.specs.Queues.{QueueFits, polled, waiting}
use Rattle.ports.specs.declared.herald.PlainHerald.{PlainHerald}
use Rattle.ports.specs.declared.queues.QueueIntake.{QueueIntake}
use Rattle.inodes.specs.Holding.{claim_of}
use Rattle.inodes.specs.Tasks.{task}
use Rattle.history.specs.Processes.{process}
use Rattle.kernel.specs.Opening.{IsOpened}
use Rattle.calls.specs.Calls.{image_on, is_own}
use Rattle.calls.specs.Lemmas.Entries.{none_polled, recovers_whole}
use Rattle.calls.specs.Opening.{IsOpenedOver, IsOpenedPair, IsOpenedSole}
use Rattle.calls.specs.Stepping.{Plain}
use Rattle.calls.specs.Transactions.{IsFetched}

module _ {D N : Type 0} (disk : Ghosts D N) (d : D) (i : QueueIntake) (h : PlainHerald) (n : ℕ) (k : Plain D) (opened : IsOpened disk d i h n k) where
  image : image_on disk.image k ≡ recovered (disk.image d)
  image = ap (λ s. disk.image s.volume.device) opened.store ∙ opened.opening

  opened_over : (rests : Type 0) → rests → IsOpenedOver disk rests d k
  opened_over rests rest = record {
    sound = opened.sound;
    image = image;
    none = ap logged_count image ∙ logged_count-left (disk.image d);
    whole = recovers_whole (disk.image d) (image_on disk.image k) opened.sound image;
    device = ap (λ s. s.volume.device) opened.store;
    rests = rest;
    none_called = ap (λ w. length w.journal.list) opened.world;
    name = opened.name;
    writes = opened.writes;
    syncs = opened.syncs;
    faults = opened.faults;
    settled = opened.settled;
    leaves = opened.leaves;
  }

  -- with empty queues
  none_fetched : (p : ℕ) → waiting i p ≡ [] → QueueFits i p nothing_yet → IsFetched k p
  none_fetched p empty fits = record {
    waits = ap (λ q. waiting q p) opened.intake ∙ empty;
    fetched = ap (λ q. polled q p) opened.intake ∙ none_polled (slice_get i.lanes.items p) fits ∙ ap (λ w. length (own p w.journal.list)) (sym opened.world);
  }

-- opened with empty queues, it rests
pub opened_sole : {D N : Type 0} (disk : Ghosts D N) (d : D) (i : QueueIntake) (h : PlainHerald) (k : Plain D) → IsOpened disk d i h 1 k → waiting i 0 ≡ [] → QueueFits i 0 nothing_yet → IsOpenedSole disk d k
opened_sole disk d i h k opened empty fits =
    let first = none_fetched disk d i h 1 k opened 0 empty fits in
    let world = opened.world in
    opened_over disk d i h 1 k opened _ (record {
      one = ap (λ w. length w.processes) world;
      idle = ap (λ w. (process w 0).at) world;
      own = ap (λ w. list_all is_own w.journal.list) world;
      waits = first.waits;
      fetched = first.fetched ∙ ap (λ w. length (own 0 w.journal.list)) world ∙ ap (λ w. length w.journal.list) (sym world);
      well = ap (λ s. s.volume.fault) opened.store;
      faultless = ap (λ s. disk.fault_count s.volume.device) opened.store;
      unshut = ap (λ w. w.is_shut) world;
    })

pub opened_pair : {D N : Type 0} (disk : Ghosts D N) (d : D) (i : QueueIntake) (h : PlainHerald) (k : Plain D) → IsOpened disk d i h 2 k → ((p : ℕ) → waiting i p ≡ []) → ((p : ℕ) → QueueFits i p nothing_yet) → IsOpenedPair disk d k
opened_pair disk d i h k opened empty fits =
    let world = opened.world in
    opened_over disk d i h 2 k opened _ (record {
      pair = record {
        two = ap (λ w. length w.processes) world;
        tasks = ap (λ s. length s.tasks) opened.store;
        free = ap (λ w. (process w 0).at) world;
        released = λ i. ap (λ s. claim_of (task s.tasks 0) i) opened.store;
        first = none_fetched disk d i h 2 k opened 0 (empty 0) (fits 0);
        second = none_fetched disk d i h 2 k opened 1 (empty 1) (fits 1);
        well = ap (λ s. s.volume.fault) opened.store;
        faultless = ap (λ s. disk.fault_count s.volume.device) opened.store;
        unshut = ap (λ w. w.is_shut) world;
      };
      idle = ap (λ w. (process w 1).at) world;
    })
