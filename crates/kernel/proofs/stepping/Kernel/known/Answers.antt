use Rattle.std.proofs.Common.{rules, ◌≡◌, ◌∙◌, sym, subst}
use Rattle.kernel.specs.Common.{all_committed, Image, IsCache, KeepsNow, kept_of_taken, known_current, known_files, known_size, most_of, none_seen, State}
use Rattle.bcache.specs.Lemmas.Current.{length-current}
use Rattle.history.specs.Lemmas.Shapes.{rising_beginnings}
use Rattle.kernel.specs.Known.{Known}
use Rattle.kernel.proofs.Openings.{opens_again}
use Rattle.kernel.proofs.Lasting.{lasts_now}
use Rattle.kernel.proofs.Awaking.{awake_now}
use Rattle.kernel.proofs.Resting.{at_rest, if_both, none_logged, shows_disk, stands_for}
use Rattle.kernel.proofs.Right.{keeps_now}
use Rattle.kernel.proofs.stepping.Kernel.known.Goals as goal

pub returns : goal.returns
returns g c =
    let k = c.self.inside in
    let right = c.self.invariant.right in
    let ports = c.self.invariant.ports in
    let keeps : (x : Image) → g.D.Disk.leaves k.store.volume.device (g.D.Disk.moment k.store.volume.device) x → KeepsNow k.store.volume.log.committed (most_of k.store.volume) (g.D.Disk.image k.opening.value) k.processes.journal.list x =
    keeps_now g.D.Disk k.opening.value k.store k.processes k.store.volume.fault right.facts right.keeps c.known.ensures.survives in
    let buffers : c.cache.result.now ≡ k.store.volume.buffers = search rules in
    let lasts = lasts_now g.D.Disk k.opening.value k.store k.processes c.known.ensures.store right in
    subst (λ (o : State _ _ _). Known g.D.Disk g.I.Intake g.H.Herald o) c.self.view_is (record {
      stop = record { keeps = keeps; reopens = λ x left. opens_again _ x _ _ (keeps x left).between.keeps; since = c.self.invariant.since };
      current = if_both k.store.volume.fault (λ has joint. record {
        files = λ none. known_current _ _ _ _ has.facts none;
        idle = λ all. known_files _ _ _ _ has.facts all;
        settled = λ none quiet. all_committed k.store.volume.log has.facts.valid.log none quiet;
        empty = λ quiet. none_seen k.store.volume.log.commit (g.D.Disk.image k.store.volume.device) k.store.volume.buffers k.store.volume.log joint quiet;
        clear = λ quiet. none_logged k.store.volume.log.commit (g.D.Disk.image k.store.volume.device) k.store.volume.buffers k.store.volume.log joint quiet;
        shown = λ rest. shows_disk k.store.volume.log.commit (g.D.Disk.image k.store.volume.device) k.store.volume.buffers k.store.volume.log joint rest.quiet rest.none;
        rests = λ all. at_rest g.D.Disk.image (g.D.Disk.image k.opening.value) k.store k.processes has all;
        stands = λ m run. stands_for g.D.Disk.image (g.D.Disk.image k.opening.value) k.store k.processes has m run;
        size = sym joint.size ∙ sym (length-current (g.D.Disk.image k.store.volume.device) k.store.volume.buffers) ∙ known_size _ _ _ _ has.facts;
      }) right.facts c.known.ensures.volume;
      awake = if_both k.store.volume.fault (λ wakes goes. wakes goes) (if_both k.store.volume.fault (λ has joint. awake_now g.D.Disk.image (g.D.Disk.image k.opening.value) (record { store = k.store; opening = k.opening.value; intake = k.intake; herald = k.herald; world = k.processes }) right.paired has joint) right.facts c.known.ensures.volume) c.known.ensures.goes;
      cache = subst IsCache buffers c.known-2.ensures;
      locks = lasts.locks;
      unanswered = lasts.unanswered;
      left = lasts.left;
      journal = right.journal;
      order = rising_beginnings _ _ _ right.journal.groups right.journal.rising;
      replays = right.replays;
      histories = ports.histories;
      beginnings = λ p groups h is. kept_of_taken _ _ p groups _ _ _ h right.journal is;
      told = ports.told;
      served = ports.served;
      some = right.paired.some;
      few = right.paired.few;
      numbers = right.numbers;
      faults = right.faults;
    })
