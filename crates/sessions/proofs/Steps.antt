-- What a step of a session's kernel does to its disk, and to what a stop may leave of it.
use Rattle.std.proofs.Common.{◌≡◌, ◌⊎◌, ◌∙◌, ℕ, ◌<◌, ◌≤◌, ◌+◌, ◌++◌, ◌^◌, Bool, true, false, List, [], ◌∷◌, length, set, inl, inr, ⊎_elim, refl, sym, ap, subst, arith, length-set}
use Rattle.std.proofs.lemmas.List.{get_or-set_same}
use Rattle.std.specs.Prelude.{Option, None}
use Rattle.bcache.specs.Buffers.{Buffers}
use Rattle.blocks.specs.Calls.{OnlyReads}
use Rattle.blocks.specs.Common.{applied, Elapses, HeldImages, Image, one_more, Write}
use Rattle.blocks.specs.Disk.{block_at}
use Rattle.blocks.specs.Told.{IsWritten}
use Rattle.history.specs.Alone.{is_committing_at}
use Rattle.history.specs.Processes.{process}
use Rattle.history.specs.declared.types.Phase.{Phase}
use Rattle.kernel.specs.Acts.{Acts}
use Rattle.kernel.specs.Next.{NextAt, NextIf}
use Rattle.kernel.specs.State.{State}
use Rattle.model.specs.declared.types.operations.Step.{Step}
use Rattle.ports.specs.declared.herald.Herald.{Ghosts as Heralds}
use Rattle.ports.specs.declared.herald.PlainHerald.{PlainHerald}
use Rattle.ports.specs.declared.intake.Intake.{Ghosts as Intakes}
use Rattle.ports.specs.declared.queues.QueueIntake.{QueueIntake}
use Rattle.sessions.proofs.Calls.{mix_put}
use Rattle.sessions.specs.Held.{IsMix, LeftSince, MayLeave, WereWhole, since_sync}
use Rattle.sessions.specs.Lemmas.Held.{left_now, now_left, only_left}
use Rattle.sessions.specs.Lemmas.Ledgers.{applied_push, held_push}
use Rattle.sessions.specs.Track.{Call, moment_of}
use Rattle.sessions.specs.contracts.disk.HostDiskDisk.TheImpl.{ghosts}
use Rattle.sessions.specs.declared.disk.HostDisk.{HostDisk}
use Rattle.sessions.specs.declared.session.Session.{Session}
use Rattle.sessions.specs.declared.session.Told.TheVariants.{Nothing, Wrote, Synced}
use Rattle.sessions.specs.Session.{disk_of, holds_of, image_of, syncs_of, writes_of}
use Rattle.sessions.specs.Telling.{CarriesOn}
use Rattle.wal.specs.Joint.{place_at, stepped_at, synced_at}
use Rattle.wal.specs.Machine.{LogState}
use Rattle.wal.specs.Step.{CommitStepsAt, CommitSyncs, CommitWrites}
use Rattle.wal.specs.declared.types.Commit.{Commit}
use Rattle.wal.specs.declared.types.Committed.{Committed}
use Rattle.wal.specs.declared.types.DeviceFault.{DeviceFault}
use Rattle.wal.specs.declared.types.Part.{Part}

-- it neither wrote nor synced
pub record Looked (d e : HostDisk) : Type 0 where
  pub writes : e.copy.writes ≡ d.copy.writes
  pub syncs : e.copy.syncs ≡ d.copy.syncs
  pub image : e.copy.blocks.items ≡ d.copy.blocks.items

-- it wrote the block of that number, in a log of that size
pub record WroteAt (place size : ℕ) (d e : HostDisk) : Type 0 where
  pub writes : e.copy.writes ≡ one_more d.copy.writes
  pub syncs : e.copy.syncs ≡ d.copy.syncs
  pub bytes : List ℕ
  pub image : e.copy.blocks.items ≡ set d.copy.blocks.items place bytes
  pub size_is : length e.copy.blocks.items ≡ size

pub record SyncedIt (d e : HostDisk) : Type 0 where
  pub writes : e.copy.writes ≡ d.copy.writes
  pub syncs : e.copy.syncs ≡ one_more d.copy.syncs
  pub image : e.copy.blocks.items ≡ d.copy.blocks.items

synced_size : (part : Part) (l : LogState) → (synced_at part l).size ≡ l.size
synced_size Part.Log l = refl
synced_size Part.Header l = refl
synced_size Part.Homes l = refl
synced_size Part.Clear l = refl

stepped_size : (holds : Bool) (c : Commit) (l : LogState) → (stepped_at holds c l).size ≡ l.size
stepped_size holds Commit.Quiet l = refl
stepped_size holds (Commit.Logging k) l = refl
stepped_size holds Commit.Heading l = refl
stepped_size holds (Commit.Homing k) l = refl
stepped_size holds Commit.Clearing l = refl
stepped_size holds (Commit.Syncing part) l = synced_size part l

module _ (d e : HostDisk) (c f : Buffers) (l n : LogState) where
  abbrev Out : Type 0
  Out = Looked d e ⊎ (WroteAt (place_at l.commit l.homes) l.size d e ⊎ SyncedIt d e)

  write_out : (r : Committed) → CommitWrites ghosts d c l r e f n → Out
  write_out Committed.More w = inr (inl (record { writes = w.writes; syncs = w.syncs; bytes = _; image = w.step.1.image; size_is = w.step.1.joint.size ∙ ap (λ (m : LogState). m.size) w.step.1.log ∙ stepped_size d.holds l.commit l }))
  write_out (Committed.Durable g) w = inr (inl (record { writes = w.writes; syncs = w.syncs; bytes = _; image = w.step.1.image; size_is = w.step.1.joint.size ∙ ap (λ (m : LogState). m.size) w.step.1.log ∙ stepped_size d.holds l.commit l }))
  write_out Committed.Done w = inr (inl (record { writes = w.writes; syncs = w.syncs; bytes = _; image = w.step.1.image; size_is = w.step.1.joint.size ∙ ap (λ (m : LogState). m.size) w.step.1.log ∙ stepped_size d.holds l.commit l }))
  write_out (Committed.Fault fault) w = absurd (omega (arith, w.faults.1))

  sync_out : (part : Part) (r : Committed) → CommitSyncs ghosts part d c l r e f n → Out
  sync_out part Committed.More y = inr (inr (record { writes = y.writes; syncs = y.syncs; image = y.image }))
  sync_out part (Committed.Durable g) y = inr (inr (record { writes = y.writes; syncs = y.syncs; image = y.image }))
  sync_out part Committed.Done y = inr (inr (record { writes = y.writes; syncs = y.syncs; image = y.image }))
  sync_out part (Committed.Fault fault) y = absurd (omega (arith, y.faults.1))

  commit_out : (k : Commit) (r : Committed) → CommitStepsAt ghosts k d c l r e f n → Out
  commit_out Commit.Quiet r steps = absurd steps
  commit_out (Commit.Logging k) r steps = write_out r steps
  commit_out Commit.Heading r steps = write_out r steps
  commit_out (Commit.Homing k) r steps = write_out r steps
  commit_out Commit.Clearing r steps = write_out r steps
  commit_out (Commit.Syncing part) r steps = sync_out part r steps

module _ {M : Type 0} (intake : Intakes QueueIntake M) (herald : Heralds PlainHerald) (p : ℕ) (r : Step) (k m : State HostDisk QueueIntake PlainHerald) (acts : Acts ghosts intake herald p r k m) (well : k.store.volume.fault ≡ None) where
  abbrev d : HostDisk
  d = k.store.volume.device

  abbrev e : HostDisk
  e = m.store.volume.device

  abbrev Came : Type 0
  Came = Out d e k.store.volume.buffers m.store.volume.buffers k.store.volume.log m.store.volume.log

  only_read : OnlyReads ghosts d e → Came
  only_read reads = inl (record { writes = reads.writes; syncs = reads.syncs; image = reads.image })

  came : (a : Phase) → NextAt ghosts a k.store k.world p (intake.side k.intake p).ahead (intake.side m.intake p) (herald.told m.herald) r m.store m.world
      → (is_committing_at a ≡ false → OnlyReads ghosts d e) → Came
  came Phase.Idle next reads = only_read (reads refl)
  came (Phase.BeforeTurn group op) next reads = only_read (reads refl)
  came (Phase.AfterTurn group j) next reads = only_read (reads refl)
  came (Phase.Ending group j) next reads = only_read (reads refl)
  came (Phase.Committing group j) next reads =
      commit_out d e k.store.volume.buffers m.store.volume.buffers k.store.volume.log m.store.volume.log k.store.volume.log.commit next.result next.commits.volume.write

  pub outcome : Looked k.store.volume.device m.store.volume.device
      ⊎ (WroteAt (place_at k.store.volume.log.commit k.store.volume.log.homes) k.store.volume.log.size k.store.volume.device m.store.volume.device ⊎ SyncedIt k.store.volume.device m.store.volume.device)
  outcome =
      came (process k.world p).at
      (subst (λ (f : Option DeviceFault). NextIf ghosts f k.store k.world p (intake.side k.intake p).ahead (intake.side m.intake p) (herald.told m.herald) r m.store m.world) well acts.next)
      acts.device.reads

-- which of the three it was, by the counts
module _ (d e : HostDisk) (place size : ℕ) (came : Looked d e ⊎ (WroteAt place size d e ⊎ SyncedIt d e)) where
  pub must_write : (e.copy.writes ≡ d.copy.writes → ⊥) → WroteAt place size d e
  must_write differs = ⊎_elim (λ looked. absurd (differs looked.writes)) (λ more. ⊎_elim (λ wrote. wrote) (λ synced. absurd (differs synced.writes)) more) came

  module _ (few : d.copy.writes < 2 ^ 63) where
    pub must_sync : e.copy.writes ≡ d.copy.writes → (e.copy.syncs ≡ d.copy.syncs → ⊥) → SyncedIt d e
    must_sync same differs =
        ⊎_elim (λ looked. absurd (differs looked.syncs)) (λ more. ⊎_elim (λ wrote. absurd (omega (arith, few, same, wrote.writes))) (λ synced. synced) more) came

    pub must_look : d.copy.syncs < 2 ^ 63 → e.copy.writes ≡ d.copy.writes → e.copy.syncs ≡ d.copy.syncs → Looked d e
    must_look few_syncs same alike =
        ⊎_elim (λ looked. looked)
        (λ more. ⊎_elim (λ wrote. absurd (omega (arith, few, same, wrote.writes))) (λ synced. absurd (omega (arith, few_syncs, alike, synced.syncs))) more) came

-- one moment ago a stop might leave no more than now
near_left : (y : Image) (cs : List Call) (t : ℕ) (x : Image) → WereWhole (length y) cs → moment_of cs ≤ t + 1 → LeftSince true y cs t x → MayLeave true y cs x
near_left y [] t x were near left = left
near_left y (call ∷ cs) t x were near (inl may) = may
near_left y ((z, true) ∷ cs) t x were near (inr was) = absurd (omega (arith, near, was.0))
near_left y ((z, false) ∷ cs) t x were near (inr was) =
    let at : t ≡ moment_of cs = omega (arith, near, was.0) in
    let mix : IsMix z (since_sync true cs) x = only_left true z cs x (subst (λ (s : ℕ). LeftSince true z cs s x) at was.1) in
    let size : length z ≡ length y = (were 0 (omega arith)).size_is in
    record { size = mix.size ∙ size; each = λ b. inr (mix.each b) }

abbrev left_by : HostDisk → ℕ → Image → Type 0
left_by d = LeftSince d.holds d.copy.blocks.items d.track

module _ (d e : HostDisk) (holds : d.holds ≡ true) (kind : e.holds ≡ d.holds) (time : Elapses (moment_of d.track) (moment_of e.track) (left_by d) (left_by e)) where
  lost : moment_of e.track ≤ moment_of d.track + 1 → (x : Image) → left_by d (moment_of d.track) x → left_by e (moment_of e.track) x
  lost near x left =
      let y : Image = e.copy.blocks.items in
      let held : e.holds ≡ true = kind ∙ holds in
      let since : LeftSince true y e.track (moment_of d.track) x = subst (λ (h : Bool). LeftSince h y e.track (moment_of d.track) x) held (time.keeps (moment_of d.track) x (omega arith) left) in
      subst (λ (h : Bool). LeftSince h y e.track (moment_of e.track) x) (sym held) (now_left true y e.track (moment_of e.track) x (near_left y e.track (moment_of d.track) x e.were_whole near since))

  module _ (few : d.copy.writes < 2 ^ 63) (few_syncs : d.copy.syncs < 2 ^ 63) (synced : Image) (held : List Write) (covers : (x : Image) → HeldImages synced held x → left_by d (moment_of d.track) x) where
    pub looked_leaves : Looked d e → (x : Image) → HeldImages synced held x → left_by e (moment_of e.track) x
    looked_leaves looked x left =
        lost (omega (arith, few, few_syncs, d.counted.writes_are, d.counted.syncs_are, e.counted.writes_are, e.counted.syncs_are, looked.writes, looked.syncs)) x (covers x left)

    pub wrote_leaves : (place size : ℕ) → WroteAt place size d e → place < length e.copy.blocks.items
        → (x : Image) → HeldImages synced (held ++ (place, block_at e.copy.blocks.items place) ∷ []) x → left_by e (moment_of e.track) x
    wrote_leaves place size wrote inside x left =
        let y : Image = e.copy.blocks.items in
        let r = held_push synced held (place, block_at y place) x left in
        let near : moment_of e.track ≤ moment_of d.track + 1 = omega (arith, few, few_syncs, d.counted.writes_are, d.counted.syncs_are, e.counted.writes_are, e.counted.syncs_are, wrote.writes, wrote.syncs) in
        let before : left_by e (moment_of e.track) r.0 = lost near r.0 (covers r.0 r.1) in
        ⊎_elim (λ same. subst (left_by e (moment_of e.track)) (sym same) before)
        (λ put. subst (left_by e (moment_of e.track)) (sym put) (now_left e.holds y e.track (moment_of e.track) (set r.0 place (block_at y place))
        (mix_put y (since_sync e.holds e.track) place r.0 inside (only_left e.holds y e.track r.0 before)))) r.2

pub synced_leaves : (e : HostDisk) (x : Image) → x ≡ e.copy.blocks.items → left_by e (moment_of e.track) x
synced_leaves e x is = subst (left_by e (moment_of e.track)) (sym is) (left_now e.holds e.copy.blocks.items e.track)

-- A step between two sessions, whose disks they are.
module _ (s t : Session) (holds : holds_of s ≡ true) (kind : holds_of t ≡ holds_of s) (time : Elapses (moment_of (disk_of s).track) (moment_of (disk_of t).track) (left_by (disk_of s)) (left_by (disk_of t)))
    (few : writes_of s < 2 ^ 63) (few_syncs : syncs_of s < 2 ^ 63) where
  pub looked_carries : Looked (disk_of s) (disk_of t) → CarriesOn ghosts Nothing s t
  looked_carries looked l covers = record {
    shows = looked.image ∙ covers.shows;
    leaves = looked_leaves (disk_of s) (disk_of t) holds kind time few few_syncs l.synced l.held covers.leaves looked;
  }

  pub wrote_carries : (place size : ℕ) → WroteAt place size (disk_of s) (disk_of t) → place < length (image_of t) → CarriesOn ghosts (Wrote place) s t
  wrote_carries place size wrote inside l covers =
      let v = block_at (image_of t) place in
      let same : v ≡ wrote.bytes = ap (λ (x : Image). block_at x place) wrote.image ∙ get_or-set_same (image_of s) place wrote.bytes [] (omega (arith, inside, ap length wrote.image, length-set (image_of s) place wrote.bytes)) in
      record {
        shows = wrote.image ∙ ap (λ (x : Image). set x place wrote.bytes) covers.shows ∙ ap (set (applied l.synced l.held) place) (sym same) ∙ sym (applied_push l.synced l.held (place, v));
        leaves = wrote_leaves (disk_of s) (disk_of t) holds kind time few few_syncs l.synced l.held covers.leaves place size wrote inside;
      }

  pub synced_carries : SyncedIt (disk_of s) (disk_of t) → CarriesOn ghosts Synced s t
  synced_carries synced l covers = record {
    shows = synced.image ∙ covers.shows;
    leaves = λ x is. synced_leaves (disk_of t) x (is ∙ sym covers.shows ∙ sym synced.image);
  }

pub written_told : (place size : ℕ) (d e : HostDisk) → WroteAt place size d e → place < size → (place < length e.copy.blocks.items) × IsWritten d.copy.blocks.items place e.copy.blocks.items
written_told place size d e wrote lt =
    let x : Image = d.copy.blocks.items in
    let inside : place < length e.copy.blocks.items = omega (arith, lt, wrote.size_is) in
    let same : block_at e.copy.blocks.items place ≡ wrote.bytes = ap (λ (y : Image). block_at y place) wrote.image ∙ get_or-set_same x place wrote.bytes [] (omega (arith, inside, ap length wrote.image, length-set x place wrote.bytes)) in
    (inside, wrote.image ∙ ap (set x place) (sym same))
