-- Each buffer keeps the bytes of a block.
use Rattle.std.proofs.Common.{◌≡◌, ⊎_elim, ℕ, ◌+◌, ◌-◌, ◌<◌, Bool, true, false, cond, eqb, length, List, refl, sym, ◌∙◌, ap, subst, arith, Option, Some, None, length-set}
use Rattle.std.specs.Prelude.{slice_index, IfNone}
use Rattle.wal.specs.Common.{after_acquire, after_acquire_by, after_lock, after_take, answer_at, answer_synced, AreBlocks, block_at, Buffer, buffer, Buffers, changed, Commit, CommitSteps, CommitsTo, CommitSyncs, Committed, CommitWrites, DeviceFault, each_buffer, fault_of_step, Faulted, filled, found, fresh_buffers, Ghosts, header_block, Image, is_among, is_syncing, is_writing, IsBlock, IsCache, IsImage, LogState, noted_cache, Part, pinned, released, seen, some_found, Stepped, stepped_at, Synced, true≢false, unpinned_found, Unsynced, victim, victim_free, with_buffer, written_cache}
use Rattle.blocks.specs.Lemmas.Blocks.{is_block-zero_block}
use Rattle.wal.specs.Lemmas.Commits.{commit_kinds}
use Rattle.wal.specs.Floats.{IsVolume}
use Rattle.wal.specs.Lemmas.Volume.{fresh_slot, image_seen}

-- a change of one slot
blocks_set : (c : Buffers) (i : ℕ) (t : Buffer) → i < length c.slots → IsBlock t.bytes → AreBlocks c → AreBlocks (with_buffer c i t)
blocks_set c i t lt is are = each_buffer c i t (λ j s. IsBlock s.bytes) lt is (λ j other. are j)

pub blocks_fresh : AreBlocks fresh_buffers
blocks_fresh i = subst (λ (s : Buffer). IsBlock s.bytes) (sym (fresh_slot i)) is_block-zero_block

-- a slot is acquired, or nothing changes
pub blocks_acquired : (c d : Buffers) (pid b : ℕ) → IsCache c → AreBlocks c → d ≡ after_acquire c pid b → AreBlocks d
blocks_acquired c d pid b is are new = subst AreBlocks (sym new) (by_found (found c b) refl)
  where
    by_lock : (i : ℕ) (o : Option ℕ) → i < length c.slots → AreBlocks (after_lock o c pid i)
    by_lock i None lt = blocks_set c i (record (buffer c i) { holder = Some pid }) lt (are i) are
    by_lock i (Some q) lt = are

    by_take : (o : Option ℕ) → victim c ≡ o → AreBlocks (after_take o c pid b)
    by_take None e = are
    by_take (Some i) e = blocks_set c i (record (buffer c i) { block = Some b; valid = false; holder = Some pid }) (let free = victim_free c i is e in omega (arith, free.0, is.size)) (are i) are

    by_found : (o : Option ℕ) → found c b ≡ o → AreBlocks (after_acquire_by o c pid b)
    by_found None e = by_take (victim c) refl
    by_found (Some i) e = by_lock i (buffer c i).holder (some_found c b i e).0

-- a slot is filled with a block of the disk
pub blocks_filled : (x : Image) (c d : Buffers) (i b : ℕ) → IsCache c → i < 40 → AreBlocks c → IsImage x → b < length x → d ≡ filled c i (block_at x b) → AreBlocks d
blocks_filled x c d i b is lt are images inside new =
    subst AreBlocks (sym new) (blocks_set c i (record (buffer c i) { valid = true; bytes = block_at x b }) (omega (arith, lt, is.size)) (images b inside) are)

-- a slot is logged, and then its bytes are changed to those of another block
pub blocks_changed : (l : LogState) (c e d : Buffers) (i b : ℕ) (bytes : List ℕ) → IsCache c → i < 40 → AreBlocks c → IsBlock bytes → e ≡ noted_cache l c i b → d ≡ changed e i bytes → AreBlocks d
blocks_changed l c e d i b bytes is lt are block noted_now new =
    subst AreBlocks (sym (new ∙ ap (λ (f : Buffers). changed f i bytes) noted_now)) (by_home (is_among b l.homes))
  where
    inside : i < length c.slots
    inside = omega (arith, lt, is.size)

    by_home : (t : Bool) → AreBlocks (changed (cond t c (pinned c i)) i bytes)
    by_home true = blocks_set c i (record (buffer c i) { bytes = bytes }) inside block are
    by_home false =
        let s : Buffer = record (buffer c i) { pins = (buffer c i).pins + 1 } in
        blocks_set (pinned c i) i (record (buffer (pinned c i) i) { bytes = bytes }) (omega (arith, inside, length-set c.slots i s)) block (blocks_set c i s inside (are i) are)

pub blocks_released : (c d : Buffers) (i : ℕ) → IsCache c → i < 40 → AreBlocks c → d ≡ released c i → AreBlocks d
blocks_released c d i is lt are new = subst AreBlocks (sym new) (blocks_set c i (record (buffer c i) { holder = None }) (omega (arith, lt, is.size)) (are i) are)

-- a home that was written is unpinned
blocks_written : (k : Commit) (hs : List ℕ) (c : Buffers) → AreBlocks c → AreBlocks (written_cache k hs c)
blocks_written Commit.Quiet hs c are = are
blocks_written (Commit.Logging n) hs c are = are
blocks_written Commit.Heading hs c are = are
blocks_written Commit.Clearing hs c are = are
blocks_written (Commit.Syncing part) hs c are = are
blocks_written (Commit.Homing n) hs c are = by_found (found c (slice_index hs n)) refl
  where
    by_found : (o : Option ℕ) → found c (slice_index hs n) ≡ o → AreBlocks (unpinned_found c o)
    by_found None e = are
    by_found (Some i) e = blocks_set c i (record (buffer c i) { pins = (buffer c i).pins - 1 }) (some_found c (slice_index hs n) i e).0 (are i) are

-- a step of a commit
module _ {D N : Type 0} (disk : Ghosts D N) (d : D) (c : Buffers) (l : LogState) (r : Committed) (e : D) (f : Buffers) (m : LogState) (are : AreBlocks c) (plain : disk.holding (disk.name d) ≡ false → is_syncing l.commit ≡ false) where
  abbrev pub left : Image → Type 0
  left = disk.leaves e (disk.moment e)

  abbrev holds : Bool
  holds = disk.holding (disk.name d)

  abbrev Whole : Type 0
  Whole = IsVolume (disk.holding (disk.name e)) (disk.image e) f m left

  -- over a disk that holds no writes back no part waits then, either
  calm : (b : Bool) (k : Commit) → is_writing k ≡ true → b ≡ false → is_syncing (stepped_at b k l).commit ≡ false
  calm true k writing free = absurd (true≢false free)
  calm false Commit.Quiet writing free = absurd (cc writing)
  calm false (Commit.Logging n) writing free = by_last (eqb (n + 1) (length l.homes))
    where
      by_last : (b : Bool) → is_syncing (cond b Commit.Heading (Commit.Logging (n + 1))) ≡ false
      by_last true = refl
      by_last false = refl
  calm false Commit.Heading writing free = refl
  calm false (Commit.Homing n) writing free = by_last (eqb (n + 1) (length l.homes))
    where
      by_last : (b : Bool) → is_syncing (cond b Commit.Clearing (Commit.Homing (n + 1))) ≡ false
      by_last true = refl
      by_last false = refl
  calm false Commit.Clearing writing free = refl
  calm false (Commit.Syncing p) writing free = absurd (cc writing)

  writes : is_writing l.commit ≡ true → CommitWrites disk d c l r e f m → IfNone (fault_of_step r) Whole
  writes writing w = by_answer r w.step
    where
      made : Stepped holds (header_block l.homes) (disk.image d) c l (disk.image e) f m left → Whole
      made s = record {
        joint = s.joint;
        blocks = subst AreBlocks (sym s.cache) (blocks_written l.commit l.homes c are);
        floats = record { each = s.floats; plain = λ free. ap (λ (n : LogState). is_syncing n.commit) s.log ∙ calm holds l.commit writing (sym (ap disk.holding w.name) ∙ free) };
      }

      by_answer : (r : Committed) → CommitsTo (answer_at holds l.commit l.opened) r (Stepped holds (header_block l.homes) (disk.image d) c l (disk.image e) f m left) (Faulted (header_block l.homes) (disk.image d) c l (disk.image e) f m) → IfNone (fault_of_step r) Whole
      by_answer Committed.More step = made step.1
      by_answer (Committed.Durable n) step = made step.1
      by_answer Committed.Done step = made step.1
      by_answer (Committed.Fault fault) step = tt

  -- only a disk that holds writes back is synced
  held : (p : Part) → l.commit ≡ Commit.Syncing p → holds ≡ false → ⊥
  held p due free = let no : true ≡ false = sym (ap is_syncing due) ∙ plain free in absurd (true≢false no)

  syncs : (p : Part) → l.commit ≡ Commit.Syncing p → CommitSyncs disk p d c l r e f m → IfNone (fault_of_step r) Whole
  syncs p due w = by_answer r w.step
    where
      made : Synced p c l (disk.image e) f m left → Whole
      made s = record {
        joint = s.joint;
        blocks = subst AreBlocks (sym s.cache) are;
        floats = record { each = s.floats; plain = λ free. absurd (held p due (sym (ap disk.holding w.name) ∙ free)) };
      }

      by_answer : (r : Committed) → CommitsTo (answer_synced p l.opened) r (Synced p c l (disk.image e) f m left) (Unsynced c l f m) → IfNone (fault_of_step r) Whole
      by_answer Committed.More step = made step.1
      by_answer (Committed.Durable n) step = made step.1
      by_answer Committed.Done step = made step.1
      by_answer (Committed.Fault fault) step = tt

  pub whole_stepped : (fault : Option DeviceFault) → fault ≡ fault_of_step r → CommitSteps disk d c l r e f m → IfNone fault Whole
  whole_stepped fault is step = subst (λ (o : Option DeviceFault). IfNone o Whole) (sym is) (⊎_elim
      (λ (w : (is_writing l.commit ≡ true) × CommitWrites disk d c l r e f m). writes w.0 w.1)
      (λ (s : (q : Part) × (l.commit ≡ Commit.Syncing q) × CommitSyncs disk q d c l r e f m). syncs s.0 s.1 s.2)
      (commit_kinds disk l.commit d c l r e f m step))

  pub step_unsynced : CommitSteps disk d c l r e f m → holds ≡ false → disk.sync_count e ≡ disk.sync_count d
  step_unsynced step free = ⊎_elim
      (λ (w : (is_writing l.commit ≡ true) × CommitWrites disk d c l r e f m). w.1.syncs)
      (λ (s : (q : Part) × (l.commit ≡ Commit.Syncing q) × CommitSyncs disk q d c l r e f m). absurd (held s.0 s.1 free))
      (commit_kinds disk l.commit d c l r e f m step)

-- the current image is one of blocks of 1024 bytes
pub image_known : (holds : Bool) (x : Image) (c : Buffers) (l : LogState) (left : Image → Type 0) (fault : Option DeviceFault) → IsImage x → IfNone fault (IsVolume holds x c l left) → IfNone fault (IsImage (seen x c))
image_known holds x c l left None is whole = image_seen x c is whole.blocks
image_known holds x c l left (Some f) is whole = tt
