-- Writes of a whole image, one after the other, and what a stop leaves of them.
use Rattle.std.proofs.Common.{◌≡◌, ◌≢◌, ◌∙◌, ℕ, suc, ◌+◌, ◌-◌, ◌<◌, ◌≤◌, Bool, true, false, List, [], length, set, refl, sym, ap, subst, inl, inr, arith}
use Rattle.std.specs.Prelude.{Result}
use Rattle.std.proofs.lemmas.Bool.{cases_eq}
use Rattle.std.proofs.lemmas.List.{ext_get_or, get_or-set_same, get_or-set_other, length-set}
use Rattle.blocks.specs.Calls.{WritesOne}
use Rattle.blocks.specs.Disk.{AddsNone, Image, IsOldOrNew, IsSettled, block_at, counted, one_more}
use Rattle.blocks.specs.declared.disk.Disk.{Ghosts}
use Rattle.blocks.specs.Lemmas.Moments.{goes_on, started, stays}
use Rattle.history.specs.Lemmas.Leaving.{leaves_wider}
use Rattle.wal.specs.Recovery.{LeavesIfCalm}
use Rattle.transfer.specs.Ending.{SyncsIf}
use Rattle.transfer.specs.Writing.{HasWritten, IsNoneOr, KeepsSuperblock, SettlesIf}

-- one more write
pub counted_more : (old b : ℕ) → 1 ≤ b → one_more (counted old (b - 1)) ≡ counted old (b + 1 - 1)
counted_more old b some =
    let e : suc (b - 1) ≡ b + 1 - 1 = omega arith in
    ap (counted old) e

-- the last write
pub counted_all : (old size : ℕ) → 1 ≤ size → one_more (counted old (size - 1)) ≡ counted old size
counted_all old size some =
    let e : suc (size - 1) ≡ size = omega arith in
    ap (counted old) e

pub keeps_same : (x : Image) → KeepsSuperblock x x
keeps_same x = record { long = refl; super = refl }

-- a write of another block than block 1
pub keeps_besides : (b : ℕ) (bytes : List ℕ) (old mid new : Image) → b ≢ 1 → KeepsSuperblock old mid → IsOldOrNew mid b bytes new → KeepsSuperblock old new
keeps_besides b bytes old mid new other keeps (inl same) = subst (KeepsSuperblock old) (sym same) keeps
keeps_besides b bytes old mid new other keeps (inr is) =
    subst (KeepsSuperblock old) (sym is) (record {
      long = length-set mid b bytes ∙ keeps.long;
      super = get_or-set_other mid b 1 bytes _ (λ e. other (sym e)) ∙ keeps.super;
    })

pub written_none : (whole old : Image) → HasWritten 0 whole old old
written_none whole old = record { written = λ b below apart. absurd (omega arith); superblock = keeps_same old }

-- one block more
pub written_more : (whole old mid new : Image) (b : ℕ) → length old ≡ length whole → HasWritten b whole old mid → b < length whole → b ≢ 1 →
    new ≡ set mid b (block_at whole b) → HasWritten (b + 1) whole old new
written_more whole old mid new b size so_far inside other is =
    record {
      written = λ k below apart. ap (λ (x : Image). block_at x k) is ∙ elim (cases_eq k b) [
        | inl same ↦
            ap (λ (j : ℕ). block_at (set mid b (block_at whole b)) j) same
            ∙ get_or-set_same mid b (block_at whole b) _ (omega (arith, so_far.superblock.long))
            ∙ ap (block_at whole) (sym same)
        | inr away ↦ get_or-set_other mid b k (block_at whole b) _ away ∙ so_far.written k (omega (arith, away)) apart
      ];
      superblock = keeps_besides b (block_at whole b) old mid new other so_far.superblock (inr is);
    }

-- after block 0, blocks 0 and 1 are done
pub written_two : (whole old new : Image) → length old ≡ length whole → 2 ≤ length whole → new ≡ set old 0 (block_at whole 0) → HasWritten 2 whole old new
written_two whole old new size some is =
    let one = written_more whole old old new 0 size (written_none whole old) (omega arith) (omega arith) is in
    record { written = λ b below apart. one.written b (omega (arith, below, apart)) apart; superblock = one.superblock }

-- with block 1 the image is whole
pub written_all : (whole old mid new : Image) → length old ≡ length whole → 2 ≤ length whole → HasWritten (length whole) whole old mid → new ≡ set mid 1 (block_at whole 1) → new ≡ whole
written_all whole old mid new size some so_far is =
    is ∙ ext_get_or [] (set mid 1 (block_at whole 1)) whole (length-set mid 1 (block_at whole 1) ∙ so_far.superblock.long ∙ size)
    (λ k low. elim (cases_eq k 1) [
      | inl same ↦
          ap (λ (j : ℕ). block_at (set mid 1 (block_at whole 1)) j) same
          ∙ get_or-set_same mid 1 (block_at whole 1) _ (omega (arith, so_far.superblock.long))
          ∙ ap (block_at whole) (sym same)
      | inr away ↦ get_or-set_other mid 1 k (block_at whole 1) _ away ∙ so_far.written k (omega (arith, low, length-set mid 1 (block_at whole 1), so_far.superblock.long)) away
    ])

-- the write of block 1, done or not
pub none_or_whole : (whole old mid new : Image) → length old ≡ length whole → 2 ≤ length whole → HasWritten (length whole) whole old mid → IsOldOrNew mid 1 (block_at whole 1) new → IsNoneOr old whole new
none_or_whole whole old mid new size some so_far (inl same) = inl (subst (KeepsSuperblock old) (sym same) so_far.superblock)
none_or_whole whole old mid new size some so_far (inr is) = inr (written_all whole old mid new size some so_far is)

module _ {D N : Type 0} (disk : Ghosts D N) where
  -- the last sync, where one is asked for, behind a first one
  pub ended : (sync : Bool) (old mid new : D) → disk.sync_count mid ≡ counted (disk.sync_count old) 1 → SyncsIf sync disk mid new → SettlesIf sync disk old new
  ended true old mid new one syncs = record { settled = syncs.settles.settled; syncs = syncs.settles.syncs ∙ ap one_more one }
  ended false old mid new one same = ap disk.sync_count same ∙ one

  -- leaves the image, and counts nothing else
  pub ended_image : (sync : Bool) (mid new : D) → SyncsIf sync disk mid new → (disk.image new ≡ disk.image mid) × (disk.write_count new ≡ disk.write_count mid) × (disk.fault_count new ≡ disk.fault_count mid)
  ended_image true mid new syncs = (syncs.image, syncs.writes, syncs.faults)
  ended_image false mid new same = (ap disk.image same, ap disk.write_count same, ap disk.fault_count same)

  -- before the first write
  pub stops_before : (d : D) → LeavesIfCalm disk d d (KeepsSuperblock (disk.image d))
  stops_before d calm =
      started disk.moment disk.leaves d (KeepsSuperblock (disk.image d)) (λ x left. subst (KeepsSuperblock (disk.image d)) (sym (calm x left)) (keeps_same (disk.image d)))

  -- one write more of another block than block 1, done or not
  pub stops_besides : {T E : Type 0} (result : Result T E) (b : ℕ) (bytes : List ℕ) (old mid new : D) → ((t : ℕ) (x : Image) → t ≤ disk.moment mid → disk.leaves mid (disk.moment mid) x → disk.leaves mid t x) → b ≢ 1 →
      WritesOne disk b bytes result mid new → LeavesIfCalm disk old mid (KeepsSuperblock (disk.image old)) → LeavesIfCalm disk old new (KeepsSuperblock (disk.image old))
  stops_besides result b bytes old mid new counts_now other write run calm =
      let so_far = run calm in
      goes_on disk.moment disk.leaves old mid new (KeepsSuperblock (disk.image old)) so_far write.time
      (λ x left.
      let was = write.crash x left in
      keeps_besides b bytes (disk.image old) was.0 x other (so_far.each was.0 (counts_now (disk.moment old) was.0 so_far.later was.1)) was.2)

  -- a sync more
  pub stops_synced : (P : Image → Type 0) (old mid new : D) → AddsNone (disk.moment mid) (disk.moment new) (disk.leaves mid) (disk.leaves new) → LeavesIfCalm disk old mid P → LeavesIfCalm disk old new P
  stops_synced P old mid new time run calm = stays disk.moment disk.leaves old mid new P (run calm) time

  -- up to here block 1 is as it was
  pub stops_none_or : (whole : Image) (old mid : D) → LeavesIfCalm disk old mid (KeepsSuperblock (disk.image old)) → LeavesIfCalm disk old mid (IsNoneOr (disk.image old) whole)
  stops_none_or whole old mid run calm =
      leaves_wider disk.moment disk.leaves old mid (KeepsSuperblock (disk.image old)) (IsNoneOr (disk.image old) whole) (λ x keeps. inl keeps) (run calm)

  -- the write of block 1, done or not, where nothing is held before it
  pub stops_whole : {T E : Type 0} (result : Result T E) (whole : Image) (old mid new : D) → length (disk.image old) ≡ length whole → 2 ≤ length whole → HasWritten (length whole) whole (disk.image old) (disk.image mid) →
      IsSettled (disk.image mid) (disk.leaves mid (disk.moment mid)) → WritesOne disk 1 (block_at whole 1) result mid new → LeavesIfCalm disk old mid (IsNoneOr (disk.image old) whole) → LeavesIfCalm disk old new (IsNoneOr (disk.image old) whole)
  stops_whole result whole old mid new size some so_far settled write run calm =
      goes_on disk.moment disk.leaves old mid new (IsNoneOr (disk.image old) whole) (run calm) write.time
      (λ x left.
      let was = write.crash x left in
      none_or_whole whole (disk.image old) (disk.image mid) x size some so_far
      (subst (λ (y : Image). IsOldOrNew y 1 (block_at whole 1) x) (settled was.0 was.1) was.2))

  -- the same after the sync of the other blocks
  pub stops_after_sync : {T E : Type 0} (result : Result T E) (whole : Image) (old mid synced new : D) → length (disk.image old) ≡ length whole → 2 ≤ length whole → HasWritten (length whole) whole (disk.image old) (disk.image mid) →
      LeavesIfCalm disk old mid (KeepsSuperblock (disk.image old)) → disk.image synced ≡ disk.image mid → AddsNone (disk.moment mid) (disk.moment synced) (disk.leaves mid) (disk.leaves synced) → IsSettled (disk.image synced) (disk.leaves synced (disk.moment synced)) →
      WritesOne disk 1 (block_at whole 1) result synced new → LeavesIfCalm disk old new (IsNoneOr (disk.image old) whole)
  stops_after_sync result whole old mid synced new size some so_far run same time settled write =
      stops_whole result whole old synced new size some (subst (HasWritten (length whole) whole (disk.image old)) (sym same) so_far) settled write
      (stops_synced (IsNoneOr (disk.image old) whole) old mid synced time (stops_none_or whole old mid run))
