-- Why a call over a disk in memory, which never fails, is refused.
use Rattle.std.proofs.Common.{◌≡◌, ◌∙◌, ℕ, length, refl, sym, ap, subst, arith, Bool, true, false, ◌&&◌, ◌==◌, eq-eqb}
use Rattle.std.proofs.lemmas.Bool.{true≢false}
use Rattle.std.specs.Prelude.{IsTrue, None, Ok, Err, Result, MatchResult}
use Rattle.blocks.specs.contracts.memory.MemDiskDisk.TheImpl.{ghosts}
use Rattle.blocks.specs.declared.memory.MemDisk.{MemDisk}
use Rattle.layout.specs.declared.geometry.MkfsFault.{MkfsFault}
use Rattle.layout.specs.declared.geometry.MkfsFault.TheVariants as making
use Rattle.model.specs.Layout.{is_inode_count, is_size}
use Rattle.model.specs.Lemmas.Soundness.{verdict_sound}
use Rattle.model.specs.Verdict.{verdict}
use Rattle.offline.specs.Making as offline
use Rattle.wal.specs.Recovery as wal
use Rattle.wal.specs.declared.faults.RecoverFault.{RecoverFault}
use Rattle.wal.specs.declared.faults.RecoverFault.TheVariants as recovery
use Rattle.xvfs_c.specs.Images.{IsMakingCause}
use Rattle.xvfs_c.specs.Numbers.{recover_number}

-- behind a check that found no fault, memory alone is a reason
pub late : {T : Type 0} (d e : MemDisk) (fault : RecoverFault) → verdict d.blocks.items ≡ None → wal.RefusesToRecover {T = T} ghosts d e (Err fault) → recover_number fault ≡ 1027
late d e recovery.Disk sound refuses = absurd (omega (arith, refuses.fault))
late d e recovery.BadLog sound refuses = absurd (true≢false (sym (verdict_sound d.blocks.items sound).1 ∙ refuses.bad))
late d e recovery.NoMemory sound refuses = refl
late d e recovery.Sync sound refuses = absurd (true≢false (sym refuses.holds))

with_true : (a b : Bool) → b ≡ true → (a && b) ≡ false → a ≡ false
with_true true true is wrong = wrong
with_true true false is wrong = absurd (true≢false (sym is))
with_true false b is wrong = refl

module _ (d e : MemDisk) (count n : ℕ) (long : count ≡ length d.blocks.items) where
  pub making_cause : {T : Type 0} (fault : MkfsFault) → offline.RefusesToMake {T = T} ghosts count n (Err fault) d e → IsMakingCause count n fault
  making_cause making.SizeRange refuses =
      let cause = refuses.size_range.0 refl in
      (cause.0, with_true (is_size count n) (count == length d.blocks.items) (eq-eqb _ _ long) cause.1)
  making_cause making.InodeRange refuses = refuses.inode_range.0 refl
  making_cause making.Disk refuses = absurd (omega (arith, refuses.fault))
  making_cause making.NoMemory refuses = tt

not_false : (a : Bool) → (a ≡ false → ⊥) → a ≡ true
not_false true never = refl
not_false false never = absurd (never refl)

no_error : {T : Type 0} (v : T) (fault : MkfsFault) → Ok v ≡ Err fault → ⊥
no_error {T} v fault wrong = subst (λ (r : Result T MkfsFault). MatchResult r (λ _. Unit {0}) (λ _. ⊥)) wrong tt

module _ {T : Type 0} (d e : MemDisk) (count n : ℕ) (long : count ≡ length d.blocks.items) (v : T) (refuses : offline.RefusesToMake ghosts count n (Ok v) d e) where
  pub good_inodes : IsTrue (is_inode_count n)
  good_inodes = not_false (is_inode_count n) (λ wrong. no_error v making.InodeRange (refuses.inode_range.1 wrong))

  pub good_size : IsTrue (is_size count n)
  good_size = not_false (is_size count n) (λ wrong. no_error v making.SizeRange (refuses.size_range.1 (good_inodes, ap (λ (b : Bool). b && (count == length d.blocks.items)) wrong)))
