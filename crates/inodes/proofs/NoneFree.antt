-- An inode block whose inodes are all used has no free number.
use Rattle.std.proofs.Common.{◌≡◌, ◌≢◌, ℕ, zero, suc, ◌+◌, ◌*◌, ◌%◌, ◌&&◌, Bool, true, false, List, refl, ap, subst, arith, None}
use Rattle.std.specs.List.{find, range_with_len}
use Rattle.std.specs.Prelude.{slice_range}
use Rattle.inodes.specs.Common.{AreUsed, inode_bytes_in, inode_in, is_free_in, is_number, ne_eqb}

-- numbers at the same place in a block have the same bytes of it
same_place : (bytes : List ℕ) (i : ℕ) → inode_bytes_in bytes (i % 16) ≡ inode_bytes_in bytes i
same_place bytes i =
    let same : (i % 16) % 16 ≡ i % 16 = omega arith in
    ap (λ (k : ℕ). slice_range bytes (k * 64) (k * 64 + 64)) same

used : (bytes : List ℕ) (n i : ℕ) → AreUsed bytes 16 → is_free_in bytes n i ≡ false
used bytes n i are = rw (ne_eqb (inode_in (inode_bytes_in bytes i)).kind 0 some) (by (is_number n i))
  where
    some : (inode_in (inode_bytes_in bytes i)).kind ≢ 0
    some = subst (λ (b : List ℕ). (inode_in b).kind ≢ 0) (same_place bytes i) (are (i % 16) (omega arith))

    by : (b : Bool) → (b && false) ≡ false
    by true = refl
    by false = refl

pub none_free : (bytes : List ℕ) (n a len : ℕ) → AreUsed bytes 16 → find (is_free_in bytes n) (range_with_len a len) ≡ None
none_free bytes n a zero are = refl
none_free bytes n a (suc len) are = rw (used bytes n a are) (none_free bytes n (a + 1) len are)
