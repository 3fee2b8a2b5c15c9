-- With fewer references than places, there is a place for each inode.
use Rattle.std.proofs.Common.{◌≡◌, ◌≢◌, ◌<◌, ℕ, false, List, length, refl, ◌∙◌, arith, Option, Some, None}
use Rattle.std.specs.Prelude.{position, is_none, IsSome}
use Rattle.inodes.specs.Common.{AreCounted, count_of, counted_below, entry_at, HasPlace, InMemory, is_of, none_passes, or_else}

-- where no place is free, each has a reference
all_used : (ps : List (Option InMemory)) (named : List ℕ) → AreCounted ps named → position (λ e. is_none e) ps ≡ None → (k : ℕ) → k < length ps → count_of k named ≢ 0
all_used ps named counted full k lt zero = counted.used k (some (entry_at ps k) (none_passes (λ e. is_none e) ps k None full lt)) (counted.each k lt ∙ zero)
  where
    some : (e : Option InMemory) → is_none e ≡ false → IsSome e
    some None taken = absurd (cc taken)
    some (Some e) taken = refl

pub has_place : HasPlace
has_place ps named i counted few = by (position (is_of i) ps) (position (λ e. is_none e) ps) refl
  where
    by : (known free : Option ℕ) → position (λ e. is_none e) ps ≡ free → IsSome (or_else known free)
    by (Some k) free is = refl
    by None (Some k) is = refl
    by None None full = let le = counted_below (length ps) named (all_used ps named counted full) in absurd (omega (arith, few))
