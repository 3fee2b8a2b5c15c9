-- What a step leaves as it was: an image in which nothing is done.
use Rattle.std.proofs.Common.{◌≡◌, ℕ, ◌<◌, true, ltb, length, refl, arith, Option}
use Rattle.std.specs.Prelude.{IsTrue}
use Rattle.inodes.specs.Common.{both_of, facts_of, Image, inode_block, inode_count_of, is_making, is_number, IsLawfulGeometry, ltb-true, Marks, Reply}

-- a number's inode block lies in the image
pub within_image : (x : Image) (i : ℕ) → IsLawfulGeometry x → IsTrue (is_number (inode_count_of x) i) → inode_block i < length x
within_image x i g number =
    let f = facts_of x g in
    let below = ltb-true i (inode_count_of x) (both_of (ltb 0 i) (ltb i (inode_count_of x)) number).1 in
    let room = f.room in
    let size = f.size in
    omega arith

-- nothing is done to an image
pub marks_same : (made : Option Reply) (x : Image) → ((i : ℕ) → is_making i made ≡ true → ⊥) → Marks made x x
marks_same made x none = record {
  size = refl;
  untouched = record { boot = refl; super = refl; inode_zero = refl; inodes_past = λ i low high. refl; bits_past = λ b low high. refl };
  others = λ i number other used. (used, refl);
  fresh = λ i number makes. absurd (none i makes);
}
