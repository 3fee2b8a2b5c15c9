-- Pieces of a file's bytes.
use Rattle.std.proofs.Common.{◌≡◌, ℕ, ◌+◌, ◌-◌, ◌*◌, ◌/◌, ◌%◌, ◌<◌, ◌≤◌, List, [], length, take, drop, min, sym, ap, ◌∙◌, arith}
use Rattle.blockmap.specs.Common.{block_at, Dinode, drop_all, Image, length-drop, take_all, take_min}
use Rattle.model.specs.Files.{bytes_in}
use Rattle.model.specs.Operations.{part_of}
use Rattle.model.specs.Places.{address_in}
use Rattle.model.specs.Lemmas.Bytes.{IsFullAt, length-bytes_in, part_in_block as in_block}
use Rattle.blockmap.specs.Reading.{MayRead}

-- ---- parts of any bytes

-- as many bytes as there are
pub part_cut : (bytes : List ℕ) (at n : ℕ) → at ≤ length bytes → part_of bytes at n ≡ part_of bytes at (min (length bytes) (at + n) - at)
part_cut bytes at n inside =
    let long = length-drop at bytes in
    let same : min n (length (drop at bytes)) ≡ min (length bytes) (at + n) - at = omega (arith, long) in
    sym (take_min n (drop at bytes)) ∙ ap (λ k. take k (drop at bytes)) same

-- none from the end on
pub part_past : (bytes : List ℕ) (at n : ℕ) → length bytes ≤ at → part_of bytes at n ≡ []
part_past bytes at n past = ap (take n) (drop_all at bytes past) ∙ take_all n [] (omega arith)

-- ---- the bytes of a file

module _ (x : Image) (d : Dinode) (may : MayRead x d) where
  full_blocks : (k : ℕ) → k * 1024 < d.size → IsFullAt x (address_in x d k)
  full_blocks k low =
      let lies = may.blocks k low in
      let behind = lies.0 in
      (λ none. omega (arith, none, behind), may.full (address_in x d k) lies.0 lies.1)

  pub length-bytes : length (bytes_in x d) ≡ d.size
  length-bytes = length-bytes_in x d full_blocks

  -- a piece that lies in one block
  pub part_in_block : (at n : ℕ) → at + n ≤ d.size → at % 1024 + n ≤ 1024 →
      part_of (bytes_in x d) at n ≡ part_of (block_at x (address_in x d (at / 1024))) (at % 1024) n
  part_in_block = in_block x d full_blocks
