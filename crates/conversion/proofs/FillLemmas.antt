-- The new image is filled block by block.
use Rattle.std.proofs.Common.{◌≡◌, ℕ, ◌+◌, ◌<◌, List, [], length, set, sym, ap, ◌∙◌, ⊎_elim, arith}
use Rattle.std.proofs.lemmas.List.FromFn.{fill_by_all}
use Rattle.blocks.specs.Disk.{block_at, Image}
use Rattle.model.specs.Common.{cases_eq, get_or-set_other, get_or-set_same, length-set}
use Rattle.conversion.specs.Common.{moved_block}
use Rattle.conversion.specs.Moving.{moved_image}

-- the first blocks of an image of that size are there
pub record IsFilledTo (x : Image) (to size b : ℕ) (new : Image) : Type 0 where
  pub long : length new ≡ size
  pub made : (k : ℕ) → k < b → block_at new k ≡ moved_block x to size k

pub filled_more : (x : Image) (to size b : ℕ) (old new : Image) (block : List ℕ) → IsFilledTo x to size b old → b < size →
    block ≡ moved_block x to size b → new ≡ set old b block → IsFilledTo x to size (b + 1) new
filled_more x to size b old new block before low is written = record {
  long = ap length written ∙ length-set old b block ∙ before.long;
  made = λ k below. ap (λ (z : Image). block_at z k) written
      ∙ ⊎_elim
      (λ (same : k ≡ b).
      ap (λ (j : ℕ). block_at (set old b block) j) same ∙ get_or-set_same old b block [] (omega (arith, low, before.long)) ∙ is
      ∙ ap (moved_block x to size) (sym same))
      (λ away. get_or-set_other old b k block [] away ∙ before.made k (omega (arith, below, away)))
      (cases_eq k b);
}

pub filled_all : (x : Image) (to size b : ℕ) (new : Image) → b ≡ size → IsFilledTo x to size b new → new ≡ moved_image x to size
unfolding moved_image
filled_all x to size b new all is = fill_by_all (moved_block x to size) new size [] is.long (λ k low. is.made k (omega (arith, low, all)))
