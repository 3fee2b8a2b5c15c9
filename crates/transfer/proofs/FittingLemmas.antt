-- The blocks that the files of the old image need, number by number.
use Rattle.std.proofs.Common.{◌≡◌, ◌∙◌, ℕ, ◌+◌, ◌≤◌, ◌^◌, true, add-one, Option, Some, None, refl, sym, ap, arith}
use Rattle.blocks.specs.Disk.{Image}
use Rattle.model.specs.declared.types.image.File.{File}
use Rattle.model.specs.declared.types.image.Form.{Form}
use Rattle.model.specs.Files.{Files, file_in}
use Rattle.model.specs.Layout.{inode_of, is_inode_count, is_size}
use Rattle.model.specs.Lemmas.MadeImages.{is_within}
use Rattle.transfer.specs.Fitting.{blocks_below, blocks_of, data_count}
use Rattle.transfer.specs.Needs.{needed_blocks}

module _ (form : Form) (y : Image) (files : Files) where
  pub below_next : (i : ℕ) → blocks_below form y files (i + 1) ≡ blocks_below form y files i + blocks_of form (inode_of y i).size (file_in files i)
  below_next i = rw (add-one i) refl

  -- no file needs none
  pub below_none : (i : ℕ) → file_in files i ≡ None → blocks_below form y files (i + 1) ≡ blocks_below form y files i
  below_none i none = below_next i ∙ ap (λ (o : Option File). blocks_below form y files i + blocks_of form (inode_of y i).size o) none ∙ omega arith

  pub below_some : (i : ℕ) (file : File) → file_in files i ≡ Some file → blocks_below form y files (i + 1) ≡ blocks_below form y files i + needed_blocks form (inode_of y i).size
  below_some i file is = below_next i ∙ ap (λ (o : Option File). blocks_below form y files i + blocks_of form (inode_of y i).size o) is

  -- number 0 has none
  pub below_first : file_in files 0 ≡ None → blocks_below form y files 1 ≡ 0
  below_first none = below_none 0 none

  -- so many for the files below number i, and so many for that of i
  pub below_more : (i n m : ℕ) → n ≡ blocks_below form y files i → m ≡ blocks_of form (inode_of y i).size (file_in files i) → n + m ≡ blocks_below form y files (i + 1)
  below_more i n m is count =
      ap (λ (a : ℕ). a + m) is ∙ ap (λ (b : ℕ). blocks_below form y files i + b) count ∙ sym (below_next i)

-- an image within the limits has few of them
pub few_data : (size n : ℕ) → is_inode_count n ≡ true → is_size size n ≡ true → data_count size n ≤ 2 ^ 13
few_data size n count fits = let small = (is_within size n count fits).small in omega (arith, small)
