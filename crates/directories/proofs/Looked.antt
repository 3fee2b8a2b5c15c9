-- The file of a number of an image, as a reader finds it.
use Rattle.std.proofs.Common.{◌≡◌, ◌≢◌, ◌⊎◌, ◌∙◌, ℕ, ◌<◌, ◌≤◌, None, sym, ap, inl, inr, ⊎_elim, arith}
use Rattle.std.proofs.lemmas.Bool.{cases_eq, cases_lt}
use Rattle.blocks.specs.Disk.{Image}
use Rattle.model.specs.Common.{file_in, files_of}
use Rattle.model.specs.Files.{bytes_in}
use Rattle.model.specs.Layout.{inode_of}
use Rattle.model.specs.Lemmas.Bytes.{file_used}
use Rattle.model.specs.Lemmas.FileNumbers.{file_in-files_of_zero}
use Rattle.model.specs.Log.{recovered}
use Rattle.model.specs.declared.types.fault.CheckFault.{CheckFault}
use Rattle.model.specs.declared.types.fault.CheckFault.TheVariants as check
use Rattle.model.specs.declared.types.image.Dinode.{Dinode}
use Rattle.offline.specs.Cause.{IsBreak}
use Rattle.offline.specs.Checked.{IsInodeOf}
use Rattle.offline.specs.Lemmas.Checked.{file_here, none_free, none_past}
use Rattle.offline.specs.Recovered.{IsRecoveredOf}
use Rattle.offline.specs.declared.recovered.Recovered.{Recovered}
use Rattle.directories.specs.Judging.{judge_fault_of, IsJudgeCause}
use Rattle.directories.specs.Trees.{bytes_of, directory_in, kind_of, IsFile}

-- how the end of a walk over a checked image is told
pub told_break : (old new : ℕ) (fault : CheckFault) → IsBreak old new fault → IsJudgeCause old new (judge_fault_of fault)
told_break old new check.Disk broken = broken
told_break old new check.NoMemory broken = broken
told_break old new fault broken = absurd broken

-- the file that its inode has
module _ (y : Image) (i : ℕ) (d : Dinode) (is : IsInodeOf y i d) where
  pub kind_here : kind_of (file_in (files_of y) i) ≡ d.kind
  kind_here = ap kind_of is.file

  pub is_here : IsFile (files_of y) i
  is_here none = let both = sym is.file ∙ none in cc both

  pub bytes_here : directory_in (files_of y) i ≡ bytes_in y d
  bytes_here = ap bytes_of is.file

module _ (x : Image) (image : Recovered) (is : IsRecoveredOf x image) where
  -- there is a file only at numbers that the image has
  pub number_inside : (i : ℕ) → IsFile (files_of (recovered x)) i → (1 ≤ i) × (i < image.sup.ninodes)
  number_inside i there = (
    ⊎_elim (λ (zero : i ≡ 0). absurd (there (ap (file_in (files_of (recovered x))) zero ∙ file_in-files_of_zero (recovered x)))) (λ (some : i ≢ 0). omega (arith, some)) (cases_eq i 0),
    ⊎_elim (λ (past : image.sup.ninodes ≤ i). absurd (there (none_past x image i is past))) (λ (low : i < image.sup.ninodes). low) (sides i image.sup.ninodes),
  )
    where
      sides : (a b : ℕ) → (b ≤ a) ⊎ (a < b)
      sides a b = ⊎_elim (λ (low : a < b). inr low) (λ (high : b ≤ a). inl high) (cases_lt a b)

  -- and none where its type is 0
  pub none_by_kind : (i : ℕ) (d : Dinode) → i ≢ 0 → i < image.sup.ninodes → d ≡ inode_of (recovered x) i → kind_of (file_in (files_of (recovered x)) i) ≡ 0 → file_in (files_of (recovered x)) i ≡ None
  none_by_kind i d some low here free =
      ⊎_elim (λ (none : d.kind ≡ 0). none_free x image i d is some low here none)
      (λ (used : d.kind ≢ 0). absurd (used (sym (ap kind_of (file_here x image i d is some low here ∙ file_used (recovered x) d used)) ∙ free)))
      (cases_eq d.kind 0)
