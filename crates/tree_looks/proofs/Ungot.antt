-- Why files were not copied out of an image.
use Rattle.std.proofs.Common.{◌≡◌, ℕ, List, Option, subst, inl, inr, ⊎_elim}
use Rattle.std.specs.Prelude.{None, false}
use Rattle.blocks.specs.Calls.{OnlyReads}
use Rattle.blocks.specs.declared.file.FileDisk.{FileDisk}
use Rattle.cmd.specs.Lemmas.Disks.{file_disk}
use Rattle.cmd.specs.Opened.{IsOpened}
use Rattle.cmd.specs.Over.{IsRefusedOn}
use Rattle.cmd.specs.declared.files.OnFile.{OnFile}
use Rattle.cmd.specs.declared.files.OnFile.TheVariants as on
use Rattle.model.specs.Files.{Files, files_of}
use Rattle.model.specs.Log.{recovered}
use Rattle.tree_looks.specs.Gets.{IsOfFolder, IsOfNew, IsUncopied, IsUngot, IsUngotAll}
use Rattle.model.specs.Verdict.{verdict}
use Rattle.tree_looks.specs.Looks.{HasNoPaths, HasNotLooked, IsNoTree, IsUnseen, IsUnshown}
use Rattle.tree_looks.specs.declared.faults.GetRefusal.{GetRefusal}
use Rattle.tree_looks.specs.declared.faults.GetRefusal.TheVariants.{Made, Of, BadName, Output}
use Rattle.tree_looks.specs.declared.faults.LookRefusal.{LookRefusal}

-- what a folder is refused for, all below a directory is
pub uncopied_so : (path : List ℕ) (files : Files) (r : GetRefusal) → IsOfFolder r → IsUncopied path files r
uncopied_so path files (Made fault) of = tt
uncopied_so path files (Of (on.File fault)) of = absurd (cc of)
uncopied_so path files (Of (on.Of r)) of = inr (inr (cc of))
uncopied_so path files BadName of = tt
uncopied_so path files Output of = tt

module _ {F : Type 0} (remaining : F → Option (List ℕ)) (path : List ℕ) (none : Type 0) (silent : none) where
  -- the look at the file was refused
  pub not_read : (seen : Type 0) (r : OnFile LookRefusal) → IsRefusedOn remaining false seen (λ d e. HasNotLooked file_disk (IsUnshown path) d e seen) r → IsUngot remaining path none (Of r)
  not_read seen (on.File fault) why = (silent, tt)
  not_read seen (on.Of r) why =
      let not : HasNotLooked file_disk (IsUnshown path) why.0 why.1.0 seen r = why.1.2 in
      (silent, (why.0, (why.1.0, why.1.1, (not.reads, ⊎_elim (λ unseen. ⊎_elim (λ unloaded. inl unloaded) (λ unshown. inr (unshown.0, inl unshown.1)) unseen.0) (λ output. inr (output.0, inr output.1)) not.why))))

  -- the new file was
  pub not_made : (r : GetRefusal) → IsOfNew r → IsUngot remaining path none r
  not_made (Made fault) of = silent
  not_made (Of r) of = absurd of
  not_made BadName of = absurd of
  not_made Output of = silent

  -- the files of the disk were not had
  pub not_loaded : (d e : FileDisk F) (r : LookRefusal) → IsOpened remaining file_disk false d → OnlyReads file_disk d e → IsUnseen file_disk IsNoTree d e r → IsUngotAll remaining path none (Of (on.Of r))
  not_loaded d e r opened reads why = (silent, (d, (e, opened, (reads, ⊎_elim (λ unloaded. inl unloaded) (λ no_tree. inr (no_tree.0, inl no_tree.1)) why))))

  -- what is below the directory was not copied
  pub not_copied : (d e : FileDisk F) (files : Files) → IsOpened remaining file_disk false d → OnlyReads file_disk d e → verdict (file_disk.image d) ≡ None → files ≡ files_of (recovered (file_disk.image d)) → (r : GetRefusal) → IsUncopied path files r → IsUngotAll remaining path none r
  not_copied d e files opened reads sound same (Made fault) why = silent
  not_copied d e files opened reads sound same (Of (on.File fault)) why = absurd why
  not_copied d e files opened reads sound same (Of (on.Of r)) why = (silent, (d, (e, opened, (reads, inr (sound, inr (subst (λ (f : Files). HasNoPaths path f r) same why))))))
  not_copied d e files opened reads sound same BadName why = silent
  not_copied d e files opened reads sound same Output why = silent
