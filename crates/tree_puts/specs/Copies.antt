-- A copy of a file within the image in a file.
use Rattle.std.specs.Prelude.{◌⊎◌, ⊤, ℕ, Bool, true, false, List, [], Option, Some}
use Rattle.blocks.specs.declared.memory.MemDisk.{MemDisk}
use Rattle.cmd.specs.Lemmas.Disks.{file_disk}
use Rattle.cmd.specs.Opened.{OpensDisk}
use Rattle.cmd.specs.Over.{IsRefusedOn}
use Rattle.cmd.specs.declared.files.OnFile.{OnFile}
use Rattle.commands.specs.Copied.{memory}
use Rattle.tree_changes.specs.Copying.{Asked, asked, HasCopied, HasNotCopied}
use Rattle.tree_changes.specs.declared.copying.CopyRefusal.{CopyRefusal}
use Rattle.tree_changes.specs.declared.copying.CopyRefusal.TheVariants.{Of}
use Rattle.tree_puts.specs.Anew.{IsUnchangedAnew, PrintsAnew}

-- a copy was made in an image in memory, which is another one now, and answers this text
abbrev pub CopiesIn : Asked → MemDisk → MemDisk → List ℕ → Type 0
CopiesIn copy old new text = HasCopied memory copy old new (Some []) (Some text)

-- or was not
pub record IsUncopiedIn (copy : Asked) (old : MemDisk) (r : CopyRefusal) : Type 0 where
  pub now : MemDisk
  pub why : HasNotCopied memory copy old now ⊤ r

-- where it goes by way of a new file: its room is not judged, nor the image in memory synced
abbrev pub asked_anew : List ℕ → List ℕ → Asked
asked_anew from to = asked from to false false

-- A file was copied on the disk of a file, which holds writes back where `sync` says so, with room for
-- more bytes than one call writes; or by way of a new file.
abbrev pub CopiesFile : {F : Type 0} → (F → Option (List ℕ)) → List ℕ → List ℕ → Bool → Bool
    → Option (List ℕ) → Option (List ℕ) → Type 0
CopiesFile remaining from to sync last old new =
    OpensDisk remaining file_disk sync
    (λ d e. HasCopied file_disk (asked from to true last) d e old new)
    ⊎ PrintsAnew remaining (CopiesIn (asked_anew from to)) old new

-- why it was not copied so; `none` says that nothing was printed
abbrev pub IsUncopiedFile : {F : Type 0} → (F → Option (List ℕ)) → List ℕ → List ℕ → Bool → Bool
    → Type 0 → OnFile CopyRefusal → Type 0
IsUncopiedFile remaining from to sync last none r =
    IsRefusedOn remaining sync none
    (λ d e why. HasNotCopied file_disk (asked from to true last) d e none why) r
    ⊎ IsUnchangedAnew remaining (CopiesIn (asked_anew from to)) (IsUncopiedIn (asked_anew from to))
    Of none r
