-- A disk that was opened, and since only read.
use Rattle.std.proofs.Common.{◌≡◌, ◌∙◌, ◌≤◌, Bool, List, ℕ, length, Option, sym, subst}
use Rattle.blocks.specs.Calls.{OnlyReads}
use Rattle.blocks.specs.Disk.{Image}
use Rattle.blocks.specs.File.{IsReadFrom}
use Rattle.blocks.specs.FileDisk.{file_of}
use Rattle.blocks.specs.Lemmas.Held.{shadow_plain}
use Rattle.blocks.specs.declared.file.FileDisk.{FileDisk}
use Rattle.cmd.specs.Lemmas.Disks.{file_disk}
use Rattle.cmd.specs.Opened.{IsOpened}

-- a disk that was only read since is one that was just opened
pub still_opened : {F : Type 0} (remaining : F → Option (List ℕ)) (holds : Bool) (d e : FileDisk F) → OnlyReads file_disk d e → file_of e ≡ file_of d →
    IsOpened remaining file_disk holds d → IsOpened remaining file_disk holds e
still_opened {F} remaining holds d e reads file opened = record {
  some = subst (λ (x : Image). 1 ≤ length x) (sym reads.image) opened.some;
  at_most = subst (λ (x : Image). length x ≤ 8191) (sym reads.image) opened.at_most;
  bytes = subst (λ (x : Image). IsReadFrom remaining (file_of e) x) (sym reads.image)
      (subst (λ (f : F). IsReadFrom remaining f (file_disk.image d)) (sym file) opened.bytes);
  kind = reads.name ∙ opened.kind;
  calm = λ plain. shadow_plain e.holds e.copy.blocks.items e.shadow e.shadowed plain;
}
