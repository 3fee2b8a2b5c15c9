-- What a look at a disk comes to.
use Rattle.std.proofs.Common.{◌≡◌, ℕ, None, subst, inl, inr, ⊎_elim}
use Rattle.std.specs.Prelude.{Result, Ok, Err, IfOk}
use Rattle.blocks.specs.Disk.{Image}
use Rattle.blocks.specs.declared.disk.Disk.{Ghosts}
use Rattle.model.specs.Files.{Files, files_of}
use Rattle.model.specs.Log.{recovered}
use Rattle.model.specs.Verdict.{verdict}
use Rattle.offline.specs.Cause.{IsCause}
use Rattle.tree_looks.specs.Looks.{IsUnloaded, IsUnseen}
use Rattle.tree_looks.specs.declared.faults.LookRefusal.{LookRefusal}
use Rattle.tree_looks.specs.declared.faults.LookRefusal.TheVariants.{Check, NoTree, Path, Refused, NoMemory, Output}

-- a disk was read before, which counted no fault
module _ {D N : Type 0} (disk : Ghosts D N) (d b e : D) (image : disk.image b ≡ disk.image d) (faults : disk.fault_count b ≡ disk.fault_count d) where
  pub unloaded_on : (r : LookRefusal) → IsUnloaded disk b e r → IsUnloaded disk d e r
  unloaded_on (Check fault) why =
      subst (λ (n : ℕ). IsCause (verdict (disk.image d)) n (disk.fault_count e) fault) faults
      (subst (λ (x : Image). IsCause (verdict x) (disk.fault_count b) (disk.fault_count e) fault) image why)
  unloaded_on NoMemory why = subst (λ (x : Image). verdict x ≡ None) image why
  unloaded_on NoTree why = absurd why
  unloaded_on (Path cause) why = absurd why
  unloaded_on (Refused cause) why = absurd why
  unloaded_on Output why = absurd why

  pub unseen_on : (refuses : Files → LookRefusal → Type 0) (r : LookRefusal) → IsUnseen disk refuses b e r → IsUnseen disk refuses d e r
  unseen_on refuses r why =
      ⊎_elim (λ (unloaded : IsUnloaded disk b e r). inl (unloaded_on r unloaded))
      (λ (refused : (verdict (disk.image b) ≡ None) × refuses (files_of (recovered (disk.image b))) r). inr (subst (λ (x : Image). (verdict x ≡ None) × refuses (files_of (recovered x)) r) image refused)) why

-- what is so of a text that was made is so of it as it is told
pub kept_told : {V E F : Type 0} (made : Result V E) (r : Result V F) (P : V → Type 0) → IfOk r (λ text. made ≡ Ok text) → IfOk made P → IfOk r P
kept_told made (Ok text) P same known = subst (λ q. IfOk q P) same known
kept_told made (Err refused) P same known = tt
