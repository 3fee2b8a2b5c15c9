-- Whether bytes have room in an image, by what is told of a new file.
use Rattle.std.proofs.Common.{◌≡◌, ◌≢◌, ℕ, ◌+◌, None, sym, subst, arith}
use Rattle.blocks.specs.declared.disk.Disk.{Ghosts}
use Rattle.model.specs.Layout.{form_of}
use Rattle.model.specs.Log.{recovered}
use Rattle.directories.specs.declared.refusal.Refusal.TheVariants as refusal
use Rattle.names.specs.declared.refusal.TreeFault.TheVariants as tree
use Rattle.transfer.specs.Judging.{IsFit, IsTold}
use Rattle.transfer.specs.Needs.{free_count, needed_blocks}
use Rattle.transfer.specs.declared.refused.PutRefusal.{PutRefusal}
use Rattle.transfer.specs.declared.refused.PutRefusal.TheVariants.{Check, NoFile, NotAFile, TooBig, Full, NoMemory, Unopened, NoInode, Disk, Output}
use Rattle.tree_changes.specs.Room.{HasRoomFor, IsUnfit, LacksRoom}
use Rattle.tree_changes.specs.declared.faults.ChangeRefusal.{ChangeRefusal}
use Rattle.tree_changes.specs.declared.faults.ChangeRefusal.TheVariants as change

module _ {D N : Type 0} (disk : Ghosts D N) (count : ℕ) (d e : D) where
  -- so many blocks are free besides
  pub has_room : IsFit disk None count d e → (besides : ℕ) → needed_blocks (form_of (recovered (disk.image d))) count + besides ≡ free_count (recovered (disk.image d)) → besides ≢ 0 → HasRoomFor disk count d e
  has_room fit besides is some = record {
    sound = fit.sound;
    size = fit.room.size;
    blocks = omega (arith, is, some);
    reads = fit.reads;
    faults = fit.faults;
  }

  -- none is
  pub has_none_besides : IsFit disk None count d e → (besides : ℕ) → needed_blocks (form_of (recovered (disk.image d))) count + besides ≡ free_count (recovered (disk.image d)) → besides ≡ 0
      → LacksRoom disk count d e (change.Tree (tree.Refused refusal.NoBlock))
  has_none_besides fit besides is none = record { cause = (fit.sound, fit.faults, omega (arith, is, none)); reads = fit.reads }

  pub lacks_room : (r : PutRefusal) (told : ChangeRefusal) → IsTold disk None count d e r → IsUnfit r told → LacksRoom disk count d e told
  lacks_room (Check fault) told why same = subst (λ (t : ChangeRefusal). LacksRoom disk count d e t) (sym same) (record { cause = why.cause; reads = why.reads })
  lacks_room NoFile told why same = absurd why.cause.2
  lacks_room NotAFile told why same = absurd why.cause.2
  lacks_room TooBig told why same = subst (λ (t : ChangeRefusal). LacksRoom disk count d e t) (sym same) (record { cause = (why.cause.0, why.cause.1, why.cause.3); reads = why.reads })
  lacks_room Full told why same =
      subst (λ (t : ChangeRefusal). LacksRoom disk count d e t) (sym same) (record { cause = (why.cause.0, why.cause.1, omega (arith, why.cause.3)); reads = why.reads })
  lacks_room NoMemory told why same = subst (λ (t : ChangeRefusal). LacksRoom disk count d e t) (sym same) (record { cause = why.cause; reads = why.reads })
  lacks_room (Unopened fault) told why same = absurd why.cause
  lacks_room NoInode told why same = absurd why.cause
  lacks_room (Disk fault) told why same = absurd why.cause
  lacks_room Output told why same = absurd why.cause
