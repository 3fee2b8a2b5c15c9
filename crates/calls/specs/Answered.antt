-- What an answered call leaves.
use Rattle.std.specs.Prelude.{◌≡◌, ℕ, ◌+◌, ◌≤◌}
use Rattle.blocks.specs.declared.disk.Disk.{Ghosts}
use Rattle.model.specs.Layout.{form_of, inode_count_of}
use Rattle.calls.specs.Calls.{IsWhole, Rests, call_count, image_on}
use Rattle.calls.specs.Stepping.{Plain}
use Rattle.calls.specs.Transactions as transactions
use Rattle.calls.specs.Unshown.{KeepsUnshown}

-- One call more was answered, and nothing is under way. The image is sound, with the same
-- superblock and size: so of the same form, and with as many numbers. What no file shows stays.
pub record IsAnswered {D N : Type 0} (disk : Ghosts D N) (k m : Plain D) : Type 0 where
  pub rests : Rests disk.fault_count m
  pub whole : IsWhole (image_on disk.image k) (image_on disk.image m)
  pub unshown : KeepsUnshown (image_on disk.image k) (image_on disk.image m)
  pub form : form_of (image_on disk.image m) ≡ form_of (image_on disk.image k)
  pub numbers : inode_count_of (image_on disk.image m) ≡ inode_count_of (image_on disk.image k)
  pub one_more : call_count m ≡ call_count k + 1

-- The same of a transaction: at most so many calls more were answered, that of the anchor among them.
pub record IsCommitted {D N : Type 0} (disk : Ghosts D N) (most : ℕ) (k m : Plain D) : Type 0 where
  pub rests : transactions.Rests disk.fault_count m
  pub whole : IsWhole (image_on disk.image k) (image_on disk.image m)
  pub unshown : KeepsUnshown (image_on disk.image k) (image_on disk.image m)
  pub form : form_of (image_on disk.image m) ≡ form_of (image_on disk.image k)
  pub numbers : inode_count_of (image_on disk.image m) ≡ inode_count_of (image_on disk.image k)
  pub few_more : call_count m ≤ call_count k + most
