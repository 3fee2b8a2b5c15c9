-- How far the freeing of a file's blocks has come, which at last writes its inode back.
use Rattle.std.specs.Prelude.{◌≡◌, ◌<◌, ℕ, ◌+◌, ◌-◌, ◌==◌, ◌||◌, nat_lt, is_some, not, if◌then◌else◌, Bool, List, find, slice_index, slice_set, length, Option, Some, None}
use Rattle.std.specs.List.{range_with_len}
use Rattle.model.specs.Format.{addresses_per_block}
use Rattle.model.specs.declared.types.image.Form.{Form}
use Rattle.model.specs.declared.types.image.Dinode.{Dinode}
use Rattle.model.specs.Layout.{direct_count, depths}
use Rattle.inodes.specs.declared.itrunc.Itrunc.{Itrunc}
use Rattle.inodes.specs.declared.itrunc.TruncAt.{TruncAt}

-- the first index from one on, and before an end, at which a list has a number other than 0
abbrev pub present_from : List ℕ → ℕ → ℕ → Option ℕ
present_from numbers from end =
    find (λ k. not (slice_index numbers k == 0)) (range_with_len from (end - from))

-- the freeing of an inode's blocks before it begins
abbrev pub unbegun : ℕ → Dinode → Form → Bool → ℕ → Itrunc
unbegun number d form removes bitmap = record {
  number = number;
  inode = d;
  form = form;
  slot = 0;
  upper = None;
  given_up = 0;
  removes = removes;
  bitmap = bitmap;
  at = TruncAt.Updating;
}

-- what is freed next, by the index of the inode's address that is there: a data block, or what
-- stands behind a block of addresses
abbrev pub address_or_on : Itrunc → Option ℕ → Itrunc
address_or_on m None = record m { upper = None; given_up = 0; at = TruncAt.Updating }
address_or_on m (Some k) = record m {
  slot = k;
  upper = None;
  given_up = 0;
  at = if nat_lt k (direct_count m.form) then TruncAt.Direct
      else TruncAt.Loading (slice_index m.inode.addrs k);
}

abbrev pub at_address : Itrunc → ℕ → Itrunc
at_address m from = address_or_on m (present_from m.inode.addrs from 13)

-- the freeing of an inode's blocks that begins
abbrev pub first_trunc : ℕ → Dinode → Form → Bool → ℕ → Itrunc
first_trunc number d form removes bitmap = at_address (unbegun number d form removes bitmap) 0

-- the inode without its address at index k
abbrev pub inode_without : Dinode → ℕ → Dinode
inode_without d k = record d { addrs = slice_set d.addrs k 0 }

-- the inode's address is given up
abbrev pub address_left : Itrunc → Itrunc
address_left m = at_address (record m { inode = inode_without m.inode m.slot }) (m.slot + 1)

-- what is freed next, by the next entry that is there, which names a data block
abbrev pub entry_or_on : Itrunc → Option ℕ → Itrunc
entry_or_on m (Some e) = record m { given_up = e; at = TruncAt.Entry }
entry_or_on m None = record m { given_up = addresses_per_block; at = TruncAt.Unloading }

abbrev pub at_entries : Itrunc → List ℕ → ℕ → Itrunc
at_entries m entries from = entry_or_on m (present_from entries from addresses_per_block)

-- or a second block
abbrev pub branch_or_on : Itrunc → List ℕ → Option ℕ → Itrunc
branch_or_on m entries (Some e) =
    record m { upper = Some e; given_up = 0; at = TruncAt.Loading (slice_index entries e) }
branch_or_on m entries None =
    record m { upper = None; given_up = addresses_per_block; at = TruncAt.Unloading }

abbrev pub at_branches : Itrunc → List ℕ → ℕ → Itrunc
at_branches m entries from =
    branch_or_on m entries (present_from entries from addresses_per_block)

-- whether the entries of the block of addresses in hand name data blocks
abbrev pub leads_to_data : Itrunc → Bool
leads_to_data m = is_some m.upper || (slice_index (depths m.form) m.slot == 1)

-- what is freed next, behind a block of addresses that was got
abbrev pub at_block : Itrunc → List ℕ → Itrunc
at_block m entries =
    if leads_to_data m then at_entries m entries 0 else at_branches m entries 0

-- the block of addresses in hand, where the block above it has these entries
abbrev pub hand_by : Option ℕ → Itrunc → List ℕ → ℕ
hand_by None m above = slice_index m.inode.addrs m.slot
hand_by (Some e) m above = slice_index above e

abbrev pub block_in_hand : Itrunc → List ℕ → ℕ
block_in_hand m above = hand_by m.upper m above

-- it is given up
abbrev pub left_by : Option ℕ → Itrunc → List ℕ → Itrunc
left_by None m above = address_left m
left_by (Some e) m above = at_branches m above (e + 1)

abbrev pub block_left : Itrunc → List ℕ → Itrunc
block_left m above = left_by m.upper m above

-- the inode that is written back: without bytes, and a free one where the file is removed
abbrev pub last_inode_of : Itrunc → Dinode
last_inode_of m = record m.inode { kind = if m.removes then 0 else m.inode.kind; size = 0 }

-- what is left of it then
abbrev pub inode_left : Itrunc → Option Dinode
inode_left m = if m.removes then None else Some (last_inode_of m)

-- ---- A STEP, by where it stands

-- the number, where there is one, is below an end
abbrev pub IsBelow : Option ℕ → ℕ → Type 0
IsBelow None end = Unit {0}
IsBelow (Some n) end = n < end

-- an entry that is used is one of the block's
abbrev pub FitsAt : Itrunc → TruncAt → Type 0
FitsAt m TruncAt.Direct = Unit {0}
FitsAt m (TruncAt.Loading b) = Unit {0}
FitsAt m TruncAt.Entry = m.given_up < addresses_per_block
FitsAt m TruncAt.Unloading = Unit {0}
FitsAt m TruncAt.Freeing = IsBelow m.upper addresses_per_block
FitsAt m TruncAt.Updating = Unit {0}

pub record Fits (m : Itrunc) : Type 0 where
  pub addrs : length m.inode.addrs ≡ 13
  pub slot : m.slot < 13
  pub at : FitsAt m m.at

-- the block that is freed, if one is, where the block of addresses that was kept last has these
-- entries
abbrev pub freed_by : Itrunc → List ℕ → TruncAt → Option ℕ
freed_by m entries TruncAt.Direct = Some (slice_index m.inode.addrs m.slot)
freed_by m entries (TruncAt.Loading b) = None
freed_by m entries TruncAt.Entry = Some (slice_index entries m.given_up)
freed_by m entries TruncAt.Unloading = None
freed_by m entries TruncAt.Freeing = Some (block_in_hand m entries)
freed_by m entries TruncAt.Updating = None

-- what is freed behind a step that used a block
abbrev pub after_trunc : Itrunc → List ℕ → TruncAt → Itrunc
after_trunc m entries TruncAt.Direct = address_left m
after_trunc m entries (TruncAt.Loading b) = m
after_trunc m entries TruncAt.Entry = at_entries m entries (m.given_up + 1)
after_trunc m entries TruncAt.Unloading = record m { at = TruncAt.Freeing }
after_trunc m entries TruncAt.Freeing = block_left m entries
after_trunc m entries TruncAt.Updating = m
