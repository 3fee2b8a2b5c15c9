-- The fields of a superblock, and which values of theirs are lawful.
use Rattle.std.specs.Prelude.{ℕ, ◌+◌, ◌-◌, ◌&&◌, nat_le, Bool, List, [], ◌∷◌}
use Rattle.model.specs.Format.{inode_start, log_blocks, log_start, most_blocks, most_inodes}
use Rattle.model.specs.Layout.{bitmap_block, meta_count}
use Rattle.model.specs.declared.types.image.Super.{Super}
use Rattle.second_lines.specs.declared.fields.Field.{Field}
use Rattle.second_lines.specs.declared.fields.Name.{Name}
use Rattle.second_lines.specs.declared.fields.Name.TheVariants.{Size, Ninodes, Nblocks, Nlog, Logstart, Inodestart, Bmapstart}

abbrev pub is_lawful : Field → Bool
is_lawful field = nat_le field.least field.found && nat_le field.found field.most

-- a field that has to be from one number to another
abbrev pub from_to : Name → ℕ → ℕ → ℕ → Field
from_to name found least most = record { name = name; found = found; least = least; most = most }

-- one that has to be a number
abbrev pub exactly : Name → ℕ → ℕ → Field
exactly name found wanted = from_to name found wanted wanted

-- the blocks before the data of an image whose log has so many blocks
abbrev pub meta_with : ℕ → ℕ → ℕ → ℕ
meta_with log size inode_count = meta_count size inode_count - (log_blocks - log)

-- those of a superblock in an image of that many blocks, whose log has so many
abbrev pub fields_of : Super → ℕ → ℕ → List Field
fields_of sup block_count log =
    exactly Nlog sup.nlog log
    ∷ exactly Size sup.size block_count
    ∷ from_to Ninodes sup.ninodes 2 most_inodes
    ∷ from_to Size sup.size (meta_with log sup.size sup.ninodes + 1) most_blocks
    ∷ exactly Nblocks sup.nblocks (sup.size - meta_with log sup.size sup.ninodes)
    ∷ exactly Logstart sup.logstart log_start
    ∷ exactly Inodestart sup.inodestart (inode_start - (log_blocks - log))
    ∷ exactly Bmapstart sup.bmapstart (bitmap_block sup.ninodes - (log_blocks - log))
    ∷ []
