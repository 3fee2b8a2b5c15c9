-- All faults of an image, in the order in which a check meets them.
use Rattle.std.specs.Prelude.{ℕ, ◌==◌, nat_lt, if◌then◌else◌, List, [], ◌∷◌, ◌++◌, length, Option, Some, None}
use Rattle.std.specs.List.{flat_map, range_with_len}
use Rattle.blocks.specs.Disk.{Image}
use Rattle.model.specs.declared.types.fault.CheckFault.{CheckFault}
use Rattle.model.specs.declared.types.fault.CheckFault.TheVariants.{BadType, BadSize}
use Rattle.model.specs.declared.types.image.Pointer.{Pointer}
use Rattle.model.specs.Layout.{form_of, inode_of, greatest_size}
use Rattle.model.specs.Log.{recovered}
use Rattle.model.specs.Places.{pointers_of, numbers_of, addresses_in}
use Rattle.model.specs.Verdict.{or_else, geometry_fault, log_fault, places_below, pointer_fault, mark_fault}

-- the one that there is, if there is one
abbrev pub listed : {A : Type 0} → Option A → List A
listed None = []
listed (Some a) = a ∷ []

-- the one that there is, alone; else the others
abbrev pub alone_or : {A : Type 0} → Option A → List A → List A
alone_or None others = others
alone_or (Some a) others = a ∷ []

-- the first of a list
abbrev pub first_in : {A : Type 0} → List A → Option A
first_in [] = None
first_in (a ∷ rest) = Some a

-- the faults of the pointers, each judged by the addresses before it
abbrev pub pointer_faults : Image → ℕ → List ℕ → List Pointer → List CheckFault
pointer_faults x i earlier [] = []
pointer_faults x i earlier (p ∷ pointers) =
    listed (pointer_fault x i earlier p)
    ++ pointer_faults x i (earlier ++ addresses_in (p ∷ [])) pointers

-- the pointers of another type or size aren't judged
unfoldable pub inode_faults : Image → ℕ → List CheckFault
inode_faults x i =
    if nat_lt 3 (inode_of x i).kind then BadType i ∷ []
    else if (inode_of x i).kind == 0 then []
    else if nat_lt (greatest_size (form_of x)) (inode_of x i).size then BadSize i ∷ []
    else pointer_faults x i (places_below x i) (pointers_of x i)

-- the faults of the inodes, in the order of their numbers
abbrev pub inodes_faults : Image → List CheckFault
inodes_faults x = flat_map (inode_faults x) (numbers_of x)

-- the faults of the bitmap
abbrev pub marks_faults : Image → List CheckFault
marks_faults x = flat_map (λ b. listed (mark_fault x b)) (range_with_len 0 (length x))

-- all faults of an image: that of its superblock or of its log alone, else those of what recovery
-- leaves
unfoldable pub faults : Image → List CheckFault
faults x =
    alone_or (or_else (geometry_fault x) (log_fault x))
    (inodes_faults (recovered x) ++ marks_faults (recovered x))
