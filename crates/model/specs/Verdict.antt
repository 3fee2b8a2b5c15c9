-- The first fault of an image.
use Rattle.std.specs.Prelude.{ℕ, ◌-◌, ◌==◌, ◌&&◌, ◌||◌, not, nat_lt, if◌then◌else◌, List, [], ◌∷◌, ◌++◌, length, Option, Some, None}
use Rattle.std.specs.List.{list_any, flat_map, range_with_len}
use Rattle.blocks.specs.Disk.{Image}
use Rattle.model.specs.declared.types.fault.CheckFault.{CheckFault}
use Rattle.model.specs.declared.types.fault.CheckFault.TheVariants.{BadMagic, BadGeometry, BadLog, BadType, BadSize, BadAddress, TwiceUsed, UsedButFree, LostBlock}
use Rattle.model.specs.declared.types.image.Pointer.{Pointer}
use Rattle.model.specs.Layout.{form_of, has_known_magic, super_of, is_lawful_super, first_data_block, inode_of, greatest_size, is_marked}
use Rattle.model.specs.Log.{is_lawful_log, recovered}
use Rattle.model.specs.Places.{pointers_of, numbers_of, places_of, addresses_in}

-- the first that there is
abbrev pub or_else : {A : Type 0} → Option A → Option A → Option A
or_else (Some a) later = Some a
or_else None later = later

-- the first that the numbers have, in their order
abbrev pub first_of : {A : Type 0} → (ℕ → Option A) → List ℕ → Option A
first_of fault [] = None
first_of fault (i ∷ is) = or_else (fault i) (first_of fault is)

abbrev pub geometry_fault : Image → Option CheckFault
geometry_fault x =
    if nat_lt (length x) 2 then Some BadGeometry
    else if not (has_known_magic x) then Some BadMagic
    else if not (is_lawful_super (super_of x) (length x)) then Some BadGeometry
    else None

abbrev pub log_fault : Image → Option CheckFault
log_fault x = if is_lawful_log x then None else Some BadLog

-- the places of the inodes below i
abbrev pub places_below : Image → ℕ → List ℕ
places_below x i = flat_map (λ j. addresses_in (pointers_of x j)) (range_with_len 1 (i - 1))

-- what is wrong with an address of inode i, where earlier ones are known
abbrev pub address_fault : Image → ℕ → List ℕ → ℕ → Option CheckFault
address_fault x i earlier a =
    if nat_lt a (first_data_block x) || not (nat_lt a (length x)) then Some (BadAddress i)
    else if list_any (λ e. e == a) earlier then Some (TwiceUsed a)
    else if not (is_marked x a) then Some (UsedButFree a)
    else None

abbrev pub pointer_fault : Image → ℕ → List ℕ → Pointer → Option CheckFault
pointer_fault x i earlier p =
    if p.address == 0 then (if p.needed then Some (BadAddress i) else None)
    else address_fault x i earlier p.address

-- the first fault of the pointers, each judged by the addresses before it
abbrev pub first_pointer_fault : Image → ℕ → List ℕ → List Pointer → Option CheckFault
first_pointer_fault x i earlier [] = None
first_pointer_fault x i earlier (p ∷ pointers) =
    or_else (pointer_fault x i earlier p)
    (first_pointer_fault x i (earlier ++ addresses_in (p ∷ [])) pointers)

unfoldable pub inode_fault : Image → ℕ → Option CheckFault
inode_fault x i =
    if nat_lt 3 (inode_of x i).kind then Some (BadType i)
    else if (inode_of x i).kind == 0 then None
    else if nat_lt (greatest_size (form_of x)) (inode_of x i).size then Some (BadSize i)
    else first_pointer_fault x i (places_below x i) (pointers_of x i)

unfoldable pub mark_fault : Image → ℕ → Option CheckFault
mark_fault x b =
    if nat_lt b (first_data_block x) then (if is_marked x b then None else Some (UsedButFree b))
    else if is_marked x b && not (list_any (λ a. a == b) (places_of x)) then Some (LostBlock b)
    else None

-- the first fault of the inodes, in the order of their numbers
abbrev pub inodes_fault : Image → Option CheckFault
inodes_fault x = first_of (inode_fault x) (numbers_of x)

-- the first fault of the bitmap
abbrev pub marks_fault : Image → Option CheckFault
marks_fault x = first_of (mark_fault x) (range_with_len 0 (length x))

-- the first fault of an image: of its superblock, of its log, and then of what recovery leaves
unfoldable pub verdict : Image → Option CheckFault
verdict x =
    or_else (geometry_fault x)
    (or_else (log_fault x) (or_else (inodes_fault (recovered x)) (marks_fault (recovered x))))
