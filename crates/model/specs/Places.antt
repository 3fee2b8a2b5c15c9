-- Where an inode's blocks stand. What an inode has is a function of the image and the inode record,
-- be it on the disk or in memory.
use Rattle.std.specs.Prelude.{ℕ, zero, suc, ◌+◌, ◌-◌, ◌*◌, ◌/◌, ◌%◌, ◌==◌, not, nat_lt, if◌then◌else◌, List, [], ◌∷◌, ◌++◌, map, slice_index}
use Rattle.std.specs.List.{filter, flat_map, range_with_len}
use Rattle.blocks.specs.Disk.{Image, block_at}
use Rattle.blocks.specs.Block.{block_size}
use Rattle.model.specs.declared.types.image.Dinode.{Dinode}
use Rattle.model.specs.declared.types.image.Pointer.{Pointer}
use Rattle.model.specs.Fields.{words_of}
use Rattle.model.specs.Layout.{depths, reach, form_of, inode_of, inode_count_of}

-- the pointers behind addresses of `step` blocks each, the first from the file's block `first` on
abbrev pub pointers_behind : (ℕ → ℕ → List Pointer) → ℕ → ℕ → List ℕ → List Pointer
pointers_behind pointers first step [] = []
pointers_behind pointers first step (address ∷ addresses) =
    pointers first address ++ pointers_behind pointers (first + step) step addresses

-- an address, needed where the size reaches the file's block `first`
abbrev pub pointer_of : ℕ → ℕ → ℕ → Pointer
pointer_of size first address =
    record { address = address; needed = nat_lt (first * block_size) size }

-- the pointers from an address on: itself, then those in the block of addresses that it names
abbrev pub pointers_under : Image → ℕ → ℕ → ℕ → ℕ → List Pointer
pointers_under x size zero first address = pointer_of size first address ∷ []
pointers_under x size (suc depth) first address =
    pointer_of size first address
    ∷ (if address == 0 then []
    else pointers_behind (λ f a. pointers_under x size depth f a) first (reach depth)
    (words_of (block_at x address)))

-- the pointers of addresses of those depths
abbrev pub pointers_along : Image → ℕ → ℕ → List ℕ → List ℕ → List Pointer
pointers_along x size first [] addresses = []
pointers_along x size first (depth ∷ depths) [] = []
pointers_along x size first (depth ∷ depths) (address ∷ addresses) =
    pointers_under x size depth first address
    ++ pointers_along x size (first + reach depth) depths addresses

-- the pointers of an inode, in order; none where it is free
unfoldable pub pointers_in : Image → Dinode → List Pointer
pointers_in x d = if d.kind == 0 then [] else pointers_along x d.size 0 (depths (form_of x)) d.addrs

abbrev pub pointers_of : Image → ℕ → List Pointer
pointers_of x i = pointers_in x (inode_of x i)

-- the addresses that are there
abbrev pub addresses_in : List Pointer → List ℕ
addresses_in pointers = filter (λ a. not (a == 0)) (map (λ p. p.address) pointers)

-- the inode numbers, without 0
abbrev pub numbers_of : Image → List ℕ
numbers_of x = range_with_len 1 (inode_count_of x - 1)

-- the places of an image: each address that is there, inode by inode
abbrev pub places_of : Image → List ℕ
places_of x = flat_map (λ i. addresses_in (pointers_of x i)) (numbers_of x)

-- the block of a file at place k under an address: 0 where there is none
abbrev pub address_under : Image → ℕ → ℕ → ℕ → ℕ
address_under x zero k address = address
address_under x (suc depth) k address =
    if address == 0 then 0
    else address_under x depth (k % reach depth)
    (slice_index (words_of (block_at x address)) (k / reach depth))

abbrev pub address_along : Image → ℕ → List ℕ → List ℕ → ℕ
address_along x k [] addresses = 0
address_along x k (depth ∷ depths) [] = 0
address_along x k (depth ∷ depths) (address ∷ addresses) =
    if nat_lt k (reach depth) then address_under x depth k address
    else address_along x (k - reach depth) depths addresses

-- the data block that holds block k of an inode's file
unfoldable pub address_in : Image → Dinode → ℕ → ℕ
address_in x d k = address_along x k (depths (form_of x)) d.addrs

abbrev pub address_of : Image → ℕ → ℕ → ℕ
address_of x i k = address_in x (inode_of x i) k
