-- The blocks that an inode names, without their use.
use Rattle.std.specs.Prelude.{ℕ, zero, suc, ◌==◌, if◌then◌else◌, List, [], ◌∷◌, ◌++◌}
use Rattle.std.specs.List.{flat_map}
use Rattle.blocks.specs.Disk.{Image, block_at}
use Rattle.model.specs.declared.types.image.Dinode.{Dinode}
use Rattle.model.specs.Fields.{words_of}
use Rattle.model.specs.Layout.{depths, form_of}

-- all blocks from an address on: itself, and what stands behind it
abbrev pub names_under : Image → ℕ → ℕ → List ℕ
names_under x zero address = if address == 0 then [] else address ∷ []
names_under x (suc depth) address =
    if address == 0 then []
    else address ∷ flat_map (λ a. names_under x depth a) (words_of (block_at x address))

abbrev pub names_along : Image → List ℕ → List ℕ → List ℕ
names_along x [] addresses = []
names_along x (depth ∷ depths) [] = []
names_along x (depth ∷ depths) (address ∷ addresses) =
    names_under x depth address ++ names_along x depths addresses

unfoldable pub names_of : Image → Dinode → List ℕ
names_of x d = if d.kind == 0 then [] else names_along x (depths (form_of x)) d.addrs
