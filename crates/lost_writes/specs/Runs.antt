-- What a recovery and commits write, in parts.
use Rattle.std.specs.Prelude.{◌≡◌, ◌+◌, ◌++◌, ◌<◌, ◌≤◌, ◌==◌, ◌^◌, false, ℕ, if◌then◌else◌, IsTrue, List, [], ◌∷◌, length, map, slice_index_or}
use Rattle.std.specs.List.{flat_map, list_any}
use Rattle.blocks.specs.Block.{zero_block}
use Rattle.blocks.specs.Disk.{Image, block_at}
use Rattle.blocks.specs.Held.{Write}
use Rattle.model.specs.Agreement.{is_outside_log}
use Rattle.model.specs.Codec.{header_block}
use Rattle.model.specs.Format.{log_capacity, log_start}
use Rattle.model.specs.Log.{are_distinct, are_in_place, homes_of, logged_count}
use Rattle.lost_writes.specs.Stale.{RecoversTo}

-- blocks from b on are copied to these homes
abbrev pub copied_from : Image → ℕ → List ℕ → List Write
copied_from x b [] = []
copied_from x b (home ∷ homes) = (home, block_at x b) ∷ copied_from x (b + 1) homes

-- these homes' blocks are copied to the blocks from b on
abbrev pub copied_to : Image → ℕ → List ℕ → List Write
copied_to x b [] = []
copied_to x b (home ∷ homes) = (b, block_at x home) ∷ copied_to x (b + 1) homes

-- the header is emptied
abbrev pub clearing : List Write
clearing = (log_start, zero_block) ∷ []

-- A RECOVERY where reads give x: the logged blocks go home, then the header is emptied
abbrev pub recovery_of : Image → List (List Write)
recovery_of x = if logged_count x == 0 then []
    else copied_from x (log_start + 1) (homes_of x) ∷ clearing ∷ []

-- a group that is committed: its homes, and the image that is current by then
pub record Group : Type 0 where
  pub homes : List ℕ
  pub image : Image

-- A COMMIT: the log's blocks, the header, the homes, the empty header
abbrev pub commit_of : Group → List (List Write)
commit_of g =
    copied_to g.image (log_start + 1) g.homes ∷ ((log_start, header_block g.homes) ∷ [])
    ∷ map (λ home. (home, block_at g.image home)) g.homes ∷ clearing ∷ []

-- it changes y at its homes alone, which lie behind the log and differ
pub record IsGroup (y : Image) (g : Group) : Type 0 where
  pub size : length g.image ≡ length y
  pub few : length y < 2 ^ 32
  pub some : 0 < length g.homes
  pub room : length g.homes ≤ log_capacity
  pub in_place : IsTrue (are_in_place g.homes (length y))
  pub distinct : IsTrue (are_distinct g.homes)
  pub rest : (b : ℕ) → IsTrue (is_outside_log b) → list_any (λ home. home == b) g.homes ≡ false
      → block_at g.image b ≡ block_at y b

-- each changes the image that the one before it leaves
abbrev pub AreGroups : Image → List Group → Type 0
AreGroups y [] = Unit {0}
AreGroups y (g ∷ gs) = IsGroup y g × AreGroups g.image gs

-- A RUN over a disk whose reads give x: a recovery, and then these commits
abbrev pub run_of : Image → List Group → List (List Write)
run_of x gs = recovery_of x ++ flat_map commit_of gs

-- the image behind the first k groups
abbrev pub image_after : Image → List Group → ℕ → Image
image_after y gs k = slice_index_or (y ∷ map (λ (g : Group). g.image) gs) k []

-- w is recovered to the image behind some of the groups
pub record KeepsSome (y : Image) (gs : List Group) (w : Image) : Type 0 where
  pub groups : ℕ
  pub most : groups ≤ length gs
  pub recovers : RecoversTo (image_after y gs groups) w
