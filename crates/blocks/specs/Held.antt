-- What a disk that holds writes back may leave.
use Rattle.std.specs.Prelude.{◌≡◌, ◌⊎◌, ◌<◌, ℕ, List, Bool, true, false, [], ◌∷◌, ◌++◌, length, drop, take, map, slice_set, slice_index_or}
use Rattle.blocks.specs.Disk.{Image, IsImage}
use Rattle.blocks.specs.declared.held.Holding.{Holding}
use Rattle.blocks.specs.declared.floating.Floating.{Floating}
use Rattle.blocks.specs.declared.floating.Shadow.{Shadow}

-- a write: the block's number and its bytes
abbrev pub Write : Type 0
Write = ℕ × List ℕ

-- THE HELD-BACK IMAGES: any of these writes, each whole and in their order
abbrev pub HeldImages : Image → List Write → Image → Type 0
HeldImages synced [] x = x ≡ synced
HeldImages synced (write ∷ held) x =
    HeldImages synced held x ⊎ HeldImages (slice_set synced write.0 write.1) held x

-- all of them
abbrev pub applied : Image → List Write → Image
applied synced [] = synced
applied synced (write ∷ held) = applied (slice_set synced write.0 write.1) held

-- those that are kept, by one truth value for each
abbrev pub chosen : Image → List Write → List Bool → Image
chosen synced [] keep = synced
chosen synced (write ∷ held) [] = synced
chosen synced (write ∷ held) (true ∷ keep) = chosen (slice_set synced write.0 write.1) held keep
chosen synced (write ∷ held) (false ∷ keep) = chosen synced held keep

-- each is of a block below this number
abbrev pub AreInside : ℕ → List Write → Type 0
AreInside size held = (k : ℕ) → k < length held → (slice_index_or held k (0, [])).0 < size

-- the writes that are held, the oldest first
abbrev pub held_by : Holding → List Write
held_by s = map (λ h. (h.at, h.block)) (take s.count s.places.items)

abbrev pub noted_by : Floating → List Write
noted_by s = map (λ n. (n.at, n.block.value)) s.held

abbrev pub CanFloat : Floating → Image → Type 0
CanFloat s x = HeldImages s.synced.value.items (noted_by s) x

-- a crash in one of these states may have left this image
abbrev pub HadLeft : List Floating → Image → Type 0
HadLeft [] x = ⊥
HadLeft (s ∷ past) x = CanFloat s x ⊎ HadLeft past x

-- the same from a moment on, up to the state of now
abbrev pub LeftSince : Shadow → ℕ → Image → Type 0
LeftSince s t x = CanFloat s.state x ⊎ HadLeft (drop t s.past) x

-- nothing is held over these blocks
pub record IsSettledOn (blocks : Image) (s : Floating) : Type 0 where
  pub synced : s.synced.value.items ≡ blocks
  pub held : noted_by s ≡ []

-- one write more is held
pub record IsNoted (at : ℕ) (block : List ℕ) (old new : Floating) : Type 0 where
  pub synced : new.synced ≡ old.synced
  pub held : noted_by new ≡ noted_by old ++ (at, block) ∷ []

-- each image that a crash may leave has whole blocks
abbrev pub AreWhole : (Image → Type 0) → Type 0
AreWhole left = (x : Image) → left x → IsImage x

-- It is the shadow of a disk that shows these blocks.
pub record IsShadow (holds : Bool) (shown : Image) (s : Shadow) : Type 0 where
  pub shows : shown ≡ applied s.state.synced.value.items (noted_by s.state)
  pub plain : holds ≡ false → noted_by s.state ≡ []
  pub are : AreWhole (CanFloat s.state)
  pub were : AreWhole (HadLeft s.past)
