-- A device to which writes go in parts, each with a sync behind it: what a stop leaves on it, and
-- what a sync that fails.
use Rattle.std.specs.Prelude.{◌≡◌, ◌⊎◌, ◌∷◌, [], ℕ, IsTrue, List, length, slice_set, take}
use Rattle.blocks.specs.Disk.{Image, block_at}
use Rattle.blocks.specs.Held.{Write, applied}
use Rattle.model.specs.Format.{log_start}
use Rattle.model.specs.Log.{is_lawful_log}
use Rattle.lost_writes.specs.Stale.{IsStale, freshened}

-- the bytes that a device writes whole, or not at all; a block has two such sectors
abbrev pub sector : ℕ
sector = 512

-- the first sector is that of these bytes
abbrev pub BeginsAs : List ℕ → List ℕ → Type 0
BeginsAs old bytes = take sector bytes ≡ take sector old

-- what a write that was lost or cut off may leave of its block: of the log's header, whose numbers
-- lie in its first sector, that sector as it was or as handed in; of another block anything
abbrev pub MayTear : Image → Write → List ℕ → Type 0
MayTear z write bytes = write.0 ≡ log_start
    → BeginsAs (block_at z log_start) bytes ⊎ BeginsAs write.1 bytes

-- THE TORN IMAGES: each of these writes may be lost, made or torn
abbrev pub TornImages : Image → List Write → Image → Type 0
TornImages z [] w = w ≡ z
TornImages z (write ∷ writes) w = (bytes : List ℕ) × MayTear z write bytes
    × TornImages (slice_set z write.0 bytes) writes w

-- an image once these parts are written to it
abbrev pub written : Image → List (List Write) → Image
written x [] = x
written x (part ∷ parts) = written (applied x part) parts

-- WHAT A STOP LEAVES on a device with z: of the part under way, any of its writes; those before it
-- were synced
abbrev pub StopLeaves : Image → List (List Write) → Image → Type 0
StopLeaves z [] w = w ≡ z
StopLeaves z (part ∷ parts) w = TornImages z part w ⊎ StopLeaves (applied z part) parts w

-- reads of a device with w give y: of each block what was last written, or, where the system let go
-- of that, what the device has
pub record IsReadOf (last w y : Image) : Type 0 where
  pub size : length y ≡ length last
  pub each : (b : ℕ) → (block_at y b ≡ block_at last b) ⊎ (block_at y b ≡ block_at w b)

-- WHAT A RUN LEAVES THAT BREAKS OFF, by a sync or a write that failed, where reads gave x and the
-- device had z: of a part the first writes were made, or all; the device has w, with any of these;
-- and reads give y
abbrev pub BreaksOff : Image → Image → List (List Write) → Image → Image → Type 0
BreaksOff x z [] y w = ⊥
BreaksOff x z (part ∷ parts) y w =
    ((k : ℕ) × TornImages z (take k part) w × IsReadOf (applied x (take k part)) w y)
    ⊎ BreaksOff (applied x part) (applied z part) parts y w

-- What is promised of such parts: each stop leaves an image that has P; and where they break off,
-- what reads give has P, and the device is stale there, once its header is written as reads give
-- it.
pub record Outlasts (P : Image → Type 0) (x z : Image) (parts : List (List Write)) : Type 0 where
  pub stops : (w : Image) → StopLeaves z parts w → P w
  pub breaks : (y w : Image) → BreaksOff x z parts y w → P y × IsTrue (is_lawful_log y)
      × IsStale y (freshened y w)
