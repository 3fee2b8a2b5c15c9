-- What was told of a disk, whose image stayed as it was.
use Rattle.std.specs.Prelude.{◌≡◌, ℕ, Bool, IsSome, List, Option, Some, None}
use Rattle.std.specs.Io.KnownBytes.{Appends}
use Rattle.blocks.specs.declared.disk.Disk.{Ghosts}
use Rattle.model.specs.Files.{file_in, files_of}
use Rattle.model.specs.Log.{recovered}
use Rattle.model.specs.Verdict.{verdict}
use Rattle.inspect.specs.Drawing.{blocks_told}
use Rattle.inspect.specs.Listing.{listing_of}
use Rattle.inspect.specs.Logging.{log_text}
use Rattle.inspect.specs.Showing.{file_text}
use Rattle.inspect.specs.Usage.{usage_text}

-- it was checked, and its files were listed, as JSON or as text
abbrev pub HasListed : {D N : Type 0} → Ghosts D N → Bool → D → D → Option (List ℕ)
    → Option (List ℕ) → Type 0
HasListed disk json d e old new = (disk.image e ≡ disk.image d) × (verdict (disk.image d) ≡ None)
    × Appends old new (listing_of json (recovered (disk.image d)))

-- it was checked, and its blocks were drawn
abbrev pub HasDrawn : {D N : Type 0} → Ghosts D N → Bool → D → D → Option (List ℕ)
    → Option (List ℕ) → Type 0
HasDrawn disk json d e old new = (disk.image e ≡ disk.image d) × (verdict (disk.image d) ≡ None)
    × Appends old new (blocks_told json (disk.image d))

-- it was checked, and the blocks of its file of number i, which is there, were listed
abbrev pub HasFileShown : {D N : Type 0} → Ghosts D N → Bool → ℕ → D → D → Option (List ℕ)
    → Option (List ℕ) → Type 0
HasFileShown disk json i d e old new = (disk.image e ≡ disk.image d)
    × (verdict (disk.image d) ≡ None)
    × IsSome (file_in (files_of (recovered (disk.image d))) i)
    × Appends old new (file_text json (recovered (disk.image d)) i)

-- it was checked, and what its log holds was told
abbrev pub HasLogShown : {D N : Type 0} → Ghosts D N → Bool → D → D → Option (List ℕ)
    → Option (List ℕ) → Type 0
HasLogShown disk json d e old new = (disk.image e ≡ disk.image d) × (verdict (disk.image d) ≡ None)
    × Appends old new (log_text json (disk.image d))

-- what was asked for of these, as JSON or as text: the whole image, or a file of a number
abbrev pub HasShown : {D N : Type 0} → Ghosts D N → Bool → Option ℕ → D → D → Option (List ℕ)
    → Option (List ℕ) → Type 0
HasShown disk json None d e old new = HasDrawn disk json d e old new
HasShown disk json (Some i) d e old new = HasFileShown disk json i d e old new

-- it was checked, and how much of it is used was told, as JSON or as text
abbrev pub HasCounted : {D N : Type 0} → Ghosts D N → Bool → D → D → Option (List ℕ)
    → Option (List ℕ) → Type 0
HasCounted disk json d e old new = (disk.image e ≡ disk.image d) × (verdict (disk.image d) ≡ None)
    × Appends old new (usage_text json (disk.image d))
