-- Requests of a mount, served one after the other.
use Rattle.std.specs.Prelude.{◌≡◌, ℕ, ◌<◌, List, [], ◌∷◌, take}
use Rattle.blocks.specs.declared.disk.Disk.{Ghosts}
use Rattle.calls.specs.Calls.{image_on}
use Rattle.calls.specs.Stepping.{Plain}
use Rattle.model.specs.declared.types.image.Form.{Form}
use Rattle.model.specs.Files.{Files, files_of}
use Rattle.mounting.specs.Changes.{MayServe}
use Rattle.names.specs.Inside.{form_seen}
use Rattle.names.specs.Ready.{LeavesIfDone}
use Rattle.names.specs.Runs.{CameBy, HasRun}

-- files came of others by changes that each of these requests may make, in the order of the requests
abbrev pub CameByAll : Form → List (List ℕ) → Files → Files → Type 0
CameByAll form [] files new = new ≡ files
CameByAll form (bytes ∷ later) files new =
    (mid : Files) × (CameBy (MayServe form bytes) files mid × CameByAll form later mid new)

-- by those of a beginning of them
abbrev pub CameBySome : Form → List (List ℕ) → Files → Files → Type 0
CameBySome form requests files new =
    (count : ℕ) × CameByAll form (take count requests) files new

-- From kernel k to m each request was served over the tree that the one before left, with what serving
-- one ensures.
abbrev pub ServesEach : {D N : Type 0} → Ghosts D N → List (List ℕ) → Plain D → ℕ → Plain D → ℕ
    → Type 0
ServesEach disk [] k left m less = (m ≡ k) × (less ≡ left)
ServesEach {D} disk (bytes ∷ later) k left m less = (e : Plain D) × ((mid : ℕ)
    × (HasRun disk (MayServe (form_seen disk.image k) bytes) k e left mid
    × ServesEach disk later e mid m less))

-- The files on the disk of k came to those of m by changes of all requests, unless no call is left; what a
-- stop leaves in between came by those of a beginning of them.
pub record HasServedAll {D N : Type 0} (disk : Ghosts D N) (requests : List (List ℕ)) (k m : Plain D)
    (left less : ℕ) : Type 0 where
  pub made : 0 < less → CameByAll (form_seen disk.image k) requests
      (files_of (image_on disk.image k)) (files_of (image_on disk.image m))
  pub leaves : LeavesIfDone disk (CameBySome (form_seen disk.image k) requests) k m
  pub none : left ≡ 0 → (m ≡ k) × (less ≡ 0)

-- that of any requests
abbrev pub SessionsKeep : {D N : Type 0} → Ghosts D N → Type 0
SessionsKeep {D} disk = (requests : List (List ℕ)) (k m : Plain D) (left less : ℕ)
    → ServesEach disk requests k left m less → HasServedAll disk requests k m left less
