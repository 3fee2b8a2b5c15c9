-- Bytes put under a path.
use Rattle.std.specs.Prelude.{◌≡◌, ◌⊎◌, ℕ, zero, suc, ◌*◌, ◌^◌, ◌<◌, ◌≤◌, List, [], length, take, drop, Option, Some, Result, Ok, Err}
use Rattle.std.specs.Int.{div_ceil}
use Rattle.blocks.specs.declared.disk.Disk.{Ghosts}
use Rattle.calls.specs.Calls.{image_on}
use Rattle.calls.specs.Stepping.{Plain}
use Rattle.model.specs.Files.{Files, files_of}
use Rattle.model.specs.Operations.{transfer_limit}
use Rattle.model.specs.declared.types.image.Form.{Form}
use Rattle.names.specs.declared.refusal.TreeFault.TheVariants as tree
use Rattle.names.specs.declared.writing.Unwritten.TheVariants as unwritten
use Rattle.names.specs.Inside.{form_seen}
use Rattle.directories.specs.Paths.{names_of}
use Rattle.names.specs.Putting.{IsUnputIn, PutsAt}
use Rattle.names.specs.Ready.{IsUnwritten, AnyOf}
use Rattle.directories.specs.Walks.{IsUndoneIn}
use Rattle.names.specs.Contents.{LeadsToNoPlain}
use Rattle.names.specs.Writing.{Writes}
use Rattle.tree_changes.specs.declared.faults.ChangeRefusal.{ChangeRefusal}
use Rattle.tree_changes.specs.declared.faults.ChangeRefusal.TheVariants as change

-- the bytes were put in one transaction
abbrev pub PutsFew : List ℕ → List ℕ → Option ℕ → Files → Files → Type 0
PutsFew path bytes told files new =
    (number : ℕ) × (told ≡ Some number) × PutsAt bytes (names_of path) (Ok number) files new

-- the bytes of a piece, which one call writes
abbrev pub piece_of : List ℕ → ℕ → List ℕ
piece_of bytes piece = take transfer_limit (drop (piece * transfer_limit) bytes)

-- so many pieces were written into the file at a path, each by one call behind those before it
abbrev pub WritesPieces : Form → List ℕ → List ℕ → ℕ → Files → Files → Type 0
WritesPieces form path bytes zero files new = new ≡ files
WritesPieces form path bytes (suc piece) files new = (mid : Files)
    × WritesPieces form path bytes piece files mid
    × Writes form (names_of path) (piece * transfer_limit) (piece_of bytes piece) (Ok tt) mid new

-- how many pieces there are
abbrev pub piece_count : List ℕ → ℕ
piece_count bytes = div_ceil (length bytes) transfer_limit

-- Bytes were put: no more than one call writes, in one transaction; more, piece by piece into a file
-- that was made without bytes, or lost its own.
abbrev pub Puts : List ℕ → List ℕ → Form → Option ℕ → Files → Files → Type 0
Puts path bytes form told files new =
    ((length bytes ≤ transfer_limit) × PutsFew path bytes told files new)
    ⊎ ((transfer_limit < length bytes) × ((empty : Files) × PutsFew path [] told files empty
    × WritesPieces form path bytes (piece_count bytes) empty new))

-- Why no more bytes than one call writes were not put over kernel k, which is m now, here and below:
-- they are more, or the tree did not answer.
abbrev pub IsUnputFew : {D N : Type 0} → Ghosts D N → List ℕ → List ℕ → Plain D → Plain D
    → ChangeRefusal → Type 0
IsUnputFew disk path bytes k m (change.Tree fault) =
    IsUnwritten disk path (IsUndoneIn IsUnputIn (names_of path)) k m fault
IsUnputFew disk path bytes k m (change.Unwritten cause) = PutsAt bytes (names_of path) (Err cause)
    (files_of (image_on disk.image k)) (files_of (image_on disk.image m))
IsUnputFew disk path bytes k m (change.Unopened fault) = ⊥
IsUnputFew disk path bytes k m (change.Disk fault) = ⊥
IsUnputFew disk path bytes k m change.Output = ⊥

-- why a piece was not written behind so many bytes: a write of it is refused, or stands too far
abbrev pub IsUnappended : {D N : Type 0} → Ghosts D N → List ℕ → ℕ → List ℕ → Plain D → Plain D
    → ChangeRefusal → Type 0
IsUnappended disk path from bytes k m (change.Tree fault) =
    IsUnwritten disk path (LeadsToNoPlain (names_of path)) k m fault
IsUnappended disk path from bytes k m (change.Unwritten cause) = (2 ^ 32 ≤ from)
    ⊎ Writes (form_seen disk.image k) (names_of path) from bytes (Err cause)
    (files_of (image_on disk.image k)) (files_of (image_on disk.image m))
IsUnappended disk path from bytes k m (change.Unopened fault) = ⊥
IsUnappended disk path from bytes k m (change.Disk fault) = ⊥
IsUnappended disk path from bytes k m change.Output = ⊥

-- No call was left in tree t, which is u now: nothing was done, since that is so, or the bytes stand
-- too far.
abbrev pub HasNotAppended : {T : Type 0} → ℕ → T → T → Result (Unit {0}) ChangeRefusal → Type 0
HasNotAppended from t u (Err (change.Tree tree.NoCall)) = u ≡ t
HasNotAppended from t u (Err (change.Unwritten unwritten.TooBig)) = (2 ^ 32 ≤ from) × (u ≡ t)
HasNotAppended from t u result = ⊥

-- the same of all pieces: there were none, or that is the answer
abbrev pub HasAppendedNone : {T : Type 0} → List ℕ → T → T → Result (Unit {0}) ChangeRefusal → Type 0
HasAppendedNone bytes t u (Ok done) = (bytes ≡ []) × (u ≡ t)
HasAppendedNone bytes t u (Err (change.Tree tree.NoCall)) = u ≡ t
HasAppendedNone bytes t u result = ⊥

-- so many pieces were written, and the one behind them was not
pub record StopsWriting {D N : Type 0} (disk : Ghosts D N) (path bytes : List ℕ) (k m : Plain D)
    (r : ChangeRefusal) : Type 0 where
  pub piece : ℕ
  pub mid : Plain D
  pub written : WritesPieces (form_seen disk.image k) path bytes piece
      (files_of (image_on disk.image k)) (files_of (image_on disk.image mid))
  pub why : IsUnappended disk path (piece * transfer_limit) (piece_of bytes piece) mid m r

-- Why bytes were not put: few of them for such a cause; or more, since the file was not made or did not
-- lose its own, or was, and then so many of the pieces were written.
abbrev pub IsUnputAt : {D N : Type 0} → Ghosts D N → List ℕ → List ℕ → Plain D → Plain D
    → ChangeRefusal → Type 0
IsUnputAt {D} disk path bytes k m r =
    ((length bytes ≤ transfer_limit) × IsUnputFew disk path bytes k m r)
    ⊎ ((transfer_limit < length bytes) × (IsUnputFew disk path [] k m r
    ⊎ ((told : Option ℕ) × ((mid : Plain D) × PutsFew path [] told
    (files_of (image_on disk.image k)) (files_of (image_on disk.image mid))
    × StopsWriting disk path bytes mid m r))))

-- at most so many of the pieces were written
abbrev pub WritesSome : Form → List ℕ → List ℕ → ℕ → Files → Files → Type 0
WritesSome form path bytes count files new =
    (piece : ℕ) × (piece ≤ count) × WritesPieces form path bytes piece files new

-- bytes were put in one transaction, or refused
abbrev pub PutsAny : List ℕ → List ℕ → Files → Files → Type 0
PutsAny path bytes = AnyOf (PutsAt bytes (names_of path))

-- What a stop may leave of a put, besides the files as they were: few bytes were put, all of them; of
-- more some pieces were, from the first on, into a file that was made without bytes, or lost its own.
abbrev pub PutsSome : List ℕ → List ℕ → Form → Files → Files → Type 0
PutsSome path bytes form files new = ((length bytes ≤ transfer_limit) × PutsAny path bytes files new)
    ⊎ ((transfer_limit < length bytes) × ((empty : Files) × PutsAny path [] files empty
    × WritesSome form path bytes (piece_count bytes) empty new))
