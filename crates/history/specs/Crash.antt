-- What a stop leaves, over a store.
use Rattle.std.specs.Prelude.{◌≡◌, ◌≢◌, ℕ, length, IsTrue, IsSome, true, List, Option, Some, None}
use Rattle.blocks.specs.Disk.{Image}
use Rattle.model.specs.declared.types.operations.Entry.{Entry}
use Rattle.model.specs.Crash.{IsUntouched, labels_of, due_labels}
use Rattle.model.specs.Files.{Files, files_of}
use Rattle.model.specs.Journal.{kept, is_number}
use Rattle.model.specs.Layout.{inode_of, inode_count_of}
use Rattle.model.specs.Log.{is_lawful_log, recovered, cleared}
use Rattle.model.specs.Soundness.{IsSound}
use Rattle.wal.specs.declared.types.Commit.{Commit}
use Rattle.wal.specs.declared.types.Part.{Part}
use Rattle.wal.specs.Machine.{LogState, used_by}
use Rattle.history.specs.Keeps.{HasFilesAfter}
use Rattle.history.specs.Most.{most_kept}
use Rattle.history.specs.Open.{Held, AreExclusive}

-- what no operation touches is the opening's, and the labels are those that are due
pub record HasMarks (opening : Image) (es : List Entry) (x : Image) : Type 0 where
  pub size : length x ≡ length opening
  pub untouched : IsUntouched opening x
  pub labels : (i : ℕ) → (inode_of x i).kind ≢ 0 → IsTrue (is_number (inode_count_of opening) i)
      → labels_of x i ≡ due_labels opening es i

-- the groups that recovery of what reads give keeps: also that of a header that waits for its sync
abbrev pub in_reads : LogState → ℕ
in_reads l = most_kept None l.commit l.committed

-- a header was written, and waits for its sync
abbrev pub AwaitsHeader : LogState → Type 0
AwaitsHeader l = l.commit ≡ Commit.Syncing Part.Header

-- What disk and log have of the journal, while the disk has not failed; the current image is what
-- buffers and disk show together.
pub record Survives (opening x current : Image) (l : LogState) (es : List Entry) : Type 0 where
  pub marks : HasMarks opening es current
  pub lawful : IsTrue (is_lawful_log x)
  -- recovery gives the files after the groups whose headers reads give
  pub committed :
      HasFilesAfter opening (kept (inode_count_of opening) es (in_reads l)) (recovered x)
  -- while a header waits for its sync, the image without it has those after the committed ones
  pub unheaded : AwaitsHeader l
      → HasFilesAfter opening (kept (inode_count_of opening) es l.committed) (cleared x)

-- a store's laws: what its tasks hold, and its files while no operation is open in the log
pub record StoreLaws (current : Image) (l : LogState) (holds : ℕ → Option Held)
    (fit : Files → Type 0) : Type 0 where
  pub alone : AreExclusive holds
  pub logged : (q : ℕ) (h : Held) → holds q ≡ Some h → h.writes ≡ true → IsSome (used_by l q)
  pub quiet : l.outstanding ≡ 0 → (m : Files) → fit m
      → IsSound (cleared current) × (m ≡ files_of (cleared current))
