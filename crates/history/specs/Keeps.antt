-- What a disk keeps of the journal of a kernel.
use Rattle.std.specs.Prelude.{◌≡◌, ◌≢◌, ℕ, ◌==◌, ◌≤◌, nat_le, nat_lt, if◌then◌else◌, IsTrue, List, length, Some}
use mathlib.Core.List.{IsPrefix}
use Rattle.std.specs.List.{list_all}
use Rattle.blocks.specs.Disk.{Image}
use Rattle.model.specs.declared.types.operations.Entry.{Entry}
use Rattle.model.specs.Crash.{IsUntouched, Keeps, labels_of, due_labels}
use Rattle.model.specs.Files.{files_of}
use Rattle.model.specs.Journal.{kept, replay, is_changing, is_number}
use Rattle.model.specs.Layout.{form_of, inode_of, inode_count_of}
use Rattle.model.specs.Log.{logged_count}
use Rattle.model.specs.Soundness.{IsSound}

-- Image y is sound and has the opening's files after these entries; what no operation touches is
-- the opening's.
pub record HasFilesAfter (opening : Image) (entries : List Entry) (y : Image) : Type 0 where
  pub size : length y ≡ length opening
  pub sound : IsSound y
  pub files : replay (form_of opening) (files_of opening) entries ≡ Some (files_of y)
  pub untouched : IsUntouched opening y
  pub labels : (i : ℕ) → (inode_of y i).kind ≢ 0 → IsTrue (is_number (inode_count_of opening) i)
      → labels_of y i ≡ due_labels opening entries i

-- no entry is of a later group
abbrev pub AreUpTo : ℕ → List Entry → Type 0
AreUpTo group entries = IsTrue (list_all (λ (e : Entry). nat_le e.group group) entries)

-- recovery of x keeps some count of groups between those
pub record KeepsBetween (least most : ℕ) (opening : Image) (entries : List Entry) (x : Image)
    : Type 0 where
  pub groups : ℕ
  pub low : least ≤ groups
  pub high : groups ≤ most
  pub keeps : Keeps opening entries x groups

-- Recovery of x keeps the committed groups, or at most so many, where the write of a header failed
-- or waits for its sync: then exactly where the header got through.
pub record KeepsNow (committed most : ℕ) (opening : Image) (entries : List Entry) (x : Image)
    : Type 0 where
  pub between : KeepsBetween committed most opening entries x
  pub told : between.groups ≡ (if logged_count x == 0 then committed else most)

-- what is kept of any count of groups is a beginning of what is kept of all up to that group
abbrev pub KeepsBeginnings : ℕ → List Entry → ℕ → Type 0
KeepsBeginnings inode_count entries group =
    (c : ℕ) → IsPrefix (kept inode_count entries c) (kept inode_count entries group)

-- an entry has a group exactly where its operation is a changing one
abbrev pub HasItsGroup : ℕ → Entry → Type 0
HasItsGroup inode_count e = nat_lt 0 e.group ≡ is_changing inode_count e.op
