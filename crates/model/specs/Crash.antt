-- What an image keeps after a stop.
use Rattle.std.specs.Prelude.{◌≡◌, ◌≢◌, ℕ, ◌+◌, ◌*◌, ◌/◌, ◌<◌, ◌≤◌, if◌then◌else◌, IsTrue, List, length, Some}
use Rattle.std.specs.List.{list_any}
use Rattle.blocks.specs.Disk.{Image, block_at}
use Rattle.model.specs.Format.{inodes_per_block, bits_per_block}
use Rattle.model.specs.declared.types.operations.Entry.{Entry}
use Rattle.model.specs.Layout.{form_of, inode_of, inode_bytes, inode_count_of, is_marked}
use Rattle.model.specs.Log.{is_lawful_log, recovered}
use Rattle.model.specs.Files.{files_of}
use Rattle.model.specs.Soundness.{IsSound}
use Rattle.model.specs.Journal.{replay, kept, is_making, is_number}

-- an inode's labels: major and minor, which no file shows
abbrev pub labels_of : Image → ℕ → ℕ × ℕ
labels_of x i = ((inode_of x i).major, (inode_of x i).minor)

-- the labels that a used inode has to have
abbrev pub due_labels : Image → List Entry → ℕ → ℕ × ℕ
due_labels opening entries i =
    if list_any (λ (e : Entry). is_making i e.reply) entries then (0, 0) else labels_of opening i

-- what no operation touches is as it was
pub record IsUntouched (opening x : Image) : Type 0 where
  pub boot : block_at x 0 ≡ block_at opening 0
  pub super : block_at x 1 ≡ block_at opening 1
  pub inode_zero : inode_bytes x 0 ≡ inode_bytes opening 0
  pub inodes_past : (i : ℕ) → inode_count_of opening ≤ i →
      i < inodes_per_block * (inode_count_of opening / inodes_per_block + 1) →
      inode_bytes x i ≡ inode_bytes opening i
  pub bits_past : (b : ℕ) → length opening ≤ b → b < bits_per_block →
      is_marked x b ≡ is_marked opening b

-- recovery of x gives a sound image with the opening's files after the kept entries
pub record Keeps (opening : Image) (journal : List Entry) (x : Image) (c : ℕ) : Type 0 where
  pub log : IsTrue (is_lawful_log x)
  pub sound : IsSound (recovered x)
  pub files : replay (form_of opening) (files_of opening) (kept (inode_count_of opening) journal c)
      ≡ Some (files_of (recovered x))
  pub untouched : IsUntouched opening (recovered x)
  pub labels : (i : ℕ) → (inode_of (recovered x) i).kind ≢ 0 →
      IsTrue (is_number (inode_count_of opening) i) →
      labels_of (recovered x) i ≡ due_labels opening (kept (inode_count_of opening) journal c) i
