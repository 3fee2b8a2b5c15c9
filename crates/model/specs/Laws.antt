-- Laws over the definitions.
use Rattle.std.specs.Prelude.{◌≡◌, ◌↔◌, ℕ, ◌+◌, ◌<◌, ◌≤◌, ◌==◌, ◌&&◌, not, nat_lt, IsTrue, IsSome, Bool, true, false, List, [], ◌++◌, length, slice_set, slice_index, Option, Some, None}
use Rattle.std.specs.List.{list_any}
use Rattle.blocks.specs.Disk.{Image, block_at}
use Rattle.model.specs.Format.{bits_per_block}
use Rattle.model.specs.declared.types.fault.CheckFault.{CheckFault}
use Rattle.model.specs.declared.types.image.Dinode.{Dinode}
use Rattle.model.specs.declared.types.operations.Entry.{Entry}
use Rattle.model.specs.declared.types.image.Form.{Form}
use Rattle.model.specs.declared.types.operations.Op.{Op}
use Rattle.model.specs.declared.types.operations.Op.TheVariants.{Create, Write, Read, Trunc, Remove, Stat, SetAttribute}
use Rattle.model.specs.declared.types.operations.Reply.{Reply}
use Rattle.model.specs.declared.types.operations.Reply.TheVariants.{Made, NoInode, Wrote, Bytes, Done, StatOf, NoFile, BadOffset, TooBig, TooLong, BadType}
use Rattle.model.specs.Fields.{has_bit}
use Rattle.model.specs.Log.{cleared, is_lawful_log, homes_of, logged_count, recovered}
use Rattle.model.specs.Files.{Files, file_in, files_of}
use Rattle.model.specs.Soundness.{IsLawfulGeometry, IsSound}
use Rattle.model.specs.Verdict.{verdict}
use Rattle.model.specs.Faults.{faults, first_in}
use Rattle.model.specs.Operations.{after, refusal_of}
use Rattle.model.specs.Journal.{replay, and_then, is_at_once, is_changing}
use Rattle.model.specs.Codec.{first_bits}
use Rattle.model.specs.Agreement.{Agrees, AgreesFor, HasSameContents, is_outside_log}

-- recovery of what recovery left changes nothing
abbrev pub RecoversOnce : Type 0
RecoversOnce = (x : Image) → recovered (recovered x) ≡ recovered x

-- a run of two lists is a run of the first and then of the second
abbrev pub ReplaysInParts : Type 0
ReplaysInParts = (form : Form) (files : Files) (first second : List Entry) →
    replay form files (first ++ second)
    ≡ and_then (replay form files first) (λ mid. replay form mid second)

-- a reply that changes no file
abbrev pub is_still : Reply → Bool
is_still (Made i) = false
is_still NoInode = true
is_still (Wrote k) = false
is_still (Bytes bytes) = true
is_still Done = false
is_still (StatOf kind links size) = true
is_still NoFile = true
is_still BadOffset = true
is_still TooBig = true
is_still TooLong = true
is_still BadType = true

-- refusals, reads and looks change nothing
abbrev pub RefusalsKeep : Type 0
RefusalsKeep = (form : Form) (files new : Files) (op : Op) (reply : Reply) →
    IsTrue (is_still reply) → after form files op reply ≡ Some new → new ≡ files

-- no run changes how many numbers there are
abbrev pub CountStays : Type 0
CountStays = (form : Form) (files new : Files) (entries : List Entry) →
    replay form files entries ≡ Some new → length new ≡ length files

-- an operation that has a refusal may be answered by it, and by no other reply, and changes nothing
abbrev pub RefusalsFirst : Type 0
RefusalsFirst = (form : Form) (files : Files) (op : Op) (refusal : Reply) →
    refusal_of form files op ≡ Some refusal →
    (after form files op refusal ≡ Some files)
    × ((reply : Reply) (new : Files) → after form files op reply ≡ Some new →
    (reply ≡ refusal) × (new ≡ files))

-- the operations that may change a file
abbrev pub is_writing : Op → Bool
is_writing (Create kind) = true
is_writing (Write i off bytes) = true
is_writing (Read i off n) = false
is_writing (Trunc i) = true
is_writing (Remove i) = true
is_writing (Stat i) = false
is_writing (SetAttribute i attribute) = true

-- the changing operations are those that may change a file and are not answered at once
abbrev pub AtOnceIsNotChanging : Type 0
AtOnceIsNotChanging = (inode_count : ℕ) (op : Op) →
    is_changing inode_count op ≡ (is_writing op && not (is_at_once inode_count op))

-- what is answered at once is refused, whatever the files are, if number 0 has none
abbrev pub AtOnceIsRefused : Type 0
AtOnceIsRefused = (form : Form) (files : Files) (op : Op) → file_in files 0 ≡ None →
    IsTrue (is_at_once (length files) op) →
    IsSome (refusal_of form files op)

-- writing a logged block to its home changes nothing of what recovery leaves
abbrev pub HomeWritesKeep : Type 0
HomeWritesKeep = (x : Image) (k : ℕ) → IsTrue (is_lawful_log x) → k < length (homes_of x) →
    recovered (slice_set x (slice_index (homes_of x) k) (block_at x (3 + k))) ≡ recovered x

-- the block is a home of the image's log
abbrev pub is_home : Image → ℕ → Bool
is_home x b = list_any (λ h. h == b) (homes_of x)

-- whatever stands at the homes of a log, recovery leaves the same
abbrev pub HomesAreRewritten : Type 0
HomesAreRewritten = (x y : Image) → IsTrue (is_lawful_log x) → length y ≡ length x →
    Agrees (λ b. not (is_home x b)) x y →
    recovered y ≡ recovered x

-- a check finds no fault exactly where superblock and log are lawful and recovery leaves a sound
-- image
abbrev pub VerdictIsSound : Type 0
VerdictIsSound = (x : Image) →
    (verdict x ≡ None) ↔ (IsLawfulGeometry x × IsTrue (is_lawful_log x) × IsSound (recovered x))

-- what a check answers is the first of an image's faults, so one that it finds sound has none, and
-- one that has none is found sound
pub record IsFirstOf (fault : Option CheckFault) (faults : List CheckFault) : Type 0 where
  pub first : fault ≡ first_in faults
  pub none : (fault ≡ None) ↔ (faults ≡ [])

abbrev pub VerdictIsFirst : Type 0
VerdictIsFirst = (x : Image) → IsFirstOf (verdict x) (faults x)

-- images that agree at the superblock and at what an inode names have the same contents of it
abbrev pub FramesContents : Type 0
FramesContents = (test : ℕ → Bool) (x y : Image) (d : Dinode) → AgreesFor test x y d →
    HasSameContents x y d

-- an image with an empty log that differs from a sound one in the log alone is sound, and has the
-- same files
abbrev pub SameOutsideLog : Type 0
SameOutsideLog = (x y : Image) → length y ≡ length x → Agrees is_outside_log x y → IsSound x →
    logged_count y ≡ 0 →
    IsSound y × (files_of y ≡ files_of x)

-- where recovery leaves a sound image, one that recovers to the same outside the log recovers to a
-- sound one with the same files
abbrev pub SameWhenRecovered : Type 0
SameWhenRecovered = (x y : Image) → length y ≡ length x →
    Agrees is_outside_log (recovered x) (recovered y) → IsSound (recovered x) →
    IsSound (recovered y) × (files_of (recovered y) ≡ files_of (recovered x))

-- an image with an empty log is sound, and has those files, where it is so with its header emptied
abbrev pub SameWhenCleared : Type 0
SameWhenCleared = (x : Image) → logged_count x ≡ 0 → IsSound (cleared x) →
    IsSound x × (files_of x ≡ files_of (cleared x))

-- the first bits of a block are set, as many as asked for, and no other
abbrev pub FirstBits : Type 0
FirstBits = (n k : ℕ) → n ≤ bits_per_block → has_bit (first_bits n) k ≡ nat_lt k n
