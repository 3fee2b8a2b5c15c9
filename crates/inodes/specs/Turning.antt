-- Where an operation goes that has taken its inode.
use Rattle.std.specs.Prelude.{◌≡◌, ◌≤◌, ℕ, ◌+◌, ◌-◌, nat_lt, if◌then◌else◌, length, Option, Some, None, IfSome, Bool, true, false}
use Rattle.model.specs.Layout.{greatest_size}
use Rattle.model.specs.declared.types.image.Form.{Form}
use Rattle.model.specs.declared.types.image.Dinode.{Dinode}
use Rattle.model.specs.declared.types.operations.Attribute.{Attribute}
use Rattle.model.specs.declared.types.operations.Attribute.TheVariants.{Links, Size}
use Rattle.model.specs.declared.types.operations.Op.{Op}
use Rattle.model.specs.declared.types.operations.Op.TheVariants.{Create, Write, Read, Trunc, Remove, Stat, SetAttribute}
use Rattle.model.specs.declared.types.operations.Reply.{Reply}
use Rattle.model.specs.declared.types.operations.Reply.TheVariants.{Done, StatOf, NoFile, BadOffset, TooBig}
use Rattle.model.specs.Operations.{extension_refusal}
use Rattle.in_flight.specs.AttributeLaws.{with_value}
use Rattle.inodes.specs.declared.tasks.Stage.{Stage}
use Rattle.inodes.specs.declared.writei.Extent.{Extent}
use Rattle.inodes.specs.Freeing.{first_freeing}
use Rattle.inodes.specs.Itrunc.{first_trunc}
use Rattle.inodes.specs.Iupdate.{first_update}
use Rattle.inodes.specs.Readi.{ReadState, first_read}
use Rattle.inodes.specs.Writei.{WriteState, first_write}

-- an inode whose file may be read in an image of that form, if there is one
abbrev pub IsReadable : Form → Option Dinode → Type 0
IsReadable form inode =
    IfSome inode (λ d. (length d.addrs ≡ 13) × (d.size ≤ greatest_size form))

-- the refusal of a write of n bytes that begins behind the file's end, or that no file of that form
-- has room for
abbrev pub write_refusal : Form → Dinode → ℕ → ℕ → Option Reply
write_refusal form d off n =
    if nat_lt d.size off then Some BadOffset
    else if nat_lt (greatest_size form) (off + n) then Some TooBig
    else None

-- the reply of an attribute at its turn: that of a longer length comes later, where it is not refused
abbrev pub reply_of_attribute : Form → Dinode → Attribute → Option Reply
reply_of_attribute form d (Links n) = Some Done
reply_of_attribute form d (Size n) =
    if nat_lt d.size n then extension_refusal form d.size n else Some Done

-- the reply of an operation that has taken a used inode of an image of that form; a reading's comes
-- later, and that of a write that is not refused
abbrev pub reply_of_look : Form → Dinode → Op → Option Reply
reply_of_look form d (Create kind) = None
reply_of_look form d (Write i off bytes) = write_refusal form d off (length bytes)
reply_of_look form d (Read i off n) = None
reply_of_look form d (Trunc i) = Some Done
reply_of_look form d (Remove i) = Some Done
reply_of_look form d (Stat i) = Some (StatOf d.kind d.nlink d.size)
reply_of_look form d (SetAttribute i a) = reply_of_attribute form d a

-- and of one that has taken its inode, which is none where it is free
abbrev pub reply_when_taken : Form → Option Dinode → Op → Option Reply
reply_when_taken form None op = Some NoFile
reply_when_taken form (Some d) op = reply_of_look form d op

-- a reading begins with its bytes, or has all of them
abbrev pub stage_of_read : ℕ → Option ReadState → Stage
stage_of_read k None = Stage.Delivering k
stage_of_read k (Some m) = Stage.Reading k m

-- a write is refused, or begins with its bytes
abbrev pub stage_by_refusal : ℕ → WriteState → Option Reply → Stage
stage_by_refusal k m None = Stage.Writing k m
stage_by_refusal k m (Some reply) = Stage.Leaving k

abbrev pub stage_of_write : ℕ → ℕ → Dinode → ℕ → ℕ → Extent → Stage
stage_of_write k i d off n e =
    stage_by_refusal k (first_write i d off n e) (write_refusal e.form d off n)

-- zeroes are written behind the file's end up to that length, or it is refused
abbrev pub stage_of_addition : ℕ → ℕ → Dinode → ℕ → Extent → Stage
stage_of_addition k i d n e =
    stage_by_refusal k (first_write i d d.size (n - d.size) e) (extension_refusal e.form d.size n)

-- an inode with an attribute set is written back, or its file gets longer
abbrev pub stage_of_attribute : ℕ → ℕ → Dinode → Attribute → Extent → Stage
stage_of_attribute k i d (Links n) e = Stage.Setting k (with_value d (Links n)) (first_update i)
stage_of_attribute k i d (Size n) e =
    if nat_lt d.size n then stage_of_addition k i d n e
    else Stage.Setting k (with_value d (Size n)) (first_update i)

-- it is answered, or reads, or frees the blocks of its file, or writes into it, over an image that
-- takes its blocks there, or sets an attribute
abbrev pub stage_of_look : Extent → Dinode → ℕ → Op → Stage
stage_of_look e d k (Create kind) = Stage.Leaving k
stage_of_look e d k (Write i off bytes) = stage_of_write k i d off (length bytes) e
stage_of_look e d k (Read i off count) = stage_of_read k (first_read e.form d off count)
stage_of_look e d k (Trunc i) =
    Stage.Truncating k (first_freeing (first_trunc i d e.form false e.bitmap))
stage_of_look e d k (Remove i) =
    Stage.Truncating k (first_freeing (first_trunc i d e.form true e.bitmap))
stage_of_look e d k (Stat i) = Stage.Leaving k
stage_of_look e d k (SetAttribute i a) = stage_of_attribute k i d a e

-- where it goes, with the inode at that place of the table
abbrev pub stage_when_taken : Extent → Option Dinode → ℕ → Op → Stage
stage_when_taken e None k op = Stage.Leaving k
stage_when_taken e (Some d) k op = stage_of_look e d k op

-- the inode, if it is used
abbrev pub if_used : Bool → Dinode → Option Dinode
if_used true d = Some d
if_used false d = None
