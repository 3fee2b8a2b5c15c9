-- What an operation with its reply does to the files.
use Rattle.std.specs.Prelude.{ℕ, ◌+◌, ◌-◌, ◌%◌, ◌==◌, ◌&&◌, ◌||◌, nat_lt, nat_le, if◌then◌else◌, Bool, true, false, List, [], ◌++◌, take, drop, length, replicate, is_none, Option, Some, None, slice_set}
use Rattle.std.specs.Str.{bytes_eq}
use Rattle.blocks.specs.Block.{overwritten}
use Rattle.blocks.specs.Block.{block_size}
use Rattle.model.specs.declared.types.image.Form.{Form}
use Rattle.model.specs.declared.types.image.File.{File}
use Rattle.model.specs.declared.types.operations.Attribute.{Attribute}
use Rattle.model.specs.declared.types.operations.Attribute.TheVariants.{Links, Size}
use Rattle.model.specs.declared.types.operations.Op.{Op}
use Rattle.model.specs.declared.types.operations.Op.TheVariants.{Create, Write, Read, Trunc, Remove, Stat, SetAttribute}
use Rattle.model.specs.declared.types.operations.Reply.{Reply}
use Rattle.model.specs.declared.types.operations.Reply.TheVariants.{Made, NoInode, Wrote, Bytes, Done, StatOf, NoFile, BadOffset, TooBig, TooLong, BadType}
use Rattle.model.specs.Layout.{greatest_size}
use Rattle.model.specs.Files.{Files, file_in}

-- the most bytes that one read or write moves
abbrev pub transfer_limit : ℕ
transfer_limit = 3072

-- a type that a file can have
abbrev pub is_kind : ℕ → Bool
is_kind kind = nat_le 1 kind && nat_le kind 3

-- a write of n bytes to a file is refused
abbrev pub write_refusal : Form → Option File → ℕ → ℕ → Option Reply
write_refusal form None off n = Some NoFile
write_refusal form (Some file) off n =
    if nat_lt (length file.bytes) off then Some BadOffset
    else if nat_lt (greatest_size form) (off + n) then Some TooBig else None

abbrev pub no_file_refusal : Option File → Option Reply
no_file_refusal None = Some NoFile
no_file_refusal (Some file) = None

-- an extension of a file to n bytes is refused, which adds more than one operation moves, or that no
-- file has room for
abbrev pub extension_refusal : Form → ℕ → ℕ → Option Reply
extension_refusal form old n =
    if nat_lt (old + transfer_limit) n then Some TooLong
    else if nat_lt (greatest_size form) n then Some TooBig else None

abbrev pub attribute_refusal : Form → Option File → Attribute → Option Reply
attribute_refusal form None attribute = Some NoFile
attribute_refusal form (Some file) (Links n) = None
attribute_refusal form (Some file) (Size n) =
    if nat_lt (length file.bytes) n then extension_refusal form (length file.bytes) n else None

-- the first refusal that an operation on these files has
abbrev pub refusal_of : Form → Files → Op → Option Reply
refusal_of form files (Create kind) = if is_kind kind then None else Some BadType
refusal_of form files (Write i off bytes) =
    if nat_lt transfer_limit (length bytes) then Some TooLong
    else write_refusal form (file_in files i) off (length bytes)
refusal_of form files (Read i off n) =
    if nat_lt transfer_limit n then Some TooLong else no_file_refusal (file_in files i)
refusal_of form files (Trunc i) = no_file_refusal (file_in files i)
refusal_of form files (Remove i) = no_file_refusal (file_in files i)
refusal_of form files (Stat i) = no_file_refusal (file_in files i)
refusal_of form files (SetAttribute i attribute) =
    attribute_refusal form (file_in files i) attribute

-- a value where the test holds
abbrev pub where_true : {A : Type 0} → Bool → A → Option A
where_true b a = if b then Some a else None

-- the bytes from a place on, as many as there are
abbrev pub part_of : List ℕ → ℕ → ℕ → List ℕ
part_of bytes at n = take n (drop at bytes)

-- a write may have written k of n bytes; a short one ends at a whole block, from the file's end on
abbrev pub may_have_written : ℕ → ℕ → ℕ → ℕ → Bool
may_have_written old off n k =
    nat_le k n && ((k == n) || (((off + k) % block_size == 0) && nat_le old (off + k)))

abbrev pub with_bytes : File → List ℕ → Option File
with_bytes file bytes = Some (record file { bytes = bytes })

abbrev pub with_links : File → ℕ → Option File
with_links file n = Some (record file { links = n })

-- an attribute that a file of so many bytes gets at its turn: its links, or a length within it
abbrev pub is_within : ℕ → Attribute → Bool
is_within old (Links n) = true
is_within old (Size n) = nat_le n old

-- a longer length may have added k zeroes: all, or as many as end at a whole block
abbrev pub may_have_added : ℕ → Attribute → ℕ → Bool
may_have_added old (Links n) k = false
may_have_added old (Size n) k = nat_lt old n && may_have_written old old (n - old) k

-- the file with an attribute set: its links, or the bytes up to a length
abbrev pub with_attribute : File → Attribute → File
with_attribute file (Links n) = record file { links = n }
with_attribute file (Size n) = record file { bytes = take n file.bytes }

-- the files once an operation on a file is done; None where it can't answer so
abbrev pub after_on : Files → ℕ → File → Op → Reply → Option Files
after_on files i file (Write j off bytes) (Wrote k) =
    where_true (may_have_written (length file.bytes) off (length bytes) k)
    (slice_set files i (with_bytes file (overwritten file.bytes off (take k bytes))))
after_on files i file (Read j off n) (Bytes bytes) =
    where_true (bytes_eq bytes (part_of file.bytes off n)) files
after_on files i file (Trunc j) Done = Some (slice_set files i (with_bytes file []))
after_on files i file (Remove j) Done = Some (slice_set files i None)
after_on files i file (Stat j) (StatOf kind links size) =
    where_true ((kind == file.kind) && ((links == file.links) && (size == length file.bytes))) files
after_on files i file (SetAttribute j attribute) Done =
    where_true (is_within (length file.bytes) attribute)
    (slice_set files i (Some (with_attribute file attribute)))
after_on files i file (SetAttribute j attribute) (Wrote k) =
    where_true (may_have_added (length file.bytes) attribute k)
    (slice_set files i (with_bytes file (file.bytes ++ replicate k 0)))
after_on files i file op reply = None

-- the same for the file of a number, where there is one
abbrev pub after_at : Files → ℕ → Option File → Op → Reply → Option Files
after_at files i None op reply = None
after_at files i (Some file) op reply = after_on files i file op reply

-- a creation that is not refused: any free number may be made, with one link, or none
abbrev pub after_create : Files → ℕ → Reply → Option Files
after_create files kind (Made i) =
    where_true (nat_lt 0 i && nat_lt i (length files) && is_none (file_in files i))
    (slice_set files i (Some (record { kind = kind; links = 1; bytes = [] })))
after_create files kind NoInode = Some files
after_create files kind reply = None

-- an operation that is not refused
abbrev pub after_done : Files → Op → Reply → Option Files
after_done files (Create kind) reply = after_create files kind reply
after_done files (Write i off bytes) reply =
    after_at files i (file_in files i) (Write i off bytes) reply
after_done files (Read i off n) reply = after_at files i (file_in files i) (Read i off n) reply
after_done files (Trunc i) reply = after_at files i (file_in files i) (Trunc i) reply
after_done files (Remove i) reply = after_at files i (file_in files i) (Remove i) reply
after_done files (Stat i) reply = after_at files i (file_in files i) (Stat i) reply
after_done files (SetAttribute i attribute) reply =
    after_at files i (file_in files i) (SetAttribute i attribute) reply

-- whether two replies are the same refusal
abbrev pub is_refusal : Reply → Reply → Bool
is_refusal NoFile NoFile = true
is_refusal BadOffset BadOffset = true
is_refusal TooBig TooBig = true
is_refusal TooLong TooLong = true
is_refusal BadType BadType = true
is_refusal refusal reply = false

-- a refused operation answers its refusal, and changes nothing
abbrev pub after_refusal : Option Reply → Files → Op → Reply → Option Files
after_refusal (Some refusal) files op reply = where_true (is_refusal refusal reply) files
after_refusal None files op reply = after_done files op reply

-- the files after an operation that was answered so; None where it can't be answered so
unfoldable pub after : Form → Files → Op → Reply → Option Files
after form files op reply = after_refusal (refusal_of form files op) files op reply
