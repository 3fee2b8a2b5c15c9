-- What is made of the journal.
use Rattle.std.specs.Option.{option_map}
use Rattle.std.specs.Prelude.{◌≡◌, ◌≤◌, ℕ, ◌+◌, ◌-◌, ◌++◌, ◌∷◌, [], List, length, slice_index_or, slice_set, Option, Some, None}
use Rattle.model.specs.declared.types.operations.Answer.{Answer}
use Rattle.model.specs.declared.types.operations.Entry.{Entry}
use Rattle.model.specs.declared.types.operations.Op.{Op}
use Rattle.model.specs.declared.types.operations.Op.TheVariants.{Create, Write, Read, Trunc, Remove, Stat, SetAttribute}
use Rattle.model.specs.declared.types.operations.Reply.{Reply}
use Rattle.model.specs.Gathered.{GatheredBytes}
use Rattle.history.specs.Open.{told}
pub use Rattle.history.specs.World.{Entries}
use Rattle.model.specs.declared.types.operations.Reply.TheVariants.{Made, NoInode, Wrote, Bytes, Done, StatOf, NoFile, BadOffset, TooBig, TooLong, BadType}

-- the entry that comes into the journal with a turn, or with an answer at once
abbrev pub entry_of : ℕ → ℕ → Op → ℕ → Option Reply → Entry
entry_of p seq op group reply = record { pid = p; seq = seq; op = op; group = group; reply = reply }

abbrev pub reserved : Entries → Entries
reserved j = record { list = j.list; room = j.room + 1 }

abbrev pub journal_with : Entries → Entry → Entries
journal_with j e = record { list = j.list ++ e ∷ []; room = j.room - 1 }

abbrev pub no_entry : Entry
no_entry = record { pid = 0; seq = 0; op = Stat 0; group = 0; reply = None }

-- the entry at an index of the list
abbrev pub entry_in : List Entry → ℕ → Entry
entry_in es k = slice_index_or es k no_entry

-- the entry at an index has its reply
abbrev pub journal_told : Entries → ℕ → Reply → Entries
journal_told j k reply =
    record j { list = slice_set j.list k (told (entry_in j.list k) reply) }

-- a reply without bytes, which can be given once more without room for them
abbrev pub plain_reply : Option Reply → Option Reply
plain_reply None = None
plain_reply (Some (Made i)) = Some (Made i)
plain_reply (Some NoInode) = Some NoInode
plain_reply (Some (Wrote k)) = Some (Wrote k)
plain_reply (Some (Bytes bytes)) = None
plain_reply (Some Done) = Some Done
plain_reply (Some (StatOf kind links size)) = Some (StatOf kind links size)
plain_reply (Some NoFile) = Some NoFile
plain_reply (Some BadOffset) = Some BadOffset
plain_reply (Some TooBig) = Some TooBig
plain_reply (Some TooLong) = Some TooLong
plain_reply (Some BadType) = Some BadType

abbrev pub answer_with : Entry → Reply → Answer
answer_with e reply = record { seq = e.seq; reply = reply; group = e.group }

-- what its process gets back of an entry, once its reply is there
abbrev pub answer_of : Entry → Option Answer
answer_of e = option_map (answer_with e) e.reply

-- there is room for these bytes, and none are in it
abbrev pub HasRoom : Option GatheredBytes → List ℕ → Type 0
HasRoom None bytes = ⊥
HasRoom (Some g) bytes = (g.bytes ≡ []) × (length bytes ≤ g.room)

-- the bytes of a reply, if it has some, fit the room that was taken for them
abbrev pub FitsRoom : Option GatheredBytes → Reply → Type 0
FitsRoom room (Made i) = Unit {0}
FitsRoom room NoInode = Unit {0}
FitsRoom room (Wrote k) = Unit {0}
FitsRoom room (Bytes bytes) = HasRoom room bytes
FitsRoom room Done = Unit {0}
FitsRoom room (StatOf kind links size) = Unit {0}
FitsRoom room NoFile = Unit {0}
FitsRoom room BadOffset = Unit {0}
FitsRoom room TooBig = Unit {0}
FitsRoom room TooLong = Unit {0}
FitsRoom room BadType = Unit {0}

-- the room for the answer of an operation: a read has it for as many bytes as it asks for
abbrev pub IsItsRoom : Option Op → Option GatheredBytes → Type 0
IsItsRoom None room = Unit {0}
IsItsRoom (Some (Create kind)) room = Unit {0}
IsItsRoom (Some (Write i off bytes)) room = Unit {0}
IsItsRoom (Some (Read i off n)) room = room ≡ Some (record { bytes = []; room = n })
IsItsRoom (Some (Trunc i)) room = Unit {0}
IsItsRoom (Some (Remove i)) room = Unit {0}
IsItsRoom (Some (Stat i)) room = Unit {0}
IsItsRoom (Some (SetAttribute i attribute)) room = Unit {0}
