-- Runs of operations: the journal and what of it is kept.
use Rattle.std.specs.Prelude.{ℕ, ◌==◌, ◌&&◌, ◌||◌, not, nat_lt, nat_le, is_some, Bool, false, List, [], ◌∷◌, length, Option, Some, None}
use Rattle.std.specs.List.{filter}
use Rattle.model.specs.declared.types.image.Form.{Form}
use Rattle.model.specs.declared.types.operations.Op.{Op}
use Rattle.model.specs.declared.types.operations.Op.TheVariants.{Create, Write, Read, Trunc, Remove, Stat, SetAttribute}
use Rattle.model.specs.declared.types.operations.Reply.{Reply}
use Rattle.model.specs.declared.types.operations.Reply.TheVariants.{Made}
use Rattle.model.specs.declared.types.operations.Entry.{Entry}
use Rattle.model.specs.Files.{Files}
use Rattle.model.specs.Operations.{after, is_kind, transfer_limit}

-- the next of a chain of files, where the last one gave some
abbrev pub and_then : {A B : Type 0} → Option A → (A → Option B) → Option B
and_then None f = None
and_then (Some a) f = f a

-- the files after one entry; None where it has no reply
abbrev pub after_answer : Form → Files → Op → Option Reply → Option Files
after_answer form files op None = None
after_answer form files op (Some reply) = after form files op reply

-- the files after one entry and then the next; None where one of them can't be
abbrev pub replay : Form → Files → List Entry → Option Files
replay form files [] = Some files
replay form files (e ∷ es) = and_then (after_answer form files e.op e.reply) (λ f. replay form f es)

-- the entries that have a reply
abbrev pub answered : List Entry → List Entry
answered entries = filter (λ e. is_some e.reply) entries

-- an inode number that operations may name
abbrev pub is_number : ℕ → ℕ → Bool
is_number inode_count i = nat_lt 0 i && nat_lt i inode_count

-- an operation that is answered in its beginning step, by itself alone
abbrev pub is_at_once : ℕ → Op → Bool
is_at_once inode_count (Create kind) = not (is_kind kind)
is_at_once inode_count (Write i off bytes) =
    nat_lt transfer_limit (length bytes) || not (is_number inode_count i)
is_at_once inode_count (Read i off n) = nat_lt transfer_limit n || not (is_number inode_count i)
is_at_once inode_count (Trunc i) = not (is_number inode_count i)
is_at_once inode_count (Remove i) = not (is_number inode_count i)
is_at_once inode_count (Stat i) = not (is_number inode_count i)
is_at_once inode_count (SetAttribute i attribute) = not (is_number inode_count i)

-- operations that may change a file and are not answered at once
abbrev pub is_changing : ℕ → Op → Bool
is_changing count (Create kind) = is_kind kind
is_changing count (Write i off bytes) = nat_le (length bytes) transfer_limit && is_number count i
is_changing count (Read i off n) = false
is_changing count (Trunc i) = is_number count i
is_changing count (Remove i) = is_number count i
is_changing count (Stat i) = false
is_changing count (SetAttribute i a) = is_number count i

-- the entries of a process
abbrev pub own : ℕ → List Entry → List Entry
own pid entries = filter (λ e. e.pid == pid) entries

-- the changing entries of the groups up to c
abbrev pub kept : ℕ → List Entry → ℕ → List Entry
kept inode_count entries c = filter (λ e. is_changing inode_count e.op && nat_le e.group c) entries

-- an operation that made number i
abbrev pub is_making : ℕ → Option Reply → Bool
is_making i (Some (Made j)) = i == j
is_making i other = false
