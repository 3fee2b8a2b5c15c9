-- Requests in their bytes.
use Rattle.std.specs.Prelude.{ℕ, ◌+◌, ◌-◌, ◌==◌, ◌||◌, nat_lt, if◌then◌else◌, Bool, true, false, List, length, take, drop, position, Option, Some, None, option_map}
use Rattle.fuse.specs.declared.header.Header.{Header}
use Rattle.fuse.specs.declared.request.Request.{Request}
use Rattle.fuse.specs.declared.request.Request.TheVariants as requests
use Rattle.fuse.specs.declared.opcodes.TheConstants as opcodes
use Rattle.fuse.specs.Fields.{u32_at, u64_at}

-- the header of a request
abbrev pub header_in : List ℕ → Header
header_in bytes = record {
  length = u32_at bytes 0;
  opcode = u32_at bytes 4;
  unique = u64_at bytes 8;
  node = u64_at bytes 16;
}

-- what a request asks, apart from where its bytes lie in memory
pub data Asked : Type 0 where
  Init : (major minor readahead flags : ℕ) → Asked
  Destroy : Asked
  Unanswered : Asked
  Lookup : (name : List ℕ) → Asked
  GetAttributes : Asked
  SetAttributes : (valid size changed changed_nanoseconds mode : ℕ) → Asked
  MakeNode : (mode : ℕ) (name : List ℕ) → Asked
  MakeDirectory : (mode : ℕ) (name : List ℕ) → Asked
  Unlink : (name : List ℕ) → Asked
  RemoveDirectory : (name : List ℕ) → Asked
  Rename : (to flags : ℕ) (old name : List ℕ) → Asked
  Link : (node : ℕ) (name : List ℕ) → Asked
  Open : (flags : ℕ) → Asked
  Create : (flags mode : ℕ) (name : List ℕ) → Asked
  Read : (offset size : ℕ) → Asked
  Write : (offset : ℕ) (bytes : List ℕ) → Asked
  StatFs : Asked
  Flush : Asked
  Sync : Asked
  Release : Asked
  OpenDirectory : Asked
  ReadDirectory : (offset size : ℕ) (plus : Bool) → Asked
  ReleaseDirectory : Asked
  Access : Asked
  Other : Asked

abbrev pub asked : Request → Asked
asked (requests.Init major minor readahead flags) = Init major minor readahead flags
asked requests.Destroy = Destroy
asked requests.Unanswered = Unanswered
asked (requests.Lookup name) = Lookup name.now
asked requests.GetAttributes = GetAttributes
asked (requests.SetAttributes valid size changed nanos mode) =
    SetAttributes valid size changed nanos mode
asked (requests.MakeNode mode name) = MakeNode mode name.now
asked (requests.MakeDirectory mode name) = MakeDirectory mode name.now
asked (requests.Unlink name) = Unlink name.now
asked (requests.RemoveDirectory name) = RemoveDirectory name.now
asked (requests.Rename to flags old name) = Rename to flags old.now name.now
asked (requests.Link node name) = Link node name.now
asked (requests.Open flags) = Open flags
asked (requests.Create flags mode name) = Create flags mode name.now
asked (requests.Read offset size) = Read offset size
asked (requests.Write offset bytes) = Write offset bytes.now
asked requests.StatFs = StatFs
asked requests.Flush = Flush
asked requests.Sync = Sync
asked requests.Release = Release
asked requests.OpenDirectory = OpenDirectory
asked (requests.ReadDirectory offset size plus) = ReadDirectory offset size plus
asked requests.ReleaseDirectory = ReleaseDirectory
asked requests.Access = Access
asked requests.Other = Other

abbrev pub shown : Option Request → Option Asked
shown request = option_map asked request

-- a name, which the first zero byte ends, and what stands behind that
unfoldable pub name_and_rest : List ℕ → Option (List ℕ × List ℕ)
name_and_rest bytes =
    option_map (λ end. (take end bytes, drop (end + 1) bytes)) (position (λ byte. byte == 0) bytes)

-- the name from a place on
unfoldable pub name_at : List ℕ → ℕ → Option (List ℕ)
name_at body at =
    if nat_lt (length body) at then None
    else option_map (λ both. both.0) (name_and_rest (drop at body))

-- what stands behind one of two names
abbrev pub second_of : Option (List ℕ × List ℕ) → Option (List ℕ × List ℕ)
second_of None = None
second_of (Some first) = option_map (λ both. (first.0, both.0)) (name_and_rest first.1)

-- the two names from a place on
unfoldable pub names_at : List ℕ → ℕ → Option (List ℕ × List ℕ)
names_at body at =
    if nat_lt (length body) at then None else second_of (name_and_rest (drop at body))

-- what is read where there are so many bytes
abbrev pub behind : List ℕ → ℕ → Option Asked → Option Asked
behind body count asks = if nat_lt (length body) count then None else asks

-- the bodies; each is told by its fields, with the places where they stand
unfoldable pub init_in : List ℕ → Option Asked
init_in body =
    behind body 16 (Some (Init (u32_at body 0) (u32_at body 4) (u32_at body 8) (u32_at body 12)))

unfoldable pub lookup_in : List ℕ → Option Asked
lookup_in body = option_map Lookup (name_at body 0)

unfoldable pub unlink_in : List ℕ → Option Asked
unlink_in body = option_map Unlink (name_at body 0)

unfoldable pub remove_directory_in : List ℕ → Option Asked
remove_directory_in body = option_map RemoveDirectory (name_at body 0)

unfoldable pub set_attributes_in : List ℕ → Option Asked
set_attributes_in body =
    behind body 88 (Some (SetAttributes (u32_at body 0) (u64_at body 16) (u64_at body 40)
    (u32_at body 60) (u32_at body 68)))

unfoldable pub make_node_in : List ℕ → Option Asked
make_node_in body =
    behind body 16 (option_map (λ name. MakeNode (u32_at body 0) name) (name_at body 16))

unfoldable pub make_directory_in : List ℕ → Option Asked
make_directory_in body =
    behind body 8 (option_map (λ name. MakeDirectory (u32_at body 0) name) (name_at body 8))

unfoldable pub rename_in : List ℕ → Option Asked
rename_in body =
    behind body 8 (option_map (λ both. Rename (u64_at body 0) 0 both.0 both.1) (names_at body 8))

unfoldable pub rename_by_flags_in : List ℕ → Option Asked
rename_by_flags_in body =
    behind body 16 (option_map (λ both. Rename (u64_at body 0) (u32_at body 8) both.0 both.1)
    (names_at body 16))

unfoldable pub link_in : List ℕ → Option Asked
link_in body = behind body 8 (option_map (λ name. Link (u64_at body 0) name) (name_at body 8))

unfoldable pub open_in : List ℕ → Option Asked
open_in body = behind body 8 (Some (Open (u32_at body 0)))

unfoldable pub create_in : List ℕ → Option Asked
create_in body =
    behind body 16 (option_map (λ name. Create (u32_at body 0) (u32_at body 4) name)
    (name_at body 16))

unfoldable pub read_in : List ℕ → Option Asked
read_in body = behind body 40 (Some (Read (u64_at body 8) (u32_at body 16)))

unfoldable pub directory_in : Bool → List ℕ → Option Asked
directory_in plus body = behind body 40 (Some (ReadDirectory (u64_at body 8) (u32_at body 16) plus))

unfoldable pub write_in : List ℕ → Option Asked
write_in body =
    behind body 40 (if nat_lt (length body - 40) (u32_at body 16) then None
    else Some (Write (u64_at body 8) (take (u32_at body 16) (drop 40 body))))

-- a request of that number wants no answer
abbrev pub wants_none : ℕ → Bool
wants_none opcode = opcode == opcodes.FORGET
    || (opcode == opcodes.INTERRUPT || opcode == opcodes.BATCH_FORGET)

-- the request of that number in the bytes behind its header
unfoldable pub request_in : ℕ → List ℕ → Option Asked
request_in opcode body =
    if opcode == opcodes.LOOKUP then lookup_in body
    else if wants_none opcode then Some Unanswered
    else if opcode == opcodes.GETATTR then Some GetAttributes
    else if opcode == opcodes.SETATTR then set_attributes_in body
    else if opcode == opcodes.MKNOD then make_node_in body
    else if opcode == opcodes.MKDIR then make_directory_in body
    else if opcode == opcodes.UNLINK then unlink_in body
    else if opcode == opcodes.RMDIR then remove_directory_in body
    else if opcode == opcodes.RENAME then rename_in body
    else if opcode == opcodes.RENAME2 then rename_by_flags_in body
    else if opcode == opcodes.LINK then link_in body
    else if opcode == opcodes.OPEN then open_in body
    else if opcode == opcodes.READ then read_in body
    else if opcode == opcodes.WRITE then write_in body
    else if opcode == opcodes.STATFS then Some StatFs
    else if opcode == opcodes.RELEASE then Some Release
    else if opcode == opcodes.FSYNC || (opcode == opcodes.FSYNCDIR || opcode == opcodes.SYNCFS)
    then Some Sync
    else if opcode == opcodes.FLUSH then Some Flush
    else if opcode == opcodes.INIT then init_in body
    else if opcode == opcodes.OPENDIR then Some OpenDirectory
    else if opcode == opcodes.READDIR then directory_in false body
    else if opcode == opcodes.READDIRPLUS then directory_in true body
    else if opcode == opcodes.RELEASEDIR then Some ReleaseDirectory
    else if opcode == opcodes.ACCESS then Some Access
    else if opcode == opcodes.CREATE then create_in body
    else if opcode == opcodes.DESTROY then Some Destroy
    else Some Other
