-- The bytes of requests. What we don't read of them is 0 here.
use Rattle.std.specs.Prelude.{◌≢◌, ℕ, ◌^◌, ◌<◌, Bool, true, false, List, [], ◌∷◌, ◌++◌, length, replicate}
use Rattle.byteorder.specs.Endian.{little_bytes}
use Rattle.fuse.specs.declared.header.Header.{Header}
use Rattle.fuse.specs.declared.opcodes.TheConstants as opcodes
use Rattle.fuse.specs.Requests as requests
use Rattle.fuse.specs.Requests.{Asked}

-- the header of a request
unfoldable pub header_bytes : Header → List ℕ
header_bytes h =
    little_bytes 4 h.length ++ (little_bytes 4 h.opcode ++ (little_bytes 8 h.unique
    ++ (little_bytes 8 h.node ++ replicate 16 0)))

-- a name, and the zero byte at its end, before the bytes behind it
abbrev pub ended : List ℕ → List ℕ → List ℕ
ended name rest = name ++ 0 ∷ rest

-- the number of a request; of those that are read alike, the first one
abbrev pub opcode_of : Asked → ℕ
opcode_of (requests.Init major minor readahead flags) = opcodes.INIT
opcode_of requests.Destroy = opcodes.DESTROY
opcode_of requests.Unanswered = opcodes.FORGET
opcode_of (requests.Lookup name) = opcodes.LOOKUP
opcode_of requests.GetAttributes = opcodes.GETATTR
opcode_of (requests.SetAttributes valid size changed nanos mode) = opcodes.SETATTR
opcode_of (requests.MakeNode mode name) = opcodes.MKNOD
opcode_of (requests.MakeDirectory mode name) = opcodes.MKDIR
opcode_of (requests.Unlink name) = opcodes.UNLINK
opcode_of (requests.RemoveDirectory name) = opcodes.RMDIR
opcode_of (requests.Rename to flags old name) = opcodes.RENAME2
opcode_of (requests.Link node name) = opcodes.LINK
opcode_of (requests.Open flags) = opcodes.OPEN
opcode_of (requests.Create flags mode name) = opcodes.CREATE
opcode_of (requests.Read offset size) = opcodes.READ
opcode_of (requests.Write offset bytes) = opcodes.WRITE
opcode_of requests.StatFs = opcodes.STATFS
opcode_of requests.Flush = opcodes.FLUSH
opcode_of requests.Sync = opcodes.FSYNC
opcode_of requests.Release = opcodes.RELEASE
opcode_of requests.OpenDirectory = opcodes.OPENDIR
opcode_of (requests.ReadDirectory offset size false) = opcodes.READDIR
opcode_of (requests.ReadDirectory offset size true) = opcodes.READDIRPLUS
opcode_of requests.ReleaseDirectory = opcodes.RELEASEDIR
opcode_of requests.Access = opcodes.ACCESS
opcode_of requests.Other = 0

-- a handle of 0, an offset and a size, and zeroes up to 40 bytes
abbrev pub piece_bytes : ℕ → ℕ → List ℕ → List ℕ
piece_bytes offset size rest =
    replicate 8 0 ++ (little_bytes 8 offset ++ (little_bytes 4 size ++ (replicate 20 0 ++ rest)))

-- the body of a request, before the bytes behind it
unfoldable pub body_of : Asked → List ℕ → List ℕ
body_of (requests.Init major minor readahead flags) rest =
    little_bytes 4 major ++ (little_bytes 4 minor ++ (little_bytes 4 readahead
    ++ (little_bytes 4 flags ++ rest)))
body_of requests.Destroy rest = rest
body_of requests.Unanswered rest = rest
body_of (requests.Lookup name) rest = ended name rest
body_of requests.GetAttributes rest = rest
body_of (requests.SetAttributes valid size changed nanos mode) rest =
    little_bytes 4 valid ++ (replicate 12 0 ++ (little_bytes 8 size ++ (replicate 16 0
    ++ (little_bytes 8 changed ++ (replicate 12 0 ++ (little_bytes 4 nanos ++ (replicate 4 0
    ++ (little_bytes 4 mode ++ (replicate 16 0 ++ rest)))))))))
body_of (requests.MakeNode mode name) rest =
    little_bytes 4 mode ++ (replicate 12 0 ++ ended name rest)
body_of (requests.MakeDirectory mode name) rest =
    little_bytes 4 mode ++ (replicate 4 0 ++ ended name rest)
body_of (requests.Unlink name) rest = ended name rest
body_of (requests.RemoveDirectory name) rest = ended name rest
body_of (requests.Rename to flags old name) rest =
    little_bytes 8 to ++ (little_bytes 4 flags ++ (replicate 4 0 ++ ended old (ended name rest)))
body_of (requests.Link node name) rest = little_bytes 8 node ++ ended name rest
body_of (requests.Open flags) rest = little_bytes 4 flags ++ (replicate 4 0 ++ rest)
body_of (requests.Create flags mode name) rest =
    little_bytes 4 flags ++ (little_bytes 4 mode ++ (replicate 8 0 ++ ended name rest))
body_of (requests.Read offset size) rest = piece_bytes offset size rest
body_of (requests.Write offset bytes) rest = piece_bytes offset (length bytes) (bytes ++ rest)
body_of requests.StatFs rest = rest
body_of requests.Flush rest = rest
body_of requests.Sync rest = rest
body_of requests.Release rest = rest
body_of requests.OpenDirectory rest = rest
body_of (requests.ReadDirectory offset size plus) rest = piece_bytes offset size rest
body_of requests.ReleaseDirectory rest = rest
body_of requests.Access rest = rest
body_of requests.Other rest = rest

-- the body of a rename of the older kind
unfoldable pub rename_bytes : ℕ → List ℕ → List ℕ → List ℕ → List ℕ
rename_bytes to old name rest = little_bytes 8 to ++ ended old (ended name rest)
