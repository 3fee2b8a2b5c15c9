-- What was written is read again.
use Rattle.std.specs.Prelude.{◌≡◌, ◌≢◌, ⊤, ℕ, ◌^◌, ◌<◌, List, [], ◌∷◌, ◌++◌, length, Some}
use Rattle.fuse.specs.declared.header.Header.{Header}
use Rattle.fuse.specs.declared.opcodes.TheConstants as opcodes
use Rattle.fuse.specs.Requests as requests
use Rattle.fuse.specs.Requests.{Asked, header_in, request_in}
use Rattle.fuse.specs.Spellings.{body_of, header_bytes, opcode_of, rename_bytes}

-- the fields of a header fit theirs
pub record IsHeader (h : Header) : Type 0 where
  pub length : h.length < 2 ^ 32
  pub opcode : h.opcode < 2 ^ 32
  pub unique : h.unique < 2 ^ 64
  pub node : h.node < 2 ^ 64

-- a header has the fields that were written, whatever stands behind it
abbrev pub HeaderReadsBack : Type 0
HeaderReadsBack = (h : Header) (rest : List ℕ) → IsHeader h → header_in (header_bytes h ++ rest) ≡ h

-- a name with no zero byte
abbrev pub IsText : List ℕ → Type 0
IsText [] = ⊤
IsText (byte ∷ bytes) = (byte ≢ 0) × IsText bytes

abbrev pub IsWord : ℕ → Type 0
IsWord n = n < 2 ^ 32

abbrev pub IsLong : ℕ → Type 0
IsLong n = n < 2 ^ 64

-- its numbers fit their fields, and its names have no zero byte
abbrev pub IsAsked : Asked → Type 0
IsAsked (requests.Init major minor readahead flags) =
    IsWord major × IsWord minor × IsWord readahead × IsWord flags
IsAsked (requests.Lookup name) = IsText name
IsAsked (requests.SetAttributes valid size changed nanos mode) =
    IsWord valid × IsLong size × IsLong changed × IsWord nanos × IsWord mode
IsAsked (requests.MakeNode mode name) = IsWord mode × IsText name
IsAsked (requests.MakeDirectory mode name) = IsWord mode × IsText name
IsAsked (requests.Unlink name) = IsText name
IsAsked (requests.RemoveDirectory name) = IsText name
IsAsked (requests.Rename to flags old name) = IsLong to × IsWord flags × IsText old × IsText name
IsAsked (requests.Link node name) = IsLong node × IsText name
IsAsked (requests.Open flags) = IsWord flags
IsAsked (requests.Create flags mode name) = IsWord flags × IsWord mode × IsText name
IsAsked (requests.Read offset size) = IsLong offset × IsWord size
IsAsked (requests.Write offset bytes) = IsLong offset × IsWord (length bytes)
IsAsked (requests.ReadDirectory offset size plus) = IsLong offset × IsWord size
IsAsked request = ⊤

-- a request is the one that was written, whatever stands behind it
abbrev pub RequestReadsBack : Type 0
RequestReadsBack = (request : Asked) (rest : List ℕ) → IsAsked request →
    request_in (opcode_of request) (body_of request rest) ≡ Some request

-- so is a rename of the older kind
abbrev pub RenameReadsBack : Type 0
RenameReadsBack = (to : ℕ) (old name rest : List ℕ) → IsLong to → IsText old → IsText name →
    request_in opcodes.RENAME (rename_bytes to old name rest) ≡ Some (requests.Rename to 0 old name)
