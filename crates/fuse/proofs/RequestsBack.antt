-- Requests that were written are read again.
use Rattle.std.proofs.Common.{◌≡◌, ◌∙◌, ℕ, ◌^◌, ◌+◌, ◌<◌, ◌≤◌, Bool, true, false, cond, List, [], ◌∷◌, ◌++◌, length, take, drop, replicate, Option, None, Some, refl, ap, ap₂, arith}
use Rattle.std.specs.Prelude.{option_map, nat_lt, ◌-◌}
use Rattle.std.proofs.lemmas.Bool.{cond-false, le-ltb}
use Rattle.std.proofs.lemmas.List.{length-append}
use Rattle.std.proofs.Math.Seq.{take-append_seam}
use Rattle.byteorder.specs.Endian.{little_bytes, little_number}
use Rattle.byteorder.specs.Numbers.{little_number-reads_back}
use Rattle.fuse.specs.declared.header.Header.{Header}
use Rattle.fuse.specs.declared.opcodes.TheConstants as opcodes
use Rattle.fuse.specs.Fields.{u32_at, u64_at}
use Rattle.fuse.specs.Requests as requests
use Rattle.fuse.specs.Requests.{Asked, behind, create_in, directory_in, header_in, init_in, link_in, lookup_in, make_directory_in, make_node_in, name_at, names_at, open_in, read_in, remove_directory_in, rename_by_flags_in, rename_in, request_in, set_attributes_in, unlink_in, write_in}
use Rattle.fuse.specs.Spellings.{body_of, ended, header_bytes, opcode_of, piece_bytes, rename_bytes}
use Rattle.fuse.specs.Laws.{IsAsked, IsHeader, IsLong, IsText, IsWord}
use Rattle.fuse.proofs.NamesBack.{name_read, names_read}

-- a number behind other fields
word_read : (body rest : List ℕ) (at n : ℕ) → drop at body ≡ little_bytes 4 n ++ rest → IsWord n → u32_at body at ≡ n
unfolding u32_at
word_read body rest at n is small = ap (little_number 4) is ∙ little_number-reads_back 4 n rest small

long_read : (body rest : List ℕ) (at n : ℕ) → drop at body ≡ little_bytes 8 n ++ rest → IsLong n → u64_at body at ≡ n
unfolding u64_at
long_read body rest at n is small = ap (little_number 8) is ∙ little_number-reads_back 8 n rest small

enough : (body : List ℕ) (count : ℕ) (asks : Option Asked) → count ≤ length body → behind body count asks ≡ asks
enough body count asks long = cond-false _ None asks (le-ltb (length body) count long)

-- a front of known length
long_by : (front rest : List ℕ) (count : ℕ) → length front ≡ count → count ≤ length (front ++ rest)
long_by front rest count is = omega (arith, length-append front rest, is)

same_header : (a b c d w x y z : ℕ) → a ≡ w → b ≡ x → c ≡ y → d ≡ z →
    let one : Header = record { length = a; opcode = b; unique = c; node = d } in
    let other : Header = record { length = w; opcode = x; unique = y; node = z } in
    one ≡ other
same_header a b c d w x y z p q r s = rw (p, q, r, s) refl

pub header_back : (h : Header) (rest : List ℕ) → IsHeader h → header_in (header_bytes h ++ rest) ≡ h
unfolding header_bytes
header_back h rest is =
    let bytes : List ℕ = header_bytes h ++ rest in
    let behind_node : List ℕ = replicate 16 0 ++ rest in
    let from_node : List ℕ = little_bytes 8 h.node ++ behind_node in
    let from_unique : List ℕ = little_bytes 8 h.unique ++ from_node in
    let from_opcode : List ℕ = little_bytes 4 h.opcode ++ from_unique in
    same_header (u32_at bytes 0) (u32_at bytes 4) (u64_at bytes 8) (u64_at bytes 16) h.length h.opcode h.unique h.node
    (word_read bytes from_opcode 0 h.length refl is.length) (word_read bytes from_unique 4 h.opcode refl is.opcode)
    (long_read bytes from_node 8 h.unique refl is.unique) (long_read bytes behind_node 16 h.node refl is.node)

-- ---- bodies of numbers alone

init_back : (a b c d : ℕ) (rest : List ℕ) → IsAsked (requests.Init a b c d) →
    init_in (body_of (requests.Init a b c d) rest) ≡ Some (requests.Init a b c d)
unfolding init_in body_of
init_back a b c d rest is =
    let from_d : List ℕ = little_bytes 4 d ++ rest in
    let from_c : List ℕ = little_bytes 4 c ++ from_d in
    let from_b : List ℕ = little_bytes 4 b ++ from_c in
    let body : List ℕ = little_bytes 4 a ++ from_b in
    enough body 16 (Some (requests.Init (u32_at body 0) (u32_at body 4) (u32_at body 8) (u32_at body 12)))
    (long_by (little_bytes 4 a ++ (little_bytes 4 b ++ (little_bytes 4 c ++ little_bytes 4 d))) rest 16 refl)
    ∙ rw (word_read body from_b 0 a refl is.0, word_read body from_c 4 b refl is.1, word_read body from_d 8 c refl is.2, word_read body rest 12 d refl is.3) refl

set_back : (v s c n m : ℕ) (rest : List ℕ) → IsAsked (requests.SetAttributes v s c n m) →
    set_attributes_in (body_of (requests.SetAttributes v s c n m) rest) ≡ Some (requests.SetAttributes v s c n m)
unfolding set_attributes_in body_of
set_back v s c n m rest is =
    let from_mode : List ℕ = replicate 16 0 ++ rest in
    let from_nanos : List ℕ = replicate 4 0 ++ (little_bytes 4 m ++ from_mode) in
    let from_changed : List ℕ = replicate 12 0 ++ (little_bytes 4 n ++ from_nanos) in
    let from_size : List ℕ = replicate 16 0 ++ (little_bytes 8 c ++ from_changed) in
    let from_valid : List ℕ = replicate 12 0 ++ (little_bytes 8 s ++ from_size) in
    let body : List ℕ = little_bytes 4 v ++ from_valid in
    let front : List ℕ = body_of (requests.SetAttributes v s c n m) [] in
    enough body 88 (Some (requests.SetAttributes (u32_at body 0) (u64_at body 16) (u64_at body 40) (u32_at body 60) (u32_at body 68)))
    (long_by front rest 88 refl)
    ∙ rw (
      word_read body from_valid 0 v refl is.0,
      long_read body from_size 16 s refl is.1,
      long_read body from_changed 40 c refl is.2,
      word_read body from_nanos 60 n refl is.3,
      word_read body from_mode 68 m refl is.4,
    ) refl

open_back : (flags : ℕ) (rest : List ℕ) → IsWord flags → open_in (body_of (requests.Open flags) rest) ≡ Some (requests.Open flags)
unfolding open_in body_of
open_back flags rest is =
    let body : List ℕ = little_bytes 4 flags ++ (replicate 4 0 ++ rest) in
    enough body 8 (Some (requests.Open (u32_at body 0))) (long_by (little_bytes 4 flags ++ replicate 4 0) rest 8 refl)
    ∙ ap (λ (n : ℕ). Some (requests.Open n)) (word_read body (replicate 4 0 ++ rest) 0 flags refl is)

-- ---- an offset and a size

module _ (offset size : ℕ) (rest : List ℕ) (is : IsLong offset × IsWord size) where
  piece_long : 40 ≤ length (piece_bytes offset size rest)
  piece_long = long_by (piece_bytes offset size []) rest 40 refl

  offset_is : u64_at (piece_bytes offset size rest) 8 ≡ offset
  offset_is = long_read (piece_bytes offset size rest) (little_bytes 4 size ++ (replicate 20 0 ++ rest)) 8 offset refl is.0

  size_is : u32_at (piece_bytes offset size rest) 16 ≡ size
  size_is = word_read (piece_bytes offset size rest) (replicate 20 0 ++ rest) 16 size refl is.1

  read_back : read_in (piece_bytes offset size rest) ≡ Some (requests.Read offset size)
  unfolding read_in
  read_back =
      let body : List ℕ = piece_bytes offset size rest in
      enough body 40 (Some (requests.Read (u64_at body 8) (u32_at body 16))) piece_long
      ∙ ap₂ (λ (a b : ℕ). Some (requests.Read a b)) offset_is size_is

  directory_back : (plus : Bool) → directory_in plus (piece_bytes offset size rest) ≡ Some (requests.ReadDirectory offset size plus)
  unfolding directory_in
  directory_back plus =
      let body : List ℕ = piece_bytes offset size rest in
      enough body 40 (Some (requests.ReadDirectory (u64_at body 8) (u32_at body 16) plus)) piece_long
      ∙ ap₂ (λ (a b : ℕ). Some (requests.ReadDirectory a b plus)) offset_is size_is

written_at : (offset size : ℕ) (bytes rest body : List ℕ) → size ≡ length bytes → drop 40 body ≡ bytes ++ rest → length body ≡ 40 + length (bytes ++ rest) →
    (cond (nat_lt (length body - 40) size) None (Some (requests.Write offset (take size (drop 40 body))))) ≡ Some (requests.Write offset bytes)
written_at offset size bytes rest body is at len =
    cond-false _ None (Some (requests.Write offset (take size (drop 40 body)))) (le-ltb (length body - 40) size (omega (arith, is, len, length-append bytes rest)))
    ∙ ap₂ (λ (n : ℕ) (l : List ℕ). Some (requests.Write offset (take n l))) is at
    ∙ ap (λ (l : List ℕ). Some (requests.Write offset l)) (take-append_seam bytes rest)

write_back : (offset : ℕ) (bytes rest : List ℕ) → IsAsked (requests.Write offset bytes) →
    write_in (body_of (requests.Write offset bytes) rest) ≡ Some (requests.Write offset bytes)
unfolding write_in body_of
write_back offset bytes rest is =
    let body : List ℕ = piece_bytes offset (length bytes) (bytes ++ rest) in
    let written : ℕ → ℕ → Option Asked = λ (n size : ℕ). cond (nat_lt (length body - 40) size) None (Some (requests.Write n (take size (drop 40 body)))) in
    enough body 40 (written (u64_at body 8) (u32_at body 16)) (piece_long offset (length bytes) (bytes ++ rest) is)
    ∙ ap₂ written (offset_is offset (length bytes) (bytes ++ rest) is) (size_is offset (length bytes) (bytes ++ rest) is)
    ∙ written_at offset (length bytes) bytes rest body refl refl (length-append (piece_bytes offset (length bytes) []) (bytes ++ rest))

-- ---- bodies with names

lookup_back : (name rest : List ℕ) → IsText name → lookup_in (ended name rest) ≡ Some (requests.Lookup name)
unfolding lookup_in
lookup_back name rest text =
    ap (λ (o : Option (List ℕ)). option_map requests.Lookup o) (name_read (ended name rest) name rest 0 (omega arith) refl text)

unlink_back : (name rest : List ℕ) → IsText name → unlink_in (ended name rest) ≡ Some (requests.Unlink name)
unfolding unlink_in
unlink_back name rest text =
    ap (λ (o : Option (List ℕ)). option_map requests.Unlink o) (name_read (ended name rest) name rest 0 (omega arith) refl text)

remove_directory_back : (name rest : List ℕ) → IsText name → remove_directory_in (ended name rest) ≡ Some (requests.RemoveDirectory name)
unfolding remove_directory_in
remove_directory_back name rest text =
    ap (λ (o : Option (List ℕ)). option_map requests.RemoveDirectory o) (name_read (ended name rest) name rest 0 (omega arith) refl text)

-- a number and a name
make_node_back : (mode : ℕ) (name rest : List ℕ) → IsAsked (requests.MakeNode mode name) →
    make_node_in (body_of (requests.MakeNode mode name) rest) ≡ Some (requests.MakeNode mode name)
unfolding make_node_in body_of
make_node_back mode name rest is =
    let behind_mode : List ℕ = replicate 12 0 ++ ended name rest in
    let body : List ℕ = little_bytes 4 mode ++ behind_mode in
    let long : 16 ≤ length body = long_by (little_bytes 4 mode ++ replicate 12 0) (ended name rest) 16 refl in
    let asks : ℕ → Option (List ℕ) → Option Asked = λ (n : ℕ) (o : Option (List ℕ)). option_map (λ (l : List ℕ). requests.MakeNode n l) o in
    enough body 16 (asks (u32_at body 0) (name_at body 16)) long
    ∙ ap₂ asks (word_read body behind_mode 0 mode refl is.0) (name_read body name rest 16 long refl is.1)

make_directory_back : (mode : ℕ) (name rest : List ℕ) → IsAsked (requests.MakeDirectory mode name) →
    make_directory_in (body_of (requests.MakeDirectory mode name) rest) ≡ Some (requests.MakeDirectory mode name)
unfolding make_directory_in body_of
make_directory_back mode name rest is =
    let behind_mode : List ℕ = replicate 4 0 ++ ended name rest in
    let body : List ℕ = little_bytes 4 mode ++ behind_mode in
    let long : 8 ≤ length body = long_by (little_bytes 4 mode ++ replicate 4 0) (ended name rest) 8 refl in
    let asks : ℕ → Option (List ℕ) → Option Asked = λ (n : ℕ) (o : Option (List ℕ)). option_map (λ (l : List ℕ). requests.MakeDirectory n l) o in
    enough body 8 (asks (u32_at body 0) (name_at body 8)) long
    ∙ ap₂ asks (word_read body behind_mode 0 mode refl is.0) (name_read body name rest 8 long refl is.1)

link_back : (node : ℕ) (name rest : List ℕ) → IsAsked (requests.Link node name) →
    link_in (body_of (requests.Link node name) rest) ≡ Some (requests.Link node name)
unfolding link_in body_of
link_back node name rest is =
    let body : List ℕ = little_bytes 8 node ++ ended name rest in
    let long : 8 ≤ length body = long_by (little_bytes 8 node) (ended name rest) 8 refl in
    let asks : ℕ → Option (List ℕ) → Option Asked = λ (n : ℕ) (o : Option (List ℕ)). option_map (λ (l : List ℕ). requests.Link n l) o in
    enough body 8 (asks (u64_at body 0) (name_at body 8)) long
    ∙ ap₂ asks (long_read body (ended name rest) 0 node refl is.0) (name_read body name rest 8 long refl is.1)

create_back : (flags mode : ℕ) (name rest : List ℕ) → IsAsked (requests.Create flags mode name) →
    create_in (body_of (requests.Create flags mode name) rest) ≡ Some (requests.Create flags mode name)
unfolding create_in body_of
create_back flags mode name rest is =
    let behind_mode : List ℕ = replicate 8 0 ++ ended name rest in
    let behind_flags : List ℕ = little_bytes 4 mode ++ behind_mode in
    let body : List ℕ = little_bytes 4 flags ++ behind_flags in
    let long : 16 ≤ length body = long_by (little_bytes 4 flags ++ (little_bytes 4 mode ++ replicate 8 0)) (ended name rest) 16 refl in
    let asks : ℕ → ℕ → Option (List ℕ) → Option Asked = λ (a b : ℕ) (o : Option (List ℕ)). option_map (λ (l : List ℕ). requests.Create a b l) o in
    enough body 16 (asks (u32_at body 0) (u32_at body 4) (name_at body 16)) long
    ∙ ap₂ (λ (a b : ℕ). asks a b (name_at body 16)) (word_read body behind_flags 0 flags refl is.0) (word_read body behind_mode 4 mode refl is.1)
    ∙ ap (asks flags mode) (name_read body name rest 16 long refl is.2)

-- a number, flags and two names
rename_by_flags_back : (to flags : ℕ) (old name rest : List ℕ) → IsAsked (requests.Rename to flags old name) →
    rename_by_flags_in (body_of (requests.Rename to flags old name) rest) ≡ Some (requests.Rename to flags old name)
unfolding rename_by_flags_in body_of
rename_by_flags_back to flags old name rest is =
    let both : List ℕ = ended old (ended name rest) in
    let behind_flags : List ℕ = replicate 4 0 ++ both in
    let behind_to : List ℕ = little_bytes 4 flags ++ behind_flags in
    let body : List ℕ = little_bytes 8 to ++ behind_to in
    let long : 16 ≤ length body = long_by (little_bytes 8 to ++ (little_bytes 4 flags ++ replicate 4 0)) both 16 refl in
    let asks : ℕ → ℕ → Option (List ℕ × List ℕ) → Option Asked =
    λ (a b : ℕ) (o : Option (List ℕ × List ℕ)). option_map (λ (l : List ℕ × List ℕ). requests.Rename a b l.0 l.1) o in
    enough body 16 (asks (u64_at body 0) (u32_at body 8) (names_at body 16)) long
    ∙ ap₂ (λ (a b : ℕ). asks a b (names_at body 16)) (long_read body behind_to 0 to refl is.0) (word_read body behind_flags 8 flags refl is.1)
    ∙ ap (asks to flags) (names_read body old name rest 16 long refl is.2 is.3)

rename_in_back : (to : ℕ) (old name rest : List ℕ) → IsLong to → IsText old → IsText name →
    rename_in (rename_bytes to old name rest) ≡ Some (requests.Rename to 0 old name)
unfolding rename_in rename_bytes
rename_in_back to old name rest small first second =
    let both : List ℕ = ended old (ended name rest) in
    let body : List ℕ = little_bytes 8 to ++ both in
    let long : 8 ≤ length body = long_by (little_bytes 8 to) both 8 refl in
    let asks : ℕ → Option (List ℕ × List ℕ) → Option Asked =
    λ (a : ℕ) (o : Option (List ℕ × List ℕ)). option_map (λ (l : List ℕ × List ℕ). requests.Rename a 0 l.0 l.1) o in
    enough body 8 (asks (u64_at body 0) (names_at body 8)) long
    ∙ ap₂ asks (long_read body both 0 to refl small) (names_read body old name rest 8 long refl first second)

-- ---- any of them

pub rename_back : (to : ℕ) (old name rest : List ℕ) → IsLong to → IsText old → IsText name →
    request_in opcodes.RENAME (rename_bytes to old name rest) ≡ Some (requests.Rename to 0 old name)
unfolding request_in
rename_back to old name rest small first second = rename_in_back to old name rest small first second

pub request_back : (request : Asked) (rest : List ℕ) → IsAsked request → request_in (opcode_of request) (body_of request rest) ≡ Some request
unfolding request_in body_of
request_back (requests.Init a b c d) rest is = init_back a b c d rest is
request_back requests.Destroy rest is = refl
request_back requests.Unanswered rest is = refl
request_back (requests.Lookup name) rest is = lookup_back name rest is
request_back requests.GetAttributes rest is = refl
request_back (requests.SetAttributes v s c n m) rest is = set_back v s c n m rest is
request_back (requests.MakeNode mode name) rest is = make_node_back mode name rest is
request_back (requests.MakeDirectory mode name) rest is = make_directory_back mode name rest is
request_back (requests.Unlink name) rest is = unlink_back name rest is
request_back (requests.RemoveDirectory name) rest is = remove_directory_back name rest is
request_back (requests.Rename to flags old name) rest is = rename_by_flags_back to flags old name rest is
request_back (requests.Link node name) rest is = link_back node name rest is
request_back (requests.Open flags) rest is = open_back flags rest is
request_back (requests.Create flags mode name) rest is = create_back flags mode name rest is
request_back (requests.Read offset size) rest is = read_back offset size rest is
request_back (requests.Write offset bytes) rest is = write_back offset bytes rest is
request_back requests.StatFs rest is = refl
request_back requests.Flush rest is = refl
request_back requests.Sync rest is = refl
request_back requests.Release rest is = refl
request_back requests.OpenDirectory rest is = refl
request_back (requests.ReadDirectory offset size false) rest is = directory_back offset size rest is false
request_back (requests.ReadDirectory offset size true) rest is = directory_back offset size rest is true
request_back requests.ReleaseDirectory rest is = refl
request_back requests.Access rest is = refl
request_back requests.Other rest is = refl
