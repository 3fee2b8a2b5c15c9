-- Files that have the first of some bytes, compared piece by piece.
use Rattle.std.proofs.Common.{◌≡◌, ◌≢◌, ◌∙◌, ℕ, ◌+◌, ◌-◌, ◌<◌, ◌≤◌, List, [], ◌∷◌, ◌++◌, length, take, drop, true, false, eqb, leb, ap, ap₂, refl, subst, sym, arith}
use Rattle.std.proofs.Math.Seq.{take-add}
use Rattle.std.proofs.lemmas.Bool.{and_parts, eqb-true, false_from_ne_true, ne_eqb}
use Rattle.std.proofs.lemmas.List.{take-take, take_all}
use Rattle.std.proofs.lemmas.Slice.Eq.{bytes_eq-Decides}
use Rattle.std.specs.Prelude.{slice_range}
use Rattle.std.specs.Str.{bytes_eq}
use Rattle.blocks.specs.Disk.{Image, IsImage}
use Rattle.model.specs.Files.{bytes_in}
use Rattle.model.specs.Layout.{inode_count_of, inode_of}
use Rattle.model.specs.Log.{recovered}
use Rattle.model.specs.Operations.{part_of}
use Rattle.model.specs.declared.types.image.Dinode.{Dinode}
use Rattle.model.specs.declared.types.image.Super.{Super}
use Rattle.offline.specs.Laws.{CheckedFilesMayBeRead}
use Rattle.offline.specs.Recovered.{MayReadFile}
use Rattle.offline.specs.declared.recovered.Recovered.{Recovered}
use Rattle.second_lines.specs.Beginnings.{beginning_at, beginning_of, may_begin}
use Rattle.offline.specs.Checked.{IsCheckedOf}

-- ---- piece by piece

wanted : (bytes : List ℕ) (at count : ℕ) → slice_range bytes at (at + count) ≡ part_of bytes at count
wanted bytes at count =
    let n : at + count - at ≡ count = omega arith in
    ap (λ (k : ℕ). take k (drop at bytes)) n

-- one piece more is the same
pub piece_same : (all bytes read : List ℕ) (at count : ℕ) → read ≡ part_of all at count → bytes_eq read (slice_range bytes at (at + count)) ≡ true → take at all ≡ take at bytes → take (at + count) all ≡ take (at + count) bytes
piece_same all bytes read at count is same before =
    let piece : part_of all at count ≡ part_of bytes at count = sym is ∙ (bytes_eq-Decides read (slice_range bytes at (at + count))).0 same ∙ wanted bytes at count in
    take-add at count all ∙ ap₂ (λ (a b : List ℕ). a ++ b) before piece ∙ sym (take-add at count bytes)

-- one differs
pub piece_differs : (all bytes read : List ℕ) (at count : ℕ) → read ≡ part_of all at count → bytes_eq read (slice_range bytes at (at + count)) ≡ false → false ≡ bytes_eq all bytes
piece_differs all bytes read at count is differs =
    sym (false_from_ne_true (bytes_eq all bytes) (λ same.
    let piece : read ≡ slice_range bytes at (at + count) = is ∙ ap (λ (l : List ℕ). part_of l at count) ((bytes_eq-Decides all bytes).0 same) ∙ sym (wanted bytes at count) in
    let too : bytes_eq read (slice_range bytes at (at + count)) ≡ true = (bytes_eq-Decides read (slice_range bytes at (at + count))).1 piece in
    absurd (cc (too, differs))))

-- none differs
pub all_same : (y : Image) (d : Dinode) (bytes : List ℕ) (at : ℕ) → at ≡ d.size → length bytes ≡ d.size → take at (bytes_in y d) ≡ take at bytes → true ≡ bytes_eq (bytes_in y d) bytes
unfolding bytes_in
all_same y d bytes at end size same =
    let whole : take at (bytes_in y d) ≡ bytes_in y d = ap (λ (n : ℕ). take n (bytes_in y d)) end ∙ take-take d.size d.size _ (omega arith) in
    let all : take at bytes ≡ bytes = take_all at bytes (omega (arith, end, size)) in
    sym ((bytes_eq-Decides (bytes_in y d) bytes).1 (sym whole ∙ same ∙ all))

-- ---- the file of an inode

-- it may be read
pub may_read_at : (x z : Image) (image : Recovered) (i n : ℕ) (d : Dinode) → IsImage x → CheckedFilesMayBeRead → IsCheckedOf x image → 1 ≤ i → i < image.sup.ninodes → d ≡ inode_of (recovered x) i → may_begin d n ≡ true → z ≡ x → MayReadFile (recovered z) d
unfolding may_begin
may_read_at x z image i n d is_image law is some low here begins same =
    let plain : d.kind ≡ 2 = eqb-true d.kind 2 (and_parts (eqb d.kind 2) (leb d.size n) begins).0 in
    let known : image.sup.ninodes ≡ inode_count_of x = ap (λ (s : Super). s.ninodes) is.recovered.sup in
    let used : (inode_of (recovered x) i).kind ≢ 0 = λ free. let zero : d.kind ≡ 0 = ap (λ (e : Dinode). e.kind) here ∙ free in absurd (omega (arith, plain, zero)) in
    subst (λ (y : Image). MayReadFile (recovered y) d) (sym same)
    (subst (MayReadFile (recovered x)) (sym here) (law x i is_image is.sound some (omega (arith, known, low)) used))

pub none_begun : (y : Image) (bytes : List ℕ) (d : Dinode) → may_begin d (length bytes) ≡ false → 0 ≡ beginning_of y bytes d
unfolding beginning_of
none_begun y bytes d none = rw none refl

pub begun : (y : Image) (bytes : List ℕ) (d : Dinode) → may_begin d (length bytes) ≡ true → true ≡ bytes_eq (bytes_in y d) (take d.size bytes) → d.size ≡ beginning_of y bytes d
unfolding beginning_of
begun y bytes d may begins = rw (may, ← begins) refl

pub not_begun : (y : Image) (bytes : List ℕ) (d : Dinode) → may_begin d (length bytes) ≡ true → false ≡ bytes_eq (bytes_in y d) (take d.size bytes) → 0 ≡ beginning_of y bytes d
unfolding beginning_of
not_begun y bytes d may other = rw (may, ← other) refl

-- ---- the files of an image

pub none_at : (y : Image) (bytes : List ℕ) (i n : ℕ) → n ≡ beginning_of y bytes (inode_of y i) → n ≡ 0 → beginning_at y bytes i ≡ []
none_at y bytes i n is zero =
    let none : beginning_of y bytes (inode_of y i) ≡ 0 = sym is ∙ zero in
    rw none refl

pub one_at : (y : Image) (bytes : List ℕ) (i n : ℕ) → n ≡ beginning_of y bytes (inode_of y i) → n ≢ 0 → beginning_at y bytes i ≡ record { number = i; size = n } ∷ []
one_at y bytes i n is some =
    let more : beginning_of y bytes (inode_of y i) ≢ 0 = λ z. some (is ∙ z) in
    rw (is, ne_eqb (beginning_of y bytes (inode_of y i)) 0 more) refl
