-- The bytes of a file, read part by part.
use Rattle.std.proofs.Common.{[], refl, leb, ◌≡◌, ◌≢◌, ◌∙◌, ℕ, Bool, false, eqb, ◌+◌, ◌<◌, ◌≤◌, List, length, take, drop, ◌++◌, sym, ap, subst, arith}
use Rattle.std.specs.Prelude.{min, Result, Ok, Err}
use Rattle.std.proofs.lemmas.Bool.{and_parts, both_ways, eq-eqb, leb-true}
use Rattle.std.proofs.lemmas.List.{append_assoc, drop-append-le, drop-drop, drop-take, drop_all, length-append, length-drop, length-take, places, same_lists, take-append-le, take-take, take_all, take_at}
use Rattle.blocks.specs.Block.{overwritten}
use Rattle.directories.specs.Trees.{bytes_of}
use Rattle.model.specs.declared.types.image.Form.{Form}
use Rattle.model.specs.Files.{Files, file_in}
use Rattle.model.specs.Operations.{part_of}
use Rattle.mounting.specs.Changes.{wrote_count, StandsAt}
use Rattle.mounting.proofs.FileEnds.{set_in}
use Rattle.names.specs.declared.writing.Unwritten.{Unwritten}
use Rattle.names.specs.Contents.{ReadsOf}
use Rattle.names.specs.Numbered.{WritesSomeOf}

-- a read brings that part of the file
pub read_is : (files new : Files) (number at count n : ℕ) (bytes : List ℕ) → count ≡ n → n ≤ 3072 → ReadsOf number at count bytes files new → bytes ≡ part_of (bytes_of (file_in files number)) at n
read_is files new number at count n bytes same few reads =
    let most : min count 3072 ≡ n = omega (arith, same, few) in
    reads.bytes_are ∙ ap (λ (m : ℕ). part_of reads.file.bytes at m) most ∙ ap (λ (l : List ℕ). part_of l at n) (sym (ap bytes_of reads.plain.there))

take_both : (l : List ℕ) (done most : ℕ) → take done l ++ take most (drop done l) ≡ take (done + most) l
take_both l done most = same_lists _ _ (grind (arith, places)) (λ k d h. grind (arith, places))

-- two parts behind one another are one
pub part_on : (b : List ℕ) (offset done most : ℕ) → part_of b offset done ++ part_of b (offset + done) most ≡ part_of b offset (done + most)
part_on b offset done most =
    ap (λ (l : List ℕ). take done (drop offset b) ++ take most l) (sym (drop-drop done offset b)) ∙ take_both (drop offset b) done most

-- behind a part that is short there is nothing
pub part_all : (b : List ℕ) (offset done most size : ℕ) → length (part_of b (offset + done) most) < most → done + most ≤ size → part_of b offset (done + most) ≡ part_of b offset size
part_all b offset done most size short low =
    let part = length-take most (drop (offset + done) b) in
    let far = length-drop (offset + done) b in
    let near = length-drop offset b in
    let rest : length (drop offset b) ≤ done + most = omega (arith, part, far, near, short) in
    take_all (done + most) (drop offset b) rest ∙ sym (take_all size (drop offset b) (omega (arith, rest, low)))

-- what was added, and what is added behind it
pub added_on : (out mid new b here : List ℕ) (offset done most : ℕ) → mid ≡ out ++ part_of b offset done → here ≡ b → new ≡ mid ++ part_of here (offset + done) most → new ≡ out ++ part_of b offset (done + most)
added_on out mid new b here offset done most first same more =
    more ∙ ap (λ (l : List ℕ). l ++ part_of here (offset + done) most) first ∙ append_assoc out (part_of b offset done) (part_of here (offset + done) most)
    ∙ ap (λ (l : List ℕ). out ++ (part_of b offset done ++ part_of l (offset + done) most)) same ∙ ap (λ (l : List ℕ). out ++ l) (part_on b offset done most)

-- a part that is not whole is short
pub short_part : (b here : List ℕ) (at most : ℕ) (whole : Bool) → here ≡ b → whole ≡ eqb (length (part_of here at most)) most → whole ≡ false → length (part_of b at most) < most
short_part b here at most whole same is not =
    let apart : length (part_of here at most) ≢ most = λ e. both_ways (eqb (length (part_of here at most)) most) (sym is ∙ not) (eq-eqb (length (part_of here at most)) most e) in
    let few = length-take most (drop at here) in
    subst (λ (l : List ℕ). length (part_of l at most) < most) same (omega (arith, few, apart))

-- ---- written

-- the bytes before a write stay, those written stand behind them
module _ (old bytes : List ℕ) (offset done count k : ℕ) (so_far : StandsAt old offset bytes done) (fits : count ≤ length (take k (drop done bytes))) where
  abbrev piece : List ℕ
  piece = take count (take k (drop done bytes))

  abbrev rest : List ℕ
  rest = drop (offset + done + length piece) old

  piece_is : piece ≡ take count (drop done bytes)
  piece_is = let cut = length-take k (drop done bytes) in take-take count k (drop done bytes) (omega (arith, fits, cut))

  size : length piece ≡ count
  size = let cut = length-take count (take k (drop done bytes)) in omega (arith, cut, fits)

  front : length (take (offset + done) old) ≡ offset + done
  front = let cut = length-take (offset + done) old in let far_enough = so_far.far in omega (arith, cut, far_enough)

  joined : overwritten old (offset + done) piece ≡ take (offset + done) old ++ (piece ++ rest)
  joined = append_assoc (take (offset + done) old) piece rest

  far : offset + (done + count) ≤ length (overwritten old (offset + done) piece)
  far =
      let whole = ap (λ (l : List ℕ). length l) joined ∙ length-append (take (offset + done) old) (piece ++ rest) ∙ ap (λ (n : ℕ). length (take (offset + done) old) + n) (length-append piece rest) in
      omega (arith, whole, size, front)

  few : done + count ≤ length bytes
  few = let cut = length-take k (drop done bytes) in let left = length-drop done bytes in let low = so_far.few in omega (arith, cut, left, fits, low)

  shorter : take done (drop offset (take (offset + done) old)) ≡ part_of old offset done
  shorter = ap (λ (l : List ℕ). take done l) (drop-take offset done old) ∙ take-take done done (drop offset old) (omega arith)

  before : part_of (overwritten old (offset + done) piece) offset done ≡ part_of old offset done
  before =
      let low : offset ≤ length (take (offset + done) old) = omega (arith, front) in
      let cut = length-drop offset (take (offset + done) old) in
      ap (λ (l : List ℕ). take done (drop offset l)) joined
      ∙ ap (λ (l : List ℕ). take done l) (drop-append-le offset (take (offset + done) old) (piece ++ rest) low)
      ∙ take-append-le done (drop offset (take (offset + done) old)) (piece ++ rest) (omega (arith, front, cut))
      ∙ shorter

  behind : part_of (overwritten old (offset + done) piece) (offset + done) count ≡ piece
  behind =
      let low : offset + done ≤ length (take (offset + done) old) = omega (arith, front) in
      let all : drop (offset + done) (take (offset + done) old) ≡ [] = drop_all (offset + done) (take (offset + done) old) (omega (arith, front)) in
      ap (λ (l : List ℕ). take count (drop (offset + done) l)) joined
      ∙ ap (λ (l : List ℕ). take count l) (drop-append-le (offset + done) (take (offset + done) old) (piece ++ rest) low)
      ∙ ap (λ (l : List ℕ). take count (l ++ (piece ++ rest))) all
      ∙ take_at piece rest count size

  stand : part_of (overwritten old (offset + done) piece) offset (done + count) ≡ take (done + count) bytes
  stand =
      sym (part_on (overwritten old (offset + done) piece) offset done count)
      ∙ ap (λ (l : List ℕ). l ++ part_of (overwritten old (offset + done) piece) (offset + done) count) (before ∙ so_far.stand)
      ∙ ap (λ (l : List ℕ). take done bytes ++ l) (behind ∙ piece_is) ∙ take_both bytes done count

  pub stands_on : StandsAt (overwritten old (offset + done) (take count (take k (drop done bytes)))) offset bytes (done + count)
  stands_on = record { far = far; few = few; stand = stand }

-- a call that wrote some bytes behind those that stand, or none
pub stands_by : (form : Form) (files new : Files) (number at offset done k : ℕ) (bytes : List ℕ) (wrote : Result ℕ Unwritten) → at ≡ offset + done → StandsAt (bytes_of (file_in files number)) offset bytes done →
    WritesSomeOf form number at (take k (drop done bytes)) wrote files new → StandsAt (bytes_of (file_in new number)) offset bytes (done + wrote_count wrote)
stands_by form files new number at offset done k bytes (Ok count) same so_far writes =
    let file = writes.file in
    let there = writes.plain.there in
    let old : StandsAt file.bytes offset bytes done = subst (λ (l : List ℕ). StandsAt l offset bytes done) (ap bytes_of there) so_far in
    let fits = leb-true count (length (take k (drop done bytes))) (and_parts (leb count (length (take k (drop done bytes)))) _ writes.writes.0).0 in
    let now : bytes_of (file_in new number) ≡ overwritten file.bytes (offset + done) (take count (take k (drop done bytes))) =
    ap (λ (f : Files). bytes_of (file_in f number)) writes.writes.1 ∙ set_in files number file (overwritten file.bytes at (take count (take k (drop done bytes)))) there
    ∙ ap (λ (n : ℕ). overwritten file.bytes n (take count (take k (drop done bytes)))) same in
    subst (λ (l : List ℕ). StandsAt l offset bytes (done + count)) (sym now) (stands_on file.bytes bytes offset done count k old fits)
stands_by form files new number at offset done k bytes (Err cause) same so_far writes =
    let none : done ≡ done + 0 = omega arith in
    subst (λ (f : Files). StandsAt (bytes_of (file_in f number)) offset bytes (done + 0)) (sym writes.writes.0)
    (subst (λ (n : ℕ). StandsAt (bytes_of (file_in files number)) offset bytes n) none so_far)

-- none stand yet
pub stands_none : (old bytes : List ℕ) (offset : ℕ) → offset ≤ length old → StandsAt old offset bytes 0
stands_none old bytes offset far = record { far = omega (arith, far); few = omega arith; stand = refl }
