-- The bytes of a file, piece by piece.
use Rattle.std.proofs.Common.{◌≡◌, ℕ, ◌+◌, ◌-◌, ◌*◌, ◌/◌, ◌%◌, ◌<◌, ◌≤◌, List, ◌++◌, length, take, drop, sym, ap, ◌∙◌, arith}
use Rattle.offline.specs.Common.{block_at, bytes_in, Dinode, Image, IsImage, length-append, length-recovered, length-take-le, MayReadFile, overwritten, part_of, recovered, take-append-le, take_all}
use Rattle.model.specs.Places.{address_in}
use Rattle.model.specs.Lemmas.Bytes.{IsFullAt, length-bytes_in, length-part, part_in_block, part_in_two}
use Rattle.offline.proofs.FilesLemmas.{block_behind}

-- ---- the bytes of a file that may be read

-- one piece more
part_more : (bytes into piece : List ℕ) (at done n : ℕ) → done ≤ length into → length piece ≡ n → take done into ≡ part_of bytes at done →
    piece ≡ part_of bytes (at + done) n → take (done + n) (overwritten into done piece) ≡ part_of bytes at (done + n)
part_more bytes into piece at done n inside long before here =
    let front = take done into ++ piece in
    let first = length-take-le done into inside in
    let both : length front ≡ done + n = length-append (take done into) piece ∙ (let e : length (take done into) + length piece ≡ done + n = omega (arith, first, long) in e) in
    take-append-le (done + n) front (drop (done + length piece) into) (omega (arith, both))
    ∙ take_all (done + n) front (omega (arith, both))
    ∙ ap (λ l. l ++ piece) before ∙ ap (λ l. part_of bytes at done ++ l) here ∙ sym (part_in_two bytes at done n)

module _ (x : Image) (d : Dinode) (is : IsImage x) (long : 33 ≤ length x) (may : MayReadFile (recovered x) d) where
  abbrev y : Image
  y = recovered x

  full_blocks : (k : ℕ) → k * 1024 < d.size → IsFullAt y (address_in y d k)
  full_blocks k low =
      let lies = may.blocks k low in
      let behind = lies.0 in
      let inside = lies.1 in
      (λ none. omega (arith, none, behind), (block_behind x (address_in y d k) is long behind (omega (arith, inside, length-recovered x))).size)

  -- one piece more of it was read
  pub read_more : (at done n : ℕ) (into new block : List ℕ) → done ≤ length into → 1 ≤ n → at + done + n ≤ d.size → (at + done) % 1024 + n ≤ 1024 →
      take done into ≡ part_of (bytes_in y d) at done → block ≡ block_at y (address_in y d ((at + done) / 1024)) →
      new ≡ overwritten into done (take ((at + done) % 1024 + n - (at + done) % 1024) (drop ((at + done) % 1024) block)) →
      take (done + n) new ≡ part_of (bytes_in y d) at (done + n)
  read_more at done n into new block few some inside one before is_block put =
      let from = (at + done) % 1024 in
      let piece = take (from + n - from) (drop from block) in
      let count : from + n - from ≡ n = omega arith in
      let here : piece ≡ part_of (bytes_in y d) (at + done) n
      = ap (λ (m : ℕ). take m (drop from block)) count ∙ ap (λ (l : List ℕ). take n (drop from l)) is_block
      ∙ sym (part_in_block y d full_blocks (at + done) n inside one) in
      let size : length piece ≡ n = ap length here ∙ length-part (bytes_in y d) (at + done) n (omega (arith, inside, length-bytes_in y d full_blocks)) in
      ap (take (done + n)) put ∙ part_more (bytes_in y d) into piece at done n few size before here
