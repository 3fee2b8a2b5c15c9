-- Pieces that are written one behind the other.
use Rattle.std.proofs.Common.{◌≡◌, ◌∙◌, ℕ, ◌+◌, ◌-◌, ◌<◌, ◌≤◌, List, ◌++◌, length, take, drop, Some, sym, ap, arith}
use Rattle.std.specs.Prelude.{min}
use Rattle.std.proofs.Math.Seq.{take-add}
use Rattle.std.proofs.lemmas.List.{length-take, length-drop, take-take}
use Rattle.blocks.specs.Disk.{Image}
use Rattle.model.specs.Files.{Files, file_in, files_of}
use Rattle.model.specs.Layout.{greatest_size}
use Rattle.model.specs.declared.types.image.Form.{Form}
use Rattle.calls.specs.Files.{AppendsPart, MayAppendTwo, appended, size_of}
use Rattle.transfer.specs.Places.{put_at}
use Rattle.transfer.specs.PutWriting.{PutsPart}
use Rattle.transfer.proofs.PieceLemmas.{piece_joined}
use Rattle.transfer.proofs.PlaceLemmas.{appended_put, size_put}

-- y has the bytes before `from` at number i, and the next piece goes on to `to`
module _ (x y : Image) (i : ℕ) (bytes : List ℕ) (from to : ℕ) (there : i < length (files_of x)) (before : files_of y ≡ put_at (files_of x) i (take from bytes))
    (inside : from ≤ length bytes) (end : to ≡ min (from + 6144) (length bytes)) where
  abbrev piece : List ℕ
  piece = take (to - from) (drop from bytes)

  piece_long : length piece ≡ to - from
  piece_long = omega (arith, length-take (to - from) (drop from bytes), length-drop from bytes, end, inside)

  -- the first of a piece go on with those before it
  pub piece_first : (count : ℕ) → count ≤ length piece → take from bytes ++ take count piece ≡ take (from + count) bytes
  piece_first count few =
      let first : take count piece ≡ take count (drop from bytes) = take-take count (to - from) (drop from bytes) (omega (arith, few, piece_long)) in
      ap (λ (more : List ℕ). take from bytes ++ more) first ∙ sym (take-add from count bytes)

  put_behind : (more : List ℕ) → appended (files_of y) i more ≡ put_at (files_of x) i (take from bytes ++ more)
  put_behind more =
      ap (λ (files : Files). appended files i more) before ∙ appended_put (files_of x) i (take from bytes) more there

  pub piece_room : (form first : Form) → form ≡ first → length bytes ≤ greatest_size first → MayAppendTwo form (file_in (files_of y) i) from (length piece)
  piece_room form first same short =
      let long : length (take from bytes) ≡ from = omega (arith, length-take from bytes, inside) in
      record {
        size = ap (λ (files : Files). size_of (file_in files i)) before ∙ size_put (files_of x) i (take from bytes) there ∙ ap (λ (n : ℕ). Some n) long;
        few = omega (arith, piece_long, end);
        short = omega (arith, piece_long, end, inside, short, ap greatest_size same);
      }

  pub piece_put : (z : Image) → files_of z ≡ appended (files_of y) i piece → files_of z ≡ put_at (files_of x) i (take (from + 6144) bytes)
  piece_put z is = is ∙ put_behind piece ∙ ap (put_at (files_of x) i) (piece_joined bytes from to 6144 inside end)

  pub part_put : (z : Image) → AppendsPart i piece y z → PutsPart i bytes x z
  part_put z part =
      let fewer : part.count < to - from = omega (arith, part.fewer, piece_long) in
      record {
        count = from + part.count;
        fewer = omega (arith, fewer, end, inside);
        files = part.files ∙ put_behind (take part.count piece)
            ∙ ap (put_at (files_of x) i) (piece_first part.count (omega (arith, part.fewer)));
        full = part.full;
      }
