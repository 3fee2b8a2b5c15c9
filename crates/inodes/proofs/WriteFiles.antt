-- What the steps of a write make of its claim, by the laws over images in which tasks write files.
use Rattle.std.proofs.Common.{zero-add, ◌≡◌, ◌≢◌, ℕ, ◌+◌, ◌*◌, ◌%◌, ◌<◌, ◌≤◌, List, ◌++◌, length, take, drop, max, Option, Some, None, refl, sym, ap, ap₂, subst, ◌∙◌, ⊎_elim, arith, IsTrue, slice_index, ◌⊎◌, [], inl, inr}
use Rattle.inodes.specs.Common.{address_in, address_placed, after, AllocState, block_at, block_taken, cases_lt, Claims, File, file_in, Files, files_grown, FitsThen, form_of, get_or-set_same, greatest_size, growing_of, grows, Growth, growth_answers, growth_of, has_bit, Image, inode_count_of, is_number, IsClaimedNow, IsHeldIn, IsLowestClear, length-drop, length-take-le, lowest_clear_is_lowest, lowest_in, next_block, next_byte, part_in_two, part_of, piece, piece_of, placing, reaching, super_of, taken_by, taken_lies, taken_zeroed, with_piece, with_taken, with_written, Write, WriteState, Wrote, zero_block, zeroed}
use Rattle.std.proofs.lemmas.List.{length-replicate, take-replicate}
use Rattle.std.proofs.Common.{replicate, ◌-◌}
use Rattle.model.specs.declared.types.operations.Attribute.TheVariants.{Links, Size}
use Rattle.model.specs.declared.types.operations.Op.{Op}
use Rattle.model.specs.declared.types.operations.Op.TheVariants.{Create, Read, Trunc, Remove, Stat, SetAttribute}
use Rattle.in_flight.specs.GrowthLaws.{HasWritten}
use Rattle.in_flight.specs.Lemmas.Attributes.{addition_answers}
use Rattle.inodes.specs.Growing.{bytes_by, is_addition, zeroes}
use Rattle.inodes.specs.Writing.{Writes}
use Rattle.inodes.specs.Lemmas.Looks.{enough_bytes}
use Rattle.in_flight.specs.Held.{taking}
use Rattle.in_flight.specs.Lemmas.BytesWritten.{bytes_written}
use Rattle.in_flight.specs.GrowthLaws.{WritesNext as FillsNext}
use Rattle.in_flight.specs.Lemmas.GrowthBlocks.{growth_has_blocks}

-- ---- a block is taken

-- the lowest clear bit below the image's size
module _ (files : Files) (x : Image) (claims new : Claims) (i b : ℕ) (g : Growth) (t : AllocState) where
  pub takes_lowest : IsHeldIn files x claims i (grows g) → g.taken ≡ None → t.bitmap ≡ (super_of x).bmapstart → t.size ≡ length x →
      lowest_in x t ≡ Some b → IsClaimedNow claims i (Some (grows (taking g b))) new →
      FitsThen files x claims i (with_taken x t.bitmap b) new
  takes_lowest held none at long found now =
      let first : IsLowestClear (block_at x t.bitmap) t.size (Some b) = subst (IsLowestClear (block_at x t.bitmap) t.size) found (lowest_clear_is_lowest (block_at x t.bitmap) t.size) in
      subst (λ a. FitsThen files x claims i (with_taken x a b) new) (sym at)
      (block_taken files x claims new i b g held none (omega (arith, first.0, long)) (ap (λ a. has_bit (block_at x a) b) (sym at) ∙ first.1) now)

  -- ---- it is zeroed, and named in the same step

  -- the task holds its number in the image with the zeroed block
  still_held : (held : IsHeldIn files x claims i (grows g)) → (is : g.taken ≡ Some b) → IsHeldIn files (zeroed x b) claims i (grows g)
  still_held held is =
      let then = taken_zeroed files x claims i b g held is in
      let count : inode_count_of x ≡ inode_count_of (zeroed x b) = sym held.fits.count ∙ then.fits.count in
      record {
        fits = then.fits;
        number = subst (λ (n : ℕ). IsTrue (is_number n i)) count held.number;
        holds = held.holds;
      }

  pub zeroes_named : (slot : ℕ) → IsHeldIn files x claims i (grows g) → g.taken ≡ Some b → slot < length g.copy.addrs →
      slice_index g.copy.addrs slot ≡ 0 → IsClaimedNow claims i (Some (grows (placing g slot b))) new → FitsThen files x claims i (zeroed x b) new
  zeroes_named slot held is there none now =
      let then = taken_zeroed files x claims i b g held is in
      let inside = (taken_lies files x claims i b g held is).1 in
      record {
        fits = address_placed files (zeroed x b) claims new i slot b g (still_held held is) is there none
            (λ deep. get_or-set_same x b zero_block [] inside) now;
        others = then.others;
        held = then.held;
      }

-- ---- bytes are written

-- the writing may go on with the next piece
pub record WritesPiece (x : Image) (m : WriteState) (bytes : List ℕ) (b : ℕ) : Type 0 where
  pub left : m.done < m.count
  pub all : m.count ≤ length bytes
  pub fits : m.offset + m.count ≤ greatest_size (form_of x)
  pub block : address_in x m.inode (next_block m) ≡ b
  pub there : b ≢ 0

module _ (files : Files) (x : Image) (claims new : Claims) (i b : ℕ) (m : WriteState) (op : Option Op) (w : WritesPiece x m (bytes_by op) b) where
  abbrev bytes : List ℕ
  bytes = bytes_by op

  long : length (take m.done bytes) ≡ m.done
  long = let left = w.left in let all = w.all in length-take-le m.done bytes (omega (arith, left, all))

  whole : length (piece_of m bytes) ≡ piece m
  whole =
      length-take-le (piece m) (drop m.done bytes) (omega (arith, w.left, w.all, length-drop m.done bytes))

  writes_next : (g : Growth) → g ≡ growth_of m op → FillsNext x g (next_block m) (next_byte m % 1024) b (piece_of m bytes)
  writes_next g is = subst (λ h. FillsNext x h (next_block m) (next_byte m % 1024) b (piece_of m bytes)) (sym is)
      (let left = w.left in let fits = w.fits in let count = whole in let done = long in
      record {
        place = omega (arith, done);
        inside = omega (arith, count);
        some = omega (arith, count, left);
        fits = omega (arith, done, count, left, fits);
        block = w.block;
        there = w.there;
      })

  -- what it holds then
  abbrev later_on : WriteState
  later_on = with_piece m

  grown : (taken_by m.at ≡ None) → taken_by later_on.at ≡ None →
      growth_of later_on op
      ≡ reaching (growth_of m op) (max m.inode.size (next_block m * 1024 + next_byte m % 1024 + length (piece_of m bytes))) (piece_of m bytes)
  grown none later =
      ap₂ (λ (o : Option ℕ) (l : List ℕ). record { copy = later_on.inode; taken = o; offset = m.offset; at_end = is_addition op; written = l }) (later ∙ sym none) (part_in_two bytes 0 m.done (piece m) ∙ ap (λ (k : ℕ). take m.done bytes ++ part_of bytes k (piece m)) (zero-add m.done))
      ∙ ap (λ (n : ℕ). record { copy = record m.inode { size = max m.inode.size n }; taken = taken_by m.at; offset = m.offset; at_end = is_addition op; written = take m.done bytes ++ piece_of m bytes }) (omega (arith, whole))

  pub piece_written : taken_by m.at ≡ None → taken_by later_on.at ≡ None → IsHeldIn files x claims i (grows (growth_of m op)) →
      IsClaimedNow claims i (Some (grows (growth_of later_on op))) new → FitsThen files x claims i (with_written x m bytes b) new
  piece_written none later held now =
      bytes_written files x claims new i (next_block m) (next_byte m % 1024) b (piece_of m bytes) (growth_of m op) held
      (writes_next (growth_of m op) refl)
      (subst (λ h. IsClaimedNow claims i (Some (grows h)) new) (grown none later) now)

-- ---- the end

-- the first of the zeroes are zeroes
first_zeroes : (k n : ℕ) → k ≤ 3072 → k ≤ n → take k zeroes ≡ take k (replicate n 0)
unfolding zeroes
first_zeroes k n few inside = take-replicate k 3072 0 few ∙ sym (take-replicate k n 0 inside)

-- where no block was left, what was written ends where a block begins
module _ (files : Files) (x : Image) (claims : Claims) (i : ℕ) (m : WriteState) (op : Option Op) where
  abbrev all : List ℕ
  all = bytes_by op

  pub ends_evenly : (old : File) → file_in files i ≡ Some old → IsHeldIn files x claims i (grows (growth_of m op)) → m.done ≤ length all →
      address_in x m.inode (next_block m) ≡ 0 → next_byte m % 1024 ≡ 0
  ends_evenly old is held few none =
      let growing = growing_of files x claims i (growth_of m op) held in
      let size = (growth_has_blocks files x claims i (growth_of m op) old held is).size in
      let past : m.inode.size ≤ next_block m * 1024 = ⊎_elim
      (λ (need : next_block m * 1024 < m.inode.size). absurd (growing.fit.whole (next_block m) need none))
      (λ (le : m.inode.size ≤ next_block m * 1024). le)
      (cases_lt (next_block m * 1024) m.inode.size) in
      omega (arith, size, (length-take-le m.done all few), past)

  -- what lies behind the file's end, or over its bytes, is what the operation asks for
  written_so : (old : File) (bytes : List ℕ) → file_in files i ≡ Some old → IsHeldIn files x claims i (grows (growth_of m op)) →
      length bytes ≡ m.count → take m.done all ≡ take m.done bytes → m.done ≤ m.count → m.count ≤ length all → m.count ≤ 3072 → m.offset + m.count ≤ greatest_size (form_of x) →
      (m.done ≡ m.count) ⊎ (address_in x m.inode (next_block m) ≡ 0) → HasWritten x (growth_of m op) m.offset bytes m.done
  written_so old bytes is held count same done enough few fits end = record {
    offset = refl;
    written = same;
    most = omega (arith, done, count);
    few = omega (arith, few, count);
    fits = omega (arith, fits, count);
    ends = ⊎_elim
        (λ (whole : m.done ≡ m.count). inl (whole ∙ sym count))
        (λ (none : address_in x m.inode (next_block m) ≡ 0). inr (ends_evenly old is held (omega (arith, done, enough)) none, none))
        end;
  }

-- these are the files after the operation that wrote so
module _ (files : Files) (x : Image) (claims : Claims) (i : ℕ) (m : WriteState) where
  pub answers_written : (op : Op) (old : File) → Writes op m → i ≡ m.number → file_in files i ≡ Some old → IsHeldIn files x claims i (grows (growth_of m (Some op))) →
      m.done ≤ m.count → m.count ≤ 3072 → m.offset + m.count ≤ greatest_size (form_of x) →
      (m.done ≡ m.count) ⊎ (address_in x m.inode (next_block m) ≡ 0) →
      after (form_of x) files op (Wrote m.done) ≡ Some (files_grown files i old (growth_of m (Some op)))
  answers_written (Create kind) old w at is held done few fits end = absurd w
  answers_written (Write j off bytes) old w at is held done few fits end =
      subst (λ (k : ℕ). after (form_of x) files (Write k off bytes) (Wrote m.done) ≡ Some (files_grown files i old (growth_of m (Some (Write j off bytes))))) (at ∙ sym w.0)
      (subst (λ (o : ℕ). after (form_of x) files (Write i o bytes) (Wrote m.done) ≡ Some (files_grown files i old (growth_of m (Some (Write j off bytes))))) (sym w.1)
      (growth_answers files x claims i (growth_of m (Some (Write j off bytes))) old m.offset m.done bytes held
      (written_so files x claims i m (Some (Write j off bytes)) old bytes is held w.2 refl done (omega (arith, w.2)) few fits end) is))
  answers_written (Read j off n) old w at is held done few fits end = absurd w
  answers_written (Trunc j) old w at is held done few fits end = absurd w
  answers_written (Remove j) old w at is held done few fits end = absurd w
  answers_written (Stat j) old w at is held done few fits end = absurd w
  answers_written (SetAttribute j (Links n)) old w at is held done few fits end = absurd w.1
  answers_written (SetAttribute j (Size n)) old w at is held done few fits end =
      let op : Option Op = Some (SetAttribute j (Size n)) in
      let some = w.1.0 in
      let whole = w.1.1 in
      let count : length (replicate (n - m.offset) 0) ≡ m.count = length-replicate (n - m.offset) 0 ∙ omega (arith, some, whole) in
      let zero : take m.done zeroes ≡ take m.done (replicate (n - m.offset) 0) = first_zeroes m.done (n - m.offset) (omega (arith, done, few)) (omega (arith, done, some, whole)) in
      subst (λ (k : ℕ). after (form_of x) files (SetAttribute k (Size n)) (Wrote m.done) ≡ Some (files_grown files i old (growth_of m op))) (at ∙ sym w.0)
      (addition_answers files x claims i (growth_of m op) old n m.done held refl some
      (written_so files x claims i m op old (replicate (n - m.offset) 0) is held count zero done (enough_bytes (SetAttribute j (Size n)) m w few) few fits end) is)
