-- The entries of a directory's bytes, one by one, and after the write of one.
use Rattle.std.proofs.Common.{◌≡◌, ℕ, zero, suc, ◌+◌, ◌-◌, ◌*◌, ◌/◌, ◌<◌, ◌≤◌, List, [], ◌++◌, length, take, drop, get_or, refl, sym, ap, ap₂, ◌∙◌, ⊎_elim, arith}
use Rattle.std.specs.Prelude.{slice_range}
use Rattle.std.specs.Simd.{first_chunks}
use Rattle.std.proofs.lemmas.Bool.{cases_lt}
use Rattle.std.proofs.lemmas.List.{length-append, length-take-le, length-drop, drop-drop, same_lists}
use Rattle.std.proofs.lemmas.List.Edits.{length-between, get_or-between}
use Rattle.blocks.specs.Block.{overwritten}
use Rattle.model.specs.Lemmas.Codecs.{get_or-overwritten_before, get_or-overwritten_behind, slice_range-overwritten}
use Rattle.directories.specs.Entries.{entries_of}
use Rattle.directories.specs.Lemmas.Standing.{Puts}

length-chunks : (k : ℕ) (xs : List ℕ) → length (first_chunks 16 k xs) ≡ k
length-chunks zero xs = refl
length-chunks (suc k) xs = ap (λ (j : ℕ). suc j) (length-chunks k (drop 16 xs))

chunk_at : (k : ℕ) (xs : List ℕ) (j : ℕ) → j < k → get_or (first_chunks 16 k xs) j [] ≡ slice_range xs (16 * j) (16 * j + 16)
chunk_at zero xs j h = absurd (omega arith)
chunk_at (suc k) xs zero h = refl
chunk_at (suc k) xs (suc j) h =
    let narrow : 16 * j + 16 - 16 * j ≡ 16 = omega arith in
    let wide : 16 ≡ 16 * suc j + 16 - 16 * suc j = omega arith in
    let next : 16 + 16 * j ≡ 16 * suc j = omega arith in
    chunk_at k (drop 16 xs) j (omega arith)
    ∙ ap₂ (λ (n : ℕ) (l : List ℕ). take n l) narrow (drop-drop (16 * j) 16 xs ∙ ap (λ (i : ℕ). drop i xs) next)
    ∙ ap (λ (n : ℕ). take n (drop (16 * suc j) xs)) wide

pub length-entries_of : (bytes : List ℕ) → length (entries_of bytes) ≡ length bytes / 16
unfolding entries_of
length-entries_of bytes = length-chunks (length bytes / 16) bytes

pub bytes_of_entry : (bytes : List ℕ) (j : ℕ) → j < length bytes / 16 → get_or (entries_of bytes) j [] ≡ slice_range bytes (16 * j) (16 * j + 16)
unfolding entries_of
bytes_of_entry bytes j h = chunk_at (length bytes / 16) bytes j h

range_same : (xs ys : List ℕ) (i j : ℕ) → j ≤ length xs → j ≤ length ys →
    ((k d : ℕ) → i ≤ k → k < j → get_or xs k d ≡ get_or ys k d) → slice_range xs i j ≡ slice_range ys i j
range_same xs ys i j in_xs in_ys each =
    let xs_len = length-between xs i j in_xs in
    let ys_len = length-between ys i j in_ys in
    same_lists (slice_range xs i j) (slice_range ys i j) (omega arith)
    (λ k d below. get_or-between xs i j k d (omega arith) ∙ each (i + k) d (omega arith) (omega arith) ∙ sym (get_or-between ys i j k d (omega arith)))

pub length-written : (old : List ℕ) (at : ℕ) (entry : List ℕ) → at ≤ length old → length entry ≡ 16 →
    length (overwritten old at entry) ≡ at + 16 + (length old - (at + 16))
length-written old at entry h size =
    omega (
      arith,
      length-append (take at old ++ entry) (drop (at + length entry) old),
      length-append (take at old) entry,
      length-take-le at old h,
      length-drop (at + length entry) old,
    )

-- an entry is written at a place where one is, or behind the last
pub puts_entry : (bytes : List ℕ) (place : ℕ) (entry : List ℕ) → 16 * place ≤ length bytes → length entry ≡ 16 →
    Puts (entries_of bytes) (entries_of (overwritten bytes (16 * place) entry)) place entry
puts_entry bytes place entry fits size =
    let new_size : length (overwritten bytes (16 * place) entry) ≡ 16 * place + 16 + (length bytes - (16 * place + 16)) =
    length-written bytes (16 * place) entry fits size in
    let count : length (entries_of bytes) ≡ length bytes / 16 = length-entries_of bytes in
    let new_count : length (entries_of (overwritten bytes (16 * place) entry)) ≡ length (overwritten bytes (16 * place) entry) / 16 =
    length-entries_of (overwritten bytes (16 * place) entry) in
    record {
      within = omega arith;
      there = bytes_of_entry (overwritten bytes (16 * place) entry) place (omega arith)
          ∙ slice_range-overwritten bytes (16 * place) entry 16 size fits;
      others = λ j inside apart.
          bytes_of_entry (overwritten bytes (16 * place) entry) j (omega arith)
          ∙ range_same (overwritten bytes (16 * place) entry) bytes (16 * j) (16 * j + 16) (omega arith) (omega arith)
          (λ k d low high.
          ⊎_elim (λ (below : j < place). get_or-overwritten_before bytes (16 * place) entry k d fits (omega arith))
          (λ (from : place ≤ j). get_or-overwritten_behind bytes (16 * place) entry k d fits (omega (arith, apart))) (cases_lt j place))
          ∙ sym (bytes_of_entry bytes j (omega arith));
      more = λ j inside apart. omega (arith, apart);
      fewer = λ j inside. omega arith;
    }
