-- The bytes of a directory are read in pieces, one behind the other.
use Rattle.std.proofs.Common.{◌≡◌, ℕ, ◌+◌, ◌*◌, ◌≤◌, List, ◌++◌, length, take, sym, ap, ◌∙◌, arith}
use Rattle.std.proofs.Math.Seq.{take-add}
use Rattle.std.proofs.lemmas.List.{take_all}
use Rattle.blocks.specs.declared.disk.Disk.{Ghosts}
use Rattle.calls.specs.Calls.{call_count, image_on}
use Rattle.calls.specs.Stepping.{IsReached, Plain}
use Rattle.model.specs.Operations.{part_of}
use Rattle.names.specs.Inside.{files_seen, IsUnderWay, StaysOn}

-- so many pieces of the bytes were read
pub record HasRead {D N : Type 0} (disk : Ghosts D N) (k m : Plain D) (left : ℕ) (whole : List ℕ) (count : ℕ) (bytes : List ℕ) : Type 0 where
  pub way : IsUnderWay disk m left
  pub same : image_on disk.image m ≡ image_on disk.image k
  pub opening : m.opening ≡ k.opening
  pub files : files_seen disk.image m ≡ files_seen disk.image k
  pub stays : StaysOn disk k m
  pub reached : (o : Plain D) → IsReached disk o k → IsReached disk o m
  pub later : call_count k ≤ call_count m
  pub bytes_are : bytes ≡ take (count * 3072) whole

-- one more
pub one_more : (whole bytes new : List ℕ) (count : ℕ) → bytes ≡ take (count * 3072) whole → new ≡ bytes ++ part_of whole (count * 3072) 3072 →
    new ≡ take ((count + 1) * 3072) whole
one_more whole bytes new count are more =
    let next : count * 3072 + 3072 ≡ (count + 1) * 3072 = omega arith in
    more ∙ ap (λ (l : List ℕ). l ++ part_of whole (count * 3072) 3072) are ∙ sym (take-add (count * 3072) 3072 whole) ∙ ap (λ (n : ℕ). take n whole) next

-- all of them
pub all_read : (whole bytes : List ℕ) (count : ℕ) → bytes ≡ take (count * 3072) whole → length whole ≤ count * 3072 → bytes ≡ whole
all_read whole bytes count are enough = are ∙ take_all (count * 3072) whole enough
