-- What is below a directory, copied entry for entry.
use Rattle.std.proofs.Common.{◌≡◌, ◌≢◌, ℕ, zero, suc, ◌-◌, ◌<◌, List, [], Option, length, slice_index_or, refl, subst, arith}
use Rattle.model.specs.Files.{Files}
use Rattle.directories.specs.Entries.{entries_of}
use Rattle.directories.specs.Trees.{directory_in}
use Rattle.tree_looks.specs.Gets.{CopiesBelow, CopiesEntry}

pub copies_below : {F : Type 0} (contents : F → Option (List ℕ)) (depth : ℕ) (files : Files) (number : ℕ) (items : List (List ℕ)) → depth ≢ 0 → items ≡ entries_of (directory_in files number)
    → ((i : ℕ) → i < length items → CopiesEntry contents (depth - 1) files (slice_index_or items i [])) → CopiesBelow contents depth files number
copies_below contents zero files number items some same all = absurd (some refl)
copies_below contents (suc depth) files number items some same all =
    let less : suc depth - 1 ≡ depth = omega arith in
    subst (λ (es : List (List ℕ)). (i : ℕ) → i < length es → CopiesEntry contents depth files (slice_index_or es i [])) same
    (λ i low. subst (λ (k : ℕ). CopiesEntry contents k files (slice_index_or items i [])) less (all i low))
