-- The writes of a disk, one after the other.
use Rattle.std.proofs.Common.{◌∙◌, ◌≡◌, ℕ, ◌+◌, suc, Bool, true, false, List, [], ◌∷◌, ◌++◌, length, Option, Some, None, Ok, Err, refl, sym, ap, subst, arith, length-append}
use Rattle.std.specs.Prelude.{IfOk, IsOk, OnOk, Result, map, slice_set}
use Rattle.blocks.specs.Disk.{Image, counted, one_more}
use Rattle.blocks.specs.Held.{Write, applied}
use Rattle.blocks.specs.declared.disk.Disk.{Ghosts}
use Rattle.json_lines.specs.declared.written.Written.{Written}
use Rattle.commands_runs.specs.Writes.{AreWrites, write_of}

applied_more : (x : Image) (ws : List Write) (w : Write) → applied x (ws ++ w ∷ []) ≡ slice_set (applied x ws) w.0 w.1
applied_more x [] w = refl
applied_more x (v ∷ ws) w = applied_more (slice_set x v.0 v.1) ws w

writes_joined : (ws : List Written) (w : Written) → map write_of (ws ++ w ∷ []) ≡ map write_of ws ++ write_of w ∷ []
writes_joined [] w = refl
writes_joined (v ∷ ws) w = ap (λ l. write_of v ∷ l) (writes_joined ws w)

counted_more : (n : ℕ) (ws : List Written) (w : Written) → counted n (length (ws ++ w ∷ [])) ≡ one_more (counted n (length ws))
counted_more n [] w = refl
counted_more n (v ∷ ws) w = ap one_more (counted_more n ws w)

-- what is so where a call succeeds, which it did
pub when_ok : {T E : Type 0} (r : Result T E) (P : Type 0) → IsOk r → OnOk r P → P
when_ok (Ok done) P is_ok so = so
when_ok (Err e) P is_ok so = let no : false ≡ true = is_ok in absurd (cc no)

module _ {D N : Type 0} (disk : Ghosts D N) where
  -- none yet
  pub no_writes : (d : D) → AreWrites disk d d []
  no_writes d = record { image = refl; count = refl }

  -- one more
  pub one_write_more : (first old new : D) (ws more : List Written) (w : Written) → AreWrites disk first old ws →
      disk.image new ≡ slice_set (disk.image old) w.block w.bytes → disk.write_count new ≡ one_more (disk.write_count old) → more ≡ ws ++ w ∷ [] → AreWrites disk first new more
  one_write_more first old new ws more w before image count is = record {
    image = image ∙ ap (λ (x : Image). slice_set x w.block w.bytes) before.image
        ∙ sym (ap (λ l. applied (disk.image first) (map write_of l)) is ∙ ap (applied (disk.image first)) (writes_joined ws w) ∙ applied_more (disk.image first) (map write_of ws) (write_of w));
    count = count ∙ ap one_more before.count ∙ sym (ap (λ (l : List Written). counted (disk.write_count first) (length l)) is ∙ counted_more (disk.write_count first) ws w);
  }
