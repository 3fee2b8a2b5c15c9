-- A write is the last.
use Rattle.std.proofs.Common.{◌≡◌, ℕ, ◌-◌, ◌<◌, List, [], ◌∷◌, ◌++◌, length, refl, sym, ◌∙◌, ap, subst, arith, length-append, length-set}
use Rattle.std.specs.Prelude.{slice_index_or, slice_set}
use Rattle.blocks.specs.Common.{get_or-set_same, Image}
use Rattle.blocks.specs.Told.{IsWritten, IsLast}

pushed : (past : List Image) (y : Image) (n : ℕ) → n ≡ length past → slice_index_or (past ++ y ∷ []) n [] ≡ y
pushed past y n is = ap (λ (k : ℕ). slice_index_or (past ++ y ∷ []) k []) is ∙ behind past y
  where
    behind : (past : List Image) (y : Image) → slice_index_or (past ++ y ∷ []) (length past) [] ≡ y
    behind [] y = refl
    behind (p ∷ past) y = behind past y

last_pushed : (past : List Image) (y : Image) → slice_index_or (past ++ y ∷ []) (length (past ++ y ∷ []) - 1) [] ≡ y
last_pushed past y = pushed past y (length (past ++ y ∷ []) - 1) (omega (arith, length-append past (y ∷ [])))

set_is_written : (x : Image) (b : ℕ) (bytes : List ℕ) → b < length x → IsWritten x b (slice_set x b bytes)
set_is_written x b bytes lt = ap (λ (y : List ℕ). slice_set x b y) (sym (get_or-set_same x b bytes [] lt))

-- the block that is written is the last
pub last-push : (past later : List Image) (x : Image) (b : ℕ) (bytes : List ℕ) → b < length x → later ≡ past ++ x ∷ [] → IsLast later b (slice_set x b bytes)
last-push past later x b bytes lt is some = (
  omega (arith, lt, length-set x b bytes),
  subst (λ (y : Image). IsWritten y b (slice_set x b bytes)) (sym (ap (λ (l : List Image). slice_index_or l (length l - 1) []) is ∙ last_pushed past x)) (set_is_written x b bytes lt),
)
