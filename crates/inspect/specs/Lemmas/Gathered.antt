-- What was gathered so far, and what is left.
use Rattle.std.proofs.Common.{◌≡◌, ◌∙◌, ℕ, ◌-◌, ◌+◌, ◌<◌, ◌≤◌, List, [], ◌++◌, refl, ap, sym}
use Rattle.std.specs.List.{flat_map, range_with_len}
use Rattle.std.proofs.lemmas.List.{append_assoc, append-nil}
use Rattle.blocks.specs.Disk.{Image}
use Rattle.model.specs.Layout.{inode_count_of}
use Rattle.model.specs.Places.{numbers_of}
use Rattle.model.specs.Lemmas.Verdict.{range_more, range_all}

-- `done`, and what is left, are the whole
pub next_done : {X : Type 0} (done next piece left more whole : List X)
    → done ++ left ≡ whole → left ≡ piece ++ more → next ≡ done ++ piece → next ++ more ≡ whole
next_done done next piece left more whole all split add =
    ap (λ l. l ++ more) add ∙ append_assoc done piece more
    ∙ ap (λ l. done ++ l) (sym split) ∙ all

pub all_done : {X : Type 0} (done left whole : List X) → done ++ left ≡ whole → left ≡ []
    → done ≡ whole
all_done done left whole all none = sym (append-nil done) ∙ ap (λ l. done ++ l) (sym none) ∙ all

-- what was gathered of the numbers below i, and what the others add to it, is all
abbrev pub IsGathering : {X : Type 0} → (Image → ℕ → List X) → Image → ℕ → List X → Type 0
IsGathering at y i so_far =
    so_far ++ flat_map (at y) (range_with_len i (inode_count_of y - i))
    ≡ flat_map (at y) (numbers_of y)

-- one number of a range more
pub range_step : {X : Type 0} (f : ℕ → List X) (i end : ℕ) → i < end
    → flat_map f (range_with_len i (end - i))
    ≡ f i ++ flat_map f (range_with_len (i + 1) (end - (i + 1)))
range_step f i end h = rw (range_more i end h) refl

pub range_end : {X : Type 0} (f : ℕ → List X) (i end : ℕ) → end ≤ i
    → flat_map f (range_with_len i (end - i)) ≡ []
range_end f i end h = rw (range_all i end h) refl
