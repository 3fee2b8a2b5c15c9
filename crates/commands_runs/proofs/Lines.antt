-- The lines of an image's files, one number after the other.
use Rattle.std.proofs.Common.{◌≡◌, ◌≢◌, ◌∙◌, ℕ, ◌+◌, ◌-◌, ◌<◌, ◌≤◌, List, [], ◌∷◌, ◌++◌, refl, ap, sym}
use Rattle.std.specs.List.{flat_map, range_with_len}
use Rattle.std.proofs.lemmas.Bool.{ne_eqb}
use Rattle.std.proofs.lemmas.List.{append-nil, append_assoc}
use Rattle.blocks.specs.Disk.{Image}
use Rattle.model.specs.Layout.{inode_count_of, inode_of}
use Rattle.model.specs.Lemmas.Verdict.{range_more, range_all}
use Rattle.model.specs.declared.types.image.Dinode.{Dinode}
use Rattle.pictures.specs.declared.types.FileLine.{FileLine}
use Rattle.commands_runs.specs.FileLines.{lines_at, lines_of}

-- ---- the line of a number

pub lines_used : (y : Image) (i : ℕ) (d : Dinode) → d ≡ inode_of y i → d.kind ≢ 0 → lines_at y i ≡ record { number = i; kind = d.kind; size = d.size } ∷ []
lines_used y i d is used =
    let kind : (inode_of y i).kind ≢ 0 = λ z. used (ap (λ (e : Dinode). e.kind) is ∙ z) in
    rw (is, ne_eqb (inode_of y i).kind 0 kind) refl

pub lines_free : (y : Image) (i : ℕ) (d : Dinode) → d ≡ inode_of y i → d.kind ≡ 0 → lines_at y i ≡ []
lines_free y i d is free =
    let none : (inode_of y i).kind ≡ 0 = ap (λ (e : Dinode). e.kind) (sym is) ∙ free in
    rw none refl

-- ---- those of the numbers below i, with those of the others, are all

abbrev pub AreSoFar : Image → ℕ → List FileLine → Type 0
AreSoFar y i lines = lines ++ flat_map (lines_at y) (range_with_len i (inode_count_of y - i)) ≡ lines_of y

-- one number more
pub so_far_more : (y : Image) (i : ℕ) (old new : List FileLine) → i < inode_count_of y → AreSoFar y i old → new ≡ old ++ lines_at y i → AreSoFar y (i + 1) new
so_far_more y i old new low before add =
    let rest = flat_map (lines_at y) (range_with_len (i + 1) (inode_count_of y - (i + 1))) in
    let split : flat_map (lines_at y) (range_with_len i (inode_count_of y - i)) ≡ lines_at y i ++ rest
    = rw (range_more i (inode_count_of y) low) refl in
    ap (λ l. l ++ rest) add ∙ append_assoc old (lines_at y i) rest ∙ ap (λ l. old ++ l) (sym split) ∙ before

-- there is no other
pub so_far_all : (y : Image) (i : ℕ) (lines : List FileLine) → inode_count_of y ≤ i → AreSoFar y i lines → lines ≡ lines_of y
so_far_all y i lines high before =
    let none : flat_map (lines_at y) (range_with_len i (inode_count_of y - i)) ≡ [] = rw (range_all i (inode_count_of y) high) refl in
    sym (append-nil lines) ∙ ap (λ l. lines ++ l) (sym none) ∙ before
