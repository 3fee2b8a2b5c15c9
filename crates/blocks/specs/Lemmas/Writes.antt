-- The last write of a disk in memory is all that one write changed.
use Rattle.std.specs.Prelude.{◌≡◌, ◌⊎◌, ◌<◌, ◌-◌, ◌^◌, ℕ, List, [], ◌∷◌, length, drop, slice_index_or}
use Rattle.std.proofs.Common.{zero, suc, ◌+◌, inl, inr, refl, sym, ap, subst, ◌∙◌, ⊎_elim, arith}
use Rattle.blocks.specs.Disk.{Image, Elapses, one_more}
use Rattle.blocks.specs.Images.{HadBeen, HasLeft, only_last}
use Rattle.blocks.specs.declared.memory.MemDisk.{MemDisk}
use Rattle.blocks.specs.Told.{IsWritten}

-- what a crash may leave of it, as its `impl Disk` says
abbrev left_by : MemDisk → ℕ → Image → Type 0
left_by d = HasLeft d.past d.blocks.items

only_of : (d : MemDisk) (t : ℕ) (x : Image) → t ≡ length d.past → left_by d t x → x ≡ d.blocks.items
only_of d t x is left = only_last d.past d.blocks.items x (subst (λ (m : ℕ). left_by d m x) is left)

last_alone : (past : List Image) (m : ℕ) → length past ≡ m + 1 → drop m past ≡ slice_index_or past m [] ∷ []
last_alone [] m is = absurd (omega (arith, is))
last_alone (p ∷ []) zero is = refl
last_alone (p ∷ q ∷ past) zero is = absurd (omega (arith, is))
last_alone (p ∷ past) (suc m) is = last_alone past m (omega (arith, is))

-- where no write was counted, the image is the same
pub same_image : (d e : MemDisk) → Elapses (length d.past) (length e.past) (left_by d) (left_by e) → d.writes < 2 ^ 63 → e.writes ≡ d.writes → e.blocks.items ≡ d.blocks.items
same_image d e time few same =
    let m : length d.past ≡ length e.past = omega (arith, d.counted, e.counted, few, same) in
    sym (only_of e (length d.past) d.blocks.items m (time.keeps (length d.past) d.blocks.items (omega arith) (inl refl)))

-- where one was, it is the last
pub one_write : (d e : MemDisk) → Elapses (length d.past) (length e.past) (left_by d) (left_by e) → d.writes < 2 ^ 63 → e.writes ≡ one_more d.writes → (e.last < length e.blocks.items) × IsWritten d.blocks.items e.last e.blocks.items
one_write d e time few more =
    let m : ℕ = length d.past in let x : Image = d.blocks.items in let y : Image = e.blocks.items in
    let n : length e.past ≡ m + 1 = omega (arith, d.counted, e.counted, few, more) in
    let p : Image = slice_index_or e.past m [] in
    let alone : drop m e.past ≡ p ∷ [] = last_alone e.past m n in
    let was : left_by e m p = inr (subst (λ (l : List Image). HadBeen l p) (sym alone) (inl refl)) in
    let had : (x ≡ y) ⊎ ((x ≡ p) ⊎ ⊥) = subst (λ (l : List Image). (x ≡ y) ⊎ HadBeen l x) alone (time.keeps m x (omega arith) (inl refl)) in
    let before : p ≡ x = ⊎_elim (λ (left : left_by d m p). only_of d m p refl left)
    (λ (now : left_by e (length e.past) p). let q : p ≡ y = only_of e (length e.past) p refl now in ⊎_elim (λ (s : x ≡ y). q ∙ sym s) (λ (r : (x ≡ p) ⊎ ⊥). ⊎_elim (λ (s : x ≡ p). sym s) (λ none. absurd none) r) had)
    (time.adds m p (omega arith) was) in
    let noted = e.is_last (omega (arith, n)) in
    let end : length e.past - 1 ≡ m = omega (arith, n) in
    (noted.0, subst (λ (z : Image). IsWritten z e.last y) (ap (λ (k : ℕ). slice_index_or e.past k []) end ∙ before) noted.1)
