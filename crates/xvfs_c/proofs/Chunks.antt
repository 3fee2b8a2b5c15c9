-- The blocks of an image, laid one after the other and cut again.
use Rattle.std.proofs.Common.{◌≡◌, ◌∙◌, ℕ, zero, suc, ◌+◌, ◌*◌, ◌<◌, ◌≤◌, List, [], ◌∷◌, ◌++◌, length, take, drop, refl, sym, ap, arith, length-append, append_assoc, append-nil, drop-drop}
use Rattle.std.proofs.lemmas.List.{drop_all, length-drop, length-take-le, take_all, take_more}
use Rattle.std.proofs.Math.Seq.{drop-append_seam, take-append_seam}
use Rattle.std.specs.List.{concat}
use Rattle.std.specs.Simd.{first_chunks}
use Rattle.blocks.specs.Block.{overwritten}
use Rattle.blocks.specs.Disk.{Image, IsImage, block_at}

taken : (bytes rest : List ℕ) (n : ℕ) → n ≡ length bytes → take n (bytes ++ rest) ≡ bytes
taken bytes rest n is = ap (λ (m : ℕ). take m (bytes ++ rest)) is ∙ take-append_seam bytes rest

dropped : (bytes rest : List ℕ) (n : ℕ) → n ≡ length bytes → drop n (bytes ++ rest) ≡ rest
dropped bytes rest n is = ap (λ (m : ℕ). drop m (bytes ++ rest)) is ∙ drop-append_seam bytes rest

joined : (x : Image) (y : List ℕ) → concat (x ++ y ∷ []) ≡ concat x ++ y
joined [] y = append-nil y
joined (z ∷ x) y = ap (λ (l : List ℕ). z ++ l) (joined x y) ∙ sym (append_assoc z (concat x) y)

behind_first : (y : List ℕ) (x : Image) → IsImage (y ∷ x) → IsImage x
behind_first y x is = λ b lt. is (suc b) (omega (arith, lt))

length-laid : (x : Image) (b : ℕ) → IsImage x → b ≤ length x → length (concat (take b x)) ≡ b * 1024
length-laid x zero is le = refl
length-laid [] (suc b) is le = absurd (omega (arith, le))
length-laid (y ∷ x) (suc b) is le =
    omega (arith, length-append y (concat (take b x)), (is 0 (omega arith)).size, length-laid x b (behind_first y x is) (omega (arith, le)))

-- the block b is laid behind those before it
pub laid : (x : Image) (start : List ℕ) (b : ℕ) → IsImage x → b < length x
    → overwritten (concat (take b x) ++ drop (b * 1024) start) (b * 1024) (block_at x b) ≡ concat (take (b + 1) x) ++ drop ((b + 1) * 1024) start
laid x start b is lt =
    let front : List ℕ = concat (take b x) in
    let back : List ℕ = drop (b * 1024) start in
    let bytes : List ℕ = block_at x b in
    let long : b * 1024 ≡ length front = sym (length-laid x b is (omega (arith, lt))) in
    let size : length bytes ≡ 1024 = (is b lt).size in
    let rest : drop (b * 1024 + length bytes) (front ++ back) ≡ drop ((b + 1) * 1024) start =
    sym (drop-drop (length bytes) (b * 1024) (front ++ back)) ∙ ap (drop (length bytes)) (dropped front back (b * 1024) long)
    ∙ drop-drop (length bytes) (b * 1024) start ∙ ap (λ (n : ℕ). drop n start) (omega (arith, size)) in
    let more : front ++ bytes ≡ concat (take (b + 1) x) = sym (ap concat (take_more x b [] lt) ∙ joined (take b x) bytes) in
    ap (λ (l : List ℕ). l ++ bytes ++ drop (b * 1024 + length bytes) (front ++ back)) (taken front back (b * 1024) long)
    ∙ ap (λ (l : List ℕ). front ++ bytes ++ l) rest ∙ ap (λ (l : List ℕ). l ++ drop ((b + 1) * 1024) start) more

-- all blocks are laid
pub all_laid : (x : Image) (start : List ℕ) → length start ≡ length x * 1024 → concat (take (length x) x) ++ drop (length x * 1024) start ≡ concat x
all_laid x start long =
    ap (λ (l : List ℕ). concat (take (length x) x) ++ l) (drop_all (length x * 1024) start (omega (arith, long)))
    ∙ append-nil (concat (take (length x) x)) ∙ ap concat (take_all (length x) x (omega arith))

pub length-concat : (x : Image) → IsImage x → length (concat x) ≡ length x * 1024
length-concat x is = ap (λ (y : Image). length (concat y)) (sym (take_all (length x) x (omega arith))) ∙ length-laid x (length x) is (omega arith)

pub first_chunks-concat : (x : Image) → IsImage x → first_chunks 1024 (length x) (concat x) ≡ x
first_chunks-concat [] is = refl
first_chunks-concat (y ∷ x) is =
    let size : 1024 ≡ length y = sym (is 0 (omega arith)).size in
    ap (λ (l : List ℕ). l ∷ first_chunks 1024 (length x) (drop 1024 (y ++ concat x))) (taken y (concat x) 1024 size)
    ∙ ap (λ (l : List ℕ). y ∷ first_chunks 1024 (length x) l) (dropped y (concat x) 1024 size)
    ∙ ap (λ (l : Image). y ∷ l) (first_chunks-concat x (behind_first y x is))

pub length-first_chunks : (n : ℕ) (bytes : List ℕ) → length (first_chunks 1024 n bytes) ≡ n
length-first_chunks zero bytes = refl
length-first_chunks (suc n) bytes = ap suc (length-first_chunks n (drop 1024 bytes))

-- each block that whole bytes are cut into has its size
pub chunk_size : (k : ℕ) (bytes : List ℕ) (b : ℕ) → length bytes ≡ k * 1024 → b < k → length (block_at (first_chunks 1024 k bytes) b) ≡ 1024
chunk_size zero bytes b whole lt = absurd (omega (arith, lt))
chunk_size (suc k) bytes zero whole lt = length-take-le 1024 bytes (omega (arith, whole))
chunk_size (suc k) bytes (suc b) whole lt = chunk_size k (drop 1024 bytes) b (omega (arith, whole, length-drop 1024 bytes)) (omega (arith, lt))
