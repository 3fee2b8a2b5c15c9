-- The blocks of a disk, copied one behind the other.
use Rattle.std.proofs.Common.{◌≡◌, ◌∙◌, ℕ, zero, suc, ◌+◌, ◌*◌, ◌<◌, ◌≤◌, List, [], ◌∷◌, ◌++◌, length, take, drop, Option, Some, sym, ap, ap₂, arith}
use Rattle.std.proofs.Math.Numerals.{add-one}
use Rattle.std.proofs.lemmas.List.{drop-append-le, length-drop, take-append-le, take_all, take_more}
use Rattle.std.proofs.lemmas.Option.{get_or_from_slice_get}
use Rattle.std.specs.Prelude.{slice_get}
use Rattle.std.specs.Simd.{first_chunks}
use Rattle.blocks.specs.Disk.{Image}

-- one block more
pub chunks_more : (k : ℕ) (bytes block : List ℕ) → length bytes ≡ k * 1024 → length block ≡ 1024 →
    first_chunks 1024 (suc k) (bytes ++ block) ≡ first_chunks 1024 k bytes ++ block ∷ []
chunks_more zero [] block none one = ap (λ (l : List ℕ). l ∷ []) (take_all 1024 block (omega (arith, one)))
chunks_more zero (b ∷ bytes) block none one = absurd (omega (arith, none))
chunks_more (suc k) bytes block long one =
    let first : take 1024 (bytes ++ block) ≡ take 1024 bytes = take-append-le 1024 bytes block (omega (arith, long)) in
    let rest : drop 1024 (bytes ++ block) ≡ drop 1024 bytes ++ block = drop-append-le 1024 bytes block (omega (arith, long)) in
    ap₂ (λ (a : List ℕ) (b : Image). a ∷ b) first
    (ap (first_chunks 1024 (suc k)) rest ∙ chunks_more k (drop 1024 bytes) block (omega (arith, length-drop 1024 bytes, long)) one)

pub copied_more : (x : Image) (b : ℕ) (bytes block new : List ℕ) → b < length x → length bytes ≡ b * 1024 → first_chunks 1024 b bytes ≡ take b x → length block ≡ 1024 →
    slice_get x b ≡ Some block → new ≡ bytes ++ block → first_chunks 1024 (b + 1) new ≡ take (b + 1) x
copied_more x b bytes block new low long before one read add =
    ap (first_chunks 1024 (b + 1)) add ∙ ap (λ (n : ℕ). first_chunks 1024 n (bytes ++ block)) (add-one b)
    ∙ chunks_more b bytes block long one ∙ ap (λ (l : Image). l ++ block ∷ []) before
    ∙ ap (λ (l : List ℕ). take b x ++ l ∷ []) (sym (get_or_from_slice_get x b block [] read)) ∙ sym (take_more x b [] low)

-- all were copied
pub copied_all : (x : Image) (size b : ℕ) (bytes : List ℕ) → size ≡ length x → size ≤ b → b ≤ size → first_chunks 1024 b bytes ≡ take b x → first_chunks 1024 size bytes ≡ x
copied_all x size b bytes whole high low before =
    let all : size ≡ b = omega (arith, high, low) in
    ap (λ (n : ℕ). first_chunks 1024 n bytes) all ∙ before ∙ take_all b x (omega (arith, whole, high))
