-- The bytes of a file that are the blocks of an image, and what a write of a block makes of them.
use Rattle.std.proofs.Common.{◌≡◌, ℕ, zero, suc, ◌+◌, ◌*◌, ◌<◌, ◌≤◌, List, [], ◌∷◌, ◌++◌, length, take, drop, set, replicate, refl, sym, ◌∙◌, ap, subst, arith, length-append, false}
use Rattle.std.specs.Prelude.{Option, Some, None, IfSome, IfOk, Ok, Err, Result, is_err}
use Rattle.std.specs.List.{concat}
use Rattle.std.specs.Io.KnownBytes.{Consumes}
use Rattle.std.proofs.lemmas.List.{replicate-append-replicate}
use Rattle.blocks.specs.Block.{zero_block}
use Rattle.blocks.specs.Common.{append-nil, Image, IsBlock, IsImage, length-replicate, overwritten, true≢false}
use Rattle.blocks.specs.Placed.{AllRemain, BecomesZero, HasInPlace, IsLength, Reaches, WritesInPlace}
use Rattle.blocks.specs.declared.errors.FileFault.{FileFault}
use Rattle.blocks.specs.declared.file.FileDisk.{FileDisk}
use Rattle.blocks.specs.declared.memory.MemDisk.{MemDisk}

-- an overwritten list with one more item before it
overwritten_cons : (a : ℕ) (xs : List ℕ) (n : ℕ) (new : List ℕ) → overwritten (a ∷ xs) (suc n) new ≡ a ∷ overwritten xs n new
overwritten_cons a xs n new =
    let on : suc n + length new ≡ suc (n + length new) = omega arith in
    ap (λ (k : ℕ). (a ∷ take n xs) ++ new ++ drop k (a ∷ xs)) on

overwritten_behind : (ys xs : List ℕ) (n : ℕ) (new : List ℕ) → overwritten (ys ++ xs) (length ys + n) new ≡ ys ++ overwritten xs n new
overwritten_behind [] xs n new = let on : 0 + n ≡ n = omega arith in ap (λ (k : ℕ). overwritten xs k new) on
overwritten_behind (y ∷ ys) xs n new =
    let on : length (y ∷ ys) + n ≡ suc (length ys + n) = omega arith in
    ap (λ (k : ℕ). overwritten (y ∷ (ys ++ xs)) k new) on ∙ overwritten_cons y (ys ++ xs) (length ys + n) new ∙ ap (λ (l : List ℕ). y ∷ l) (overwritten_behind ys xs n new)

drop_behind : (ys xs : List ℕ) → drop (length ys) (ys ++ xs) ≡ xs
drop_behind [] xs = refl
drop_behind (y ∷ ys) xs = drop_behind ys xs

rest_is_image : (y : List ℕ) (x : Image) → IsImage (y ∷ x) → IsImage x
rest_is_image y x are b lt = are (suc b) (omega arith)

first_is_block : (y : List ℕ) (x : Image) → IsImage (y ∷ x) → length y ≡ 1024
first_is_block y x are = (are 0 (omega arith)).size

pub length-concat : (x : Image) → IsImage x → length (concat x) ≡ length x * 1024
length-concat [] are = refl
length-concat (y ∷ x) are =
    omega (arith, length-append y (concat x), first_is_block y x are, length-concat x (rest_is_image y x are))

-- a block written in its place
pub concat-set : (x : Image) (b : ℕ) (new : List ℕ) → IsImage x → b < length x → length new ≡ 1024 → overwritten (concat x) (b * 1024) new ≡ concat (set x b new)
concat-set [] b new are lt size = absurd (omega arith)
concat-set (y ∷ x) zero new are lt size =
    let on : 0 + length new ≡ length y = omega (arith, size, first_is_block y x are) in
    ap (λ (k : ℕ). new ++ drop k (y ++ concat x)) on ∙ ap (λ (l : List ℕ). new ++ l) (drop_behind y (concat x))
concat-set (y ∷ x) (suc b) new are lt size =
    let on : suc b * 1024 ≡ length y + b * 1024 = omega (arith, first_is_block y x are) in
    ap (λ (k : ℕ). overwritten (y ++ concat x) k new) on ∙ overwritten_behind y (concat x) (b * 1024) new
    ∙ ap (λ (l : List ℕ). y ++ l) (concat-set x b new (rest_is_image y x are) (omega arith) size)

-- blocks of zeroes, one after another
pub concat-zeroes : (n : ℕ) → concat (replicate n zero_block) ≡ replicate (n * 1024) 0
unfolding zero_block
concat-zeroes zero = refl
concat-zeroes (suc n) =
    let on : 1024 + n * 1024 ≡ suc n * 1024 = omega arith in
    ap (λ (l : List ℕ). zero_block ++ l) (concat-zeroes n) ∙ replicate-append-replicate 1024 (n * 1024) 0 ∙ ap (λ (k : ℕ). replicate k 0) on

-- what a file has once a block was written in its place
pub mirrors_written : (old new : Option (List ℕ)) (x : Image) (b : ℕ) (bytes : List ℕ) → IsImage x → b < length x → IsBlock bytes
    → IfSome old (λ xs. xs ≡ concat x) → (Reaches old (b * 1024 + length bytes) → HasInPlace old new (b * 1024) bytes) → IfSome new (λ xs. xs ≡ concat (set x b bytes))
mirrors_written None new x b bytes are lt is had does = subst (λ (o : Option (List ℕ)). IfSome o (λ xs. xs ≡ concat (set x b bytes))) (sym (does tt)) tt
mirrors_written (Some xs) new x b bytes are lt is had does =
    subst (λ (o : Option (List ℕ)). IfSome o (λ xs. xs ≡ concat (set x b bytes)))
    (sym (does (omega (arith, ap length had, length-concat x are, is.size, lt))))
    (ap (λ (l : List ℕ). overwritten l (b * 1024) bytes) had ∙ concat-set x b bytes are lt is.size)

-- what a new file has
pub mirrors_zero : (old new : Option (List ℕ)) (x : Image) (n : ℕ) → x ≡ replicate n zero_block → BecomesZero old new (length x * 1024) → IfSome new (λ xs. xs ≡ concat x)
mirrors_zero None new x n is becomes = subst (λ (o : Option (List ℕ)). IfSome o (λ xs. xs ≡ concat x)) (sym becomes) tt
mirrors_zero (Some old) new x n is becomes =
    subst (λ (o : Option (List ℕ)). IfSome o (λ xs. xs ≡ concat x)) (sym becomes)
    (ap (λ (l : Image). replicate (length l * 1024) 0) is ∙ ap (λ (k : ℕ). replicate (k * 1024) 0) (length-replicate n zero_block) ∙ sym (concat-zeroes n) ∙ sym (ap concat is))

none_by_length : (xs : List ℕ) → length xs ≡ 0 → xs ≡ []
none_by_length [] none = refl
none_by_length (x ∷ xs) none = absurd (omega (arith, none))

-- what a file has that was read whole
pub mirrors_read : (known now remaining left : Option (List ℕ)) (x : Image) (size : ℕ) → IsImage x → now ≡ known → AllRemain known remaining → IsLength known size
    → Consumes remaining left (concat x) → size ≡ length x * 1024 → IfSome now (λ xs. xs ≡ concat x)
mirrors_read None now remaining left x size are same all is read count = subst (λ (o : Option (List ℕ)). IfSome o (λ xs. xs ≡ concat x)) (sym same) tt
mirrors_read (Some xs) now remaining left x size are same all is read count =
    subst (λ (o : Option (List ℕ)). IfSome o (λ ys. ys ≡ concat x)) (sym same) (whole left (subst (λ (o : Option (List ℕ)). Consumes o left (concat x)) all read))
  where
    whole : (rest : Option (List ℕ)) → Consumes (Some xs) rest (concat x) → xs ≡ concat x
    whole None none = absurd none
    whole (Some ys) split =
        let nothing : length ys ≡ 0 = omega (arith, ap length split, length-append (concat x) ys, length-concat x are, is, count) in
        split ∙ ap (λ (l : List ℕ). concat x ++ l) (none_by_length ys nothing) ∙ append-nil (concat x)

module _ {F : Type 0} (bytes : F → Option (List ℕ)) (r : Result (FileDisk F) FileFault) where
  -- a disk that was just made mirrors its file
  pub mirrors_sized : (old : Option (List ℕ)) (copy : MemDisk) (n : ℕ) → copy.blocks.items ≡ replicate n zero_block → IfOk r (λ d. d.copy ≡ copy)
      → IfOk r (λ d. BecomesZero old (bytes d.file) (length copy.blocks.items * 1024)) → IfOk r (λ d. IfSome (bytes d.file) (λ xs. xs ≡ concat d.copy.blocks.items))
  mirrors_sized old copy n is same becomes = by r same becomes
    where
      by : (s : Result (FileDisk F) FileFault) → IfOk s (λ d. d.copy ≡ copy) → IfOk s (λ d. BecomesZero old (bytes d.file) (length copy.blocks.items * 1024))
          → IfOk s (λ d. IfSome (bytes d.file) (λ xs. xs ≡ concat d.copy.blocks.items))
      by (Ok d) here becomes = subst (λ (m : MemDisk). IfSome (bytes d.file) (λ xs. xs ≡ concat m.blocks.items)) (sym here) (mirrors_zero old (bytes d.file) copy.blocks.items n is becomes)
      by (Err e) here becomes = tt

-- a write that was done
pub writes_done : {T E : Type 0} (old new : Option (List ℕ)) (place : ℕ) (bytes : List ℕ) (r : Result T E) → WritesInPlace old new place bytes r → is_err r ≡ false
    → Reaches old (place + length bytes) → HasInPlace old new place bytes
writes_done old new place bytes (Ok t) does good = does
writes_done old new place bytes (Err e) does good = absurd (true≢false good)
