-- Lines that are printed one after the other.
use Rattle.std.proofs.lemmas.Bool.{cases_lt, le-leb, lt-leb}
use Rattle.std.proofs.Common.{◌≡◌, ◌∙◌, ◌<◌, ◌≤◌, ◌+◌, ◌-◌, ℕ, nat_le, ⊎_elim, List, [], ◌∷◌, ◌++◌, flat_map, length, Option, sym, ap, subst, arith}
use Rattle.std.proofs.KnownBytes.{Appends-trans}
use Rattle.std.proofs.lemmas.Grind.{flat_map-append}
use Rattle.std.proofs.lemmas.List.{append_assoc, flat_map_more}
use Rattle.std.specs.Io.KnownBytes.{Appends}
use mathlib.Core.List.{IsPrefix}
use Rattle.model.specs.declared.types.operations.Answer.{Answer}

-- one line more
pub one_more_line : {A : Type 0} (line : A → List ℕ) (done : List A) (a : A) (old mid new : Option (List ℕ)) → Appends old mid (flat_map line done) → Appends mid new (line a) → Appends old new (flat_map line (done ++ a ∷ []))
one_more_line line done a old mid new before here = subst (Appends old new) (flat_map_more line [] done a) (Appends-trans old mid new _ _ before here)

-- lines, more lines, and a last text
pub lines_and_last : {A : Type 0} (line : A → List ℕ) (first more : List A) (last : List ℕ) (a b c d : Option (List ℕ)) → Appends a b (flat_map line first) → Appends b c (flat_map line more) → Appends c d last → Appends a d (flat_map line (first ++ more) ++ last)
lines_and_last line first more last a b c d one two three =
    Appends-trans a c d (flat_map line (first ++ more)) last (subst (Appends a c) (sym (flat_map-append line first more)) (Appends-trans a b c _ _ one two)) three

head_is : (x a : Answer) (xs ys : List Answer) → x ∷ xs ≡ a ∷ ys → x ≡ a
head_is x a xs ys is = cc is

tail_is : (x a : Answer) (xs ys : List Answer) → x ∷ xs ≡ a ∷ ys → xs ≡ ys
tail_is x a xs ys is = cc is

-- the oldest of the answers that are known was polled: it is the first of those that are left
pub next_known : (a : Answer) (left known next behind more : List Answer) → left ++ behind ≡ known → known ++ more ≡ a ∷ next → 0 < length left → (rest : List Answer) × (left ≡ a ∷ rest) × IsPrefix rest next
next_known a [] known next behind more one two some = absurd (omega (arith, some))
next_known a (x ∷ rest) known next behind more one two some =
    let all : x ∷ (rest ++ (behind ++ more)) ≡ a ∷ next = sym (append_assoc (x ∷ rest) behind more) ∙ ap (λ (l : List Answer). l ++ more) one ∙ two in
    (rest, ap (λ (h : Answer). h ∷ rest) (head_is x a (rest ++ (behind ++ more)) next all), (behind ++ more, tail_is x a (rest ++ (behind ++ more)) next all))

-- so many behind the first make all
pub enough : (w a k : ℕ) → nat_le (w - a) k ≡ nat_le w (a + k)
enough w a k = ⊎_elim
    (λ (over : a + k < w). lt-leb (w - a) k (omega (arith, over)) ∙ sym (lt-leb w (a + k) over))
    (λ (le : w ≤ a + k). le-leb (w - a) k (omega (arith, le)) ∙ sym (le-leb w (a + k) le))
    (cases_lt (a + k) w)
