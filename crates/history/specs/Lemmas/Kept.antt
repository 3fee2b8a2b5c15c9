-- Which entries of a journal are kept, and what replaying one more gives.
use Rattle.std.proofs.Common.{◌≡◌, ℕ, ◌<◌, ◌≤◌, Bool, true, false, cond, ◌&&◌, leb, eqb, List, [], ◌∷◌, ◌++◌, refl, sym, ◌∙◌, ap, arith}
use Rattle.std.specs.List.{list_all}
use mathlib.Core.List.{IsPrefix}
use Rattle.history.specs.Common.{append-nil, AreUpTo, both_of, Entry, filter-append, is_changing, kept, le-leb, leb-true, list_all-append, lt-leb, own}

-- more entries at the end
pub kept-append : (n k : ℕ) (es fs : List Entry) → kept n (es ++ fs) k ≡ kept n es k ++ kept n fs k
kept-append n k es fs = filter-append (λ (e : Entry). is_changing n e.op && leb e.group k) es fs

-- a journal with entries of the groups up to a keeps no more for a later group
pub kept_up_to : (n a b : ℕ) (es : List Entry) → AreUpTo a es → a ≤ b → kept n es b ≡ kept n es a
kept_up_to n a b [] all le = refl
kept_up_to n a b (e ∷ es) all le =
    let here = both_of (leb e.group a) (list_all (λ (f : Entry). leb f.group a) es) all in
    let same : leb e.group b ≡ leb e.group a = le-leb e.group b (omega (arith, (leb-true e.group a here.0), le)) ∙ sym here.0 in
    ap (λ (t : Bool). cond (is_changing n e.op && t) (e ∷ kept n es b) (kept n es b)) same
    ∙ ap (λ (l : List Entry). cond (is_changing n e.op && leb e.group a) (e ∷ l) l) (kept_up_to n a b es here.1 le)

-- more groups are opened
pub up_to_later : (a b : ℕ) (es : List Entry) → AreUpTo a es → a ≤ b → AreUpTo b es
up_to_later a b [] all le = refl
up_to_later a b (e ∷ es) all le =
    let here = both_of (leb e.group a) (list_all (λ (f : Entry). leb f.group a) es) all in
    rw (le-leb e.group b (omega (arith, (leb-true e.group a here.0), le))) (up_to_later a b es here.1 le)

-- an entry of one of them
pub up_to_one_more : (a : ℕ) (es : List Entry) (e : Entry) → AreUpTo a es → e.group ≤ a → AreUpTo a (es ++ e ∷ [])
up_to_one_more a es e all le = list_all-append (λ (f : Entry). leb f.group a) es (e ∷ []) ∙ rw (all, le-leb e.group a le) refl

-- one entry by itself
pub kept_not_yet : (n k : ℕ) (e : Entry) → k < e.group → kept n (e ∷ []) k ≡ []
kept_not_yet n k e later = by_op (is_changing n e.op)
  where
    by_op : (c : Bool) → cond (c && leb e.group k) (e ∷ []) [] ≡ []
    by_op true = rw (lt-leb e.group k later) refl
    by_op false = refl

-- nor is one that changes nothing
pub kept_not_changing : (n k : ℕ) (e : Entry) → is_changing n e.op ≡ false → kept n (e ∷ []) k ≡ []
kept_not_changing n k e still = rw still refl

-- one entry more, that changes nothing
pub kept_still : (n k : ℕ) (es : List Entry) (e : Entry) → is_changing n e.op ≡ false → kept n (es ++ e ∷ []) k ≡ kept n es k
kept_still n k es e still = kept-append n k es (e ∷ []) ∙ ap (λ (fs : List Entry). kept n es k ++ fs) (kept_not_changing n k e still) ∙ append-nil (kept n es k)

-- what is a beginning is one of each process's own entries
pub own_beginning : (p : ℕ) (xs ys : List Entry) → IsPrefix xs ys → IsPrefix (own p xs) (own p ys)
own_beginning p xs ys is = (own p is.0, sym (filter-append (λ (e : Entry). eqb e.pid p) xs is.0) ∙ ap (own p) is.1)
