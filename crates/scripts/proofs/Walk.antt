-- A walk over a list: what its elements gave so far, and that none so far is bad.
use Rattle.std.proofs.Common.{◌≡◌, ℕ, ◌+◌, ◌<◌, ◌≤◌, Bool, true, false, cond, not, List, [], ◌∷◌, ◌++◌, length, get_or, drop, Option, Some, None, refl, sym, ap, ◌∙◌, append_assoc, append-nil, length-append, zero-add, nat_lt, subst, arith}
use Rattle.std.proofs.lemmas.Bool.Decides.{nat_tests}
use Rattle.std.proofs.lemmas.List.{at_drop_all, at_drop_more}
use Rattle.std.proofs.lemmas.List.Splits.{length-slice_split}
use Rattle.std.proofs.lemmas.List.Sums.{count_by-le-length, length-filter}
use Rattle.std.specs.List.{cons_option, enumerate_from, filter, filter_map, position, position_or_len, slice_split}

-- got is what f gives of the first k elements, which are counted from 1
pub record HasRead {A B : Type 0} (f : ℕ × A → Option B) (all : List A) (k : ℕ) (got : List B) : Type 0 where
  pub so_far : got ++ filter_map f (enumerate_from (k + 1) (drop k all)) ≡ filter_map f (enumerate_from 1 all)

-- none of the first k elements is bad
pub record NoneBad {A : Type 0} (bad : A → Bool) (all : List A) (k : ℕ) : Type 0 where
  pub none : k + position_or_len bad (drop k all) ≡ position_or_len bad all

-- the element at k and what it gives
turn : {A B : Type 0} (f : ℕ × A → Option B) (all : List A) (k : ℕ) (got : List B) (x : A) (o : Option B) → HasRead f all k got → k < length all → x ≡ get_or all k x → f (k + 1, x) ≡ o → got ++ cons_option o (filter_map f (enumerate_from (k + 1 + 1) (drop (k + 1) all))) ≡ filter_map f (enumerate_from 1 all)
turn f all k got x o read within at gives =
    let step = at_drop_more (λ rest. got ++ filter_map f (enumerate_from (k + 1) rest)) all k x within in
    let here : o ≡ f (k + 1, get_or all k x) = sym gives ∙ ap (λ z. f (k + 1, z)) at in
    ap (λ o'. got ++ cons_option o' (filter_map f (enumerate_from (k + 1 + 1) (drop (k + 1) all)))) here ∙ sym step ∙ read.so_far

pub HasRead-start : {A B : Type 0} (f : ℕ × A → Option B) (all : List A) → HasRead f all 0 []
HasRead-start f all = record { so_far = refl }

pub HasRead-take : {A B : Type 0} (f : ℕ × A → Option B) (all : List A) (k : ℕ) (got : List B) (x : A) (y : B) → HasRead f all k got → k < length all → x ≡ get_or all k x → f (k + 1, x) ≡ Some y → HasRead f all (k + 1) (got ++ y ∷ [])
HasRead-take f all k got x y read within at gives =
    record { so_far = append_assoc got (y ∷ []) _ ∙ turn f all k got x (Some y) read within at gives }

pub HasRead-pass : {A B : Type 0} (f : ℕ × A → Option B) (all : List A) (k : ℕ) (got : List B) (x : A) → HasRead f all k got → k < length all → x ≡ get_or all k x → f (k + 1, x) ≡ None → HasRead f all (k + 1) got
HasRead-pass f all k got x read within at gives = record { so_far = turn f all k got x None read within at gives }

-- an element that gives something makes one more than what was got
pub HasRead-more : {A B : Type 0} (f : ℕ × A → Option B) (all : List A) (k : ℕ) (got : List B) (x : A) (y : B) → HasRead f all k got → k < length all → x ≡ get_or all k x → f (k + 1, x) ≡ Some y → length got < length (filter_map f (enumerate_from 1 all))
HasRead-more f all k got x y read within at gives =
    let e = ap length (turn f all k got x (Some y) read within at gives) in
    omega (arith, simp length-append at e)

pub HasRead-end : {A B : Type 0} (f : ℕ × A → Option B) (all : List A) (k : ℕ) (got : List B) → HasRead f all k got → length all ≤ k → got ≡ filter_map f (enumerate_from 1 all)
HasRead-end f all k got read over =
    let e = at_drop_all (λ rest. got ++ filter_map f (enumerate_from (k + 1) rest)) all k over in
    sym (append-nil got) ∙ sym e ∙ read.so_far

placed : (p n k : ℕ) → p ≡ k → k < n → cond (nat_lt p n) (Some p) None ≡ Some k
placed p n k e within = grind (arith, nat_tests)

unplaced : (p n : ℕ) → n ≤ p → cond (nat_lt p n) (Some p) None ≡ None
unplaced p n over = grind (arith, nat_tests)

pub NoneBad-start : {A : Type 0} (bad : A → Bool) (all : List A) → NoneBad bad all 0
NoneBad-start bad all = record { none = zero-add _ }

pub NoneBad-next : {A : Type 0} (bad : A → Bool) (all : List A) (k : ℕ) (x : A) → NoneBad bad all k → k < length all → x ≡ get_or all k x → bad x ≡ false → NoneBad bad all (k + 1)
NoneBad-next bad all k x read within at good =
    let step = at_drop_more (position_or_len bad) all k x within in
    let here : bad (get_or all k x) ≡ false = ap bad (sym at) ∙ good in
    let one : position_or_len bad (drop k all) ≡ 1 + position_or_len bad (drop (k + 1) all) = step ∙ ap (λ b. cond (not b) (1 + position_or_len bad (drop (k + 1) all)) 0) here in
    record { none = omega (arith, read.none) }

-- the element at k is the first bad one
pub NoneBad-stop : {A : Type 0} (bad : A → Bool) (all : List A) (k : ℕ) (x : A) → NoneBad bad all k → k < length all → x ≡ get_or all k x → bad x ≡ true → position bad all ≡ Some k
NoneBad-stop bad all k x read within at wrong =
    let step = at_drop_more (position_or_len bad) all k x within in
    let here : bad (get_or all k x) ≡ true = ap bad (sym at) ∙ wrong in
    let none : position_or_len bad (drop k all) ≡ 0 = step ∙ ap (λ b. cond (not b) (1 + position_or_len bad (drop (k + 1) all)) 0) here in
    placed _ (length all) k (omega (arith, read.none)) within

pub NoneBad-end : {A : Type 0} (bad : A → Bool) (all : List A) (k : ℕ) → NoneBad bad all k → length all ≤ k → position bad all ≡ None
NoneBad-end bad all k read over =
    let e = at_drop_all (position_or_len bad) all k over in
    unplaced _ (length all) (omega (arith, read.none))

-- what doesn't look at the number
pub filter_map-enumerate_from : {A B : Type 0} (f : A → Option B) (n : ℕ) (xs : List A) → filter_map (λ numbered. f numbered.1) (enumerate_from n xs) ≡ filter_map f xs
filter_map-enumerate_from f n [] = refl
filter_map-enumerate_from f n (x ∷ xs) = ap (cons_option (f x)) (filter_map-enumerate_from f (n + 1) xs)

-- the same, at a number that is equal to the place
pub at_number : {A : Type 0} (all : List A) (x : A) (n k : ℕ) → n ≡ k → (k < length all) × (x ≡ get_or all k x) → (n < length all) × (x ≡ get_or all n x)
at_number all x n k e turned = subst (λ m. (m < length all) × (x ≡ get_or all m x)) (sym e) turned

-- there is at most one part more than elements
pub length-slice_split-le : (p : ℕ → Bool) (text : List ℕ) → length (slice_split p text) ≤ length text + 1
length-slice_split-le p text = omega (arith, length-slice_split p text, count_by-le-length p text)

pub length-filter-slice_split-le : (p : List ℕ → Bool) (q : ℕ → Bool) (text : List ℕ) → length (filter p (slice_split q text)) ≤ length text + 1
length-filter-slice_split-le p q text =
    let parts = slice_split q text in
    omega (arith, length-filter p parts, count_by-le-length p parts, length-slice_split-le q text)
