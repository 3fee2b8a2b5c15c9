-- Recovery leaves no log, and does not look at the homes.
use Rattle.std.proofs.Common.{◌≡◌, ◌≢◌, ℕ, ◌+◌, ◌<◌, ◌≤◌, true, false, cond, not, ◌&&◌, eqb, leb, ltb, min, List, [], ◌∷◌, length, get_or, set, take, drop, map, Option, Some, None, refl, sym, ap, ◌∙◌, ⊎_elim, arith}
use Rattle.std.specs.List.{range_with_len, list_any, position_from}
use Rattle.model.specs.Common.{are_distinct, are_in_place, block_at, block_from_log, both_ways, cases_Bool, cases_eq, cases_lt, eq-eqb, ext_get_or, get_or-set_other, get_or_past, homes_in, homes_of, HomesAreRewritten, HomeWritesKeep, Image, is_home, is_lawful_log, leb-true, length-set, length-take, list_any_at, logged_count, logged_in, ltb-true, ne_eqb, not-true, place_among, RecoversOnce, words_of}
use Rattle.model.specs.Fields.{u32_at}
use Rattle.model.specs.Log.{recovered, recovered_block}
use Rattle.model.specs.Agreement.{Agrees}
use Rattle.model.specs.Lemmas.Log.{both_of, lawful_homes, recovered_empty, logged_count-recovered}

-- no bytes are the number 0
pub u32_at-nil : u32_at [] 0 ≡ 0
unfolding u32_at
u32_at-nil = refl

-- a log's header lies inside the image
pub logged_count-short : (x : Image) → length x ≤ 2 → logged_count x ≡ 0
logged_count-short x h = ap (λ b. u32_at b 0) (get_or_past x 2 [] h) ∙ u32_at-nil

-- recovery leaves an empty log
pub logged_count-left : (x : Image) → logged_count (recovered x) ≡ 0
logged_count-left x =
    ⊎_elim (λ (long : 2 < length x). logged_count-recovered x long)
    (λ (short : length x ≤ 2). ap logged_count (recovered_empty x (logged_count-short x short)) ∙ logged_count-short x short)
    (cases_lt 2 (length x))

pub recovers_once : RecoversOnce
recovers_once x = recovered_empty (recovered x) (logged_count-left x)

-- each home lies behind the log
pub home_behind : (homes : List ℕ) (size b : ℕ) → are_in_place homes size ≡ true → list_any (λ h. eqb h b) homes ≡ true →
    (33 ≤ b) × (b < size)
home_behind [] size b all found = absurd (cc found)
home_behind (home ∷ homes) size b all found =
    let parts = both_of (leb 33 home && ltb home size) (are_in_place homes size) all in
    let one = both_of (leb 33 home) (ltb home size) parts.0 in
    let low = leb-true 33 home one.0 in
    let high = ltb-true home size one.1 in
    ⊎_elim (λ (e : home ≡ b). (omega arith, omega arith))
    (λ (ne : home ≢ b). home_behind homes size b parts.1 (rw (ne_eqb home b ne) at found)) (cases_eq home b)

pub home_of_log : (x : Image) (b : ℕ) → is_lawful_log x ≡ true → is_home x b ≡ true → (33 ≤ b) × (b < length x)
home_of_log x b lawful home = home_behind (homes_of x) (length x) b (lawful_homes x lawful) home

-- a place found lies in the list
pub place_below : (homes : List ℕ) (n b j : ℕ) → position_from (λ h. eqb h b) n homes ≡ Some j → j < n + length homes
place_below [] n b j e = absurd (cc e)
place_below (home ∷ homes) n b j e =
    ⊎_elim
    (λ (is : home ≡ b). let here : Some n ≡ Some j = rw (eq-eqb home b is) at e in let s : n ≡ j = cc here in omega arith)
    (λ (ne : home ≢ b). let r = place_below homes (n + 1) b j (rw (ne_eqb home b ne) at e) in omega arith)
    (cases_eq home b)

-- what has no place is no home
pub no_place : (homes : List ℕ) (n b : ℕ) → position_from (λ h. eqb h b) n homes ≡ None → list_any (λ h. eqb h b) homes ≡ false
no_place [] n b e = refl
no_place (home ∷ homes) n b e =
    ⊎_elim (λ (is : home ≡ b). absurd (let here : Some n ≡ None = rw (eq-eqb home b is) at e in cc here))
    (λ (ne : home ≢ b). rw (ne_eqb home b ne) (no_place homes (n + 1) b (rw (ne_eqb home b ne) at e)))
    (cases_eq home b)

pub few_homes : (x : Image) → length (homes_of x) ≤ 30
few_homes x = omega (arith, length-take (min (logged_count x) 30) (words_of (drop 4 (block_at x 2))))

pub no_homes : (x : Image) → logged_count x ≡ 0 → homes_of x ≡ []
no_homes x e = ap (λ n. take (min n 30) (words_of (drop 4 (block_at x 2)))) e

pub recovered_map : (x : Image) → logged_count x ≢ 0 → recovered x ≡ map (recovered_block x) (range_with_len 0 (length x))
unfolding recovered
recovered_map x some = rw (ne_eqb (logged_count x) 0 some) refl

-- images of one size whose blocks are recovered alike
pub recovered_alike : (x y : Image) → logged_count x ≢ 0 → logged_count y ≢ 0 → length y ≡ length x →
    ((b : ℕ) → recovered_block y b ≡ recovered_block x b) → recovered y ≡ recovered x
recovered_alike x y some some' size same =
    recovered_map y some' ∙ ap (λ n. map (recovered_block y) (range_with_len 0 n)) size
    ∙ ap (λ (f : ℕ → List ℕ). map f (range_with_len 0 (length x))) (λ i b. same b i) ∙ sym (recovered_map x some)

from_log_alike : (x y : Image) (b : ℕ) (p : Option ℕ) → ((j : ℕ) → p ≡ Some j → block_at y (3 + j) ≡ block_at x (3 + j)) →
    (p ≡ None → block_at y b ≡ block_at x b) → block_from_log y b p ≡ block_from_log x b p
from_log_alike x y b (Some j) some none = some j refl
from_log_alike x y b None some none = none refl

-- the blocks that are no homes of the log of x are the same in y
abbrev pub AgreesBesides : Image → Image → Type 0
AgreesBesides x y = Agrees (λ b. not (is_home x b)) x y

besides : (x y : Image) (b : ℕ) → AgreesBesides x y → is_home x b ≡ false → block_at y b ≡ block_at x b
besides x y b agree other = agree b (ap not other)

low_is_no_home : (x : Image) (b : ℕ) → is_lawful_log x ≡ true → b < 33 → is_home x b ≡ false
low_is_no_home x b lawful low =
    ⊎_elim (λ (t : is_home x b ≡ true). absurd (let h = (home_of_log x b lawful t).0 in omega arith)) (λ (f : is_home x b ≡ false). f)
    (cases_Bool (is_home x b))

-- such an image has the same log
pub header_besides : (x y : Image) → is_lawful_log x ≡ true → AgreesBesides x y → block_at y 2 ≡ block_at x 2
header_besides x y lawful agree = besides x y 2 agree (low_is_no_home x 2 lawful (omega arith))

pub is_lawful_log-besides : (x y : Image) → is_lawful_log x ≡ true → length y ≡ length x → AgreesBesides x y → is_lawful_log y ≡ true
is_lawful_log-besides x y lawful size agree =
    ap (λ h. leb (logged_in h) 30 && are_in_place (homes_in h) (length y) && are_distinct (homes_in h)) (header_besides x y lawful agree)
    ∙ ap (λ n. leb (logged_count x) 30 && are_in_place (homes_of x) n && are_distinct (homes_of x)) size ∙ lawful

-- where something was logged, each block is recovered alike
recovered_besides : (x y : Image) → is_lawful_log x ≡ true → AgreesBesides x y → (b : ℕ) → recovered_block y b ≡ recovered_block x b
unfolding recovered_block
recovered_besides x y lawful agree b =
    let header = header_besides x y lawful agree in
    let few = few_homes x in
    let chosen : block_from_log y b (place_among (homes_of y) b) ≡ block_from_log x b (place_among (homes_of x) b)
    = ap (λ h. block_from_log y b (place_among (homes_in h) b)) header
    ∙ from_log_alike x y b (place_among (homes_of x) b)
    (λ j e. let low = place_below (homes_of x) 0 b j e in besides x y (3 + j) agree (low_is_no_home x (3 + j) lawful (omega arith)))
    (λ e. besides x y b agree (no_place (homes_of x) 0 b e)) in
    ap (λ c. cond (eqb b 2) (recovered_block x 2) c) chosen

pub homes_are_rewritten : HomesAreRewritten
homes_are_rewritten x y lawful size agree =
    ⊎_elim
    (λ (none : logged_count x ≡ 0).
    let all : y ≡ x
    = ext_get_or [] y x size (λ b h. besides x y b agree (ap (list_any (λ h. eqb h b)) (no_homes x none))) in
    ap recovered all)
    (λ (some : logged_count x ≢ 0).
    let header = header_besides x y lawful agree in
    recovered_alike x y some (λ e. some (sym (ap (λ h. u32_at h 0) header) ∙ e)) size (recovered_besides x y lawful agree))
    (cases_eq (logged_count x) 0)

-- the k-th home is a home
home_at : (x : Image) (k : ℕ) → k < length (homes_of x) → is_home x (get_or (homes_of x) k 0) ≡ true
home_at x k h =
    list_any_at (λ home. eqb home (get_or (homes_of x) k 0)) (homes_of x) k 0 h (eq-eqb (get_or (homes_of x) k 0) (get_or (homes_of x) k 0) refl)

pub home_writes_keep : HomeWritesKeep
home_writes_keep x k lawful h =
    let home = get_or (homes_of x) k 0 in
    let bytes = block_at x (3 + k) in
    homes_are_rewritten x (set x home bytes) lawful (length-set x home bytes)
    (λ b other. get_or-set_other x home b bytes []
    (λ e. both_ways (is_home x b) (not-true (is_home x b) other) (ap (is_home x) e ∙ home_at x k h)))
