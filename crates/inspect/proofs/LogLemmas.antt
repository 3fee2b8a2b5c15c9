-- The lines of logged blocks, one after the other.
use Rattle.std.proofs.Common.{◌≡◌, ◌∙◌, ℕ, ◌+◌, ◌<◌, List, [], ◌∷◌, ◌++◌, length, get_or, take, Option, sym, ap, subst, arith, append_assoc}
use Rattle.std.specs.Io.KnownBytes.{Appends}
use Rattle.std.proofs.KnownBytes.{Appends-trans}
use Rattle.std.proofs.lemmas.List.{append-nil, length-take-le, take_more}
use Rattle.inspect.specs.Logging.{home_line, homes_text}

-- one more behind these
one_behind : (n place : ℕ) (homes : List ℕ) (home : ℕ) → homes_text n place (homes ++ home ∷ []) ≡ homes_text n place homes ++ home_line n (place + length homes) home
one_behind n place [] home = append-nil (home_line n place home) ∙ ap (λ (p : ℕ). home_line n p home) (omega arith)
one_behind n place (first ∷ homes) home =
    let line = home_line n place first in
    let rest = homes_text n (place + 1) homes in
    let at : place + 1 + length homes ≡ place + length (first ∷ homes) = omega arith in
    ap (λ (t : List ℕ). line ++ t) (one_behind n (place + 1) homes home)
    ∙ sym (append_assoc line rest (home_line n (place + 1 + length homes) home))
    ∙ ap (λ (p : ℕ). line ++ rest ++ home_line n p home) at

-- one line more
pub line_more : (n : ℕ) (homes : List ℕ) (k d : ℕ) (old mid new : Option (List ℕ)) → k < length homes → Appends old mid (homes_text n 0 (take k homes)) → Appends mid new (home_line n k (get_or homes k d)) → Appends old new (homes_text n 0 (take (k + 1) homes))
line_more n homes k d old mid new low before line =
    let home = get_or homes k d in
    let long : length (take k homes) ≡ k = length-take-le k homes (omega (arith, low)) in
    let at : 0 + length (take k homes) ≡ k = omega (arith, long) in
    let more : homes_text n 0 (take (k + 1) homes) ≡ homes_text n 0 (take k homes) ++ home_line n k home
    = ap (homes_text n 0) (take_more homes k d low) ∙ one_behind n 0 (take k homes) home ∙ ap (λ (place : ℕ). homes_text n 0 (take k homes) ++ home_line n place home) at in
    subst (Appends old new) (sym more) (Appends-trans old mid new (homes_text n 0 (take k homes)) (home_line n k home) before line)
