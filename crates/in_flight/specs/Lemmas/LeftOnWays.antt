-- What is left of a file while the entries of a block of addresses are given up or passed over, to
-- which a way leads from the inode's address.
use Rattle.std.proofs.Common.{◌≡◌, ◌≢◌, ℕ, zero, suc, ◌+◌, ◌<◌, ◌≤◌, List, [], ◌∷◌, ◌++◌, length, get_or, refl, sym, ap, subst, ◌∙◌, inl, inr, arith}
use Rattle.in_flight.specs.Common.{count_of, depth_of, Dinode, entry_of, Gives, Image, IsFirstTree, LeavesAlike, led_to, left_under, names_left}
use Rattle.in_flight.specs.Lemmas.GivenUp.{passes_first}
use Rattle.in_flight.specs.Lemmas.LeftInTrees.{MovesOn, left_none}
use Rattle.in_flight.specs.Lemmas.Ways.{led_step, IsAhead}

module _ (x : Image) where
  -- what goes on under an entry goes on under the whole way
  module _ (R : ℕ → List ℕ → ℕ → List ℕ → Type 0)
      (deeper : (depth e a : ℕ) (cursor new : List ℕ) → a ≢ 0 → R depth cursor (entry_of x a e) new → R (suc depth) (e ∷ cursor) a (e ∷ new)) where
    under_way : (way : List ℕ) (depth below a n : ℕ) (cursor new : List ℕ) → depth ≡ length way + below → led_to x way a ≡ n → n ≢ 0 →
        R below cursor n new → R depth (way ++ cursor) a (way ++ new)
    under_way [] depth below a n cursor new deep led some r =
        let same : below ≡ depth = omega (arith, deep) in
        subst (λ d. R d cursor a new) same (subst (λ b. R below cursor b new) (sym led) r)
    under_way (e ∷ way) zero below a n cursor new deep led some r = absurd (omega (arith, deep))
    under_way (e ∷ way) (suc depth) below a n cursor new deep led some r =
        let step = led_step x e way a n led some in
        deeper depth e a (way ++ cursor) (way ++ new) step.0
        (under_way way depth below (entry_of x a e) n cursor new (omega (arith, deep)) step.1 some r)

  -- all under the next entry was given up but one block, which is given up now
  pub gives_on_way : (way : List ℕ) (depth below a n e b : ℕ) (rest : List ℕ) → depth ≡ length way + suc below → led_to x way a ≡ n → n ≢ 0 →
      left_under x below rest (entry_of x n e) ≡ b ∷ [] → Gives x depth (way ++ e ∷ rest) a b (way ++ suc e ∷ [])
  gives_on_way way depth below a n e b rest deep led some one =
      under_way (λ d cursor c new. Gives x d cursor c b new) (λ d f c cursor new there r. (there, inr (new, r, refl)))
      way depth (suc below) a n (e ∷ rest) (suc e ∷ []) deep led some (some, inl (one, refl))

  moves_on_way : (way : List ℕ) (depth below a n : ℕ) (cursor new : List ℕ) → depth ≡ length way + below → led_to x way a ≡ n → n ≢ 0 →
      MovesOn x below cursor n new → MovesOn x depth (way ++ cursor) a (way ++ new)
  moves_on_way way depth below a n cursor new deep led some moves =
      under_way (λ d c b l. MovesOn x d c b l) (λ d f c old next there r. inr (next, r, refl)) way depth below a n cursor new deep led some moves

  -- under the first block of addresses that is there
  module _ (d : Dinode) (slot : ℕ) (way : List ℕ) (n below : ℕ) (first : IsFirstTree x d slot) (deep : depth_of x slot ≡ length way + suc below)
      (led : led_to x way (get_or d.addrs slot 0) ≡ n) (some : n ≢ 0) where
    -- the entries of a block of addresses begin
    pub begun_alike : LeavesAlike x d (way ++ 0 ∷ []) (way ++ [])
    begun_alike = passes_first x d slot (way ++ []) (way ++ 0 ∷ []) first
        (moves_on_way way (depth_of x slot) (suc below) (get_or d.addrs slot 0) n [] (0 ∷ []) deep led some refl)

    one_passed : (e : ℕ) → entry_of x n e ≡ 0 → LeavesAlike x d (way ++ suc e ∷ []) (way ++ e ∷ [])
    one_passed e none = passes_first x d slot (way ++ e ∷ []) (way ++ suc e ∷ []) first
        (moves_on_way way (depth_of x slot) (suc below) (get_or d.addrs slot 0) n (e ∷ []) (suc e ∷ []) deep led some
        (inl (ap (left_under x below []) none ∙ left_none x below [], refl)))

    -- entries that are not there are passed over
    pub passed_alike : (count e : ℕ) → ((k : ℕ) → e ≤ k → k < e + count → entry_of x n k ≡ 0) → LeavesAlike x d (way ++ (e + count) ∷ []) (way ++ e ∷ [])
    passed_alike zero e none c =
        let same : e + 0 ≡ e = omega arith in
        ap (λ k. count_of c (names_left x d (way ++ k ∷ []))) same
    passed_alike (suc count) e none c =
        let one = one_passed e (none e (omega arith) (omega arith)) c in
        let rest = passed_alike count (suc e) (λ k above below. none k (omega (arith, above)) (omega (arith, below))) c in
        let later : e + suc count ≡ suc e + count = omega arith in
        ap (λ k. count_of c (names_left x d (way ++ k ∷ []))) later ∙ rest ∙ one

-- the way to a cursor is ahead of it, and so is its entry
pub ahead_of : (way : List ℕ) (e : ℕ) → IsAhead (way ++ e ∷ []) way
ahead_of [] e = tt
ahead_of (f ∷ way) e = inr (refl, ahead_of way e)

pub ahead_at : (way : List ℕ) (e : ℕ) → IsAhead (way ++ e ∷ []) (way ++ e ∷ [])
ahead_at [] e = inr (refl, tt)
ahead_at (f ∷ way) e = inr (refl, ahead_at way e)
