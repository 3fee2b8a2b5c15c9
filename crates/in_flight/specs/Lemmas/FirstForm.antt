-- In the first form an inode's last address is its only block of addresses, whose entries are data
-- blocks.
use Rattle.std.proofs.Common.{◌≡◌, ◌≢◌, ℕ, zero, suc, ◌+◌, ◌<◌, ◌≤◌, [], ◌∷◌, get_or, refl, sym, ap, subst, ◌∙◌, inl, arith}
use Rattle.in_flight.specs.Common.{count_of, depth_of, depths, Dinode, entry_of, Form, form_of, Gives, Image, IsFirstTree, LeavesAlike, left_under, names_left, ne_eqb, One, place_along, place_of, place_under}
use Rattle.in_flight.specs.Lemmas.GivenUp.{passes_first}
use Rattle.in_flight.specs.Lemmas.LeftInTrees.{MovesOn}
use Rattle.in_flight.specs.Lemmas.Wholes.{direct_depth}

module _ (x : Image) (one : form_of x ≡ One) where
  pub last_depth : depth_of x 12 ≡ 1
  last_depth = ap (λ (f : Form). get_or (depths f) 12 0) one

  pub first_depth : (k : ℕ) → k < 12 → depth_of x k ≡ 0
  first_depth k low = ap (λ (f : Form). get_or (depths f) k 0) one ∙ direct_depth One k low

  pub last_tree : (d : Dinode) → get_or d.addrs 12 0 ≢ 0 → IsFirstTree x d 12
  last_tree d some =
      let deep = last_depth in
      record {
        there = some;
        tree = λ z. omega (arith, z, deep);
        before = λ k low tree. absurd (tree (first_depth k low));
      }

  -- and where none is there, all the same is left
  pub none_between : (d : Dinode) (n from : ℕ) → get_or d.addrs 12 0 ≢ 0 →
      ((k : ℕ) → from ≤ k → k < from + n → entry_of x (get_or d.addrs 12 0) k ≡ 0) → LeavesAlike x d ((from + n) ∷ []) (from ∷ [])
  none_between d zero from some none c =
      let same : from + 0 ≡ from = omega arith in ap (λ k. count_of c (names_left x d (k ∷ []))) same
  none_between d (suc n) from some none c =
      let a = get_or d.addrs 12 0 in
      let gone : left_under x 0 [] (entry_of x a from) ≡ [] = ap (left_under x 0 []) (none from (omega arith) (omega arith)) in
      let one = passes_first x d 12 (from ∷ []) (suc from ∷ []) (last_tree d some)
      (subst (λ depth. MovesOn x depth (from ∷ []) a (suc from ∷ [])) (sym last_depth) (inl (gone, refl))) c in
      let rest = none_between d n (suc from) some (λ k above below. none k (omega (arith, above)) (omega (arith, below))) c in
      let later : from + suc n ≡ suc from + n = omega arith in
      ap (λ k. count_of c (names_left x d (k ∷ []))) later ∙ rest ∙ one
