-- A moved inode leads to the moved blocks, where its block of addresses is a moved one.
use Rattle.std.proofs.Common.{◌≡◌, ◌≢◌, ℕ, zero, suc, ◌-◌, ◌/◌, ◌<◌, ◌≤◌, Bool, true, false, cond, ltb, List, [], ◌∷◌, get_or, length, map, refl, sym, ap, ◌∙◌, ⊎_elim, arith}
use Rattle.std.specs.List.{range_with_len}
use Rattle.std.proofs.lemmas.List.{get_or-map, length-map}
use Rattle.model.specs.Common.{address_along, address_under, block_at, blocks_for, cases_eq, cases_lt, data_at, form_of, get_or_past, Image, ne_eqb, reach, words_of}
use Rattle.model.specs.declared.types.image.Dinode.{Dinode}
use Rattle.model.specs.declared.types.image.Form.TheVariants.{One}
use Rattle.model.specs.Files.{bytes_in, file_of, joined}
use Rattle.model.specs.Lemmas.Frames.{address_block, flat_map_same}
use Rattle.model.specs.Places.{address_in}
use Rattle.conversion.specs.Common.{moved, moved_inode}
use Rattle.conversion.proofs.CountLemmas.{short}

-- a number of a moved list, or none past its end
pub moved_at : (from to : ℕ) (words : List ℕ) (k : ℕ) → get_or (map (moved from to) words) k 0 ≡ moved from to (get_or words k 0)
moved_at from to words k =
    ⊎_elim
    (λ (low : k < length words). get_or-map (moved from to) words k 0 0 low)
    (λ (past : length words ≤ k).
    get_or_past (map (moved from to) words) k 0 (omega (arith, past, length-map words (moved from to)))
    ∙ sym (ap (moved from to) (get_or_past words k 0 past)))
    (cases_lt k (length words))

module _ (x y : Image) (from to : ℕ) where
  -- a block of addresses was moved, and each of its addresses
  abbrev pub IsMovedNode : ℕ → Type 0
  IsMovedNode a = (moved from to a ≢ 0) × (words_of (block_at y (moved from to a)) ≡ map (moved from to) (words_of (block_at x a)))

  under_moved : (k a : ℕ) → (a ≢ 0 → IsMovedNode a) →
      address_under y 1 k (moved from to a) ≡ moved from to (address_under x 1 k a)
  under_moved k a node =
      ⊎_elim
      (λ (e : a ≡ 0). rw e refl)
      (λ (some : a ≢ 0).
      let is = node some in
      address_block y 1 k (moved from to a) (λ e. absurd (cc e)) is.0
      ∙ ap (λ (words : List ℕ). get_or words (k / reach 0) 0) is.1
      ∙ moved_at from to (words_of (block_at x a)) (k / reach 0)
      ∙ ap (moved from to) (sym (address_block x 1 k a (λ e. absurd (cc e)) some)))
      (cases_eq a 0)

  pub along_moved : (n k : ℕ) (addresses : List ℕ) → (get_or addresses n 0 ≢ 0 → IsMovedNode (get_or addresses n 0)) →
      address_along y k (short n) (map (moved from to) addresses) ≡ moved from to (address_along x k (short n) addresses)
  along_moved zero k [] node = refl
  along_moved zero k (a ∷ rest) node = by_reach (ltb k (reach 1))
    where
      by_reach : (v : Bool) → cond v (address_under y 1 k (moved from to a)) 0 ≡ moved from to (cond v (address_under x 1 k a) 0)
      by_reach true = under_moved k a node
      by_reach false = refl
  along_moved (suc n) k [] node = refl
  along_moved (suc n) k (a ∷ rest) node = by_reach (along_moved n (k - reach 0) rest node) (ltb k (reach 0))
    where
      by_reach : address_along y (k - reach 0) (short n) (map (moved from to) rest) ≡ moved from to (address_along x (k - reach 0) (short n) rest) →
          (v : Bool) →
          cond v (moved from to a) (address_along y (k - reach 0) (short n) (map (moved from to) rest))
          ≡ moved from to (cond v a (address_along x (k - reach 0) (short n) rest))
      by_reach more true = refl
      by_reach more false = more

  -- an inode's blocks of data are moved
  pub address_moved : (d : Dinode) (k : ℕ) → form_of x ≡ One → form_of y ≡ One →
      (get_or d.addrs 12 0 ≢ 0 → IsMovedNode (get_or d.addrs 12 0)) →
      address_in y (moved_inode from to d) k ≡ moved from to (address_in x d k)
  unfolding address_in
  address_moved d k one_x one_y node =
      rw (one_x, one_y) (along_moved 12 k d.addrs node)

  -- its file is the same where its blocks of data came over
  pub file_moved : (d : Dinode) → form_of x ≡ One → form_of y ≡ One →
      (get_or d.addrs 12 0 ≢ 0 → IsMovedNode (get_or d.addrs 12 0)) →
      ((k : ℕ) → d.kind ≢ 0 → data_at y (moved from to (address_in x d k)) ≡ data_at x (address_in x d k)) →
      file_of y (moved_inode from to d) ≡ file_of x d
  unfolding file_of bytes_in joined
  file_moved d one_x one_y node same =
      ⊎_elim (λ (free : d.kind ≡ 0). rw free refl)
      (λ (used : d.kind ≢ 0).
      let all = flat_map_same (λ k. data_at y (address_in y (moved_inode from to d) k)) (λ k. data_at x (address_in x d k))
      (λ k. ap (data_at y) (address_moved d k one_x one_y node) ∙ same k used) (range_with_len 0 (blocks_for d.size)) in
      rw (ne_eqb d.kind 0 used, all) refl)
      (cases_eq d.kind 0)
