-- The blocks that inodes of the first form name, where none is at two places.
use Rattle.std.proofs.Common.{◌≡◌, ◌≢◌, ℕ, ◌-◌, ◌<◌, ◌≤◌, List, get_or, sym, ap, ◌∙◌, ⊎_elim, arith}
use Rattle.std.specs.List.{AllByRecursion, flat_map, range_with_len}
use Rattle.blocks.specs.Disk.{Image}
use Rattle.model.specs.Common.{address_along, addresses_in, cases_eq, depths, form_of, pointers_along}
use Rattle.model.specs.declared.types.image.Dinode.{Dinode}
use Rattle.model.specs.declared.types.image.Form.{Form}
use Rattle.model.specs.declared.types.image.Form.TheVariants.{One}
use Rattle.model.specs.declared.types.image.Pointer.{Pointer}
use Rattle.model.specs.Lemmas.Counts.{count_flat, count_of-All, count_two}
use Rattle.model.specs.Lemmas.Frames.{pointers_used}
use Rattle.model.specs.Places.{address_in, pointers_in}
use Rattle.model.specs.Soundness.{count_of}
use Rattle.conversion.proofs.CountLemmas.{at_both, at_data, at_node, short}

-- a used number of n
pub record IsUsedOf (inode : ℕ → Dinode) (n i : ℕ) : Type 0 where
  pub some : 1 ≤ i
  pub low : i < n
  pub used : (inode i).kind ≢ 0

-- the places of inodes of image z
abbrev pub places_by : Image → (ℕ → Dinode) → ℕ → List ℕ
places_by z inode n = flat_map (λ i. addresses_in (pointers_in z (inode i))) (range_with_len 1 (n - 1))

module _ (z : Image) (inode : ℕ → Dinode) (n : ℕ) (one : form_of z ≡ One) where
  count_at : (i b : ℕ) → IsUsedOf inode n i → count_of b (addresses_in (pointers_in z (inode i)))
      ≡ count_of b (addresses_in (pointers_along z (inode i).size 0 (short 12) (inode i).addrs))
  count_at i b u =
      ap (λ (l : List Pointer). count_of b (addresses_in l))
      (pointers_used z (inode i) u.used ∙ ap (λ (f : Form). pointers_along z (inode i).size 0 (depths f) (inode i).addrs) one)

  count_below : (i b : ℕ) → IsUsedOf inode n i → count_of b (addresses_in (pointers_in z (inode i))) ≤ count_of b (places_by z inode n)
  count_below i b u =
      count_flat (λ j. addresses_in (pointers_in z (inode j))) b 1 (n - 1) i u.some (omega (arith, u.some, u.low))

  -- block k of its file
  along : (i k b : ℕ) → address_in z (inode i) k ≡ b → address_along z k (short 12) (inode i).addrs ≡ b
  unfolding address_in
  along i k b leads = ap (λ (f : Form). address_along z k (depths f) (inode i).addrs) (sym one) ∙ leads

  module _ (P : ℕ → Type 0) (all : (i : ℕ) → 1 ≤ i → i < n → AllByRecursion P (addresses_in (pointers_in z (inode i)))) where
    placed : (i b : ℕ) → IsUsedOf inode n i → 1 ≤ count_of b (addresses_in (pointers_in z (inode i))) → P b
    placed i b u some = count_of-All P b (addresses_in (pointers_in z (inode i))) (all i u.some u.low) (λ none. absurd (omega (arith, none, some)))

    -- what is known of places is known of its block of addresses, and of its data
    pub node_at_place : (i b : ℕ) → IsUsedOf inode n i → b ≢ 0 → get_or (inode i).addrs 12 0 ≡ b → P b
    node_at_place i b u some node =
        let there = at_node z (inode i).size b some 0 12 (inode i).addrs node in
        placed i b u (omega (arith, there, count_at i b u))

    pub data_at_place : (i k b : ℕ) → IsUsedOf inode n i → b ≢ 0 → address_in z (inode i) k ≡ b → P b
    data_at_place i k b u some leads =
        let there = at_data z (inode i).size b some 0 12 k (inode i).addrs (along i k b leads) in
        placed i b u (omega (arith, there, count_at i b u))

  -- no block of data is the block of addresses of a number
  pub apart_in : ((b : ℕ) → count_of b (places_by z inode n) ≤ 1) → (i j k b : ℕ) → IsUsedOf inode n i → IsUsedOf inode n j → b ≢ 0 →
      address_in z (inode i) k ≡ b → get_or (inode j).addrs 12 0 ≡ b → ⊥
  apart_in once i j k b u v some leads node =
      ⊎_elim
      (λ (e : i ≡ j).
      let same : get_or (inode i).addrs 12 0 ≡ b = ap (λ (q : ℕ). get_or (inode q).addrs 12 0) e ∙ node in
      let both = at_both z (inode i).size b some 0 12 k (inode i).addrs (along i k b leads) same in
      let all = count_below i b u in
      omega (arith, both, all, once b, count_at i b u))
      (λ (ne : i ≢ j).
      let first = at_data z (inode i).size b some 0 12 k (inode i).addrs (along i k b leads) in
      let second = at_node z (inode j).size b some 0 12 (inode j).addrs node in
      let all = count_two (λ q. addresses_in (pointers_in z (inode q))) b 1 (n - 1) i j u.some (omega (arith, u.some, u.low)) v.some (omega (arith, v.some, v.low)) ne in
      omega (arith, first, second, all, once b, count_at i b u, count_at j b v))
      (cases_eq i j)
