-- Ways to the blocks of a file, step by step.
use Rattle.std.proofs.Common.{◌≡◌, ◌≢◌, ℕ, zero, suc, ◌+◌, ◌-◌, ◌*◌, ◌/◌, ◌%◌, ◌^◌, ◌<◌, ◌≤◌, List, length, get_or, drop, refl, sym, ap, ◌∙◌, arith}
use Rattle.std.proofs.lemmas.Nat.{div_below}
use Rattle.std.proofs.Math.Nat.{pow-suc}
use Rattle.std.proofs.Math.Numerals.{sub-one}
use Rattle.offline.specs.Common.{address_along, address_block, address_under, block_at, depths, Dinode, drop_all, drop_more, Form, form_of, Image, le-ltb, LeadsAlong, LeadsUnder, LiesBehindLog, lt-ltb, reach, reach_pos, words_of}
use Rattle.model.specs.Places.{address_in}

-- ---- down from an address

-- no block stands behind none
pub under_zero : (y : Image) (depth k address : ℕ) → address ≡ 0 → 0 ≡ address_under y depth k address
under_zero y zero k address none = sym none
under_zero y (suc depth) k address none = rw none refl

-- the entry of the way is one of the block's
pub entry_inside : (depth k : ℕ) → depth ≢ 0 → k < reach depth → k / reach (depth - 1) < 256
entry_inside zero k deep low = absurd (deep refl)
entry_inside (suc depth) k deep low =
    let turned : 256 ^ depth * 256 ≡ 256 * reach depth = grind arith in
    rw sub-one (div_below k (reach depth) 256 (reach_pos depth) (omega (arith, low, (pow-suc 256 depth), turned)))

-- a block of addresses on the way, and on from it
pub leads_block : (y : Image) (depth k address : ℕ) → depth ≢ 0 → address ≢ 0 → LeadsUnder y depth k address →
    LiesBehindLog y address
    × LeadsUnder y (depth - 1) (k % reach (depth - 1)) (get_or (words_of (block_at y address)) (k / reach (depth - 1)) 0)
leads_block y zero k address deep some h = absurd (deep refl)
leads_block y (suc depth) k address deep some h = rw sub-one (h some)

-- the same with what was read
module _ (y z : Image) (depth k address below next : ℕ) (entries : List ℕ) (deep : depth ≢ 0) (some : address ≢ 0) (same : z ≡ y)
    (wide : below ≡ reach (depth - 1)) (read : entries ≡ block_at y address) (named : next ≡ get_or (words_of entries) (k / below) 0) where
  pub under_next : address_under z (depth - 1) (k % below) next ≡ address_under y depth k address
  under_next = rw (same, named, wide, read) (sym (address_block y depth k address deep some))

  pub leads_next : LeadsUnder y depth k address → LeadsUnder z (depth - 1) (k % below) next
  leads_next h = rw (same, named, wide, read) (leads_block y depth k address deep some h).1

-- ---- along the addresses of an inode

module _ (y : Image) (k : ℕ) (depths addresses : List ℕ) (j : ℕ) (in_depths : j < length depths) (in_addresses : j < length addresses) where
  abbrev depth : ℕ
  depth = get_or depths j 0

  -- the block stands behind this address
  pub along_here : k < reach depth → address_along y k (drop j depths) (drop j addresses) ≡ address_under y depth k (get_or addresses j 0)
  along_here low = rw (drop_more depths j 0 in_depths, drop_more addresses j 0 in_addresses, lt-ltb k (reach depth) low) refl

  pub leads_here : k < reach depth → LeadsAlong y k (drop j depths) (drop j addresses) → LeadsUnder y depth k (get_or addresses j 0)
  leads_here low h = rw (drop_more depths j 0 in_depths, drop_more addresses j 0 in_addresses, lt-ltb k (reach depth) low) at h

  -- it stands behind a later one
  pub along_later : reach depth ≤ k → address_along y k (drop j depths) (drop j addresses) ≡ address_along y (k - reach depth) (drop (j + 1) depths) (drop (j + 1) addresses)
  along_later high = rw (drop_more depths j 0 in_depths, drop_more addresses j 0 in_addresses, le-ltb k (reach depth) high) refl

  pub leads_later : reach depth ≤ k → LeadsAlong y k (drop j depths) (drop j addresses) → LeadsAlong y (k - reach depth) (drop (j + 1) depths) (drop (j + 1) addresses)
  leads_later high h = rw (drop_more depths j 0 in_depths, drop_more addresses j 0 in_addresses, le-ltb k (reach depth) high) at h

pub along_end : (y : Image) (k : ℕ) (depths addresses : List ℕ) (j : ℕ) → length depths ≤ j → address_along y k (drop j depths) addresses ≡ 0
along_end y k depths addresses j high = rw (drop_all j depths high) refl

-- all of them are the inode's
pub along_whole_inode : (y : Image) (d : Dinode) (k : ℕ) (form : Form) (ds : List ℕ) → form_of y ≡ form → ds ≡ depths form → address_along y k ds d.addrs ≡ address_in y d k
unfolding address_in
along_whole_inode y d k form ds is same = ap (λ (l : List ℕ). address_along y k l d.addrs) (same ∙ sym (ap depths is))
