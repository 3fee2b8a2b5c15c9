-- How far the writing of a file's bytes has come: what comes next, and what stays in another image.
use Rattle.std.proofs.Common.{◌≡◌, ◌≢◌, ℕ, ◌+◌, ◌-◌, ◌*◌, ◌/◌, ◌<◌, ◌≤◌, Bool, true, false, cond, eqb, not, List, length, get_or, refl, sym, ◌∙◌, ap, subst, inl, inr, arith, None, Some, ⊎_elim}
use Rattle.std.specs.Prelude.{◌&&◌}
use Rattle.inodes.specs.Common.{address_in, address_there, address_under, AllocState, block_at, block_limit, blocks_behind, blocks_left, Branch, branch_of, Dinode, entry_under, eqb-false, eqb-true, Extent, first_alloc, first_update, Form, form_of, HasComeTo, HasNoEntry, Image, is_branch, IsOnWay, kept_by_write, lies_first, lies_short, lies_still, MapAt, mapped_for_writing, MappedForWriting, next_block, next_byte, next_place, Node, node_at, place_of_mapped, SameInside, taken_by, taken_on_way, used_by_write, words_of, WriteAt, writes_for, writes_left_at, WriteState}

-- ---- in an image in which the blocks of addresses on the way are the same

module _ (old new : Image) (d : Dinode) (b : Branch) (same : SameInside old new b.depth (get_or d.addrs b.index 0)) where
  no_entry_still : (n : Node) → HasNoEntry old d b n → HasNoEntry new d b n
  no_entry_still n none =
      let short = lies_short old d b n none.0 in (
        lies_still old d b n none.0 new same,
        ap (λ (bytes : List ℕ). get_or (words_of bytes) (entry_under n) 0) (same none.0.before n.block none.0.led none.0.there (omega (arith, short))) ∙ none.1,
      )

  pub on_way_still : (e : Extent) (a : MapAt) → ((c : ℕ) → taken_on_way a ≡ Some c → block_at new c ≡ block_at old c) → IsOnWay old d e b a → IsOnWay new d e b a
  on_way_still e (MapAt.Address t) taken on = on
  on_way_still e (MapAt.Entry n slot) taken on = lies_still old d b n on new same
  on_way_still e (MapAt.Behind n i t) taken on = (no_entry_still n on.0, on.1)
  on_way_still e (MapAt.Setting n i None) taken on = (no_entry_still n on.0, tt)
  on_way_still e (MapAt.Setting n i (Some c)) taken on = (no_entry_still n on.0, taken c refl ∙ on.1)

-- and the file has its blocks
module _ (old new : Image) (m : WriteState) (same : (k : ℕ) → SameInside old new (branch_of m.extent.form k).depth (get_or m.inode.addrs (branch_of m.extent.form k).index 0)) where
  pub come_still : ((k : ℕ) → address_in new m.inode k ≡ address_in old m.inode k) → (a : WriteAt) → ((c : ℕ) → taken_by a ≡ Some c → block_at new c ≡ block_at old c) → HasComeTo old m a → HasComeTo new m a
  come_still leads (WriteAt.Mapping way) taken come = (
    come.0,
    record {
      branch = come.1.branch;
      bitmap = come.1.bitmap;
      size = come.1.size;
      at = on_way_still old new m.inode way.branch
          (subst (λ (b : Branch). SameInside old new b.depth (get_or m.inode.addrs b.index 0)) (sym come.1.branch) (same (next_block m)))
          m.extent way.at taken come.1.at;
    },
  )
  come_still leads (WriteAt.Block b slot) taken come = (come.0, leads (next_block m) ∙ come.1, come.2)
  come_still leads (WriteAt.Updating u) taken come = (
    come.0,
    ⊎_elim
        (λ (all : m.done ≡ m.count). inl all)
        (λ (none : address_in old m.inode (next_block m) ≡ 0). inr (leads (next_block m) ∙ none))
        come.1,
  )

-- ---- what comes next

-- the way to a block begins with what isn't there
module _ (x : Image) (m : WriteState) (k : ℕ) where
  abbrev d : Dinode
  d = m.inode

  abbrev take : AllocState
  take = first_alloc m.extent.bitmap m.extent.size

  abbrev b : Branch
  b = branch_of m.extent.form k

  abbrev address : ℕ
  address = get_or d.addrs b.index 0

  pub comes_mapped : form_of x ≡ m.extent.form → length d.addrs ≡ 13 → m.done < m.count → next_block m ≡ k → k < block_limit m.extent.form
      → HasComeTo x m (place_of_mapped (mapped_for_writing m.extent.form d k m.extent.bitmap m.extent.size))
  comes_mapped one all left here low = by_place (eqb address 0) refl (eqb b.depth 0) refl
    where
      starts : (a : MapAt) → IsOnWay x d m.extent b a → HasComeTo x m (WriteAt.Mapping (record { branch = b; bitmap = m.extent.bitmap; size = m.extent.size; at = a }))
      starts a on = (left, record { branch = ap (branch_of m.extent.form) (sym here); bitmap = refl; size = refl; at = on })

      by_place : (none : Bool) → eqb address 0 ≡ none → (ends : Bool) → eqb b.depth 0 ≡ ends
          → HasComeTo x m (place_of_mapped (cond (not none && ends) (MappedForWriting.At address) (MappedForWriting.Behind (record {
            branch = b;
            bitmap = m.extent.bitmap;
            size = m.extent.size;
            at = cond none (MapAt.Address take) (MapAt.Entry (node_at b.depth b.rest address) None);
          }))))
      by_place true none ends is = starts (MapAt.Address take) (eqb-true address 0 none, record { bitmap = refl; size = refl })
      by_place false some true flat = (
        left,
        ap (address_in x d) here ∙ address_there x m.extent.form one k low d all ∙ ap (λ n. address_under x n b.rest address) (eqb-true b.depth 0 flat),
        eqb-false address 0 some,
      )
      by_place false some false deep =
          starts (MapAt.Entry (node_at b.depth b.rest address) None)
          (lies_first x d b (eqb-false b.depth 0 deep) (is_branch k m.extent.form low).rest (eqb-false address 0 some))

-- the block of the next byte, or the end
pub comes_next : (x : Image) (m : WriteState) → form_of x ≡ m.extent.form → length m.inode.addrs ≡ 13 → m.done ≤ m.count
    → (m.done < m.count → next_block m < block_limit m.extent.form)
    → HasComeTo x m (next_place m.number m.inode (next_byte m) (m.count - m.done) m.extent)
comes_next x m one all most low = by_left (eqb (m.count - m.done) 0) refl
  where
    by_left : (b : Bool) → eqb (m.count - m.done) 0 ≡ b
        → HasComeTo x m (cond b (WriteAt.Updating (first_update m.number)) (place_of_mapped (mapped_for_writing m.extent.form m.inode (next_byte m / 1024) m.extent.bitmap m.extent.size)))
    by_left true none = let left = eqb-true (m.count - m.done) 0 none in (refl, inl (omega (arith, most, left)))
    by_left false some =
        let more : m.done < m.count = omega (arith, most, (eqb-false (m.count - m.done) 0 some)) in
        comes_mapped x m (next_block m) one all more refl (low more)

-- ---- it begins with nothing

-- at a place that comes next, on the way to a branch, nothing is got or taken, and few steps are left
pub record IsFresh (m : WriteState) (b : Branch) (a : WriteAt) : Type 0 where
  pub kept : kept_by_write a ≡ None
  pub used : used_by_write a ≡ None
  pub taken : taken_by a ≡ None
  pub steps : writes_left_at m a ≤ writes_for m.extent.form (blocks_behind m) + 7 * b.depth + 8
  pub blocks : blocks_left m a ≤ blocks_behind m + 1

module _ (m : WriteState) (d : Dinode) (form : Form) (k bitmap size : ℕ) where
  abbrev begun : Branch
  begun = branch_of form k

  abbrev first_address : ℕ
  first_address = get_or d.addrs begun.index 0

  fresh_address : IsFresh m begun (WriteAt.Mapping (record { branch = begun; bitmap = bitmap; size = size; at = MapAt.Address (first_alloc bitmap size) }))
  fresh_address = record { kept = refl; used = refl; taken = refl; steps = omega arith; blocks = omega arith }

  fresh_entry : begun.depth ≢ 0 → IsFresh m begun (WriteAt.Mapping (record { branch = begun; bitmap = bitmap; size = size; at = MapAt.Entry (node_at begun.depth begun.rest first_address) None }))
  fresh_entry deep = record { kept = refl; used = refl; taken = refl; steps = omega (arith, deep); blocks = omega arith }

  fresh_mapped : (none ends : Bool) → eqb begun.depth 0 ≡ ends → IsFresh m begun (place_of_mapped (cond (not none && ends) (MappedForWriting.At first_address) (MappedForWriting.Behind (record {
    branch = begun;
    bitmap = bitmap;
    size = size;
    at = cond none (MapAt.Address (first_alloc bitmap size)) (MapAt.Entry (node_at begun.depth begun.rest first_address) None);
  }))))
  fresh_mapped true ends flat = fresh_address
  fresh_mapped false true flat = record { kept = refl; used = refl; taken = refl; steps = omega arith; blocks = omega arith }
  fresh_mapped false false flat = fresh_entry (eqb-false begun.depth 0 flat)

pub fresh_next : (m : WriteState) (number : ℕ) (d : Dinode) (next left : ℕ) (e : Extent) → IsFresh m (branch_of e.form (next / 1024)) (next_place number d next left e)
fresh_next m number d next left e = by_left (eqb left 0)
  where
    by_left : (b : Bool) → IsFresh m (branch_of e.form (next / 1024)) (cond b (WriteAt.Updating (first_update number)) (place_of_mapped (mapped_for_writing e.form d (next / 1024) e.bitmap e.size)))
    by_left true = record { kept = refl; used = refl; taken = refl; steps = omega arith; blocks = omega arith }
    by_left false =
        let b : Branch = branch_of e.form (next / 1024) in
        fresh_mapped m d e.form (next / 1024) e.bitmap e.size (eqb (get_or d.addrs b.index 0) 0) (eqb b.depth 0) refl

-- and where no bytes are left, with two steps
pub ended_next : (m : WriteState) (number : ℕ) (d : Dinode) (next left : ℕ) (e : Extent) → left ≡ 0 → (blocks_left m (next_place number d next left e) ≡ 0) × (writes_left_at m (next_place number d next left e) ≡ 2)
ended_next m number d next left e none = rw none (refl, refl)
