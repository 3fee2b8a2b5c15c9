-- The blocks of a moved image, and what they say.
use Rattle.std.proofs.Common.{◌≡◌, ℕ, ◌+◌, ◌/◌, ◌<◌, List, [], length, refl, ap, ◌∙◌, arith}
use Rattle.blocks.specs.Block.{zero_block}
use Rattle.blocks.specs.Disk.{block_at, Image, IsImage}
use Rattle.model.specs.Codec.{super_block}
use Rattle.model.specs.Common.{eq-eqb, form_of, get_or-map-range_with_len, inode_bytes_in, is_marked, le-ltb, length-map-range_with_len, logged_count, lt-ltb, magic_at, magic_of, ne_eqb, super_of}
use Rattle.model.specs.declared.types.image.Form.TheVariants.{One}
use Rattle.model.specs.declared.types.image.Super.{Super}
use Rattle.model.specs.Fields.{has_bit, u32_at}
use Rattle.model.specs.Layout.{inode_in, super_in}
use Rattle.model.specs.Lemmas.Codecs.{magic-super_block, super_in-super_block}
use Rattle.model.specs.Lemmas.Log.{zero_header}
use Rattle.conversion.specs.Common.{behind_log, bitmap_behind, is_moved_mark, meta_with, moved_block, moved_data, moved_inode, moved_marks, source_in, super_with}
use Rattle.conversion.specs.Moving.{moved_image, moved_inodes}
use Rattle.conversion.specs.Older.{older_inode}
use Rattle.conversion.proofs.BlockLemmas.{has_bit-bits_below, inode_in-moved}
use Rattle.conversion.proofs.FitLemmas.{IsFit}

pub form_one : (x : Image) → magic_at x ≡ magic_of One → form_of x ≡ One
form_one x magic = rw magic refl

module _ (x : Image) (to size : ℕ) (fit : IsFit x to size) where
  abbrev y : Image
  y = moved_image x to size

  abbrev s : Super
  s = super_of x

  pub length-moved_image : length y ≡ size
  unfolding moved_image
  length-moved_image = length-map-range_with_len (moved_block x to size) 0 size

  pub block_at-moved_image : (b : ℕ) → b < size → block_at y b ≡ moved_block x to size b
  unfolding moved_image
  block_at-moved_image b h = get_or-map-range_with_len (moved_block x to size) 0 size b b [] h (omega arith)

  -- there is a data block
  pub room-moved : meta_with to size s.ninodes < size
  room-moved = omega (arith, fit.room, fit.least, fit.small, fit.most, fit.from_most, fit.to_most)

  pub boot-moved : block_at y 0 ≡ block_at x 0
  boot-moved = block_at-moved_image 0 (omega (arith, room-moved))

  pub super-moved : block_at y 1 ≡ super_block One (super_with to size s.ninodes)
  super-moved = block_at-moved_image 1 (omega (arith, room-moved))

  pub fields-moved : super_of y ≡ super_with to size s.ninodes
  fields-moved =
      let t = super_with to size s.ninodes in
      ap super_in super-moved
      ∙ super_in-super_block One t (omega (arith, fit.most)) (omega (arith, fit.most)) (omega (arith, fit.few)) (omega (arith, fit.to_most)) (omega arith)
      (omega (arith, fit.to_most)) (omega (arith, fit.to_most, fit.few))

  pub magic-moved : magic_at y ≡ magic_of One
  magic-moved = ap (λ (b : List ℕ). u32_at b 0) super-moved ∙ magic-super_block One (super_with to size s.ninodes)

  pub log-moved : block_at y 2 ≡ zero_block
  log-moved = block_at-moved_image 2 (omega (arith, room-moved)) ∙ rw (lt-ltb 2 (behind_log to) (omega (arith, fit.to_least))) refl

  pub empty-moved : logged_count y ≡ 0
  empty-moved = ap (λ (b : List ℕ). u32_at b 0) log-moved ∙ zero_header

  pub inodes-moved : (i : ℕ) → i < s.ninodes →
      block_at y (behind_log to + i / 16) ≡ moved_inodes s.nlog to (block_at x (s.inodestart + i / 16))
  inodes-moved i low =
      let b = behind_log to + i / 16 in
      let source : source_in s to b ≡ s.inodestart + i / 16 = omega (arith, fit.inodes) in
      block_at-moved_image b (omega (arith, room-moved, low))
      ∙ rw (
        ne_eqb b 0 (λ e. absurd (omega (arith, e))),
        ne_eqb b 1 (λ e. absurd (omega (arith, e))),
        le-ltb b (behind_log to) (omega arith),
        lt-ltb b (bitmap_behind to s.ninodes) (omega (arith, low)),
      )
      (ap (λ (c : ℕ). moved_inodes s.nlog to (block_at x c)) source)

  pub bitmap-moved : block_at y (bitmap_behind to s.ninodes) ≡ moved_marks s (block_at x s.bmapstart) to size
  bitmap-moved =
      let b = bitmap_behind to s.ninodes in
      block_at-moved_image b (omega (arith, room-moved))
      ∙ rw (
        ne_eqb b 0 (λ e. absurd (omega (arith, e))),
        ne_eqb b 1 (λ e. absurd (omega (arith, e))),
        le-ltb b (behind_log to) (omega arith),
        le-ltb b b (omega arith),
        eq-eqb b b refl,
      ) refl

  pub data-moved : (b : ℕ) → bitmap_behind to s.ninodes < b → b < size → source_in s to b < s.size →
      block_at y b ≡ moved_data x to (source_in s to b)
  data-moved b behind inside low =
      block_at-moved_image b inside
      ∙ rw (
        ne_eqb b 0 (λ e. absurd (omega (arith, e, behind))),
        ne_eqb b 1 (λ e. absurd (omega (arith, e, behind))),
        le-ltb b (behind_log to) (omega (arith, behind)),
        le-ltb b (bitmap_behind to s.ninodes) (omega (arith, behind)),
        ne_eqb b (bitmap_behind to s.ninodes) (λ e. absurd (omega (arith, e, behind))),
        lt-ltb (source_in s to b) s.size low,
      ) refl

  -- the bitmap
  pub marked-moved : (b : ℕ) → b < size → is_marked y b ≡ is_moved_mark s (block_at x s.bmapstart) to size b
  marked-moved b inside =
      ap (λ (t : Super). has_bit (block_at y t.bmapstart) b) fields-moved
      ∙ ap (λ (l : List ℕ). has_bit l b) bitmap-moved
      ∙ has_bit-bits_below (is_moved_mark s (block_at x s.bmapstart) to size) size b (omega (arith, fit.most)) inside

  -- the inodes
  pub inode-moved : IsImage x → (i : ℕ) → i < s.ninodes → older_inode y i ≡ moved_inode s.nlog to (older_inode x i)
  unfolding older_inode
  inode-moved is i low =
      let b = s.inodestart + i / 16 in
      let inside : b < length x = omega (arith, fit.inodes, fit.room, fit.sized, low) in
      ap (λ (t : Super). inode_in (inode_bytes_in (block_at y (t.inodestart + i / 16)) i)) fields-moved
      ∙ ap (λ (l : List ℕ). inode_in (inode_bytes_in l i)) (inodes-moved i low)
      ∙ inode_in-moved s.nlog to (block_at x b) i (is b inside)
