-- Block by block, what a moved image has, by the superblock that was read.
use Rattle.std.proofs.Common.{◌≡◌, ◌≢◌, ℕ, ◌<◌, ◌≤◌, Bool, cond, List, refl, sym, ap, ◌∙◌, subst, arith}
use Rattle.blocks.specs.Block.{zero_block}
use Rattle.blocks.specs.Disk.{block_at, Image}
use Rattle.model.specs.Codec.{super_block}
use Rattle.model.specs.Common.{eq-eqb, le-ltb, lt-ltb, ne_eqb, super_of}
use Rattle.model.specs.declared.types.image.Form.TheVariants.{One}
use Rattle.model.specs.declared.types.image.Super.{Super}
use Rattle.conversion.specs.Common.{behind_log, bitmap_behind, is_node, IsPlanned, moved_block, moved_data, moved_marks, source_in, super_with}
use Rattle.conversion.specs.Moving.{moved_inodes, moved_words}
use Rattle.conversion.specs.declared.plan.Plan.{Plan}

module _ (x : Image) (to size : ℕ) where
  abbrev s : Super
  s = super_of x

  log_block : (b : ℕ) → b ≢ 0 → b ≢ 1 → b < behind_log to → zero_block ≡ moved_block x to size b
  log_block b some other low = rw (ne_eqb b 0 some, ne_eqb b 1 other, lt-ltb b (behind_log to) low) refl

  inodes_block : (b : ℕ) → behind_log to ≤ b → b < bitmap_behind to s.ninodes →
      moved_inodes s.nlog to (block_at x (source_in s to b)) ≡ moved_block x to size b
  inodes_block b high low =
      rw (
        ne_eqb b 0 (λ e. absurd (omega (arith, e, high))),
        ne_eqb b 1 (λ e. absurd (omega (arith, e, high))),
        le-ltb b (behind_log to) high,
        lt-ltb b (bitmap_behind to s.ninodes) low,
      ) refl

  marks_block : (b : ℕ) → b ≡ bitmap_behind to s.ninodes → moved_marks s (block_at x s.bmapstart) to size ≡ moved_block x to size b
  marks_block b is =
      rw (
        ne_eqb b 0 (λ e. absurd (omega (arith, e, is))),
        ne_eqb b 1 (λ e. absurd (omega (arith, e, is))),
        le-ltb b (behind_log to) (omega (arith, is)),
        le-ltb b (bitmap_behind to s.ninodes) (omega (arith, is)),
        eq-eqb b (bitmap_behind to s.ninodes) is,
      ) refl

  free_block : (b : ℕ) → bitmap_behind to s.ninodes < b → s.size ≤ source_in s to b → zero_block ≡ moved_block x to size b
  free_block b behind past =
      rw (
        ne_eqb b 0 (λ e. absurd (omega (arith, e, behind))),
        ne_eqb b 1 (λ e. absurd (omega (arith, e, behind))),
        le-ltb b (behind_log to) (omega (arith, behind)),
        le-ltb b (bitmap_behind to s.ninodes) (omega (arith, behind)),
        ne_eqb b (bitmap_behind to s.ninodes) (λ e. absurd (omega (arith, e, behind))),
        le-ltb (source_in s to b) s.size past,
      ) refl

  data_block : (b : ℕ) → bitmap_behind to s.ninodes < b → source_in s to b < s.size → moved_data x to (source_in s to b) ≡ moved_block x to size b
  data_block b behind low =
      rw (
        ne_eqb b 0 (λ e. absurd (omega (arith, e, behind))),
        ne_eqb b 1 (λ e. absurd (omega (arith, e, behind))),
        le-ltb b (behind_log to) (omega (arith, behind)),
        le-ltb b (bitmap_behind to s.ninodes) (omega (arith, behind)),
        ne_eqb b (bitmap_behind to s.ninodes) (λ e. absurd (omega (arith, e, behind))),
        lt-ltb (source_in s to b) s.size low,
      ) refl

module _ (x : Image) (plan : Plan) (is : IsPlanned x plan) where
  abbrev moved_there : ℕ → List ℕ
  moved_there b = moved_block x plan.to plan.size b

  by_super : (P : Super → Type 0) → P (super_of x) → P plan.sup
  by_super P p = subst P (sym is.sup) p

  pub super_planned : super_block One (super_with plan.to plan.size plan.sup.ninodes) ≡ moved_there 1
  super_planned = by_super (λ t. super_block One (super_with plan.to plan.size t.ninodes) ≡ moved_there 1) refl

  pub log_planned : (b : ℕ) → b ≢ 0 → b ≢ 1 → b < behind_log plan.to → zero_block ≡ moved_there b
  log_planned b some other low = log_block x plan.to plan.size b some other low

  pub inodes_planned : (b : ℕ) → behind_log plan.to ≤ b → b < bitmap_behind plan.to plan.sup.ninodes →
      moved_inodes plan.sup.nlog plan.to (block_at x (source_in plan.sup plan.to b)) ≡ moved_there b
  inodes_planned b high =
      by_super (λ t. b < bitmap_behind plan.to t.ninodes → moved_inodes t.nlog plan.to (block_at x (source_in t plan.to b)) ≡ moved_there b)
      (λ low. inodes_block x plan.to plan.size b high low)

  pub marks_planned : (b : ℕ) → b ≡ bitmap_behind plan.to plan.sup.ninodes →
      moved_marks plan.sup (block_at x (super_of x).bmapstart) plan.to plan.size ≡ moved_there b
  marks_planned b =
      by_super (λ t. b ≡ bitmap_behind plan.to t.ninodes → moved_marks t (block_at x (super_of x).bmapstart) plan.to plan.size ≡ moved_there b)
      (λ here. marks_block x plan.to plan.size b here)

  pub free_planned : (b : ℕ) → bitmap_behind plan.to plan.sup.ninodes < b → plan.sup.size ≤ source_in plan.sup plan.to b → zero_block ≡ moved_there b
  free_planned b =
      by_super (λ t. bitmap_behind plan.to t.ninodes < b → t.size ≤ source_in t plan.to b → zero_block ≡ moved_there b)
      (λ behind past. free_block x plan.to plan.size b behind past)

  -- a data block, by whether it is a block of addresses
  pub data_planned : (b : ℕ) (v : Bool) → bitmap_behind plan.to plan.sup.ninodes < b → source_in plan.sup plan.to b < plan.sup.size →
      v ≡ is_node x (source_in plan.sup plan.to b) →
      cond v (moved_words plan.sup.nlog plan.to (block_at x (source_in plan.sup plan.to b))) (block_at x (source_in plan.sup plan.to b)) ≡ moved_there b
  data_planned b v =
      by_super (λ t. bitmap_behind plan.to t.ninodes < b → source_in t plan.to b < t.size → v ≡ is_node x (source_in t plan.to b) →
      cond v (moved_words t.nlog plan.to (block_at x (source_in t plan.to b))) (block_at x (source_in t plan.to b)) ≡ moved_there b)
      (λ behind low node.
      ap (λ (w : Bool). cond w (moved_words (super_of x).nlog plan.to (block_at x (source_in (super_of x) plan.to b))) (block_at x (source_in (super_of x) plan.to b))) node
      ∙ data_block x plan.to plan.size b behind low)
