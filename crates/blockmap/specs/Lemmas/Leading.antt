-- What a writer's way comes to.
use Rattle.std.proofs.Common.{◌≡◌, ◌∙◌, ap, refl, arith, ⊎_elim, ℕ, ◌^◌, ◌<◌, ◌≤◌, Bool, true, false, cond, eqb, [], length, Some}
use Rattle.blockmap.specs.Common.{address_on, block_at, Branch, cases_lt, Dinode, entry-with_entry, entry_of, eqb-true, get_or-set_same, get_or_past, Image, MapAt, Progress, seen, VolumeState, with_address}
use Rattle.blockmap.specs.BmapAlloc.{IsLed, LeadsThere, come_to}

-- a block that was come to is the file's, where it is one of data
pub leads_on : {D : Type 0} (image : D → Image) (depth a : ℕ) (b : Branch) (at : MapAt) (d : Dinode) (w : VolumeState D) →
    (depth ≡ 0 → IsLed (seen (image w.device) w.buffers) d b at → address_on (seen (image w.device) w.buffers) d b ≡ a) →
    LeadsThere image (come_to depth a) b at d w
leads_on image depth a b at d w is = by_depth (eqb depth 0) refl
  where
    by_depth : (ends : Bool) → eqb depth 0 ≡ ends → LeadsThere image (cond ends (Progress.Over (Some a)) Progress.Moved) b at d w
    by_depth true flat = is (eqb-true depth 0 flat)
    by_depth false deep = tt

-- a block with bytes lies in the image
lies_within : (x : Image) (a : ℕ) → length (block_at x a) ≡ 1024 → a < length x
lies_within x a full =
    ⊎_elim (λ low. low)
    (λ (past : length x ≤ a). absurd (omega (arith, full, ap length (get_or_past x a [] past))))
    (cases_lt a (length x))

-- an entry that was set is read
pub entry_set : (x y : Image) (a e b : ℕ) → length (block_at x a) ≡ 1024 → e < 256 → b < 2 ^ 32 →
    y ≡ with_address x a e b → entry_of y a e ≡ b
entry_set x y a e b full low small is =
    ap (λ (z : Image). entry_of z a e) is
    ∙ entry_now
  where
    entry_now : entry_of (with_address x a e b) a e ≡ b
    entry_now = rw (get_or-set_same x a _ [] (lies_within x a full)) (entry-with_entry (block_at x a) e b full low small)
