-- What the steps of a writing share: what its log has room for, and where it goes on.
use Rattle.std.proofs.Common.{◌≡◌, ◌≢◌, ℕ, zero, suc, ◌+◌, ◌<◌, ◌≤◌, Bool, true, false, cond, eqb, List, set, inr, refl, sym, ◌∙◌, ap, subst, arith, Option, Some, None, [], ◌∷◌}
use Rattle.inodes.specs.Common.{address_in, address_there, alloc_left, AllocAt, at_hand, block_at, block_of_write, blocks_left, Branch, branch_of, Buffers, Claims, counted, counted_of, Dinode, eqb-false, eqb-true, Files, first_update, FitsHeld, FitsThen, form_of, form_same, get_or-set_other, Ghosts, grows, Growth, growth_of, HasComeTo, held_alike, homes_beside, Image, inode_block, IsBranchOf, IsClaimedNow, IsMapping, IsOnWay, kept_by_write, LiesInData, LogState, MapAt, MapState, next_block, Node, node_of_write, noted, some_address, Stage, StoreState, super_of, taken_by, TaskState, used_by_write, VolumeState, way_to, WriteAt, writes_left, writes_left_at, WriteState}
use Rattle.inodes.specs.Lemmas.Bounds.{some_uses}
use Rattle.inodes.proofs.Standing.{StandsAt}
use Rattle.inodes.proofs.TruncSlots.{Slots, slots_none}
use Rattle.inodes.proofs.WriteLogged.{AddsOne, LogsOn, adds_one, logged_on}
use Rattle.inodes.proofs.WriteMoves.{GoesOn, fits_still, logs}
use Rattle.inodes.proofs.Writing as of

-- the claims are told in another way
pub then_alike : (files : Files) (x y : Image) (claims new : Claims) (i : ℕ) → ((j : ℕ) → new j ≡ claims j) → FitsThen files x claims i y claims → FitsThen files x claims i y new
then_alike files x y claims new i same then = record { fits = held_alike files y claims new same then.fits; others = then.others; held = then.held }

-- a slot that holds nothing holds no block
pub slots_any : (c : Buffers) (p a x y : ℕ) (kept : Option ℕ) → Slots c p a kept x None → Slots c p a kept y None
slots_any c p a x y kept had = record { holds_kept = had.holds_kept; holds_used = tt; locks = had.locks }

-- an address that is there, or is not
pub some_none : (a : ℕ) → some_address a ≡ None → a ≡ 0
some_none a is = by_zero (eqb a 0) refl is
  where
    by_zero : (z : Bool) → eqb a 0 ≡ z → cond z None (Some a) ≡ None → a ≡ 0
    by_zero true none found = eqb-true a 0 none
    by_zero false some found = absurd (cc found)

pub some_found : (a b : ℕ) → some_address a ≡ Some b → (a ≡ b) × (b ≢ 0)
some_found a b is = by_zero (eqb a 0) refl is
  where
    by_zero : (z : Bool) → eqb a 0 ≡ z → cond z None (Some a) ≡ Some b → (a ≡ b) × (b ≢ 0)
    by_zero true none found = absurd (cc found)
    by_zero false some found =
        let same : a ≡ b = cc found in
        (same, λ none. eqb-false a 0 some (same ∙ none))

-- the taking of a block has a step left
pub some_alloc : (a : AllocAt) → 1 ≤ alloc_left a
some_alloc (AllocAt.Looking slot) = omega arith
some_alloc (AllocAt.Zeroing b slot) = some_uses slot

-- a way to a block that isn't there has an entry
pub some_way : (depth k : ℕ) → depth ≢ 0 → (e : ℕ) × (rest : List ℕ) × (way_to depth k ≡ e ∷ rest)
some_way zero k deep = absurd (deep refl)
some_way (suc depth) k deep = (_, _, refl)

-- ---- where a writing goes from a place on the way

-- no block was left, and the inode is written back next
abbrev pub ended : WriteState → WriteState
ended m = record m { at = WriteAt.Updating (first_update m.number) }

-- the block is found
abbrev pub found : WriteState → ℕ → WriteState
found m b = record m { at = WriteAt.Block b None }

-- a block of addresses is, whose entry is next
abbrev pub down : WriteState → MapState → Node → WriteState
down m way c = record m { at = WriteAt.Mapping (record way { at = MapAt.Entry c None }) }

abbrev pub at_way : MapState → MapAt → WriteAt
at_way way a = WriteAt.Mapping (record way { at = a })

-- on the way it goes on from one place to another
pub maps_at : (x y : Image) (m : WriteState) (d : Dinode) (way : MapState) (a b : MapAt) → IsMapping x m (record way { at = a }) → IsOnWay y d m.extent way.branch b
    → IsMapping y (record m { inode = d; at = at_way way b }) (record way { at = b })
maps_at x y m d way a b is on = record { branch = is.branch; bitmap = is.bitmap; size = is.size; at = on }

-- in a store whose process p writes a file's bytes
module _ {D N : Type 0} {disk : Ghosts D N} {s : StoreState D} {p k : ℕ} {m : WriteState} (h : StandsAt disk s p (Stage.Writing k m)) where
  pub come_at : (a : WriteAt) → m.at ≡ a → HasComeTo (of.cur h) m a
  come_at a at = subst (HasComeTo (of.cur h) m) at (of.work h).come

  pub few_bytes : m.count ≤ 3072
  few_bytes = (of.work h).few

  -- a data block is not block 0
  pub some_block : (b : ℕ) → LiesInData (of.cur h) b → b ≢ 0
  some_block b lies none =
      omega (arith, lies.0, ((of.map h).before_data), none)

  pub behind_map : (b : ℕ) → LiesInData (of.cur h) b → (super_of (of.cur h)).bmapstart ≤ b
  behind_map b lies =
      omega (arith, lies.0, ((of.map h).before_data))

  pub form_here : form_of (of.cur h) ≡ m.extent.form
  form_here = sym (of.form h)

  -- with another data block the image has the same form
  pub form_set : (b : ℕ) (content : List ℕ) → LiesInData (of.cur h) b → form_of (set (of.cur h) b content) ≡ m.extent.form
  form_set b content lies =
      let from = lies.0 in
      let map = of.map h in
      let before = map.before_data in
      let behind = map.behind in
      form_same (of.cur h) (set (of.cur h) b content) (get_or-set_other (of.cur h) b 1 content [] (λ same. omega (arith, same, from, before, behind))) ∙ form_here

  -- what is not that block stays
  pub set_same : (b : ℕ) (content : List ℕ) → ((a : ℕ) → of.Named h a → a ≢ b) → (a : ℕ) → of.Named h a → block_at (set (of.cur h) b content) a ≡ block_at (of.cur h) a
  set_same b content apart a named = get_or-set_other (of.cur h) b a content [] (apart a named)

  -- the file's block stands at the branch of the way
  pub stands_at : (y : Image) → form_of y ≡ m.extent.form → (b : Branch) → b ≡ branch_of m.extent.form (next_block m) → m.done < m.count → IsBranchOf y (next_block m) b
  stands_at y form b here left = subst (IsBranchOf y (next_block m)) (sym here) (address_there y m.extent.form form (next_block m) (of.next_low h left))

  pub slots_of : (a : WriteAt) → m.at ≡ a → Slots s.volume.buffers p (node_of_write a) (kept_by_write a) (block_of_write a) (used_by_write a)
  slots_of a at = subst (λ (o : WriteAt). Slots s.volume.buffers p (node_of_write o) (kept_by_write o) (block_of_write o) (used_by_write o)) at (of.slots h)

  pub left_of : (a : WriteAt) → m.at ≡ a → writes_left m ≡ writes_left_at m a
  left_of a at = ap (writes_left_at m) at

  pub logged : LogsOn (of.cur h) s.volume.log p m
  logged = of.logged h

  pub adds : (b : ℕ) → b ≢ 0 → AddsOne s.volume.log p b logged.homes
  adds b some = adds_one s.volume.log p b logged.homes (logs h) logged.used some

  -- it goes on with the same log
  pub log_on : (a : WriteAt) (n : WriteState) → m.at ≡ a → counted_of s.volume.log (homes_beside (of.cur h) m) ≤ counted_of s.volume.log (homes_beside (of.cur h) n) → (l : LogState) → l ≡ s.volume.log
      → blocks_left n n.at + counted s.volume.log (at_hand a) ≤ blocks_left m a + counted s.volume.log (at_hand n.at) → LogsOn (of.cur h) l p n
  log_on a n at more l same less = subst (λ (o : LogState). LogsOn (of.cur h) o p n) (sym same)
      (logged_on (of.cur h) (of.cur h) s.volume.log p m n logged more (subst (λ (o : WriteAt). blocks_left n n.at + counted s.volume.log (at_hand o) ≤ blocks_left m o + counted s.volume.log (at_hand n.at)) (sym at) less))

  -- or with one home more: so many more count beside, and so many counted before
  module _ (a : WriteAt) (at : m.at ≡ a) (b : ℕ) (some : b ≢ 0) (y : Image) (n : WriteState) (gain loss : ℕ)
      (more : counted_of s.volume.log (homes_beside (of.cur h) m) + gain ≤ counted_of (noted s.volume.log p b) (homes_beside y n) + loss)
      (less : blocks_left n n.at + counted s.volume.log (at_hand a) + loss + 1 ≤ blocks_left m a + counted (noted s.volume.log p b) (at_hand n.at) + gain + counted s.volume.log b) where
    pub log_one : (l : LogState) → l ≡ noted s.volume.log p b → LogsOn y l p n
    log_one l same = subst (λ (o : LogState). LogsOn y o p n) (sym same)
        (let one = adds b some in
        let few = logged.few in
        let blocks : blocks_left m m.at ≡ blocks_left m a = ap (blocks_left m) at in
        record { homes = one.now; used = one.used; few = omega (arith, few, one.few, (ap (λ o. counted s.volume.log (at_hand o)) at), blocks, more, less) })

  -- what it holds stays
  pub passes_on : (n : WriteState) → growth_of n (of.op h) ≡ (of.grown h) → (new : Claims) → IsClaimedNow (of.claims h) m.number (Some (grows (growth_of n (of.op h)))) new → (files : Files) → FitsHeld files (of.cur h) (of.claims h) → FitsHeld files (of.cur h) new
  passes_on n same new claimed files fits = fits_still h new (subst (λ (g : Growth). IsClaimedNow (of.claims h) m.number (Some (grows g)) new) same claimed) files fits

  pub taken_is : (a : WriteAt) → m.at ≡ a → (of.grown h) ≡ record (of.grown h) { taken = taken_by a }
  taken_is a at = ap (λ (o : WriteAt). record (of.grown h) { taken = taken_by o }) at

  -- ---- where it goes from a place on the way

  module _ (n : WriteState) (w : VolumeState D) (ts : List TaskState) where
    -- it goes on at b, in the same image and with the same log
    pub goes_still : (a b : WriteAt) → m.at ≡ a → taken_by b ≡ taken_by a → w.log ≡ s.volume.log → Slots w.buffers p (node_of_write b) (kept_by_write b) (block_of_write b) (used_by_write b)
        → blocks_left (record m { at = b }) b + counted s.volume.log (at_hand a) ≤ blocks_left m a + counted s.volume.log (at_hand b) → HasComeTo (of.cur h) (record m { at = b }) b
        → writes_left (record m { at = b }) < writes_left_at m a → GoesOn h (record m { at = b }) w ts (of.cur h)
    goes_still a b at taken log slots hand come less = record {
      same = refl;
      slots_now = slots;
      logged = log_on a (record m { at = b }) at (omega arith) w.log log hand;
      done = (of.work h).done;
      come = come;
      less = let was = left_of a at in omega (arith, was, less);
      passes = passes_on (record m { at = b }) (ap (λ (o : Option ℕ). record (of.grown h) { taken = o }) taken ∙ sym (taken_is a at));
    }

    pub ends_so : (a : WriteAt) (x y : ℕ) → m.at ≡ a → taken_by a ≡ None → 2 < writes_left_at m a → counted s.volume.log (at_hand a) ≤ blocks_left m a → address_in (of.cur h) m.inode (next_block m) ≡ 0
        → w.log ≡ s.volume.log → Slots w.buffers p x None y None → GoesOn h (ended m) w ts (of.cur h)
    ends_so a x y at none more hand address log slots = goes_still a (WriteAt.Updating (first_update m.number)) at (sym none) log (slots_none w.buffers p x y 0 (inode_block m.number) slots) (omega (arith, hand)) (refl, inr address) (omega (arith, more))
