-- The steps in which a writing takes a block: for an address of the inode's own, or for an entry behind it.
use Rattle.std.specs.Prelude.{slice_index}
use Rattle.std.proofs.Common.{get_or-set_other, [], ◌≡◌, ◌≢◌, ℕ, ◌+◌, ◌<◌, List, length, refl, sym, ◌∙◌, ap, subst, arith, Option, Some, None}
use Rattle.inodes.specs.Common.{alloc_left, AllocAt, Allocs, AllocState, at_hand, block_at, block_of_alloc, block_of_write, block_on_way, blocks_behind, blocks_left, Branch, Claims, counted, data_keeps, Dinode, Extent, Files, FitsHeld, FitsThen, GetsFor, GetsLock, Ghosts, GivesUpLock, grows, Growth, growth_of, hand_on_way, HasComeTo, Image, IsClaimedNow, IsLowestClear, IsOnWay, kept_by_write, kept_on_way, LiesOnWay, LogState, lowest_clear_is_lowest, lowest_in, MapAt, MapState, Marks, next_block, Node, node_of_write, node_on_way, noted, one_more, Progress, SameInside, set_bit_keeps, slot_of_alloc, Stage, StoreState, super_of, taken_at, taken_by, taken_on_way, TakesIn, TakesLowest, TaskState, used_by_write, used_on_way, VolumeState, way_left, with_bit, with_taken, WriteAt, writes_for, writes_left, writes_left_at, WritesBlock, WriteState, zero_block, zeroed}
use Rattle.inodes.proofs.MoreGets.{gets_more, got_moves}
use Rattle.inodes.proofs.Standing.{StandsAt}
use Rattle.inodes.proofs.TruncSlots.{Slots, slots_as, slots_put, slots_used}
use Rattle.inodes.proofs.WriteFiles.{takes_lowest}
use Rattle.inodes.proofs.WriteLogged.{LogsOn, adds_one, beside_map, counts_on, logged_on}
use Rattle.inodes.proofs.WriteMoves.{DoesSo, GoesOn, does_get, does_put, does_release, fits_still, logs}
use Rattle.inodes.proofs.Writing as of
use Rattle.inodes.proofs.WriteComes.{on_way_still}

-- what a place on the way has at hand, at which u takes a block, with a block of addresses
pub record HasAtHand (a : MapAt) (n : ℕ) (o : Option ℕ) (u : AllocState) : Type 0 where
  pub node : node_on_way a ≡ n
  pub kept : kept_on_way a ≡ o
  pub used : used_on_way a ≡ slot_of_alloc u.at
  pub block : block_on_way a ≡ block_of_alloc u u.at
  pub taken : taken_on_way a ≡ taken_at u.at
  pub hand : hand_on_way a ≡ 0

-- a place on the way to a branch at which a block is taken
pub record IsTakingPlace (b : Branch) (here : AllocState → MapAt) : Type 0 where
  pub node : ℕ
  pub kept : Option ℕ
  pub extra : ℕ
  pub has : (u : AllocState) → HasAtHand (here u) node kept u
  pub left_is : (u : AllocState) → way_left b (here u) ≡ alloc_left u.at + extra
  pub takes_in : (x : Image) (d : Dinode) (e : Extent) (u : AllocState) → IsOnWay x d e b (here u) → TakesIn e u
  pub still : (x : Image) (d : Dinode) (e : Extent) (u v : AllocState) → IsOnWay x d e b (here u) → TakesIn e v → IsOnWay x d e b (here v)
  pub lies : (x : Image) (d : Dinode) (e : Extent) (u : AllocState) (i : ℕ) → IsOnWay x d e b (here u) → kept ≡ Some i → (n : Node) × (n.block ≡ node) × LiesOnWay x d b n

-- in a store whose process p writes a file's bytes, and takes a block
module _ {D N : Type 0} {disk : Ghosts D N} {s : StoreState D} {p k : ℕ} {m : WriteState} (h : StandsAt disk s p (Stage.Writing k m))
    (way : MapState) (t : AllocState) (here : AllocState → MapAt) (at : m.at ≡ WriteAt.Mapping (record way { at = here t })) (taking_at : IsTakingPlace way.branch here) where
  abbrev own : ℕ
  own = taking_at.node

  come : HasComeTo (of.cur h) m (WriteAt.Mapping (record way { at = here t }))
  come = subst (HasComeTo (of.cur h) m) at (of.work h).come

  on_way : IsOnWay (of.cur h) m.inode m.extent way.branch (here t)
  on_way = come.1.at

  inside_extent : TakesIn m.extent t
  inside_extent = taking_at.takes_in (of.cur h) m.inode m.extent t on_way

  had : Slots s.volume.buffers p own taking_at.kept (block_of_alloc t t.at) (slot_of_alloc t.at)
  had = slots_as s.volume.buffers p own (block_of_alloc t t.at) (node_of_write m.at) (block_of_write m.at) taking_at.kept (slot_of_alloc t.at) (kept_by_write m.at) (used_by_write m.at)
      (sym (ap node_of_write at ∙ (taking_at.has t).node)) (sym (ap kept_by_write at ∙ (taking_at.has t).kept)) (sym (ap block_of_write at ∙ (taking_at.has t).block)) (sym (ap used_by_write at ∙ (taking_at.has t).used))
      (of.slots h)

  left_is : writes_left m ≡ alloc_left t.at + taking_at.extra + writes_for m.extent.form (blocks_behind m) + 4
  left_is = ap (writes_left_at m) at ∙ ap (λ (n : ℕ). n + writes_for m.extent.form (blocks_behind m) + 4) (taking_at.left_is t)

  -- the taking goes on as v
  abbrev to : AllocState → WriteState
  to v = record m { at = WriteAt.Mapping (record way { at = here v }) }

  logged_still : (l : LogState) (v : AllocState) → LogsOn (of.cur h) l p m → LogsOn (of.cur h) l p (to v)
  logged_still l v had_logged = logged_on (of.cur h) (of.cur h) l p m (to v) had_logged (omega arith)
      (let mine : counted l (at_hand m.at) ≡ 0 = ap (λ a. counted l (at_hand a)) at ∙ ap (counted l) (taking_at.has t).hand in
      omega (arith, mine, (ap (blocks_left m) at)))

  goes_to : (v : AllocState) (w : VolumeState D) (ts : List TaskState) (y : Image) → TakesIn m.extent v → alloc_left v.at < alloc_left t.at
      → Slots w.buffers p own taking_at.kept (block_of_alloc v v.at) (slot_of_alloc v.at) → LogsOn y w.log p (to v) → IsOnWay y m.inode m.extent way.branch (here v)
      → ((new : Claims) → IsClaimedNow (of.claims h) m.number (Some (grows (growth_of (to v) (of.op h)))) new → (files : Files) → FitsHeld files (of.cur h) (of.claims h) → FitsHeld files y new)
      → GoesOn h (to v) w ts y
  goes_to v w ts y takes less slots logged on passes = record {
    same = refl;
    slots_now = slots_as w.buffers p (node_on_way (here v)) (block_on_way (here v)) own (block_of_alloc v v.at) (kept_on_way (here v)) (used_on_way (here v)) taking_at.kept (slot_of_alloc v.at)
        (taking_at.has v).node (taking_at.has v).kept (taking_at.has v).block (taking_at.has v).used slots;
    logged = logged;
    done = (of.work h).done;
    come = (come.0, record { branch = come.1.branch; bitmap = come.1.bitmap; size = come.1.size; at = on });
    less = let was = left_is in let now = taking_at.left_is v in omega (arith, was, now, less);
    passes = passes;
  }

  -- what it holds is what is got on the way
  growth_to : (v : AllocState) → growth_of (to v) (of.op h) ≡ record (of.grown h) { taken = taken_at v.at }
  growth_to v = ap (λ (o : Option ℕ). record (of.grown h) { taken = o }) (taking_at.has v).taken

  growth_is : (of.grown h).taken ≡ taken_at t.at
  growth_is = ap taken_by at ∙ (taking_at.has t).taken

  own_named : (j : ℕ) → taking_at.kept ≡ Some j → of.Named h own
  own_named j kept =
      let n = taking_at.lies (of.cur h) m.inode m.extent t j on_way kept in
      subst (of.Named h) n.1 (of.node_named h way.branch n.0 come.1.branch n.2)

  named_apart : (b : ℕ) → of.Named h b → b ≢ t.bitmap
  named_apart b named same = of.not_bitmap h b (of.named_marked h b named).0 (same ∙ inside_extent.bitmap)

  not_map : (j : ℕ) → taking_at.kept ≡ Some j → own ≢ t.bitmap
  not_map j kept = named_apart own (own_named j kept)

  not_taken : (b : ℕ) → (of.grown h).taken ≡ Some b → (j : ℕ) → taking_at.kept ≡ Some j → own ≢ b
  not_taken b taken j kept = of.apart_from h b own taken (own_named j kept)

  module _ (n : WriteState) (w : VolumeState D) (ts : List TaskState) where
    -- where it goes with the last step: with no block, or with one
    pub record Ends (n0 : WriteState) (n1 : ℕ → WriteState) : Type 0 where
      pub none : (of.grown h).taken ≡ None → w.log ≡ s.volume.log → Slots w.buffers p own taking_at.kept 0 None → GoesOn h n0 w ts (of.cur h)
      pub event : (b : ℕ) → (of.grown h).taken ≡ Some b → (files : Files) → FitsHeld files (of.cur h) (of.claims h) → (new : Claims)
          → IsClaimedNow (of.claims h) m.number (Some (grows (growth_of (n1 b) (of.op h)))) new → FitsThen files (of.cur h) (of.claims h) m.number (zeroed (of.cur h) b) new
      pub some : (b : ℕ) → (of.grown h).taken ≡ Some b → w.log ≡ noted s.volume.log p b → Slots w.buffers p own taking_at.kept 0 None
          → GoesOn h (n1 b) w ts (zeroed (of.cur h) b)

    -- where it stands then
    abbrev pub next_taken : WriteState → (ℕ → WriteState) → Progress (Option ℕ) → AllocState → WriteState
    next_taken n0 n1 Progress.Moved now = to now
    next_taken n0 n1 (Progress.Sleeping why) now = m
    next_taken n0 n1 (Progress.Over None) now = n0
    next_taken n0 n1 (Progress.Over (Some b)) now = n1 b
    next_taken n0 n1 (Progress.Fault fault) now = m

    module _ (q : Progress (Unit {0})) (answer : Progress (Option ℕ)) (now : AllocState) (n0 : WriteState) (n1 : ℕ → WriteState) (ends : Ends n0 n1)
        (gives : q ≡ one_more answer) (next : n ≡ next_taken n0 n1 answer now) where
      -- a block is got
      takes_get : (b : ℕ) (a : Option ℕ → AllocAt) (slot : Option ℕ) → t.at ≡ a None → now ≡ record t { at = a slot } → ((o : Option ℕ) → slot_of_alloc (a o) ≡ o) → ((o : Option ℕ) → block_of_alloc t (a o) ≡ b)
          → ((o : Option ℕ) → taken_at (a o) ≡ taken_at (a None)) → ((j : ℕ) → alloc_left (a (Some j)) < alloc_left (a None)) → ((j : ℕ) → taking_at.kept ≡ Some j → own ≢ b)
          → GetsFor disk s.volume p b answer slot w → DoesSo h n w ts q
      takes_get b a slot none now_is slot_is block_is taken_is less other gets =
          does_get h n w ts q b slot (gets_more gives gets) (ap block_of_write at ∙ (taking_at.has t).block ∙ ap (block_of_alloc t) none ∙ block_is None)
          (ap used_by_write at ∙ (taking_at.has t).used ∙ ap slot_of_alloc none ∙ slot_is None)
          (λ j kept same. other j (sym (ap kept_by_write at ∙ (taking_at.has t).kept) ∙ kept) (sym (ap node_of_write at ∙ (taking_at.has t).node) ∙ same))
          got
        where
          got : (i : ℕ) → slot ≡ Some i → q ≡ Progress.Moved → GetsLock s.volume.buffers w.buffers p b i → GoesOn h n w ts (of.cur h)
          got i at_slot moved locks =
              let v : AllocState = record t { at = a (Some i) } in
              let now_v : now ≡ v = now_is ∙ ap (λ (o : Option ℕ). record t { at = a o }) at_slot in
              let same : (of.grown h) ≡ record (of.grown h) { taken = taken_at v.at } =
              ap (λ (o : Option ℕ). record (of.grown h) { taken = o }) (growth_is ∙ ap taken_at none ∙ sym (taken_is (Some i))) in
              subst (λ (o : WriteState). GoesOn h o w ts (of.cur h)) (sym (next ∙ ap (λ (r : Progress (Option ℕ)). next_taken n0 n1 r now) (got_moves gets i at_slot) ∙ ap to now_v))
              (goes_to v w ts (of.cur h) (record { bitmap = inside_extent.bitmap; size = inside_extent.size }) (subst (λ (o : AllocAt). alloc_left (a (Some i)) < alloc_left o) (sym none) (less i))
              (slots_as w.buffers p own (block_of_alloc t (a (Some i))) own b taking_at.kept (slot_of_alloc (a (Some i))) taking_at.kept (Some i) refl refl (block_is (Some i)) (slot_is (Some i))
              (slots_used s.volume.buffers w.buffers p own (block_of_alloc t t.at) b i taking_at.kept
              (subst (λ (o : Option ℕ). Slots s.volume.buffers p own taking_at.kept (block_of_alloc t t.at) o) (ap slot_of_alloc none ∙ slot_is None) had) locks))
              (subst (λ (l : LogState). LogsOn (of.cur h) l p (to v)) (sym gets.reads.log) (logged_still s.volume.log v (of.logged h)))
              (taking_at.still (of.cur h) m.inode m.extent t v on_way (record { bitmap = inside_extent.bitmap; size = inside_extent.size }))
              (λ new claimed files fits. fits_still h new
              (subst (λ (g : Growth). IsClaimedNow (of.claims h) m.number (Some (grows g)) new) (growth_to v ∙ sym same) claimed) files fits))

      -- the block of a slot is given up
      given_up : (i b : ℕ) → block_of_alloc t t.at ≡ b → slot_of_alloc t.at ≡ Some i → ((j : ℕ) → taking_at.kept ≡ Some j → own ≢ b) → GivesUpLock s.volume.buffers w.buffers p i
          → (x : ℕ) → Slots w.buffers p own taking_at.kept x None
      given_up i b block slot other gives_up x = slots_put s.volume.buffers w.buffers p own b i x taking_at.kept
          (subst (λ (c : ℕ). Slots s.volume.buffers p own taking_at.kept c (Some i)) block (subst (λ (o : Option ℕ). Slots s.volume.buffers p own taking_at.kept (block_of_alloc t t.at) o) slot had)) other gives_up

      -- the lowest clear bit is set
      takes_bit : (i b : ℕ) → t.at ≡ AllocAt.Looking (Some i) → lowest_in (of.cur h) t ≡ Some b → answer ≡ Progress.Moved → now ≡ record t { at = AllocAt.Zeroing b None }
          → WritesBlock disk s.volume p i t.bitmap (with_taken (of.cur h) t.bitmap b) w → DoesSo h n w ts q
      takes_bit i b looking lowest answer_is now_is writes =
          let v : AllocState = record t { at = AllocAt.Zeroing b None } in
          let n_is : n ≡ to v = next ∙ ap (λ (r : Progress (Option ℕ)). next_taken n0 n1 r now) answer_is ∙ ap to now_is in
          let map_is : t.bitmap ≡ (super_of (of.cur h)).bmapstart = inside_extent.bitmap ∙ of.bitmap h in
          let map = of.map h in
          let map_low = map.behind in
          let free : (of.grown h).taken ≡ None = growth_is ∙ ap taken_at looking in
          let long : t.size ≡ length (of.cur h) = inside_extent.size ∙ of.size h in
          let low = (subst (IsLowestClear (block_at (of.cur h) t.bitmap) t.size) lowest (lowest_clear_is_lowest (block_at (of.cur h) t.bitmap) t.size)).0 in
          let event : (files : Files) → FitsHeld files (of.cur h) (of.claims h) → (new : Claims)
          → IsClaimedNow (of.claims h) m.number (Some (grows (growth_of (to v) (of.op h)))) new → FitsThen files (of.cur h) (of.claims h) m.number (with_taken (of.cur h) t.bitmap b) new =
          λ files fits new claimed. takes_lowest files (of.cur h) (of.claims h) new m.number b (of.grown h) t (of.held_in h files fits) free map_is long lowest
          (subst (λ (g : Growth). IsClaimedNow (of.claims h) m.number (Some (grows g)) new) (growth_to v) claimed) in
          let y : Image = with_taken (of.cur h) t.bitmap b in
          let same_named : (c : ℕ) → of.Named h c → block_at y c ≡ block_at (of.cur h) c = λ c named. get_or-set_other (of.cur h) t.bitmap c (with_bit (block_at (of.cur h) t.bitmap) b) [] (named_apart c named) in
          let had_logged = of.logged h in
          let adds = adds_one s.volume.log p t.bitmap had_logged.homes (logs h) had_logged.used
          (λ zero. omega (arith, zero, map_is, map_low)) in
          let logged : LogsOn y (noted s.volume.log p t.bitmap) p (to v) =
          (let few = had_logged.few in
          let mine : counted s.volume.log (at_hand m.at) ≡ 0 = ap (λ a. counted s.volume.log (at_hand a)) at ∙ ap (counted s.volume.log) (taking_at.has t).hand in
          let one : counted (noted s.volume.log p t.bitmap) m.extent.bitmap ≡ 1 = ap (counted (noted s.volume.log p t.bitmap)) (sym inside_extent.bitmap) ∙ adds.one in
          let more = beside_map (of.cur h) y s.volume.log (noted s.volume.log p t.bitmap) (counts_on s.volume.log p t.bitmap) m m.inode (of.ways_keep h y same_named) one in
          record { homes = adds.now; used = adds.used; few = omega (arith, few, mine, (ap (blocks_left m) at), adds.few, (ap (counted s.volume.log) (sym inside_extent.bitmap)), more) }) in
          subst (DoesSo h n w ts) (sym (gives ∙ ap one_more answer_is))
          (subst (λ (o : WriteState). DoesSo h o w ts Progress.Moved) (sym n_is)
          (does_put h (to v) w ts i t.bitmap (with_bit (block_at (of.cur h) t.bitmap) b) writes (omega (arith, map_is))
          (subst (λ (a : ℕ). Marks None (of.cur h) (with_taken (of.cur h) a b)) (sym map_is) (set_bit_keeps (of.looking h).files.0 (of.cur h) (of.claims h) b (of.looking h).files.1 (omega (arith, low, long))))
          (goes_to v w ts (with_taken (of.cur h) t.bitmap b) (record { bitmap = inside_extent.bitmap; size = inside_extent.size }) (subst (λ (o : AllocAt). 2 < alloc_left o) (sym looking) (omega arith))
          (given_up i t.bitmap (ap (block_of_alloc t) looking) (ap slot_of_alloc looking) not_map writes.locks b)
          (subst (λ (l : LogState). LogsOn y l p (to v)) (sym writes.log) logged)
          (taking_at.still y m.inode m.extent t v
          (on_way_still (of.cur h) y m.inode way.branch
          (subst (λ (c : Branch). SameInside (of.cur h) y c.depth (slice_index m.inode.addrs c.index)) (sym come.1.branch) (of.ways_same h y same_named (next_block m)))
          m.extent (here t) (λ c taken. absurd (let e : None ≡ Some c = sym ((taking_at.has t).taken ∙ ap taken_at looking) ∙ taken in cc e)) on_way)
          (record { bitmap = inside_extent.bitmap; size = inside_extent.size }))
          (λ new claimed files fits. (event files fits new claimed).fits))
          event))

      takes_by : (a : AllocAt) → t.at ≡ a → Allocs disk a s.volume p t answer now w → DoesSo h n w ts q
      takes_by (AllocAt.Looking None) looking allocs = takes_get t.bitmap AllocAt.Looking allocs.0 looking allocs.1 (λ o. refl) (λ o. refl) (λ o. refl) (λ j. omega arith) not_map allocs.2
      takes_by (AllocAt.Looking (Some i)) looking allocs = by_lowest (lowest_in (of.cur h) t) refl allocs
        where
          by_lowest : (o : Option ℕ) → lowest_in (of.cur h) t ≡ o → TakesLowest disk o s.volume p i t answer now w → DoesSo h n w ts q
          by_lowest None lowest takes =
              let n_is : n ≡ n0 = next ∙ ap (λ (r : Progress (Option ℕ)). next_taken n0 n1 r now) takes.0 in
              subst (DoesSo h n w ts) (sym (gives ∙ ap one_more takes.0))
              (subst (λ (o : WriteState). DoesSo h o w ts Progress.Moved) (sym n_is)
              (does_release h n0 w ts i takes.2
              (ends.none (growth_is ∙ ap taken_at looking) (ap (λ (v : VolumeState D). v.log) takes.2.volume) (given_up i t.bitmap (ap (block_of_alloc t) looking) (ap slot_of_alloc looking) not_map takes.2.locks 0))))
          by_lowest (Some b) lowest takes = takes_bit i b looking lowest takes.0 takes.1 takes.2
      takes_by (AllocAt.Zeroing b None) zeroing allocs =
          takes_get b (AllocAt.Zeroing b) allocs.0 zeroing allocs.1 (λ o. refl) (λ o. refl) (λ o. refl) (λ j. omega arith) (not_taken b (growth_is ∙ ap taken_at zeroing)) allocs.2
      takes_by (AllocAt.Zeroing b (Some i)) zeroing allocs =
          let taken : (of.grown h).taken ≡ Some b = growth_is ∙ ap taken_at zeroing in
          let n_is : n ≡ n1 b = next ∙ ap (λ (r : Progress (Option ℕ)). next_taken n0 n1 r now) allocs.0 in
          let lies = of.taken_lies h b taken in
          subst (DoesSo h n w ts) (sym (gives ∙ ap one_more allocs.0))
          (subst (λ (o : WriteState). DoesSo h o w ts Progress.Moved) (sym n_is)
          (does_put h (n1 b) w ts i b zero_block allocs.2 (omega (arith, lies.0, ((of.map h).before_data)))
          (data_keeps (of.looking h).files.0 (of.cur h) (of.claims h) b zero_block (of.looking h).files.1 lies)
          (ends.some b taken allocs.2.log (given_up i b (ap (block_of_alloc t) zeroing) (ap slot_of_alloc zeroing) (not_taken b taken) allocs.2.locks 0))
          (ends.event b taken)))

      -- A STEP
      pub does_take : Allocs disk t.at s.volume p t answer now w → DoesSo h n w ts q
      does_take allocs = takes_by t.at refl allocs
