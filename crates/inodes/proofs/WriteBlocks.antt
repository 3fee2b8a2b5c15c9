-- What a step does that takes a block: for an address of the inode, or for an entry of a block of addresses.
use Rattle.std.proofs.Common.{◌≡◌, ◌≢◌, ℕ, ◌+◌, ◌*◌, ◌<◌, Bool, true, false, cond, eqb, List, set, length, length-set, refl, sym, ◌∙◌, ap, subst, arith, Option, Some, None, []}
use Rattle.std.specs.Prelude.{slice_index}
use Rattle.inodes.specs.Common.{address_at, address_under, after_address, after_behind, AllocState, behind_at, Branch, Claims, Dinode, eqb-false, eqb-true, Files, FitsHeld, FitsThen, form_of, get_or-set_other, get_or-set_same, Ghosts, grows, Growth, growth_of, Image, is_branch, IsBranchOf, IsClaimedNow, IsMapping, lies_first, LiesInData, LiesOnWay, LogState, MapAt, MapsOn, MapState, naming, next_block, Node, node_at, none_there, noted, one_more, Progress, reach, routes_of, SameInside, Stage, StoreState, taken_by, taken_zeroed, TakesOne, TaskState, VolumeState, way_to, write_mapped, WriteAt, WriteState, zero_block, zeroed}
use Rattle.inodes.proofs.Standing.{StandsAt}
use Rattle.inodes.proofs.TruncFiles.{same_claims}
use Rattle.inodes.proofs.TruncSlots.{Slots, slots_none}
use Rattle.inodes.proofs.WriteComes.{on_way_still}
use Rattle.inodes.proofs.WriteFiles.{zeroes_named}
use Rattle.inodes.proofs.WriteLogged.{KeepsWays, beside_grow, counts_on, first_gains, on_routes}
use Rattle.inodes.proofs.WriteMoves.{DoesSo, GoesOn}
use Rattle.inodes.proofs.Routes.{IsRouteIn, KeepsTo, route}
use Rattle.inodes.proofs.WriteTakes.{Ends, IsTakingPlace, does_take, next_taken}
use Rattle.inodes.proofs.Writing as of
use Rattle.inodes.proofs.WriteAny.{at_way, ended, slots_any, some_way, some_alloc, then_alike}
use Rattle.inodes.proofs.WriteAny as on

none_kept : (i : ℕ) → None ≡ Some i → ⊥
none_kept i kept = cc kept

-- the kinds of places at which a block is taken
abbrev at_address : (b : Branch) → IsTakingPlace b MapAt.Address
at_address b = record {
  node = 0;
  kept = None;
  extra = 7 * b.depth;
  has = λ u. record { node = refl; kept = refl; used = refl; block = refl; taken = refl; hand = refl };
  left_is = λ u. refl;
  takes_in = λ x d e u on. on.1;
  still = λ x d e u v on takes. (on.0, takes);
  lies = λ x d e u i on kept. absurd (none_kept i kept);
}

abbrev at_behind : (b : Branch) (n : Node) (i : ℕ) → IsTakingPlace b (MapAt.Behind n i)
at_behind b n i = record {
  node = n.block;
  kept = Some i;
  extra = 7 * n.level + 1;
  has = λ u. record { node = refl; kept = refl; used = refl; block = refl; taken = refl; hand = refl };
  left_is = λ u. omega arith;
  takes_in = λ x d e u on. on.1;
  still = λ x d e u v on takes. (on.0, takes);
  lies = λ x d e u j on kept. (n, refl, on.0.0);
}

-- in a store whose process p writes a file's bytes
module _ {D N : Type 0} {disk : Ghosts D N} {s : StoreState D} {p k : ℕ} {m : WriteState} (h : StandsAt disk s p (Stage.Writing k m)) where
  module _ (n : WriteState) (w : VolumeState D) (ts : List TaskState) where
    -- ---- a block is taken

    module _ (way : MapState) (t : AllocState) (q : Progress (Unit {0})) (maps : MapsOn disk s.volume p m way q n w) where
      -- for an address of the inode's own
      module _ (at : m.at ≡ at_way way (MapAt.Address t)) (come : IsMapping (of.cur h) m (record way { at = MapAt.Address t })) (left : m.done < m.count) where
        abbrev b : Branch
        b = way.branch

        none_there_yet : slice_index m.inode.addrs b.index ≡ 0
        none_there_yet = come.at.0

        is_at : IsBranchOf (of.cur h) (next_block m) b
        is_at = on.stands_at h (of.cur h) (on.form_here h) b come.branch left

        low : b.index < 13
        low = subst (λ (c : Branch). c.index < 13) (sym come.branch) (is_branch (next_block m) m.extent.form (of.next_low h left)).index

        all : length m.inode.addrs ≡ 13
        all = of.long h

        abbrev named : ℕ → Dinode
        named a = record m.inode { addrs = set m.inode.addrs b.index a }

        now_there : (a : ℕ) → slice_index (named a).addrs b.index ≡ a
        now_there a = get_or-set_same m.inode.addrs b.index a 0 (let here = low in let long = all in omega (arith, here, long))

        abbrev direct : ℕ → WriteState
        direct a = record m { inode = named a; at = WriteAt.Block a None }

        abbrev indirect : ℕ → WriteState
        indirect a = record m { inode = named a; at = at_way way (MapAt.Entry (node_at b.depth b.rest a) None) }

        abbrev gone_on : ℕ → WriteState
        gone_on a = cond (eqb b.depth 0) (direct a) (indirect a)

        placed_event : (a : ℕ) (o : WriteState) → growth_of o (of.op h) ≡ record (of.grown h) { copy = named a; taken = None } → (of.grown h).taken ≡ Some a → (files : Files) → FitsHeld files (of.cur h) (of.claims h) → (new : Claims)
            → IsClaimedNow (of.claims h) m.number (Some (grows (growth_of o (of.op h)))) new → FitsThen files (of.cur h) (of.claims h) m.number (zeroed (of.cur h) a) new
        placed_event a o same taken files fits new claimed =
            zeroes_named files (of.cur h) (of.claims h) new m.number a (of.grown h) t b.index (of.held_in h files fits) taken
            (let here = low in let long = all in omega (arith, here, long)) none_there_yet (subst (λ (g : Growth). IsClaimedNow (of.claims h) m.number (Some (grows g)) new) same claimed)

        -- the other blocks stay, and the copy leads to them
        module _ (a : ℕ) (taken : (of.grown h).taken ≡ Some a) where
          lies : LiesInData (of.cur h) a
          lies = of.taken_lies h a taken

          some : a ≢ 0
          some = on.some_block h a lies

          abbrev y : Image
          y = zeroed (of.cur h) a

          abbrev l : LogState
          l = noted s.volume.log p a

          form_then : form_of y ≡ m.extent.form
          form_then = on.form_set h a zero_block lies

          ways_then : KeepsWays (of.cur h) y m (named a)
          ways_then =
              let kept = of.ways_keep h y (on.set_same h a zero_block (λ c names. of.apart_from h a c taken names)) in
              record { first = with_address kept.first; last = with_address kept.last }
            where
              with_address : {c : Branch} → KeepsTo (of.cur h) y m.inode m.inode c → KeepsTo (of.cur h) y m.inode (named a) c
              with_address {c} to = record {
                address = λ there. get_or-set_other m.inode.addrs b.index c.index a 0 (λ same. there (ap (λ (j : ℕ). slice_index m.inode.addrs j) same ∙ none_there_yet));
                behind = to.behind;
              }

          direct_on : eqb b.depth 0 ≡ true → w.log ≡ l → Slots w.buffers p 0 None 0 None → GoesOn h (direct a) w ts y
          direct_on flat log slots = record {
            same = refl;
            slots_now = slots_none w.buffers p 0 0 0 a slots;
            logged = on.log_one h (at_way way (MapAt.Address t)) at a some y (direct a) 0 0
                (let more = beside_grow (of.cur h) y s.volume.log l (counts_on s.volume.log p a) m (named a) ways_then in omega (arith, more))
                (let one = (on.adds h a some).one in omega (arith, one)) w.log log;
            done = (of.work h).done;
            come = (
              left,
              on.stands_at h y form_then b come.branch left (named a) (length-set m.inode.addrs b.index a ∙ all)
                  ∙ ap (λ (n : ℕ). address_under y n b.rest (slice_index (named a).addrs b.index)) (eqb-true b.depth 0 flat) ∙ now_there a,
              some,
            );
            less = let was = on.left_of h (at_way way (MapAt.Address t)) at in let one = some_alloc t.at in omega (arith, was, one);
            passes = λ new claimed files fits. (placed_event a (direct a) refl taken files fits new claimed).fits;
          }

          indirect_on : eqb b.depth 0 ≡ false → w.log ≡ l → Slots w.buffers p 0 None 0 None → GoesOn h (indirect a) w ts y
          indirect_on deep log slots =
              let some_depth = eqb-false b.depth 0 deep in
              let way_is = some_way b.depth b.rest some_depth in
              let on_its = on_routes m left (on.few_bytes h) (of.work h).fits [] way_is.0 way_is.1 (ap (λ (c : Branch). way_to c.depth c.rest) (sym come.branch) ∙ way_is.2) in
              let gains = first_gains (of.cur h) y s.volume.log l (counts_on s.volume.log p a) m (named a) ways_then (route b.index [])
              (subst (λ (j : ℕ). IsRouteIn (route j []) (routes_of m)) (sym (ap (λ (d : Branch). d.index) come.branch)) on_its) none_there_yet a (now_there a) (on.adds h a some).one in
              record {
                same = refl;
                slots_now = slots_none w.buffers p 0 0 a a slots;
                logged = on.log_one h (at_way way (MapAt.Address t)) at a some y (indirect a) 1 0
                    (omega (arith, gains))
                    (omega arith) w.log log;
                done = (of.work h).done;
                come = (
                  left,
                  on.maps_at (of.cur h) y m (named a) way (MapAt.Address t) (MapAt.Entry (node_at b.depth b.rest a) None) come
                      (subst (λ (c : ℕ). LiesOnWay y (named a) b (node_at b.depth b.rest c)) (now_there a)
                      (lies_first y (named a) b some_depth
                      (subst (λ (c : Branch). c.rest < reach c.depth) (sym come.branch) (is_branch (next_block m) m.extent.form (of.next_low h left)).rest)
                      (λ none. some (sym (now_there a) ∙ none)))),
                );
                less = let was = on.left_of h (at_way way (MapAt.Address t)) at in let one = some_alloc t.at in omega (arith, was, one, some_depth);
                passes = λ new claimed files fits. (placed_event a (indirect a) refl taken files fits new claimed).fits;
              }

          on_by : (e : Bool) → eqb b.depth 0 ≡ e → w.log ≡ l → Slots w.buffers p 0 None 0 None → GoesOn h (cond e (direct a) (indirect a)) w ts y
          on_by true flat log slots = direct_on flat log slots
          on_by false deep log slots = indirect_on deep log slots

        ends_address : Ends h way t MapAt.Address at (at_address b) n w ts (ended m) gone_on
        ends_address = record {
          none = λ free log slots. on.ends_so h n w ts (at_way way (MapAt.Address t)) 0 0 at (sym (ap taken_by at) ∙ free)
              (let some = some_alloc t.at in omega (arith, some)) (omega arith)
              (is_at m.inode all ∙ none_there (of.cur h) m.inode b none_there_yet) log slots;
          event = λ a taken. by_event (eqb b.depth 0) a taken;
          some = λ a taken log slots. on_by a taken (eqb b.depth 0) refl log slots;
        }
          where
            by_event : (e : Bool) (a : ℕ) → (of.grown h).taken ≡ Some a → (files : Files) → FitsHeld files (of.cur h) (of.claims h) → (new : Claims)
                → IsClaimedNow (of.claims h) m.number (Some (grows (growth_of (cond e (direct a) (indirect a)) (of.op h)))) new → FitsThen files (of.cur h) (of.claims h) m.number (zeroed (of.cur h) a) new
            by_event true a taken = placed_event a (direct a) refl taken
            by_event false a taken = placed_event a (indirect a) refl taken

        pub does_address : TakesOne disk s.volume p way t (after_address b) (address_at b) (naming m.inode b.index) maps.answer maps.now maps.inode w → DoesSo h n w ts q
        does_address takes = does_take h way t MapAt.Address at (at_address b) n w ts q takes.answer takes.now (ended m) gone_on ends_address
            (maps.gives ∙ ap one_more takes.gives ∙ same_answer takes.answer)
            (maps.next ∙ ap (write_mapped m maps.now maps.inode) takes.gives ∙ ap (λ (o : MapState). write_mapped m o maps.inode (after_address b takes.answer)) takes.next
            ∙ ap (λ (d : Dinode). write_mapped m (record way { at = address_at b takes.answer takes.now }) d (after_address b takes.answer)) takes.named ∙ same_next takes.answer takes.now)
            takes.allocs
          where
            come_answer : (e : Bool) (a : ℕ) → one_more (cond e (Progress.Over (Some a)) Progress.Moved) ≡ Progress.Moved
            come_answer true a = refl
            come_answer false a = refl

            same_answer : (a : Progress (Option ℕ)) → one_more (after_address b a) ≡ one_more a
            same_answer Progress.Moved = refl
            same_answer (Progress.Sleeping why) = refl
            same_answer (Progress.Over None) = refl
            same_answer (Progress.Over (Some a)) = come_answer (eqb b.depth 0) a
            same_answer (Progress.Fault fault) = refl

            come_next : (e : Bool) (a : ℕ) (now : AllocState) → write_mapped m (record way { at = cond e (MapAt.Address now) (MapAt.Entry (node_at b.depth b.rest a) None) }) (named a) (cond e (Progress.Over (Some a)) Progress.Moved)
                ≡ cond e (direct a) (indirect a)
            come_next true a now = refl
            come_next false a now = refl

            same_next : (a : Progress (Option ℕ)) (now : AllocState) → write_mapped m (record way { at = address_at b a now }) (naming m.inode b.index a) (after_address b a)
                ≡ next_taken h way t MapAt.Address at (at_address b) n w ts (ended m) gone_on a now
            same_next Progress.Moved now = refl
            same_next (Progress.Sleeping why) now = refl
            same_next (Progress.Over None) now = refl
            same_next (Progress.Over (Some a)) now = come_next (eqb b.depth 0) a now
            same_next (Progress.Fault fault) now = refl

      -- for an entry of a block of addresses
      module _ (c : Node) (i : ℕ) (at : m.at ≡ at_way way (MapAt.Behind c i t)) (come : IsMapping (of.cur h) m (record way { at = MapAt.Behind c i t })) (left : m.done < m.count) where
        abbrev setting : Option ℕ → WriteState
        setting o = record m { at = at_way way (MapAt.Setting c i o) }

        behind_event : (a : ℕ) → (of.grown h).taken ≡ Some a → (files : Files) → FitsHeld files (of.cur h) (of.claims h) → (new : Claims)
            → IsClaimedNow (of.claims h) m.number (Some (grows (growth_of (setting (Some a)) (of.op h)))) new → FitsThen files (of.cur h) (of.claims h) m.number (zeroed (of.cur h) a) new
        behind_event a taken files fits new claimed =
            let held = of.held_in h files fits in
            let same : growth_of (setting (Some a)) (of.op h) ≡ of.grown h = ap (λ (o : Option ℕ). record (of.grown h) { taken = o }) (sym taken) in
            then_alike files (of.cur h) (zeroed (of.cur h) a) (of.claims h) new m.number
            (same_claims (of.claims h) new m.number (Some (grows (of.grown h))) held.holds (subst (λ (g : Growth). IsClaimedNow (of.claims h) m.number (Some (grows g)) new) same claimed))
            (taken_zeroed files (of.cur h) (of.claims h) m.number a (of.grown h) held taken)

        ends_behind : Ends h way t (MapAt.Behind c i) at (at_behind way.branch c i) n w ts (setting None) (λ a. setting (Some a))
        ends_behind = record {
          none = λ free log slots. on.goes_still h n w ts (at_way way (MapAt.Behind c i t)) (at_way way (MapAt.Setting c i None)) at (sym (sym (ap taken_by at) ∙ free)) log (slots_any w.buffers p c.block 0 c.block (Some i) slots) (omega arith)
              (left, on.maps_at (of.cur h) (of.cur h) m m.inode way (MapAt.Behind c i t) (MapAt.Setting c i None) come (come.at.0, tt)) (let one = some_alloc t.at in omega (arith, one));
          event = behind_event;
          some = λ a taken log slots.
              let lies = of.taken_lies h a taken in
              let some = on.some_block h a lies in
              let y : Image = zeroed (of.cur h) a in
              let same_named = on.set_same h a zero_block (λ e names. of.apart_from h a e taken names) in
              record {
                same = refl;
                slots_now = slots_any w.buffers p c.block 0 c.block (Some i) slots;
                logged = on.log_one h (at_way way (MapAt.Behind c i t)) at a some y (setting (Some a)) 0 0
                    (let more = beside_grow (of.cur h) y s.volume.log (noted s.volume.log p a) (counts_on s.volume.log p a) m m.inode (of.ways_keep h y same_named) in omega (arith, more))
                    (let one = (on.adds h a some).one in omega (arith, one)) w.log log;
                done = (of.work h).done;
                come = (
                  left,
                  on.maps_at (of.cur h) y m m.inode way (MapAt.Behind c i t) (MapAt.Setting c i (Some a)) come (
                    (on_way_still (of.cur h) y m.inode way.branch
                        (subst (λ (e : Branch). SameInside (of.cur h) y e.depth (slice_index m.inode.addrs e.index)) (sym come.branch) (of.ways_same h y same_named (next_block m)))
                        m.extent (MapAt.Setting c i None) (λ e no. absurd (cc no)) (come.at.0, tt)).0,
                    get_or-set_same (of.cur h) a zero_block [] lies.1,
                  ),
                );
                less = let was = on.left_of h (at_way way (MapAt.Behind c i t)) at in let one = some_alloc t.at in omega (arith, was, one);
                passes = λ new claimed files fits. (behind_event a taken files fits new claimed).fits;
              };
        }

        pub does_behind : TakesOne disk s.volume p way t after_behind (behind_at c i) (λ answer. m.inode) maps.answer maps.now maps.inode w → DoesSo h n w ts q
        does_behind takes = does_take h way t (MapAt.Behind c i) at (at_behind way.branch c i) n w ts q takes.answer takes.now (setting None) (λ a. setting (Some a)) ends_behind
            (maps.gives ∙ ap one_more takes.gives ∙ same_answer takes.answer)
            (maps.next ∙ ap (write_mapped m maps.now maps.inode) takes.gives ∙ ap (λ (o : MapState). write_mapped m o maps.inode (after_behind takes.answer)) takes.next
            ∙ ap (λ (d : Dinode). write_mapped m (record way { at = behind_at c i takes.answer takes.now }) d (after_behind takes.answer)) takes.named ∙ same_next takes.answer takes.now)
            takes.allocs
          where
            same_answer : (a : Progress (Option ℕ)) → one_more (after_behind a) ≡ one_more a
            same_answer Progress.Moved = refl
            same_answer (Progress.Sleeping why) = refl
            same_answer (Progress.Over o) = refl
            same_answer (Progress.Fault fault) = refl

            same_next : (a : Progress (Option ℕ)) (now : AllocState) → write_mapped m (record way { at = behind_at c i a now }) m.inode (after_behind a)
                ≡ next_taken h way t (MapAt.Behind c i) at (at_behind way.branch c i) n w ts (setting None) (λ a. setting (Some a)) a now
            same_next Progress.Moved now = refl
            same_next (Progress.Sleeping why) now = refl
            same_next (Progress.Over None) now = refl
            same_next (Progress.Over (Some a)) now = refl
            same_next (Progress.Fault fault) now = refl
